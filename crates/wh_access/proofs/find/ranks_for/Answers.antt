use Rattle.std.proofs.Common.{◌≡◌, ◌<◌, ◌+◌, ◌-◌, List, length, sym, subst, arith, ◌∙◌}
use Rattle.wh_access.specs.declared.sources.Source.{Source}
use Rattle.wh_access.specs.Found.{MeetTold}
use Rattle.wh_access.specs.Sources.{IsWay, LeadsBy, sort_at}
use Rattle.wh_access.specs.Tables.{LeadsIn, LeadsStrictlyIn}
use Rattle.wh_access.proofs.SourceLemmas.{few_sources}
use Rattle.wh_access.proofs.RankLemmas.{RanksSoFar, ranks_push, ranks_meet, cycle_found}
use Rattle.wh_access.proofs.find.ranks_for.Goals as goal

pub returns-in-Some : goal.returns-in-Some
returns-in-Some c =
    let xs = c.in_ok-found.found.items in
    let start = c.in-Some.start in
    let way = c.in_ok-way.way in
    cycle_found c.args.demands.now c.args.sorts c.loop-sort.sort start xs way c.in_ok-found.ensures c.loop-sort-test.true
    (subst (λ (ys : List Source). start < length ys) c.deref.ensures.value c.in-Some.ensures.0)
    (subst (λ (ys : List Source). IsWay (LeadsBy ys) (sort_at ys start) (sort_at ys 0) way) c.deref-in-Some.ensures.value c.in_ok-way.ensures)
    (subst (λ (ys : List Source). LeadsStrictlyIn c.args.demands.now c.loop-sort.sort (sort_at ys start)) c.deref.ensures.value c.in-Some.ensures.1)

pub overflow_cast-len : goal.overflow_cast-len
overflow_cast-len c =
    let most = few_sources (LeadsIn c.args.demands.now) c.args.sorts c.loop-sort.sort c.in_ok-found.found.items _ c.in_ok-found.ensures in
    omega (arith, most)

pub loop-sort-preserved : goal.loop-sort-preserved
loop-sort-preserved c =
    let P = LeadsIn c.args.demands.now in
    let Q = LeadsStrictlyIn c.args.demands.now in
    let xs = c.in_ok-found.found.items in
    let some = c.in_ok-found.ensures.nonempty in
    subst (RanksSoFar P Q c.args.sorts (c.loop-sort.sort + 1)) (sym c.in_ok-push.ensures.items)
    (ranks_push P Q c.args.sorts c.loop-sort.sort c.loop-sort.numbers.items (c.len.result - 1) c.loop-sort.invariant (record {
      found = xs;
      whole = c.in_ok-found.ensures;
      count = omega (arith, some);
      apart = λ k near strict.
          c.in_default.ensures k (subst (λ (ys : List Source). k < length ys) (sym c.deref.ensures.value) near) (subst (λ (ys : List Source). Q c.loop-sort.sort (sort_at ys k)) (sym c.deref.ensures.value) strict);
    }))

pub returns : goal.returns
returns c =
    let all : c.loop-sort.sort ≡ c.args.sorts = omega arith in
    subst (MeetTold c.args.demands.now c.args.sorts) (sym (c.in_ok-new.ensures ∙ c.deref-2.ensures.value))
    (ranks_meet c.args.demands.now c.args.sorts c.loop-sort.numbers.items c.requires
    (subst (λ m. RanksSoFar (LeadsIn c.args.demands.now) (LeadsStrictlyIn c.args.demands.now) c.args.sorts m c.loop-sort.numbers.items) all c.loop-sort.invariant))
