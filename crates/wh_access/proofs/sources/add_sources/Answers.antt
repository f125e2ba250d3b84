use Rattle.std.proofs.Common.{◌≡◌, ◌+◌, List, Bool, true, false, length, set, get_or, Vec, Global, arith, sym, subst, ◌∙◌}
use Rattle.std.proofs.lemmas.List.{get_or_default}
use Rattle.wh_access.specs.declared.sources.Source.{Source}
use Rattle.wh_access.specs.Tables.{LeadsIn}
use Rattle.wh_access.proofs.SourceLemmas.{Adding, add_one, skip_one, begun_next, adding_first}
use Rattle.wh_access.proofs.sources.add_sources.Goals as goal
use Rattle.wh_access.proofs.sources.add_sources.Goals.{then-not-index+then-leads+in_ok-push, else-not-index, else-not-index-via-then-not-index+else-leads, else-not-index-via-else-not-index}

pub loop-sort-init : goal.loop-sort-init
loop-sort-init c =
    adding_first (LeadsIn c.args.demands.now) c.args.sorts c.args.goal c.args.at c.args.found.now.items c.args.seen.now.items c.index.result.now c.requires.begun c.requires.marks c.requires.at c.index.ensures

pub loop-sort-preserved : goal.loop-sort-preserved
loop-sort-preserved c =
    let P = LeadsIn c.args.demands.now in
    let n = c.args.sorts in
    let at = c.args.at in
    let here = c.index.result.now.sort in
    let least = length c.args.found.now.items in
    let sort = c.loop-sort.sort in
    let xs = c.loop-sort.found.items in
    let seen = c.loop-sort.seen.items in
    let so_far = c.loop-sort.invariant in
    let read : get_or seen sort false ≡ c.index-in-loop-sort.result.now =
    get_or_default seen sort false c.index-in-loop-sort.result.now (omega (arith, so_far.marks.each, c.loop-sort-test.true)) ∙ sym c.index-in-loop-sort.ensures in
    let next : List Source → List Bool → Type 0 = Adding P n c.args.goal at here least (sort + 1) in
    elim c.if-not-index.branch [
      | then-not-index+then-leads+in_ok-push w ↦
          subst (λ (v : Vec Bool Global). next c.if-not-index.found.items v.items) (sym w.seen-is)
          (subst (λ (v : Vec Source Global). next v.items (set seen sort true)) (sym w.found-is)
          (subst (λ (ys : List Source). next ys (set seen sort true)) (sym w.in_ok-push.ensures.items)
          (add_one P n c.args.goal at here least sort xs seen so_far c.loop-sort-test.true (read ∙ w.if-not-index.true) (w.leads.ensures.0 w.if-leads.true))))
      | else-not-index w ↦
          subst (λ (v : Vec Bool Global). next c.if-not-index.found.items v.items) (sym w.seen-is)
          (subst (λ (v : Vec Source Global). next v.items seen) (sym w.found-is)
          (skip_one P n c.args.goal at here least sort xs seen so_far
          (elim w.else-not-index.branch [
            | else-not-index-via-then-not-index+else-leads v ↦ λ leads. absurd (cc (v.leads.ensures.1 leads, v.if-leads.false))
            | else-not-index-via-else-not-index v ↦ λ leads. (so_far.marks.marked sort c.loop-sort-test.true).0 (read ∙ v.if-not-index.false)
          ])))
    ]

pub returns-clause-begun : goal.returns-clause-begun
returns-clause-begun c =
    begun_next (LeadsIn c.args.demands.now) c.args.sorts c.args.goal c.loop-sort.found.items c.args.at c.loop-sort.invariant.begun
    (λ s low to. c.loop-sort.invariant.all s (omega (arith, low, c.loop-sort-test.false)) (subst (LeadsIn c.args.demands.now s) c.loop-sort.invariant.entry to))
