use Rattle.std.proofs.Common.{◌≡◌, ◌+◌, List, length, take, ◌-◌, drop, subst, sym}
use Rattle.wh_terms.specs.Erase.{tms}
use Rattle.wh_terms.specs.Pattern.{Misses}
use Rattle.wh_terms.specs.declared.term.Term.{Term}
use Rattle.wh_match.proofs.PatternLemmas.{rest_of, distinct_next, distinct_at}
use Rattle.wh_match.proofs.pattern.are_distinct.Goals as goal
use Rattle.wh_match.proofs.pattern.are_distinct.Goals.{in-Bound+else-not-misses, in_default}

pub returns-then-not-misses : goal.returns-then-not-misses
returns-then-not-misses c =
    let xs = c.args.items.now in (
      λ no_way. cc,
      λ all.
          let here = distinct_at xs c.loop-i.i c.index-items-i.result c.in-Bound.number c.loop-i-test.true c.index-items-i.is c.in-Bound.is all in
          c.if-not-misses.ensures.1 (subst (λ (us : List Term). Misses c.in-Bound.number (tms us)) (sym (rest_of xs (c.loop-i.i + 1))) here),
    )

pub loop-i-preserved : goal.loop-i-preserved
loop-i-preserved c =
    let xs = c.args.items.now in
    λ all. c.loop-i.invariant (distinct_next xs c.loop-i.i c.index-items-i.result c.loop-i-test.true c.index-items-i.is
    (elim c.match-item.branch [
      | in-Bound+else-not-misses w ↦ λ n is.
          let same : w.in-Bound.number ≡ n = cc (w.in-Bound.is, is) in
          subst (λ (us : List Term). Misses n (tms us)) (rest_of xs (c.loop-i.i + 1)) (subst (λ m. Misses m (tms (take (length xs - (c.loop-i.i + 1)) (drop (c.loop-i.i + 1) xs)))) same (w.misses.ensures.0 w.if-not-misses.false))
      | in_default w ↦ λ n is. absurd (w.in_default.not-Bound n is)
    ])
    all)
