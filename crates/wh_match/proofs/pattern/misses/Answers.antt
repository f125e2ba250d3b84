use Rattle.std.proofs.Common.{ap, ◌∙◌}
use Rattle.wh_terms.specs.declared.term.Term.{Bound}
use Rattle.wh_match.proofs.PatternLemmas.{misses_next, misses_at}
use Rattle.wh_match.proofs.pattern.misses.Goals as goal
use Rattle.wh_match.proofs.pattern.misses.Goals.{in-Bound+else-other-number, in_default}

pub returns-then-other-number : goal.returns-then-other-number
returns-then-other-number c = (
  λ no_way. cc,
  λ all.
      absurd (misses_at c.args.number c.args.items.now c.loop-item.item-index c.item-item.result c.loop-item-test.true c.item-item.is all
      (c.in-Bound.is ∙ ap Bound c.if-other-number.true)),
)

pub loop-item-preserved : goal.loop-item-preserved
loop-item-preserved c =
    misses_next c.args.number c.args.items.now c.loop-item.item-index c.item-item.result c.loop-item-test.true c.item-item.is
    (elim c.match-item.branch [
      | in-Bound+else-other-number w ↦ λ is. w.if-other-number.false (cc (w.in-Bound.is, is))
      | in_default w ↦ λ is. w.in_default.not-Bound c.args.number is
    ])
    c.loop-item.invariant
