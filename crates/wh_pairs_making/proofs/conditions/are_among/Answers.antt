use Rattle.wh_pairs.proofs.ConditionLemmas.{is_among, not_among, among_next, among_fails}
use Rattle.wh_pairs_making.proofs.conditions.are_among.Goals as goal

pub returns-then-not-contains : goal.returns-then-not-contains
returns-then-not-contains c =
    let i = c.loop-condition.condition-index in (
      λ no_way. cc,
      λ all. absurd (among_fails c.args.few.now c.args.many.now i (record { meta = 0; place = 0 }) c.loop-condition-test.true
          (not_among c.args.many.now _ c.if-not-contains.ensures.cases) all),
    )

pub loop-condition-preserved : goal.loop-condition-preserved
loop-condition-preserved c =
    among_next c.args.few.now c.args.many.now c.loop-condition.condition-index (record { meta = 0; place = 0 }) c.loop-condition-test.true c.loop-condition.invariant
    (is_among c.args.many.now _ c.if-not-contains.ensures.cases)
