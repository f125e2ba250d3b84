use Rattle.std.proofs.Common.{◌≡◌, ◌∙◌, ◌+◌, [], ap, sym, subst, length, get_or, take, arith}
use Rattle.wh_refute.specs.Refuting.{IsGoodEntry, IsRefutation}
use Rattle.wh_sat_listed.proofs.Entries.{SoFar, one_more, with_last}
use Rattle.wh_sat_listed.proofs.Passing.{looked}
use Rattle.wh_sat_listed.proofs.listing.refutation_of.Goals as goal

pub loop-number-preserved : goal.loop-number-preserved
loop-number-preserved c =
    let n = c.args.formula.now.variables in
    let all = c.args.formula.now.clauses in
    let k = c.loop-number.number in
    let x = c.in_ok-entry_for.field-0 in
    let e = c.in_ok-entry_for.ensures in
    let slice = c.as_slice-clauses.ensures in
    let is = looked c.as_slice-clauses.result.now k c.index-clauses-number.result c.as_slice.result.now c.loop-number-test.true
    c.index-clauses-number.is c.as_slice.ensures in
    let clause : x.clause ≡ get_or all k [] = e.clause ∙ is ∙ ap (λ cs. get_or cs k []) slice in
    let good = subst (λ cs. IsGoodEntry n (take k cs) x) slice e.good in
    let more = one_more n (take c.args.given all) all k c.loop-number.list x (omega (arith, c.loop-number-test.true, ap (λ cs. length cs) slice)) good clause e.count c.loop-number.invariant.0 in (
      subst (SoFar n (take c.args.given all) all (k + 1)) (sym c.in_ok-push.ensures.ok) more,
      e.tells,
      omega (arith, e.round, c.loop-number.invariant.2),
    )

pub returns-clause-refutes : goal.returns-clause-refutes
returns-clause-refutes c =
    let n = c.args.formula.now.variables in
    let all = c.args.formula.now.clauses in
    let x = c.in_ok-entry_for-2.field-0 in
    let e = c.in_ok-entry_for-2.ensures in
    let slice = c.as_slice-clauses.ensures in
    let good = subst (λ cs. IsGoodEntry n cs x) slice e.good in
    subst (IsRefutation n (take c.args.given all)) (sym c.in_ok-push-2.ensures.ok)
    (with_last n (take c.args.given all) all c.loop-number.number c.loop-number.list x (omega (arith, c.loop-number-test.false, ap (λ cs. length cs) slice))
    good e.clause c.loop-number.invariant.0)
