use Rattle.std.proofs.Common.{◌≡◌, ◌∙◌, ◌+◌, ap, sym, subst, Some, take, slice_get, arith}
use Rattle.std.proofs.lemmas.Option.{slice_get-get_or}
use Rattle.wh_sat_trail.specs.Propagation.{Within}
use Rattle.wh_refute.specs.Refuting.{IsGoodEntry}
use Rattle.wh_refute.specs.RefuteFaults.{IsFirstRefuteFault}
use Rattle.wh_refute.specs.Told.{IsEntryFault, with_entries}
use Rattle.wh_refute.proofs.Following.{within_entries, first_fault, good_push}
use Rattle.wh_refute.proofs.check.check_entries.Goals as goal

pub follow_entry-requires-clause-within : goal.follow_entry-requires-clause-within
follow_entry-requires-clause-within c =
    subst (λ g. Within c.args.formula.now.variables (with_entries g (take c.loop-number.number c.args.entries.now))) (sym c.as_slice.ensures)
    (within_entries c.args.formula.now.variables c.args.formula.now.clauses c.args.entries.now c.loop-number.number c.requires.within
    c.loop-number.invariant.0)

pub returns-in-Err : goal.returns-in-Err
returns-in-Err c =
    let x = c.index-entries-number.result in
    let found : slice_get c.args.entries.now c.loop-number.number ≡ Some x =
    slice_get-get_or c.args.entries.now c.loop-number.number x c.loop-number-test.true ∙ ap Some (sym c.index-entries-number.is) in
    subst (IsFirstRefuteFault c.args.formula.now.variables c.args.formula.now.clauses c.args.entries.now) (sym c.fault_at.ensures)
    (first_fault c.args.formula.now.variables c.args.formula.now.clauses c.args.entries.now c.loop-number.number x c.in-Err.fault found
    c.loop-number.invariant.0
    (subst (λ g. IsEntryFault c.args.formula.now.variables (with_entries g (take c.loop-number.number c.args.entries.now)) x c.in-Err.fault)
    c.as_slice.ensures c.in-Err.ensures.found))

pub loop-number-preserved : goal.loop-number-preserved
loop-number-preserved c =
    let x = c.index-entries-number.result in
    let found : slice_get c.args.entries.now c.loop-number.number ≡ Some x =
    slice_get-get_or c.args.entries.now c.loop-number.number x c.loop-number-test.true ∙ ap Some (sym c.index-entries-number.is) in (
      good_push c.args.formula.now.variables c.args.formula.now.clauses c.args.entries.now c.loop-number.number x found
          (subst (λ g. IsGoodEntry c.args.formula.now.variables (with_entries g (take c.loop-number.number c.args.entries.now)) x)
          c.as_slice.ensures c.in_default.ensures.found) c.loop-number.invariant.0,
      (let (t, h) = c.follow_entry.ensures.tells in c.clear.ensures.tells c.args.formula.now.variables t h),
      c.clear.ensures.round ∙ ap (λ k. k + 1) (c.follow_entry.ensures.round ∙ c.loop-number.invariant.2),
    )

pub returns : goal.returns
returns c = λ j e w f. c.loop-number.invariant.0 j e (omega (arith, w, c.loop-number-test.false)) f
