use Rattle.std.proofs.Common.{ap, sym, subst, length}
use Rattle.wh_refute.specs.Refuting.{AreGoodBefore, EndsEmpty}
use Rattle.wh_refute.specs.RefuteFaults.{IsFirstRefuteFault}
use Rattle.wh_refute.proofs.Members.{true_is_not_false}
use Rattle.wh_refute.proofs.check.check_refutation.Goals as goal

pub returns-in-Err-clause-fault : goal.returns-in-Err-clause-fault
returns-in-Err-clause-fault c =
    subst (λ es. IsFirstRefuteFault c.args.formula.now.variables c.args.formula.now.clauses es c.in-Err.fault) c.as_slice-entries.ensures
    c.in-Err.ensures

pub returns-then-not-ends_empty-clause-fault : goal.returns-then-not-ends_empty-clause-fault
returns-then-not-ends_empty-clause-fault c = (
  subst (λ es. AreGoodBefore c.args.formula.now.variables c.args.formula.now.clauses es (length es)) c.as_slice-entries.ensures
      c.in_default.ensures,
  λ h.
      let both = c.ends_empty.ensures in
      true_is_not_false _ (both.1 (subst EndsEmpty (sym c.as_slice-entries.ensures) h)) c.if-not-ends_empty.true,
)

pub returns-clause-good : goal.returns-clause-good
returns-clause-good c = (
  record {
    good = subst (λ es. AreGoodBefore c.args.formula.now.variables c.args.formula.now.clauses es (length es)) c.as_slice-entries.ensures
        c.in_default.ensures;
    empty = let both = c.ends_empty.ensures in subst EndsEmpty c.as_slice-entries.ensures (both.0 c.if-not-ends_empty.false);
  },
  ap length c.as_slice-entries.ensures,
)
