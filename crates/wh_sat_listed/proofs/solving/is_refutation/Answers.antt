use Rattle.std.proofs.Common.{List, Contains, length, ap, sym, subst, arith}
use Rattle.wh_sat_trail.specs.declared.entry.Entry.{Entry}
use Rattle.wh_sat_listed.proofs.solving.is_refutation.Goals as goal

pub check_refutation-requires : goal.check_refutation-requires
check_refutation-requires c = record {
  within = c.requires.within;
  few = omega (arith, ap length c.as_slice.ensures, c.if-not-is_short.ensures.count, c.requires.few);
  hints = λ e h. omega (arith, c.if-not-is_short.ensures.hints e (subst (λ (xs : List Entry). Contains xs e) (sym c.as_slice.ensures) h));
}

pub returns-in-Ok : goal.returns-in-Ok
returns-in-Ok c = record {
  refutes = c.in-Ok.ensures.good.0;
  count = omega (arith, ap length c.as_slice.ensures, c.if-not-is_short.ensures.count);
  hints = λ e h. c.if-not-is_short.ensures.hints e (subst (λ (xs : List Entry). Contains xs e) (sym c.as_slice.ensures) h);
}
