use Rattle.std.proofs.Common.{true, false, ◌∙◌}
use Rattle.std.proofs.lemmas.List.{length-set}
use Rattle.wh_refute.proofs.Members.{true_is_not_false}
use Rattle.wh_refute.proofs.Marking.{marks_set, marks_other}
use Rattle.wh_refute.proofs.truth.Truth.assume.Goals as goal

pub returns-then-literal-clause-tells : goal.returns-then-literal-clause-tells
returns-then-literal-clause-tells c = λ n t h. record {
  wide = length-set c.args.self.now.told.items c.args.literal.variable c.args.self.now.round ∙ h.wide;
  as_wide = h.as_wide;
  told = marks_set c.args.self.now.told.items c.args.self.now.round t c.args.literal true c.if-literal.true c.requires.told h.told;
  denied = marks_other c.args.self.now.denied.items c.args.self.now.round t c.args.literal false
      (λ e. true_is_not_false _ c.if-literal.true e) h.denied;
}

pub returns-else-literal-clause-tells : goal.returns-else-literal-clause-tells
returns-else-literal-clause-tells c = λ n t h. record {
  wide = h.wide;
  as_wide = length-set c.args.self.now.denied.items c.args.literal.variable c.args.self.now.round ∙ h.as_wide;
  told = marks_other c.args.self.now.told.items c.args.self.now.round t c.args.literal true
      (λ e. true_is_not_false _ e c.if-literal.false) h.told;
  denied = marks_set c.args.self.now.denied.items c.args.self.now.round t c.args.literal false c.if-literal.false c.requires.denied h.denied;
}
