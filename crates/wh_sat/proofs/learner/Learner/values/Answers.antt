use Rattle.std.proofs.Common.{arith, sym, ap, ◌∙◌, inl, inr, false, ◌≡◌, [], ◌∷◌, ◌++◌, ◌<◌, ◌+◌, length, get_or}
use Rattle.std.specs.Option.{unwrap_or}
use Rattle.std.proofs.lemmas.Bool.{cases_eq}
use Rattle.std.proofs.lemmas.List.{length_push, get_or_push, get_or_append_left}
use Rattle.wh_sat_trail.specs.Assignment.{value_in}
use Rattle.wh_sat_trail.specs.State.{assigned}
use Rattle.wh_sat.specs.State.{variables_of}
use Rattle.wh_sat_trail.specs.declared.formula.Formula.{Formula}
use Rattle.wh_sat.proofs.learner.Learner.values.Goals as goal

pub loop-variable-preserved : goal.loop-variable-preserved
loop-variable-preserved c =
    let i = c.loop-variable.variable in
    let xs = c.loop-variable.values.items in
    let t = assigned c.args.self.now.trail in
    let e : c.push.new.self.items ≡ xs ++ c.unwrap_or.result ∷ [] = c.in_ok-push.ensures.items in
    let r : c.unwrap_or.result ≡ unwrap_or (value_in t i) false = c.unwrap_or.ensures ∙ ap (λ o. unwrap_or o false) c.value.ensures in
    let long = c.loop-variable.invariant.long in
    record {
      long = ap length e ∙ length_push xs c.unwrap_or.result ∙ ap (λ n. n + 1) long;
      same = λ v w. ap (λ ys. get_or ys v false) e ∙ elim (cases_eq v i) [
        | inl same ↦ get_or_push xs c.unwrap_or.result false v (long ∙ sym same) ∙ r ∙ ap (λ j. unwrap_or (value_in t j) false) (sym same)
        | inr other ↦ let u : v < i = omega (arith, other, w) in get_or_append_left xs (c.unwrap_or.result ∷ []) false v (omega (arith, u, long)) ∙ c.loop-variable.invariant.same v u
      ];
    }

pub returns : goal.returns
returns c =
    let e : c.formula.result.now.variables ≡ variables_of c.args.self.now = ap (λ (f : Formula). f.variables) c.formula.ensures in (
      omega (arith, e, c.loop-variable.invariant.long, c.loop-variable-test.false, c.loop-variable.auto.variable-end),
      λ v w. c.loop-variable.invariant.same v (omega (arith, w, e, c.loop-variable-test.false)),
    )
