-- What is known of readings and of rules where sides are evaluated.
use Rattle.std.proofs.Common.{ℕ, ◌≡◌, List, [], map, Some, slice_get, option_map, ap, sym, ◌∙◌, subst, arith}
use Rattle.std.proofs.lemmas.Option.{get_or_from_slice_get, slice_get-map}
use Rattle.wh_types.specs.Ty.{Ty}
use Rattle.wh_terms.specs.Tree.{Tm, bound}
use Rattle.wh_terms.specs.Typing.{Symbols}
use Rattle.wh_terms.specs.Rules.{RewriteRule}
use Rattle.wh_terms.specs.Erase.{rewrite_rule, rewrite_rules}
use Rattle.wh_terms.specs.declared.rule.Rule.{Rule}
use Rattle.wh_system.specs.Systems.{SystemData}
use Rattle.wh_system.specs.WellMade.{IsWellMadeSystem}
use Rattle.wh_hopoly.specs.Evaluation.{Interpretation, NormalInterpretations}
use Rattle.wh_hopoly.specs.Erase.{interpretations}
use Rattle.wh_hopoly.specs.declared.expression.Symbol.{Symbol}
use Rattle.wh_polycheck.specs.Sides.{Interprets}
use Rattle.wh_polycheck.specs.Readings.{AreProper}
use Rattle.wh_polycheck.proofs.MarkedSides.{contains_there}
use Rattle.wh_intern.specs.Trees.{tree_at}
use Rattle.wh_intern_pairs.specs.SidesInScope.{AreInScope, IsTypedIn}

-- symbols that are read in order, as normal polynomials, and no marks: one list behind three names
pub proper : (d : SystemData) (items one other : List Symbol) → one ≡ items → other ≡ items
    → ((S : Symbols) (symbols : List Interpretation) → map (λ (s : Interpretation). s.kind) symbols ≡ S.funs → Interprets S symbols)
    → map (λ (s : Interpretation). s.kind) (interpretations items) ≡ d.symbols.funs → NormalInterpretations (interpretations one)
    → AreProper d.symbols d.rules (record { symbols = interpretations other; marks = [] })
proper d items one other e f law kinds normal = record {
  interpreted =
      law d.symbols (interpretations other) (ap (λ (xs : List Symbol). map (λ (s : Interpretation). s.kind) (interpretations xs)) f ∙ kinds);
  normal = record {
    symbols = subst (λ (xs : List Symbol). NormalInterpretations (interpretations xs)) (e ∙ sym f) normal;
    marks = λ m h. let (j, l, same) = h in absurd (omega (arith, l));
  };
}

-- the left side of a rule, which has a number
pub left_typed : (d : SystemData) → IsWellMadeSystem d → (xs : List Rule) (i : ℕ) (x : Rule) → rewrite_rules xs ≡ d.rules → slice_get xs i ≡ Some x
    → (ts : List Tm) (n : ℕ) → slice_get ts n ≡ Some (rewrite_rule x).left → (Γ : List Ty) → AreInScope (rewrite_rule x).metas Γ
    → IsTypedIn d.symbols Γ (tree_at ts n)
left_typed d made xs i x are is ts n at Γ in_scope =
    let r = rewrite_rule x in
    let there : slice_get d.rules i ≡ Some r =
    ap (λ (rs : List RewriteRule). slice_get rs i) (sym are) ∙ slice_get-map rewrite_rule xs i ∙ ap (option_map rewrite_rule) is in
    let w = made.rules.each r (contains_there d.rules i r there) in
    subst (IsTypedIn d.symbols Γ) (sym (get_or_from_slice_get ts n r.left (bound 0) at)) (record {
      metas = r.metas;
      in_scope = in_scope;
      kind = w.typed.0;
      typed = w.typed.1;
      closed = w.left_closed;
    })
