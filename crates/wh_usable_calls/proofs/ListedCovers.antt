-- Rules with a number of the list are covered, also over the interpretations with those of the marked symbols behind
-- them; and what a marked side is worth is what its polynomial means.
use Rattle.std.proofs.Common.{◌≡◌, ℕ, ◌<◌, List, [], ◌∷◌, ◌++◌, map, length, get_or, Contains, refl, ap, ◌∙◌, sym, subst}
use Rattle.std.proofs.lemmas.Option.{none-some, slice_get_within, slice_get-get_or}
use Rattle.wh_types.specs.Ty.{Ty, sort}
use Rattle.wh_terms.specs.Tree.{Tms, argument_count}
use Rattle.wh_terms.specs.Typing.{Symbols, Declared}
use Rattle.wh_terms.specs.Rules.{RewriteRule, AreWellMade}
use Rattle.wh_pairs.proofs.ByPlace.{place_of, contains_at}
use Rattle.wh_pairs.proofs.FewLemmas.{in_one, from_one}
use Rattle.wh_hopoly.specs.Evaluation.{symbol, Interpretation, type_of, evaluate, NormalInterpretations}
use Rattle.wh_hopoly.specs.Moves.{Transfer}
use Rattle.wh_hopoly.proofs.ValueLaws.{interpretation_is}
use Rattle.wh_reduction_pairs.specs.TaskData.{TaskData}
use Rattle.wh_reduction_pairs.specs.ReductionPair.{Evidence}
use Rattle.wh_polycheck.specs.Sides.{arrows, types_of_metas, side_applied, call_polynomial, Interprets, RuleIsCovered}
use Rattle.wh_polycheck.specs.Marks.{marked_interpretation, with_marks}
use Rattle.wh_polycheck.specs.Readings.{ReadingsData}
use Rattle.wh_polycheck.specs.Covering.{IsCovering}
use Rattle.wh_polycheck.proofs.MoreInterpretations.{rules_covered_more}
use Rattle.wh_polycheck.proofs.SideTypes.{side_applied_typed, HasSideType}
use Rattle.wh_poly_meaning.specs.Functionals.{Sem}
use Rattle.wh_poly_meaning.specs.Valuations.{Valuation}
use Rattle.wh_poly_meaning.specs.Meaning.{den}
use Rattle.wh_poly_meaning.specs.TermValues.{Meanings, fed, of_interpretations}
use Rattle.wh_poly_meaning.specs.Calls.{IsMarkedSide}
use Rattle.wh_poly_meaning.proofs.Mean.{den_value}
use Rattle.wh_poly_meaning.proofs.SideMeans.{symbol_means, mean_applied}
use Rattle.wh_poly_meaning.proofs.Steps.{reading_at}
use Rattle.wh_usable_calls.proofs.StepBounds.{IsListedRule}

-- a list of one well-made rule is well made
one_made : (S : Symbols) (rules : List RewriteRule) (r : RewriteRule) → AreWellMade S rules → Contains rules r → AreWellMade S (r ∷ [])
one_made S rules r made inside = record {
  each = λ q there. made.each q (subst (Contains rules) (in_one r q there) inside);
  even = λ q p first second same.
      ap (λ (r : RewriteRule). argument_count r.left) (sym (in_one r q first) ∙ in_one r p second);
}

module _ (T : TaskData) (R : ReadingsData) (E : Evidence (List Transfer)) (is : IsCovering T R E) where
  -- a line covers each rule that is to be covered
  line_covers : (r : RewriteRule) → IsListedRule T.rules T.covered r → RuleIsCovered R.symbols r
  line_covers r (n, there, at) =
      let (i, here) = place_of T.covered n there in
      let within = subst (λ k. i < k) (sym is.lines.rule_count) (slice_get_within T.covered i n here) in
      (get_or E.of_rules i [], is.lines.rules i n r (get_or E.of_rules i []) here at (slice_get-get_or E.of_rules i [] within))

  pub listed_covered : AreWellMade T.symbols T.rules → Interprets T.symbols R.symbols → (r : RewriteRule)
      → IsListedRule T.rules T.covered r → RuleIsCovered (with_marks T.symbols T.rules R.symbols R.marks) r
  listed_covered made interprets r (n, there, at) =
      let inside = contains_at T.rules n r at in
      rules_covered_more R.symbols (map (marked_interpretation T.symbols T.rules) R.marks) T.symbols (r ∷ [])
      (one_made T.symbols T.rules r made inside) interprets
      (λ q here. subst (RuleIsCovered R.symbols) (in_one r q here) (line_covers r (n, there, at))) r (from_one r r refl)

-- a marked side is worth what its polynomial means, where variables mean what meta-variables do
module _ (S : Symbols) (symbols : List Interpretation) (interprets : Interprets S symbols) (normal : NormalInterpretations symbols) where
  marked_type : (M : List Declared) (k : ℕ) (cs : List Ty) (ts : Tms) → IsMarkedSide S symbols M k cs 0 ts
      → HasSideType S M symbols interprets [] (side_applied (length (types_of_metas M)) (symbol k) ts) (sort 0)
  marked_type M k cs ts h =
      let (i, e, j) = h.interpreted in
      side_applied_typed S M symbols interprets (length (types_of_metas M)) refl (symbol k) (sort 0)
      ((i, e), ap (λ (i : Interpretation). i.kind) (interpretation_is symbols k i e) ∙ j) h.typed h.closed

  pub marked_worth : (m : Meanings) → ((f : ℕ) (A : Ty) → m.of_symbols f A ≡ of_interpretations symbols f A) → (M : List Declared)
      (k : ℕ) (cs : List Ty) (ts : Tms) → IsMarkedSide S symbols M k cs 0 ts → (ρ : Valuation)
      → fed S M m [] ρ cs (sort 0) (m.of_symbols k (arrows cs (sort 0))) ts
      ≡ den (types_of_metas M ++ []) m.of_metas (call_polynomial symbols M k ts)
  marked_worth m means M k cs ts h ρ =
      let Γ = types_of_metas M in
      let x = side_applied (length Γ) (symbol k) ts in
      let (typed, e) = marked_type M k cs ts h in
      let (i, j, q) = h.interpreted in
      let c : type_of symbols Γ (symbol k) ≡ arrows cs (sort 0) =
      ap (λ (i : Interpretation). i.kind) (interpretation_is symbols k i j) ∙ q in
      sym (mean_applied S M symbols interprets normal m means (length Γ) refl ρ m.of_metas
      (record { metas = λ z d h. refl; binders = λ i b h. absurd (none-some b h) }) (symbol k) (sort 0) c h.typed h.closed e
      ∙ ap (λ f. fed S M m [] ρ cs (sort 0) f ts)
      (symbol_means S M symbols interprets normal m means k (arrows cs (sort 0)) i j m.of_metas c))
      ∙ ap (subst Sem {x = type_of symbols Γ x} {y = sort 0} e) (sym (den_value symbols normal Γ x m.of_metas typed))
      ∙ reading_at Γ m.of_metas (evaluate symbols Γ x).result (type_of symbols Γ x) (sort 0) e
