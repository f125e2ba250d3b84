-- What a side comes to: the result of an evaluation is one of its values, so it has few monomials where no value exceeds a limit.
use Rattle.std.proofs.Common.{◌≡◌, ◌<◌, ◌≤◌, ◌^◌, inl, inr, ℕ, List, [], ◌∷◌, ◌++◌, length, Bool, Contains, refl, sym, subst, arith}
use Rattle.std.proofs.lemmas.List.Elements.{Contains-append_right}
use Rattle.wh_types.specs.Ty.{Ty, arguments}
use Rattle.wh_terms.specs.Typing.{Symbols}
use Rattle.wh_terms.specs.Rules.{RewriteRule}
use Rattle.wh_pairs.specs.PairData.{PairData}
use Rattle.wh_system.specs.CanonicalView.{side_of}
use Rattle.wh_poly.specs.Polynomials.{Polynomial, zero_poly, plus, Arguments}
use Rattle.wh_poly.specs.Arithmetic.{sum_poly, constant}
use Rattle.wh_hopoly.specs.Evaluation.{Run, one, next, replace, replace_factors, widened, applied, Expression, var, symbol, lambda, apply, Interpretation, type_of, codomain, apply_one, evaluate, NormalInterpretations, Norm, Values}
use Rattle.wh_poly.specs.Limits.{Exceeds, weight}
use Rattle.wh_poly.specs.Erase.{poly, monomials, sum_of}
use Rattle.wh_poly.specs.declared.polynomial.Poly.{Poly}
use Rattle.wh_poly.specs.declared.polynomial.Monomial.{Monomial}
use Rattle.wh_hopoly.specs.declared.fault.PolyFault.{PolyFault}
use Rattle.wh_hopoly.specs.declared.fault.PolyFault.TheVariants.{Overflow, TooLarge}
use Rattle.wh_poly.specs.declared.excess.Excess.{Excess}
use Rattle.wh_poly.proofs.Lists.{poly_is}
use Rattle.wh_hopoly.proofs.ValueLaws.{normal_value}
use Rattle.wh_polycheck.specs.CoverFaults.{IsNormal}
use Rattle.wh_polycheck.specs.Sides.{types_of_metas, side_expression, marked_expression}
use Rattle.wh_polycheck.specs.Marks.{with_marks, mark_number, head_of_side, arguments_of_side}
use Rattle.wh_polycheck.specs.Readings.{ReadingsData, AreNormal}
use Rattle.wh_polycheck.specs.SideResults.{SideComesTo, IsFaultOfSide, PairSideComesTo, IsFaultOfPairSide}
use Rattle.wh_polycheck.proofs.MoreInterpretations.{normal_with_marks}
use Rattle.wh_polycheck.specs.Covering.{rule_run, pair_run}
use Rattle.wh_poly_covering.specs.CoveringFaults.{RunExceeds}
use Rattle.wh_poly_covering.specs.Lines.{IsSide, IsSomeSide, limit_of}

-- the result of a run is one of its values
abbrev EndsInValue : Run Polynomial → Type 0
EndsInValue r = Contains r.values r.result

next_ends : {A : Type 0} (r : Run A) (f : A → Run Polynomial) → EndsInValue (f r.result) → EndsInValue (next r f)
next_ends r f h = Contains-append_right r.values (f r.result).values (f r.result).result h

one_ends : (p : Polynomial) → EndsInValue (one p)
one_ends p = (0, omega arith, refl)

replace_ends : (head : List Ty → Arguments → Run Polynomial) (v : ℕ) (Γ : List Ty) (sum p : Polynomial) → EndsInValue (replace head v Γ sum p)
replace_ends head v Γ sum zero_poly = one_ends sum
replace_ends head v Γ sum (plus c us p) =
    next_ends (replace_factors head v Γ (constant c) us) (λ m. next (one (sum_poly m sum)) (λ sum. replace head v Γ sum p))
    (next_ends (one (sum_poly (replace_factors head v Γ (constant c) us).result sum)) (λ sum. replace head v Γ sum p)
    (replace_ends head v Γ (sum_poly (replace_factors head v Γ (constant c) us).result sum) p))

pub evaluation_ends : (symbols : List Interpretation) (Γ : List Ty) (e : Expression) → EndsInValue (evaluate symbols Γ e)
evaluation_ends symbols Γ (var x) = (0, omega arith, refl)
evaluation_ends symbols Γ (symbol f) = (0, omega arith, refl)
evaluation_ends symbols Γ (lambda A e) = evaluation_ends symbols (Γ ++ A ∷ []) e
evaluation_ends symbols Γ (apply e d) =
    next_ends (evaluate symbols Γ e) (λ g. next (evaluate symbols Γ d) (λ p. apply_one (type_of symbols Γ d) (codomain (type_of symbols Γ e)) Γ g p))
    (next_ends (evaluate symbols Γ d) (λ p. apply_one (type_of symbols Γ d) (codomain (type_of symbols Γ e)) Γ (evaluate symbols Γ e).result p)
    (replace_ends (λ Δ qs. applied (type_of symbols Γ d) Δ (widened (length Γ) Δ (evaluate symbols Γ d).result) qs) (length Γ)
    (Γ ++ type_of symbols Γ d ∷ arguments (codomain (type_of symbols Γ e))) zero_poly (evaluate symbols Γ e).result))

-- a polynomial has no more monomials than its weight
pub count_within : (xs : List Monomial) → length xs ≤ weight (sum_of xs)
count_within [] = omega arith
count_within (x ∷ xs) = let h = count_within xs in omega (arith, h)

pub few_monomials : (p : Poly) → (Exceeds (poly p) → ⊥) → length (monomials p) ≤ 2 ^ 32
few_monomials p fits =
    let counted = subst (λ q. length (monomials p) ≤ weight q) (sym (poly_is p)) (count_within (monomials p)) in
    let light : 65536 < weight (poly p) → ⊥ = λ h. fits (inr (inl h)) in
    omega (arith, counted, light)

pub few_of_side : (p : Poly) → IsSomeSide (poly p) → length (monomials p) ≤ 2 ^ 32
few_of_side p (run, side) = few_monomials p side.fits

-- what an evaluation comes to

side_is : (symbols : List Interpretation) (Γ : List Ty) (e : Expression) (p : Polynomial) → NormalInterpretations symbols → Norm symbols Γ e p
    → ((w : Polynomial) → Values symbols Γ e w → Exceeds w → ⊥) → IsSide (evaluate symbols Γ e) p
side_is symbols Γ e p normal (typed, is) within = record {
  is = is;
  normal = subst IsNormal (sym is) (Γ ++ arguments (type_of symbols Γ e), normal_value symbols normal Γ e typed);
  fits = subst (λ q. Exceeds q → ⊥) (sym is) (within (evaluate symbols Γ e).result (evaluation_ends symbols Γ e));
  within = within;
}

pub rule_side_is : (R : ReadingsData) (r : RewriteRule) (right : Bool) (p : Polynomial) → NormalInterpretations R.symbols
    → SideComesTo R.symbols r.metas (side_of right r) p → IsSide (rule_run R r right) p
rule_side_is R r right p normal (norm, within) =
    side_is R.symbols (types_of_metas r.metas) (side_expression r.metas (side_of right r)) p normal norm within

pub pair_side_is : (S : Symbols) (rules : List RewriteRule) (R : ReadingsData) (a : PairData) (right : Bool) (p : Polynomial)
    → AreNormal S rules R → PairSideComesTo S rules R.symbols R.marks a right p → IsSide (pair_run S rules R a right) p
pair_side_is S rules R a right p normal (norm, within) =
    side_is (with_marks S rules R.symbols R.marks) (types_of_metas a.metas)
    (marked_expression a.metas (mark_number R.symbols R.marks (head_of_side a right)) (arguments_of_side a right)) p
    (normal_with_marks S rules R.symbols R.marks normal.symbols normal.marks) norm within

-- a fault names the limit that a value exceeds

pub rule_exceeds : (R : ReadingsData) (r : RewriteRule) (right : Bool) (e : PolyFault) (x : Excess) → x ≡ limit_of e
    → IsFaultOfSide R.symbols r.metas (side_of right r) e → RunExceeds (rule_run R r right) x
rule_exceeds R r right e x same h = subst (RunExceeds (rule_run R r right)) (sym same) (by e h)
  where
    by : (e : PolyFault) → IsFaultOfSide R.symbols r.metas (side_of right r) e → RunExceeds (rule_run R r right) (limit_of e)
    by (Overflow k) h = h.0
    by (TooLarge k) h = h.0

pub pair_exceeds : (S : Symbols) (rules : List RewriteRule) (R : ReadingsData) (a : PairData) (right : Bool) (e : PolyFault) (x : Excess)
    → x ≡ limit_of e → IsFaultOfPairSide S rules R.symbols R.marks a right e → RunExceeds (pair_run S rules R a right) x
pair_exceeds S rules R a right e x same h = subst (RunExceeds (pair_run S rules R a right)) (sym same) (by e h)
  where
    by : (e : PolyFault) → IsFaultOfPairSide S rules R.symbols R.marks a right e → RunExceeds (pair_run S rules R a right) (limit_of e)
    by (Overflow k) h = h.0
    by (TooLarge k) h = h.0
