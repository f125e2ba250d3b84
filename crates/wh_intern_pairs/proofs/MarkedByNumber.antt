-- Sides by numbers as expressions in their scope, and what their evaluation answers.
use Rattle.std.proofs.Common.{ℕ, ◌≡◌, ◌<◌, ◌++◌, Bool, true, false, List, [], ◌∷◌, length, map, All, Some, slice_get, Result, IfOk, refl, sym, ap, ◌∙◌, subst}
use Rattle.std.proofs.lemmas.List.{length-map}
use Rattle.std.proofs.lemmas.Result.{IfOk-weaker}
use mathlib.Core.Path.{subst₂}
use Rattle.wh_types.specs.Ty.{Ty}
use Rattle.wh_types.specs.Erase.{ty}
use Rattle.wh_types.specs.Outcome.{IfBecause}
use Rattle.wh_types.specs.declared.simple_type.SimpleType.{SimpleType}
use Rattle.wh_types.specs.declared.want.Or.{Or}
use Rattle.wh_terms.specs.Tree.{Tm, Tms, tms_of}
use Rattle.wh_terms.specs.Sight.{AllNoFree}
use Rattle.wh_terms.specs.Typing.{Symbols, Declared, AllTyped}
use Rattle.wh_terms.specs.Rules.{RewriteRule}
use Rattle.wh_pairs.specs.PairData.{PairData}
use Rattle.wh_poly.specs.Polynomials.{Polynomial}
use Rattle.wh_hopoly.specs.Evaluation.{Expression, symbol, Interpretation, evaluate, TypedExpression, Norm, Values}
use Rattle.wh_poly.specs.Limits.{Exceeds}
use Rattle.wh_hopoly.specs.Outcomes.{ComesTo, IsFaultOf}
use Rattle.wh_poly.specs.Erase.{poly}
use Rattle.wh_poly.specs.declared.polynomial.Poly.{Poly}
use Rattle.wh_hopoly.specs.declared.fault.PolyFault.{PolyFault}
use Rattle.wh_polycheck.specs.Sides.{types_of_metas, side, side_applied, Interprets}
use Rattle.wh_polycheck.specs.Marks.{Mark, marked_types, marked_interpretation, with_marks, place_of, mark_number, HasMark, head_of_side, arguments_of_side}
use Rattle.wh_polycheck.specs.SideResults.{HasExcess, SideComesTo, IsFaultOfSide, PairSideComesTo, IsFaultOfPairSide}
use Rattle.wh_polycheck.proofs.Alike.{Alike, comes_to_alike, fault_alike}
use Rattle.wh_polycheck.proofs.MarkedSides.{alone_alike, alone_typed, marked_typed, marked_side}
use Rattle.wh_polycheck.proofs.SideFacts.{cause_so, normal_within, fault_exceeds}
use Rattle.wh_polycheck.proofs.SideTypes.{side_typed}
use Rattle.wh_intern.specs.Trees.{tree_at}
use Rattle.wh_intern.specs.declared.sides.Sides.{Sides}
use Rattle.wh_intern_pairs.specs.NumberedSides.{AreSidesOf}
use Rattle.wh_intern_pairs.specs.SidesInScope.{AreInScope, IsTypedIn, AreTypedIn, call_in, AreMarkedSidesIn}
use Rattle.wh_intern_pairs.proofs.SameProjections.{trees_of_numbers, numbers_within}

-- the scope as it is counted
pub scope_counted : (kinds : List SimpleType) (n : ℕ) → n ≡ length kinds → n ≡ length (map ty kinds)
scope_counted kinds n e = e ∙ sym (length-map kinds ty)

-- sides of rules

module _ (S : Symbols) (symbols : List Interpretation) (interprets : Interprets S symbols) (Γ : List Ty) (t : Tm) (h : IsTypedIn S Γ t) where
  pub tree_typed : TypedExpression symbols Γ (side (length Γ) t)
  tree_typed =
      subst (λ Δ. TypedExpression symbols Δ (side (length Δ) t)) h.in_scope
      (side_typed S h.metas symbols interprets (length (types_of_metas h.metas)) refl h.typed h.closed).0

  pub tree_comes : (r : Result Poly (Or PolyFault)) → IfOk r (λ p. ComesTo (evaluate symbols Γ (side (length Γ) t)) (poly p)) → (M : List Declared)
      → AreInScope M Γ → IfOk r (λ p. SideComesTo symbols M t (poly p))
  tree_comes r k M e =
      IfOk-weaker r (λ p. ComesTo (evaluate symbols Γ (side (length Γ) t)) (poly p)) (λ p. SideComesTo symbols M t (poly p)) (λ p c.
      subst (λ Δ. Norm symbols Δ (side (length Δ) t) (poly p) × ((w : Polynomial) → Values symbols Δ (side (length Δ) t) w → Exceeds w → ⊥))
      (sym e) (normal_within symbols Γ (side (length Γ) t) tree_typed (poly p) c)) k

  pub tree_fault : (r : Result Poly (Or PolyFault)) → IfBecause r (IsFaultOf symbols Γ (side (length Γ) t)) → (M : List Declared)
      → AreInScope M Γ → IfBecause r (IsFaultOfSide symbols M t)
  tree_fault r k M e =
      cause_so r (IsFaultOf symbols Γ (side (length Γ) t)) (IsFaultOfSide symbols M t) (λ x c.
      subst (λ Δ. HasExcess (Values symbols Δ (side (length Δ) t)) x × IsFaultOf symbols Δ (side (length Δ) t) x) (sym e)
      (fault_exceeds symbols Γ (side (length Γ) t) x c)) k

-- a marked symbol, whose mark stands alone behind the symbols

module _ (S : Symbols) (rules : List RewriteRule) (symbols : List Interpretation) (interprets : Interprets S symbols) (marks : List Mark)
    (f : ℕ) (m : Mark) (there : slice_get marks (place_of marks f) ≡ Some m) (has : HasMark marks f)
    (a : Interpretation) (is : a ≡ marked_interpretation S rules m) (Γ : List Ty) (us : List Tm)
    (h : AreTypedIn S Γ us (marked_types S rules f)) where
  abbrev alone : List Interpretation
  alone = symbols ++ a ∷ []

  abbrev among : List Interpretation
  among = with_marks S rules symbols marks

  abbrev first : Expression
  first = call_in Γ (length symbols) us

  abbrev second : Expression
  second = call_in Γ (mark_number symbols marks f) us

  pub call_typed : TypedExpression alone Γ first
  call_typed =
      subst (λ Δ. TypedExpression alone Δ (call_in Δ (length symbols) us)) h.in_scope
      (alone_typed S rules symbols interprets marks f m there has a is h.metas (tms_of us) h.typed h.closed)

  call_alike : Alike alone among Γ first second
  call_alike =
      subst (λ Δ. Alike alone among Δ (call_in Δ (length symbols) us) (call_in Δ (mark_number symbols marks f) us)) h.in_scope
      (alone_alike S rules symbols interprets marks f m there has a is h.metas (tms_of us) h.typed h.closed)

  pub call_comes : (r : Result Poly (Or PolyFault)) → IfOk r (λ p. ComesTo (evaluate alone Γ first) (poly p))
      → IfOk r (λ p. ComesTo (evaluate among Γ second) (poly p))
  call_comes r k =
      IfOk-weaker r (λ p. ComesTo (evaluate alone Γ first) (poly p)) (λ p. ComesTo (evaluate among Γ second) (poly p))
      (λ p c. comes_to_alike alone among Γ first second call_alike (poly p) c) k

  pub call_fault : (r : Result Poly (Or PolyFault)) → IfBecause r (IsFaultOf alone Γ first) → IfBecause r (IsFaultOf among Γ second)
  call_fault r k = cause_so r (IsFaultOf alone Γ first) (IsFaultOf among Γ second) (λ x c. fault_alike alone among Γ first second call_alike x c) k

-- a side of a pair

abbrev pub fun_of_side : Sides → Bool → ℕ
fun_of_side s false = s.left_fun
fun_of_side s true = s.right_fun

abbrev pub numbers_of_side : Sides → Bool → List ℕ
numbers_of_side s false = s.left
numbers_of_side s true = s.right

same_fun : (ts : List Tm) (s : Sides) (p : PairData) (b : Bool) → AreSidesOf ts s p → fun_of_side s b ≡ head_of_side p b
same_fun ts s p false h = h.left_fun
same_fun ts s p true h = h.right_fun

same_arguments : (ts : List Tm) (s : Sides) (p : PairData) (b : Bool) → AreSidesOf ts s p
    → tms_of (map (tree_at ts) (numbers_of_side s b)) ≡ arguments_of_side p b
same_arguments ts s p false h = ap tms_of (trees_of_numbers ts s.left p.left h.left)
same_arguments ts s p true h = ap tms_of (trees_of_numbers ts s.right p.right h.right)

module _ (S : Symbols) (rules : List RewriteRule) (marks : List Mark) (ts : List Tm) (Γ : List Ty) (s : Sides)
    (h : AreMarkedSidesIn S rules marks ts Γ s) (b : Bool) where
  pub side_within : All (λ n. n < length ts) (numbers_of_side s b)
  side_within = go b
    where
      go : (b : Bool) → All (λ n. n < length ts) (numbers_of_side s b)
      go false = numbers_within ts s.left h.pair.left h.sides.left
      go true = numbers_within ts s.right h.pair.right h.sides.right

  pub side_marked : HasMark marks (fun_of_side s b)
  side_marked =
      let m = marked_side S rules marks h.pair b h.marked in subst (HasMark marks) (sym (same_fun ts s h.pair b h.sides)) m.marked

  pub side_typed_in : AreTypedIn S Γ (map (tree_at ts) (numbers_of_side s b)) (marked_types S rules (fun_of_side s b))
  side_typed_in =
      let m = marked_side S rules marks h.pair b h.marked in record {
        metas = h.pair.metas;
        in_scope = h.in_scope;
        typed = subst₂ (λ us f. AllTyped S h.pair.metas [] us (marked_types S rules f)) (sym (same_arguments ts s h.pair b h.sides))
            (sym (same_fun ts s h.pair b h.sides)) m.typed;
        closed = subst AllNoFree (sym (same_arguments ts s h.pair b h.sides)) m.closed;
      }

  module _ (symbols : List Interpretation) (interprets : Interprets S symbols) (right : Bool) (is : right ≡ b) (r : Result Poly (Or PolyFault)) where
    abbrev all : List Interpretation
    all = with_marks S rules symbols marks

    abbrev call : List Ty → ℕ → Tms → Expression
    call Δ f us = side_applied (length Δ) (symbol (mark_number symbols marks f)) us

    abbrev here : Expression
    here = call_in Γ (mark_number symbols marks (fun_of_side s b)) (map (tree_at ts) (numbers_of_side s b))

    here_typed : TypedExpression all Γ here
    here_typed =
        let m = marked_side S rules marks h.pair b h.marked in
        let t = marked_typed S rules symbols marks interprets h.pair.metas (head_of_side h.pair b) (arguments_of_side h.pair b) m.marked m.typed m.closed in
        subst₂ (λ f us. TypedExpression all Γ (call Γ f us)) (sym (same_fun ts s h.pair b h.sides)) (sym (same_arguments ts s h.pair b h.sides))
        (subst (λ Δ. TypedExpression all Δ (call Δ (head_of_side h.pair b) (arguments_of_side h.pair b))) h.in_scope t)

    module _ (p : PairData) (entry : AreSidesOf ts s p) (in_scope : AreInScope p.metas Γ) where
      -- what holds of the entry's side in its scope holds of the pair's
      of_pair : (P : List Ty → Expression → Type 0) → P Γ here
          → P (types_of_metas p.metas) (call (types_of_metas p.metas) (head_of_side p right) (arguments_of_side p right))
      of_pair P k =
          subst (λ c. P (types_of_metas p.metas) (call (types_of_metas p.metas) (head_of_side p c) (arguments_of_side p c))) (sym is)
          (subst (λ Δ. P Δ (call Δ (head_of_side p b) (arguments_of_side p b))) (sym in_scope)
          (subst₂ (λ f us. P Γ (call Γ f us)) (same_fun ts s p b entry) (same_arguments ts s p b entry) k))

      pub pair_comes : IfOk r (λ q. ComesTo (evaluate all Γ here) (poly q)) → IfOk r (λ q. PairSideComesTo S rules symbols marks p right (poly q))
      pair_comes k =
          IfOk-weaker r (λ q. ComesTo (evaluate all Γ here) (poly q)) (λ q. PairSideComesTo S rules symbols marks p right (poly q))
          (λ q c. of_pair (λ Δ e. Norm all Δ e (poly q) × ((w : Polynomial) → Values all Δ e w → Exceeds w → ⊥))
          (normal_within all Γ here here_typed (poly q) c)) k

      pub pair_fault : IfBecause r (IsFaultOf all Γ here) → IfBecause r (IsFaultOfPairSide S rules symbols marks p right)
      pair_fault k =
          cause_so r (IsFaultOf all Γ here) (IsFaultOfPairSide S rules symbols marks p right)
          (λ x c. of_pair (λ Δ e. HasExcess (Values all Δ e) x × IsFaultOf all Δ e x) (fault_exceeds all Γ here x c)) k
