-- Flat sides are met just where what they are worth says so.
use Rattle.std.proofs.Common.{◌≡◌, ℕ, ◌+◌, ◌≤◌, true, false, List, [], ◌∷◌, ◌++◌, length, append-nil, refl, ◌∙◌, subst, arith}
use Rattle.wh_types.specs.Ty.{Ty, sort, arguments}
use Rattle.wh_terms.specs.Tree.{Tm, app, tms_of, spine}
use Rattle.wh_poly.specs.Polynomials.{Polynomial, Normal}
use Rattle.wh_hopoly.specs.Evaluation.{Interpretation, NormalInterpretations, TypedExpression}
use Rattle.wh_hopoly.proofs.ValueLaws.{normal_value}
use Rattle.wh_polycheck.specs.Sides.{side, side_applied}
use Rattle.wh_poly_covering.specs.Lines.{IsSide}
use Rattle.wh_poly_guesses.specs.Conditions.{IsMet}
use Rattle.wh_poly_flat.specs.Flat.{occurrences, occurrences_in}
use Rattle.wh_poly_flat.specs.Worth.{worth, nothing, only, IsAtLeast, IsGreater}
use Rattle.wh_poly_flat.proofs.Totals.{IsLinear, total}
use Rattle.wh_poly_flat.proofs.Light.{light_fits}
use Rattle.wh_poly_flat.proofs.Valued.{IsRead, IsLine, run_of, kind_of, tree_line, tree_within, line_small, line_few}
use Rattle.wh_poly_flat.proofs.Covered.{Dominates, cover_moves, covers, covers_strictly, covered_dominates, strictly_covered_greater}

-- a side as a tree: a call's head is a symbol like others

pub spine_side : (n : ℕ) (h : Tm) (ts : List Tm) → side n (spine h ts) ≡ side_applied n (side n h) (tms_of ts)
spine_side n h [] = refl
spine_side n h (t ∷ ts) = spine_side n (app h t) ts

pub spine_occurrences : (h : Tm) (ts : List Tm) → occurrences (spine h ts) ≡ occurrences h + occurrences_in (tms_of ts)
spine_occurrences h [] = omega arith
spine_occurrences h (t ∷ ts) = let e = spine_occurrences (app h t) ts in omega (arith, e)

module _ (I : List Interpretation) (Γ : List Ty) (lists : List (List ℕ)) (normal : NormalInterpretations I) where
  -- a side that is flat, typed, of a sort and not large
  pub record IsSideTree (t : Tm) : Type 0 where
    pub read : IsRead I Γ lists t
    pub typed : TypedExpression I Γ (side (length Γ) t)
    pub of : ℕ
    pub of_a_sort : kind_of I Γ lists t ≡ sort of
    pub few : occurrences t ≤ 60

  abbrev value : Tm → Polynomial
  value t = (run_of I Γ lists t).result

  module _ (t : Tm) (s : IsSideTree t) where
    line : IsLine I Γ lists t (sort s.of) (value t)
    line = subst (λ A. IsLine I Γ lists t A (value t)) s.of_a_sort (tree_line I Γ lists t s.read s.typed)

    value_linear : IsLinear (length Γ) (value t)
    value_linear = let e : length Γ + length (arguments (sort s.of)) ≡ length Γ = omega arith in subst (λ n. IsLinear n (value t)) e line.linear

    value_total : (first : ℕ) (at : ℕ → ℕ) → total first at (value t) ≡ worth lists first at t
    value_total first at = line.total first at ∙ omega arith

    value_normal : Normal Γ (value t)
    value_normal =
        let n : Normal (Γ ++ arguments (kind_of I Γ lists t)) (value t) = normal_value I normal Γ (side (length Γ) t) s.typed in
        subst (λ Δ. Normal Δ (value t)) (append-nil Γ) (subst (λ A. Normal (Γ ++ arguments A) (value t)) s.of_a_sort n)

    is_side : IsSide (run_of I Γ lists t) (value t)
    is_side = record {
      is = refl;
      normal = (Γ, value_normal);
      fits = light_fits (value t) (record {
        scope = length Γ;
        linear = value_linear;
        small = line_small I Γ lists t (sort s.of) (value t) s.read line s.few;
        few = line_few I Γ lists t (sort s.of) (value t) s.read line s.few;
      });
      within = tree_within I Γ lists t s.read s.typed s.few;
    }

  module _ (t u : Tm) (st : IsSideTree t) (su : IsSideTree u) where
    dominates_if : IsAtLeast lists t u → Dominates (value t) (value u)
    dominates_if h = record {
      constant = (let a = value_total t st 1 nothing in let b = value_total u su 1 nothing in let c = h.constant in omega (arith, a, b, c));
      each = λ x. (let a = value_total t st 0 (only x) in let b = value_total u su 0 (only x) in let c = h.each x in omega (arith, a, b, c));
    }

    at_least_if : Dominates (value t) (value u) → IsAtLeast lists t u
    at_least_if h = record {
      constant = (let a = value_total t st 1 nothing in let b = value_total u su 1 nothing in let c = h.constant in omega (arith, a, b, c));
      each = λ x. (let a = value_total t st 0 (only x) in let b = value_total u su 0 (only x) in let c = h.each x in omega (arith, a, b, c));
    }

    pub met_if : IsAtLeast lists t u → IsMet (run_of I Γ lists t) (run_of I Γ lists u) false
    met_if h = record {
      left_side = is_side t st;
      right_side = is_side u su;
      moves = cover_moves Γ (length Γ) (value t) (value u) (value_normal t st) (value_normal u su) (value_linear t st) (value_linear u su) (dominates_if h);
      covers = covers Γ (length Γ) (value t) (value u) (value_normal t st) (value_normal u su) (value_linear t st) (value_linear u su) (dominates_if h);
    }

    pub met_strictly_if : IsAtLeast lists t u → IsGreater lists t u → IsMet (run_of I Γ lists t) (run_of I Γ lists u) true
    met_strictly_if h g = record {
      left_side = is_side t st;
      right_side = is_side u su;
      moves = cover_moves Γ (length Γ) (value t) (value u) (value_normal t st) (value_normal u su) (value_linear t st) (value_linear u su) (dominates_if h);
      covers = covers_strictly Γ (length Γ) (value t) (value u) (value_normal t st) (value_normal u su) (value_linear t st) (value_linear u su) (dominates_if h)
          (let a = value_total t st 1 nothing in let b = value_total u su 1 nothing in omega (arith, a, b, g));
    }

    pub at_least_where : IsMet (run_of I Γ lists t) (run_of I Γ lists u) false → IsAtLeast lists t u
    at_least_where m = at_least_if (covered_dominates Γ (length Γ) (value t) (value u) (value_normal t st) (value_normal u su)
        (value_linear t st) (value_linear u su) m.moves m.covers)

    pub greater_where : IsMet (run_of I Γ lists t) (run_of I Γ lists u) true → IsGreater lists t u
    greater_where m =
        let g = strictly_covered_greater Γ (length Γ) (value t) (value u) (value_normal t st) (value_normal u su)
        (value_linear t st) (value_linear u su) m.moves m.covers in
        let a = value_total t st 1 nothing in let b = value_total u su 1 nothing in omega (arith, a, b, g)
