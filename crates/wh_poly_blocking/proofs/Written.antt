-- All readings of the space are written by some bits.
use Rattle.std.proofs.Common.{◌≡◌, ℕ, zero, suc, ◌+◌, ◌*◌, ◌<◌, ◌≤◌, Bool, true, false, if◌then◌else◌, nat_lt, List, [], ◌∷◌, ◌++◌, map, length, refl, ap, ap₂, sym, subst, ◌∙◌, arith}
use Rattle.wh_types.specs.Ty.{Ty}
use Rattle.wh_reduction_pairs.specs.TaskData.{TaskData}
use Rattle.wh_polycheck.specs.Readings.{ReadingsData}
use Rattle.wh_poly_space.specs.Space.{space_of}
use Rattle.wh_poly_guesses.specs.Coefficients.{scopes_of, HaveCoefficients, AreOfSpace}
use Rattle.wh_poly_blocking.specs.Bits.{bits_of, digit, digits, lists_from, lists_by}
use Rattle.wh_poly_blocking.specs.Tried.{AreWritten}
use Rattle.wh_poly_guesses.proofs.OfSpace.{AreSmall, AreListsFor, all_lists, all_for, have_coefficients}

-- numbers to 3 by two bits each

abbrev low : ℕ → Bool
low zero = false
low (suc zero) = true
low (suc (suc c)) = low c

abbrev high : ℕ → Bool
high c = nat_lt 1 c

abbrev bit : List ℕ → ℕ → Bool
bit [] x = false
bit (c ∷ cs) zero = low c
bit (c ∷ cs) (suc zero) = high c
bit (c ∷ cs) (suc (suc x)) = bit cs x

by_bits : (c : ℕ) → c ≤ 3 → (if low c then 1 else 0) + (if high c then 2 else 0) ≡ c
by_bits zero small = refl
by_bits (suc zero) small = refl
by_bits (suc (suc zero)) small = refl
by_bits (suc (suc (suc zero))) small = refl
by_bits (suc (suc (suc (suc c)))) small = absurd (omega arith)

digits_are : (v : ℕ → Bool) (x : ℕ) (cs : List ℕ) → AreSmall cs
    → ((y : ℕ) → y < 2 * length cs → v (x + y) ≡ bit cs y) → digits v x (length cs) ≡ cs
digits_are v x [] small written = refl
digits_are v x (c ∷ cs) small written =
    let e : x ≡ x + 0 = omega arith in
    let f : suc x ≡ x + 1 = omega arith in
    let first : v x ≡ low c = ap v e ∙ written 0 (omega arith) in
    let second : v (suc x) ≡ high c = ap v f ∙ written 1 (omega arith) in
    let here : digit v x ≡ c =
    ap₂ (λ a b. (if a then 1 else 0) + (if b then 2 else 0)) first second ∙ by_bits c small.0 in
    let rest : digits v (2 + x) (length cs) ≡ cs = digits_are v (2 + x) cs small.1 (λ y below.
    let g : (2 + x) + y ≡ x + suc (suc y) = omega arith in
    ap v g ∙ written (suc (suc y)) (omega (arith, below))) in
    ap₂ (λ c cs. c ∷ cs) here rest

bit_front : (cs ds : List ℕ) (y : ℕ) → y < 2 * length cs → bit (cs ++ ds) y ≡ bit cs y
bit_front [] ds y below = absurd (omega (arith, below))
bit_front (c ∷ cs) ds zero below = refl
bit_front (c ∷ cs) ds (suc zero) below = refl
bit_front (c ∷ cs) ds (suc (suc y)) below = bit_front cs ds y (omega (arith, below))

bit_behind : (cs ds : List ℕ) (y : ℕ) → bit (cs ++ ds) (2 * length cs + y) ≡ bit ds y
bit_behind [] ds y = let e : 2 * 0 + y ≡ y = omega arith in ap (bit ds) e
bit_behind (c ∷ cs) ds y =
    let e : 2 * length (c ∷ cs) + y ≡ suc (suc (2 * length cs + y)) = omega arith in
    ap (bit (c ∷ (cs ++ ds))) e ∙ bit_behind cs ds y

-- lists of such numbers, one for each scope

abbrev joined : List (List ℕ) → List ℕ
joined [] = []
joined (cs ∷ lists) = cs ++ joined lists

lists_are : (v : ℕ → Bool) (x : ℕ) (scopes : List (List Ty)) (lists : List (List ℕ)) → AreListsFor scopes lists
    → ((y : ℕ) → v (x + y) ≡ bit (joined lists) y) → lists_from v x scopes ≡ lists
lists_are v x [] [] fit written = refl
lists_are v x [] (cs ∷ lists) fit written = absurd fit
lists_are v x (Γ ∷ scopes) [] fit written = absurd fit
lists_are v x (Γ ∷ scopes) (cs ∷ lists) fit written =
    let here : digits v x (length (space_of Γ)) ≡ cs =
    ap (digits v x) (sym fit.0) ∙ digits_are v x cs fit.1 (λ y below. written y ∙ bit_front cs (joined lists) y below) in
    let rest : lists_from v (bits_of Γ + x) scopes ≡ lists = lists_are v (bits_of Γ + x) scopes lists fit.2 (λ y.
    let e : (bits_of Γ + x) + y ≡ x + (2 * length cs + y) = omega (arith, fit.0) in
    ap v e ∙ written (2 * length cs + y) ∙ bit_behind cs (joined lists) y) in
    ap₂ (λ cs lists. cs ∷ lists) here rest

module _ (T : TaskData) (R : ReadingsData) where
  -- the bits that write the coefficients
  abbrev all_bits : ℕ → Bool
  all_bits = bit (joined (all_lists T R))

  lists_by_bits : AreListsFor (scopes_of T (map (λ m. m.symbol) R.marks)) (all_lists T R)
      → lists_by all_bits (scopes_of T (map (λ m. m.symbol) R.marks)) ≡ all_lists T R
  lists_by_bits fit =
      lists_are all_bits 0 (scopes_of T (map (λ m. m.symbol) R.marks)) (all_lists T R) fit
      (λ y. let e : 0 + y ≡ y = omega arith in ap all_bits e)

pub written : (T : TaskData) (R : ReadingsData) → AreOfSpace T R → (v : ℕ → Bool) × AreWritten T (map (λ m. m.symbol) R.marks) v R
written T R are =
    let is = lists_by_bits T R (all_for T R are) in (
      all_bits T R,
      record {
        kinds = are.readings.kinds;
        marked_are = refl;
        coefficients = subst (λ lists. HaveCoefficients T lists R) (sym is) (have_coefficients T R are);
      },
    )
