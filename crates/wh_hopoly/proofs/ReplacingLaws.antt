-- The steps of a replacement: sums, products, arguments and applications, one after another.
use Rattle.std.proofs.Common.{append_assoc, append-nil, length-append, ◌≡◌, ℕ, zero, suc, ◌+◌, ◌^◌, ◌<◌, ◌≤◌, ◌==◌, inl, inr, List, [], ◌∷◌, ◌++◌, length, drop, get_or, refl, ap, ap₂, sym, subst, ◌∙◌, arith, true, false, if◌then◌else◌}
use Rattle.std.specs.Prelude.{Contains}
use Rattle.std.proofs.lemmas.List.Elements.{Contains-append_left, Contains-append_right, Contains-append_cases}
use mathlib.Core.Path.{subst₂}
use Rattle.wh_types.specs.Ty.{Ty, sort, ◌⇒◌, arguments}
use Rattle.wh_poly.specs.Polynomials.{HasType, Polynomial, zero_poly, plus, Factors, no_factors, times, Arguments, no_arguments, argument, Normal, NormalFactors, NormalArguments, HasNormalArguments}
use Rattle.wh_poly.specs.Arithmetic.{sum_poly, multiply, constant, atom}
use Rattle.wh_hopoly.specs.Evaluation.{Run, one, next, without, down, type_at, widened, replace, replace_factors, replace_arguments, applied, pure}
use Rattle.wh_poly.specs.Limits.{Exceeds}
use Rattle.wh_poly.specs.Excesses.{ExceedsAs}
use Rattle.wh_hopoly.specs.Replacements.{head_by, replace_factor, product_with, apply_at, NormalFor, Replaces}
use Rattle.wh_poly_arithmetic.specs.Totals.{total, HasOrderedParts}
use Rattle.wh_poly.specs.Erase.{poly, atoms, polys, sum_of, product_of, arguments_of}
use Rattle.wh_poly.specs.declared.excess.Excess.{Excess}
use Rattle.wh_poly.specs.declared.excess.Excess.TheVariants as excess
use Rattle.wh_hopoly.specs.Outcomes.{ComesTo, PassesLimit}
use Rattle.wh_poly.specs.declared.polynomial.Poly.{Poly}
use Rattle.wh_poly.specs.declared.polynomial.Monomial.{Monomial, out-Monomial}
use Rattle.wh_poly.specs.declared.polynomial.Atom.{Atom, out-Atom}
use Rattle.wh_poly_arithmetic.specs.declared.totals.Total.{Total}
use Rattle.wh_poly.proofs.Walks.{sum_drop, sum_ended, product_drop, product_ended, arguments_drop, arguments_ended}
use Rattle.wh_poly.proofs.Pushes.{arguments_followed_by, arguments_of_append}
use Rattle.wh_poly.proofs.AddedLaws.{followed_assoc, followed_by_none}
use Rattle.wh_poly.proofs.OrderedLaws.{exceeds_right}
use Rattle.wh_poly.proofs.SumLaws.{normal_multiply}
use Rattle.wh_hopoly.proofs.ReplaceLaws.{HeadOk, without_is, type_is, at_itself, replaced_atom, normal_replace, normal_replace_factors, normal_replace_arguments}
use Rattle.wh_hopoly.proofs.ValueLaws.{normal_moved, normal_applied, normal_apply_one}
use Rattle.wh_hopoly.proofs.RunLaws.{Within, first_is_there, contains_one, within_one, within_both, Follows, follows_itself, follows_on, all_within, fault_within, fault_left, fault_right}

-- what a place is, one type further
pub wider : (A : Ty) (n : ℕ) (g : Polynomial) (Γ Δ X : List Ty) → Replaces A n g Γ Δ → Replaces A n g (Γ ++ X) (Δ ++ X)
wider A n g Γ Δ X r = record {
  around = r.around;
  behind = r.behind ++ X;
  before = ap (λ Γ. Γ ++ X) r.before ∙ append_assoc r.around (A ∷ r.behind) X;
  after = ap (λ Γ. Γ ++ X) r.after ∙ append_assoc r.around r.behind X;
  number = r.number;
  normal = r.normal;
}

pub without_it : (A : Ty) (n : ℕ) (g : Polynomial) (Γ Δ : List Ty) → Replaces A n g Γ Δ → without n Γ ≡ Δ
without_it A n g Γ Δ r = ap₂ without r.number r.before ∙ without_is r.around A r.behind ∙ sym r.after

-- the length of the scope without the variable, and how far the value's added variables are raised in it
pub place_counts : (A : Ty) (n c : ℕ) (g : Polynomial) (Γ Δ : List Ty) → Replaces A n g Γ Δ → c ≡ length Γ → (c ≡ suc (length Δ)) × (n ≤ length Δ)
place_counts A n c g Γ Δ r e =
    let b = ap length r.before in let a = ap length r.after in let k = r.number in
    let l = length-append r.around (A ∷ r.behind) in let m = length-append r.around r.behind in
    (omega (arith, e, b, a, k, l, m), omega (arith, e, b, a, k, l, m))

head_is_fine : (A : Ty) (Γ : List Ty) (g : Polynomial) → Normal (Γ ++ arguments A) g → HeadOk Γ A (head_by A (length Γ) g)
head_is_fine A Γ g n X qs k = normal_applied A (Γ ++ X) (widened (length Γ) (Γ ++ X) g) qs (normal_moved Γ X (arguments A) g n) k

module _ (A : Ty) (n : ℕ) (g : Polynomial) (Γ Δ : List Ty) (r : Replaces A n g Γ Δ) where
  pub same_places : (F : ℕ → List Ty → List Ty → Type 0) → F (length r.around) (r.around ++ A ∷ r.behind) (r.around ++ r.behind) → F n Γ Δ
  same_places F h = subst (λ n. F n Γ Δ) (sym r.number) (subst₂ (λ Γ Δ. F (length r.around) Γ Δ) (sym r.before) (sym r.after) h)

  pub replaced_normal : (sum p : Polynomial) → Normal Δ sum → Normal Γ p → Normal Δ (replace (head_by A n g) n Γ sum p).result
  replaced_normal sum p = same_places (λ n Γ Δ. Normal Δ sum → Normal Γ p → Normal Δ (replace (head_by A n g) n Γ sum p).result)
      (λ s m. normal_replace (head_by A (length r.around) g) r.around A (head_is_fine A r.around g r.normal) r.behind sum p s m)

  pub factors_normal : (product : Polynomial) (us : Factors) → Normal Δ product → NormalFactors Γ us → Normal Δ (replace_factors (head_by A n g) n Γ product us).result
  factors_normal product us = same_places (λ n Γ Δ. Normal Δ product → NormalFactors Γ us → Normal Δ (replace_factors (head_by A n g) n Γ product us).result)
      (λ s m. normal_replace_factors (head_by A (length r.around) g) r.around A (head_is_fine A r.around g r.normal) r.behind product us s m)

  pub arguments_normal : (B : Ty) (ps : Arguments) → NormalArguments Γ B ps → NormalArguments Δ B (replace_arguments (head_by A n g) n Γ B ps).result
  arguments_normal B ps = same_places (λ n Γ Δ. NormalArguments Γ B ps → NormalArguments Δ B (replace_arguments (head_by A n g) n Γ B ps).result)
      (λ m. normal_replace_arguments (head_by A (length r.around) g) r.around A (head_is_fine A r.around g r.normal) r.behind B ps m)

  pub factor_normal : (x : ℕ) (ps : Arguments) → HasNormalArguments Γ x ps → Normal Δ (replace_factor (head_by A n g) n Γ x ps).result
  factor_normal x ps (B, a, k) =
      let qs = (replace_arguments (head_by A n g) n Γ (type_at Γ x) ps).result in
      let m = subst (λ C. NormalArguments Δ B (replace_arguments (head_by A n g) n Γ C ps).result) (sym (type_is Γ x B a)) (arguments_normal B ps k) in
      same_places (λ n Γ Δ. HasType Γ x B → NormalArguments Δ B qs → Normal Δ (if x == n then head_by A n g (without n Γ) qs else one (atom (down n x) qs)).result)
      (λ b m. replaced_atom (head_by A (length r.around) g) r.around A r.behind x B qs (head_is_fine A r.around g r.normal) b m) a m

-- the parts of a normal value
normal_drop : (Γ : List Ty) (xs : List Monomial) (i : ℕ) → Normal Γ (sum_of xs) → Normal Γ (sum_of (drop i xs))
normal_drop Γ xs zero n = n
normal_drop Γ [] (suc i) n = n
normal_drop Γ (x ∷ xs) (suc i) n = normal_drop Γ xs i n.3

pub monomial_normal : (Γ : List Ty) (xs : List Monomial) (i : ℕ) (m : Monomial) → Normal Γ (sum_of xs) → i < length xs → m ≡ get_or xs i m
    → (1 ≤ (out-Monomial m).coefficient) × NormalFactors Γ (atoms (out-Monomial m).atoms)
monomial_normal Γ xs i m n l e = let k = subst (Normal Γ) (sum_drop xs i m l e) (normal_drop Γ xs i n) in (k.0, k.1)

factors_drop : (Γ : List Ty) (us : List Atom) (i : ℕ) → NormalFactors Γ (product_of us) → NormalFactors Γ (product_of (drop i us))
factors_drop Γ us zero n = n
factors_drop Γ [] (suc i) n = n
factors_drop Γ (u ∷ us) (suc i) n = factors_drop Γ us i n.4

pub atom_normal : (Γ : List Ty) (us : List Atom) (i : ℕ) (u : Atom) → NormalFactors Γ (product_of us) → i < length us → u ≡ get_or us i u
    → HasNormalArguments Γ (out-Atom u).head (polys (out-Atom u).args)
atom_normal Γ us i u n l e = let k = subst (NormalFactors Γ) (product_drop us i u l e) (factors_drop Γ us i n) in (k.0, k.1, k.2)

-- each run of these kinds notes a value
pub product_is_there : (head : List Ty → Arguments → Run Polynomial) (v : ℕ) (Γ : List Ty) (p : Polynomial) (us : Factors) → Contains (replace_factors head v Γ p us).values p
product_is_there head v Γ p no_factors = first_is_there p []
product_is_there head v Γ p (times x ps us) =
    Contains-append_right (replace_arguments head v Γ (type_at Γ x) ps).values _ p
    (Contains-append_right (if x == v then head (without v Γ) (replace_arguments head v Γ (type_at Γ x) ps).result else one (atom (down v x) (replace_arguments head v Γ (type_at Γ x) ps).result)).values _ p
    (first_is_there p _))

pub replace_notes : (head : List Ty → Arguments → Run Polynomial) (v : ℕ) (Γ : List Ty) (sum p : Polynomial) → 1 ≤ length (replace head v Γ sum p).values
replace_notes head v Γ sum zero_poly = omega arith
replace_notes head v Γ sum (plus c us p) =
    let fs = replace_factors head v Γ (constant c) us in
    let k = replace_notes head v Γ (sum_poly fs.result sum) p in
    let l = length-append fs.values ((sum_poly fs.result sum ∷ []) ++ (replace head v Γ (sum_poly fs.result sum) p).values) in omega (arith, k, l)

pub applied_notes : (A : Ty) (Γ : List Ty) (g : Polynomial) (ps : Arguments) → 1 ≤ length (applied A Γ g ps).values
applied_notes (sort s) Γ g ps = omega arith
applied_notes (A ⇒ B) Γ g no_arguments = omega arith
applied_notes (A ⇒ B) Γ g (argument p ps) =
    let one = apply_at (A ⇒ B) Γ g p in
    let k = replace_notes (λ Δ qs. applied A Δ (widened (length Γ) Δ p) qs) (length Γ) (Γ ++ A ∷ arguments B) zero_poly g in
    let l = length-append one.values (applied B Γ one.result ps).values in omega (arith, k, l)

-- sums
pub record Summing (head : List Ty → Arguments → Run Polynomial) (v : ℕ) (Γ : List Ty) (xs : List Monomial) (t : Total) (i : ℕ) : Type 0 where
  pub same : (replace head v Γ zero_poly (sum_of xs)).result ≡ (replace head v Γ (total t) (sum_of (drop i xs))).result
  pub follows : Follows (replace head v Γ zero_poly (sum_of xs)).values (replace head v Γ (total t) (sum_of (drop i xs))).values (Exceeds (total t))
  pub parts : HasOrderedParts t

module _ (head : List Ty → Arguments → Run Polynomial) (v : ℕ) (Γ : List Ty) where
  pub summing_starts : (xs : List Monomial) (t : Total) → total t ≡ zero_poly → HasOrderedParts t → Summing head v Γ xs t 0
  summing_starts xs t e h = record {
    same = ap (λ s. (replace head v Γ s (sum_of xs)).result) (sym e);
    follows = subst (λ s. Follows (replace head v Γ zero_poly (sum_of xs)).values (replace head v Γ s (sum_of xs)).values (Exceeds s)) (sym e) (follows_itself _ _);
    parts = h;
  }

  -- the run of one monomial, and what is noted once it is added
  abbrev monomial_run : Monomial → Run Polynomial
  monomial_run m = replace_factors head v Γ (constant (out-Monomial m).coefficient) (atoms (out-Monomial m).atoms)

  sum_split : (xs : List Monomial) (s : Polynomial) (i : ℕ) (m : Monomial) → i < length xs → m ≡ get_or xs i m
      → (replace head v Γ s (sum_of (drop i xs))).values
      ≡ ((monomial_run m).values ++ sum_poly (monomial_run m).result s ∷ []) ++ (replace head v Γ (sum_poly (monomial_run m).result s) (sum_of (drop (i + 1) xs))).values
  sum_split xs s i m l e = ap (λ p. (replace head v Γ s p).values) (sum_drop xs i m l e)
      ∙ sym (append_assoc (monomial_run m).values (sum_poly (monomial_run m).result s ∷ []) (replace head v Γ (sum_poly (monomial_run m).result s) (sum_of (drop (i + 1) xs))).values)

  pub summing_steps : (xs : List Monomial) (t u : Total) (i : ℕ) (m : Monomial) (r : Polynomial) → Summing head v Γ xs t i → i < length xs → m ≡ get_or xs i m
      → (r ≡ (monomial_run m).result) × Within (monomial_run m).values → total u ≡ sum_poly r (total t) → HasOrderedParts u → Summing head v Γ xs u (i + 1)
  summing_steps xs t u i m r g l e (k, w) s h =
      let next : sum_poly (monomial_run m).result (total t) ≡ total u = ap (λ r. sum_poly r (total t)) (sym k) ∙ sym s in
      record {
        same = g.same ∙ ap (λ p. (replace head v Γ (total t) p).result) (sum_drop xs i m l e) ∙ ap (λ s. (replace head v Γ s (sum_of (drop (i + 1) xs))).result) next;
        follows = follows_on _ _ ((monomial_run m).values ++ sum_poly (monomial_run m).result (total t) ∷ []) _ (Exceeds (total t)) (Exceeds (total u)) g.follows
            (sum_split xs (total t) i m l e ∙ ap (λ s. ((monomial_run m).values ++ sum_poly (monomial_run m).result (total t) ∷ []) ++ (replace head v Γ s (sum_of (drop (i + 1) xs))).values) next)
            (λ q c h. elim (Contains-append_cases (monomial_run m).values _ q c) [
              | inl d ↦ absurd (w q d h)
              | inr d ↦ subst Exceeds (sym (contains_one _ q d) ∙ next) h
            ])
            (λ h. subst Exceeds next (exceeds_in_sum (monomial_run m).result (total t) h));
        parts = h;
      }
    where
      exceeds_in_sum : (p q : Polynomial) → Exceeds q → Exceeds (sum_poly p q)
      exceeds_in_sum p q (inl h) = inl (exceeds_right excess.Overflow p q h)
      exceeds_in_sum p q (inr h) = inr (exceeds_right excess.TooLarge p q h)

  -- the run of one monomial is shorter than the whole
  pub monomial_shorter : (xs : List Monomial) (t : Total) (i : ℕ) (m : Monomial) → Summing head v Γ xs t i → i < length xs → m ≡ get_or xs i m
      → length (monomial_run m).values < length (replace head v Γ zero_poly (sum_of xs)).values
  monomial_shorter xs t i m g l e =
      let s = g.follows.shorter in let z = ap length (sum_split xs (total t) i m l e) in
      let a = length-append ((monomial_run m).values ++ sum_poly (monomial_run m).result (total t) ∷ []) (replace head v Γ (sum_poly (monomial_run m).result (total t)) (sum_of (drop (i + 1) xs))).values in
      let b = length-append (monomial_run m).values (sum_poly (monomial_run m).result (total t) ∷ []) in omega (arith, s, z, a, b)

  pub monomial_fault : (xs : List Monomial) (t : Total) (i : ℕ) (m : Monomial) (x : Excess) → Summing head v Γ xs t i → i < length xs → m ≡ get_or xs i m
      → PassesLimit (monomial_run m) x → PassesLimit (replace head v Γ zero_poly (sum_of xs)) x
  monomial_fault xs t i m x g l e f =
      fault_within _ _ _ x g.follows (subst (λ ws. (w : Polynomial) × Contains ws w × ExceedsAs x w) (sym (sum_split xs (total t) i m l e)) (fault_left _ _ x (fault_left _ _ x f)))

  pub sum_fault : (xs : List Monomial) (t : Total) (i : ℕ) (m : Monomial) (r : Polynomial) (x : Excess) → Summing head v Γ xs t i → i < length xs → m ≡ get_or xs i m
      → r ≡ (monomial_run m).result → ExceedsAs x (sum_poly r (total t)) → PassesLimit (replace head v Γ zero_poly (sum_of xs)) x
  sum_fault xs t i m r x g l e k h =
      fault_within _ _ _ x g.follows (subst (λ ws. (w : Polynomial) × Contains ws w × ExceedsAs x w) (sym (sum_split xs (total t) i m l e))
      (fault_left _ _ x (fault_right (monomial_run m).values _ x (sum_poly (monomial_run m).result (total t), first_is_there (sum_poly (monomial_run m).result (total t)) [], subst (λ r. ExceedsAs x (sum_poly r (total t))) k h))))

  sums_end : (xs : List Monomial) (t : Total) (i : ℕ) → length xs ≤ i → replace head v Γ (total t) (sum_of (drop i xs)) ≡ one (total t)
  sums_end xs t i l = ap (replace head v Γ (total t)) (sum_ended xs i l)

  pub summing_ends : (xs : List Monomial) (t : Total) (i : ℕ) (r : Polynomial) → Summing head v Γ xs t i → length xs ≤ i → r ≡ total t → (Exceeds r → ⊥)
      → (r ≡ (replace head v Γ zero_poly (sum_of xs)).result) × Within (replace head v Γ zero_poly (sum_of xs)).values
  summing_ends xs t i r g l e n =
      let end = sums_end xs t i l in
      let fine = subst (λ p. Exceeds p → ⊥) e n in (
        e ∙ sym (g.same ∙ ap (λ run. run.result) end),
        all_within _ _ _ g.follows (subst (λ run. Within run.values) (sym end) (within_one (total t) fine)) fine,
      )

  pub last_sum_fault : (xs : List Monomial) (t : Total) (i : ℕ) (x : Excess) → Summing head v Γ xs t i → length xs ≤ i → ExceedsAs x (total t)
      → PassesLimit (replace head v Γ zero_poly (sum_of xs)) x
  last_sum_fault xs t i x g l h =
      fault_within _ _ _ x g.follows (subst (λ run. PassesLimit run x) (sym (sums_end xs t i l)) (total t, first_is_there (total t) [], h))

-- products
pub record Multiplying (head : List Ty → Arguments → Run Polynomial) (v : ℕ) (Γ Δ : List Ty) (c : ℕ) (us : List Atom) (p : Polynomial) (i : ℕ) : Type 0 where
  pub same : (replace_factors head v Γ (constant c) (product_of us)).result ≡ (replace_factors head v Γ p (product_of (drop i us))).result
  pub follows : Follows (replace_factors head v Γ (constant c) (product_of us)).values (replace_factors head v Γ p (product_of (drop i us))).values ⊥
  pub within : Exceeds p → ⊥
  pub normal : Normal Δ p

module _ (head : List Ty → Arguments → Run Polynomial) (v : ℕ) (Γ Δ : List Ty) (c : ℕ) where
  pub multiplying_starts : (us : List Atom) (p : Polynomial) → 1 ≤ c → c < 2 ^ 128 → p ≡ constant c → Multiplying head v Γ Δ c us p 0
  multiplying_starts us p l b e = record {
    same = ap (λ p. (replace_factors head v Γ p (product_of us)).result) (sym e);
    follows = subst (λ p. Follows (replace_factors head v Γ (constant c) (product_of us)).values (replace_factors head v Γ p (product_of us)).values ⊥) (sym e) (follows_itself _ _);
    within = subst (λ p. Exceeds p → ⊥) (sym e) (number_within c b);
    normal = subst (Normal Δ) (sym e) (l, tt, tt, tt);
  }
    where
      number_within : (c : ℕ) → c < 2 ^ 128 → Exceeds (constant c) → ⊥
      number_within c b (inl (inl h)) = omega (arith, h, b)
      number_within c b (inl (inr h)) = h
      number_within c b (inr (inl h)) = omega (arith, h)
      number_within c b (inr (inr h)) = omega (arith, h)

  -- the run of one factor
  abbrev factor_of : Atom → Run Polynomial
  factor_of u = replace_factor head v Γ (out-Atom u).head (polys (out-Atom u).args)

  product_split : (us : List Atom) (p : Polynomial) (i : ℕ) (u : Atom) → i < length us → u ≡ get_or us i u
      → (replace_factors head v Γ p (product_of (drop i us))).values
      ≡ ((factor_of u).values ++ p ∷ []) ++ (replace_factors head v Γ (multiply p (factor_of u).result) (product_of (drop (i + 1) us))).values
  product_split us p i u l e =
      let x = (out-Atom u).head in
      let args = replace_arguments head v Γ (type_at Γ x) (polys (out-Atom u).args) in
      let made = if x == v then head (without v Γ) args.result else one (atom (down v x) args.result) in
      let rest = (replace_factors head v Γ (multiply p (factor_of u).result) (product_of (drop (i + 1) us))).values in
      ap (λ us. (replace_factors head v Γ p us).values) (product_drop us i u l e)
      ∙ sym (append_assoc args.values made.values ((p ∷ []) ++ rest)) ∙ sym (append_assoc (factor_of u).values (p ∷ []) rest)

  pub multiplying_steps : (us : List Atom) (p q r : Polynomial) (i : ℕ) (u : Atom) → Multiplying head v Γ Δ c us p i → i < length us → u ≡ get_or us i u
      → (q ≡ (factor_of u).result) × Within (factor_of u).values → Normal Δ q → (r ≡ multiply p q) × (Exceeds r → ⊥) → Multiplying head v Γ Δ c us r (i + 1)
  multiplying_steps us p q r i u g l e (k, w) n (s, f) =
      let next : multiply p (factor_of u).result ≡ r = ap (multiply p) (sym k) ∙ sym s in
      record {
        same = g.same ∙ ap (λ us. (replace_factors head v Γ p us).result) (product_drop us i u l e) ∙ ap (λ p. (replace_factors head v Γ p (product_of (drop (i + 1) us))).result) next;
        follows = follows_on _ _ ((factor_of u).values ++ p ∷ []) _ ⊥ ⊥ g.follows
            (product_split us p i u l e ∙ ap (λ r. ((factor_of u).values ++ p ∷ []) ++ (replace_factors head v Γ r (product_of (drop (i + 1) us))).values) next)
            (within_both (factor_of u).values (p ∷ []) w (within_one p g.within)) (λ h. h);
        within = f;
        normal = subst (Normal Δ) (sym s) (normal_multiply Δ p q g.normal n);
      }

  -- the run of one factor is shorter than the whole
  pub factor_shorter : (us : List Atom) (p : Polynomial) (i : ℕ) (u : Atom) → Multiplying head v Γ Δ c us p i → i < length us → u ≡ get_or us i u
      → 2 + length (factor_of u).values ≤ length (replace_factors head v Γ (constant c) (product_of us)).values
  factor_shorter us p i u g l e =
      let s = g.follows.shorter in let z = ap length (product_split us p i u l e) in
      let a = length-append ((factor_of u).values ++ p ∷ []) (replace_factors head v Γ (multiply p (factor_of u).result) (product_of (drop (i + 1) us))).values in
      let b = length-append (factor_of u).values (p ∷ []) in
      let k = (product_is_there head v Γ (multiply p (factor_of u).result) (product_of (drop (i + 1) us))).1 in omega (arith, s, z, a, b, k)

  pub factor_fault : (us : List Atom) (p : Polynomial) (i : ℕ) (u : Atom) (x : Excess) → Multiplying head v Γ Δ c us p i → i < length us → u ≡ get_or us i u
      → PassesLimit (factor_of u) x → PassesLimit (replace_factors head v Γ (constant c) (product_of us)) x
  factor_fault us p i u x g l e f =
      fault_within _ _ _ x g.follows (subst (λ ws. (w : Polynomial) × Contains ws w × ExceedsAs x w) (sym (product_split us p i u l e)) (fault_left _ _ x (fault_left _ _ x f)))

  pub product_fault : (us : List Atom) (p q : Polynomial) (i : ℕ) (u : Atom) (x : Excess) → Multiplying head v Γ Δ c us p i → i < length us → u ≡ get_or us i u
      → q ≡ (factor_of u).result → ExceedsAs x (multiply p q) → PassesLimit (replace_factors head v Γ (constant c) (product_of us)) x
  product_fault us p q i u x g l e k h =
      fault_within _ _ _ x g.follows (subst (λ ws. (w : Polynomial) × Contains ws w × ExceedsAs x w) (sym (product_split us p i u l e))
      (fault_right ((factor_of u).values ++ p ∷ []) _ x
      (multiply p (factor_of u).result, product_is_there head v Γ (multiply p (factor_of u).result) (product_of (drop (i + 1) us)), subst (λ q. ExceedsAs x (multiply p q)) k h)))

  -- one factor and the product with it, as one step
  pub multiplying_goes_on : (us : List Atom) (p r : Polynomial) (i : ℕ) (u : Atom) → Multiplying head v Γ Δ c us p i → i < length us → u ≡ get_or us i u
      → Normal Δ (factor_of u).result → ComesTo (product_with p (factor_of u)) r → (Exceeds r → ⊥) → Multiplying head v Γ Δ c us r (i + 1)
  multiplying_goes_on us p r i u g l e n (s, within) f =
      multiplying_steps us p (factor_of u).result r i u g l e (refl, λ w c h. within w (Contains-append_left (factor_of u).values (multiply p (factor_of u).result ∷ []) w c) h) n (s, f)

  pub factor_or_product_fault : (us : List Atom) (p : Polynomial) (i : ℕ) (u : Atom) (x : Excess) → Multiplying head v Γ Δ c us p i → i < length us → u ≡ get_or us i u
      → PassesLimit (product_with p (factor_of u)) x → PassesLimit (replace_factors head v Γ (constant c) (product_of us)) x
  factor_or_product_fault us p i u x g l e (w, d, h) = elim (Contains-append_cases (factor_of u).values (multiply p (factor_of u).result ∷ []) w d) [
    | inl d ↦ factor_fault us p i u x g l e (w, d, h)
    | inr d ↦ product_fault us p (factor_of u).result i u x g l e refl (subst (ExceedsAs x) (sym (contains_one (multiply p (factor_of u).result) w d)) h)
  ]

  pub multiplying_ends : (us : List Atom) (p : Polynomial) (i : ℕ) → Multiplying head v Γ Δ c us p i → length us ≤ i
      → (p ≡ (replace_factors head v Γ (constant c) (product_of us)).result) × Within (replace_factors head v Γ (constant c) (product_of us)).values
  multiplying_ends us p i g l =
      let end : replace_factors head v Γ p (product_of (drop i us)) ≡ one p = ap (replace_factors head v Γ p) (product_ended us i l) in (
        sym (g.same ∙ ap (λ run. run.result) end),
        all_within _ _ _ g.follows (subst (λ run. Within run.values) (sym end) (within_one p g.within)) (λ h. h),
      )

-- arguments
pub record Passing (head : List Ty → Arguments → Run Polynomial) (v : ℕ) (Γ : List Ty) (A : Ty) (ps out : List Poly) (B : Ty) (i : ℕ) : Type 0 where
  pub same : (replace_arguments head v Γ A (arguments_of ps)).result ≡ arguments_followed_by (arguments_of out) (replace_arguments head v Γ B (arguments_of (drop i ps))).result
  pub follows : Follows (replace_arguments head v Γ A (arguments_of ps)).values (replace_arguments head v Γ B (arguments_of (drop i ps))).values ⊥
  pub normal : NormalArguments Γ B (arguments_of (drop i ps))

module _ (head : List Ty → Arguments → Run Polynomial) (v : ℕ) (Γ : List Ty) (A : Ty) where
  pub passing_starts : (ps out : List Poly) → out ≡ [] → NormalArguments Γ A (arguments_of ps) → Passing head v Γ A ps out A 0
  passing_starts ps out e n = record {
    same = ap (λ out. arguments_followed_by (arguments_of out) (replace_arguments head v Γ A (arguments_of ps)).result) (sym e);
    follows = follows_itself _ _;
    normal = n;
  }

  -- what is left begins with the argument at hand
  pub passing_now : (ps out : List Poly) (B : Ty) (i : ℕ) (p : Poly) → Passing head v Γ A ps out B i → i < length ps → p ≡ get_or ps i p
      → NormalArguments Γ B (argument (poly p) (arguments_of (drop (i + 1) ps)))
  passing_now ps out B i p g l e = subst (NormalArguments Γ B) (arguments_drop ps i p l e) g.normal

  module _ (ps out : List Poly) (K B C : Ty) (i : ℕ) (p : Poly) (g : Passing head v Γ A ps out K i) (l : i < length ps) (e : p ≡ get_or ps i p) (k : K ≡ (B ⇒ C)) where
    abbrev argument_run : Run Polynomial
    argument_run = replace head v (Γ ++ arguments B) zero_poly (poly p)

    left_run : replace_arguments head v Γ K (arguments_of (drop i ps)) ≡ replace_arguments head v Γ (B ⇒ C) (argument (poly p) (arguments_of (drop (i + 1) ps)))
    left_run = ap₂ (replace_arguments head v Γ) k (arguments_drop ps i p l e)

    arguments_split : (replace_arguments head v Γ K (arguments_of (drop i ps))).values ≡ argument_run.values ++ (replace_arguments head v Γ C (arguments_of (drop (i + 1) ps))).values
    arguments_split = ap (λ run. run.values) left_run
        ∙ ap (λ ws. argument_run.values ++ ws) (append-nil (replace_arguments head v Γ C (arguments_of (drop (i + 1) ps))).values)

    pub argument_is_normal : Normal (Γ ++ arguments B) (poly p)
    argument_is_normal = (subst (λ K. NormalArguments Γ K (argument (poly p) (arguments_of (drop (i + 1) ps)))) k (passing_now ps out K i p g l e)).0

    pub passing_steps : (new : List Poly) (q : Poly) (D : Ty) → (poly q ≡ argument_run.result) × Within argument_run.values → new ≡ out ++ q ∷ [] → D ≡ C → Passing head v Γ A ps new D (i + 1)
    passing_steps new q D (s, w) h d = subst (λ D. Passing head v Γ A ps new D (i + 1)) (sym d) (record {
      same = g.same ∙ ap (λ run. arguments_followed_by (arguments_of out) run.result) left_run
          ∙ ap (λ q. arguments_followed_by (arguments_of out) (argument q (replace_arguments head v Γ C (arguments_of (drop (i + 1) ps))).result)) (sym s)
          ∙ sym (followed_assoc (arguments_of out) (argument (poly q) no_arguments) (replace_arguments head v Γ C (arguments_of (drop (i + 1) ps))).result)
          ∙ ap (λ qs. arguments_followed_by qs (replace_arguments head v Γ C (arguments_of (drop (i + 1) ps))).result) (sym (ap arguments_of h ∙ arguments_of_append out (q ∷ [])));
      follows = follows_on _ _ argument_run.values _ ⊥ ⊥ g.follows arguments_split w (λ h. h);
      normal = (subst (λ K. NormalArguments Γ K (argument (poly p) (arguments_of (drop (i + 1) ps)))) k (passing_now ps out K i p g l e)).1;
    })

    pub argument_shorter : length argument_run.values ≤ length (replace_arguments head v Γ A (arguments_of ps)).values
    argument_shorter =
        let s = g.follows.shorter in let z = ap length arguments_split in
        let a = length-append argument_run.values (replace_arguments head v Γ C (arguments_of (drop (i + 1) ps))).values in omega (arith, s, z, a)

    pub argument_fault : (x : Excess) → PassesLimit argument_run x → PassesLimit (replace_arguments head v Γ A (arguments_of ps)) x
    argument_fault x f = fault_within _ _ _ x g.follows (subst (λ ws. (w : Polynomial) × Contains ws w × ExceedsAs x w) (sym arguments_split) (fault_left _ _ x f))

  pub passing_ends : (ps out : List Poly) (B : Ty) (i : ℕ) → Passing head v Γ A ps out B i → length ps ≤ i
      → (arguments_of out ≡ (replace_arguments head v Γ A (arguments_of ps)).result) × Within (replace_arguments head v Γ A (arguments_of ps)).values
  passing_ends ps out B i g l =
      let end : replace_arguments head v Γ B (arguments_of (drop i ps)) ≡ pure no_arguments = ap (replace_arguments head v Γ B) (arguments_ended ps i l) ∙ nothing_left B in (
        sym (g.same ∙ ap (λ run. arguments_followed_by (arguments_of out) run.result) end ∙ followed_by_none (arguments_of out)),
        all_within _ _ _ g.follows (subst (λ run. Within run.values) (sym end) (λ w c h. let z = c.1 in omega (arith, z))) (λ h. h),
      )
    where
      nothing_left : (B : Ty) → replace_arguments head v Γ B no_arguments ≡ pure no_arguments
      nothing_left (sort s) = refl
      nothing_left (B ⇒ C) = refl

-- applications
pub record Applying (Γ : List Ty) (A : Ty) (g : Polynomial) (ps : List Poly) (B : Ty) (p : Polynomial) (i : ℕ) : Type 0 where
  pub same : (applied A Γ g (arguments_of ps)).result ≡ (applied B Γ p (arguments_of (drop i ps))).result
  pub follows : Follows (applied A Γ g (arguments_of ps)).values (applied B Γ p (arguments_of (drop i ps))).values ⊥
  pub normal : Normal (Γ ++ arguments B) p
  pub arguments : NormalArguments Γ B (arguments_of (drop i ps))

module _ (Γ : List Ty) (A : Ty) (g : Polynomial) where
  pub applying_starts : (ps : List Poly) → Normal (Γ ++ arguments A) g → NormalArguments Γ A (arguments_of ps) → Applying Γ A g ps A g 0
  applying_starts ps n m = record { same = refl; follows = follows_itself _ _; normal = n; arguments = m }

  module _ (ps : List Poly) (K : Ty) (p : Polynomial) (i : ℕ) (q : Poly) (f : Applying Γ A g ps K p i) (l : i < length ps) (e : q ≡ get_or ps i q) where
    pub argument_fits : NormalFor Γ K (poly q)
    argument_fits = first_fits K (subst (NormalArguments Γ K) (arguments_drop ps i q l e) f.arguments)
      where
        first_fits : (K : Ty) → NormalArguments Γ K (argument (poly q) (arguments_of (drop (i + 1) ps))) → NormalFor Γ K (poly q)
        first_fits (sort s) n = n
        first_fits (B ⇒ C) n = n.0

    module _ (B C : Ty) (k : K ≡ (B ⇒ C)) where
      applied_left : applied K Γ p (arguments_of (drop i ps)) ≡ applied (B ⇒ C) Γ p (argument (poly q) (arguments_of (drop (i + 1) ps)))
      applied_left = ap₂ (λ K qs. applied K Γ p qs) k (arguments_drop ps i q l e)

      one_left : apply_at K Γ p (poly q) ≡ apply_at (B ⇒ C) Γ p (poly q)
      one_left = ap (λ K. apply_at K Γ p (poly q)) k

      applied_split : (applied K Γ p (arguments_of (drop i ps))).values
          ≡ (apply_at K Γ p (poly q)).values ++ (applied C Γ (apply_at K Γ p (poly q)).result (arguments_of (drop (i + 1) ps))).values
      applied_split = ap (λ run. run.values) applied_left
          ∙ ap (λ run. run.values ++ (applied C Γ run.result (arguments_of (drop (i + 1) ps))).values) (sym one_left)

      pub applying_steps : (r : Polynomial) (D : Ty) → (r ≡ (apply_at K Γ p (poly q)).result) × Within (apply_at K Γ p (poly q)).values → D ≡ C → Applying Γ A g ps D r (i + 1)
      applying_steps r D (s, w) d = subst (λ D. Applying Γ A g ps D r (i + 1)) (sym d) (record {
        same = f.same ∙ ap (λ run. run.result) applied_left ∙ ap (λ run. (applied C Γ run.result (arguments_of (drop (i + 1) ps))).result) (sym one_left)
            ∙ ap (λ r. (applied C Γ r (arguments_of (drop (i + 1) ps))).result) (sym s);
        follows = follows_on _ _ (apply_at K Γ p (poly q)).values _ ⊥ ⊥ f.follows
            (applied_split ∙ ap (λ r. (apply_at K Γ p (poly q)).values ++ (applied C Γ r (arguments_of (drop (i + 1) ps))).values) (sym s)) w (λ h. h);
        normal = subst (Normal (Γ ++ arguments C)) (sym (s ∙ ap (λ run. run.result) one_left))
            (normal_apply_one B C Γ p (poly q) (subst (λ K. Normal (Γ ++ arguments K) p) k f.normal) (subst (λ K. NormalFor Γ K (poly q)) k argument_fits));
        arguments = (subst (λ K. NormalArguments Γ K (argument (poly q) (arguments_of (drop (i + 1) ps)))) k (subst (NormalArguments Γ K) (arguments_drop ps i q l e) f.arguments)).1;
      })

      pub application_shorter : length (apply_at K Γ p (poly q)).values < length (applied A Γ g (arguments_of ps)).values
      application_shorter =
          let s = f.follows.shorter in let z = ap length applied_split in
          let n = applied_notes C Γ (apply_at K Γ p (poly q)).result (arguments_of (drop (i + 1) ps)) in
          let a = length-append (apply_at K Γ p (poly q)).values (applied C Γ (apply_at K Γ p (poly q)).result (arguments_of (drop (i + 1) ps))).values in omega (arith, s, z, n, a)

      pub application_fault : (x : Excess) → PassesLimit (apply_at K Γ p (poly q)) x → PassesLimit (applied A Γ g (arguments_of ps)) x
      application_fault x h = fault_within _ _ _ x f.follows (subst (λ ws. (w : Polynomial) × Contains ws w × ExceedsAs x w) (sym applied_split) (fault_left _ _ x h))

  applied_end : (B : Ty) (p : Polynomial) → applied B Γ p no_arguments ≡ one p
  applied_end (sort s) p = refl
  applied_end (B ⇒ C) p = refl

  pub applying_ends : (ps : List Poly) (B : Ty) (p r : Polynomial) (i : ℕ) → Applying Γ A g ps B p i → length ps ≤ i → (r ≡ p) × (Exceeds r → ⊥)
      → (r ≡ (applied A Γ g (arguments_of ps)).result) × Within (applied A Γ g (arguments_of ps)).values
  applying_ends ps B p r i f l (e, n) =
      let end = ap (applied B Γ p) (arguments_ended ps i l) ∙ applied_end B p in (
        e ∙ sym (f.same ∙ ap (λ run. run.result) end),
        all_within _ _ _ f.follows (subst (λ run. Within run.values) (sym end) (within_one p (subst (λ p. Exceeds p → ⊥) e n))) (λ h. h),
      )

  pub last_fault : (ps : List Poly) (B : Ty) (p : Polynomial) (i : ℕ) (x : Excess) → Applying Γ A g ps B p i → length ps ≤ i → ExceedsAs x p → PassesLimit (applied A Γ g (arguments_of ps)) x
  last_fault ps B p i x f l h =
      fault_within _ _ _ x f.follows (subst (λ run. PassesLimit run x) (sym (ap (applied B Γ p) (arguments_ended ps i l) ∙ applied_end B p)) (p, first_is_there p [], h))

-- one application of a value of a functional type
pub apply_is : (K A B C : Ty) (Γ : List Ty) (n : ℕ) (g p : Polynomial) → K ≡ (A ⇒ B) → n ≡ length Γ → C ≡ A → replace (head_by C n p) n (Γ ++ arguments K) zero_poly g ≡ apply_at K Γ g p
apply_is K A B C Γ n g p k e c =
    ap (λ C. replace (head_by C n p) n (Γ ++ arguments K) zero_poly g) c
    ∙ ap (λ n. replace (head_by A n p) n (Γ ++ arguments K) zero_poly g) e
    ∙ ap (λ K. replace (head_by A (length Γ) p) (length Γ) (Γ ++ arguments K) zero_poly g) k
    ∙ sym (ap (λ K. apply_at K Γ g p) k)

-- one factor
module _ (A : Ty) (n : ℕ) (g : Polynomial) (Γ Δ : List Ty) (r : Replaces A n g Γ Δ) (x : ℕ) (ps : Arguments) (B : Ty) (a : HasType Γ x B) where
  abbrev passed : Run Arguments
  passed = replace_arguments (head_by A n g) n Γ B ps

  factor_is : replace_factor (head_by A n g) n Γ x ps ≡ next passed (λ qs. if x == n then head_by A n g (without n Γ) qs else one (atom (down n x) qs))
  factor_is = ap (λ C. next (replace_arguments (head_by A n g) n Γ C ps) (λ qs. if x == n then head_by A n g (without n Γ) qs else one (atom (down n x) qs))) (type_is Γ x B a)

  factor_is_applied : x ≡ n → replace_factor (head_by A n g) n Γ x ps ≡ next passed (λ qs. applied A Δ (widened n Δ g) qs)
  factor_is_applied e = factor_is
      ∙ (let b : (x == n) ≡ true = grind (arith, e) in ap (λ b. next passed (λ qs. if b then head_by A n g (without n Γ) qs else one (atom (down n x) qs))) b)
      ∙ ap (λ Θ. next passed (λ qs. applied A Θ (widened n Θ g) qs)) (without_it A n g Γ Δ r)

  factor_is_atom : (x ≡ n → ⊥) → replace_factor (head_by A n g) n Γ x ps ≡ next passed (λ qs. one (atom (down n x) qs))
  factor_is_atom d = factor_is
      ∙ (let b : (x == n) ≡ false = grind (arith, d) in ap (λ b. next passed (λ qs. if b then head_by A n g (without n Γ) qs else one (atom (down n x) qs))) b)

  pub passed_shorter : length passed.values ≤ length (replace_factor (head_by A n g) n Γ x ps).values
  passed_shorter =
      let z = ap (λ run. length run.values) factor_is in
      let l = length-append passed.values (if x == n then head_by A n g (without n Γ) passed.result else one (atom (down n x) passed.result)).values in omega (arith, z, l)

  pub passed_fault : (e : Excess) → PassesLimit passed e → PassesLimit (replace_factor (head_by A n g) n Γ x ps) e
  passed_fault e f = subst (λ run. PassesLimit run e) (sym factor_is) (fault_left passed.values _ e f)

  -- the type of the variable, and its value where it stands
  variable_type : x ≡ n → A ≡ B
  variable_type e = same_places A n g Γ Δ r (λ n Γ Δ. HasType Γ n B → A ≡ B) (at_itself r.around A r.behind B) (subst (λ x. HasType Γ x B) e a)

  pub passed_normal : x ≡ n → NormalArguments Γ B ps → (qs : Arguments) → qs ≡ passed.result → NormalArguments Δ A qs
  passed_normal e m qs k = subst₂ (λ C qs. NormalArguments Δ C qs) (sym (variable_type e)) (sym k) (arguments_normal A n g Γ Δ r B ps m)

  pub moved_normal : (value : Polynomial) → value ≡ widened n Δ g → Normal (Δ ++ arguments A) value
  moved_normal value e = subst (Normal (Δ ++ arguments A)) (sym e)
      (same_places A n g Γ Δ r (λ n Γ Δ. Normal (Δ ++ arguments A) (widened n Δ g)) (normal_moved r.around r.behind (arguments A) g r.normal))

  module _ (e : x ≡ n) (qs : Arguments) (value : Polynomial) (k : qs ≡ passed.result) (m : value ≡ widened n Δ g) where
    applied_now : applied A Δ (widened n Δ g) passed.result ≡ applied A Δ value qs
    applied_now = ap₂ (applied A Δ) (sym m) (sym k)

    values_split : (replace_factor (head_by A n g) n Γ x ps).values ≡ passed.values ++ (applied A Δ value qs).values
    values_split = ap (λ run. run.values) (factor_is_applied e) ∙ ap (λ run. passed.values ++ run.values) applied_now

    pub applied_shorter : length (applied A Δ value qs).values ≤ length (replace_factor (head_by A n g) n Γ x ps).values
    applied_shorter = let z = ap length values_split in let l = length-append passed.values (applied A Δ value qs).values in omega (arith, z, l)

    pub applied_comes : (p : Polynomial) → Within passed.values → ComesTo (applied A Δ value qs) p → ComesTo (replace_factor (head_by A n g) n Γ x ps) p
    applied_comes p w (c, v) = (
      c ∙ sym (ap (λ run. run.result) (factor_is_applied e) ∙ ap (λ run. run.result) applied_now),
      subst Within (sym values_split) (within_both passed.values (applied A Δ value qs).values w v),
    )

    pub applied_fault : (y : Excess) → PassesLimit (applied A Δ value qs) y → PassesLimit (replace_factor (head_by A n g) n Γ x ps) y
    applied_fault y f = subst (λ ws. (w : Polynomial) × Contains ws w × ExceedsAs y w) (sym values_split) (fault_right passed.values _ y f)

  module _ (d : x ≡ n → ⊥) (qs : Arguments) (p : Polynomial) (k : qs ≡ passed.result) (m : p ≡ atom (down n x) qs) where
    atom_now : atom (down n x) passed.result ≡ p
    atom_now = ap (atom (down n x)) (sym k) ∙ sym m

    atom_values : (replace_factor (head_by A n g) n Γ x ps).values ≡ passed.values ++ p ∷ []
    atom_values = ap (λ run. run.values) (factor_is_atom d) ∙ ap (λ p. passed.values ++ p ∷ []) atom_now

    pub atom_comes : (r : Polynomial) → Within passed.values → (r ≡ p) × (Exceeds r → ⊥) → ComesTo (replace_factor (head_by A n g) n Γ x ps) r
    atom_comes r w (c, v) = (
      c ∙ sym (ap (λ run. run.result) (factor_is_atom d) ∙ atom_now),
      subst Within (sym atom_values) (within_both passed.values (p ∷ []) w (within_one p (subst (λ p. Exceeds p → ⊥) c v))),
    )

    pub atom_fault : (y : Excess) → ExceedsAs y p → PassesLimit (replace_factor (head_by A n g) n Γ x ps) y
    atom_fault y h = subst (λ ws. (w : Polynomial) × Contains ws w × ExceedsAs y w) (sym atom_values) (fault_right passed.values (p ∷ []) y (p, first_is_there p [], h))

-- a factor without arguments
pub alone_is : (ps : Arguments) (us : List Poly) → ps ≡ arguments_of us → length us ≤ 0 → ps ≡ no_arguments
alone_is ps [] e l = e
alone_is ps (u ∷ us) e l = absurd (omega (arith, l))

applied_to_none : (A : Ty) (Γ : List Ty) (g : Polynomial) → applied A Γ g no_arguments ≡ one g
applied_to_none (sort s) Γ g = refl
applied_to_none (A ⇒ B) Γ g = refl

pub variable_alone : (head : List Ty → Arguments → Run Polynomial) (n : ℕ) (Γ : List Ty) (x : ℕ) (ps : Arguments) → ps ≡ no_arguments → (x ≡ n → ⊥)
    → replace_factor head n Γ x ps ≡ one (atom (down n x) no_arguments)
variable_alone head n Γ x ps e d =
    ap (replace_factor head n Γ x) e
    ∙ (let b : (x == n) ≡ false = grind (arith, d) in ap (λ b. if b then head (without n Γ) no_arguments else one (atom (down n x) no_arguments)) b)

pub value_alone : (A : Ty) (n : ℕ) (g : Polynomial) (Γ Δ : List Ty) (x : ℕ) (ps : Arguments) → Replaces A n g Γ Δ → ps ≡ no_arguments → x ≡ n
    → replace_factor (head_by A n g) n Γ x ps ≡ one (widened n Δ g)
value_alone A n g Γ Δ x ps r e d =
    ap (replace_factor (head_by A n g) n Γ x) e
    ∙ (let b : (x == n) ≡ true = grind (arith, d) in ap (λ b. if b then head_by A n g (without n Γ) no_arguments else one (atom (down n x) no_arguments)) b)
    ∙ applied_to_none A (without n Γ) (widened n (without n Γ) g) ∙ ap (λ Θ. one (widened n Θ g)) (without_it A n g Γ Δ r)

-- and a product with it
pub product_comes : (run : Run Polynomial) (p q r : Polynomial) → ComesTo run q → (r ≡ multiply p q) → (Exceeds r → ⊥) → ComesTo (product_with p run) r
product_comes run p q r (e, w) k f =
    let s : r ≡ multiply p run.result = k ∙ ap (multiply p) e in
    (s, within_both run.values (multiply p run.result ∷ []) w (within_one (multiply p run.result) (subst (λ r. Exceeds r → ⊥) s f)))

pub product_passes : (run : Run Polynomial) (p q : Polynomial) (x : Excess) → q ≡ run.result → ExceedsAs x (multiply p q) → PassesLimit (product_with p run) x
product_passes run p q x e h = fault_right run.values (multiply p run.result ∷ []) x (multiply p run.result, first_is_there (multiply p run.result) [], subst (λ q. ExceedsAs x (multiply p q)) e h)

pub factor_passes : (run : Run Polynomial) (p : Polynomial) (x : Excess) → PassesLimit run x → PassesLimit (product_with p run) x
factor_passes run p x f = fault_left run.values (multiply p run.result ∷ []) x f

pub one_comes : (q : Polynomial) → (Exceeds q → ⊥) → ComesTo (one q) q
one_comes q f = (refl, within_one q f)

pub one_passes : (q : Polynomial) (x : Excess) → ExceedsAs x q → PassesLimit (one q) x
one_passes q x h = (q, first_is_there q [], h)

pub variable_within : (x : ℕ) → Exceeds (atom x no_arguments) → ⊥
variable_within x (inl (inl h)) = omega (arith, h)
variable_within x (inl (inr h)) = h
variable_within x (inr (inl h)) = omega (arith, h)
variable_within x (inr (inr h)) = omega (arith, h)
