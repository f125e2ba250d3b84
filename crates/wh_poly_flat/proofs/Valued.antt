-- What flat sides evaluate to: linear polynomials, whose totals are what the sides are worth, and no value on the way
-- exceeds a limit.
use Rattle.std.proofs.Common.{◌≡◌, ℕ, zero, suc, ◌+◌, ◌*◌, ◌-◌, ◌<◌, ◌≤◌, ◌^◌, ◌==◌, if◌then◌else◌, true, false, List, ◌∷◌, ◌++◌, length, refl, ap, ap₂, ◌∙◌, sym, subst, arith}
use Rattle.std.proofs.Math.Nat.{pow-le-pow_right}
use Rattle.std.proofs.lemmas.Nat.{pow-add}
use Rattle.wh_types.specs.Ty.{Ty, sort, ◌⇒◌, arguments}
use Rattle.wh_terms.specs.Tree.{Tm, bound, free, fun, meta, lam, app, none, more}
use Rattle.wh_poly.specs.Polynomials.{Polynomial, zero_poly}
use Rattle.wh_hopoly.specs.Evaluation.{Run, type_at, Interpretation, interpretation_at, type_of, codomain, evaluate, apply_one, down, TypedExpression}
use Rattle.wh_poly.specs.Added.{variable}
use Rattle.wh_hopoly.proofs.RunLaws.{Within, within_one, within_both}
use Rattle.wh_polycheck.specs.Sides.{side}
use Rattle.wh_usable_first_order.specs.FirstOrder.{AreSorts}
use Rattle.wh_poly_flat.specs.Flat.{occurrences}
use Rattle.wh_poly_flat.specs.Worth.{coefficient, worth, symbol_in, places_in}
use Rattle.wh_poly_flat.proofs.Totals.{IsLinear, total, spread, total_renumber, spread_renumber, linear_renumber}
use Rattle.wh_poly_flat.proofs.Light.{each_one, each_two, light_fits}
use Rattle.wh_poly_flat.proofs.Replaced.{put_at, replaced_total, replaced_spread, replaced_linear, replaced_within}
use Rattle.wh_poly_flat.proofs.Tails.{sum_to, tail, sum_alike, tail_alike, coefficient_small, tail_small, sum_two}

-- the same weights but for one

put_here : (n here : ℕ) (at : ℕ → ℕ) → put_at n here at (n + 0) ≡ here
put_here n here at = let e : n + 0 ≡ n = omega arith in let h : ((n + 0) == n) ≡ true = grind (arith, e) in
    ap (λ b. if b then here else at (down n (n + 0))) h

put_later : (n here : ℕ) (at : ℕ → ℕ) (i : ℕ) → put_at n here at (n + suc i) ≡ at (n + i)
put_later n here at i =
    let h : ((n + suc i) == n) ≡ false = grind arith in
    let k : down n (n + suc i) ≡ n + i = grind arith in
    ap (λ b. if b then here else at (down n (n + suc i))) h ∙ ap at k

put_low : (n here : ℕ) (at : ℕ → ℕ) (x : ℕ) → x < n → put_at n here at x ≡ at x
put_low n here at x less =
    let h : (x == n) ≡ false = grind (arith, less) in
    let k : down n x ≡ x = grind (arith, less) in
    ap (λ b. if b then here else at (down n x)) h ∙ ap at k

-- a bound of the sum a + c * b, where c is at most 3, by the bounds of a and b
two_parts : (x y : ℕ) → (4 + x) + 3 * (4 + y) ≤ (4 + x) * (4 + y) + 3
two_parts x y = omega arith

pub product_bound : (X Y a b c : ℕ) → 4 ≤ X → 4 ≤ Y → a + 1 ≤ X → b + 1 ≤ Y → c ≤ 3 → a + c * b + 1 ≤ X * Y
product_bound X Y a b c hx hy ha hb hc = go (X - 4) (Y - 4) (omega (arith, hx)) (omega (arith, hy))
  where
    times_three : (c b : ℕ) → c ≤ 3 → c * b ≤ 3 * b
    times_three zero b h = omega arith
    times_three (suc zero) b h = omega arith
    times_three (suc (suc zero)) b h = omega arith
    times_three (suc (suc (suc zero))) b h = omega arith
    times_three (suc (suc (suc (suc c)))) b h = absurd (omega (arith, h))

    go : (x y : ℕ) → X ≡ 4 + x → Y ≡ 4 + y → a + c * b + 1 ≤ X * Y
    go x y ex ey =
        let t = two_parts x y in
        let m = times_three c b hc in
        subst (λ X. a + c * b + 1 ≤ X * Y) (sym ex) (subst (λ Y. a + c * b + 1 ≤ (4 + x) * Y) (sym ey) (omega (arith, t, m, ha, hb, ex, ey)))

pub power_at_least : (k : ℕ) → 1 ≤ k → 4 ≤ 2 ^ (2 * k)
power_at_least k h = let e : 2 ^ 2 ≤ 2 ^ (2 * k) = pow-le-pow_right {n = 2} (omega arith) {i = 2} {j = 2 * k} (omega (arith, h)) in e

module _ (I : List Interpretation) (Γ : List Ty) (lists : List (List ℕ)) where
  -- the symbol is linear in arguments of sorts, with the coefficients of its list
  pub record IsLinearSymbol (f : ℕ) : Type 0 where
    pub sorts : AreSorts (arguments (interpretation_at I f).kind)
    pub few : length (arguments (interpretation_at I f).kind) ≤ 32
    pub linear : IsLinear (length (arguments (interpretation_at I f).kind)) (interpretation_at I f).polynomial
    pub total : (first : ℕ) (at : ℕ → ℕ) → total first at (interpretation_at I f).polynomial
        ≡ coefficient lists f 0 * first + tail lists f 0 (length (arguments (interpretation_at I f).kind)) at
    pub spread : (first : ℕ) (at : ℕ → ℕ) → spread first at (interpretation_at I f).polynomial
        ≤ first + sum_to (length (arguments (interpretation_at I f).kind)) at

  -- so are all symbols of the tree, and its meta-variables are of a sort
  abbrev pub IsRead : Tm → Type 0
  IsRead (fun f) = IsLinearSymbol f
  IsRead (meta z none) = (z < length Γ) × ((s : ℕ) × (type_at Γ z ≡ sort s))
  IsRead (app t u) = IsRead t × IsRead u
  IsRead _ = ⊥

  -- how wide the polynomial of a tree is at most
  abbrev width_of : ℕ → (ℕ → ℕ) → Tm → ℕ
  width_of first at (fun f) = first
  width_of first at (meta z ts) = at z
  width_of first at (app t u) = width_of first at t + width_of first at u
  width_of first at _ = 0

  worth_alike : (first : ℕ) (at to : ℕ → ℕ) (t : Tm) → IsRead t → ((x : ℕ) → x < length Γ → at x ≡ to x)
      → worth lists first at t ≡ worth lists first to t
  worth_alike first at to (fun f) r alike = refl
  worth_alike first at to (meta z none) r alike = alike z r.0
  worth_alike first at to (meta z (more t ts)) r alike = absurd r
  worth_alike first at to (app t u) r alike = ap₂ (λ a b. a + coefficient lists (symbol_in t) (suc (places_in t)) * b)
      (worth_alike first at to t r.0 alike) (worth_alike first at to u r.1 alike)
  worth_alike first at to (bound i) r alike = absurd r
  worth_alike first at to (free x a) r alike = absurd r
  worth_alike first at to (lam a t) r alike = absurd r

  width_alike : (first : ℕ) (at to : ℕ → ℕ) (t : Tm) → IsRead t → ((x : ℕ) → x < length Γ → at x ≡ to x)
      → width_of first at t ≡ width_of first to t
  width_alike first at to (fun f) r alike = refl
  width_alike first at to (meta z none) r alike = alike z r.0
  width_alike first at to (meta z (more t ts)) r alike = absurd r
  width_alike first at to (app t u) r alike = ap₂ (λ a b. a + b) (width_alike first at to t r.0 alike) (width_alike first at to u r.1 alike)
  width_alike first at to (bound i) r alike = absurd r
  width_alike first at to (free x a) r alike = absurd r
  width_alike first at to (lam a t) r alike = absurd r

  occurs_some : (t : Tm) → IsRead t → 1 ≤ occurrences t
  occurs_some (fun f) r = omega arith
  occurs_some (meta z none) r = omega arith
  occurs_some (meta z (more t ts)) r = absurd r
  occurs_some (app t u) r = let e = occurs_some t r.0 in omega (arith, e)
  occurs_some (bound i) r = absurd r
  occurs_some (free x a) r = absurd r
  occurs_some (lam a t) r = absurd r

  worth_small : (t : Tm) → IsRead t → worth lists 1 each_one t + 1 ≤ 2 ^ (2 * occurrences t)
  worth_small (fun f) r = let c = coefficient_small lists f 0 in let p = power_at_least 1 (omega arith) in omega (arith, c, p)
  worth_small (meta z none) r = let p = power_at_least 1 (omega arith) in omega (arith, p)
  worth_small (meta z (more t ts)) r = absurd r
  worth_small (app t u) r =
      let e : 2 * (occurrences t + occurrences u) ≡ 2 * occurrences t + 2 * occurrences u = omega arith in
      let p : 2 ^ (2 * (occurrences t + occurrences u)) ≡ 2 ^ (2 * occurrences t) * 2 ^ (2 * occurrences u) =
      ap (λ k. 2 ^ k) e ∙ pow-add 2 (2 * occurrences t) (2 * occurrences u) in
      subst (λ k. worth lists 1 each_one (app t u) + 1 ≤ k) (sym p)
      (product_bound (2 ^ (2 * occurrences t)) (2 ^ (2 * occurrences u)) (worth lists 1 each_one t) (worth lists 1 each_one u)
      (coefficient lists (symbol_in t) (suc (places_in t)))
      (power_at_least (occurrences t) (occurs_some t r.0)) (power_at_least (occurrences u) (occurs_some u r.1))
      (worth_small t r.0) (worth_small u r.1) (coefficient_small lists (symbol_in t) (suc (places_in t))))
  worth_small (bound i) r = absurd r
  worth_small (free x a) r = absurd r
  worth_small (lam a t) r = absurd r

  width_small : (t : Tm) → IsRead t → width_of 1 each_two t ≤ 2 * occurrences t
  width_small (fun f) r = omega arith
  width_small (meta z none) r = omega arith
  width_small (meta z (more t ts)) r = absurd r
  width_small (app t u) r = let a = width_small t r.0 in let b = width_small u r.1 in omega (arith, a, b)
  width_small (bound i) r = absurd r
  width_small (free x a) r = absurd r
  width_small (lam a t) r = absurd r

  -- the value of a tree of the type A, with the arguments that are still to come
  pub record IsLine (t : Tm) (A : Ty) (p : Polynomial) : Type 0 where
    pub sorts : AreSorts (arguments A)
    pub few : length (arguments A) ≤ 32
    pub linear : IsLinear (length Γ + length (arguments A)) p
    pub total : (first : ℕ) (at : ℕ → ℕ) → total first at p
        ≡ worth lists first at t + tail lists (symbol_in t) (places_in t) (length (arguments A)) (λ i. at (length Γ + i))
    pub spread : (first : ℕ) (at : ℕ → ℕ) → spread first at p
        ≤ width_of first at t + sum_to (length (arguments A)) (λ i. at (length Γ + i))

  -- values of trees that are not large are small
  pub line_small : (t : Tm) (A : Ty) (p : Polynomial) → IsRead t → IsLine t A p → occurrences t ≤ 60 → total 1 each_one p < 2 ^ 128
  line_small t A p r l h =
      let w = worth_small t r in
      let m : 2 ^ (2 * occurrences t) ≤ 2 ^ 120 = pow-le-pow_right {n = 2} (omega arith) {i = 2 * occurrences t} {j = 120} (omega (arith, h)) in
      let e = l.total 1 each_one in
      let b = tail_small lists (symbol_in t) (places_in t) (length (arguments A)) in
      let f = l.few in
      let big : 2 ^ 120 + 96 < 2 ^ 128 = omega arith in
      omega (arith, w, m, e, b, f, big)

  pub line_few : (t : Tm) (A : Ty) (p : Polynomial) → IsRead t → IsLine t A p → occurrences t ≤ 60 → spread 1 each_two p ≤ 65536
  line_few t A p r l h =
      let w = width_small t r in
      let e = l.spread 1 each_two in
      let s = sum_two (length (arguments A)) in
      let f = l.few in
      omega (arith, w, e, s, f, h)

  module _ (t u : Tm) (rt : IsRead t) (s : ℕ) (B : Ty) (g q : Polynomial)
      (lt : IsLine t (sort s ⇒ B) g) (lu : IsLine u (sort s) q) where
    abbrev more_of : ℕ
    more_of = length (arguments B)

    le_more : length Γ ≤ length Γ + more_of
    le_more = omega arith

    q_linear : IsLinear (length Γ) q
    q_linear = let e : length Γ + length (arguments (sort s)) ≡ length Γ = omega arith in subst (λ n. IsLinear n q) e lu.linear

    g_linear : IsLinear (suc (length Γ + more_of)) g
    g_linear = let e : length Γ + length (arguments (sort s ⇒ B)) ≡ suc (length Γ + more_of) = omega arith in
        subst (λ n. IsLinear n g) e lt.linear

    abbrev made : Run Polynomial
    made = apply_one (sort s) B Γ g q

    q_total : (first : ℕ) (at : ℕ → ℕ) → total first at q ≡ worth lists first at u
    q_total first at = lu.total first at ∙ omega arith

    q_spread : (first : ℕ) (at : ℕ → ℕ) → spread first at q ≤ width_of first at u
    q_spread first at = let e = lu.spread first at in omega (arith, e)

    -- what the value of the function comes to where its argument is known
    put_total : (first : ℕ) (at : ℕ → ℕ) → total first (put_at (length Γ) (total first at q) at) g
        ≡ worth lists first at (app t u) + tail lists (symbol_in t) (suc (places_in t)) more_of (λ i. at (length Γ + i))
    put_total first at =
        let to = put_at (length Γ) (total first at q) at in
        let a = lt.total first to in
        let b = worth_alike first to at t rt (λ x h. put_low (length Γ) (total first at q) at x h) in
        let c = put_here (length Γ) (total first at q) at ∙ q_total first at in
        let d = tail_alike lists (symbol_in t) (suc (places_in t)) more_of (λ i. to (length Γ + suc i)) (λ i. at (length Γ + i))
        (put_later (length Γ) (total first at q) at) in
        a ∙ ap₂ (λ x y. x + y) b (ap₂ (λ x y. coefficient lists (symbol_in t) (suc (places_in t)) * x + y) c d) ∙ omega arith

    put_spread : (first : ℕ) (at : ℕ → ℕ) → spread first (put_at (length Γ) (spread first at q) at) g
        ≤ width_of first at (app t u) + sum_to more_of (λ i. at (length Γ + i))
    put_spread first at =
        let to = put_at (length Γ) (spread first at q) at in
        let a = lt.spread first to in
        let b = width_alike first to at t rt (λ x h. put_low (length Γ) (spread first at q) at x h) in
        let c = put_here (length Γ) (spread first at q) at in
        let k = q_spread first at in
        let d = sum_alike more_of (λ i. to (length Γ + suc i)) (λ i. at (length Γ + i)) (put_later (length Γ) (spread first at q) at) in
        omega (arith, a, b, c, k, d)

    applied_line : IsLine (app t u) B made.result
    applied_line = record {
      sorts = lt.sorts;
      few = (let f = lt.few in omega (arith, f));
      linear = replaced_linear (length Γ) (length Γ + more_of) le_more q q_linear (Γ ++ sort s ∷ arguments B) zero_poly g tt g_linear;
      total = λ first at. replaced_total (length Γ) (length Γ + more_of) le_more q q_linear (Γ ++ sort s ∷ arguments B) first at zero_poly g g_linear
          ∙ (let e = put_total first at in omega (arith, e));
      spread = λ first at. (let a = replaced_spread (length Γ) (length Γ + more_of) le_more q q_linear (Γ ++ sort s ∷ arguments B) first at zero_poly g g_linear in
          let b = put_spread first at in omega (arith, a, b));
    }

    applied_within : IsRead u → occurrences t + occurrences u ≤ 60 → Within made.values
    applied_within ru h =
        replaced_within (length Γ) (length Γ + more_of) le_more q q_linear (Γ ++ sort s ∷ arguments B) zero_poly g tt g_linear (record {
          value_small = line_small u (sort s) q ru lu (omega (arith, h));
          value_few = line_few u (sort s) q ru lu (omega (arith, h));
          own_small = line_small t (sort s ⇒ B) g rt lt (omega (arith, h));
          all_small = (let a = line_small (app t u) B made.result (rt, ru) applied_line h in
              let b = applied_line.total 1 each_one in let c = put_total 1 each_one in omega (arith, a, b, c));
          all_few = (let w = width_small (app t u) (rt, ru) in let c = put_spread 1 each_two in
              let k = sum_two more_of in let f = lt.few in omega (arith, w, c, k, f, h));
        })

  -- the same where the types are known by equations
  abbrev IsApplied : Tm → Tm → Ty → Ty → Polynomial → Polynomial → Type 0
  IsApplied t u A C g q =
      IsLine t C g → IsLine u A q
      → IsLine (app t u) (codomain C) (apply_one A (codomain C) Γ g q).result
      × (IsRead u → occurrences t + occurrences u ≤ 60 → Within (apply_one A (codomain C) Γ g q).values)

  applied_at : (t u : Tm) → IsRead t → (A B : Ty) (g q : Polynomial) → IsApplied t u A (A ⇒ B) g q
  applied_at t u rt (sort s) B g q lt lu = (applied_line t u rt s B g q lt lu, applied_within t u rt s B g q lt lu)
  applied_at t u rt (a ⇒ b) B g q lt lu = absurd lt.sorts

  applied_by : (t u : Tm) → IsRead t → (A B C : Ty) (g q : Polynomial) → C ≡ (A ⇒ B) → IsApplied t u A C g q
  applied_by t u rt A B C g q e = subst (λ C. IsApplied t u A C g q) (sym e) (applied_at t u rt A B g q)

  abbrev pub run_of : Tm → Run Polynomial
  run_of t = evaluate I Γ (side (length Γ) t)

  abbrev pub kind_of : Tm → Ty
  kind_of t = type_of I Γ (side (length Γ) t)

  meta_line : (z s : ℕ) (A : Ty) → A ≡ sort s → z < length Γ → IsLine (meta z none) A (variable A (length Γ) z)
  meta_line z s A e h = subst (λ A. IsLine (meta z none) A (variable A (length Γ) z)) (sym e) (record {
    sorts = tt;
    few = omega arith;
    linear = (omega (arith, h), tt);
    total = λ first at. omega arith;
    spread = λ first at. omega arith;
  })

  pub tree_line : (t : Tm) → IsRead t → TypedExpression I Γ (side (length Γ) t) → IsLine t (kind_of t) (run_of t).result
  tree_line (fun f) r d = record {
    sorts = r.sorts;
    few = r.few;
    linear = linear_renumber (length (arguments (interpretation_at I f).kind)) _ (λ i. length Γ + i) (interpretation_at I f).polynomial
        (λ i h. omega (arith, h)) r.linear;
    total = λ first at. total_renumber first at (λ i. length Γ + i) (interpretation_at I f).polynomial ∙ r.total first (λ i. at (length Γ + i));
    spread = λ first at. (let a = spread_renumber first at (λ i. length Γ + i) (interpretation_at I f).polynomial in
        let b = r.spread first (λ i. at (length Γ + i)) in omega (arith, a, b));
  }
  tree_line (meta z none) r d = meta_line z r.1.0 (type_at Γ z) r.1.1 r.0
  tree_line (meta z (more t ts)) r d = absurd r
  tree_line (app t u) r d =
      (applied_by t u r.0 (kind_of u) d.2 (kind_of t) (run_of t).result (run_of u).result d.3
      (tree_line t r.0 d.0) (tree_line u r.1 d.1)).0
  tree_line (bound i) r d = absurd r
  tree_line (free x a) r d = absurd r
  tree_line (lam a t) r d = absurd r

  pub tree_within : (t : Tm) → IsRead t → TypedExpression I Γ (side (length Γ) t) → occurrences t ≤ 60 → Within (run_of t).values
  tree_within (fun f) r d h = within_one (run_of (fun f)).result (light_fits (run_of (fun f)).result (record {
    scope = _;
    linear = (tree_line (fun f) r d).linear;
    small = line_small (fun f) (kind_of (fun f)) (run_of (fun f)).result r (tree_line (fun f) r d) h;
    few = line_few (fun f) (kind_of (fun f)) (run_of (fun f)).result r (tree_line (fun f) r d) h;
  }))
  tree_within (meta z none) r d h = within_one (run_of (meta z none)).result (light_fits (run_of (meta z none)).result (record {
    scope = _;
    linear = (tree_line (meta z none) r d).linear;
    small = line_small (meta z none) (kind_of (meta z none)) (run_of (meta z none)).result r (tree_line (meta z none) r d) h;
    few = line_few (meta z none) (kind_of (meta z none)) (run_of (meta z none)).result r (tree_line (meta z none) r d) h;
  }))
  tree_within (meta z (more t ts)) r d h = absurd r
  tree_within (app t u) r d h =
      within_both (run_of t).values _ (tree_within t r.0 d.0 (omega (arith, h)))
      (within_both (run_of u).values _ (tree_within u r.1 d.1 (omega (arith, h)))
      ((applied_by t u r.0 (kind_of u) d.2 (kind_of t) (run_of t).result (run_of u).result d.3
      (tree_line t r.0 d.0) (tree_line u r.1 d.1)).1 r.1 h))
  tree_within (bound i) r d h = absurd r
  tree_within (free x a) r d h = absurd r
  tree_within (lam a t) r d h = absurd r
