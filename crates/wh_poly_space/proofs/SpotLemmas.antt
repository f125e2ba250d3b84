-- Each monomial of the space is at a spot, and stands at the spot's place.
use Rattle.std.proofs.Common.{◌≡◌, ◌≢◌, ℕ, zero, suc, ◌+◌, ◌<◌, ◌≤◌, ◌⊎◌, inl, inr, nat_lt, Bool, true, false, not, cond, List, [], ◌∷◌, ◌++◌, length, map, take, get_or, append_assoc, All, Contains, Some, slice_get, refl, ap, ap₂, sym, subst, ◌∙◌, arith}
use Rattle.std.proofs.lemmas.Bool.Decides.{nat_tests}
use Rattle.std.proofs.lemmas.Option.{none-some, same_Some, slice_get-get_or}
use Rattle.std.proofs.lemmas.List.{length-map, map-append, take_more, append-nil}
use Rattle.std.proofs.lemmas.List.Elements.{All-contains, All-contains_itself, All-map, All-weaker, Contains-append_cases}
use Rattle.wh_types.specs.Ty.{Ty}
use Rattle.wh_poly.specs.Polynomials.{Factors, no_factors}
use Rattle.wh_hopoly.specs.Evaluation.{type_at}
use Rattle.wh_poly_space.specs.Space.{is_sort, variables_where, sort_variables, functional_variables, variable_before, alone, both, products, space_of}
use Rattle.wh_poly_space.specs.Spots.{IsSpot, factors_at, spot_of_two, rows_of, spots_by, weight_before, sorts_before, functional_before, products_before, alone_place, row_place, place}
use Rattle.wh_poly_space.specs.declared.space.Spot.{Spot}
use Rattle.wh_poly_space.specs.declared.space.Spot.TheVariants.{Constant, One, Two}

abbrev pub functional : Ty → Bool
functional A = not (is_sort A)

-- an element of a joined list is of the first one, or of the second one
pub at_append : {A : Type 0} (xs ys : List A) (i : ℕ) (y : A) → slice_get (xs ++ ys) i ≡ Some y → (slice_get xs i ≡ Some y) ⊎ ((k : ℕ) × (i ≡ length xs + k) × (slice_get ys k ≡ Some y))
at_append [] ys i y at = inr (i, omega arith, at)
at_append (x ∷ xs) ys zero y at = inl at
at_append (x ∷ xs) ys (suc i) y at = elim (at_append xs ys i y at) [
  | inl here ↦ inl here
  | inr (k, is, there) ↦ inr (k, omega (arith, is), there)
]

-- an element of a mapped list comes from one of the list
at_map : (f : ℕ → Factors) (xs : List ℕ) (i : ℕ) (us : Factors) → slice_get (map f xs) i ≡ Some us → (x : ℕ) × (slice_get xs i ≡ Some x) × (f x ≡ us)
at_map f [] i us at = absurd (none-some us at)
at_map f (x ∷ xs) zero us at = (x, refl, same_Some (f x) us at)
at_map f (x ∷ xs) (suc i) us at = at_map f xs i us at

-- a listed variable, with how many stand before it
pub record IsListed (test : Ty → Bool) (weight : Ty → ℕ) (n : ℕ) (Γ : List Ty) (k x : ℕ) : Type 0 where
  pub number : ℕ
  pub is : x ≡ n + number
  pub within : number < length Γ
  pub passes : test (type_at Γ number) ≡ true
  pub before : weight_before weight Γ number ≡ k

variable_at : (test : Ty → Bool) (weight : Ty → ℕ) → ((A : Ty) → weight A ≡ cond (test A) 1 0) → (n : ℕ) (Γ : List Ty) (k x : ℕ)
    → slice_get (variables_where test n Γ) k ≡ Some x → IsListed test weight n Γ k x
variable_at test weight counts n [] k x at = absurd (none-some x at)
variable_at test weight counts n (A ∷ Γ) k x at = by (test A) refl k at (λ k there. variable_at test weight counts (suc n) Γ k x there)
  where
    later : (k j : ℕ) → IsListed test weight (suc n) Γ k x → weight A + k ≡ j → IsListed test weight n (A ∷ Γ) j x
    later k j h is =
        record { number = suc h.number; is = omega (arith, h.is); within = omega (arith, h.within); passes = h.passes; before = omega (arith, h.before, is) }

    by : (b : Bool) → test A ≡ b → (k : ℕ) → slice_get (cond b (n ∷ variables_where test (suc n) Γ) (variables_where test (suc n) Γ)) k ≡ Some x → ((k : ℕ) → slice_get (variables_where test (suc n) Γ) k ≡ Some x → IsListed test weight (suc n) Γ k x) → IsListed test weight n (A ∷ Γ) k x
    by true is zero at rest = let e : n ≡ x = same_Some n x at in record { number = 0; is = omega (arith, e); within = omega arith; passes = is; before = refl }
    by true is (suc k) at rest = let w : weight A ≡ 1 = counts A ∙ ap (λ (b : Bool). cond b 1 0) is in later k (suc k) (rest k at) (omega (arith, w))
    by false is k at rest = let w : weight A ≡ 0 = counts A ∙ ap (λ (b : Bool). cond b 1 0) is in later k k (rest k at) (omega (arith, w))

pub sort_at : (Γ : List Ty) (k x : ℕ) → slice_get (sort_variables Γ) k ≡ Some x → IsListed is_sort (λ A. cond (is_sort A) 1 0) 0 Γ k x
sort_at Γ k x at = variable_at is_sort (λ A. cond (is_sort A) 1 0) (λ A. refl) 0 Γ k x at

pub functional_at : (Γ : List Ty) (k x : ℕ) → slice_get (functional_variables Γ) k ≡ Some x → IsListed functional (λ A. cond (is_sort A) 0 1) 0 Γ k x
functional_at Γ k x at = variable_at functional (λ A. cond (is_sort A) 0 1) (λ A. counted (is_sort A)) 0 Γ k x at
  where
    counted : (b : Bool) → ◌≡◌ {A = ℕ} (cond b 0 1) (cond (not b) 1 0)
    counted true = refl
    counted false = refl

-- a product, with how many stand before its row
record IsProduct (Γ : List Ty) (n : ℕ) (Δ : List Ty) (j : ℕ) (us : Factors) : Type 0 where
  pub number : ℕ
  pub in_row : ℕ
  pub other : ℕ
  pub within : number < length Δ
  pub is_functional : is_sort (type_at Δ number) ≡ false
  pub listed : slice_get (sort_variables Γ) in_row ≡ Some other
  pub is : us ≡ both Γ (n + number) other
  pub before : products_before (length (sort_variables Γ)) Δ number + in_row ≡ j

product_at : (Γ : List Ty) (n : ℕ) (Δ : List Ty) (j : ℕ) (us : Factors) → slice_get (products Γ (variables_where functional n Δ)) j ≡ Some us → IsProduct Γ n Δ j us
product_at Γ n [] j us at = absurd (none-some us at)
product_at Γ n (A ∷ Δ) j us at = by (is_sort A) refl at (λ k there. product_at Γ (suc n) Δ k us there)
  where
    later : (k : ℕ) → IsProduct Γ (suc n) Δ k us → cond (is_sort A) 0 (length (sort_variables Γ)) + k ≡ j → IsProduct Γ n (A ∷ Δ) j us
    later k h is =
        let e : suc n + h.number ≡ n + suc h.number = omega arith in
        record {
          number = suc h.number;
          in_row = h.in_row;
          other = h.other;
          within = omega (arith, h.within);
          is_functional = h.is_functional;
          listed = h.listed;
          is = h.is ∙ ap (λ (x : ℕ). both Γ x h.other) e;
          before = omega (arith, h.before, is);
        }

    by : (b : Bool) → is_sort A ≡ b
        → slice_get (products Γ (cond (not b) (n ∷ variables_where functional (suc n) Δ) (variables_where functional (suc n) Δ))) j ≡ Some us → ((k : ℕ) → slice_get (products Γ (variables_where functional (suc n) Δ)) k ≡ Some us → IsProduct Γ (suc n) Δ k us) → IsProduct Γ n (A ∷ Δ) j us
    by true is at rest = let w : cond (is_sort A) 0 (length (sort_variables Γ)) ≡ 0 = ap (λ (b : Bool). cond b 0 (length (sort_variables Γ))) is in later j (rest j at) (omega (arith, w))
    by false is at rest = elim (at_append (map (both Γ n) (sort_variables Γ)) (products Γ (variables_where functional (suc n) Δ)) j us at) [
      | inl here ↦
          let (y, listed, made) = at_map (both Γ n) (sort_variables Γ) j us here in
          let e : n ≡ n + 0 = omega arith in
          record {
            number = 0;
            in_row = j;
            other = y;
            within = omega arith;
            is_functional = is;
            listed = listed;
            is = sym made ∙ ap (λ (x : ℕ). both Γ x y) e;
            before = omega arith;
          }
      | inr (k, past, there) ↦
          let w : cond (is_sort A) 0 (length (sort_variables Γ)) ≡ length (sort_variables Γ) = ap (λ (b : Bool). cond b 0 (length (sort_variables Γ))) is in
          later k (rest k there) (omega (arith, w, past, length-map (sort_variables Γ) (both Γ n)))
    ]

-- the places of variables

sort_place : (Γ : List Ty) (x : ℕ) → is_sort (type_at Γ x) ≡ true → alone_place Γ x ≡ 1 + sorts_before Γ x
sort_place Γ x is = ap (λ (b : Bool). cond b (1 + sorts_before Γ x) (1 + (length (sort_variables Γ) + functional_before Γ x))) is

functional_place : (Γ : List Ty) (x : ℕ) → is_sort (type_at Γ x) ≡ false → alone_place Γ x ≡ 1 + (length (sort_variables Γ) + functional_before Γ x)
functional_place Γ x is = ap (λ (b : Bool). cond b (1 + sorts_before Γ x) (1 + (length (sort_variables Γ) + functional_before Γ x))) is

abbrev row_start : List Ty → ℕ → ℕ
row_start Γ x = 1 + (length (sort_variables Γ) + (length (functional_variables Γ) + products_before (length (sort_variables Γ)) Γ x))

sort_row : (Γ : List Ty) (x : ℕ) → is_sort (type_at Γ x) ≡ true → row_place Γ x ≡ sorts_before Γ x
sort_row Γ x is = ap (λ (b : Bool). cond b (sorts_before Γ x) (row_start Γ x)) is

functional_row : (Γ : List Ty) (x : ℕ) → is_sort (type_at Γ x) ≡ false → row_place Γ x ≡ row_start Γ x
functional_row Γ x is = ap (λ (b : Bool). cond b (sorts_before Γ x) (row_start Γ x)) is

not_true : (b : Bool) → not b ≡ true → b ≡ false
not_true true e = cc
not_true false e = refl

apart_kinds : (a b : Bool) → a ≡ true → b ≡ false → a ≢ b
apart_kinds a b e f same = absurd (cc)

-- the spot of a product
record IsSpotOf (Γ : List Ty) (j : ℕ) (us : Factors) (s : Spot) : Type 0 where
  pub is : IsSpot Γ s
  pub factors : factors_at Γ s ≡ us
  pub place : place Γ s ≡ j

two_spot : (Γ : List Ty) (x y : ℕ) → x < length Γ → y < length Γ → is_sort (type_at Γ x) ≡ false → is_sort (type_at Γ y) ≡ true
    → IsSpotOf Γ (row_place Γ x + row_place Γ y) (both Γ x y) (spot_of_two x y)
two_spot Γ x y in_x in_y is_x is_y = by (nat_lt x y) refl
  where
    by : (b : Bool) → nat_lt x y ≡ b
        → IsSpotOf Γ (row_place Γ x + row_place Γ y) (cond b (variable_before Γ x (alone Γ y)) (variable_before Γ y (alone Γ x))) (cond b (Two x y) (Two y x))
    by true t =
        let less : x < y = grind (arith, nat_tests, t) in
        record { is = (less, in_y, λ same. apart_kinds (is_sort (type_at Γ y)) (is_sort (type_at Γ x)) is_y is_x (sym same)); factors = refl; place = refl }
    by false t =
        let least : y ≤ x = grind (arith, nat_tests, t) in
        let apart : y ≡ x → ⊥ = λ same. apart_kinds (is_sort (type_at Γ y)) (is_sort (type_at Γ x)) is_y is_x (ap (λ (z : ℕ). is_sort (type_at Γ z)) same) in
        record { is = (omega (arith, least, apart), in_x, apart_kinds (is_sort (type_at Γ y)) (is_sort (type_at Γ x)) is_y is_x); factors = refl; place = omega arith }

-- the monomial with the number j is at a spot whose place is j
pub spot_at : (Γ : List Ty) (j : ℕ) (us : Factors) → slice_get (space_of Γ) j ≡ Some us → (s : Spot) × IsSpot Γ s × (factors_at Γ s ≡ us) × (place Γ s ≡ j)
unfolding space_of
spot_at Γ zero us at = (Constant, tt, same_Some no_factors us at, refl)
spot_at Γ (suc j) us at =
    elim (at_append (map (alone Γ) (sort_variables Γ)) (map (alone Γ) (functional_variables Γ) ++ products Γ (functional_variables Γ)) j us at) [
      | inl here ↦
          let (x, listed, made) = at_map (alone Γ) (sort_variables Γ) j us here in
          let h = sort_at Γ j x listed in
          let e : h.number ≡ x = omega (arith, h.is) in (
            One x,
            omega (arith, h.within, e),
            made,
            ap (alone_place Γ) (sym e) ∙ sort_place Γ h.number h.passes ∙ (let p = h.before in omega (arith, p)),
          )
      | inr (k, past, behind) ↦ elim (at_append (map (alone Γ) (functional_variables Γ)) (products Γ (functional_variables Γ)) k us behind) [
        | inl here ↦
            let (x, listed, made) = at_map (alone Γ) (functional_variables Γ) k us here in
            let h = functional_at Γ k x listed in
            let e : h.number ≡ x = omega (arith, h.is) in
            let at_x = ap (alone_place Γ) (sym e) ∙ functional_place Γ h.number (not_true (is_sort (type_at Γ h.number)) h.passes) in
            (One x, omega (arith, h.within, e), made, omega (arith, at_x, h.before, past, length-map (sort_variables Γ) (alone Γ)))
        | inr (l, further, there) ↦
            let p = product_at Γ 0 Γ l us there in
            let h = sort_at Γ p.in_row p.other p.listed in
            let e : h.number ≡ p.other = omega (arith, h.is) in
            let is_y : is_sort (type_at Γ p.other) ≡ true = ap (λ (y : ℕ). is_sort (type_at Γ y)) (sym e) ∙ h.passes in
            let two = two_spot Γ p.number p.other p.within (omega (arith, h.within, e)) p.is_functional is_y in
            let f : 0 + p.number ≡ p.number = omega arith in
            let row_x = functional_row Γ p.number p.is_functional in
            let row_y = sort_row Γ p.other is_y ∙ ap (sorts_before Γ) (sym e) ∙ h.before in (
              spot_of_two p.number p.other,
              two.is,
              two.factors ∙ ap (λ (x : ℕ). both Γ x p.other) (sym f) ∙ sym p.is,
              two.place ∙ omega (arith, row_x, row_y, p.before, past, further, length-map (sort_variables Γ) (alone Γ), length-map (functional_variables Γ) (alone Γ)),
            )
      ]
    ]

-- the spots that are listed in the order of the space

pub space_of_spots : (Γ : List Ty) → map (factors_at Γ) (spots_by (sort_variables Γ) (functional_variables Γ)) ≡ space_of Γ
unfolding space_of
space_of_spots Γ =
    let sorts = sort_variables Γ in
    let others = functional_variables Γ in
    ap (λ l. no_factors ∷ l)
    (map-append (factors_at Γ) (map One sorts) (map One others ++ rows_of others sorts)
    ∙ ap₂ (λ l m. l ++ m) (of_alone sorts)
    (map-append (factors_at Γ) (map One others) (rows_of others sorts) ∙ ap₂ (λ l m. l ++ m) (of_alone others) (of_rows others sorts refl)))
  where
    of_alone : (xs : List ℕ) → map (factors_at Γ) (map One xs) ≡ map (alone Γ) xs
    of_alone [] = refl
    of_alone (x ∷ xs) = ap (λ l. alone Γ x ∷ l) (of_alone xs)

    of_two : (x y : ℕ) → factors_at Γ (spot_of_two x y) ≡ both Γ x y
    of_two x y = by (nat_lt x y)
      where
        by : (b : Bool) → factors_at Γ (cond b (Two x y) (Two y x)) ≡ cond b (variable_before Γ x (alone Γ y)) (variable_before Γ y (alone Γ x))
        by true = refl
        by false = refl

    of_row : (x : ℕ) (ys : List ℕ) → map (factors_at Γ) (map (spot_of_two x) ys) ≡ map (both Γ x) ys
    of_row x [] = refl
    of_row x (y ∷ ys) = ap₂ (λ u l. u ∷ l) (of_two x y) (of_row x ys)

    of_rows : (xs : List ℕ) (ys : List ℕ) → ys ≡ sort_variables Γ → map (factors_at Γ) (rows_of xs ys) ≡ products Γ xs
    of_rows [] ys is = refl
    of_rows (x ∷ xs) ys is =
        map-append (factors_at Γ) (map (spot_of_two x) ys) (rows_of xs ys)
        ∙ ap₂ (λ l m. l ++ m) (of_row x ys ∙ ap (map (both Γ x)) is) (of_rows xs ys is)

pub spots_are : (Γ : List Ty) → All (IsSpot Γ) (spots_by (sort_variables Γ) (functional_variables Γ))
spots_are Γ =
    let spots = spots_by (sort_variables Γ) (functional_variables Γ) in
    All-weaker (Contains spots) (IsSpot Γ) each spots (All-contains_itself spots)
  where
    sort_there : (y : ℕ) → Contains (sort_variables Γ) y → (y < length Γ) × (is_sort (type_at Γ y) ≡ true)
    sort_there y (k, within, is) =
        let h = sort_at Γ k y (slice_get-get_or (sort_variables Γ) k y within ∙ ap Some is) in
        let e : h.number ≡ y = omega (arith, h.is) in
        (omega (arith, h.within, e), ap (λ (y : ℕ). is_sort (type_at Γ y)) (sym e) ∙ h.passes)

    functional_there : (x : ℕ) → Contains (functional_variables Γ) x → (x < length Γ) × (is_sort (type_at Γ x) ≡ false)
    functional_there x (k, within, is) =
        let h = functional_at Γ k x (slice_get-get_or (functional_variables Γ) k x within ∙ ap Some is) in
        let e : h.number ≡ x = omega (arith, h.is) in
        (omega (arith, h.within, e), ap (λ (x : ℕ). is_sort (type_at Γ x)) (sym e) ∙ not_true (is_sort (type_at Γ h.number)) h.passes)

    mapped_is : (f : ℕ → Spot) (xs : List ℕ) → ((x : ℕ) → Contains xs x → IsSpot Γ (f x)) → (s : Spot) → Contains (map f xs) s → IsSpot Γ s
    mapped_is f xs all s found =
        All-contains (IsSpot Γ) (map f xs) s (All-map (IsSpot Γ) f xs (All-weaker (Contains xs) (λ x. IsSpot Γ (f x)) all xs (All-contains_itself xs))) found

    in_rows : (xs : List ℕ) → ((x : ℕ) → Contains xs x → (x < length Γ) × (is_sort (type_at Γ x) ≡ false)) → (s : Spot) → Contains (rows_of xs (sort_variables Γ)) s → IsSpot Γ s
    in_rows [] all s (k, within, is) = absurd (omega (arith, within))
    in_rows (x ∷ xs) all s found = elim (Contains-append_cases (map (spot_of_two x) (sort_variables Γ)) (rows_of xs (sort_variables Γ)) s found) [
      | inl here ↦ mapped_is (spot_of_two x) (sort_variables Γ) (λ y there.
          let (in_x, is_x) = all x (0, omega arith, refl) in
          let (in_y, is_y) = sort_there y there in
          let two = two_spot Γ x y in_x in_y is_x is_y in two.is) s here
      | inr later ↦ in_rows xs (λ y (k, within, is). all y (suc k, omega (arith, within), is)) s later
    ]

    each : (s : Spot) → Contains (spots_by (sort_variables Γ) (functional_variables Γ)) s → IsSpot Γ s
    each s (zero, within, is) = subst (IsSpot Γ) is tt
    each s (suc k, within, is) =
        elim (Contains-append_cases (map One (sort_variables Γ)) (map One (functional_variables Γ) ++ rows_of (functional_variables Γ) (sort_variables Γ)) s (k, omega (arith, within), is)) [
          | inl sorted ↦ mapped_is One (sort_variables Γ) (λ x there. (sort_there x there).0) s sorted
          | inr behind ↦ elim (Contains-append_cases (map One (functional_variables Γ)) (rows_of (functional_variables Γ) (sort_variables Γ)) s behind) [
            | inl single ↦ mapped_is One (functional_variables Γ) (λ x there. (functional_there x there).0) s single
            | inr product ↦ in_rows (functional_variables Γ) functional_there s product
          ]
        ]

-- rows and lists that join one after another

pub rows_more : (xs ys : List ℕ) (i : ℕ) → i < length xs → rows_of (take (i + 1) xs) ys ≡ rows_of (take i xs) ys ++ map (spot_of_two (get_or xs i 0)) ys
rows_more xs ys i within = ap (λ l. rows_of l ys) (take_more xs i 0 within) ∙ push (take i xs)
  where
    push : (zs : List ℕ) → rows_of (zs ++ get_or xs i 0 ∷ []) ys ≡ rows_of zs ys ++ map (spot_of_two (get_or xs i 0)) ys
    push [] = append-nil (map (spot_of_two (get_or xs i 0)) ys)
    push (z ∷ zs) = ap (λ l. map (spot_of_two z) ys ++ l) (push zs) ∙ sym (append_assoc (map (spot_of_two z) ys) (rows_of zs ys) (map (spot_of_two (get_or xs i 0)) ys))

pub spots_made : (Γ : List Ty) (sorts others : List ℕ) (one two three four : List Spot) → sorts ≡ sort_variables Γ → others ≡ functional_variables Γ
    → one ≡ Constant ∷ [] → two ≡ one ++ map One sorts → three ≡ two ++ map One others → four ≡ three ++ rows_of others sorts
    → four ≡ spots_by (sort_variables Γ) (functional_variables Γ)
spots_made Γ sorts others one two three four is_s is_o first second third fourth =
    fourth ∙ ap (λ l. l ++ rows_of others sorts) (third ∙ ap (λ l. l ++ map One others) (second ∙ ap (λ l. l ++ map One sorts) first))
    ∙ ap (λ l. Constant ∷ l) (append_assoc (map One sorts) (map One others) (rows_of others sorts))
    ∙ ap₂ spots_by is_s is_o
