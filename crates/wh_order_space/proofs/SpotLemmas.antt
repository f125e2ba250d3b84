-- Tables of where the bits of symbols stand.
use Rattle.std.proofs.Common.{◌≡◌, ℕ, zero, suc, ◌+◌, ◌-◌, ◌<◌, ◌≤◌, ◌⊎◌, inl, inr, List, [], ◌∷◌, ◌++◌, length, get_or, refl, ap, ap₂, sym, ◌∙◌, subst, Option, Some, None, slice_get, arith}
use Rattle.std.specs.Global.{Vec}
use Rattle.std.specs.Prelude.{SomeIff}
use Rattle.wh_types.specs.declared.simple_type.SimpleType.{SimpleType}
use Rattle.wh_order_demands.specs.declared.view.Spot.{Spot}
use Rattle.wh_order_space.specs.Spotted.{IsNumberOf, IsNumber, IsSpotAt, IsSpotted, AreSpotted}

one_of : {A : Type 0} {a b : A} → Some a ≡ Some b → a ≡ b
one_of e = cc

spotted_at : (spots : List (Option Spot)) (found : Option Spot) (m : ℕ) (spot : Spot) → slice_get (spots ++ found ∷ []) m ≡ Some (Some spot)
    → (slice_get spots m ≡ Some (Some spot)) ⊎ ((m ≡ length spots) × (found ≡ Some spot))
spotted_at [] found zero spot e = inr (refl, one_of e)
spotted_at [] found (suc m) spot e = absurd (cc)
spotted_at (s ∷ spots) found zero spot e = inl e
spotted_at (s ∷ spots) found (suc m) spot e = elim (spotted_at spots found m spot e) [ inl h ↦ inl h | inr h ↦ inr (ap suc h.0, h.1) ]

module _ (symbols : ℕ) (marked : List ℕ) (scopes : List (Vec SimpleType)) (firsts : List ℕ) where
  pub spotted_none : AreSpotted symbols marked scopes firsts []
  spotted_none m spot e = absurd (cc)

  at_end : (m : ℕ) (number : Option ℕ) (spot : Spot) → IsNumber symbols marked m number → IsSpotted scopes firsts number (Some spot)
      → (n : ℕ) × IsNumberOf symbols marked m n × IsSpotAt scopes firsts n spot
  at_end m None spot i s = absurd (cc)
  at_end m (Some n) spot i s = (n, i, s)

  -- one more spot
  pub spotted_more : (spots : List (Option Spot)) (number : Option ℕ) (found : Option Spot) → AreSpotted symbols marked scopes firsts spots
      → IsNumber symbols marked (length spots) number → IsSpotted scopes firsts number found → AreSpotted symbols marked scopes firsts (spots ++ found ∷ [])
  spotted_more spots number found before is spotted m spot e = elim (spotted_at spots found m spot e) [
    | inl h ↦ before m spot h
    | inr (last, one) ↦
        at_end m number spot (subst (λ k. IsNumber symbols marked k number) (sym last) is) (subst (IsSpotted scopes firsts number) one spotted)
  ]

-- the number of a symbol of its own, and of a marked one
pub own_number : (symbols : ℕ) (marked : List ℕ) (m : ℕ) → m < symbols → IsNumber symbols marked m (Some m)
own_number symbols marked m l = inl (refl, l)

pub mark_number : (symbols : ℕ) (marked : List ℕ) (m place : ℕ) (found : Option ℕ) → symbols ≤ m → slice_get marked place ≡ Some (m - symbols)
    → ((n : ℕ) → found ≡ Some n → n ≡ symbols + place) → IsNumber symbols marked m found
mark_number symbols marked m place None from at sum = tt
mark_number symbols marked m place (Some n) from at sum = inr (place, m - symbols, sum n refl, at, omega (arith, from))

-- a sum, where there is one
pub added : (found : Option ℕ) (fits : Type 0) (sum : ℕ) → SomeIff found fits sum → (n : ℕ) → found ≡ Some n → n ≡ sum
added None fits sum is n e = absurd (cc)
added (Some m) fits sum is n e = sym (one_of e) ∙ is.1

-- the place of a mark that is found
pub place_told : (marked : List ℕ) (symbol place mark : ℕ) → place < length marked → mark ≡ get_or marked place 0 → mark ≡ symbol
    → (i : ℕ) → Some place ≡ Some i → slice_get marked i ≡ Some symbol
place_told marked symbol place mark l at is i e =
    subst (λ i. slice_get marked i ≡ Some symbol) (one_of e) (there marked place l ∙ ap Some (sym at ∙ is))
  where
    there : (xs : List ℕ) (n : ℕ) → n < length xs → slice_get xs n ≡ Some (get_or xs n 0)
    there [] n l = absurd (omega (arith, l))
    there (x ∷ xs) zero l = refl
    there (x ∷ xs) (suc n) l = there xs n (omega (arith, l))

-- the spot that is made of the tables
pub spot_told : (scopes : List (Vec SimpleType)) (firsts : List ℕ) (n first places : ℕ) (scope : Vec SimpleType) → n < length scopes → scope ≡ get_or scopes n scope
    → first ≡ get_or firsts n 0 → places ≡ length scope.items → IsSpotAt scopes firsts n (record { first = first; places = places })
spot_told scopes firsts n first places scope l at is count = record {
  types = scope;
  is = there scopes n l ∙ ap Some (sym at);
  same = ap₂ spot_of is count;
}
  where
    spot_of : ℕ → ℕ → Spot
    spot_of x k = record { first = x; places = k }

    there : (xs : List (Vec SimpleType)) (n : ℕ) → n < length xs → slice_get xs n ≡ Some (get_or xs n scope)
    there [] n l = absurd (omega (arith, l))
    there (x ∷ xs) zero l = refl
    there (x ∷ xs) (suc n) l = there xs n (omega (arith, l))
