-- A table of the numbers of first bits.
use Rattle.std.proofs.Common.{◌≡◌, ℕ, zero, suc, ◌+◌, ◌*◌, ◌<◌, ◌≤◌, inl, inr, List, [], ◌∷◌, ◌++◌, length, get_or, refl, ap, sym, ◌∙◌, arith}
use Rattle.std.specs.Global.{Vec}
use Rattle.std.proofs.lemmas.Bool.{cases_eq}
use Rattle.std.proofs.lemmas.List.{get_or_push, get_or_append_left, length-map}
use Rattle.wh_types.specs.Ty.{Ty}
use Rattle.wh_types.specs.Erase.{tys}
use Rattle.wh_types.specs.declared.simple_type.SimpleType.{SimpleType}
use Rattle.wh_order_space.specs.Bits.{bits_of, first_bit}
use Rattle.wh_order_space.specs.Spotted.{types_in}

pub first_zero : (b : ℕ) (scopes : List (List Ty)) → first_bit b scopes 0 ≡ 0
first_zero b [] = refl
first_zero b (cs ∷ scopes) = refl

pub first_next : (b : ℕ) (scopes : List (List Ty)) (i : ℕ) (d : List Ty) → i < length scopes
    → first_bit b scopes (suc i) ≡ first_bit b scopes i + bits_of b (get_or scopes i d)
first_next b [] i d within = absurd (omega (arith, within))
first_next b (cs ∷ scopes) zero d within = omega (arith, first_zero b scopes)
first_next b (cs ∷ scopes) (suc i) d within = omega (arith, first_next b scopes i d (omega (arith, within)))

pub firsts_start : (b : ℕ) (scopes : List (Vec SimpleType)) (items : List ℕ) → items ≡ 0 ∷ [] → (n : ℕ) → n ≤ 0
    → get_or items n 0 ≡ first_bit b (types_in scopes) n
firsts_start b scopes items is n none =
    let e : n ≡ 0 = omega (arith, none) in
    ap (λ l. get_or l n 0) is ∙ ap (λ i. get_or (0 ∷ []) i 0) e ∙ sym (first_zero b (types_in scopes)) ∙ ap (first_bit b (types_in scopes)) (sym e)

pub map_get : (scopes : List (Vec SimpleType)) (i : ℕ) (d : Vec SimpleType) → i < length scopes → get_or (types_in scopes) i (tys d.items) ≡ tys (get_or scopes i d).items
map_get [] i d within = absurd (omega (arith, within))
map_get (s ∷ scopes) zero d within = refl
map_get (s ∷ scopes) (suc i) d within = map_get scopes i d (omega (arith, within))

-- the number of the next first bit
pub first_after : (b : ℕ) (scopes : List (Vec SimpleType)) (i before after places : ℕ) (scope : Vec SimpleType) → i < length scopes
    → scope ≡ get_or scopes i scope → places ≡ length scope.items → before ≡ first_bit b (types_in scopes) i → after ≡ before + (2 * places + b)
    → after ≡ first_bit b (types_in scopes) (suc i)
first_after b scopes i before after places scope within scope_is places_are start sum =
    let long : length (types_in scopes) ≡ length scopes = length-map scopes (λ (l : Vec SimpleType). tys l.items) in
    let next = first_next b (types_in scopes) i (tys scope.items) (omega (arith, within, long)) in
    let here : get_or (types_in scopes) i (tys scope.items) ≡ tys scope.items =
    map_get scopes i scope within ∙ ap (λ (s : Vec SimpleType). tys s.items) (sym scope_is) in
    let many = ap (bits_of b) here in
    let count : length (tys scope.items) ≡ length scope.items = tys_long scope.items in
    omega (arith, sum, start, next, many, count, places_are)
  where
    tys_long : (ks : List SimpleType) → length (tys ks) ≡ length ks
    tys_long [] = refl
    tys_long (t ∷ ks) = ap suc (tys_long ks)

pub firsts_next : (b : ℕ) (scopes : List (Vec SimpleType)) (items new : List ℕ) (i total : ℕ) → new ≡ items ++ total ∷ [] → length items ≡ i + 1
    → total ≡ first_bit b (types_in scopes) (suc i)
    → ((n : ℕ) → n ≤ i → get_or items n 0 ≡ first_bit b (types_in scopes) n) → (n : ℕ) → n ≤ i + 1
    → get_or new n 0 ≡ first_bit b (types_in scopes) n
firsts_next b scopes items new i total is long sum before n within = elim (cases_eq n (suc i)) [
  | inl here ↦
      ap (λ l. get_or l n 0) is ∙ get_or_push items total 0 n (omega (arith, long, here)) ∙ sum ∙ ap (first_bit b (types_in scopes)) (sym here)
  | inr other ↦
      let u : n ≤ i = omega (arith, within, other) in
      ap (λ l. get_or l n 0) is ∙ get_or_append_left items (total ∷ []) 0 n (omega (arith, long, u)) ∙ before n u
]
