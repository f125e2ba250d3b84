-- The numbers of what is used.
use Rattle.std.proofs.Common.{◌≡◌, ℕ, zero, suc, ◌+◌, inl, inr, List, [], ◌∷◌, ◌++◌, length, drop, Some, slice_get, Contains, refl, ap, sym, subst, ◌∙◌, arith}
use Rattle.std.specs.Global.{Vec}
use Rattle.std.proofs.lemmas.Option.{slice_get_within, slice_get_past, none-some, same_Some}
use Rattle.std.proofs.lemmas.List.Elements.{Contains-append_left, Contains-append_right, Contains-append_cases}
use Rattle.std.proofs.lemmas.List.{length_push}
use Rattle.wh_poly_guesses.specs.declared.uses.Uses.{Uses}
use Rattle.wh_poly_space.proofs.PushLemmas.{EachAt, each_push, slice_get_push}
use Rattle.wh_poly_blocking.specs.Numbers.{AreNumbers, HaveSame, on_sides}
use Rattle.std.specs.List.{flat_map}

-- the list has the numbers of what is used at that place
abbrev pub OfUses : List Uses → ℕ → Vec ℕ → Type 0
OfUses uses k ns = (r : Uses) → slice_get uses k ≡ Some r → HaveSame ns.items (on_sides r)

-- the last list joins those of all
pub numbers_end : (rules : ℕ) (uses : List Uses) (made new : List (Vec ℕ)) (last : Vec ℕ) → new ≡ made ++ last ∷ [] → length made ≡ length uses
    → EachAt (OfUses uses) made → HaveSame last.items (flat_map on_sides (drop rules uses)) → AreNumbers rules uses new
numbers_end rules uses made new last is count each all = record {
  count = ap length is ∙ length_push made last ∙ ap (λ n. n + 1) count;
  each = λ k r ns read at. each_push (OfUses uses) made new last is each
      (λ r' past. absurd (none-some r' (sym (slice_get_past uses (length made) (omega (arith, count))) ∙ past))) k ns at r read;
  last = λ ns at. elim (slice_get_push made last (length uses) ns (sym (ap (λ (l : List (Vec ℕ)). slice_get l (length uses)) is) ∙ at)) [
    | inl before ↦ absurd (omega (arith, slice_get_within made (length uses) ns before, count))
    | inr (place, same) ↦ subst (λ (v : Vec ℕ). HaveSame v.items (flat_map on_sides (drop rules uses))) same all
  ];
}

-- what is in lists that are joined is in one of them
pub flat_contains : {X : Type 0} (f : X → List ℕ) (xs : List X) (n : ℕ) → Contains (flat_map f xs) n → (x : X) × Contains xs x × Contains (f x) n
flat_contains f [] n found = absurd (omega (arith, found.1))
flat_contains f (x ∷ xs) n found = elim (Contains-append_cases (f x) (flat_map f xs) n found) [
  | inl here ↦ (x, (0, omega arith, refl), here)
  | inr later ↦ let r = flat_contains f xs n later in (r.0, Contains-append_right (x ∷ []) xs r.0 r.1, r.2)
]

pub contains_flat : {X : Type 0} (f : X → List ℕ) (xs : List X) (n i : ℕ) (x : X) → slice_get xs i ≡ Some x → Contains (f x) n → Contains (flat_map f xs) n
contains_flat f [] n i x at found = absurd (none-some x at)
contains_flat f (y ∷ xs) n zero x at found = Contains-append_left (f y) (flat_map f xs) n (subst (λ z. Contains (f z) n) (sym (same_Some y x at)) found)
contains_flat f (y ∷ xs) n (suc i) x at found = Contains-append_right (f y) (flat_map f xs) n (contains_flat f xs n i x at found)
