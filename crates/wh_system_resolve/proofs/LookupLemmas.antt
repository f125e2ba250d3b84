-- The binders passed and the names in scope, as the walk finds them.
use Rattle.std.proofs.Common.{◌≡◌, ℕ, ◌+◌, ◌-◌, ◌<◌, List, [], ◌∷◌, ◌++◌, Some, None, Bool, cond, not, map, reverse, length, get_or, refl, ap, ap₂, sym, ◌∙◌, arith}
use Rattle.std.specs.Prelude.{position, nat_lt, slice_index_or}
use Rattle.std.specs.List.{position_or_len}
use Rattle.std.proofs.lemmas.List.{get_or-reverse, get_or-map}
use Rattle.std.proofs.lemmas.List.Quantifiers.{position-Some}
use Rattle.std.proofs.lemmas.List.{length-reverse, reverse-append, map-append, length-map}
use Rattle.wh_types.specs.Erase.{ty}
use Rattle.wh_text.specs.RawTree.{Binder}
use Rattle.wh_text.specs.Erase.{rbinder}
use Rattle.wh_system_parts.specs.Naming.{binder_number, same_binder}
use Rattle.wh_system_parts.specs.Kinds.{TypedBinder, binders_of}
use Rattle.wh_system_resolve.specs.InScope.{typed_binder, typed, nearest}
use Rattle.wh_system_resolve.specs.declared.around.Around.{Around}

map-reverse : {X Y : Type 0} (f : X → Y) (xs : List X) → map f (reverse xs) ≡ reverse (map f xs)
map-reverse f [] = refl
map-reverse f (x ∷ xs) =
    ap (map f) (reverse-append (x ∷ []) xs) ∙ map-append f (reverse xs) (x ∷ []) ∙ ap (λ l. l ++ f x ∷ []) (map-reverse f xs) ∙ sym (reverse-append (f x ∷ []) (map f xs))

module _ {X Y : Type 0} (f : X → Y) (p : Y → Bool) where
  position_or_len-map : (xs : List X) → position_or_len p (map f xs) ≡ position_or_len (λ x. p (f x)) xs
  position_or_len-map [] = refl
  position_or_len-map (x ∷ xs) = ap (λ n. cond (not (p (f x))) (1 + n) 0) (position_or_len-map xs)

  position-map : (xs : List X) → position p (map f xs) ≡ position (λ x. p (f x)) xs
  position-map xs = ap₂ (λ n m. cond (nat_lt n m) (Some n) None) (position_or_len-map xs) (length-map xs f)

-- the number of the nearest binder, in the list that has the innermost first
pub nearest_is : (bs : List Around) (x : Binder) → nearest bs x ≡ binder_number (binders_of (typed bs)) x
nearest_is bs x =
    sym (ap (λ ys. binder_number (binders_of ys) x) (sym (map-reverse typed_binder bs))
    ∙ position-map (λ b. b.binder) (λ y. same_binder y x) (map typed_binder (reverse bs))
    ∙ position-map typed_binder (λ b. same_binder b.binder x) (reverse bs))

position-below : {X : Type 0} (p : X → Bool) (xs : List X) (i : ℕ) → position p xs ≡ Some i → i < length xs
position-below p [] i e = absurd (grind arith)
position-below p (x ∷ xs) i e = (position-Some p (x ∷ xs) i x e).0

pub nearest_below : (bs : List Around) (x : Binder) (i : ℕ) → nearest bs x ≡ Some i → i < length bs
nearest_below bs x i e =
    let found : i < length (reverse bs) = position-below (λ a. same_binder (rbinder a.binder.now) x) (reverse bs) i e in
    omega (arith, found, length-reverse bs)

-- the type of the variable of that number
pub kind_at : (bs : List Around) (i : ℕ) (b : Around) → i < length bs → b ≡ get_or bs (length bs - 1 - i) b → slice_index_or (map (λ (x : TypedBinder). x.kind) (typed bs)) i None ≡ Some (ty b.kind)
kind_at bs i b below is =
    ap (λ ys. get_or (map (λ (x : TypedBinder). x.kind) ys) i None) (sym (map-reverse typed_binder bs))
    ∙ get_or-map (λ (x : TypedBinder). x.kind) (map typed_binder (reverse bs)) i (typed_binder b) None (omega (arith, length-map (reverse bs) typed_binder, length-reverse bs))
    ∙ ap (λ (x : TypedBinder). x.kind) (get_or-map typed_binder (reverse bs) i b (typed_binder b) (omega (arith, length-reverse bs)))
    ∙ ap (λ (x : Around). Some (ty x.kind)) (get_or-reverse bs i b below ∙ sym is)

-- one binder more
pub typed_push : (bs : List Around) (b : Around) → typed (bs ++ b ∷ []) ≡ typed_binder b ∷ typed bs
typed_push bs b = ap reverse (map-append typed_binder bs (b ∷ [])) ∙ reverse-append (map typed_binder bs) (typed_binder b ∷ [])
