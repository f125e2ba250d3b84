-- Lists that are built item by item.
use Rattle.std.proofs.Common.{◌≡◌, ℕ, zero, suc, ◌+◌, ◌<◌, ◌≤◌, List, [], ◌∷◌, ◌++◌, length, map, take, get_or, refl, ap, ap₂, sym, ◌∙◌, arith, append_assoc}
use Rattle.std.proofs.lemmas.List.{map-append, take_more, take_all, length-map}

-- a list that is built item by item keeps pace with the one that it follows
pub map_next : {A B C : Type 0} (f : A → C) (g : B → C) (before : List C) (xs : List B) (i : ℕ) (out ys : List A) (r : A) (x : B)
    → map f out ≡ before ++ map g (take i xs) → ys ≡ out ++ r ∷ [] → f r ≡ g x → i < length xs → x ≡ get_or xs i x
    → map f ys ≡ before ++ map g (take (i + 1) xs)
map_next f g before xs i out ys r x so_far pushed equal within is =
    ap (map f) pushed ∙ map-append f out (r ∷ []) ∙ ap (λ l. l ++ f r ∷ []) so_far ∙ append_assoc before (map g (take i xs)) (f r ∷ [])
    ∙ ap (λ y. before ++ (map g (take i xs) ++ y ∷ [])) (equal ∙ ap g is)
    ∙ ap (λ l. before ++ l) (sym (map-append g (take i xs) (get_or xs i x ∷ [])))
    ∙ ap (λ l. before ++ map g l) (sym (take_more xs i x within))

pub map_done : {A B C : Type 0} (f : A → C) (g : B → C) (before : List C) (xs : List B) (i : ℕ) (out : List A)
    → map f out ≡ before ++ map g (take i xs) → length xs ≤ i → map f out ≡ before ++ map g xs
map_done f g before xs i out so_far all = so_far ∙ ap (λ l. before ++ map g l) (take_all i xs all)

pub map-map : {A B C : Type 0} (f : B → C) (g : A → B) (xs : List A) → map f (map g xs) ≡ map (λ x. f (g x)) xs
map-map f g [] = refl
map-map f g (x ∷ xs) = ap (λ l. f (g x) ∷ l) (map-map f g xs)

-- two lists with the same images: they are equally long, and agree at each place
pub same_length : {A C : Type 0} (f : A → C) (xs ys : List A) → map f xs ≡ map f ys → length xs ≡ length ys
same_length f xs ys e = sym (length-map xs f) ∙ ap length e ∙ length-map ys f

pub same_at : {A C : Type 0} (f : A → C) (xs ys : List A) (i : ℕ) (x y : A) → map f xs ≡ map f ys → i < length xs → x ≡ get_or xs i x → y ≡ get_or ys i y → f x ≡ f y
same_at f [] ys i x y e inside ex ey = absurd (omega arith)
same_at f (x' ∷ xs) [] i x y e inside ex ey = absurd (omega (arith, same_length f (x' ∷ xs) [] e))
same_at f (x' ∷ xs) (y' ∷ ys) zero x y e inside ex ey = let here : f x' ≡ f y' = cc in ap f ex ∙ here ∙ sym (ap f ey)
same_at f (x' ∷ xs) (y' ∷ ys) (suc i) x y e inside ex ey = let rest : map f xs ≡ map f ys = cc in same_at f xs ys i x y rest (omega arith) ex ey

-- one more element of a mapped list
pub map_push : {A B : Type 0} (f : A → B) (xs new : List A) (x : A) → new ≡ xs ++ x ∷ [] → map f new ≡ map f xs ++ f x ∷ []
map_push f xs new x is = ap (map f) is ∙ map-append f xs (x ∷ [])

pub map_take : {A C : Type 0} (f : A → C) (xs : List A) (i : ℕ) (x : A) → i < length xs → x ≡ get_or xs i x → map f (take (i + 1) xs) ≡ map f (take i xs) ++ f x ∷ []
map_take f xs i x inside is = ap (map f) (take_more xs i x inside) ∙ map-append f (take i xs) (get_or xs i x ∷ []) ∙ ap (λ y. map f (take i xs) ++ f y ∷ []) (sym is)

pub same_next : {A C : Type 0} (f : A → C) (xs ys : List A) (i : ℕ) (x y : A) → map f (take i xs) ≡ map f (take i ys) → i < length xs → i < length ys
    → x ≡ get_or xs i x → y ≡ get_or ys i y → f x ≡ f y → map f (take (i + 1) xs) ≡ map f (take (i + 1) ys)
same_next f xs ys i x y so_far inside also ex ey e = map_take f xs i x inside ex ∙ ap₂ (λ l c. l ++ c ∷ []) so_far e ∙ sym (map_take f ys i y also ey)
