-- Printing the members of lists, one after another.
use Rattle.std.proofs.lemmas.List.Elements.{All-head, All-tail}
use Rattle.std.specs.Prelude.{slice_index_or, ◌==◌, false}
use Rattle.std.proofs.lemmas.Bool.{true≢false}
use Rattle.std.proofs.Common.{◌≡◌, ℕ, zero, suc, subst, ◌+◌, ◌<◌, ◌≤◌, List, [], ◌∷◌, ◌++◌, length, get_or, drop, map, All, refl, sym, ap, ◌∙◌, arith}
use Rattle.std.proofs.lemmas.List.{drop_more, drop_all}
use Rattle.wh_text.specs.Pushes.{Pushes}
use Rattle.wh_text.proofs.PrintLemmas.{Leaves}
use Rattle.wh_system_print.specs.SystemText.{put_sort, put_sorts}

-- all is left at the beginning
pub begins : (a : List ℕ) (all : List ℕ → List ℕ) → Leaves a a all all
begins a all = record { behind = λ r. refl }

-- nothing is left at the end
pub ends : (old a : List ℕ) (left all : List ℕ → List ℕ) → ((r : List ℕ) → left r ≡ r) → Leaves old a left all → Pushes old a all
ends old a left all none l = record { behind = λ r. ap (λ (s : List ℕ). a ++ s) (sym (none r)) ∙ l.behind r }

-- one member is pushed, and the others are left
pub goes_on : (old a b : List ℕ) (left one rest all : List ℕ → List ℕ) → ((r : List ℕ) → left r ≡ one (rest r)) → Leaves old a left all → Pushes a b one → Leaves old b rest all
goes_on old a b left one rest all is l p = record { behind = λ r. p.behind (rest r) ∙ ap (λ (s : List ℕ). a ++ s) (sym (is r)) ∙ l.behind r }

pub sorts_next : (xs : List (List ℕ)) (i : ℕ) (x : List ℕ) → i < length xs → x ≡ get_or xs i x → (r : List ℕ) → put_sorts (drop i xs) r ≡ put_sort x (put_sorts (drop (i + 1) xs) r)
sorts_next xs i x below is r =
    ap (λ (ys : List (List ℕ)). put_sorts ys r) (drop_more xs i x below) ∙ ap (λ (y : List ℕ). put_sort y (put_sorts (drop (i + 1) xs) r)) (sym is)

pub sorts_none : (xs : List (List ℕ)) (i : ℕ) → length xs ≤ i → (r : List ℕ) → put_sorts (drop i xs) r ≡ r
sorts_none xs i past r = ap (λ (ys : List (List ℕ)). put_sorts ys r) (drop_all i xs past)

-- a member of a list that P holds of, seen by f
pub at_index : {A B : Type 0} (P : B → Type 0) (f : A → B) (xs : List A) (i : ℕ) (x : A) → All P (map f xs) → i < length xs → x ≡ slice_index_or xs i x → P (f x)
at_index P f [] i x all below is = absurd (omega arith)
at_index P f (y ∷ ys) zero x all below is = subst (λ z. P (f z)) (sym is) (All-head P (f y) (map f ys) all)
at_index P f (y ∷ ys) (suc i) x all below is = at_index P f ys i x (All-tail P (f y) (map f ys) all) (omega (arith, below)) is

pub at_item : {A B : Type 0} (P : B → Type 0) (f : A → B) (xs : List A) (i : ℕ) (x : A) → All P (map f xs) → i < length xs → x ≡ get_or xs i x → P (f x)
at_item P f [] i x all below is = absurd (omega arith)
at_item P f (y ∷ ys) zero x all below is = subst (λ z. P (f z)) (sym is) (All-head P (f y) (map f ys) all)
at_item P f (y ∷ ys) (suc i) x all below is = at_item P f ys i x (All-tail P (f y) (map f ys) all) (omega (arith, below)) is

-- the same of a member that is copied
pub at_copy : {A B : Type 0} (P : B → Type 0) (f : A → B) (xs : List A) (i : ℕ) (d : A) → All P (map f xs) → i < length xs → P (f (slice_index_or xs i d))
at_copy P f [] i d all below = absurd (omega arith)
at_copy P f (y ∷ ys) zero d all below = All-head P (f y) (map f ys) all
at_copy P f (y ∷ ys) (suc i) d all below = at_copy P f ys i d (All-tail P (f y) (map f ys) all) (omega (arith, below))

pub some_left : {A : Type 0} (xs : List A) → (length xs == 0) ≡ false → 0 < length xs
some_left [] some = absurd (true≢false some)
some_left (x ∷ xs) some = omega arith
