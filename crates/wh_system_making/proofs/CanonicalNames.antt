-- Canonical names lead back to the numbers that they stand for.
use Rattle.std.proofs.Common.{◌≡◌, ◌≢◌, ℕ, zero, suc, ◌+◌, ◌-◌, ◌<◌, ◌≤◌, Bool, true, false, cond, List, [], ◌∷◌, length, get_or, Some, None, option_map, is_some, position, refl, ap, ap₂, sym, ◌∙◌, subst, add-one, arith, eq-eqb, ltb-true, ltb-false}
use Rattle.std.specs.Prelude.{◌==◌, bytes_eq, nat_lt, option_and_then}
use Rattle.std.specs.List.{position_or_len}
use Rattle.std.proofs.lemmas.Slice.Eq.{bytes_eq-Decides}
use Rattle.std.proofs.lemmas.List.Sums.{position_or_len_is}
use Rattle.wh_types.specs.Ty.{Ty, sort, ◌⇒◌, result_sort, SortsBelow}
use Rattle.wh_text.specs.RawTree.{Binder, named_binder, numbered_binder}
use Rattle.wh_system_parts.specs.Naming.{number_of, is_declared, type_meant, arrows_meant, same_binder, binder_number}
use Rattle.wh_system.specs.Canonical.{name_at, raw_type_of, raw_arguments_of}
use Rattle.wh_system.specs.WellMade.{AreDistinct, AreApart}

-- the first place that passes

below-true : (m n : ℕ) → m < n → nat_lt m n ≡ true
below-true m n l = go (nat_lt m n) refl
  where
    go : (b : Bool) → nat_lt m n ≡ b → nat_lt m n ≡ true
    go true e = e
    go false e = absurd (let past : n ≤ m = ltb-false m n e in omega arith)

below-false : (m n : ℕ) → n ≤ m → nat_lt m n ≡ false
below-false m n l = go (nat_lt m n) refl
  where
    go : (b : Bool) → nat_lt m n ≡ b → nat_lt m n ≡ false
    go true e = absurd (let under : m < n = ltb-true m n e in omega arith)
    go false e = e

pub position_is : {A : Type 0} (p : A → Bool) (xs : List A) (i : ℕ) (d : A) → i < length xs → p (get_or xs i d) ≡ true → ((k : ℕ) → k < i → p (get_or xs k d) ≡ false) → position p xs ≡ Some i
position_is p xs i d within here before =
    let first : position_or_len p xs ≡ i = position_or_len_is p xs i d (omega arith) before (λ l. here) in
    ap (λ k. cond (nat_lt k (length xs)) (Some k) None) first ∙ ap (λ b. cond b (Some i) None) (below-true i (length xs) within)

pub position_none : {A : Type 0} (p : A → Bool) (xs : List A) (d : A) → ((k : ℕ) → k < length xs → p (get_or xs k d) ≡ false) → position p xs ≡ None
position_none p xs d nowhere =
    let none : position_or_len p xs ≡ length xs = position_or_len_is p xs (length xs) d (omega arith) nowhere (λ l. absurd (omega arith)) in
    ap (λ k. cond (nat_lt k (length xs)) (Some k) None) none ∙ ap (λ b. cond b (Some (length xs)) None) (below-false (length xs) (length xs) (omega arith))

-- names

name-same : (a : List ℕ) → bytes_eq a a ≡ true
name-same a = (bytes_eq-Decides a a).1 refl

name-differs : (a b : List ℕ) → a ≢ b → bytes_eq a b ≡ false
name-differs a b other = go (bytes_eq a b) refl
  where
    go : (t : Bool) → bytes_eq a b ≡ t → bytes_eq a b ≡ false
    go true e = absurd (other ((bytes_eq-Decides a b).0 e))
    go false e = e

-- in a list without repetitions each name has its own number
pub number_at : (names : List (List ℕ)) (k : ℕ) → AreDistinct names → k < length names → number_of names (name_at names k) ≡ Some k
number_at names k distinct within =
    position_is (λ other. bytes_eq other (name_at names k)) names k [] within (name-same (name_at names k))
    (λ j before. name-differs (name_at names j) (name_at names k) (distinct j k [] before within))

-- a name that is in none of them has no number
pub no_number : (names : List (List ℕ)) (name : List ℕ) → ((k : ℕ) → k < length names → name_at names k ≢ name) → number_of names name ≡ None
no_number names name other = position_none (λ n. bytes_eq n name) names [] (λ k within. name-differs (name_at names k) name (other k within))

-- a symbol's name is no meta-variable's
pub apart_number : (metas funs : List (List ℕ)) (f : ℕ) → AreApart metas funs → f < length funs → number_of metas (name_at funs f) ≡ None
apart_number metas funs f apart within = no_number metas (name_at funs f) (λ k inside. apart k [] inside f [] within)

-- types

type-whole : (sorts : List (List ℕ)) (a : Ty) → type_meant sorts (raw_type_of sorts a) ≡ arrows_meant sorts (raw_arguments_of sorts a) (option_map sort (number_of sorts (name_at sorts (result_sort a))))
type-whole sorts (sort s) = refl
type-whole sorts (a ⇒ b) = refl

pub type_back : (sorts : List (List ℕ)) (a : Ty) → AreDistinct sorts → SortsBelow (length sorts) a → type_meant sorts (raw_type_of sorts a) ≡ Some a
type_back sorts (sort s) distinct below = ap (option_map sort) (number_at sorts s distinct below)
type_back sorts (a ⇒ b) distinct below =
    ap₂ (λ o q. option_and_then (λ a. option_map (λ b. a ⇒ b) q) o) (type_back sorts a distinct below.0) (sym (type-whole sorts b) ∙ type_back sorts b distinct below.1)

-- binders

-- d binders, the innermost first, each with the number of those above it
abbrev pub numbers_below : ℕ → List Binder
numbers_below zero = []
numbers_below (suc d) = numbered_binder d ∷ numbers_below d

pub numbers_next : (d : ℕ) → numbers_below (d + 1) ≡ numbered_binder d ∷ numbers_below d
numbers_next d = ap numbers_below (add-one d)

count-numbers : (d : ℕ) → length (numbers_below d) ≡ d
count-numbers zero = refl
count-numbers (suc d) = let rest = count-numbers d in omega arith

number-get : (d k : ℕ) → k < d → get_or (numbers_below d) k (named_binder []) ≡ numbered_binder (d - (k + 1))
number-get zero k within = absurd (omega arith)
number-get (suc d) zero within = ap numbered_binder (omega arith)
number-get (suc d) (suc k) within = number-get d k (omega arith) ∙ ap numbered_binder (omega arith)

pub binder_back : (d i : ℕ) → i < d → binder_number (numbers_below d) (numbered_binder (d - (i + 1))) ≡ Some i
binder_back d i within =
    position_is (λ y. same_binder y (numbered_binder (d - (i + 1)))) (numbers_below d) i (named_binder []) (subst (λ n. i < n) (sym (count-numbers d)) within)
    (ap (λ y. same_binder y (numbered_binder (d - (i + 1)))) (number-get d i within) ∙ eq-eqb _ _ refl)
    (λ k before. ap (λ y. same_binder y (numbered_binder (d - (i + 1)))) (number-get d k (omega arith)) ∙ differs (d - (k + 1)) (d - (i + 1)) (λ e. omega arith))
  where
    differs : (m n : ℕ) → m ≢ n → (m == n) ≡ false
    differs m n other = grind arith

pub no_binder_back : (d : ℕ) (n : List ℕ) → binder_number (numbers_below d) (named_binder n) ≡ None
no_binder_back d n =
    position_none (λ y. same_binder y (named_binder n)) (numbers_below d) (named_binder n)
    (λ k within. ap (λ y. same_binder y (named_binder n)) (number-at d k (subst (λ m. k < m) (count-numbers d) within)))
  where
    number-at : (d k : ℕ) → k < d → get_or (numbers_below d) k (named_binder n) ≡ numbered_binder (d - (k + 1))
    number-at zero k within = absurd (omega arith)
    number-at (suc d) zero within = ap numbered_binder (omega arith)
    number-at (suc d) (suc k) within = number-at d k (omega arith) ∙ ap numbered_binder (omega arith)

-- a name is in the list of it alone
pub name_alone : (name : List ℕ) → is_declared (name ∷ []) name ≡ true
name_alone name = ap is_some (position_is (λ other. bytes_eq other name) (name ∷ []) 0 [] (omega arith) (name-same name) (λ k before. absurd (omega arith)))

-- at most n things
pub few_passed : (n : ℕ) (places : List ℕ) → length places ≤ n → nat_lt n (length places) ≡ false
few_passed n places few = below-false n (length places) few
