-- Names and their numbers.
use Rattle.std.proofs.Common.{◌≡◌, ℕ, zero, suc, ◌<◌, ◌≤◌, Bool, true, false, cond, List, [], ◌∷◌, ◌++◌, length, get_or, map, Some, None, position, slice_get, AllPairs, ◌≢◌, append_assoc, append-nil, refl, sym, subst, arith, ltb-false}
use Rattle.std.specs.Prelude.{bytes_eq, nat_lt, slice_index_or}
use Rattle.std.specs.List.{position_or_len}
use Rattle.std.proofs.lemmas.Slice.Eq.{bytes_eq-Decides}
use Rattle.std.proofs.lemmas.List.Quantifiers.{position-Some, all_pairs_push}
use Rattle.std.proofs.lemmas.List.Sums.{fails_before_first}
use Rattle.wh_types.specs.Ty.{Ty}
use Rattle.wh_system_parts.specs.Parts.{RName}
use Rattle.wh_system_parts.specs.Naming.{number_of, is_declared}
use Rattle.wh_system_parts.specs.Tests.{names_tests}
use Rattle.wh_system_making.proofs.PassedLaws.{Passed, passed_first, passed_rest, or_false, none_is}

pub position_within : {A : Type 0} (p : A → Bool) (xs : List A) (i : ℕ) → position p xs ≡ Some i → i < length xs
position_within p [] i e = absurd (cc)
position_within p (x ∷ xs) i e = (position-Some p (x ∷ xs) i x e).0

pub number_within : (names : List (List ℕ)) (name : List ℕ) (i : ℕ) → number_of names name ≡ Some i → i < length names
number_within names name i e = position_within (λ other. bytes_eq other name) names i e

-- where nothing passes each element fails

pub nowhere : {A : Type 0} (p : A → Bool) (xs : List A) → position p xs ≡ None → (k : ℕ) (d : A) → k < length xs → p (get_or xs k d) ≡ false
nowhere p xs e k d within = fails_before_first p xs k d (go (nat_lt (position_or_len p xs) (length xs)) refl e)
  where
    go : (b : Bool) → nat_lt (position_or_len p xs) (length xs) ≡ b → cond b (Some (position_or_len p xs)) None ≡ None → k < position_or_len p xs
    go true b e = absurd (cc)
    go false b e = let past : length xs ≤ position_or_len p xs = ltb-false _ _ b in omega arith

pub undeclared : (names : List (List ℕ)) (name : List ℕ) → is_declared names name ≡ false → (k : ℕ) (d : List ℕ) → k < length names → get_or names k d ≢ name
undeclared names name e k d within same =
    let other : bytes_eq (get_or names k d) name ≡ false = nowhere (λ other. bytes_eq other name) names (none_is _ e) k d within in
    absurd (let equal : bytes_eq (get_or names k d) name ≡ true = (bytes_eq-Decides (get_or names k d) name).1 same in cc)

-- of one name

pub alone : (n name : List ℕ) → is_declared (name ∷ []) n ≡ true → name ≡ n
alone n name e = go (bytes_eq name n) refl e
  where
    go : (b : Bool) → bytes_eq name n ≡ b → is_declared (name ∷ []) n ≡ true → name ≡ n
    go true b e = (bytes_eq-Decides name n).0 b
    go false b e = absurd (let none : is_declared (name ∷ []) n ≡ false = rw b refl in cc)

-- names that are declared one after another are distinct

pub names_distinct : (others before : List (List ℕ)) (ns : List RName) → AllPairs (λ x y. x ≢ y) before → Passed (names_tests others before ns)
    → AllPairs (λ x y. x ≢ y) (before ++ map (λ n. n.name) ns)
names_distinct others before [] so_far p = subst (λ xs. AllPairs (λ x y. x ≢ y) xs) (sym (append-nil before)) so_far
names_distinct others before (n ∷ ns) so_far p =
    let new = or_false (is_declared before n.name) (is_declared others n.name) (passed_first p) in
    subst (λ xs. AllPairs (λ x y. x ≢ y) xs) (append_assoc before (n.name ∷ []) (map (λ n. n.name) ns)) (names_distinct others (before ++ n.name ∷ []) ns (all_pairs_push (λ x y. x ≢ y) before n.name so_far (undeclared before n.name new.0)) (passed_rest p))

-- the types of binders

pub kind_at : (Γ : List Ty) (i : ℕ) → i < length Γ → (a : Ty) × (slice_index_or (map (λ b. Some b) Γ) i None ≡ Some a) × (slice_get Γ i ≡ Some a)
kind_at [] i within = absurd (omega arith)
kind_at (a ∷ Γ) zero within = (a, refl, refl)
kind_at (a ∷ Γ) (suc i) within = kind_at Γ i (omega arith)
