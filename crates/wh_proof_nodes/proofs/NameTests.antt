-- Tests of names: that given words are names, and are distinct, is then seen by computing.
use Rattle.std.proofs.Common.{◌≡◌, ◌≢◌, ℕ, inl, inr, Bool, true, false, not, List, [], ◌∷◌, length, All, arith, leb-true}
use Rattle.std.specs.Prelude.{◌&&◌, bytes_eq, nat_le, codes}
use Rattle.std.proofs.lemmas.Bool.{and_parts}
use Rattle.std.proofs.lemmas.Slice.Eq.{bytes_eq-Decides}
use Rattle.std.proofs.lemmas.List.Elements.{All-nil, All-cons}
use Rattle.std.proofs.lemmas.List.Kept.{AllPairs-cons}
use Rattle.wh_text.specs.Chars.{is_start, is_part, AllPass}
use Rattle.wh_text.specs.Words.{IsKeyword, IsName}
use Rattle.wh_system.specs.WellMade.{AreDistinct, AreApart}

-- each element passes the test
abbrev pub every : {A : Type 0} → (A → Bool) → List A → Bool
every test [] = true
every test (x ∷ xs) = test x && every test xs

-- so each is what the test says
pub all_by : {A : Type 0} (P : A → Type 0) (test : A → Bool) → ((x : A) → test x ≡ true → P x) → (xs : List A) → every test xs ≡ true
    → All P xs
all_by P test sound [] e = All-nil P
all_by P test sound (x ∷ xs) e =
    let parts = and_parts (test x) (every test xs) e in
    All-cons P x xs (sound x parts.0) (all_by P test sound xs parts.1)

-- different names

abbrev pub differ : List ℕ → List ℕ → Bool
differ x y = not (bytes_eq x y)

not_both : (b : Bool) → not b ≡ true → b ≡ true → ⊥
not_both true e f = absurd (cc)
not_both false e f = absurd (cc)

differ_sound : (x y : List ℕ) → differ x y ≡ true → x ≢ y
differ_sound x y e same = not_both (bytes_eq x y) e ((bytes_eq-Decides x y).1 same)

abbrev pub all_differ : List (List ℕ) → Bool
all_differ [] = true
all_differ (x ∷ xs) = every (differ x) xs && all_differ xs

pub distinct_by : (xs : List (List ℕ)) → all_differ xs ≡ true → AreDistinct xs
distinct_by [] e = λ i j d less within. absurd (omega arith)
distinct_by (x ∷ xs) e =
    let parts = and_parts (every (differ x) xs) (all_differ xs) e in
    AllPairs-cons (λ x y. x ≢ y) x xs (all_by (λ y. x ≢ y) (differ x) (differ_sound x) xs parts.0) (distinct_by xs parts.1)

abbrev pub is_apart : List (List ℕ) → List (List ℕ) → Bool
is_apart xs ys = every (λ x. every (differ x) ys) xs

pub apart_by : (ys xs : List (List ℕ)) → is_apart xs ys ≡ true → AreApart xs ys
apart_by ys xs e =
    all_by (λ x. All (λ y. x ≢ y) ys) (λ x. every (differ x) ys) (λ x. all_by (λ y. x ≢ y) (differ x) (differ_sound x) ys) xs e

-- names and no keywords

abbrev starts : List ℕ → Bool
starts [] = false
starts (b ∷ bs) = is_start b

abbrev is_free : List ℕ → Bool
is_free bs = differ bs (codes "sort") && (differ bs (codes "fun") && differ bs (codes "rule"))

abbrev pub is_name : List ℕ → Bool
is_name bs = (starts bs && nat_le (length bs) 64) && (every is_part bs && is_free bs)

pass_by : (bs : List ℕ) → every is_part bs ≡ true → AllPass is_part bs
pass_by [] e = tt
pass_by (b ∷ bs) e = let parts = and_parts (is_part b) (every is_part bs) e in (parts.0, pass_by bs parts.1)

free_by : (bs : List ℕ) → is_free bs ≡ true → IsKeyword bs → ⊥
free_by bs e keyword =
    let parts = and_parts (differ bs (codes "sort")) (differ bs (codes "fun") && differ bs (codes "rule")) e in
    let others = and_parts (differ bs (codes "fun")) (differ bs (codes "rule")) parts.1 in
    elim keyword [
      | inl same ↦ differ_sound bs (codes "sort") parts.0 same
      | inr (inl same) ↦ differ_sound bs (codes "fun") others.0 same
      | inr (inr same) ↦ differ_sound bs (codes "rule") others.1 same
    ]

pub name_by : (bs : List ℕ) → is_name bs ≡ true → IsName bs
name_by [] e = absurd (cc)
name_by (b ∷ bs) e =
    let parts = and_parts (is_start b && nat_le (length (b ∷ bs)) 64) (every is_part (b ∷ bs) && is_free (b ∷ bs)) e in
    let first = and_parts (is_start b) (nat_le (length (b ∷ bs)) 64) parts.0 in
    let rest = and_parts (every is_part (b ∷ bs)) (is_free (b ∷ bs)) parts.1 in
    record {
      word = record { starts = first.0; parts = pass_by (b ∷ bs) rest.0; short = leb-true (length (b ∷ bs)) 64 first.1 };
      free = free_by (b ∷ bs) rest.1;
    }

-- lists of names

pub names_by : (names : List (List ℕ)) → every is_name names ≡ true → All IsName names
names_by = all_by IsName is_name name_by

pub metas_apart : (funs : List (List ℕ)) (metas : List (List (List ℕ))) → every (λ names. is_apart names funs) metas ≡ true
    → All (λ names. AreApart names funs) metas
metas_apart funs = all_by (λ names. AreApart names funs) (λ names. is_apart names funs) (apart_by funs)
