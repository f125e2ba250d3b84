-- Canonical declarations pass their tests, and say what they are made from.
use Rattle.std.proofs.Common.{◌≡◌, ◌≢◌, ℕ, zero, suc, ◌+◌, ◌<◌, ◌≤◌, false, ◌||◌, List, [], ◌∷◌, ◌++◌, length, get_or, map, unwrap_or, All, append_assoc, refl, ap, ap₂, sym, ◌∙◌, subst, arith, is_some}
use Rattle.std.specs.Prelude.{◌==◌}
use Rattle.std.proofs.lemmas.List.{length-append}
use Rattle.wh_types.specs.Ty.{Ty, sort}
use Rattle.wh_terms.specs.Typing.{Declared}
use Rattle.wh_system_parts.specs.Naming.{is_declared}
use Rattle.wh_system_parts.specs.Tests.{sorts_of_type, count_of_types, type_tests, types_tests, names_tests, fun_tests, meta_tests}
use Rattle.wh_system_parts.specs.RuleTests.{type_of_raw, types_of_raw, declared_by}
use Rattle.wh_system.specs.WellMade.{IsTypeOver, IsDeclarationOver, AreDistinct, AreApart}
use Rattle.wh_system.specs.Canonical.{raw_type_of}
use Rattle.wh_system_making.specs.CanonicalParts.{raw_name, raw_types_of, raw_funs_of, raw_metas_of}
use Rattle.wh_system_making.proofs.PassedLaws.{Passed}
use Rattle.wh_system_making.proofs.TypedPassed.{no_test, and_test, and_tests, sorts_passed}
use Rattle.wh_system_making.proofs.CanonicalNames.{no_number, type_back}
use Rattle.wh_system_making.proofs.CanonicalPassed.{width_passed}

-- types

pub type_passed : (sorts : List (List ℕ)) (a : Ty) → AreDistinct sorts → IsTypeOver (length sorts) a → Passed (type_tests sorts (raw_type_of sorts a))
type_passed sorts a distinct over =
    and_tests (sorts_of_type sorts (raw_type_of sorts a)) _ (sorts_passed sorts (raw_type_of sorts a) a (type_back sorts a distinct over.sorts_are_there)) (width_passed sorts a over.narrow)

pub type_of_back : (sorts : List (List ℕ)) (a : Ty) → AreDistinct sorts → IsTypeOver (length sorts) a → type_of_raw sorts (raw_type_of sorts a) ≡ a
type_of_back sorts a distinct over = ap (λ o. unwrap_or o (sort 0)) (type_back sorts a distinct over.sorts_are_there)

-- what holds of all holds of the first and of the others
first_of_all : {A : Type 0} (P : A → Type 0) (x : A) (xs : List A) → All P (x ∷ xs) → P x
first_of_all P x xs all = all 0 x (omega arith)

rest_of_all : {A : Type 0} (P : A → Type 0) (x : A) (xs : List A) → All P (x ∷ xs) → All P xs
rest_of_all P x xs all = λ k e within. all (suc k) e (omega arith)

types_passed : (sorts : List (List ℕ)) (kinds : List Ty) → AreDistinct sorts → All (IsTypeOver (length sorts)) kinds → Passed (types_tests sorts (raw_types_of sorts kinds))
types_passed sorts [] distinct over = no_test
types_passed sorts (a ∷ kinds) distinct over =
    and_tests (type_tests sorts (raw_type_of sorts a)) _ (type_passed sorts a distinct (first_of_all (IsTypeOver (length sorts)) a kinds over)) (types_passed sorts kinds distinct (rest_of_all (IsTypeOver (length sorts)) a kinds over))

types_back : (sorts : List (List ℕ)) (kinds : List Ty) → AreDistinct sorts → All (IsTypeOver (length sorts)) kinds → types_of_raw sorts (raw_types_of sorts kinds) ≡ kinds
types_back sorts [] distinct over = refl
types_back sorts (a ∷ kinds) distinct over =
    ap₂ (λ b bs. b ∷ bs) (type_of_back sorts a distinct (first_of_all (IsTypeOver (length sorts)) a kinds over)) (types_back sorts kinds distinct (rest_of_all (IsTypeOver (length sorts)) a kinds over))

other-than : (k n : ℕ) → k ≢ n → (k == n) ≡ false
other-than k n other = grind arith

count_passed : (sorts : List (List ℕ)) (kinds : List Ty) (k : ℕ) → k + length kinds ≤ 32 → Passed (count_of_types k (raw_types_of sorts kinds))
count_passed sorts [] k room = no_test
count_passed sorts (a ∷ kinds) k room = and_test _ _ (other-than k 32 (λ e. omega arith)) (count_passed sorts kinds (k + 1) (omega arith))

-- names

-- in a list without repetitions a name is none of those before it
pub new_name : (before : List (List ℕ)) (n : List ℕ) (others : List (List ℕ)) → AreDistinct (before ++ n ∷ others) → is_declared before n ≡ false
new_name before n others distinct =
    ap is_some (no_number before n (λ k within same. distinct k (length before) [] within (let long : length (before ++ n ∷ others) ≡ length before + length (n ∷ others) = length-append before (n ∷ others) in omega arith)
    (at-before before (n ∷ others) k within ∙ same ∙ sym (at-middle before n others))))
  where
    at-before : (xs ys : List (List ℕ)) (k : ℕ) → k < length xs → get_or (xs ++ ys) k [] ≡ get_or xs k []
    at-before [] ys k within = absurd (omega arith)
    at-before (x ∷ xs) ys zero within = refl
    at-before (x ∷ xs) ys (suc k) within = at-before xs ys k (omega arith)

    at-middle : (xs : List (List ℕ)) (y : List ℕ) (ys : List (List ℕ)) → get_or (xs ++ y ∷ ys) (length xs) [] ≡ y
    at-middle [] y ys = refl
    at-middle (x ∷ xs) y ys = at-middle xs y ys

-- a name that is apart from others is none of them
other_name : (others : List (List ℕ)) (n : List ℕ) → All (λ y. n ≢ y) others → is_declared others n ≡ false
other_name others n apart = ap is_some (no_number others n (λ k within same. apart k [] within (sym same)))

pub names_passed : (before ns : List (List ℕ)) → AreDistinct (before ++ ns) → Passed (names_tests [] before (map raw_name ns))
names_passed before [] distinct = no_test
names_passed before (n ∷ ns) distinct =
    and_test _ _ (ap (λ b. b || false) (new_name before n ns distinct)) (names_passed (before ++ n ∷ []) ns (subst AreDistinct (sym (append_assoc before (n ∷ []) ns)) distinct))

-- the symbols

pub funs_passed : (sorts before ns : List (List ℕ)) (kinds : List Ty) → AreDistinct sorts → AreDistinct (before ++ ns) → length ns ≡ length kinds → All (IsTypeOver (length sorts)) kinds
    → Passed (fun_tests sorts before (raw_funs_of sorts ns kinds))
funs_passed sorts before [] kinds distinct names_distinct long over = no_test
funs_passed sorts before (n ∷ ns) [] distinct names_distinct long over = no_test
funs_passed sorts before (n ∷ ns) (a ∷ kinds) distinct names_distinct long over =
    and_test _ _ (new_name before n ns names_distinct)
    (and_tests (type_tests sorts (raw_type_of sorts a)) _ (type_passed sorts a distinct (first_of_all (IsTypeOver (length sorts)) a kinds over))
    (funs_passed sorts (before ++ n ∷ []) ns kinds distinct (subst AreDistinct (sym (append_assoc before (n ∷ []) ns)) names_distinct) (omega arith) (rest_of_all (IsTypeOver (length sorts)) a kinds over)))

pub funs_named : (sorts ns : List (List ℕ)) (kinds : List Ty) → length ns ≡ length kinds → map (λ f. f.name.name) (raw_funs_of sorts ns kinds) ≡ ns
funs_named sorts [] [] long = refl
funs_named sorts [] (a ∷ kinds) long = absurd (omega arith)
funs_named sorts (n ∷ ns) [] long = absurd (omega arith)
funs_named sorts (n ∷ ns) (a ∷ kinds) long = ap (λ xs. n ∷ xs) (funs_named sorts ns kinds (omega arith))

pub funs_typed : (sorts ns : List (List ℕ)) (kinds : List Ty) → AreDistinct sorts → length ns ≡ length kinds → All (IsTypeOver (length sorts)) kinds
    → map (λ f. type_of_raw sorts f.kind) (raw_funs_of sorts ns kinds) ≡ kinds
funs_typed sorts [] [] distinct long over = refl
funs_typed sorts [] (a ∷ kinds) distinct long over = absurd (omega arith)
funs_typed sorts (n ∷ ns) [] distinct long over = absurd (omega arith)
funs_typed sorts (n ∷ ns) (a ∷ kinds) distinct long over =
    ap₂ (λ b bs. b ∷ bs) (type_of_back sorts a distinct (first_of_all (IsTypeOver (length sorts)) a kinds over)) (funs_typed sorts ns kinds distinct (omega arith) (rest_of_all (IsTypeOver (length sorts)) a kinds over))

-- the meta-variables of a rule

pub metas_passed : (sorts funs before ns : List (List ℕ)) (ds : List Declared) → AreDistinct sorts → AreDistinct (before ++ ns) → AreApart ns funs → All (IsDeclarationOver (length sorts)) ds
    → Passed (meta_tests sorts funs before (raw_metas_of sorts ns ds))
metas_passed sorts funs before [] ds distinct names_distinct apart over = no_test
metas_passed sorts funs before (n ∷ ns) [] distinct names_distinct apart over = no_test
metas_passed sorts funs before (n ∷ ns) (d ∷ ds) distinct names_distinct apart over =
    let here : IsDeclarationOver (length sorts) d = first_of_all (IsDeclarationOver (length sorts)) d ds over in
    and_test _ _ (ap₂ (λ b c. b || c) (new_name before n ns names_distinct) (other_name funs n (first_of_all (λ x. All (λ y. x ≢ y) funs) n ns apart)))
    (and_tests (count_of_types 0 (raw_types_of sorts d.args) ++ types_tests sorts (raw_types_of sorts d.args) ++ type_tests sorts (raw_type_of sorts d.out)) _
    (and_tests (count_of_types 0 (raw_types_of sorts d.args) ++ types_tests sorts (raw_types_of sorts d.args)) _
    (and_tests (count_of_types 0 (raw_types_of sorts d.args)) _ (count_passed sorts d.args 0 (let few = here.narrow in omega arith)) (types_passed sorts d.args distinct here.args))
    (type_passed sorts d.out distinct here.out))
    (metas_passed sorts funs (before ++ n ∷ []) ns ds distinct (subst AreDistinct (sym (append_assoc before (n ∷ []) ns)) names_distinct) (rest_of_all (λ x. All (λ y. x ≢ y) funs) n ns apart) (rest_of_all (IsDeclarationOver (length sorts)) d ds over)))

pub metas_named_back : (sorts ns : List (List ℕ)) (ds : List Declared) → length ns ≡ length ds → map (λ m. m.name.name) (raw_metas_of sorts ns ds) ≡ ns
metas_named_back sorts [] [] long = refl
metas_named_back sorts [] (d ∷ ds) long = absurd (omega arith)
metas_named_back sorts (n ∷ ns) [] long = absurd (omega arith)
metas_named_back sorts (n ∷ ns) (d ∷ ds) long = ap (λ xs. n ∷ xs) (metas_named_back sorts ns ds (omega arith))

pub metas_declared_back : (sorts ns : List (List ℕ)) (ds : List Declared) → AreDistinct sorts → length ns ≡ length ds → All (IsDeclarationOver (length sorts)) ds
    → map (declared_by sorts) (raw_metas_of sorts ns ds) ≡ ds
metas_declared_back sorts [] [] distinct long over = refl
metas_declared_back sorts [] (d ∷ ds) distinct long over = absurd (omega arith)
metas_declared_back sorts (n ∷ ns) [] distinct long over = absurd (omega arith)
metas_declared_back sorts (n ∷ ns) (d ∷ ds) distinct long over =
    let here : IsDeclarationOver (length sorts) d = first_of_all (IsDeclarationOver (length sorts)) d ds over in
    let same : declared_by sorts (record { name = raw_name n; args = raw_types_of sorts d.args; out = raw_type_of sorts d.out }) ≡ d =
    λ i. declaration (types_back sorts d.args distinct here.args i) (type_of_back sorts d.out distinct here.out i) in
    ap₂ (λ e es. e ∷ es) same (metas_declared_back sorts ns ds distinct (omega arith) (rest_of_all (IsDeclarationOver (length sorts)) d ds over))
  where
    declaration : List Ty → Ty → Declared
    declaration args out = record { args = args; out = out }
