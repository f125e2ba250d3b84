-- The file of a name, before and after a file is put on a shelf.
use Rattle.std.proofs.Common.{◌≡◌, ◌≢◌, ℕ, zero, suc, ◌+◌, ◌<◌, Bool, true, false, cond, List, [], ◌∷◌, ◌++◌, length, get_or, slice_set, Some, None, refl, sym, ap, ◌∙◌, arith}
use Rattle.std.specs.Str.{bytes_eq}
use Rattle.std.proofs.lemmas.Slice.Eq.{bytes_eq-Decides}
use Rattle.std.specs.List.{position, position_from}
use Rattle.std.proofs.lemmas.Iterator.Adapters.{position_from-zero}
use Rattle.wh_io.specs.Memory.{file_named}

-- a name and bytes
abbrev pub File : Type 0
File = List ℕ × List ℕ

-- the file has this name
abbrev pub is_named : List ℕ → File → Bool
is_named name file = bytes_eq file.0 name

-- the test finds a name the same as itself
same_bytes : (xs : List ℕ) → bytes_eq xs xs ≡ true
same_bytes xs = (bytes_eq-Decides xs xs).1 refl

-- and different from any other
other_bytes : (xs ys : List ℕ) → ys ≢ xs → bytes_eq xs ys ≡ false
other_bytes xs ys other =
    let same : bytes_eq xs ys ≡ true → xs ≡ ys = (bytes_eq-Decides xs ys).0 in
    let cases : (b : Bool) → (b ≡ true → xs ≡ ys) → b ≡ false =
    λ b. elim b as (λ v. (v ≡ true → xs ≡ ys) → v ≡ false) [ true ↦ λ f. absurd (other (sym (f refl))) | false ↦ λ _. refl ] in
    cases (bytes_eq xs ys) same

-- where no place is found, from any count on, no file has the name
no_place : (files : List File) (name : List ℕ) (i : ℕ) → position_from (is_named name) i files ≡ None → file_named files name ≡ None
no_place [] name i e = refl
no_place (file ∷ files) name i e =
    let step : (b : Bool) → cond b (Some i) (position_from (is_named name) (i + 1) files) ≡ None → cond b (Some file.1) (file_named files name) ≡ None =
    λ b. elim b as (λ v. cond v (Some i) (position_from (is_named name) (i + 1) files) ≡ None → cond v (Some file.1) (file_named files name) ≡ None) [ true ↦ λ f. absurd (cc f) | false ↦ no_place files name (i + 1) ] in
    step (is_named name file) e

-- where `position` finds no file of the name, none is named so
pub none_named : (files : List File) (name : List ℕ) → position (is_named name) files ≡ None → file_named files name ≡ None
none_named files name e = no_place files name 0 (sym (position_from-zero (is_named name) files) ∙ e)

-- a file in the place of the first of its name is the one of its name
pub placed : (files : List File) (name bytes : List ℕ) (i : ℕ) (d : File) → i < length files → ((k : ℕ) → k < i → is_named name (get_or files k d) ≡ false) → file_named (slice_set files i (name, bytes)) name ≡ Some bytes
placed [] name bytes i d within before = absurd (omega arith)
placed (file ∷ files) name bytes zero d within before = rw (same_bytes name)
placed (file ∷ files) name bytes (suc i) d within before =
    let first : is_named name file ≡ false = before 0 (omega arith) in
    rw first (placed files name bytes i d (omega arith) (λ k below. before (suc k) (omega arith)))

-- and the files of other names stay
pub others : (files : List File) (name bytes other : List ℕ) (i : ℕ) (d : File) → other ≢ name → is_named name (get_or files i d) ≡ true → file_named (slice_set files i (name, bytes)) other ≡ file_named files other
others [] name bytes other i d differs here = refl
others (file ∷ files) name bytes other zero d differs here =
    let same : file.0 ≡ name = (bytes_eq-Decides file.0 name).0 here in
    rw (other_bytes name other differs, other_bytes file.0 other (λ e. differs (e ∙ same)))
others (file ∷ files) name bytes other (suc i) d differs here =
    ap (λ found. cond (bytes_eq file.0 other) (Some file.1) found) (others files name bytes other i d differs here)

-- a file at the end, where none has its name, is the one of its name
pub appended : (files : List File) (name bytes : List ℕ) → file_named files name ≡ None → file_named (files ++ (name, bytes) ∷ []) name ≡ Some bytes
appended [] name bytes none = rw (same_bytes name)
appended (file ∷ files) name bytes none =
    let step : (b : Bool) → cond b (Some file.1) (file_named files name) ≡ None → cond b (Some file.1) (file_named (files ++ (name, bytes) ∷ []) name) ≡ Some bytes =
    λ b. elim b as (λ v. cond v (Some file.1) (file_named files name) ≡ None → cond v (Some file.1) (file_named (files ++ (name, bytes) ∷ []) name) ≡ Some bytes) [ true ↦ λ f. absurd (cc f) | false ↦ appended files name bytes ] in
    step (is_named name file) none

-- and the files of other names stay
pub appended_others : (files : List File) (name bytes other : List ℕ) → other ≢ name → file_named (files ++ (name, bytes) ∷ []) other ≡ file_named files other
appended_others [] name bytes other differs = rw (other_bytes name other differs)
appended_others (file ∷ files) name bytes other differs =
    ap (λ found. cond (bytes_eq file.0 other) (Some file.1) found) (appended_others files name bytes other differs)
