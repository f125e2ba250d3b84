-- The names of the generated systems: each is a name, and no two are the same.
use Rattle.std.proofs.Common.{◌≡◌, ◌≢◌, ℕ, ◌+◌, ◌<◌, ◌≤◌, ◌^◌, ◌%◌, inl, inr, true, List, [], ◌∷◌, ◌++◌, length, get_or, drop, map, All, refl, sym, ap, ◌∙◌, lit≤, arith, rules}
use Rattle.std.specs.Prelude.{codes}
use Rattle.std.specs.List.{range_with_len}
use Rattle.std.specs.Fmt.{decimal}
use Rattle.std.proofs.lemmas.Bool.Decides.{nat_tests}
use Rattle.std.proofs.lemmas.Fmt.{decimal_by_steps, length-decimal-le, decimal_injective}
use Rattle.std.proofs.lemmas.List.Elements.{All-nil, All-cons}
use Rattle.std.proofs.lemmas.List.Kept.{AllPairs-cons}
use Rattle.std.proofs.lemmas.List.FromFn.{get_or-map-range_with_len, length-map-range_with_len}
use Rattle.wh_text.specs.Chars.{is_start, is_part, AllPass}
use Rattle.wh_text.specs.Words.{IsWord, IsKeyword, IsName}
use Rattle.wh_system.specs.WellMade.{AreDistinct, AreApart}
use Rattle.wh_gen.specs.Family.{sort_names, map_name, fun_names}
use Rattle.wh_gen.proofs.RangeLists.{all_mapped}

-- lists that begin with different bytes are different
pub other_byte : (b c : ℕ) (bs cs : List ℕ) → b ≢ c → b ∷ bs ≢ c ∷ cs
other_byte b c bs cs other same = other (ap (λ s. get_or s 0 0) same)

-- digits are parts of names

digit_is_part : (n : ℕ) → n < 10 → is_part (48 + n) ≡ true
digit_is_part n small = grind (arith, nat_tests)

parts-push : (ds : List ℕ) (b : ℕ) → AllPass is_part ds → is_part b ≡ true → AllPass is_part (ds ++ b ∷ [])
parts-push [] b all more = (more, tt)
parts-push (d ∷ ds) b all more = (all.0, parts-push ds b all.1 more)

decimal_parts : (n : ℕ) → n < 2 ^ 64 → AllPass is_part (decimal n)
decimal_parts n fits = decimal_by_steps (λ k ds. AllPass is_part ds) (λ k small. (digit_is_part k small, tt)) (λ k ds large all. parts-push ds (48 + k % 10) all (digit_is_part (k % 10) (omega arith))) n fits

-- the names of the functions

pub map_name_is_word : (i : ℕ) → i < 2 ^ 32 → IsWord (map_name i)
map_name_is_word i fits =
    let short = length-decimal-le 10 i (omega arith) (omega arith) (omega arith) in
    record { starts = refl; parts = (refl, decimal_parts i (omega arith)); short = omega (arith, short) }

begins_no_keyword : (b : ℕ) (bs : List ℕ) → b ≢ 115 → b ≢ 102 → b ≢ 114 → IsKeyword (b ∷ bs) → ⊥
begins_no_keyword b bs s f r word = elim word [
  | inl e ↦ other_byte b 115 bs (codes "ort") s e
  | inr others ↦ elim others [
    | inl e ↦ other_byte b 102 bs (codes "un") f e
    | inr e ↦ other_byte b 114 bs (codes "ule") r e
  ]
]

pub map_name_is_name : (i : ℕ) → i < 2 ^ 32 → IsName (map_name i)
map_name_is_name i fits = record {
  word = map_name_is_word i fits;
  free = begins_no_keyword 109 (decimal i) (λ e. omega arith) (λ e. omega arith) (λ e. omega arith);
}

pub map_name_injective : (i j : ℕ) → i < 2 ^ 32 → j < 2 ^ 32 → map_name i ≡ map_name j → i ≡ j
map_name_injective i j i_fits j_fits same = decimal_injective i j (omega arith) (omega arith) (ap (drop 1) same)

map_names_distinct : (n : ℕ) → n ≤ 2 ^ 32 → AreDistinct (map map_name (range_with_len 0 n))
map_names_distinct n fits i j d below within same =
    let long : length (map map_name (range_with_len 0 n)) ≡ n = length-map-range_with_len map_name 0 n in
    let first : get_or (map map_name (range_with_len 0 n)) i d ≡ map_name i = get_or-map-range_with_len map_name 0 n i i d (omega arith) (omega arith) in
    let second : get_or (map map_name (range_with_len 0 n)) j d ≡ map_name j = get_or-map-range_with_len map_name 0 n j j d (omega arith) (omega arith) in
    let equal : i ≡ j = map_name_injective i j (omega arith) (omega arith) (sym first ∙ same ∙ second) in
    omega arith

-- a list that begins with the first byte of no symbol is the name of none: of none of the functions, nor of those before
-- them, one more in each lemma

after_cons : (n b : ℕ) (bs : List ℕ) → b ≢ 109 → All (λ y. b ∷ bs ≢ y) (map map_name (range_with_len 0 n))
after_cons n b bs m = all_mapped (λ y. b ∷ bs ≢ y) map_name n (λ i within. other_byte b 109 bs (decimal i) m)

after_nil : (n b : ℕ) (bs : List ℕ) → b ≢ 99 → b ≢ 109 → All (λ y. b ∷ bs ≢ y) (codes "cons" ∷ map map_name (range_with_len 0 n))
after_nil n b bs c m =
    All-cons (λ y. b ∷ bs ≢ y) (codes "cons") (map map_name (range_with_len 0 n)) (other_byte b 99 bs (codes "ons") c) (after_cons n b bs m)

after_s : (n b : ℕ) (bs : List ℕ) → b ≢ 110 → b ≢ 99 → b ≢ 109 → All (λ y. b ∷ bs ≢ y) (codes "nil" ∷ codes "cons" ∷ map map_name (range_with_len 0 n))
after_s n b bs l c m =
    All-cons (λ y. b ∷ bs ≢ y) (codes "nil") (codes "cons" ∷ map map_name (range_with_len 0 n)) (other_byte b 110 bs (codes "il") l) (after_nil n b bs c m)

after_zero : (n b : ℕ) (bs : List ℕ) → b ≢ 115 → b ≢ 110 → b ≢ 99 → b ≢ 109 → All (λ y. b ∷ bs ≢ y) (codes "s" ∷ codes "nil" ∷ codes "cons" ∷ map map_name (range_with_len 0 n))
after_zero n b bs s l c m =
    All-cons (λ y. b ∷ bs ≢ y) (codes "s") (codes "nil" ∷ codes "cons" ∷ map map_name (range_with_len 0 n)) (other_byte b 115 bs [] s) (after_s n b bs l c m)

no_symbol : (n b : ℕ) (bs : List ℕ) → b ≢ 122 → b ≢ 115 → b ≢ 110 → b ≢ 99 → b ≢ 109 → All (λ y. b ∷ bs ≢ y) (fun_names n)
no_symbol n b bs z s l c m =
    All-cons (λ y. b ∷ bs ≢ y) (codes "zero") (codes "s" ∷ codes "nil" ∷ codes "cons" ∷ map map_name (range_with_len 0 n)) (other_byte b 122 bs (codes "ero") z) (after_zero n b bs s l c m)

-- no name stands twice

none_distinct : AreDistinct []
none_distinct i j d below within = absurd (omega arith)

next_distinct : (x : List ℕ) (xs : List (List ℕ)) → All (λ y. x ≢ y) xs → AreDistinct xs → AreDistinct (x ∷ xs)
next_distinct = AllPairs-cons (λ x y. x ≢ y)

one_distinct : (x : List ℕ) → AreDistinct (x ∷ [])
one_distinct x = next_distinct x [] (All-nil (λ y. x ≢ y)) none_distinct

pub sort_names_distinct : AreDistinct sort_names
sort_names_distinct =
    next_distinct (codes "nat") (codes "list" ∷ []) (All-cons (λ y. codes "nat" ≢ y) (codes "list") [] (other_byte 110 108 (codes "at") (codes "ist") (λ e. omega arith)) (All-nil (λ y. codes "nat" ≢ y)))
    (one_distinct (codes "list"))

pub fun_names_distinct : (n : ℕ) → n ≤ 2 ^ 32 → AreDistinct (fun_names n)
fun_names_distinct n fits =
    let maps = map map_name (range_with_len 0 n) in
    next_distinct (codes "zero") (codes "s" ∷ codes "nil" ∷ codes "cons" ∷ maps) (after_zero n 122 (codes "ero") (λ e. omega arith) (λ e. omega arith) (λ e. omega arith) (λ e. omega arith))
    (next_distinct (codes "s") (codes "nil" ∷ codes "cons" ∷ maps) (after_s n 115 [] (λ e. omega arith) (λ e. omega arith) (λ e. omega arith))
    (next_distinct (codes "nil") (codes "cons" ∷ maps) (after_nil n 110 (codes "il") (λ e. omega arith) (λ e. omega arith))
    (next_distinct (codes "cons") maps (after_cons n 99 (codes "ons") (λ e. omega arith)) (map_names_distinct n fits))))

pub first_metas_distinct : AreDistinct (codes "F" ∷ [])
first_metas_distinct = one_distinct (codes "F")

pub second_metas_distinct : AreDistinct (codes "F" ∷ codes "X" ∷ codes "Y" ∷ [])
second_metas_distinct =
    next_distinct (codes "F") (codes "X" ∷ codes "Y" ∷ [])
    (All-cons (λ y. codes "F" ≢ y) (codes "X") (codes "Y" ∷ []) (other_byte 70 88 [] [] (λ e. omega arith)) (All-cons (λ y. codes "F" ≢ y) (codes "Y") [] (other_byte 70 89 [] [] (λ e. omega arith)) (All-nil (λ y. codes "F" ≢ y))))
    (next_distinct (codes "X") (codes "Y" ∷ []) (All-cons (λ y. codes "X" ≢ y) (codes "Y") [] (other_byte 88 89 [] [] (λ e. omega arith)) (All-nil (λ y. codes "X" ≢ y))) (one_distinct (codes "Y")))

-- no meta-variable has the name of a symbol

f_apart : (n : ℕ) → All (λ y. codes "F" ≢ y) (fun_names n)
f_apart n = no_symbol n 70 [] (λ e. omega arith) (λ e. omega arith) (λ e. omega arith) (λ e. omega arith) (λ e. omega arith)

pub first_metas_apart : (n : ℕ) → AreApart (codes "F" ∷ []) (fun_names n)
first_metas_apart n = All-cons (λ x. All (λ y. x ≢ y) (fun_names n)) (codes "F") [] (f_apart n) (All-nil (λ x. All (λ y. x ≢ y) (fun_names n)))

pub second_metas_apart : (n : ℕ) → AreApart (codes "F" ∷ codes "X" ∷ codes "Y" ∷ []) (fun_names n)
second_metas_apart n =
    let P : List ℕ → Type 0 = λ x. All (λ y. x ≢ y) (fun_names n) in
    All-cons P (codes "F") (codes "X" ∷ codes "Y" ∷ []) (f_apart n)
    (All-cons P (codes "X") (codes "Y" ∷ []) (no_symbol n 88 [] (λ e. omega arith) (λ e. omega arith) (λ e. omega arith) (λ e. omega arith) (λ e. omega arith))
    (All-cons P (codes "Y") [] (no_symbol n 89 [] (λ e. omega arith) (λ e. omega arith) (λ e. omega arith) (λ e. omega arith) (λ e. omega arith)) (All-nil P)))

-- each is a name

pub sort_names_are_names : All IsName sort_names
sort_names_are_names =
    All-cons IsName (codes "nat") (codes "list" ∷ []) (record { word = search rules; free = begins_no_keyword 110 (codes "at") (λ e. omega arith) (λ e. omega arith) (λ e. omega arith) })
    (All-cons IsName (codes "list") [] (record { word = search rules; free = begins_no_keyword 108 (codes "ist") (λ e. omega arith) (λ e. omega arith) (λ e. omega arith) }) (All-nil IsName))

s_is_no_keyword : IsKeyword (codes "s") → ⊥
s_is_no_keyword word = elim word [
  | inl e ↦ (let longer : length (codes "s") ≡ length (codes "sort") = ap length e in omega arith)
  | inr others ↦ elim others [
    | inl e ↦ other_byte 115 102 [] (codes "un") (λ e. omega arith) e
    | inr e ↦ other_byte 115 114 [] (codes "ule") (λ e. omega arith) e
  ]
]

pub zero_is_name : IsName (codes "zero")
zero_is_name = record { word = search rules; free = begins_no_keyword 122 (codes "ero") (λ e. omega arith) (λ e. omega arith) (λ e. omega arith) }

pub s_is_name : IsName (codes "s")
s_is_name = record { word = search rules; free = s_is_no_keyword }

pub nil_is_name : IsName (codes "nil")
nil_is_name = record { word = search rules; free = begins_no_keyword 110 (codes "il") (λ e. omega arith) (λ e. omega arith) (λ e. omega arith) }

pub cons_is_name : IsName (codes "cons")
cons_is_name = record { word = search rules; free = begins_no_keyword 99 (codes "ons") (λ e. omega arith) (λ e. omega arith) (λ e. omega arith) }

pub fun_names_are_names : (n : ℕ) → n ≤ 2 ^ 32 → All IsName (fun_names n)
fun_names_are_names n fits =
    let maps = map map_name (range_with_len 0 n) in
    All-cons IsName (codes "zero") (codes "s" ∷ codes "nil" ∷ codes "cons" ∷ maps) zero_is_name
    (All-cons IsName (codes "s") (codes "nil" ∷ codes "cons" ∷ maps) s_is_name
    (All-cons IsName (codes "nil") (codes "cons" ∷ maps) nil_is_name
    (All-cons IsName (codes "cons") maps cons_is_name (all_mapped IsName map_name n (λ i within. map_name_is_name i (omega arith))))))

-- a name of one byte
byte_is_name : (b : ℕ) → is_start b ≡ true → is_part b ≡ true → b ≢ 115 → b ≢ 102 → b ≢ 114 → IsName (b ∷ [])
byte_is_name b start part s f r = record {
  word = record { starts = start; parts = (part, tt); short = lit≤ tt };
  free = begins_no_keyword b [] s f r;
}

pub f_is_name : IsName (codes "F")
f_is_name = byte_is_name 70 refl refl (λ e. omega arith) (λ e. omega arith) (λ e. omega arith)

pub x_is_name : IsName (codes "X")
x_is_name = byte_is_name 88 refl refl (λ e. omega arith) (λ e. omega arith) (λ e. omega arith)

pub y_is_name : IsName (codes "Y")
y_is_name = byte_is_name 89 refl refl (λ e. omega arith) (λ e. omega arith) (λ e. omega arith)

pub first_metas_are_names : All IsName (codes "F" ∷ [])
first_metas_are_names = All-cons IsName (codes "F") [] f_is_name (All-nil IsName)

pub second_metas_are_names : All IsName (codes "F" ∷ codes "X" ∷ codes "Y" ∷ [])
second_metas_are_names =
    All-cons IsName (codes "F") (codes "X" ∷ codes "Y" ∷ []) f_is_name
    (All-cons IsName (codes "X") (codes "Y" ∷ []) x_is_name (All-cons IsName (codes "Y") [] y_is_name (All-nil IsName)))
