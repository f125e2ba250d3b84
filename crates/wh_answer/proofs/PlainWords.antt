-- The words of an answer have no space and only ASCII bytes, so the cut at spaces gives them back.
use Rattle.std.proofs.Common.{ℕ, ◌≡◌, ◌≢◌, ◌==◌, ◌&&◌, ◌++◌, Bool, true, false, List, [], ◌∷◌, map, codes, refl, ◌∙◌, ap, nat_lt, arith, rules}
use Rattle.std.specs.Fmt.{decimal}
use Rattle.std.specs.Int.{IsInRange}
use Rattle.std.specs.List.{All, join_with_byte, list_all}
use Rattle.std.specs.Str.{IsAscii}
use Rattle.std.specs.Str.Parse.{AllDigits}
use Rattle.std.proofs.lemmas.Bool.Decides.{nat_tests}
use Rattle.std.proofs.lemmas.Fmt.{decimal_is_IsNumeral}
use Rattle.std.proofs.lemmas.List.Elements.{All-nil, All-cons}
use Rattle.std.proofs.lemmas.List.Splits.{slice_split_none, slice_split_at}
use Rattle.std.proofs.lemmas.Str.{IsAscii-append}
use Rattle.std.proofs.lemmas.Str.Ascii.{IsAscii-nil, IsAscii-cons}
use Rattle.std.proofs.lemmas.Str.Parse.{digit_from_value}
use Rattle.wh_text.specs.Chars.{AllPass, is_part}
use Rattle.wh_text.specs.Words.{IsWord}
use Rattle.wh_answer.specs.declared.report.Report.{Report}
use Rattle.wh_answer.specs.declared.report.Report.TheVariants as answer
use Rattle.wh_answer.specs.declared.report.NamedRejection.{NamedRejection}
use Rattle.wh_answer.specs.declared.report.NamedRejection.TheVariants as row
use Rattle.wh_answer.specs.declared.report.NamedCause.{NamedCause}
use Rattle.wh_answer.specs.declared.report.NamedCause.TheVariants as cause
use Rattle.wh_answer.specs.declared.report.NamedFinder.{NamedFinder}
use Rattle.wh_answer.specs.declared.report.ReasonWord.{ReasonWord}
use Rattle.wh_answer.specs.declared.report.ReasonWord.TheVariants as reason
use Rattle.wh_answer.specs.declared.report.Role.{Role}
use Rattle.wh_answer.specs.declared.report.Role.TheVariants as role
use Rattle.wh_answer.specs.Stands.{AllShort, AllWords, CauseStands, Long, RowStands, Short, Stands}
use Rattle.wh_answer.specs.Texts.{finder_word, reason_word, role_word}
use Rattle.wh_answer.specs.Words.{cause_words, report_words, row_words, words_of}

-- above the space and below 128
abbrev is_plain : ℕ → Bool
is_plain b = nat_lt 32 b && nat_lt b 128

abbrev Plain : List ℕ → Type 0
Plain w = list_all is_plain w ≡ true

abbrev AllPlain : List (List ℕ) → Type 0
AllPlain [] = Unit {0}
AllPlain (w ∷ ws) = Plain w × AllPlain ws

digit_plain : (b : ℕ) → IsInRange 48 57 b → is_plain b ≡ true
digit_plain b h = grind (arith, nat_tests)

part_plain : (b : ℕ) → is_part b ≡ true → is_plain b ≡ true
part_plain b h = grind (arith, nat_tests)

plain_cons : (b : ℕ) (bs : List ℕ) → is_plain b ≡ true → Plain bs → Plain (b ∷ bs)
plain_cons b bs h k = rw (h, k) refl

digits_plain : (ds : List ℕ) → AllDigits 10 ds → Plain ds
digits_plain [] h = refl
digits_plain (d ∷ ds) h = plain_cons d ds (digit_plain d (digit_from_value d h.0)) (digits_plain ds h.1)

parts_plain : (bs : List ℕ) → AllPass is_part bs → Plain bs
parts_plain [] h = refl
parts_plain (b ∷ bs) h = plain_cons b bs (part_plain b h.0) (parts_plain bs h.1)

marked_parts_plain : (bs : List ℕ) → AllPass is_part bs → Plain (bs ++ codes "#")
marked_parts_plain [] h = refl
marked_parts_plain (b ∷ bs) h = plain_cons b (bs ++ codes "#") (part_plain b h.0) (marked_parts_plain bs h.1)

-- numbers, names and marked names
long_plain : (n : ℕ) → Long n → Plain (decimal n)
long_plain n h = digits_plain (decimal n) (decimal_is_IsNumeral n h).0.1

short_plain : (n : ℕ) → Short n → Plain (decimal n)
short_plain n h = long_plain n (omega arith)

word_plain : (w : List ℕ) → IsWord w → Plain w
word_plain w h = parts_plain w h.parts

marked_plain : (w : List ℕ) → IsWord w → Plain (w ++ codes "#")
marked_plain w h = marked_parts_plain w h.parts

row_plain : (r : NamedRejection) → RowStands r → AllPlain (row_words r)
row_plain (row.BadPolynomial k f false) h = search (rules, short_plain, word_plain)
row_plain (row.BadPolynomial k f true) h = search (rules, short_plain, marked_plain)
row_plain (row.BadFilter k f false) h = search (rules, short_plain, word_plain)
row_plain (row.BadFilter k f true) h = search (rules, short_plain, marked_plain)
row_plain r h = search (rules, long_plain, short_plain, word_plain)

names_plain : (names : List (List ℕ)) → AllWords names → AllPlain names
names_plain [] h = tt
names_plain (w ∷ ws) h = (word_plain w h.0, names_plain ws h.1)

numbers_plain : (ns : List ℕ) → AllShort ns → AllPlain (map decimal ns)
numbers_plain [] h = tt
numbers_plain (n ∷ ns) h = (short_plain n h.0, numbers_plain ns h.1)

finder_plain : (f : NamedFinder) → Plain (finder_word f)
finder_plain f = search rules

reason_plain : (r : ReasonWord) → Plain (reason_word r)
reason_plain reason.BadByte = refl
reason_plain r = refl

role_plain : (r : Role) → Plain (role_word r)
role_plain role.System = refl
role_plain r = refl

cause_plain : (c : NamedCause) → CauseStands c → AllPlain (cause_words c)
cause_plain (cause.Sorts names) h = (refl, (refl, names_plain names h))
cause_plain (cause.Meta r name) h = (refl, (refl, (short_plain r h.0, (word_plain name h.1, tt))))
cause_plain (cause.Stuck pairs) h = (refl, numbers_plain pairs h)
cause_plain (cause.Spent by count) h = (refl, (finder_plain by, (long_plain count h, tt)))

report_plain : (r : Report) → Stands r → AllPlain (report_words r)
report_plain (answer.Rejected r) h = (refl, row_plain r h)
report_plain (answer.Maybe c) h = (refl, cause_plain c h)
report_plain (answer.Refused r at) h = (refl, (reason_plain r, (short_plain at h, tt)))
report_plain (answer.ReadFault r) h = (refl, (refl, (role_plain r, tt)))
report_plain (answer.TooLong r) h = (refl, (refl, (role_plain r, tt)))
report_plain r h = search (rules, short_plain)

free : (w : List ℕ) → Plain w → All (λ b. (b == 32) ≡ false) w
free [] h = All-nil (λ b. (b == 32) ≡ false)
free (b ∷ bs) h = All-cons (λ b. (b == 32) ≡ false) b bs (grind (arith, nat_tests)) (free bs (grind (arith, nat_tests)))

-- plain words that are joined are cut apart again
split_joined : (w : List ℕ) (ws : List (List ℕ)) → AllPlain (w ∷ ws) → words_of (join_with_byte 32 (w ∷ ws)) ≡ w ∷ ws
split_joined w [] h = slice_split_none (λ b. b == 32) w (free w h.0)
split_joined w (x ∷ xs) h =
    slice_split_at (λ b. b == 32) w 32 (join_with_byte 32 (x ∷ xs)) (free w h.0) refl ∙ ap (λ (t : List (List ℕ)). w ∷ t) (split_joined x xs h.1)

plain_ascii : (w : List ℕ) → Plain w → IsAscii w
plain_ascii [] h = IsAscii-nil
plain_ascii (b ∷ bs) h = IsAscii-cons b bs (grind (arith, nat_tests)) (plain_ascii bs (grind (arith, nat_tests)))

joined_ascii : (w : List ℕ) (ws : List (List ℕ)) → AllPlain (w ∷ ws) → IsAscii (join_with_byte 32 (w ∷ ws))
joined_ascii w [] h = plain_ascii w h.0
joined_ascii w (x ∷ xs) h =
    IsAscii-append w (32 ∷ join_with_byte 32 (x ∷ xs)) (plain_ascii w h.0) (IsAscii-cons 32 (join_with_byte 32 (x ∷ xs)) (omega arith) (joined_ascii x xs h.1))

split_all : (ws : List (List ℕ)) → AllPlain ws → ws ≢ [] → words_of (join_with_byte 32 ws) ≡ ws
split_all [] h some = absurd (some refl)
split_all (w ∷ ws) h some = split_joined w ws h

ascii_all : (ws : List (List ℕ)) → AllPlain ws → IsAscii (join_with_byte 32 ws)
ascii_all [] h = IsAscii-nil
ascii_all (w ∷ ws) h = joined_ascii w ws h

some_words : (r : Report) → report_words r ≢ []
some_words r e = grind arith

pub report_split : (r : Report) → Stands r → words_of (join_with_byte 32 (report_words r)) ≡ report_words r
report_split r h = split_all (report_words r) (report_plain r h) (some_words r)

pub report_ascii : (r : Report) → Stands r → IsAscii (join_with_byte 32 (report_words r))
report_ascii r h = ascii_all (report_words r) (report_plain r h)
