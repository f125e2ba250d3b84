-- The pieces of a canonical text: what each is cut into, and one piece behind another.
use Rattle.std.proofs.Common.{◌≡◌, ℕ, ◌+◌, ◌-◌, ◌*◌, ◌/◌, ◌%◌, ◌<◌, ◌≤◌, ◌≢◌, Bool, true, false, ◌||◌, ◌==◌, leb, List, [], ◌∷◌, ◌++◌, length, codes, refl, ap, ◌∙◌, inl, inr, arith}
use Rattle.std.proofs.lemmas.Bool.{and_from, le-leb}
use Rattle.std.specs.Fmt.{decimal}
use Rattle.std.proofs.lemmas.Fmt.{decimal_by_steps}
use Rattle.wh_text.specs.Chars.{is_digit, is_start, is_sign, is_space, AllPass}
use Rattle.wh_text.specs.Words.{IsWord, IsName, IsKeyword, IsNumeral, NoLeadingZero, number_from}
use Rattle.wh_text.specs.Tokens.{Kind, name, keyword, dollar, percent, sign, Marks, NoDigit, space, word, number, one_sign, arrow}
use Rattle.wh_read.specs.Spelled.{Placed, token, mark}
use Rattle.wh_system_print.specs.Cutting.{Cutting, Any, NoPart}

-- one piece behind another, where what comes behind the first is as the first wants it
pub cutting_then : {f g : List ℕ → Type 0} {at m end : ℕ} {p q : List ℕ → List ℕ} {w v : List Placed → List Placed}
    → Cutting f at m p w → Cutting g m end q v → ((r : List ℕ) → g r → f (q r)) → Cutting g at end (λ r. p (q r)) (λ ts. w (v ts))
cutting_then {q = q} {w = w} first second fits =
    record {
      cut = λ r ts good behind.
          let later = second.cut r ts good behind in
          let whole_cut = first.cut (q r) later.0 (fits r good) later.1 in
          (whole_cut.0, whole_cut.1, whole_cut.2 ∙ ap w later.2);
    }

-- a piece that may stand before anything
pub any_then : {g : List ℕ → Type 0} {at m end : ℕ} {p q : List ℕ → List ℕ} {w v : List Placed → List Placed}
    → Cutting Any at m p w → Cutting g m end q v → Cutting g at end (λ r. p (q r)) (λ ts. w (v ts))
any_then first second = cutting_then first second (λ r good. tt)

-- nothing
pub nothing_cut : (fits : List ℕ → Type 0) (at : ℕ) → Cutting fits at at (λ r. r) (λ ts. ts)
nothing_cut fits at = record { cut = λ r ts good behind. (ts, behind, refl) }

-- what may stand before anything may stand before bytes of a kind
pub cutting_any : {g : List ℕ → Type 0} {at end : ℕ} {p : List ℕ → List ℕ} {w : List Placed → List Placed} → Cutting Any at end p w → Cutting g at end p w
cutting_any c = record { cut = λ r ts good behind. c.cut r ts tt behind }

-- spaces and signs

pub space_byte_cut : (b at : ℕ) → is_space b ≡ true → Cutting Any at (at + 1) (λ r. b ∷ r) (λ ts. ts)
space_byte_cut b at is = record { cut = λ r ts good behind. (ts, space is behind, refl) }

pub space_cut : (at : ℕ) → Cutting Any at (at + 1) (λ r. 32 ∷ r) (λ ts. ts)
space_cut at = space_byte_cut 32 at refl

pub line_feed_cut : (at : ℕ) → Cutting Any at (at + 1) (λ r. 10 ∷ r) (λ ts. ts)
line_feed_cut at = space_byte_cut 10 at refl

pub sign_cut : (b at : ℕ) → is_sign b ≡ true → Cutting Any at (at + 1) (λ r. b ∷ r) (λ ts. mark (b ∷ []) at ∷ ts)
sign_cut b at is = record { cut = λ r ts good behind. (record { kind = sign (b ∷ []); from = at; to = at + 1 } ∷ ts, one_sign is behind, refl) }

pub thin_arrow_cut : (at : ℕ) → Cutting Any at (at + 2) (λ r. 45 ∷ 62 ∷ r) (λ ts. mark (codes "->") at ∷ ts)
thin_arrow_cut at = record { cut = λ r ts good behind. (record { kind = sign (codes "->"); from = at; to = at + 2 } ∷ ts, arrow (inl refl) behind, refl) }

pub thick_arrow_cut : (at : ℕ) → Cutting Any at (at + 2) (λ r. 61 ∷ 62 ∷ r) (λ ts. mark (codes "=>") at ∷ ts)
thick_arrow_cut at = record { cut = λ r ts good behind. (record { kind = sign (codes "=>"); from = at; to = at + 2 } ∷ ts, arrow (inr refl) behind, refl) }

-- names and keywords

pub name_cut : (n : List ℕ) (at : ℕ) → IsName n → Cutting NoPart at (at + length n) (λ r. n ++ r) (λ ts. token (name n) at ∷ ts)
name_cut n at is =
    record {
      cut = λ r ts good behind.
          (record { kind = name n; from = at; to = at + length n } ∷ ts, word r n (name n) is.word.starts is.word.parts good refl is.word.short (inr (is.free, refl)) behind, refl);
    }

keyword_cut : (n : List ℕ) (at : ℕ) → IsWord n → IsKeyword n → Cutting NoPart at (at + length n) (λ r. n ++ r) (λ ts. token (keyword n) at ∷ ts)
keyword_cut n at is key =
    record {
      cut = λ r ts good behind.
          (record { kind = keyword n; from = at; to = at + length n } ∷ ts, word r n (keyword n) is.starts is.parts good refl is.short (inl (key, refl)) behind, refl);
    }

pub sort_cut : (at : ℕ) → Cutting NoPart at (at + 4) (λ r. codes "sort" ++ r) (λ ts. token (keyword (codes "sort")) at ∷ ts)
sort_cut at = keyword_cut (codes "sort") at (record { starts = refl; parts = (refl, (refl, (refl, (refl, tt)))); short = omega arith }) (inl refl)

pub fun_cut : (at : ℕ) → Cutting NoPart at (at + 3) (λ r. codes "fun" ++ r) (λ ts. token (keyword (codes "fun")) at ∷ ts)
fun_cut at = keyword_cut (codes "fun") at (record { starts = refl; parts = (refl, (refl, (refl, tt))); short = omega arith }) (inr (inl refl))

pub rule_cut : (at : ℕ) → Cutting NoPart at (at + 4) (λ r. codes "rule" ++ r) (λ ts. token (keyword (codes "rule")) at ∷ ts)
rule_cut at = keyword_cut (codes "rule") at (record { starts = refl; parts = (refl, (refl, (refl, (refl, tt)))); short = omega arith }) (inr (inr refl))

-- numbers

digit_48 : (d : ℕ) → d < 10 → is_digit (48 + d) ≡ true
digit_48 d h = and_from (leb 48 (48 + d)) (leb (48 + d) 57) (le-leb 48 (48 + d) (omega arith)) (le-leb (48 + d) 57 (omega arith))

-- no digit is the first
abbrev BeginsAboveZero : List ℕ → Type 0
BeginsAboveZero [] = ⊥
BeginsAboveZero (b ∷ bs) = b ≢ 48

above_zero_proper : (ds : List ℕ) → BeginsAboveZero ds → NoLeadingZero ds
above_zero_proper [] h = h
above_zero_proper (b ∷ []) h = tt
above_zero_proper (b ∷ c ∷ bs) h = h

above_zero_more : (ds es : List ℕ) → BeginsAboveZero ds → BeginsAboveZero (ds ++ es)
above_zero_more [] es h = absurd h
above_zero_more (b ∷ bs) es h = h

passes_more : (ds : List ℕ) (d : ℕ) → AllPass is_digit ds → is_digit d ≡ true → AllPass is_digit (ds ++ d ∷ [])
passes_more [] d all is = (is, tt)
passes_more (b ∷ bs) d all is = (all.0, passes_more bs d all.1 is)

number_from-push : (ds : List ℕ) (n d : ℕ) → number_from n (ds ++ d ∷ []) ≡ 10 * number_from n ds + (d - 48)
number_from-push [] n d = refl
number_from-push (b ∷ bs) n d = number_from-push bs (10 * n + (b - 48)) d

-- what the digits of m are
record Decimal (m : ℕ) (ds : List ℕ) : Type 0 where
  pub digits : AllPass is_digit ds
  pub proper : NoLeadingZero ds
  pub above : 0 < m → BeginsAboveZero ds
  pub value : number_from 0 ds ≡ m

one_digit : (m : ℕ) → m < 10 → Decimal m ((48 + m) ∷ [])
one_digit m below = record { digits = (digit_48 m below, tt); proper = tt; above = λ some same. omega arith; value = omega arith }

next_digit : (m : ℕ) (ds : List ℕ) → 10 ≤ m → Decimal (m / 10) ds → Decimal m (ds ++ (48 + m % 10) ∷ [])
next_digit m ds some before =
    let above : BeginsAboveZero (ds ++ (48 + m % 10) ∷ []) = above_zero_more ds ((48 + m % 10) ∷ []) (before.above (omega arith)) in
    let front = before.value in
    record {
      digits = passes_more ds (48 + m % 10) before.digits (digit_48 (m % 10) (omega arith));
      proper = above_zero_proper (ds ++ (48 + m % 10) ∷ []) above;
      above = λ positive. above;
      value = number_from-push ds 0 (48 + m % 10) ∙ omega arith;
    }

decimal_is : (n : ℕ) → n ≤ 65535 → IsNumeral (decimal n) n
decimal_is n small =
    let is : Decimal n (decimal n) = decimal_by_steps Decimal one_digit next_digit n (omega arith) in
    record { digits = is.digits; proper = is.proper; value = is.value; small = small }

no_part_byte : (s d q : Bool) → (s || (d || q)) ≡ false → d ≡ false
no_part_byte false false q e = refl
no_part_byte false true q e = e
no_part_byte true d q e = absurd (cc)

-- what goes on no name and no number begins with no digit
no_part_no_digit : (r : List ℕ) → NoPart r → NoDigit r
no_part_no_digit [] h = tt
no_part_no_digit (b ∷ r) h = no_part_byte (is_start b) (is_digit b) (b == 39) h

number_cut : (b n at : ℕ) (kind : ℕ → Kind) → Marks b kind → n ≤ 65535 → Cutting NoPart at (at + 1 + length (decimal n)) (λ r. b ∷ (decimal n ++ r)) (λ ts. token (kind n) at ∷ ts)
number_cut b n at kind marks small =
    record {
      cut = λ r ts good behind.
          (record { kind = kind n; from = at; to = at + 1 + length (decimal n) } ∷ ts, number r (decimal n) kind marks (decimal_is n small) (no_part_no_digit r good) refl behind, refl);
    }

pub dollar_cut : (n at : ℕ) → n ≤ 65535 → Cutting NoPart at (at + 1 + length (decimal n)) (λ r. 36 ∷ (decimal n ++ r)) (λ ts. token (dollar n) at ∷ ts)
dollar_cut n at small = number_cut 36 n at dollar (inl (refl, refl)) small

pub percent_cut : (n at : ℕ) → n ≤ 65535 → Cutting NoPart at (at + 1 + length (decimal n)) (λ r. 37 ∷ (decimal n ++ r)) (λ ts. token (percent n) at ∷ ts)
percent_cut n at small = number_cut 37 n at percent (inr (refl, refl)) small
