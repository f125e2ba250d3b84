-- Each piece of a text, as a step of the cutting.
use Rattle.std.proofs.Common.{◌≡◌, ℕ, zero, suc, ◌+◌, ◌-◌, ◌<◌, ◌≤◌, ◌⊎◌, true, List, [], ◌∷◌, ◌++◌, length, get_or, take, drop, refl, sym, ap, ◌∙◌, subst, inl, inr, arith}
use Rattle.std.specs.List.{prefix_len}
use Rattle.std.proofs.lemmas.Bool.{cases_lt}
use Rattle.std.proofs.lemmas.List.{length-drop, drop_more, drop-drop, drop_all, take-append-drop}
use Rattle.std.proofs.lemmas.List.Folds.{length-prefix_len}
use Rattle.std.proofs.lemmas.List.Sums.{prefix_len-le-length}
use Rattle.wh_text.specs.Chars.{is_space, is_digit, is_start, is_part, is_comment, is_sign, AllPass, Stops}
use Rattle.wh_text.specs.Words.{Starts, IsKeyword, IsNumeral}
use Rattle.wh_text.specs.Tokens.{Kind, name, keyword, dollar, percent, sign, Token, Ending, bad_byte, bad_number, name_too_long, Marks, BeginsArrow, NoDigit, NoHead, BeginsNothing, BadDigits, Cuts, space, comment, word, number, one_sign, arrow, nothing_begins, no_arrow, no_number, bad_digits, long_word}
use Rattle.wh_text.specs.Erase.{kind_of}
use Rattle.wh_text.specs.Pieces.{IsGap, StandsAt}
use Rattle.wh_text.specs.declared.token.TokenKind.{TokenKind}
use Rattle.wh_text.specs.declared.token.TokenKind.TheVariants as code
use Rattle.wh_text.proofs.Runs.{run_passes, run_stops, starts_run}

-- a gap of n bytes
pub gap : (text : List ℕ) (at n : ℕ) → 0 < n → at + n ≤ length text → ((us : List Token) (e : Ending) → Cuts (at + n) (drop n (drop at text)) us e → Cuts at (drop at text) us e) → IsGap text at (at + n)
gap text at n some fits joins =
    record {
      forward = omega arith;
      within = fits;
      joins = λ us e h. joins us e (subst (λ (s : List ℕ). Cuts (at + n) s us e) (sym (drop-drop n at text)) h);
    }

-- a token of n bytes
pub stands : (text : List ℕ) (at n : ℕ) (k : TokenKind) → 0 < n → at + n ≤ length text → ((us : List Token) (e : Ending) → Cuts (at + n) (drop n (drop at text)) us e → Cuts at (drop at text) (record { kind = kind_of (take n (drop at text)) k; from = at; to = at + n } ∷ us) e) → StandsAt text at (record { kind = k; from = at; to = at + n })
stands text at n k some fits joins =
    let same : n ≡ at + n - at = omega arith in
    record {
      from = refl;
      forward = omega arith;
      within = fits;
      joins = λ us e h. subst (λ (m : ℕ). Cuts at (drop at text) (record { kind = kind_of (take m (drop at text)) k; from = at; to = at + n } ∷ us) e) same (joins us e (subst (λ (s : List ℕ). Cuts (at + n) s us e) (sym (drop-drop n at text)) h));
    }

-- what stands at a place: its first byte and the rest
first_of : (text : List ℕ) (at : ℕ) → at < length text → drop at text ≡ get_or text at 0 ∷ drop (at + 1) text
first_of text at below = drop_more text at 0 below

pub space_gap : (text : List ℕ) (at : ℕ) → at < length text → is_space (get_or text at 0) ≡ true → IsGap text at (at + 1)
space_gap text at below is =
    record {
      forward = omega arith;
      within = omega arith;
      joins = λ us e h. subst (λ (s : List ℕ). Cuts at s us e) (sym (first_of text at below)) (space is h);
    }

-- a comment, with the rest of its line
comment_joins : (at n : ℕ) (bytes : List ℕ) (us : List Token) (e : Ending) → n ≡ prefix_len is_comment bytes → Cuts (at + 1 + n) (drop n bytes) us e → Cuts at (35 ∷ bytes) us e
comment_joins at n bytes us e run h =
    let passes = subst (λ (m : ℕ). AllPass is_comment (take m bytes)) (sym run) (run_passes is_comment bytes) in
    let stops = subst (λ (m : ℕ). Stops is_comment (drop m bytes)) (sym run) (run_stops is_comment bytes) in
    let long : n ≡ length (take n bytes) = subst (λ (m : ℕ). m ≡ length (take m bytes)) (sym run) (sym (length-prefix_len is_comment bytes)) in
    let parts : 35 ∷ bytes ≡ 35 ∷ (take n bytes ++ drop n bytes) = ap (λ (xs : List ℕ). 35 ∷ xs) (sym (take-append-drop n bytes)) in
    comment (drop n bytes) (take n bytes) passes stops parts (subst (λ (m : ℕ). Cuts (at + 1 + m) (drop n bytes) us e) long h)

pub comment_gap : (text : List ℕ) (at n : ℕ) → at < length text → get_or text at 0 ≡ 35 → n ≡ prefix_len is_comment (drop (at + 1) text) → IsGap text at (at + 1 + n)
comment_gap text at n below mark run =
    let rest : List ℕ = drop (at + 1) text in
    let within = prefix_len-le-length is_comment rest in
    let first : drop at text ≡ 35 ∷ rest = first_of text at below ∙ ap (λ (b : ℕ). b ∷ rest) mark in
    record {
      forward = omega arith;
      within = omega (arith, length-drop (at + 1) text);
      joins = λ us e h. subst (λ (s : List ℕ). Cuts at s us e) (sym first) (comment_joins at n rest us e run (subst (λ (s : List ℕ). Cuts (at + 1 + n) s us e) (sym (drop-drop n (at + 1) text)) h));
    }

pub sign_stands : (text : List ℕ) (at : ℕ) → at < length text → is_sign (get_or text at 0) ≡ true → StandsAt text at (record { kind = code.Sign; from = at; to = at + 1 })
sign_stands text at below is =
    let Joined : List ℕ → Type 0 = λ s. (us : List Token) (e : Ending) → Cuts (at + 1) (drop 1 s) us e → Cuts at s (record { kind = sign (take 1 s); from = at; to = at + 1 } ∷ us) e in
    let joined : Joined (get_or text at 0 ∷ drop (at + 1) text) = λ us e h. one_sign is h in
    stands text at 1 code.Sign (omega arith) (omega arith) (subst Joined (sym (first_of text at below)) joined)

pub arrow_stands : (text : List ℕ) (at : ℕ) → at + 1 < length text → BeginsArrow (get_or text at 0) → get_or text (at + 1) 0 ≡ 62 → StandsAt text at (record { kind = code.Sign; from = at; to = at + 2 })
arrow_stands text at below is head =
    let Joined : List ℕ → Type 0 = λ s. (us : List Token) (e : Ending) → Cuts (at + 2) (drop 2 s) us e → Cuts at s (record { kind = sign (take 2 s); from = at; to = at + 2 } ∷ us) e in
    let second : drop (at + 1) text ≡ 62 ∷ drop (at + 1 + 1) text = first_of text (at + 1) below ∙ ap (λ (b : ℕ). b ∷ drop (at + 1 + 1) text) head in
    let both : drop at text ≡ get_or text at 0 ∷ 62 ∷ drop (at + 1 + 1) text = first_of text at (omega arith) ∙ ap (λ (xs : List ℕ). get_or text at 0 ∷ xs) second in
    let joined : Joined (get_or text at 0 ∷ 62 ∷ drop (at + 1 + 1) text) = λ us e h. arrow is h in
    stands text at 2 code.Sign (omega arith) (omega arith) (subst Joined (sym both) joined)

no_head_at : (text : List ℕ) (at : ℕ) → (at < length text) ⊎ (length text ≤ at) → (get_or text at 0 ≡ 62 → ⊥) → NoHead (drop at text)
no_head_at text at (inl below) other = subst NoHead (sym (first_of text at below)) other
no_head_at text at (inr past) other = subst NoHead (sym (drop_all at text past)) tt

-- no `>` stands there
pub no_head : (text : List ℕ) (at : ℕ) → (length text ≤ at) ⊎ (get_or text at 0 ≡ 62 → ⊥) → NoHead (drop at text)
no_head text at (inl past) = subst NoHead (sym (drop_all at text past)) tt
no_head text at (inr other) = no_head_at text at (cases_lt at (length text)) other

-- the place is a fault where an arrow begins and does not go on
pub arrow_fault : (text : List ℕ) (at : ℕ) → at < length text → BeginsArrow (get_or text at 0) → NoHead (drop (at + 1) text) → Cuts at (drop at text) [] (bad_byte at)
arrow_fault text at below is lacks =
    subst (λ (s : List ℕ). Cuts at s [] (bad_byte at)) (sym (first_of text at below)) (no_arrow is lacks)

pub nothing_fault : (text : List ℕ) (at : ℕ) → at < length text → BeginsNothing (get_or text at 0) → Cuts at (drop at text) [] (bad_byte at)
nothing_fault text at below is =
    subst (λ (s : List ℕ). Cuts at s [] (bad_byte at)) (sym (first_of text at below)) (nothing_begins is)

-- words

starts_some : (n : ℕ) (xs : List ℕ) → Starts (take n xs) → 0 < n
starts_some zero xs starts = absurd starts
starts_some (suc n) xs starts = omega arith

-- the run at a place where a word starts
pub record WordAt (text : List ℕ) (at n : ℕ) : Type 0 where
  pub some : 0 < n
  pub within : at + n ≤ length text
  pub long : n ≡ length (take n (drop at text))
  pub starts : Starts (take n (drop at text))
  pub passes : AllPass is_part (take n (drop at text))
  pub stops : Stops is_part (drop n (drop at text))

word_run_at : (text : List ℕ) (at : ℕ) → at < length text → is_start (get_or text at 0) ≡ true → WordAt text at (prefix_len is_part (drop at text))
word_run_at text at below start =
    let bytes : List ℕ = drop at text in
    let n : ℕ = prefix_len is_part bytes in
    let within = prefix_len-le-length is_part bytes in
    let starts : Starts (take (prefix_len is_part (drop at text)) (drop at text)) = subst (λ (s : List ℕ). Starts (take (prefix_len is_part s) s)) (sym (first_of text at below)) (starts_run (get_or text at 0) (drop (at + 1) text) start) in
    record {
      some = starts_some (prefix_len is_part (drop at text)) (drop at text) starts;
      within = omega (arith, length-drop at text);
      long = sym (length-prefix_len is_part bytes);
      starts = starts;
      passes = run_passes is_part bytes;
      stops = run_stops is_part bytes;
    }

pub word_run : (text rest : List ℕ) (at n : ℕ) → at < length text → is_start (get_or text at 0) ≡ true → rest ≡ drop at text → n ≡ prefix_len is_part rest → WordAt text at n
word_run text rest at n below start tail run =
    subst (WordAt text at) (sym (run ∙ ap (prefix_len is_part) tail)) (word_run_at text at below start)

word_joins : (at n : ℕ) (bytes w r : List ℕ) (us : List Token) (e : Ending) (kind : Kind) → Starts w → AllPass is_part w → Stops is_part r → bytes ≡ w ++ r → n ≡ length w → n ≤ 64 → (IsKeyword w × (kind ≡ keyword w)) ⊎ ((IsKeyword w → ⊥) × (kind ≡ name w)) → Cuts (at + n) r us e → Cuts at bytes (record { kind = kind; from = at; to = at + n } ∷ us) e
word_joins at n bytes w r us e kind starts passes stops parts long short kinds h =
    let behind : Cuts (at + length w) r us e = subst (λ (m : ℕ). Cuts (at + m) r us e) long h in
    subst (λ (m : ℕ). Cuts at bytes (record { kind = kind; from = at; to = at + m } ∷ us) e) (sym long) (word r w kind starts passes stops parts (omega arith) kinds behind)

pub keyword_stands : (text : List ℕ) (at n : ℕ) → WordAt text at n → n ≤ 64 → IsKeyword (take n (drop at text)) → StandsAt text at (record { kind = code.Keyword; from = at; to = at + n })
keyword_stands text at n run short is =
    let bytes : List ℕ = drop at text in
    stands text at n code.Keyword run.some run.within (λ us e h. word_joins at n bytes (take n bytes) (drop n bytes) us e (keyword (take n bytes)) run.starts run.passes run.stops (sym (take-append-drop n bytes)) run.long short (inl (is, refl)) h)

pub name_stands : (text : List ℕ) (at n : ℕ) → WordAt text at n → n ≤ 64 → (IsKeyword (take n (drop at text)) → ⊥) → StandsAt text at (record { kind = code.Name; from = at; to = at + n })
name_stands text at n run short is =
    let bytes : List ℕ = drop at text in
    stands text at n code.Name run.some run.within (λ us e h. word_joins at n bytes (take n bytes) (drop n bytes) us e (name (take n bytes)) run.starts run.passes run.stops (sym (take-append-drop n bytes)) run.long short (inr (is, refl)) h)

pub word_fault : (text : List ℕ) (at n : ℕ) → WordAt text at n → 64 < n → Cuts at (drop at text) [] (name_too_long at)
word_fault text at n run long =
    let bytes : List ℕ = drop at text in
    let same = run.long in
    long_word (drop n bytes) (take n bytes) run.starts run.passes run.stops (sym (take-append-drop n bytes)) (omega arith)

-- numbers

-- the run of digits behind a mark
pub record DigitsAt (text : List ℕ) (at m : ℕ) : Type 0 where
  pub within : at + 1 + m ≤ length text
  pub long : m ≡ length (take m (drop (at + 1) text))
  pub passes : AllPass is_digit (take m (drop (at + 1) text))
  pub stops : NoDigit (drop m (drop (at + 1) text))

digits_run_at : (text : List ℕ) (at : ℕ) → at < length text → DigitsAt text at (prefix_len is_digit (drop (at + 1) text))
digits_run_at text at below =
    let rest : List ℕ = drop (at + 1) text in
    let within = prefix_len-le-length is_digit rest in
    record {
      within = omega (arith, length-drop (at + 1) text);
      long = sym (length-prefix_len is_digit rest);
      passes = run_passes is_digit rest;
      stops = run_stops is_digit rest;
    }

pub digits_run : (text rest : List ℕ) (at m : ℕ) → at < length text → rest ≡ drop (at + 1) text → m ≡ prefix_len is_digit rest → DigitsAt text at m
digits_run text rest at m below tail run =
    subst (DigitsAt text at) (sym (run ∙ ap (prefix_len is_digit) tail)) (digits_run_at text at below)

-- the kind of the number that a mark begins
pub marked : (b : ℕ) → (b ≡ 36) ⊎ (b ≡ 37) → (kind : ℕ → Kind) × Marks b kind
marked b (inl e) = (dollar, inl (e, refl))
marked b (inr e) = (percent, inr (e, refl))

-- a mark that is no `$`
pub percent_marked : (b : ℕ) → (b ≡ 36) ⊎ (b ≡ 37) → (b ≡ 36 → ⊥) → Marks b percent
percent_marked b (inl e) other = absurd (other e)
percent_marked b (inr e) other = inr (e, refl)

-- the mark, the digits and the rest
number_parts : (text : List ℕ) (at m : ℕ) → at < length text → drop at text ≡ get_or text at 0 ∷ (take m (drop (at + 1) text) ++ drop m (drop (at + 1) text))
number_parts text at m below =
    first_of text at below ∙ ap (λ (xs : List ℕ). get_or text at 0 ∷ xs) (sym (take-append-drop m (drop (at + 1) text)))

number_joins : (at m b n : ℕ) (bytes ds r : List ℕ) (us : List Token) (e : Ending) (kind : ℕ → Kind) → Marks b kind → IsNumeral ds n → NoDigit r → bytes ≡ b ∷ (ds ++ r) → m ≡ length ds → Cuts (at + 1 + m) r us e → Cuts at bytes (record { kind = kind n; from = at; to = at + 1 + m } ∷ us) e
number_joins at m b n bytes ds r us e kind marks is stops parts long h =
    let behind : Cuts (at + 1 + length ds) r us e = subst (λ (k : ℕ). Cuts (at + 1 + k) r us e) long h in
    subst (λ (k : ℕ). Cuts at bytes (record { kind = kind n; from = at; to = at + 1 + k } ∷ us) e) (sym long) (number r ds kind marks is stops parts behind)

pub number_stands : (text : List ℕ) (at m n : ℕ) (k : TokenKind) (kind : ℕ → Kind) → at < length text → DigitsAt text at m → Marks (get_or text at 0) kind → IsNumeral (take m (drop (at + 1) text)) n → ((bytes : List ℕ) → kind n ≡ kind_of bytes k) → StandsAt text at (record { kind = k; from = at; to = at + 1 + m })
number_stands text at m n k kind below run marks is same =
    let rest : List ℕ = drop (at + 1) text in
    let within = run.within in
    record {
      from = refl;
      forward = omega arith;
      within = run.within;
      joins = λ us e h. subst (λ (x : Kind). Cuts at (drop at text) (record { kind = x; from = at; to = at + 1 + m } ∷ us) e) (same (take (at + 1 + m - at) (drop at text))) (number_joins at m (get_or text at 0) n (drop at text) (take m rest) (drop m rest) us e kind marks is run.stops (number_parts text at m below) run.long (subst (λ (s : List ℕ). Cuts (at + 1 + m) s us e) (sym (drop-drop m (at + 1) text)) h));
    }

pub digits_fault : (text : List ℕ) (at m : ℕ) (kind : ℕ → Kind) → at < length text → DigitsAt text at m → 0 < m → Marks (get_or text at 0) kind → BadDigits (take m (drop (at + 1) text)) → Cuts at (drop at text) [] (bad_number (at + 1))
digits_fault text at m kind below run some marks bad =
    let rest : List ℕ = drop (at + 1) text in
    let long = run.long in
    bad_digits (drop m rest) (take m rest) kind marks run.passes (omega arith) bad run.stops (number_parts text at m below)

pub mark_fault : (text : List ℕ) (at m : ℕ) (kind : ℕ → Kind) → at < length text → DigitsAt text at m → m ≡ 0 → Marks (get_or text at 0) kind → Cuts at (drop at text) [] (bad_byte at)
mark_fault text at m kind below run none marks =
    let stops : NoDigit (drop (at + 1) text) = subst (λ (k : ℕ). NoDigit (drop k (drop (at + 1) text))) none run.stops in
    subst (λ (s : List ℕ). Cuts at s [] (bad_byte at)) (sym (first_of text at below)) (no_number kind marks stops)
