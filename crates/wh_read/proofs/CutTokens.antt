-- Tokens that are cut from a text stand in it, and those of names are names.
use Rattle.std.proofs.Common.{◌≡◌, ℕ, zero, suc, ◌+◌, ◌<◌, ◌≤◌, ◌⊎◌, inl, inr, List, [], ◌∷◌, length, get_or, sym, ap, subst, arith}
use Rattle.std.proofs.lemmas.List.{length-append, length-map, get_or-map}
use Rattle.wh_read.specs.Nesting.{Each}
use Rattle.wh_text.specs.Chars.{is_part, AllPass}
use Rattle.wh_text.specs.Words.{Starts, IsWord, IsKeyword, IsName}
use Rattle.wh_text.specs.Tokens.{Kind, name, keyword, Token, Ending, Marks, Cuts, ended, space, comment, word, number, one_sign, arrow, nothing_begins, no_arrow, no_number, bad_digits, long_word}
use Rattle.wh_text.specs.Erase.{part, tokens, kind_of}
use Rattle.wh_text.specs.Erase.{token as cut_token}
use Rattle.wh_text.specs.Pieces.{IsCutInto}
use Rattle.wh_text.specs.declared.token.Token as code
use Rattle.wh_text.specs.declared.token.TokenKind.{TokenKind}
use Rattle.wh_text.specs.declared.token.TokenKind.TheVariants.{Name}

-- the kind is no name, or that of one
abbrev pub KindFits : Kind → Type 0
KindFits (name w) = IsName w
KindFits k = Unit {0}

pub record StandsIn (n : ℕ) (t : Token) : Type 0 where
  pub ordered : t.from ≤ t.to
  pub within : t.to ≤ n
  pub fits : KindFits t.kind

word_fits : (w : List ℕ) (k : Kind) → Starts w → AllPass is_part w → length w ≤ 64 → (IsKeyword w × (k ≡ keyword w)) ⊎ ((IsKeyword w → ⊥) × (k ≡ name w)) → KindFits k
word_fits w k s p l (inl h) = subst KindFits (sym h.1) tt
word_fits w k s p l (inr h) = subst KindFits (sym h.1) (record { word = record { starts = s; parts = p; short = l }; free = h.0 })

number_fits : (b n : ℕ) (k : ℕ → Kind) → Marks b k → KindFits (k n)
number_fits b n k (inl h) = subst (λ (f : ℕ → Kind). KindFits (f n)) (sym h.1) tt
number_fits b n k (inr h) = subst (λ (f : ℕ → Kind). KindFits (f n)) (sym h.1) tt

pub all_stand : {at : ℕ} {bytes : List ℕ} {ts : List Token} {e : Ending} → Cuts at bytes ts e → (n : ℕ) → at + length bytes ≡ n → Each (StandsIn n) ts
all_stand ended n h = tt
all_stand (space s c) n h = all_stand c n (omega (arith, h))
all_stand (comment r c p s b more) n h =
    let long = ap length b in
    let parts = length-append c r in
    all_stand more n (omega (arith, h, long, parts))
all_stand (word r w k s p stop b l which more) n h =
    let long = ap length b in
    let parts = length-append w r in
    (record { ordered = omega arith; within = omega (arith, h, long, parts); fits = word_fits w k s p l which }, all_stand more n (omega (arith, h, long, parts)))
all_stand (number r ds k m is stop b more) n h =
    let long = ap length b in
    let parts = length-append ds r in
    (record { ordered = omega arith; within = omega (arith, h, long, parts); fits = number_fits _ _ k m }, all_stand more n (omega (arith, h, long, parts)))
all_stand (one_sign s more) n h = (record { ordered = omega arith; within = omega (arith, h); fits = tt }, all_stand more n (omega (arith, h)))
all_stand (arrow s more) n h = (record { ordered = omega arith; within = omega (arith, h); fits = tt }, all_stand more n (omega (arith, h)))
all_stand (nothing_begins s) n h = tt
all_stand (no_arrow s t) n h = tt
all_stand (no_number k m s) n h = tt
all_stand (bad_digits r ds k m p l d s b) n h = tt
all_stand (long_word r w s p t b l) n h = tt

each_at : {A : Type 0} (P : A → Type 0) (xs : List A) (i : ℕ) (d : A) → i < length xs → Each P xs → P (get_or xs i d)
each_at P [] i d below h = absurd (omega (arith, below))
each_at P (x ∷ xs) zero d below h = h.0
each_at P (x ∷ xs) (suc i) d below h = each_at P xs i d (omega (arith, below)) h.1

-- the token number i of a text
pub record StandsThere (text : List ℕ) (t : code.Token) : Type 0 where
  pub ordered : t.from ≤ t.to
  pub within : t.to ≤ length text
  pub word : t.kind ≡ Name → IsWord (part text t.from t.to)

pub stands_there : (text : List ℕ) (ts : List code.Token) (i : ℕ) (d : code.Token) → IsCutInto text ts → i < length ts → StandsThere text (get_or ts i d)
stands_there text ts i d c below =
    let t : code.Token = get_or ts i d in
    let all : Each (StandsIn (length text)) (tokens text ts) = all_stand c (length text) (omega arith) in
    let there : StandsIn (length text) (get_or (tokens text ts) i (cut_token text d)) = each_at (StandsIn (length text)) (tokens text ts) i (cut_token text d) (omega (arith, below, length-map ts (cut_token text))) all in
    let same : get_or (tokens text ts) i (cut_token text d) ≡ cut_token text t = get_or-map (cut_token text) ts i d (cut_token text d) below in
    let it : StandsIn (length text) (cut_token text t) = subst (StandsIn (length text)) same there in
    record { ordered = it.ordered; within = it.within; word = λ k. (subst (λ (x : TokenKind). KindFits (kind_of (part text t.from t.to) x)) k it.fits).word }
