-- A text is cut in one way: the first byte settles what stands there, and runs go on as long as they can.
use Rattle.std.proofs.Common.{◌≡◌, ℕ, zero, suc, ◌+◌, ◌<◌, ◌≤◌, ◌⊎◌, ◌==◌, ◌||◌, Bool, true, false, cond, List, [], ◌∷◌, ◌++◌, length, refl, sym, ap, ◌∙◌, subst, inl, inr, arith, length-append}
use Rattle.std.proofs.lemmas.Bool.{false≢true, or_cases, eqb-true, ne_eqb}
use Rattle.wh_text.specs.Chars.{is_space, is_digit, is_start, is_part, is_comment, is_sign, AllPass, Stops}
use Rattle.wh_text.specs.Words.{Starts, IsKeyword, IsNumeral, number_from}
use Rattle.wh_text.specs.Tokens.{Kind, name, keyword, dollar, percent, sign, Token, Ending, whole, bad_byte, bad_number, name_too_long, Marks, BeginsArrow, NoDigit, NoHead, BeginsNothing, BadDigits, Cuts, ended, space, comment, word, number, one_sign, arrow, nothing_begins, no_arrow, no_number, bad_digits, long_word}

-- a run ends where the bytes stop to pass
run_unique : (t : ℕ → Bool) (xs ys r s : List ℕ) → AllPass t xs → AllPass t ys → Stops t r → Stops t s → xs ++ r ≡ ys ++ s → (xs ≡ ys) × (r ≡ s)
run_unique t [] [] r s p q u v e = (refl, e)
run_unique t [] (y ∷ ys) [] s p q u v e = cc
run_unique t [] (y ∷ ys) (b ∷ r) s p q u v e =
    let same : b ≡ y = cc in
    absurd (false≢true (sym u ∙ ap t same ∙ q.0))
run_unique t (x ∷ xs) [] r [] p q u v e = cc
run_unique t (x ∷ xs) [] r (b ∷ s) p q u v e =
    let same : b ≡ x = cc in
    absurd (false≢true (sym v ∙ ap t same ∙ p.0))
run_unique t (x ∷ xs) (y ∷ ys) r s p q u v e =
    let tails : xs ++ r ≡ ys ++ s = cc in
    let first : x ≡ y = cc in
    let both = run_unique t xs ys r s p.1 q.1 u v tails in
    (let rest : xs ≡ ys = both.0 in cc, both.1)

-- what a first byte begins
data Class : Type 0 where
  a_space a_comment a_word a_sign an_arrow a_nothing : Class
  a_mark : (kind : ℕ → Kind) → Class

abbrev after_dollar : ℕ → Class
after_dollar b = cond (b == 37) (a_mark percent) a_nothing

abbrev after_arrows : ℕ → Class
after_arrows b = cond (b == 36) (a_mark dollar) (after_dollar b)

abbrev after_minus : ℕ → Class
after_minus b = cond (b == 61) an_arrow (after_arrows b)

abbrev after_comment : ℕ → Class
after_comment b = cond (b == 45) an_arrow (after_minus b)

abbrev after_space : ℕ → Class
after_space b = cond (b == 35) a_comment (after_comment b)

abbrev after_sign : ℕ → Class
after_sign b = cond (is_space b) a_space (after_space b)

abbrev after_word : ℕ → Class
after_word b = cond (is_sign b) a_sign (after_sign b)

abbrev class : ℕ → Class
class b = cond (is_start b) a_word (after_word b)

either : (P : ℕ → Type 0) (b n : ℕ) (rest : Bool) → P n → (rest ≡ true → P b) → ((b == n) || rest) ≡ true → P b
either P b n rest here later h =
    elim (or_cases (b == n) rest h) [ inl e ↦ subst P (sym (eqb-true b n e)) here | inr e ↦ later e ]

only : (P : ℕ → Type 0) (b n : ℕ) → P n → (b == n) ≡ true → P b
only P b n here h = subst P (sym (eqb-true b n h)) here

class_space : (b : ℕ) → is_space b ≡ true → class b ≡ a_space
class_space b =
    let P : ℕ → Type 0 = λ n. class n ≡ a_space in
    either P b 32 _ refl (either P b 9 _ refl (either P b 13 _ refl (only P b 10 refl)))

class_sign : (b : ℕ) → is_sign b ≡ true → class b ≡ a_sign
class_sign b =
    let P : ℕ → Type 0 = λ n. class n ≡ a_sign in
    either P b 92 _ refl (either P b 58 _ refl (either P b 46 _ refl (either P b 59 _ refl (either P b 44 _ refl (either P b 40 _ refl (either P b 41 _ refl (either P b 91 _ refl (either P b 93 _ refl (either P b 123 _ refl (only P b 125 refl))))))))))

class_word : (b : ℕ) → is_start b ≡ true → class b ≡ a_word
class_word b is = ap (λ (v : Bool). cond v a_word (after_word b)) is

class_arrow : (b : ℕ) → BeginsArrow b → class b ≡ an_arrow
class_arrow b (inl e) = subst (λ (n : ℕ). class n ≡ an_arrow) (sym e) refl
class_arrow b (inr e) = subst (λ (n : ℕ). class n ≡ an_arrow) (sym e) refl

class_mark : (b : ℕ) (kind : ℕ → Kind) → Marks b kind → class b ≡ a_mark kind
class_mark b kind (inl (e, k)) = subst (λ (n : ℕ). class n ≡ a_mark kind) (sym e) (ap a_mark (sym k))
class_mark b kind (inr (e, k)) = subst (λ (n : ℕ). class n ≡ a_mark kind) (sym e) (ap a_mark (sym k))

past : (v : Bool) (here later : Class) → v ≡ false → cond v here later ≡ later
past v here later e = ap (λ (w : Bool). cond w here later) e

class_nothing : (b : ℕ) → BeginsNothing b → class b ≡ a_nothing
class_nothing b is =
    past (is_start b) a_word (after_word b) is.start
    ∙ past (is_sign b) a_sign (after_sign b) is.sign
    ∙ past (is_space b) a_space (after_space b) is.space
    ∙ past (b == 35) a_comment (after_comment b) (ne_eqb b 35 is.comment)
    ∙ past (b == 45) an_arrow (after_minus b) (ne_eqb b 45 (λ e. is.arrow (inl e)))
    ∙ past (b == 61) an_arrow (after_arrows b) (ne_eqb b 61 (λ e. is.arrow (inr e)))
    ∙ past (b == 36) (a_mark dollar) (after_dollar b) (ne_eqb b 36 is.dollar)
    ∙ past (b == 37) (a_mark percent) a_nothing (ne_eqb b 37 is.percent)

-- what a cut says of the text, by its first byte
abbrev IsWordKind : List ℕ → Kind → Type 0
IsWordKind w kind = (IsKeyword w × (kind ≡ keyword w)) ⊎ ((IsKeyword w → ⊥) × (kind ≡ name w))

record WordCut (at : ℕ) (bytes : List ℕ) (ts : List Token) (e : Ending) : Type 0 where
  w : List ℕ
  r : List ℕ
  kind : Kind
  us : List Token
  some : Starts w
  passes : AllPass is_part w
  stops : Stops is_part r
  parts : bytes ≡ w ++ r
  short : length w ≤ 64
  is : IsWordKind w kind
  first : ts ≡ record { kind = kind; from = at; to = at + length w } ∷ us
  rest : Cuts (at + length w) r us e

record LongWord (at : ℕ) (bytes : List ℕ) (ts : List Token) (e : Ending) : Type 0 where
  w : List ℕ
  r : List ℕ
  passes : AllPass is_part w
  stops : Stops is_part r
  parts : bytes ≡ w ++ r
  long : 64 < length w
  none : ts ≡ []
  ending : e ≡ name_too_long at

record CommentCut (at : ℕ) (bytes : List ℕ) (ts : List Token) (e : Ending) : Type 0 where
  c : List ℕ
  r : List ℕ
  passes : AllPass is_comment c
  stops : Stops is_comment r
  parts : bytes ≡ c ++ r
  rest : Cuts (at + 1 + length c) r ts e

record NumberCut (at : ℕ) (kind : ℕ → Kind) (bytes : List ℕ) (ts : List Token) (e : Ending) : Type 0 where
  ds : List ℕ
  r : List ℕ
  n : ℕ
  us : List Token
  is : IsNumeral ds n
  stops : NoDigit r
  parts : bytes ≡ ds ++ r
  first : ts ≡ record { kind = kind n; from = at; to = at + 1 + length ds } ∷ us
  rest : Cuts (at + 1 + length ds) r us e

record BadNumber (at : ℕ) (bytes : List ℕ) (ts : List Token) (e : Ending) : Type 0 where
  ds : List ℕ
  r : List ℕ
  passes : AllPass is_digit ds
  some : 0 < length ds
  bad : BadDigits ds
  stops : NoDigit r
  parts : bytes ≡ ds ++ r
  none : ts ≡ []
  ending : e ≡ bad_number (at + 1)

record SignCut (at b : ℕ) (bytes : List ℕ) (ts : List Token) (e : Ending) : Type 0 where
  us : List Token
  first : ts ≡ record { kind = sign (b ∷ []); from = at; to = at + 1 } ∷ us
  rest : Cuts (at + 1) bytes us e

record ArrowCut (at b : ℕ) (bytes : List ℕ) (ts : List Token) (e : Ending) : Type 0 where
  r : List ℕ
  us : List Token
  parts : bytes ≡ 62 ∷ r
  first : ts ≡ record { kind = sign (b ∷ 62 ∷ []); from = at; to = at + 2 } ∷ us
  rest : Cuts (at + 2) r us e

abbrev Stopped : Ending → List Token → Ending → Type 0
Stopped f ts e = (ts ≡ []) × (e ≡ f)

abbrev View : Class → ℕ → ℕ → List ℕ → List Token → Ending → Type 0
View a_space at b r ts e = Cuts (at + 1) r ts e
View a_comment at b r ts e = CommentCut at r ts e
View a_word at b r ts e = WordCut at (b ∷ r) ts e ⊎ LongWord at (b ∷ r) ts e
View a_sign at b r ts e = SignCut at b r ts e
View an_arrow at b r ts e = ArrowCut at b r ts e ⊎ (NoHead r × Stopped (bad_byte at) ts e)
View a_nothing at b r ts e = Stopped (bad_byte at) ts e
View (a_mark kind) at b r ts e = NumberCut at kind r ts e ⊎ (BadNumber at r ts e ⊎ (NoDigit r × Stopped (bad_byte at) ts e))

abbrev Viewed : ℕ → List ℕ → List Token → Ending → Type 0
Viewed at [] ts e = Stopped whole ts e
Viewed at (b ∷ r) ts e = View (class b) at b r ts e

as_class : (at b : ℕ) (r : List ℕ) (ts : List Token) (e : Ending) (cl : Class) → class b ≡ cl → View cl at b r ts e → Viewed at (b ∷ r) ts e
as_class at b r ts e cl is v = subst (λ (c : Class). View c at b r ts e) (sym is) v

word_view : (at : ℕ) (w r : List ℕ) (bytes : List ℕ) (ts : List Token) (e : Ending) → Starts w → bytes ≡ w ++ r → WordCut at bytes ts e ⊎ LongWord at bytes ts e → Viewed at bytes ts e
word_view at [] r bytes ts e starts parts v = absurd starts
word_view at (b ∷ w) r bytes ts e starts parts v =
    let P : List ℕ → Type 0 = λ s. (WordCut at s ts e ⊎ LongWord at s ts e) → Viewed at s ts e in
    let here : P (b ∷ (w ++ r)) = λ v. as_class at b (w ++ r) ts e a_word (class_word b starts) v in
    subst P (sym parts) here v

behind : (at b : ℕ) (r bytes : List ℕ) (ts : List Token) (e : Ending) (cl : Class) → bytes ≡ b ∷ r → class b ≡ cl → View cl at b r ts e → Viewed at bytes ts e
behind at b r bytes ts e cl parts is v =
    subst (λ (s : List ℕ). Viewed at s ts e) (sym parts) (as_class at b r ts e cl is v)

view : {at : ℕ} {bytes : List ℕ} {ts : List Token} {e : Ending} → Cuts at bytes ts e → Viewed at bytes ts e
view ended = (refl, refl)
view {at} {ts} {e} (space {b = b} {r = r} is d) = as_class at b r ts e a_space (class_space b is) d
view {at} {bytes} {ts} {e} (comment r c passes stops parts d) =
    behind at 35 (c ++ r) bytes ts e a_comment parts refl (record { c = c; r = r; passes = passes; stops = stops; parts = refl; rest = d })
view {at} {bytes} {e} (word r {ts = us} w kind starts passes stops parts short is d) =
    word_view at w r bytes _ e starts parts (inl (record { w = w; r = r; kind = kind; us = us; some = starts; passes = passes; stops = stops; parts = parts; short = short; is = is; first = refl; rest = d }))
view {at} {bytes} {e} (number {b = b} {n = n} r {ts = us} ds kind marks is stops parts d) =
    behind at b (ds ++ r) bytes _ e (a_mark kind) parts (class_mark b kind marks) (inl (record { ds = ds; r = r; n = n; us = us; is = is; stops = stops; parts = refl; first = refl; rest = d }))
view {at} {e} (one_sign {b = b} {r = r} {ts = us} is d) =
    as_class at b r _ e a_sign (class_sign b is) (record { us = us; first = refl; rest = d })
view {at} {e} (arrow {b = b} {r = r} {ts = us} is d) =
    as_class at b (62 ∷ r) _ e an_arrow (class_arrow b is) (inl (record { r = r; us = us; parts = refl; first = refl; rest = d }))
view {at} (nothing_begins {b = b} {r = r} is) = as_class at b r [] (bad_byte at) a_nothing (class_nothing b is) (refl, refl)
view {at} (no_arrow {b = b} {r = r} is lacks) = as_class at b r [] (bad_byte at) an_arrow (class_arrow b is) (inr (lacks, (refl, refl)))
view {at} (no_number {b = b} {r = r} kind marks stops) =
    as_class at b r [] (bad_byte at) (a_mark kind) (class_mark b kind marks) (inr (inr (stops, (refl, refl))))
view {at} {bytes} (bad_digits {b = b} r ds kind marks passes some bad stops parts) =
    behind at b (ds ++ r) bytes [] (bad_number (at + 1)) (a_mark kind) parts (class_mark b kind marks) (inr (inl (record { ds = ds; r = r; passes = passes; some = some; bad = bad; stops = stops; parts = refl; none = refl; ending = refl })))
view {at} {bytes} (long_word r w starts passes stops parts long) =
    word_view at w r bytes [] (name_too_long at) starts parts (inr (record { w = w; r = r; passes = passes; stops = stops; parts = parts; long = long; none = refl; ending = refl }))

-- what is to be shown of a text: it is cut in one way
abbrev IsOneCut : ℕ → List ℕ → Type 0
IsOneCut at bytes = (ts us : List Token) (e f : Ending) → Cuts at bytes ts e → Cuts at bytes us f → (ts ≡ us) × (e ≡ f)

-- of all texts that are no longer than that
abbrev UpTo : ℕ → Type 0
UpTo k = (at : ℕ) (bytes : List ℕ) → length bytes ≤ k → IsOneCut at bytes

numeral_good : (ds : List ℕ) (n : ℕ) → IsNumeral ds n → BadDigits ds → ⊥
numeral_good ds n is (inl no_zero) = no_zero is.proper
numeral_good ds n is (inr great) =
    let value = is.value in
    let small = is.small in
    absurd (omega arith)

has_digits : (ds r s : List ℕ) → AllPass is_digit ds → 0 < length ds → NoDigit s → s ≡ ds ++ r → ⊥
has_digits [] r s passes some stops parts = omega arith
has_digits (d ∷ ds) r s passes some stops parts =
    let none : is_digit d ≡ false = subst NoDigit parts stops in
    false≢true (sym none ∙ passes.0)

numeral_some : (ds : List ℕ) (n : ℕ) → IsNumeral ds n → 0 < length ds
numeral_some [] n is = absurd is.proper
numeral_some (d ∷ ds) n is = omega arith

no_head_there : (r s : List ℕ) → NoHead s → s ≡ 62 ∷ r → ⊥
no_head_there r s lacks parts =
    let other : 62 ≡ 62 → ⊥ = subst NoHead parts lacks in
    other refl

one_kind : (w : List ℕ) (k j : Kind) → IsWordKind w k → IsWordKind w j → k ≡ j
one_kind w k j (inl (is, p)) (inl (_, q)) = p ∙ sym q
one_kind w k j (inl (is, p)) (inr (isnt, q)) = absurd (isnt is)
one_kind w k j (inr (isnt, p)) (inl (is, q)) = absurd (isnt is)
one_kind w k j (inr (isnt, p)) (inr (_, q)) = p ∙ sym q

both_stopped : (g : Ending) (ts us : List Token) (e f : Ending) → Stopped g ts e → Stopped g us f → (ts ≡ us) × (e ≡ f)
both_stopped g ts us e f p q = (p.0 ∙ sym q.0, p.1 ∙ sym q.1)

abbrev same_token : Token → Token → Type 0
same_token t s = t ≡ s

token_same : (at to too : ℕ) (k j : Kind) → k ≡ j → to ≡ too → same_token (record { kind = k; from = at; to = to }) (record { kind = j; from = at; to = too })
token_same at to too k j kinds ends =
    let Same : Kind → ℕ → Type 0 = λ i n. same_token (record { kind = k; from = at; to = to }) (record { kind = i; from = at; to = n }) in
    subst (λ (i : Kind). Same i too) kinds (subst (Same k) ends refl)

list_tail : (a b : ℕ) (xs ys : List ℕ) → a ∷ xs ≡ b ∷ ys → xs ≡ ys
list_tail a b xs ys e = cc

-- two first tokens that are equal, with one cut behind them
both_begin : (t s : Token) (ts us vs ws : List Token) (e f : Ending) → t ≡ s → ts ≡ t ∷ vs → us ≡ s ∷ ws → (vs ≡ ws) × (e ≡ f) → (ts ≡ us) × (e ≡ f)
both_begin t s ts us vs ws e f same p q rest =
    let tails : vs ≡ ws = rest.0 in
    (cc, rest.1)

one_comment : (k at : ℕ) (bytes : List ℕ) (ts us : List Token) (e f : Ending) → UpTo k → length bytes ≤ k → CommentCut at bytes ts e → CommentCut at bytes us f → (ts ≡ us) × (e ≡ f)
one_comment k at bytes ts us e f shorter fits p q =
    let same = run_unique is_comment p.c q.c p.r q.r p.passes q.passes p.stops q.stops (sym p.parts ∙ q.parts) in
    let length_is = ap length p.parts ∙ length-append p.c p.r in
    let other : Cuts (at + 1 + length p.c) q.r us f = subst (λ (c : List ℕ). Cuts (at + 1 + length c) q.r us f) (sym same.0) q.rest in
    shorter (at + 1 + length p.c) p.r (omega arith) ts us e f p.rest (subst (λ (s : List ℕ). Cuts (at + 1 + length p.c) s us f) (sym same.1) other)

starts_length : (w : List ℕ) → Starts w → 0 < length w
starts_length [] starts = absurd starts
starts_length (b ∷ w) starts = omega arith

one_word : (k at : ℕ) (bytes : List ℕ) (ts us : List Token) (e f : Ending) → UpTo k → length bytes ≤ suc k → WordCut at bytes ts e → WordCut at bytes us f → (ts ≡ us) × (e ≡ f)
one_word k at bytes ts us e f shorter fits p q =
    let same = run_unique is_part p.w q.w p.r q.r p.passes q.passes p.stops q.stops (sym p.parts ∙ q.parts) in
    let length_is = ap length p.parts ∙ length-append p.w p.r in
    let some = starts_length p.w p.some in
    let other : Cuts (at + length p.w) q.r q.us f = subst (λ (w : List ℕ). Cuts (at + length w) q.r q.us f) (sym same.0) q.rest in
    let rest = shorter (at + length p.w) p.r (omega arith) p.us q.us e f p.rest (subst (λ (s : List ℕ). Cuts (at + length p.w) s q.us f) (sym same.1) other) in
    let kinds : p.kind ≡ q.kind = one_kind p.w p.kind q.kind p.is (subst (λ (w : List ℕ). IsWordKind w q.kind) (sym same.0) q.is) in
    let long : length p.w ≡ length q.w = ap length same.0 in
    both_begin _ _ ts us p.us q.us e f (token_same at (at + length p.w) (at + length q.w) p.kind q.kind kinds (ap (λ (n : ℕ). at + n) long)) p.first q.first rest

long_and_short : (at : ℕ) (bytes : List ℕ) (ts us : List Token) (e f : Ending) → WordCut at bytes ts e → LongWord at bytes us f → ⊥
long_and_short at bytes ts us e f p q =
    let same = run_unique is_part p.w q.w p.r q.r p.passes q.passes p.stops q.stops (sym p.parts ∙ q.parts) in
    let long : length p.w ≡ length q.w = ap length same.0 in
    let short = p.short in
    let past = q.long in
    omega arith

one_number : (k at : ℕ) (kind : ℕ → Kind) (bytes : List ℕ) (ts us : List Token) (e f : Ending) → UpTo k → length bytes ≤ k → NumberCut at kind bytes ts e → NumberCut at kind bytes us f → (ts ≡ us) × (e ≡ f)
one_number k at kind bytes ts us e f shorter fits p q =
    let same = run_unique is_digit p.ds q.ds p.r q.r p.is.digits q.is.digits p.stops q.stops (sym p.parts ∙ q.parts) in
    let length_is = ap length p.parts ∙ length-append p.ds p.r in
    let other : Cuts (at + 1 + length p.ds) q.r q.us f = subst (λ (ds : List ℕ). Cuts (at + 1 + length ds) q.r q.us f) (sym same.0) q.rest in
    let rest = shorter (at + 1 + length p.ds) p.r (omega arith) p.us q.us e f p.rest (subst (λ (s : List ℕ). Cuts (at + 1 + length p.ds) s q.us f) (sym same.1) other) in
    let value : p.n ≡ q.n = sym p.is.value ∙ ap (number_from 0) same.0 ∙ q.is.value in
    let long : length p.ds ≡ length q.ds = ap length same.0 in
    both_begin _ _ ts us p.us q.us e f (token_same at (at + 1 + length p.ds) (at + 1 + length q.ds) (kind p.n) (kind q.n) (ap kind value) (ap (λ (n : ℕ). at + 1 + n) long)) p.first q.first rest

good_and_bad : (at : ℕ) (kind : ℕ → Kind) (bytes : List ℕ) (ts us : List Token) (e f : Ending) → NumberCut at kind bytes ts e → BadNumber at bytes us f → ⊥
good_and_bad at kind bytes ts us e f p q =
    let same = run_unique is_digit p.ds q.ds p.r q.r p.is.digits q.passes p.stops q.stops (sym p.parts ∙ q.parts) in
    numeral_good p.ds p.n p.is (subst BadDigits (sym same.0) q.bad)

good_and_none : (at : ℕ) (kind : ℕ → Kind) (bytes : List ℕ) (ts : List Token) (e : Ending) → NumberCut at kind bytes ts e → NoDigit bytes → ⊥
good_and_none at kind bytes ts e p stops =
    has_digits p.ds p.r bytes p.is.digits (numeral_some p.ds p.n p.is) stops p.parts

bad_and_none : (at : ℕ) (bytes : List ℕ) (ts : List Token) (e : Ending) → BadNumber at bytes ts e → NoDigit bytes → ⊥
bad_and_none at bytes ts e p stops = has_digits p.ds p.r bytes p.passes p.some stops p.parts

one_sign_cut : (k at b : ℕ) (bytes : List ℕ) (ts us : List Token) (e f : Ending) → UpTo k → length bytes ≤ k → SignCut at b bytes ts e → SignCut at b bytes us f → (ts ≡ us) × (e ≡ f)
one_sign_cut k at b bytes ts us e f shorter fits p q =
    both_begin _ _ ts us p.us q.us e f refl p.first q.first (shorter (at + 1) bytes fits p.us q.us e f p.rest q.rest)

one_arrow : (k at b : ℕ) (bytes : List ℕ) (ts us : List Token) (e f : Ending) → UpTo k → length bytes ≤ k → ArrowCut at b bytes ts e → ArrowCut at b bytes us f → (ts ≡ us) × (e ≡ f)
one_arrow k at b bytes ts us e f shorter fits p q =
    let length_is = ap length p.parts in
    let same : p.r ≡ q.r = list_tail 62 62 p.r q.r (sym p.parts ∙ q.parts) in
    let rest = shorter (at + 2) p.r (omega arith) p.us q.us e f p.rest (subst (λ (s : List ℕ). Cuts (at + 2) s q.us f) (sym same) q.rest) in
    both_begin _ _ ts us p.us q.us e f refl p.first q.first rest

-- one cut, from what the first byte says
joined : (k : ℕ) (cl : Class) (at b : ℕ) (r : List ℕ) (ts us : List Token) (e f : Ending) → UpTo k → length r ≤ k → View cl at b r ts e → View cl at b r us f → (ts ≡ us) × (e ≡ f)
joined k a_space at b r ts us e f shorter fits p q = shorter (at + 1) r fits ts us e f p q
joined k a_comment at b r ts us e f shorter fits p q = one_comment k at r ts us e f shorter fits p q
joined k a_word at b r ts us e f shorter fits (inl p) (inl q) = one_word k at (b ∷ r) ts us e f shorter (omega arith) p q
joined k a_word at b r ts us e f shorter fits (inl p) (inr q) = absurd (long_and_short at (b ∷ r) ts us e f p q)
joined k a_word at b r ts us e f shorter fits (inr p) (inl q) = absurd (long_and_short at (b ∷ r) us ts f e q p)
joined k a_word at b r ts us e f shorter fits (inr p) (inr q) = (p.none ∙ sym q.none, p.ending ∙ sym q.ending)
joined k a_sign at b r ts us e f shorter fits p q = one_sign_cut k at b r ts us e f shorter fits p q
joined k an_arrow at b r ts us e f shorter fits (inl p) (inl q) = one_arrow k at b r ts us e f shorter fits p q
joined k an_arrow at b r ts us e f shorter fits (inl p) (inr q) = absurd (no_head_there p.r r q.0 p.parts)
joined k an_arrow at b r ts us e f shorter fits (inr p) (inl q) = absurd (no_head_there q.r r p.0 q.parts)
joined k an_arrow at b r ts us e f shorter fits (inr p) (inr q) = both_stopped (bad_byte at) ts us e f p.1 q.1
joined k a_nothing at b r ts us e f shorter fits p q = both_stopped (bad_byte at) ts us e f p q
joined k (a_mark kind) at b r ts us e f shorter fits (inl p) (inl q) = one_number k at kind r ts us e f shorter fits p q
joined k (a_mark kind) at b r ts us e f shorter fits (inl p) (inr (inl q)) = absurd (good_and_bad at kind r ts us e f p q)
joined k (a_mark kind) at b r ts us e f shorter fits (inl p) (inr (inr q)) = absurd (good_and_none at kind r ts e p q.0)
joined k (a_mark kind) at b r ts us e f shorter fits (inr (inl p)) (inl q) = absurd (good_and_bad at kind r us ts f e q p)
joined k (a_mark kind) at b r ts us e f shorter fits (inr (inl p)) (inr (inl q)) = (p.none ∙ sym q.none, p.ending ∙ sym q.ending)
joined k (a_mark kind) at b r ts us e f shorter fits (inr (inl p)) (inr (inr q)) = absurd (bad_and_none at r ts e p q.0)
joined k (a_mark kind) at b r ts us e f shorter fits (inr (inr p)) (inl q) = absurd (good_and_none at kind r us f q p.0)
joined k (a_mark kind) at b r ts us e f shorter fits (inr (inr p)) (inr (inl q)) = absurd (bad_and_none at r us f q p.0)
joined k (a_mark kind) at b r ts us e f shorter fits (inr (inr p)) (inr (inr q)) = both_stopped (bad_byte at) ts us e f p.1 q.1

one_up_to : (k : ℕ) → UpTo k
one_up_to k at [] fits ts us e f p q = both_stopped whole ts us e f (view p) (view q)
one_up_to zero at (b ∷ r) fits ts us e f p q = absurd (omega arith)
one_up_to (suc k) at (b ∷ r) fits ts us e f p q =
    joined k (class b) at b r ts us e f (one_up_to k) (omega arith) (view p) (view q)

pub one_cut : (at : ℕ) (bytes : List ℕ) → IsOneCut at bytes
one_cut at bytes = one_up_to (length bytes) at bytes (omega arith)
