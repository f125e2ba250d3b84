-- A reader of terms up to a line feed, byte by byte, as a function. It mirrors the code; the laws in proofs/ tie it to
-- the text.
use Rattle.std.specs.Prelude.{ℕ, suc, ◌+◌, ◌-◌, ◌*◌, ◌==◌, ◌&&◌, nat_lt, cond, List, [], ◌∷◌, ◌++◌, length}
use Rattle.wh_types.specs.Limits.{longest_name, most_arguments, deepest_certificate_term}
use Rattle.wh_text.specs.Chars.{line_feed, space, is_digit, is_start, is_part}
use Rattle.wh_text.specs.RawTree.{RTy, numbered_binder, RTm, named, numbered, free_variable, lam, spine, RTms, none, more}
use Rattle.wh_cert_letters.specs.Digits.{goes_on}
use Rattle.wh_cert.specs.TermLimits.{term_count}
use Rattle.wh_cert_parts.specs.TypeMachine.{TypeStack, outside, TypePlace, type_wanted, TypeStep, goes, type_ended, no_type, type_step}

-- the open parentheses, the innermost first: of a spine before its head has ended; of a spine with its head and the
-- arguments that have ended; of an abstraction with its binder
pub data Stack : Type 0 where
  base : Stack
  in_head : (around : Stack) → Stack
  in_spine : (h : RTm) (ts : RTms) (around : Stack) → Stack
  in_body : (n : ℕ) (a : RTy) (around : Stack) → Stack

-- what a type is read for: a free variable or a binder of this number
pub data Typed : Type 0 where
  of_free of_binder : (n : ℕ) → Typed

-- what was read since: nothing; `(`; `((`; letters of a name; `$` or `%`; these with digits; `(\`; `(\$`; this with
-- digits; a part of a type; a term that ended with `)`
pub data Place : Type 0 where
  wanted opened head_opened : Place
  letters : (xs : List ℕ) → Place
  dollar percent : Place
  bound_number free_number : (n : ℕ) → Place
  slash binder : Place
  binder_number : (n : ℕ) → Place
  typing : (of : Typed) (fs : TypeStack) (k : TypePlace) → Place
  closed : (t : RTm) → Place

-- inside a term; behind the line feed after a term; nowhere
pub data State : Type 0 where
  at : (fs : Stack) (k : Place) → State
  whole : (t : RTm) → State
  failed : State

abbrev pub level : Stack → ℕ
level base = 0
level (in_head fs) = suc (level fs)
level (in_spine h ts fs) = suc (level fs)
level (in_body n a fs) = suc (level fs)

-- a term joins at the end
abbrev pub add_term : RTms → RTm → RTms
add_term none u = more u none
add_term (more t ts) u = more t (add_term ts u)

-- a term has ended before the byte
abbrev pub after : Stack → RTm → ℕ → State
after base t b = cond (b == line_feed) (whole t) failed
after (in_head fs) t b = cond (b == space) (at (in_spine t none fs) wanted) failed
after (in_spine h ts fs) t b =
    cond (b == 41) (at fs (closed (spine h (add_term ts t) 0)))
    (cond ((b == space) && nat_lt (suc (term_count ts)) most_arguments) (at (in_spine h (add_term ts t) fs) wanted) failed)
after (in_body n a fs) t b = cond (b == 41) (at fs (closed (lam (numbered_binder n) a t 0))) failed

-- the byte begins a name, a bound or a free variable, or does what is said
abbrev pub begin : Stack → ℕ → State → State
begin fs b other =
    cond (is_start b) (at fs (letters (b ∷ []))) (cond (b == 36) (at fs dollar) (cond (b == 37) (at fs percent) other))

-- the byte is the first digit of a number, or the term fails
abbrev pub first_digit : Stack → (ℕ → Place) → ℕ → State
first_digit fs k b = cond (is_digit b) (at fs (k (b - 48))) failed

-- where a byte leads that was given to the reader of types
abbrev pub typed : Stack → Typed → TypeStep → State
typed fs of (goes tfs tk) = at fs (typing of tfs tk)
typed fs (of_free n) (type_ended a b) = after fs (free_variable n a 0) b
typed fs (of_binder n) (type_ended a b) = cond (b == 46) (at (in_body n a fs) wanted) failed
typed fs of no_type = failed

abbrev pub step : Stack → Place → ℕ → State
step fs wanted b = begin fs b (cond ((b == 40) && nat_lt (level fs) deepest_certificate_term) (at fs opened) failed)
step fs opened b =
    begin (in_head fs) b (cond (b == 92) (at fs slash)
    (cond ((b == 40) && nat_lt (suc (level fs)) deepest_certificate_term) (at (in_head fs) head_opened) failed))
step fs head_opened b = cond (b == 92) (at fs slash) failed
step fs (letters xs) b =
    cond (is_part b && nat_lt (length xs) longest_name) (at fs (letters (xs ++ b ∷ []))) (after fs (named xs 0) b)
step fs dollar b = first_digit fs bound_number b
step fs percent b = first_digit fs free_number b
step fs binder b = first_digit fs binder_number b
step fs (bound_number n) b =
    cond (goes_on n b) (at fs (bound_number (10 * n + (b - 48)))) (after fs (numbered n 0) b)
step fs (free_number n) b =
    cond (goes_on n b) (at fs (free_number (10 * n + (b - 48)))) (cond (b == 58) (at fs (typing (of_free n) outside type_wanted)) failed)
step fs (binder_number n) b =
    cond (goes_on n b) (at fs (binder_number (10 * n + (b - 48))))
    (cond (b == 58) (at fs (typing (of_binder n) outside type_wanted)) failed)
step fs slash b = cond (b == 36) (at fs binder) failed
step fs (typing of tfs tk) b = typed fs of (type_step tfs tk b)
step fs (closed t) b = after fs t b
