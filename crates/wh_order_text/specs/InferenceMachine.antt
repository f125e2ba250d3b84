-- A reader of inferences, byte by byte, as a function: where it stands, and where the next byte leads. It mirrors the
-- code; the laws tie it to the text.
use Rattle.std.specs.Prelude.{ℕ, suc, ◌+◌, ◌-◌, ◌*◌, ◌==◌, nat_lt, cond, List, [], ◌∷◌, Option, Some, None}
use Rattle.wh_text.specs.Chars.{is_digit}
use Rattle.wh_cert_letters.specs.Digits.{goes_on}
use Rattle.wh_order_inference.specs.Inferences.{Letter, same_trees, bodies, arguments, part, lower, first_less, spine_parts, body, variable, meta_part, Inference, infer, Inferences, no_parts, more_parts}
use Rattle.wh_order_inference.specs.InferenceText.{Form, alone, with_parts, with_place, form}
use Rattle.wh_order_inference.specs.InferenceLimits.{deepest_inference}

-- the inferences whose parentheses are open, the innermost first, each with its letter, its place and the parts that
-- have ended
pub data Stack : Type 0 where
  outside : Stack
  inside : (l : Letter) (n : ℕ) (is : Inferences) (around : Stack) → Stack

-- what was read since: nothing; a letter that a place follows; this and digits; a letter that parts follow; a letter,
-- what its place is, and `(`; an inference that has ended
pub data Place : Type 0 where
  wanted : Place
  place_wanted : (l : Letter) → Place
  placed : (l : Letter) (n : ℕ) → Place
  list_wanted : (l : Letter) → Place
  begun : (l : Letter) (n : ℕ) → Place
  behind : (i : Inference) → Place

-- where a byte leads: on; out of the inference, which ended before the byte that is handed on; nowhere
pub data Step : Type 0 where
  goes : (fs : Stack) (k : Place) → Step
  ended : (i : Inference) (b : ℕ) → Step
  nowhere : Step

abbrev pub level : Stack → ℕ
level outside = 0
level (inside l n is fs) = suc (level fs)

-- a part joins at the end
abbrev pub add_part : Inferences → Inference → Inferences
add_part no_parts i = more_parts i no_parts
add_part (more_parts j is) i = more_parts j (add_part is i)

-- the letter that the byte is
abbrev pub letter_at : ℕ → Option Letter
letter_at b =
    cond (b == 61) (Some same_trees) (cond (b == 108) (Some bodies) (cond (b == 109) (Some arguments) (cond (b == 115) (Some part)
    (cond (b == 112) (Some lower) (cond (b == 120) (Some first_less) (cond (b == 97) (Some spine_parts) (cond (b == 98) (Some body)
    (cond (b == 118) (Some variable) (cond (b == 122) (Some meta_part) None)))))))))

-- behind a letter of this form
abbrev pub behind_letter : Form → Stack → Letter → Step
behind_letter alone fs l = goes fs (behind (infer l 0 no_parts))
behind_letter with_parts fs l = goes fs (list_wanted l)
behind_letter with_place fs l = goes fs (place_wanted l)

-- an inference begins with the letter, if it is one
abbrev pub begin : Stack → Option Letter → Step
begin fs (Some l) = behind_letter (form l) fs l
begin fs None = nowhere

-- the parentheses of an inference open
abbrev pub opening : Stack → Letter → ℕ → ℕ → Step
opening fs l n b = cond (b == 40) (goes fs (begun l n)) nowhere

-- an inference has ended before the byte: the whole, or a part of the one around it
abbrev pub behind_inference : Stack → Inference → ℕ → Step
behind_inference outside i b = ended i b
behind_inference (inside l n is fs) i b =
    cond (b == 44) (goes (inside l n (add_part is i) fs) wanted)
    (cond (b == 41) (goes fs (behind (infer l n (add_part is i)))) nowhere)

abbrev pub step : Stack → Place → ℕ → Step
step fs wanted b = begin fs (letter_at b)
step fs (place_wanted l) b = cond (is_digit b) (goes fs (placed l (b - 48))) nowhere
step fs (placed l n) b = cond (goes_on n b) (goes fs (placed l (10 * n + (b - 48)))) (opening fs l n b)
step fs (list_wanted l) b = opening fs l 0 b
step fs (begun l n) b =
    cond (b == 41) (goes fs (behind (infer l n no_parts)))
    (cond (nat_lt (suc (level fs)) deepest_inference) (begin (inside l n no_parts fs) (letter_at b)) nowhere)
step fs (behind i) b = behind_inference fs i b

-- where a list of bytes leads: the inference may go on; it was read, and these bytes are left; no inference begins so
pub data Scan : Type 0 where
  reading : (fs : Stack) (k : Place) → Scan
  read : (i : Inference) (r : List ℕ) → Scan
  failed : Scan

abbrev pub scan : Step → List ℕ → Scan
scan (ended i b) r = read i (b ∷ r)
scan nowhere r = failed
scan (goes fs k) [] = reading fs k
scan (goes fs k) (b ∷ r) = scan (step fs k b) r

-- before an inference
abbrev pub start : Step
start = goes outside wanted
