-- A reader of the lines of a node of interpretations up to that of `drop`, byte by byte, as a function: where it
-- stands, and where the next byte leads. It mirrors the code; the laws in proofs/ tie it to the text.
use Rattle.std.specs.Prelude.{ℕ, ◌+◌, ◌-◌, ◌*◌, ◌==◌, ◌&&◌, nat_lt, cond, List, [], ◌∷◌, ◌++◌, length, Option}
use Rattle.wh_types.specs.Limits.{longest_name}
use Rattle.wh_hopoly.specs.declared.expression.Move as moved
use Rattle.wh_text.specs.Chars.{line_feed, space, is_digit, is_start, is_part}
use Rattle.wh_cert_letters.specs.Digits.{goes_on, begins_big, goes_on_big}
use Rattle.wh_cert_parts.specs.PolyMachine.{PolyStack, outside, PolyPlace, poly_wanted, PolyStep, goes, poly_ended, no_poly, poly_step}
use Rattle.wh_cert.specs.Interps.{Interp}
use Rattle.wh_cert.specs.Written.{Node, interpretations}
use Rattle.wh_cert_lines.specs.Sections as s
pub use Rattle.wh_cert_lines.specs.Sections.{in_funs, in_marks, in_rules, in_pairs, on, begins, drops, refused, line_first, line_rest, to_marks, to_rules, to_pairs, add_named, add_shown, pair_step, rule_step, mark_step, first_step}

-- the place in the present line, which is of the last kind: its front; behind `fun ` or `mark `; letters of a name; a
-- part of a polynomial; behind moves; these and a space; this and digits; this and a `>`; this and digits; this and a
-- `:`; this and digits
pub data LinesPlace : Type 0 where
  lines_front name_wanted : LinesPlace
  name : (xs : List ℕ) → LinesPlace
  in_poly : (xs : List ℕ) (fs : PolyStack) (k : PolyPlace) → LinesPlace
  moves from_wanted : (ms : List moved.Move) → LinesPlace
  from to_wanted : (ms : List moved.Move) (i : ℕ) → LinesPlace
  to amount_wanted : (ms : List moved.Move) (i j : ℕ) → LinesPlace
  amount : (ms : List moved.Move) (i j n : ℕ) → LinesPlace

-- the lines so far, and where a byte leads
abbrev pub Lines : Type 0
Lines = s.Lines Interp (List moved.Move)

abbrev pub LinesStep : Type 0
LinesStep = s.LinesStep Interp (List moved.Move) LinesPlace

-- the place behind the word of a line of the last kind
abbrev pub line_begun : Lines → LinesPlace
line_begun (in_funs funs) = name_wanted
line_begun (in_marks funs marks) = name_wanted
line_begun (in_rules funs marks rules) = moves []
line_begun (in_pairs funs marks rules pairs) = moves []

-- where a byte leads that was given to the reader of polynomials
abbrev pub poly_led : Lines → List ℕ → PolyStep → LinesStep
poly_led x xs (goes fs k) = on x (in_poly xs fs k)
poly_led x xs (poly_ended p b) = cond (b == line_feed) (on (add_named x (record { name = xs; poly = p })) lines_front) refused
poly_led x xs no_poly = refused

-- behind moves another one comes, or the line ends
abbrev pub moves_step : Lines → List moved.Move → ℕ → LinesStep
moves_step x ms b = cond (b == space) (on x (from_wanted ms)) (cond (b == line_feed) (on (add_shown x ms) lines_front) refused)

-- the moves and one more
abbrev pub add_move : List moved.Move → ℕ → ℕ → ℕ → List moved.Move
add_move ms i j n = ms ++ record { from = i; to = j; amount = n } ∷ []

abbrev pub lines_step : Lines → LinesPlace → ℕ → LinesStep
lines_step x lines_front b = first_step x b
lines_step x name_wanted b = cond (is_start b) (on x (name (b ∷ []))) refused
lines_step x (name xs) b =
    cond (is_part b && nat_lt (length xs) longest_name) (on x (name (xs ++ b ∷ [])))
    (cond (b == space) (on x (in_poly xs outside poly_wanted)) refused)
lines_step x (in_poly xs fs k) b = poly_led x xs (poly_step fs k b)
lines_step x (moves ms) b = moves_step x ms b
lines_step x (from_wanted ms) b = cond (is_digit b) (on x (from ms (b - 48))) refused
lines_step x (from ms i) b =
    cond (goes_on i b) (on x (from ms (10 * i + (b - 48)))) (cond (b == 62) (on x (to_wanted ms i)) refused)
lines_step x (to_wanted ms i) b = cond (is_digit b) (on x (to ms i (b - 48))) refused
lines_step x (to ms i j) b =
    cond (goes_on j b) (on x (to ms i (10 * j + (b - 48)))) (cond (b == 58) (on x (amount_wanted ms i j)) refused)
lines_step x (amount_wanted ms i j) b = cond (begins_big b) (on x (amount ms i j (b - 48))) refused
lines_step x (amount ms i j n) b =
    cond (goes_on_big n b) (on x (amount ms i j (10 * n + (b - 48)))) (moves_step x (add_move ms i j n) b)

-- the node of the rules that are to be covered, where they are listed, of these lines, and of the pairs that are
-- dropped
abbrev pub node_of : Option (List ℕ) → Lines → List ℕ → Node
node_of usable (in_funs funs) drop = interpretations usable funs [] [] [] drop
node_of usable (in_marks funs marks) drop = interpretations usable funs marks [] [] drop
node_of usable (in_rules funs marks rules) drop = interpretations usable funs marks rules [] drop
node_of usable (in_pairs funs marks rules pairs) drop = interpretations usable funs marks rules pairs drop
