-- A reader of the lines of a node of a path order up to that of `drop`, byte by byte, as a function: where it stands,
-- and where the next byte leads. It mirrors the code; the laws in proofs/ tie it to the text.
use Rattle.std.specs.Prelude.{ℕ, ◌==◌, ◌&&◌, nat_lt, cond, List, [], ◌∷◌, ◌++◌, length}
use Rattle.wh_types.specs.Limits.{longest_name}
use Rattle.wh_text.specs.Chars.{line_feed, space, is_start, is_part}
use Rattle.wh_order_inference.specs.Inferences.{Inference}
use Rattle.wh_order_text.specs.FilterMachine as f
use Rattle.wh_order_text.specs.InferenceMachine as i
use Rattle.wh_cert.specs.Written.{Filtering, Node, order}
use Rattle.wh_cert_lines.specs.Sections as s
pub use Rattle.wh_cert_lines.specs.Sections.{in_funs, in_marks, in_rules, in_pairs, on, begins, drops, refused, line_first, line_rest, to_marks, to_rules, to_pairs, add_named, add_shown, pair_step, rule_step, mark_step, first_step}

-- the place in the present line, which is of the last kind: its front; behind `fun ` or `mark `; letters of a name; a
-- part of a filter; behind `rule` or `pair`; a part of an inference
pub data LinesPlace : Type 0 where
  lines_front name_wanted : LinesPlace
  name : (xs : List ℕ) → LinesPlace
  in_filter : (xs : List ℕ) (k : f.Place) → LinesPlace
  space_wanted : LinesPlace
  in_inference : (fs : i.Stack) (k : i.Place) → LinesPlace

-- the lines so far, and where a byte leads
abbrev pub Lines : Type 0
Lines = s.Lines Filtering Inference

abbrev pub LinesStep : Type 0
LinesStep = s.LinesStep Filtering Inference LinesPlace

-- the place behind the word of a line of the last kind
abbrev pub line_begun : Lines → LinesPlace
line_begun (in_funs funs) = name_wanted
line_begun (in_marks funs marks) = name_wanted
line_begun (in_rules funs marks rules) = space_wanted
line_begun (in_pairs funs marks rules pairs) = space_wanted

-- where a byte leads that was given to the reader of filters
abbrev pub filter_led : Lines → List ℕ → f.Step → LinesStep
filter_led x xs (f.goes k) = on x (in_filter xs k)
filter_led x xs (f.ended g b) = cond (b == line_feed) (on (add_named x (record { name = xs; filter = g })) lines_front) refused
filter_led x xs f.nowhere = refused

-- where a byte leads that was given to the reader of inferences
abbrev pub inference_led : Lines → i.Step → LinesStep
inference_led x (i.goes fs k) = on x (in_inference fs k)
inference_led x (i.ended j b) = cond (b == line_feed) (on (add_shown x j) lines_front) refused
inference_led x i.nowhere = refused

abbrev pub lines_step : Lines → LinesPlace → ℕ → LinesStep
lines_step x lines_front b = first_step x b
lines_step x name_wanted b = cond (is_start b) (on x (name (b ∷ []))) refused
lines_step x (name xs) b =
    cond (is_part b && nat_lt (length xs) longest_name) (on x (name (xs ++ b ∷ [])))
    (cond (b == space) (on x (in_filter xs f.wanted)) refused)
lines_step x (in_filter xs k) b = filter_led x xs (f.step k b)
lines_step x space_wanted b = cond (b == space) (on x (in_inference i.outside i.wanted)) refused
lines_step x (in_inference fs k) b = inference_led x (i.step fs k b)

-- the node of these lines, and of the pairs that are dropped
abbrev pub node_of : Lines → List ℕ → Node
node_of (in_funs funs) drop = order funs [] [] [] drop
node_of (in_marks funs marks) drop = order funs marks [] [] drop
node_of (in_rules funs marks rules) drop = order funs marks rules [] drop
node_of (in_pairs funs marks rules pairs) drop = order funs marks rules pairs drop
