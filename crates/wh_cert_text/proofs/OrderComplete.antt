-- The reader of certificates reads each spelling of the lines of a node of a path order.
use Rattle.std.proofs.Common.{◌≡◌, ℕ, List, [], ◌++◌, codes, refl}
use Rattle.std.specs.List.{All}
use Rattle.wh_order_inference.specs.Inferences.{Inference}
use Rattle.wh_order_inference.specs.InferenceLimits.{InferenceFits}
use Rattle.wh_cert.specs.Written.{Filtering}
use Rattle.wh_cert.specs.Text.{put_filterings, put_all_shown}
use Rattle.wh_cert.specs.Limits.{FilteringFits}
use Rattle.wh_cert_lines.specs.OrderLines.{Lines, in_funs, in_marks, in_rules, in_pairs, lines_front, begins, line_rest, line_begun}
use Rattle.wh_cert_lines.proofs.OrderLinesComplete.{Reader, lines_run}
use Rattle.wh_cert_machines.specs.YesMachine.{order_lines, order_led, Past}
use Rattle.wh_cert_machines.specs.LineMachine.{Standing, stands_yes, standing_after_yes, run}

-- the word of a line
pub word_run : (h : Past) (x : Lines) (r : List ℕ) → run (standing_after_yes h (order_led (begins x))) (line_rest x ++ r) ≡ run (stands_yes h (order_lines x (line_begun x))) r
word_run h (in_funs funs) r = refl
word_run h (in_marks funs marks) r = refl
word_run h (in_rules funs marks rules) r = refl
word_run h (in_pairs funs marks rules pairs) r = refl

-- it has the reader of these lines in it
abbrev pub order_reader : Past → Reader Standing
order_reader h = record {
  at = λ x k r. run (stands_yes h (order_lines x k)) r;
  led = λ s r. run (standing_after_yes h (order_led s)) r;
  steps = λ x k b r. refl;
  goes = λ x k r. refl;
  begun = word_run h;
}

pub order_run : (h : Past) (funs marks : List Filtering) (rules pairs : List Inference) (r : List ℕ) → All FilteringFits funs → All FilteringFits marks → All (InferenceFits 0) rules → All (InferenceFits 0) pairs
    → run (stands_yes h (order_lines (in_funs []) lines_front)) (put_filterings (codes "fun ") funs (put_filterings (codes "mark ") marks (put_all_shown (codes "rule ") rules (put_all_shown (codes "pair ") pairs (codes "drop" ++ r)))))
    ≡ run (stands_yes h (order_lines (in_pairs funs marks rules pairs) lines_front)) (codes "drop" ++ r)
order_run h funs marks rules pairs r f m u p = lines_run (order_reader h) funs marks rules pairs r f m u p
