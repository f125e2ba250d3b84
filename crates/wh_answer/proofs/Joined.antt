-- The line of an answer without its line feed is the answer's words with a space between any two.
use Rattle.std.proofs.Common.{ℕ, ◌≡◌, ◌++◌, true, false, List, [], ◌∷◌, map, codes, refl, ◌∙◌, ap, append_assoc}
use Rattle.std.specs.Fmt.{decimal}
use Rattle.std.specs.List.{join_with_byte}
use Rattle.wh_answer.specs.declared.report.Report.{Report}
use Rattle.wh_answer.specs.declared.report.Report.TheVariants as answer
use Rattle.wh_answer.specs.declared.report.NamedRejection.{NamedRejection}
use Rattle.wh_answer.specs.declared.report.NamedRejection.TheVariants as row
use Rattle.wh_answer.specs.declared.report.NamedCause.{NamedCause}
use Rattle.wh_answer.specs.declared.report.NamedCause.TheVariants as cause
use Rattle.wh_answer.specs.Texts.{all_named, all_numbered, cause_text, line, named, numbered, rejection_text, report_text}
use Rattle.wh_answer.specs.Words.{cause_words, report_words, row_words}

-- the front of a first word goes before the rest
join_front : (a b : List ℕ) (ws : List (List ℕ)) → join_with_byte 32 ((a ++ b) ∷ ws) ≡ a ++ join_with_byte 32 (b ∷ ws)
join_front a b [] = refl
join_front a b (w ∷ ws) = append_assoc a b (32 ∷ join_with_byte 32 (w ∷ ws))

all_joined : (w : List ℕ) (names : List (List ℕ)) → all_named w names ≡ join_with_byte 32 (w ∷ names)
all_joined w [] = refl
all_joined w (x ∷ xs) =
    all_joined (named w x) xs ∙ (join_front w (32 ∷ x) xs ∙ ap (λ (t : List ℕ). w ++ t) (join_front (32 ∷ []) x xs))

numbers_named : (w : List ℕ) (ns : List ℕ) → all_numbered w ns ≡ all_named w (map decimal ns)
numbers_named w [] = refl
numbers_named w (n ∷ ns) = numbers_named (numbered w n) ns

row_joined : (front : List ℕ) (r : NamedRejection) → named front (rejection_text r) ≡ join_with_byte 32 (front ∷ row_words r)
row_joined front (row.Syntax at) = refl
row_joined front row.RankCount = refl
row_joined front (row.PairCount n) = refl
row_joined front row.NotATerm = refl
row_joined front row.NoStep = refl
row_joined front (row.StepFails i) = refl
row_joined front (row.TooBig i) = refl
row_joined front (row.BadPut i) = refl
row_joined front row.NoInstance = refl
row_joined front (row.BadPolynomial k f false) = simp append_assoc
row_joined front (row.BadPolynomial k f true) = simp append_assoc
row_joined front (row.BadFilter k f false) = simp append_assoc
row_joined front (row.BadFilter k f true) = simp append_assoc
row_joined front r = simp append_assoc

cause_joined : (front : List ℕ) (c : NamedCause) → named front (cause_text c) ≡ join_with_byte 32 (front ∷ cause_words c)
cause_joined front (cause.Sorts names) =
    ap (λ (t : List ℕ). named front t) (all_joined (codes "no-ranks sorts") names ∙ join_front (codes "no-ranks ") (codes "sorts") names)
cause_joined front (cause.Meta r name) = simp append_assoc
cause_joined front (cause.Stuck pairs) =
    ap (λ (t : List ℕ). named front t) (numbers_named (codes "stuck") pairs ∙ all_joined (codes "stuck") (map decimal pairs))
cause_joined front (cause.Spent by count) = simp append_assoc

pub report_joined : (r : Report) → report_text r ≡ line (join_with_byte 32 (report_words r))
report_joined answer.Yes = refl
report_joined answer.No = refl
report_joined (answer.Rejected r) = ap (λ (t : List ℕ). line t) (row_joined (codes "REJECTED") r)
report_joined (answer.Maybe c) = ap (λ (t : List ℕ). line t) (cause_joined (codes "MAYBE") c)
report_joined (answer.Refused r at) = simp append_assoc
report_joined answer.BadWords = refl
report_joined (answer.ReadFault r) = refl
report_joined answer.OutOfMemory = refl
report_joined (answer.TooLong r) = refl
report_joined (answer.Overflow k) = refl
report_joined (answer.TooLarge k) = refl
