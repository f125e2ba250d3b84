-- What the words of a text say of the answer whose line it is.
use Rattle.std.proofs.Common.{ℕ, ◌≡◌, List, [], ◌∷◌, Option, Some, None, Result, Ok, Err, IfOk, sym, ◌∙◌, ap, subst}
use Rattle.std.specs.List.{join_with_byte}
use Rattle.std.specs.Str.{IsUtf8}
use Rattle.std.proofs.lemmas.List.{append_cancel_right}
use Rattle.std.proofs.lemmas.List.Splits.{join_with_byte-slice_split}
use Rattle.std.proofs.lemmas.Str.{IsUtf8-from_ascii}
use Rattle.wh_answer.specs.declared.report.Report.{Report}
use Rattle.wh_answer.specs.Stands.{Reads, Stands}
use Rattle.wh_answer.specs.Texts.{line, report_text}
use Rattle.wh_answer.specs.Words.{report_words, words_of}
use Rattle.wh_answer.proofs.Joined.{report_joined}
use Rattle.wh_answer.proofs.PlainWords.{report_ascii, report_split}

-- the text is the answer's words, joined
joined_text : (r : Report) (text : List ℕ) → report_text r ≡ line text → join_with_byte 32 (report_words r) ≡ text
joined_text r text e = append_cancel_right (join_with_byte 32 (report_words r)) text (10 ∷ []) (sym (report_joined r) ∙ e)

words_text : (r : Report) (text : List ℕ) → report_words r ≡ words_of text → report_text r ≡ line text
words_text r text e =
    report_joined r ∙ ap (λ (t : List ℕ). line t) (ap (λ (ws : List (List ℕ)). join_with_byte 32 ws) e ∙ join_with_byte-slice_split 32 text)

text_words : (r : Report) (text : List ℕ) → Stands r → report_text r ≡ line text → report_words r ≡ words_of text
text_words r text h e = sym (report_split r h) ∙ ap (λ (t : List ℕ). words_of t) (joined_text r text e)

-- such a text is UTF-8
pub text_utf8 : (r : Report) (text : List ℕ) → Stands r → report_text r ≡ line text → IsUtf8 text
text_utf8 r text h e = subst IsUtf8 (joined_text r text e) (IsUtf8-from_ascii _ (report_ascii r h))

-- the answer with these words, or none, is the answer with this line, or none
by_words : (text : List ℕ) (found : Option Report) → Reads Stands report_words (words_of text) found → Reads Stands report_text (line text) found
by_words text None none = λ r h e. none r h (text_words r text h e)
by_words text (Some r) some = (some.0, words_text r text some.1)

pub line_by_words : {E : Type 0} (text : List ℕ) (words : List (List ℕ)) (result : Result (Option Report) E) → words ≡ words_of text → IfOk result (Reads Stands report_words words) → IfOk result (Reads Stands report_text (line text))
line_by_words text words (Ok found) e h = by_words text found (subst (λ (ws : List (List ℕ)). Reads Stands report_words ws found) e h)
line_by_words text words (Err x) e h = tt
