-- Two answers that stand and have the same words are the same.
use Rattle.std.proofs.Common.{ℕ, ◌≡◌, ◌<◌, ◌^◌, true, false, List, [], ◌∷◌, map, codes, refl, sym, ◌∙◌, ap, arith}
use Rattle.std.specs.Fmt.{decimal}
use Rattle.std.specs.List.{join_with_byte}
use Rattle.std.proofs.lemmas.Fmt.{decimal_injective}
use Rattle.std.proofs.lemmas.List.{append_cancel_right}
use Rattle.wh_answer.specs.declared.report.Report.{Report}
use Rattle.wh_answer.specs.declared.report.Report.TheVariants as answer
use Rattle.wh_answer.specs.declared.report.NamedRejection.{NamedRejection}
use Rattle.wh_answer.specs.declared.report.NamedRejection.TheVariants as row
use Rattle.wh_answer.specs.declared.report.NamedCause.{NamedCause}
use Rattle.wh_answer.specs.declared.report.NamedCause.TheVariants as cause
use Rattle.wh_answer.specs.declared.report.NamedFinder.{NamedFinder}
use Rattle.wh_answer.specs.declared.report.ReasonWord.{ReasonWord}
use Rattle.wh_answer.specs.declared.report.Role.{Role}
use Rattle.wh_answer.specs.Stands.{AllShort, CauseStands, RowStands, Stands}
use Rattle.wh_answer.specs.Texts.{finder_word, reason_word, role_word, report_text}
use Rattle.wh_answer.specs.Words.{cause_words, report_words, row_words, words_of}
use Rattle.wh_answer.proofs.Joined.{report_joined}
use Rattle.wh_answer.proofs.PlainWords.{report_split}
use Rattle.wh_answer.proofs.Spelled.{word_no_mark}

same_role : (r s : Role) → role_word r ≡ role_word s → r ≡ s
same_role r s e = grind arith

same_finder : (f g : NamedFinder) → finder_word f ≡ finder_word g → f ≡ g
same_finder f g e = grind arith

same_reason : (r s : ReasonWord) → reason_word r ≡ reason_word s → r ≡ s
same_reason r s e = grind arith

same_short : (m n : ℕ) → m < 2 ^ 32 → n < 2 ^ 32 → decimal m ≡ decimal n → m ≡ n
same_short m n h k e = decimal_injective m n (omega arith) (omega arith) e

same_long : (m n : ℕ) → m < 2 ^ 64 → n < 2 ^ 64 → decimal m ≡ decimal n → m ≡ n
same_long m n h k e = decimal_injective m n h k e

same_row : (r s : NamedRejection) → RowStands r → RowStands s → row_words r ≡ row_words s → r ≡ s
same_row (row.Syntax at) s h g e = grind (arith, same_long)
same_row (row.BadPolynomial k f false) s h g e = grind (arith, same_short, word_no_mark)
same_row (row.BadPolynomial k f true) (row.BadPolynomial j v true) h g e =
    let node : k ≡ j = same_short k j h.0 g.0 cc in
    let name : f ≡ v = append_cancel_right f v (codes "#") cc in
    cc
same_row (row.BadPolynomial k f true) s h g e = grind (arith, same_short, word_no_mark)
same_row (row.BadFilter k f false) s h g e = grind (arith, same_short, word_no_mark)
same_row (row.BadFilter k f true) (row.BadFilter j v true) h g e =
    let node : k ≡ j = same_short k j h.0 g.0 cc in
    let name : f ≡ v = append_cancel_right f v (codes "#") cc in
    cc
same_row (row.BadFilter k f true) s h g e = grind (arith, same_short, word_no_mark)
same_row r s h g e = grind (arith, same_short)

same_names : (names others : List (List ℕ)) → names ≡ others → cause.Sorts names ≡ cause.Sorts others
same_names names others e = cc

same_numbers : (ms ns : List ℕ) → AllShort ms → AllShort ns → map decimal ms ≡ map decimal ns → ms ≡ ns
same_numbers [] [] h k e = refl
same_numbers [] (n ∷ ns) h k e = cc
same_numbers (m ∷ ms) [] h k e = cc
same_numbers (m ∷ ms) (n ∷ ns) h k e =
    let first : m ≡ n = same_short m n h.0 k.0 cc in
    let rest : ms ≡ ns = same_numbers ms ns h.1 k.1 cc in
    cc

same_cause : (c d : NamedCause) → CauseStands c → CauseStands d → cause_words c ≡ cause_words d → c ≡ d
same_cause (cause.Stuck ms) (cause.Stuck ns) h g e = let rest : ms ≡ ns = same_numbers ms ns h g cc in cc
same_cause c d h g e = grind (arith, same_short, same_long, same_finder)

same_report : (r s : Report) → Stands r → Stands s → report_words r ≡ report_words s → r ≡ s
same_report (answer.Rejected r) (answer.Rejected s) h g e = let rest : r ≡ s = same_row r s h g cc in cc
same_report (answer.Maybe c) (answer.Maybe d) h g e = let rest : c ≡ d = same_cause c d h g cc in cc
same_report r s h g e = grind (arith, same_short, same_reason, same_role)

pub one_answer : (r s : Report) → Stands r → Stands s → report_text r ≡ report_text s → r ≡ s
one_answer r s h g e =
    let front : join_with_byte 32 (report_words r) ≡ join_with_byte 32 (report_words s) = append_cancel_right _ _ (10 ∷ []) (sym (report_joined r) ∙ (e ∙ report_joined s)) in
    same_report r s h g (sym (report_split r h) ∙ (ap (λ (t : List ℕ). words_of t) front ∙ report_split s g))
