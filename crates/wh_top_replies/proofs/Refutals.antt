-- What the search for a proof and for a refutation come to is told of the system file.
use Rattle.std.proofs.Common.{◌≡◌, ℕ, suc, ◌+◌, ◌<◌, ◌≤◌, inl, inr, List, [], ◌∷◌, ◌++◌, length, drop, get_or, Result, Ok, Err, IfOk, sym, ap, ◌∙◌, arith}
use Rattle.std.specs.Fmt.{decimal}
use Rattle.std.proofs.lemmas.List.{append_assoc, length-drop, nil_from_length}
use Rattle.std.proofs.Math.Seq.{drop-cons}
use Rattle.wh_text.specs.Chars.{line_feed, space}
use Rattle.std.specs.declared.alloc.AllocError.{AllocError}
use Rattle.wh_types.specs.Outcome.{MatchOr}
use Rattle.wh_types.specs.declared.want.Or.{Or}
use Rattle.wh_types.specs.declared.want.Or.TheVariants.{NoMemory, Because}
use Rattle.wh_system.specs.Systems.{SystemData}
use Rattle.wh_system.specs.WellMade.{IsWellMadeSystem}
use Rattle.wh_pairs.specs.PairData.{PairData}
use Rattle.wh_answer.specs.declared.report.Report.{Report}
use Rattle.wh_prover.specs.Answers.{IsAnswer}
use Rattle.wh_prover.specs.declared.answer.Answer.{Answer}
use Rattle.wh_prover.specs.declared.answer.Answer.TheVariants as found
use Rattle.wh_prover.specs.declared.answer.Options.{Options}
use Rattle.wh_prover_refuting.specs.Verdicts.{IsVerdict}
use Rattle.wh_prover_refuting.specs.declared.refuting.Verdict.{Verdict}
use Rattle.wh_prover_refuting.specs.declared.refuting.Verdict.TheVariants.{Refuted, Unrefuted, Unstuck}
use Rattle.wh_top_judging.specs.Outcomes.{Shelves, IsProblemIn, ToldSystem, StandsBySystem}
use Rattle.wh_top_judging.proofs.Standing.{told_with}
use Rattle.wh_top_replies.specs.Refuting.{AnswerIsThere, BeginsRefuted, TellsRefuted, VerdictIsThere, numbers_text, refuted_text}
use Rattle.wh_top_replies.proofs.Causes.{reason_there}

-- what an answer or a verdict names is there
answer_there : (d : SystemData) (ps : List PairData) (o : Options) (a : Answer) → IsWellMadeSystem d → IsAnswer d ps o a → AnswerIsThere d a
answer_there d ps o (found.Yes certificate) made is = tt
answer_there d ps o (found.No certificate) made is = tt
answer_there d ps o (found.Maybe cause) made is = reason_there d ps o cause made is

pub verdict_there : (d : SystemData) (ps : List PairData) (o : Options) (v : Verdict) → IsWellMadeSystem d → IsVerdict d ps o v → VerdictIsThere d v
verdict_there d ps o (Refuted set) made is = tt
verdict_there d ps o (Unrefuted set) made is = tt
verdict_there d ps o (Unstuck answer) made is = answer_there d ps o answer made is.0

-- the line of a verdict tells of it
pub verdict_told : (d : SystemData) (ps : List PairData) (o : Options) (v : Verdict) (r : Result (List ℕ) AllocError) → IsVerdict d ps o v
    → IfOk r (λ text. text ≡ refuted_text d v) → IfOk r (TellsRefuted d ps o)
verdict_told d ps o v (Ok text) is same = (v, is, same)
verdict_told d ps o v (Err e) is same = tt

begins_by : (d : SystemData) (v : Verdict) (text : List ℕ) → text ≡ refuted_text d v → BeginsRefuted text
begins_by d (Refuted set) text is = inl (_, is)
begins_by d (Unrefuted set) text is = inr (_, is)
begins_by d (Unstuck answer) text is = inr (_, is)

pub told_begins : (d : SystemData) (ps : List PairData) (o : Options) (text : List ℕ) → TellsRefuted d ps o text → BeginsRefuted text
told_begins d ps o text (v, is, same) = begins_by d v text same

pub refuted_told : (s : Shelves) (file : List ℕ) (o : Options) (d : SystemData) (ps : List PairData) (text : List ℕ)
    → IsProblemIn (s.held file) d ps → TellsRefuted d ps o text → ToldSystem (s.held file) (λ e es. TellsRefuted e es o text)
refuted_told s file o d ps text is tells = told_with (s.held file) d ps (λ e es. TellsRefuted e es o text) is tells

-- one number more
pub one_number : (text more whole numbers : List ℕ) (i n : ℕ) → i < length numbers → n ≡ get_or numbers i 0
    → more ≡ (text ++ space ∷ []) ++ decimal n → text ++ numbers_text (drop i numbers) ≡ whole
    → more ++ numbers_text (drop (i + 1) numbers) ≡ whole
one_number text more whole numbers i n within is pushed before =
    let rest = numbers_text (drop (i + 1) numbers) in
    let one : suc i ≡ i + 1 = omega arith in
    let split : drop i numbers ≡ n ∷ drop (i + 1) numbers =
    drop-cons numbers i 0 within ∙ ap (λ m. m ∷ drop (suc i) numbers) (sym is) ∙ ap (λ k. n ∷ drop k numbers) one in
    ap (λ m. m ++ rest) pushed ∙ append_assoc (text ++ space ∷ []) (decimal n) rest ∙ append_assoc text (space ∷ []) (decimal n ++ rest)
    ∙ ap (λ l. text ++ numbers_text l) (sym split) ∙ before

-- and the end of the line
pub no_number : (text whole numbers : List ℕ) (i : ℕ) → length numbers ≤ i → text ++ numbers_text (drop i numbers) ≡ whole
    → text ++ line_feed ∷ [] ≡ whole
no_number text whole numbers i end before =
    let none : drop i numbers ≡ [] = nil_from_length (drop i numbers) (omega (arith, end, length-drop i numbers)) in
    ap (λ l. text ++ numbers_text l) (sym none) ∙ before
