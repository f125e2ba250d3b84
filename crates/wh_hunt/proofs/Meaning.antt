-- What an output of the hunt means that begins with YES or with NO.
use Rattle.std.proofs.Common.{◌≡◌, ℕ, inl, inr, Result, Ok, Err, List, ◌∷◌, ◌++◌, Bool, Option, Some, refl, sym, ap, ◌∙◌, arith}
use Rattle.std.specs.Prelude.{codes}
use Rattle.wh_types.specs.Outcome.{MatchOr}
use Rattle.wh_types.specs.declared.want.Or.{Or}
use Rattle.wh_types.specs.declared.want.Or.TheVariants.{NoMemory, Because}
use Rattle.wh_system.specs.Systems.{SystemData}
use Rattle.wh_pairs.specs.PairData.{PairData}
use Rattle.wh_pairs.specs.SystemPairs.{HasPairs}
use Rattle.wh_read.specs.Reading.{Reads}
use Rattle.wh_answer.specs.Texts.{report_text}
use Rattle.wh_answer.specs.declared.report.Report.{Report}
use Rattle.wh_answer.specs.declared.report.Report.TheVariants.{Yes, No, Rejected, Maybe, Refused, BadWords, ReadFault, OutOfMemory, TooLong, Overflow, TooLarge}
use Rattle.wh_top_naming.specs.declared.status.Status.{Status}
use Rattle.wh_top_judging.specs.Outcomes.{Shelves, BeginsWith, Told, ToldSystem}
use Rattle.wh_prover.proofs.LoopLemmas.{loop_is_valid}
use Rattle.wh_top_replies.specs.Proving.{IsFoundText, StandsForSearch}
use Rattle.wh_top_replies.specs.Run.{EndsWith, MeansYes, MeansNo}
use Rattle.wh_top_replies.proofs.Meaning.{yes_means, no_means, same_yes, same_no, not_byte, output_front}
use Rattle.wh_hunt.specs.Hunting.{Answers, served, misspoken, starved, Asked, Hunts, IsHunted, SaysNo, usual_options}

-- of the texts of answers, with whatever behind them, only that of YES begins so
only_yes : (o : Report) (more rest : List ℕ) → report_text o ++ more ≡ 89 ∷ rest → o ≡ Yes
only_yes Yes more rest e = refl
only_yes No more rest e = absurd (not_byte 89 78 _ rest (λ d. omega arith) e)
only_yes (Rejected r) more rest e = absurd (not_byte 89 82 _ rest (λ d. omega arith) e)
only_yes (Maybe c) more rest e = absurd (not_byte 89 77 _ rest (λ d. omega arith) e)
only_yes (Refused r at) more rest e = absurd (not_byte 89 82 _ rest (λ d. omega arith) e)
only_yes BadWords more rest e = absurd (not_byte 89 66 _ rest (λ d. omega arith) e)
only_yes (ReadFault role) more rest e = absurd (not_byte 89 82 _ rest (λ d. omega arith) e)
only_yes OutOfMemory more rest e = absurd (not_byte 89 79 _ rest (λ d. omega arith) e)
only_yes (TooLong role) more rest e = absurd (not_byte 89 84 _ rest (λ d. omega arith) e)
only_yes (Overflow k) more rest e = absurd (not_byte 89 79 _ rest (λ d. omega arith) e)
only_yes (TooLarge k) more rest e = absurd (not_byte 89 84 _ rest (λ d. omega arith) e)

-- and only that of NO begins so
only_no : (o : Report) (more rest : List ℕ) → report_text o ++ more ≡ 78 ∷ rest → o ≡ No
only_no Yes more rest e = absurd (not_byte 78 89 _ rest (λ d. omega arith) e)
only_no No more rest e = refl
only_no (Rejected r) more rest e = absurd (not_byte 78 82 _ rest (λ d. omega arith) e)
only_no (Maybe c) more rest e = absurd (not_byte 78 77 _ rest (λ d. omega arith) e)
only_no (Refused r at) more rest e = absurd (not_byte 78 82 _ rest (λ d. omega arith) e)
only_no BadWords more rest e = absurd (not_byte 78 66 _ rest (λ d. omega arith) e)
only_no (ReadFault role) more rest e = absurd (not_byte 78 82 _ rest (λ d. omega arith) e)
only_no OutOfMemory more rest e = absurd (not_byte 78 79 _ rest (λ d. omega arith) e)
only_no (TooLong role) more rest e = absurd (not_byte 78 84 _ rest (λ d. omega arith) e)
only_no (Overflow k) more rest e = absurd (not_byte 78 79 _ rest (λ d. omega arith) e)
only_no (TooLarge k) more rest e = absurd (not_byte 78 84 _ rest (λ d. omega arith) e)

-- a text that begins with YES means so of the system that it is of
hunted_yes : (system text rest : List ℕ) (d : SystemData) (ps : List PairData) → text ≡ 89 ∷ rest → Reads system d → HasPairs d ps
    → IsHunted d ps text → MeansYes system
hunted_yes system text rest d ps e reads has (inl (is, (more, begins))) = absurd (not_byte 89 78 _ rest (λ w. omega arith) (sym begins ∙ e))
hunted_yes system text rest d ps e reads has (inr (inl ((c, is, spelled), first))) = yes_means system d ps c reads has (same_yes c is.yes) is.valid
hunted_yes system text rest d ps e reads has (inr (inr (is, (more, begins)))) = absurd (not_byte 89 78 _ rest (λ w. omega arith) (sym begins ∙ e))

-- and one that begins with NO
hunted_no : (system text rest : List ℕ) (d : SystemData) (ps : List PairData) → text ≡ 78 ∷ rest → Reads system d
    → IsHunted d ps text → MeansNo system text
hunted_no system text rest d ps e reads (inl ((c, is, spelled, valid), begins)) = no_means system text d ps c reads spelled is valid
hunted_no system text rest d ps e reads (inr (inl (is, (more, begins)))) = absurd (not_byte 78 89 _ rest (λ w. omega arith) (sym begins ∙ e))
hunted_no system text rest d ps e reads (inr (inr ((c, is, spelled), first))) =
    no_means system text d ps c reads spelled (same_no c is.no) (loop_is_valid d ps usual_options.depth c is.loops)

module _ (s : Shelves) where
  -- the answers YES and NO of one line are none of a search
  no_yes_line : (file : List ℕ) (work : ℕ) (counts : Bool) (status : Status) (text rest : List ℕ) → Hunts s file work counts status text → text ≡ 89 ∷ rest
      → Told (s.held file) MeansYes
  no_yes_line file work counts status text rest (inl (found, answered)) e = λ system held.
      let (within, d, ps, reads, has, is) = found system held in
      hunted_yes system text rest d ps e reads has is
  no_yes_line file work counts status text rest (inr tells) e =
      let (more, behind, text_is) = tells.told in
      let is : tells.report ≡ Yes = only_yes tells.report more rest (sym text_is ∙ e) in
      absurd (rw is at tells.stands)

  no_no_line : (file : List ℕ) (work : ℕ) (counts : Bool) (status : Status) (text rest : List ℕ) → Hunts s file work counts status text → text ≡ 78 ∷ rest
      → Told (s.held file) (λ system. MeansNo system text)
  no_no_line file work counts status text rest (inl (found, answered)) e = λ system held.
      let (within, d, ps, reads, has, is) = found system held in
      hunted_no system text rest d ps e reads is
  no_no_line file work counts status text rest (inr tells) e =
      let (more, behind, text_is) = tells.told in
      let is : tells.report ≡ No = only_no tells.report more rest (sym text_is ∙ e) in
      absurd (rw is at tells.stands)

  yes_asked : (words : List (List ℕ)) (status : Status) (text rest : List ℕ) → Answers s words status text → text ≡ 89 ∷ rest
      → Asked s words MeansYes
  yes_asked words status text rest (served file work counts asks hunts) e = (file, work, counts, asks, no_yes_line file work counts status text rest hunts e)
  yes_asked words status text rest (misspoken none status_is text_is) e = absurd (not_byte 89 66 _ rest (λ w. omega arith) (sym text_is ∙ e))
  yes_asked words status text rest (starved file work counts asks status_is text_is) e = absurd (not_byte 89 79 _ rest (λ w. omega arith) (sym text_is ∙ e))

  no_asked : (words : List (List ℕ)) (status : Status) (text rest : List ℕ) → Answers s words status text → text ≡ 78 ∷ rest
      → Asked s words (λ system. MeansNo system text)
  no_asked words status text rest (served file work counts asks hunts) e = (file, work, counts, asks, no_no_line file work counts status text rest hunts e)
  no_asked words status text rest (misspoken none status_is text_is) e = absurd (not_byte 78 66 _ rest (λ w. omega arith) (sym text_is ∙ e))
  no_asked words status text rest (starved file work counts asks status_is text_is) e = absurd (not_byte 78 79 _ rest (λ w. omega arith) (sym text_is ∙ e))

  pub termination : (words : List (List ℕ)) (status : Status) (text : List ℕ) (old new : Option (List ℕ)) (f g : ℕ) (result : Status)
      → Answers s words status text → EndsWith old new f g status text result
      → (before output : List ℕ) → old ≡ Some before → new ≡ Some (before ++ output) → BeginsWith (codes "YES") output
      → Asked s words MeansYes
  termination words status text old new f g result answers ends before output e h (rest, begins) =
      let (back, cut) = output_front old new f g status result before text output ends e h in
      yes_asked words status text _ answers (cut ∙ ap (λ x. x ++ back) begins)

  pub non_termination : (words : List (List ℕ)) (status : Status) (text : List ℕ) (old new : Option (List ℕ)) (f g : ℕ) (result : Status)
      → Answers s words status text → EndsWith old new f g status text result
      → (before output : List ℕ) → old ≡ Some before → new ≡ Some (before ++ output) → BeginsWith (codes "NO") output
      → SaysNo s words output
  non_termination words status text old new f g result answers ends before output e h (rest, begins) =
      let (back, cut) = output_front old new f g status result before text output ends e h in
      (text, (back, cut), no_asked words status text _ answers (cut ∙ ap (λ x. x ++ back) begins))

-- what the search finds is hunted
pub searched_is_hunted : (s : Shelves) (file : List ℕ) (r : Result (List ℕ) (Or Report))
    → MatchOr r (λ text. ToldSystem (s.held file) (λ d ps. IsFoundText d ps usual_options text)) (StandsForSearch s file usual_options)
    → MatchOr r (λ text. ToldSystem (s.held file) (λ d ps. IsHunted d ps text)) (StandsForSearch s file usual_options)
searched_is_hunted s file (Ok text) h = λ system held. let (within, d, ps, reads, has, is) = h system held in (within, d, ps, reads, has, inr is)
searched_is_hunted s file (Err NoMemory) h = tt
searched_is_hunted s file (Err (Because r)) h = h
