-- Replies that are texts of their own.
use Rattle.std.proofs.Common.{◌≡◌, ℕ, ◌≤◌, ◌⊎◌, inl, inr, List, length, codes, Result, Ok, Err, IfOk, subst, subst₂, sym}
use Rattle.wh_types.specs.Limits.{certificate_limit}
use Rattle.wh_types.specs.Outcome.{MatchOr}
use Rattle.wh_types.specs.declared.want.Or.{Or}
use Rattle.wh_types.specs.declared.want.Or.TheVariants.{NoMemory, Because}
use Rattle.wh_top_words.specs.Words.{Bounds, prove, show, gen, reduce, upgrade, refute}
use Rattle.wh_answer.specs.declared.report.Report.{Report}
use Rattle.wh_answer.specs.Texts.{line}
use Rattle.wh_prover.specs.declared.answer.Options.{Options}
use Rattle.wh_top_naming.specs.declared.status.Status.{Status}
use Rattle.wh_top_naming.specs.declared.status.Status.TheVariants.{Answered}
use Rattle.wh_top_judging.specs.Outcomes.{Shelves, BeginsWith, ToldSystem, ToldText, StandsBySystem}
use Rattle.wh_top_judging.specs.Texts.{IsShown, TellsMade}
use Rattle.wh_top_replies.specs.Generating.{ShowsGenerated, StandsForGenerated}
use Rattle.wh_top_replies.specs.Proving.{IsFoundText, StandsForSearch}
use Rattle.wh_top_replies.specs.Reducing.{StandsForReduction}
use Rattle.wh_top_replies.specs.Refuting.{BeginsRefuted, TellsRefuted, options_with}
use Rattle.wh_top_reducing.specs.Telling.{TellsReduced}
use Rattle.wh_top_upgrading.specs.Upgrading.{IsUpgradedIn, StandsForUpgrade}
use Rattle.wh_top_replies.specs.Run.{Replies}
use Rattle.wh_top_replies.specs.Words.{options_of}

-- what a search found
pub found_replies : (s : Shelves) (file : List ℕ) (b : Bounds) (o : Options) (status : Status) (found text : List ℕ) → o ≡ options_of b → status ≡ Answered → text ≡ found
    → ToldSystem (s.held file) (λ d ps. IsFoundText d ps o found) → BeginsWith (codes "YES ") found ⊎ BeginsWith (codes "NO 1") found → length found ≤ certificate_limit
    → Replies s (prove file b) status text
found_replies s file b o status found text same answered is told begins within =
    subst (λ t. Replies s (prove file b) status t) (sym is) (inl (record {
      found = subst (λ (p : Options). ToldSystem (s.held file) (λ d ps. IsFoundText d ps p found)) same told;
      begins = begins;
      within = within;
      status_is = answered;
    }))

-- what a search made, a text or the answer why there is none
pub search_replies : (s : Shelves) (file : List ℕ) (b : Bounds) (o : Options) (made : Result (List ℕ) (Or Report)) (status : Status) (text : List ℕ)
    → o ≡ options_of b → MatchOr made (λ t. ToldSystem (s.held file) (λ d ps. IsFoundText d ps o t)) (StandsForSearch s file o)
    → IfOk made (λ t. BeginsWith (codes "YES ") t ⊎ BeginsWith (codes "NO 1") t) → IfOk made (λ t. length t ≤ certificate_limit)
    → TellsMade made status text → Replies s (prove file b) status text
search_replies s file b o (Ok found) status text same told begins within (answered, is) =
    found_replies s file b o status found text same answered is told begins within
search_replies s file b o (Err (Because report)) status text same stands begins within (status_is, text_is) = inr (record {
  report = report;
  stands = subst (λ p. StandsForSearch s file p report) same stands;
  status_is = status_is;
  text_is = text_is;
})
search_replies s file b o (Err NoMemory) status text same stands begins within none = absurd none

-- the same of a system that is shown
pub show_replies : (s : Shelves) (file : List ℕ) (made : Result (List ℕ) (Or Report)) (status : Status) (text : List ℕ)
    → MatchOr made (λ t. ToldSystem (s.held file) (IsShown t)) (StandsBySystem s file) → IfOk made (BeginsWith (line (codes "SYSTEM")))
    → TellsMade made status text → Replies s (show file) status text
show_replies s file (Ok shown) status text told begins (answered, is) = inl (record {
  system = subst (λ t. ToldSystem (s.held file) (IsShown t)) (sym is) told;
  begins = subst (BeginsWith (line (codes "SYSTEM"))) (sym is) begins;
  status_is = answered;
})
show_replies s file (Err (Because report)) status text stands begins (status_is, text_is) =
    inr (record { report = report; stands = stands; status_is = status_is; text_is = text_is })
show_replies s file (Err NoMemory) status text stands begins none = absurd none

-- and of a generated one
pub generated_replies : (s : Shelves) (n : ℕ) (made : Result (List ℕ) (Or Report)) (status : Status) (text : List ℕ)
    → MatchOr made (ShowsGenerated n Answered) (StandsForGenerated n) → TellsMade made status text → Replies s (gen n) status text
generated_replies s n (Ok shown) status text shows (answered, is) = inl (subst₂ (ShowsGenerated n) (sym answered) (sym is) shows)
generated_replies s n (Err (Because report)) status text stands (status_is, text_is) =
    inr (record { report = report; stands = stands; status_is = status_is; text_is = text_is })
generated_replies s n (Err NoMemory) status text stands none = absurd none

-- and of a term that is reduced
pub reduced_replies : (s : Shelves) (file term : List ℕ) (n : ℕ) (made : Result (List ℕ) (Or Report)) (status : Status) (text : List ℕ)
    → MatchOr made (λ t. ToldText (s.held file) (λ d. TellsReduced d term n t)) (StandsForReduction s file term)
    → IfOk made (BeginsWith (codes "REDUCED ")) → TellsMade made status text → Replies s (reduce file term n) status text
reduced_replies s file term n (Ok reduced) status text told begins (answered, is) = inl (record {
  told = subst (λ t. ToldText (s.held file) (λ d. TellsReduced d term n t)) (sym is) told;
  begins = subst (BeginsWith (codes "REDUCED ")) (sym is) begins;
  status_is = answered;
})
reduced_replies s file term n (Err (Because report)) status text stands begins (status_is, text_is) =
    inr (record { report = report; stands = stands; status_is = status_is; text_is = text_is })
reduced_replies s file term n (Err NoMemory) status text stands begins none = absurd none

-- and of a certificate that is upgraded
pub upgraded_replies : (s : Shelves) (file cert : List ℕ) (made : Result (List ℕ) (Or Report)) (status : Status) (text : List ℕ)
    → MatchOr made (IsUpgradedIn s file cert) (StandsForUpgrade s file cert) → IfOk made (λ t. length t ≤ certificate_limit)
    → TellsMade made status text → Replies s (upgrade file cert) status text
upgraded_replies s file cert (Ok written) status text found within (answered, is) = inl (record {
  found = subst (IsUpgradedIn s file cert) (sym is) found;
  within = subst (λ (t : List ℕ). length t ≤ certificate_limit) (sym is) within;
  status_is = answered;
})
upgraded_replies s file cert (Err (Because report)) status text stands within (status_is, text_is) =
    inr (record { report = report; stands = stands; status_is = status_is; text_is = text_is })
upgraded_replies s file cert (Err NoMemory) status text stands within none = absurd none

-- and of a refutation
pub refuted_replies : (s : Shelves) (file : List ℕ) (n : ℕ) (o : Options) (made : Result (List ℕ) (Or Report)) (status : Status) (text : List ℕ)
    → o ≡ options_with n → MatchOr made (λ t. ToldSystem (s.held file) (λ d ps. TellsRefuted d ps o t)) (StandsBySystem s file)
    → IfOk made BeginsRefuted → TellsMade made status text → Replies s (refute file n) status text
refuted_replies s file n o (Ok told) status text same is begins (answered, text_is) = inl (record {
  told = subst (λ (p : Options). ToldSystem (s.held file) (λ d ps. TellsRefuted d ps p text)) same
      (subst (λ t. ToldSystem (s.held file) (λ d ps. TellsRefuted d ps o t)) (sym text_is) is);
  begins = subst BeginsRefuted (sym text_is) begins;
  status_is = answered;
})
refuted_replies s file n o (Err (Because report)) status text same stands begins (status_is, text_is) =
    inr (record { report = report; stands = stands; status_is = status_is; text_is = text_is })
refuted_replies s file n o (Err NoMemory) status text same stands begins none = absurd none
