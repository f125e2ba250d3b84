-- What a search for a proof answers is told of the system file.
use Rattle.std.proofs.Common.{ℕ, List, Result, Ok, Err}
use Rattle.wh_types.specs.Outcome.{MatchOr}
use Rattle.wh_types.specs.declared.want.Or.{Or}
use Rattle.wh_types.specs.declared.want.Or.TheVariants.{NoMemory, Because}
use Rattle.wh_system.specs.Systems.{SystemData}
use Rattle.wh_pairs.specs.PairData.{PairData}
use Rattle.wh_answer.specs.declared.report.Role.TheVariants.{Output}
use Rattle.wh_answer.specs.declared.report.Report.{Report}
use Rattle.wh_answer.specs.declared.report.Report.TheVariants.{Maybe, TooLong}
use Rattle.wh_prover.specs.declared.answer.Options.{Options}
use Rattle.wh_top_judging.specs.Outcomes.{Shelves, IsProblemIn, ToldSystem}
use Rattle.wh_top_replies.specs.Proving.{IsFoundText, IsNotFound, StandsForSearch}
use Rattle.wh_top_judging.proofs.Standing.{told_with}

-- why nothing was found for the system in the file
not_found_stands : (s : Shelves) (file : List ℕ) (o : Options) (d : SystemData) (ps : List PairData) (r : Report)
    → IsProblemIn (s.held file) d ps → IsNotFound d ps o r → StandsForSearch s file o r
not_found_stands s file o d ps (Maybe named) is h = told_with (s.held file) d ps (λ e es. IsNotFound e es o (Maybe named)) is h
not_found_stands s file o d ps (TooLong Output) is h = told_with (s.held file) d ps (λ e es. IsNotFound e es o (TooLong Output)) is h
not_found_stands s file o d ps r is h = absurd h

-- the text of a proof or of a loop for the system in the file, or why there is neither
pub search_stands : (s : Shelves) (file : List ℕ) (o : Options) (d : SystemData) (ps : List PairData) (r : Result (List ℕ) (Or Report))
    → IsProblemIn (s.held file) d ps → MatchOr r (IsFoundText d ps o) (IsNotFound d ps o)
    → MatchOr r (λ text. ToldSystem (s.held file) (λ e es. IsFoundText e es o text)) (StandsForSearch s file o)
search_stands s file o d ps (Ok text) is h = told_with (s.held file) d ps (λ e es. IsFoundText e es o text) is h
search_stands s file o d ps (Err NoMemory) is h = tt
search_stands s file o d ps (Err (Because r)) is h = not_found_stands s file o d ps r is h
