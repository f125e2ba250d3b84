-- Causes of a search that ends without an answer, with names in place of numbers.
use Rattle.std.specs.Prelude.{length, map}
use Rattle.wh_answer.specs.declared.report.NamedCause.{NamedCause}
use Rattle.wh_answer.specs.declared.report.NamedCause.TheVariants as named_cause_of
use Rattle.wh_answer.specs.declared.report.NamedFinder.{NamedFinder}
use Rattle.wh_answer.specs.declared.report.NamedFinder.TheVariants as named_finder
use Rattle.wh_system.specs.Systems.{SystemData}
use Rattle.wh_access.specs.declared.find.NoRanks.TheVariants as ranks
use Rattle.wh_prover.specs.declared.answer.Cause.{Cause}
use Rattle.wh_prover.specs.declared.answer.Cause.TheVariants as cause
use Rattle.wh_prover.specs.declared.answer.Finder.{Finder}
use Rattle.wh_prover.specs.declared.answer.Finder.TheVariants as finder
use Rattle.wh_top_naming.specs.Rows.{sort_name, meta_name}

-- the word for what searched
abbrev pub finder_named : Finder → NamedFinder
finder_named finder.Subterm = named_finder.Subterm
finder_named finder.Poly = named_finder.Poly
finder_named finder.Order = named_finder.Order

-- why nothing was found, with names; of clauses and of terms only their number
abbrev pub named_cause : SystemData → Cause → NamedCause
named_cause d (cause.NoRanks (ranks.Unread r z)) = named_cause_of.Meta r (meta_name d r z)
named_cause d (cause.NoRanks (ranks.Cycle sorts)) = named_cause_of.Sorts (map (sort_name d) sorts)
named_cause d (cause.Stuck set) = named_cause_of.Stuck set
named_cause d (cause.Spent by set list) = named_cause_of.Spent (finder_named by) (length list)
named_cause d (cause.Full visits) = named_cause_of.Spent named_finder.Loop (length visits)
