use Rattle.wh_terms.specs.Erase.{tm}
use Rattle.wh_terms.proofs.TermLemmas.{weight}
use Rattle.wh_match.proofs.matching.+match_under.Given as goal

abbrev pub decreases-match_under : goal.decreases-match_under
decreases-match_under l = weight (tm l.pattern.now)
