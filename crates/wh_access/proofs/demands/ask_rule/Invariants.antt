use Rattle.std.proofs.Common.{ℕ, ◌<◌}
use Rattle.wh_terms.specs.Sight.{Occurs}
use Rattle.wh_terms.specs.Erase.{rewrite_rule, symbols, tm}
use Rattle.wh_access.specs.Passing.{IsRead}
use Rattle.wh_access.specs.Tables.{Grows}
use Rattle.wh_access.proofs.AskLemmas.{AskedBelow}
use Rattle.wh_access.proofs.demands.ask_rule.Given as goal

abbrev pub invariant-loop-meta : goal.invariant-loop-meta
invariant-loop-meta l =
    ((y : ℕ) → y < l.meta → Occurs y (tm l.rule.right) → IsRead (tm l.rule.left) y)
    × Grows l.initial.demands l.demands (AskedBelow (symbols l.signature) (rewrite_rule l.rule) l.meta)
