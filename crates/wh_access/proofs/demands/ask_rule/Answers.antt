use Rattle.std.proofs.Common.{◌+◌, sym, subst}
use Rattle.wh_terms.specs.Erase.{rewrite_rule, symbols}
use Rattle.wh_terms.specs.Sight.{Occurs}
use Rattle.wh_access.specs.Tables.{Grows}
use Rattle.wh_access.proofs.AskLemmas.{AskedBelow, asked_next, asked_skip, read_next}
use Rattle.wh_access.proofs.demands.ask_rule.Goals as goal
use Rattle.wh_access.proofs.demands.ask_rule.Goals.{else-occurs-via-then-occurs+else-not-ask_left, else-occurs-via-else-occurs}

pub loop-meta-preserved : goal.loop-meta-preserved
loop-meta-preserved c =
    let S = symbols c.args.signature.now in
    let r = rewrite_rule c.args.rule.now in
    let n = c.loop-meta.meta in
    let first = c.args.demands.now in
    let before = c.loop-meta.invariant in
    elim c.else-occurs.branch [
      | else-occurs-via-then-occurs+else-not-ask_left w ↦
          let told = w.if-not-ask_left.ensures in (
            read_next r n before.0 (λ _. (told.0, told.1)),
            subst (λ t. Grows first t (AskedBelow S r (n + 1))) (sym w.demands-is)
                (asked_next S r n first c.loop-meta.demands w.ask_left.new.demands before.1 (c.occurs.ensures.0 w.if-occurs.true) told),
          )
      | else-occurs-via-else-occurs w ↦
          let unused : Occurs n r.right → ⊥ = λ here. cc (c.occurs.ensures.1 here, w.if-occurs.false) in (
            read_next r n before.0 (λ here. absurd (unused here)),
            subst (λ t. Grows first t (AskedBelow S r (n + 1))) (sym w.demands-is) (asked_skip S r n first c.loop-meta.demands before.1 unused),
          )
    ]
