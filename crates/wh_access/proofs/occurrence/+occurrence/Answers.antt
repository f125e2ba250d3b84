use Rattle.std.proofs.Common.{List, refl, subst, sym, inl, inr, rules}
use Rattle.wh_terms.specs.Erase.{tms}
use Rattle.wh_terms.specs.Sight.{Occurs, OccursIn}
use Rattle.wh_terms.specs.declared.term.Term.{Term}
use Rattle.wh_terms.proofs.TermLemmas.{tm_of_meta}
use Rattle.wh_access.proofs.OccurrenceLemmas.{occurs_next, occurs_at}
use Rattle.wh_access.proofs.occurrence.+occurrence.Goals as goal

pub occurs-returns-else-number-meta : goal.occurs-returns-else-number-meta
occurs-returns-else-number-meta t c =
    let e = tm_of_meta c.args.term.now c.in-Meta.number c.in-Meta.items c.in-Meta.is in (
      λ yes. subst (Occurs c.args.meta) (sym e) (inr (c.occurs_in.ensures.0 yes)),
      λ here. elim (subst (Occurs c.args.meta) e here) [ inl same ↦ absurd (c.if-number-meta.false same) | inr within ↦ c.occurs_in.ensures.1 within ],
    )

pub occurs_in-returns-then-occurs : goal.occurs_in-returns-then-occurs
occurs_in-returns-then-occurs t c =
    let here = occurs_at c.args.meta c.as_slice-item-items.result.now c.loop-item.item-index c.item-item.result c.loop-item-test.true c.item-item.is (c.occurs.ensures.0 (search rules)) in
    (λ _. subst (λ (xs : List Term). OccursIn c.args.meta (tms xs)) c.as_slice-item-items.ensures here, λ _. refl)

pub occurs_in-loop-item-preserved : goal.occurs_in-loop-item-preserved
occurs_in-loop-item-preserved t c =
    occurs_next c.args.meta c.as_slice-item-items.result.now c.loop-item.item-index c.item-item.result c.loop-item-test.true c.item-item.is c.loop-item.invariant
    (λ here. absurd (cc (c.occurs.ensures.1 here, c.if-occurs.false)))
