use Rattle.std.proofs.Common.{◌≡◌, ℕ, slice_get, inr, subst, sym, rules}
use Rattle.wh_terms.specs.Erase.{tms, declared_metas}
use Rattle.wh_terms.specs.Sight.{Occurs, OccursIn}
use Rattle.wh_terms.proofs.TermLemmas.{tm_of_meta}
use Rattle.wh_pairs.proofs.AlikeLemmas.{occurs_in_item, alike_next, both}
use Rattle.wh_pairs_making.proofs.subsumption.+alike.Goals as goal

pub all_declared_alike-returns-then-not-are_declared_alike : goal.all_declared_alike-returns-then-not-are_declared_alike
all_declared_alike-returns-then-not-are_declared_alike t c = (
  λ no_way. cc,
  λ all. c.if-not-are_declared_alike.ensures.1 (λ z o. all z (subst (λ xs. OccursIn z (tms xs)) c.as_slice-item-items.ensures
      (occurs_in_item z c.as_slice-item-items.result.now c.loop-item.item-index c.item-item.result c.loop-item-test.true c.item-item.is o))),
)

pub all_declared_alike-loop-item-preserved : goal.all_declared_alike-loop-item-preserved
all_declared_alike-loop-item-preserved t c =
    alike_next (λ z. slice_get (declared_metas c.args.a.now) z ≡ slice_get (declared_metas c.args.b.now) z) c.as_slice-item-items.result.now c.loop-item.item-index c.item-item.result
    c.loop-item-test.true c.item-item.is c.loop-item.invariant (c.are_declared_alike.ensures.0 (search rules))

pub are_declared_alike-returns-then-is_declared_alike : goal.are_declared_alike-returns-then-is_declared_alike
are_declared_alike-returns-then-is_declared_alike t c =
    let is = tm_of_meta c.args.term.now c.in-Meta.meta c.in-Meta.items c.in-Meta.is in
    let P : ℕ → Type 0 = λ z. slice_get (declared_metas c.args.a.now) z ≡ slice_get (declared_metas c.args.b.now) z in
    let here : P c.in-Meta.meta = c.is_declared_alike.ensures.0 (search rules) in (
      λ yes z o. both P (tms c.in-Meta.items) c.in-Meta.meta here (c.all_declared_alike.ensures.0 yes) z (subst (Occurs z) is o),
      λ all. c.all_declared_alike.ensures.1 (λ z o. all z (subst (Occurs z) (sym is) (inr o))),
    )
