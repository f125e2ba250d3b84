-- A meta-variable with its arguments is a variable that is applied to them.
use Rattle.std.proofs.Common.{◌≡◌, IfOk, ap, sym, subst, ◌∙◌, arith}
use Rattle.wh_terms.specs.Tree.{Tm, free}
use Rattle.wh_terms.specs.Erase.{tm, tms, declared_metas}
use Rattle.wh_terms.proofs.TermLemmas.{weight_in_meta, weight_in_item, tm_of_meta}
use Rattle.wh_loop_starts.specs.Starts.{freed, freed_spine}
use Rattle.wh_loop_starts.proofs.start.+freed.Goals as goal

pub applied-freed-requires : goal.applied-freed-requires
applied-freed-requires t c = (
  omega (arith, weight_in_item c.args.items.now c.as_slice-item-items.result.now c.loop-item.item-index c.item-item.result c.as_slice-item-items.ensures c.loop-item-test.true c.item-item.is),
  tt,
)

pub freed-applied-requires : goal.freed-applied-requires
freed-applied-requires t c = (omega (arith, weight_in_meta c.args.term.now c.in-Meta.meta c.in-Meta.items c.in-Meta.is), tt)

pub freed-returns-in_ok-kind-in-Meta : goal.freed-returns-in_ok-kind-in-Meta
freed-returns-in_ok-kind-in-Meta t c =
    let M = declared_metas c.args.metas.now in
    let z = c.in-Meta.meta in
    let items = c.in-Meta.items in
    let same = ap (λ a. freed_spine M (free z a) (tms items)) c.in_ok-kind-in-Meta.ensures ∙ ap (freed M) (sym (tm_of_meta c.args.term.now z items c.in-Meta.is)) in
    subst (λ (v : Tm). IfOk c.applied.result (λ r. tm r ≡ v)) same c.applied.ensures
