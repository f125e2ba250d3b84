use Rattle.std.proofs.Common.{◌↔◌, IsTrue, List, map, sym, subst}
use Rattle.wh_terms.specs.Erase.{tm}
use Rattle.wh_terms.specs.declared.term.Term.{Term}
use Rattle.wh_system.specs.SystemView.{system_data}
use Rattle.wh_pairs.specs.PairData.{pair_data}
use Rattle.wh_usable_first_order.specs.FirstOrder.{AreFlatTrees}
use Rattle.wh_usable.specs.Closed.{ListsRulesInEach}
use Rattle.wh_usable.proofs.closed.is_closed_pair.Goals as goal

pub returns : goal.returns
returns c listed table =
    let d = system_data c.args.system.now in
    let p = pair_data c.args.pair.now in
    let sorts = c.has_sorts.ensures.0 c.if-not-has_sorts.false in
    let flat = c.is_flat_pair.ensures.0 c.if-not-is_flat_pair.false in
    let told = subst (λ (ts : List Term). IsTrue c.each_calls_listed.result ↔ ListsRulesInEach d.rules listed (map tm ts)) c.as_slice.ensures
    (c.each_calls_listed.ensures d.symbols p.metas d.rules listed (subst (λ (ts : List Term). AreFlatTrees d.symbols p.metas (map tm ts)) (sym c.as_slice.ensures) flat.1) table) in (
      λ yes. record { left_head = sorts.0; right_head = sorts.1; left = flat.0; right = flat.1; calls = told.0 yes },
      λ closed. told.1 closed.calls,
    )
