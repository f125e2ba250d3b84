use Rattle.std.proofs.Common.{◌≡◌, ◌+◌, ℕ, List, map, sym, subst, arith}
use Rattle.std.proofs.lemmas.List.{length-map}
use Rattle.wh_pairs.specs.PairData.{pair_data}
use Rattle.wh_system.specs.SystemView.{system_data}
use Rattle.wh_graph.specs.May.{Follows}
use Rattle.wh_graph.proofs.GraphLemmas.{AreListsTo, lists_none, lists_push, lists_all, follows_within}
use Rattle.wh_graph.proofs.edges.followers_of.Goals as goal

pub loop-number-init : goal.loop-number-init
loop-number-init c =
    let E = Follows (system_data c.args.system.now).rules (map pair_data c.args.pairs.now) in
    subst (λ (rows : List (List ℕ)). AreListsTo E 0 rows) (sym c.new-rows.ensures.items) (lists_none E)

pub loop-number-preserved : goal.loop-number-preserved
loop-number-preserved c =
    let E = Follows (system_data c.args.system.now).rules (map pair_data c.args.pairs.now) in
    let n = c.loop-number.number in
    subst (λ (rows : List (List ℕ)). AreListsTo E (n + 1) rows) (sym {A = List (List ℕ)} c.in_ok-push.ensures.items)
    (lists_push E n c.loop-number.rows.items c.in_ok-row_of.field-0 c.loop-number.invariant c.in_ok-row_of.ensures)

pub returns : goal.returns
returns c =
    let rules = (system_data c.args.system.now).rules in
    let ps = map pair_data c.args.pairs.now in
    let count = c.args.count in
    let whole : c.loop-number.number ≡ count = omega (arith, c.loop-number.auto.number-end, c.loop-number-test.false) in
    lists_all (Follows rules ps) count c.loop-number.number c.loop-number.rows.items c.loop-number.invariant whole (λ a b e.
    let both = follows_within rules ps a b e in
    omega (arith, both.0, length-map c.args.pairs.now pair_data, c.requires))
