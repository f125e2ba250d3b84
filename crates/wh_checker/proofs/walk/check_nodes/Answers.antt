use Rattle.std.proofs.Common.{◌+◌, map, reverse, drop}
use Rattle.wh_system.specs.SystemView.{system_data}
use Rattle.wh_pairs.specs.Views.{pairs_data}
use Rattle.wh_cert.specs.Said.{said_node}
use Rattle.wh_checker.specs.Walk.{IsFaultInNodes}
use Rattle.wh_checker.proofs.YesLemmas.{cause_passed}
use Rattle.wh_checker.proofs.WalkLemmas.{come_line, come_over}
use Rattle.wh_checker.proofs.walk.check_nodes.Goals as goal

pub check_next-requires-clause-come : goal.check_next-requires-clause-come
check_next-requires-clause-come c =
    let d = system_data c.args.system.now in
    let ps = pairs_data c.args.pairs.now in
    let nodes = c.args.nodes.now in
    let lines = map said_node nodes in
    let i = c.loop-index.index in (
      c.args.whole,
      lines,
      map said_node (drop (i + 1) nodes),
      come_line d ps c.args.whole lines i (reverse c.loop-index.stack.items) nodes c.index-nodes-index.result c.loop-index.invariant.1
          c.loop-index-test.true c.index-nodes-index.is,
    )

pub returns-in_err-check_next-clause-fault : goal.returns-in_err-check_next-clause-fault
returns-in_err-check_next-clause-fault c =
    let d = system_data c.args.system.now in
    let ps = pairs_data c.args.pairs.now in
    let nodes = c.args.nodes.now in
    let lines = map said_node nodes in
    let i = c.loop-index.index in
    cause_passed c.from_residual-in_err-check_next.result c.in_err-check_next.field-0.0 _ (IsFaultInNodes d ps c.args.whole lines)
    c.from_residual-in_err-check_next.ensures.1 c.in_err-check_next.ensures.fault (λ f fault.
    fault c.args.whole lines (map said_node (drop (i + 1) nodes))
    (come_line d ps c.args.whole lines i (reverse c.loop-index.stack.items) nodes c.index-nodes-index.result c.loop-index.invariant.1
    c.loop-index-test.true c.index-nodes-index.is))

pub loop-index-preserved : goal.loop-index-preserved
loop-index-preserved c =
    let d = system_data c.args.system.now in
    let ps = pairs_data c.args.pairs.now in
    let nodes = c.args.nodes.now in
    let lines = map said_node nodes in
    let i = c.loop-index.index in (
      c.in_ok-check_next.ensures.numbered,
      c.in_ok-check_next.ensures.on c.args.whole lines (map said_node (drop (i + 1) nodes))
          (come_line d ps c.args.whole lines i (reverse c.loop-index.stack.items) nodes c.index-nodes-index.result c.loop-index.invariant.1
          c.loop-index-test.true c.index-nodes-index.is),
    )

pub returns-clause-proved : goal.returns-clause-proved
returns-clause-proved c =
    come_over (system_data c.args.system.now) (pairs_data c.args.pairs.now) c.args.whole (map said_node c.args.nodes.now) c.loop-index.index
    (reverse c.loop-index.stack.items) c.args.nodes.now c.loop-index.invariant.1 c.loop-index-test.false
