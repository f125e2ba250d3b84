-- The set on top is the one that the node is to prove.
use Rattle.std.proofs.Common.{◌<◌, All, length, reverse, ap, subst, ◌∙◌, arith}
use Rattle.std.proofs.lemmas.List.{length-map}
use Rattle.std.proofs.lemmas.List.Elements.{All-head}
use Rattle.wh_pairs.specs.PairData.{pair_data}
use Rattle.wh_system.specs.SystemView.{system_data}
use Rattle.wh_pairs.specs.Views.{pairs_data}
use Rattle.wh_cert.specs.Said.{said_node}
use Rattle.wh_checker.specs.Faults.{at_node}
use Rattle.wh_checker.proofs.GoLemmas.{because_says}
use Rattle.wh_checker.proofs.WalkLemmas.{come_never, come_top, come_next, come_fault}
use Rattle.wh_checker.proofs.walk.check_next.Goals as goal

pub unreachable-requires : goal.unreachable-requires
unreachable-requires c =
    let d = system_data c.args.system.now in
    let ps = pairs_data c.args.pairs.now in
    let (set, lines, left, come) = c.requires.come in
    come_never d ps set lines c.args.index c.args.stack.now.items c.pop.result c.args.stack.now.len (said_node c.args.node.now) left
    (omega (arith, c.args.stack.now.ok.0)) c.pop.ensures.variant c.in_default.not-Some come

pub check_node-requires-clause-set : goal.check_node-requires-clause-set
check_node-requires-clause-set c =
    let d = system_data c.args.system.now in
    let ps = pairs_data c.args.pairs.now in
    let (set, lines, left, come) = c.requires.come in
    let rest = c.pop.new.self.items in
    let top = come_top d ps set lines c.args.index c.args.stack.now.items rest c.in-Some.set (said_node c.args.node.now) left come
    c.in-Some.ensures.items in
    subst (λ n. All (λ m. m < n) c.in-Some.set) (length-map c.args.pairs.now pair_data)
    (All-head (All (λ n. n < length ps)) c.in-Some.set (reverse rest) top.within)

pub returns-in-Ok-clause-on : goal.returns-in-Ok-clause-on
returns-in-Ok-clause-on c = λ set lines left come.
    let d = system_data c.args.system.now in
    let ps = pairs_data c.args.pairs.now in
    let rest = c.pop.new.self.items in
    let line = said_node c.args.node.now in
    let top = come_top d ps set lines c.args.index c.args.stack.now.items rest c.in-Some.set line left come c.in-Some.ensures.items in
    come_next d ps set lines c.args.index c.in-Some.set (reverse rest) (reverse c.check_node.new.stack.items) line left top
    c.in-Ok.ensures.proved

pub returns-in-Err-Because-clause-fault : goal.returns-in-Err-Because-clause-fault
returns-in-Err-Because-clause-fault c = λ set lines left come.
    let d = system_data c.args.system.now in
    let ps = pairs_data c.args.pairs.now in
    let rest = c.pop.new.self.items in
    let line = said_node c.args.node.now in
    let i = c.args.index in
    let top = come_top d ps set lines i c.args.stack.now.items rest c.in-Some.set line left come c.in-Some.ensures.items in
    let f = c.in-Err-Because.fault in
    let fault = because_says c.in-Err-Because.field-0 f _ c.in-Err-Because.field-0-is c.in-Err-Because.ensures.fault in (
      i,
      f,
      c.at_node.ensures ∙ ap (at_node i) c.in-Err-Because.fault-is,
      come_fault d ps set lines i c.in-Some.set (reverse rest) line left f top fault,
    )
