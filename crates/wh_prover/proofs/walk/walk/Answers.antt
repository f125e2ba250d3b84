use Rattle.std.proofs.Common.{◌≡◌, ℕ, List, [], ◌∷◌, ◌++◌, map, reverse, sym, ap, subst, ◌∙◌, arith}
use Rattle.std.proofs.lemmas.Option.{MatchOption-at_none}
use Rattle.wh_system.specs.SystemView.{system_data}
use Rattle.wh_pairs.specs.Views.{pairs_data}
use Rattle.wh_cert.specs.Said.{said_node}
use Rattle.wh_prover.specs.Walk.{HasWalked}
use Rattle.wh_prover.proofs.NodeLemmas.{is_none}
use Rattle.wh_prover.proofs.WalkLemmas.{walked_first, walked_here, walked_next, walked_last, adds_lighter}
use Rattle.wh_prover.proofs.walk.walk.Goals as goal

pub loop-set-init : goal.loop-set-init
loop-set-init c =
    let d = system_data c.args.setting.now.system.now in
    let ps = pairs_data c.args.setting.now.pairs.now in
    let whole = c.args.whole in
    let stack_is = ap reverse (c.in_ok-push.ensures.items ∙ ap (λ (l : List (List ℕ)). l ++ whole ∷ []) c.new-stack.ensures.items) in
    let none : map said_node c.args.nodes.now ≡ [] = ap (map said_node) c.requires.none in
    record {
      walked = subst (λ (s : List (List ℕ)). HasWalked d ps whole s (map said_node c.args.nodes.now)) (sym stack_is) (subst (HasWalked d ps whole (whole ∷ [])) (sym none) (walked_first d ps whole c.requires.whole));
      numbered = tt;
    }

pub settle-requires-clause-arrives : goal.settle-requires-clause-arrives
settle-requires-clause-arrives c =
    let here = walked_here (system_data c.args.setting.now.system.now) (pairs_data c.args.setting.now.pairs.now) c.args.whole c.in-Some.set c.loop-set.stack.items c.pop.new.self.items (map said_node c.loop-set.nodes)
    c.loop-set.invariant.walked c.in-Some.ensures.items in
    here.arrive 0 c.in-Some.set (omega arith)

pub loop-set-smaller : goal.loop-set-smaller
loop-set-smaller c =
    let adds = MatchOption-at_none _ _ c.in_default-2.is c.in_ok-cause.ensures.node in
    adds_lighter (system_data c.args.setting.now.system.now) (pairs_data c.args.setting.now.pairs.now) c.in-Some.set c.loop-set.stack.items c.pop.new.self.items (reverse c.settle.new.stack.items) (map said_node c.loop-set.nodes)
    (map said_node c.settle.new.nodes) c.in-Some.ensures.items adds

pub loop-set-preserved : goal.loop-set-preserved
loop-set-preserved c =
    let d = system_data c.args.setting.now.system.now in
    let ps = pairs_data c.args.setting.now.pairs.now in
    let whole = c.args.whole in
    let rest = c.pop.new.self.items in
    let lines = map said_node c.loop-set.nodes in
    let adds = MatchOption-at_none _ _ c.in_default-2.is c.in_ok-cause.ensures.node in
    let here = walked_here d ps whole c.in-Some.set c.loop-set.stack.items rest lines c.loop-set.invariant.walked c.in-Some.ensures.items in
    record {
      walked = walked_next d ps whole c.in-Some.set (reverse rest) (reverse c.settle.new.stack.items) lines (map said_node c.settle.new.nodes) here adds;
      numbered = c.in_ok-cause.ensures.numbered;
    }

pub returns : goal.returns
returns c =
    let d = system_data c.args.setting.now.system.now in
    let ps = pairs_data c.args.setting.now.pairs.now in
    let whole = c.args.whole in
    let lines = map said_node c.loop-set.nodes in
    let none : c.loop-set.stack.items ≡ [] = is_none c.loop-set.stack.items (omega (arith, c.in_default.ensures.cases.0, c.loop-set.stack.ok)) in
    walked_last d ps whole lines (subst (λ (s : List (List ℕ)). HasWalked d ps whole s lines) (ap reverse none) c.loop-set.invariant.walked)
