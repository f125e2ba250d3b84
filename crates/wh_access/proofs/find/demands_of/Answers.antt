use Rattle.std.proofs.Common.{◌≡◌, ℕ, length, ap, sym, subst, arith}
use Rattle.std.proofs.lemmas.List.{length-map}
use Rattle.wh_terms.specs.Erase.{rewrite_rule}
use Rattle.wh_system.specs.SystemView.{system_data}
use Rattle.wh_access.specs.Passing.{IsRead}
use Rattle.wh_access.specs.Demands.{IsAskedFor}
use Rattle.wh_access.specs.Tables.{Grows, SortsWithin}
use Rattle.wh_access.proofs.CheckLemmas.{hold_next, hold_all, first_without}
use Rattle.wh_access.proofs.MadeLemmas.{rule_here, few_metas, used_declared, left_nested}
use Rattle.wh_access.proofs.FindLemmas.{sorts_few, asked_rule, asked_all}
use Rattle.wh_access.proofs.find.demands_of.Goals as goal

pub ask_rule-requires-clause-sorts : goal.ask_rule-requires-clause-sorts
ask_rule-requires-clause-sorts c =
    subst (SortsWithin 256) (sym c.signature.ensures) (sorts_few (system_data c.args.system.now) c.is_well_made.ensures)

pub ask_rule-requires-clause-few : goal.ask_rule-requires-clause-few
ask_rule-requires-clause-few c =
    let d = system_data c.args.system.now in
    let i = c.loop-index.index in
    let here = rule_here c.rules-rule-items.result.now d.rules i c.rule-item.result c.rules-rule-items.ensures c.loop-index-test.true c.rule-item.is in
    omega (arith, few_metas d i c.rule-item.result c.is_well_made.ensures here)

pub ask_rule-requires-clause-declared : goal.ask_rule-requires-clause-declared
ask_rule-requires-clause-declared c =
    let d = system_data c.args.system.now in
    let i = c.loop-index.index in
    let here = rule_here c.rules-rule-items.result.now d.rules i c.rule-item.result c.rules-rule-items.ensures c.loop-index-test.true c.rule-item.is in
    used_declared d i c.rule-item.result c.is_well_made.ensures here

pub ask_rule-requires-clause-nested : goal.ask_rule-requires-clause-nested
ask_rule-requires-clause-nested c =
    let d = system_data c.args.system.now in
    let i = c.loop-index.index in
    let here = rule_here c.rules-rule-items.result.now d.rules i c.rule-item.result c.rules-rule-items.ensures c.loop-index-test.true c.rule-item.is in
    omega (arith, left_nested d i (rewrite_rule c.rule-item.result) c.is_well_made.ensures here)

pub returns-in-Some : goal.returns-in-Some
returns-in-Some c =
    let d = system_data c.args.system.now in
    let i = c.loop-index.index in
    let here = rule_here c.rules-rule-items.result.now d.rules i c.rule-item.result c.rules-rule-items.ensures c.loop-index-test.true c.rule-item.is in
    let a = c.in-Some.ensures in
    first_without IsRead d.rules i (rewrite_rule c.rule-item.result) c.in-Some.meta c.loop-index.invariant.read here c.in-Some.ensures.read

pub loop-index-preserved : goal.loop-index-preserved
loop-index-preserved c =
    let d = system_data c.args.system.now in
    let i = c.loop-index.index in
    let here = rule_here c.rules-rule-items.result.now d.rules i c.rule-item.result c.rules-rule-items.ensures c.loop-index-test.true c.rule-item.is in
    let rule = rewrite_rule c.rule-item.result in
    let asked = subst (λ S. Grows c.loop-index.demands c.ask_rule.new.demands (λ e. (z : ℕ) × IsAskedFor S rule z e)) c.signature.ensures c.in_default.ensures.asked in
    record {
      read = hold_next IsRead d.rules i rule c.loop-index.invariant.read here c.in_default.ensures.read;
      told = λ e from to. asked_rule d.symbols d.rules i rule c.loop-index.demands c.ask_rule.new.demands e from to here (c.loop-index.invariant.told e from to) asked;
    }

pub returns : goal.returns
returns c =
    let d = system_data c.args.system.now in
    let n = c.loop-index.index in
    let count : length d.rules ≡ n =
    let all = ap length c.rules-rule-items.ensures in omega (arith, all, length-map c.rules-rule-items.result.now rewrite_rule, c.loop-index-test.false, c.loop-index.auto.index-end) in (
      hold_all IsRead d.rules n count c.loop-index.invariant.read,
      λ e from to.
          let told = c.loop-index.invariant.told e from to in
          let all = asked_all d.symbols d.rules n e count in
          (λ t. all.0 (told.0 t), λ demanded. told.1 (all.1 demanded)),
    )
