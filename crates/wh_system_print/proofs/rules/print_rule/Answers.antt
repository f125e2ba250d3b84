use Rattle.std.proofs.Common.{◌∙◌, [], sym, ap, subst, All, length, true, false}
use Rattle.std.proofs.lemmas.List.{length-map}
use Rattle.std.proofs.lemmas.Option.{get_or_from_slice_get}
use Rattle.wh_terms.specs.Erase.{declared_meta, declared_metas, rewrite_rule}
use Rattle.wh_text.specs.Pushes.{Pushes}
use Rattle.wh_text.proofs.PrintLemmas.{on_ok}
use Rattle.wh_system.specs.SystemView.{system_data}
use Rattle.wh_system.proofs.MadeDecided.{system_is_well_made}
use Rattle.wh_system_making.proofs.CanonicalBack.{metas_there}
use Rattle.wh_system_print.specs.Sorted.{IsSorted}
use Rattle.wh_system_print.specs.SystemText.{put_metas}
use Rattle.wh_system_print.specs.NameViews.{printed_names}
use Rattle.wh_system_print.proofs.RulePrinting.{rule_pushes, rule_sorted, rule_named, metas_within}
use Rattle.wh_system_print.proofs.rules.print_rule.Goals as goal

pub meta_names-requires : goal.meta_names-requires
meta_names-requires c =
    metas_within (system_data c.args.system.now) (system_is_well_made c.args.system.now) c.args.k (rewrite_rule c.args.rule.now) c.requires

pub print_metas-requires-clause-each : goal.print_metas-requires-clause-each
print_metas-requires-clause-each c =
    let d = system_data c.args.system.now in
    metas_there d (system_is_well_made c.args.system.now) c.args.k (rewrite_rule c.args.rule.now) c.meta_names.result.now c.requires c.meta_names.ensures
    ∙ length-map c.args.rule.now.metas declared_meta ∙ sym (ap length c.as_slice.ensures)

pub print_metas-requires-clause-sorted : goal.print_metas-requires-clause-sorted
print_metas-requires-clause-sorted c =
    let d = system_data c.args.system.now in
    let sorted = rule_sorted d (system_is_well_made c.args.system.now) c.args.k (rewrite_rule c.args.rule.now) c.requires in
    subst (λ ms. All (IsSorted (length c.sort_names.result.now)) (declared_metas ms)) (sym c.as_slice.ensures)
    (subst (λ ns. All (IsSorted (length ns)) (declared_metas c.args.rule.now.metas)) (sym c.sort_names.ensures) sorted)

pub names_of_rule-names-requires : goal.names_of_rule-names-requires
names_of_rule-names-requires c =
    metas_within (system_data c.args.system.now) (system_is_well_made c.args.system.now) c.args.k (rewrite_rule c.args.rule.now) c.requires

pub print_tree-requires : goal.print_tree-requires
print_tree-requires c =
    rule_named (system_data c.args.system.now) (system_is_well_made c.args.system.now) c.args.k (rewrite_rule c.args.rule.now) false (printed_names c.names_of_rule-names.result) c.requires c.names_of_rule-names.ensures

pub print_tree-requires-2 : goal.print_tree-requires-2
print_tree-requires-2 c =
    rule_named (system_data c.args.system.now) (system_is_well_made c.args.system.now) c.args.k (rewrite_rule c.args.rule.now) true (printed_names c.names_of_rule-names.result) c.requires c.names_of_rule-names.ensures

pub returns : goal.returns
returns c =
    let d = system_data c.args.system.now in
    let rule = rewrite_rule c.args.rule.now in
    let names = c.meta_names.result.now in
    let metas = subst (λ ms. Pushes c.append.new.self c.print_metas.new.out (put_metas d.sort_names names (declared_metas ms))) c.as_slice.ensures
    (subst (λ ns. Pushes c.append.new.self c.print_metas.new.out (put_metas ns names (declared_metas c.as_slice.result.now))) c.sort_names.ensures c.in_ok-print_metas.ensures) in
    on_ok c.append-4.result _ _
    (rule_pushes d c.args.k rule names (printed_names c.names_of_rule-names.result) c.args.out.now c.append.new.self c.print_metas.new.out c.append-2.new.self c.print_tree.new.out
    c.append-3.new.self c.print_tree-2.new.out c.append-4.new.self (get_or_from_slice_get d.meta_names c.args.k names [] c.meta_names.ensures) c.names_of_rule-names.ensures
    c.in_ok-append.ensures.ok metas c.in_ok-append-2.ensures.ok c.in_ok-print_tree.ensures c.in_ok-append-3.ensures.ok c.in_ok-print_tree-2.ensures)
    c.append-4.ensures.ok
