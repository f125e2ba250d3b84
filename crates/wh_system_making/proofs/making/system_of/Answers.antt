use Rattle.std.proofs.Common.{length, ap, sym, subst, ◌∙◌}
use Rattle.std.proofs.lemmas.List.{length-map}
use Rattle.wh_system_parts.specs.Parts.{RFun}
use Rattle.wh_system_parts.specs.Erase.{rparts, rname}
use Rattle.wh_system_making.specs.Says.{Says}
use Rattle.wh_system_making.proofs.SaidLemmas.{says_it}
use Rattle.wh_system_making.proofs.SystemMade.{system_made}
use Rattle.wh_system_making.proofs.making.system_of.Goals as goal

pub new-requires : goal.new-requires
new-requires c =
    let p = rparts c.args.parts.now in
    let done = c.in_ok-resolved.resolved in
    let is = c.in_ok-resolved.ensures.1 in
    let names = c.in_ok-names.ensures in
    let many = ap length c.as_slice.ensures ∙ sym (length-map c.args.parts.now.sorts rname) in
    let says = says_it p done _ _ _ (length c.as_slice.result.now) is names.0 names.1 names.2 many in
    record {
      made = system_made p _ c.requires c.in_ok-resolved.ensures.0 says;
      each_need = is.rules.each_need ∙ sym (ap length names.1 ∙ ap length is.funs ∙ length-map p.funs (λ (f : RFun). f.name.name));
      needs_known = is.rules.needs;
    }

pub returns-clause-said : goal.returns-clause-said
returns-clause-said c =
    let p = rparts c.args.parts.now in
    let done = c.in_ok-resolved.resolved in
    let names = c.in_ok-names.ensures in
    let many = ap length c.as_slice.ensures ∙ sym (length-map c.args.parts.now.sorts rname) in
    (c.in_ok-resolved.ensures.0, subst (Says p) (sym c.new.ensures) (says_it p done _ _ _ (length c.as_slice.result.now) c.in_ok-resolved.ensures.1 names.0 names.1 names.2 many))
