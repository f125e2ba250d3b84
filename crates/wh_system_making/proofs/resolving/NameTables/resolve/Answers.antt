use Rattle.std.proofs.Common.{◌≡◌, [], Some, None, ap, rules}
use Rattle.wh_types.specs.Erase.{tys}
use Rattle.wh_text.specs.Erase.{rtm}
use Rattle.wh_terms.specs.Erase.{tm, declared_metas}
use Rattle.wh_system_parts.specs.Faults.{first_fault}
use Rattle.wh_system_parts.specs.Naming.{Scope, meant}
use Rattle.wh_system_parts.specs.Tests.{naming_tests}
use Rattle.wh_system.specs.SystemView.{system_data}
use Rattle.wh_system_making.proofs.MeantLaws.{means_where_passed, means_none}
use Rattle.wh_system_making.proofs.resolving.NameTables.resolve.Goals as goal

pub returns-in-Ok : goal.returns-in-Ok
returns-in-Ok c =
    let s : Scope = record { sorts = c.args.self.now.sorts; funs = c.args.self.now.funs; kinds = tys c.signature.result.now.funs; metas = c.new-metas.result; declared = declared_metas c.new-declared.result } in
    let u = rtm c.args.term.now in
    let told : (first_fault (naming_tests s [] u) ≡ None) × (meant s [] u ≡ Some (tm c.in-Ok.term)) = search rules in
    means_where_passed (system_data c.args.system.now) c.is_well_made.ensures s u (tm c.in-Ok.term) c.requires.sorts c.requires.funs
    (ap (λ S. S.funs) c.signature.ensures) c.new-metas.ensures (ap declared_metas c.new-declared.ensures) told.0 told.1

pub returns : goal.returns
returns c =
    let s : Scope = record { sorts = c.args.self.now.sorts; funs = c.args.self.now.funs; kinds = tys c.signature.result.now.funs; metas = c.new-metas.result; declared = declared_metas c.new-declared.result } in
    let u = rtm c.args.term.now in
    let failed : first_fault (naming_tests s [] u) ≡ Some c.in-Err-Because.field-0-0 = search rules in
    means_none (system_data c.args.system.now) c.is_well_made.ensures s u c.in-Err-Because.field-0-0 c.requires.sorts c.requires.funs
    (ap (λ S. S.funs) c.signature.ensures) c.new-metas.ensures (ap declared_metas c.new-declared.ensures) failed
