use Rattle.std.proofs.Common.{◌≡◌, Some, None, sym, subst, rules}
use Rattle.wh_text.specs.Erase.{rty}
use Rattle.wh_system_parts.specs.Faults.{first_fault}
use Rattle.wh_system_parts.specs.Naming.{type_meant}
use Rattle.wh_system_parts.specs.Tests.{sorts_of_type}
use Rattle.wh_system_making.proofs.MeantLaws.{type_none}
use Rattle.wh_system_making.proofs.resolving.NameTables.resolve_type.Goals as goal

pub returns-in-Err-Because : goal.returns-in-Err-Because
returns-in-Err-Because c =
    let sorts = c.args.self.now.sorts in
    let kind = rty c.args.kind.now in
    let failed : first_fault (sorts_of_type sorts kind) ≡ Some c.in-Err-Because.field-0-0 = search rules in
    subst (λ sorts. None ≡ type_meant sorts kind) c.requires.sorts (sym (type_none sorts kind c.in-Err-Because.field-0-0 failed))
