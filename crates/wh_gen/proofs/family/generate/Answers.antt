use Rattle.std.proofs.Common.{◌≡◌, Some, arith, rules}
use Rattle.wh_system_parts.specs.Erase.{rparts}
use Rattle.wh_system_parts.specs.RuleTests.{refusal}
use Rattle.wh_system.specs.SystemView.{system_data}
use Rattle.wh_gen.proofs.FamilySystem.{are_proper, are_passed, say_family}
use Rattle.wh_gen.proofs.family.generate.Goals as goal

pub system_of-requires : goal.system_of-requires
system_of-requires c = are_proper c.args.n (rparts c.in_ok-parts.parts) (omega arith) c.in_ok-parts.ensures

pub returns-in-Ok : goal.returns-in-Ok
returns-in-Ok c =
    (omega arith, omega arith, say_family c.args.n (rparts c.in_ok-parts.parts) (system_data c.in-Ok.system) (omega arith) c.in_ok-parts.ensures c.in-Ok.ensures.said.1)

pub unreachable-requires : goal.unreachable-requires
unreachable-requires c =
    let parts = rparts c.in_ok-parts.parts in
    let refused : refusal parts ≡ Some c.in-Err-Because.field-0-0 = search rules in
    let passed = are_passed c.args.n parts (omega arith) c.in_ok-parts.ensures in
    cc
