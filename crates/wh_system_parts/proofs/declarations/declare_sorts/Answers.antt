use Rattle.std.proofs.Common.{ap, sym, ◌∙◌, [], ◌++◌, map, length}
use Rattle.wh_system_parts.specs.declared.parts.RawName.{RawName}
use Rattle.wh_system_parts.specs.Parts.{RName}
use Rattle.wh_system_parts.specs.Erase.{rname}
use Rattle.wh_system_parts.specs.Faults.{first_fault}
use Rattle.wh_system_parts.specs.Tests.{names_tests}
use Rattle.wh_system_parts.proofs.DeclarationLemmas.{map_fused}
use Rattle.wh_system_parts.proofs.declarations.declare_sorts.Goals as goal

pub loop-sort-init : goal.loop-sort-init
loop-sort-init c =
    let xs = c.args.sorts.now in
    let e = c.new-table.ensures in (
      ap (λ t. first_fault (names_tests [] t (map rname xs))) (sym e),
      map_fused rname (λ (s : RName). s.name) xs ∙ ap (λ t. t ++ map (λ (s : RawName). (rname s).name) xs) (sym e),
      ap length e,
    )
