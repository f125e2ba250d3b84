use Rattle.std.proofs.Common.{length, map, sym, ◌∙◌}
use Rattle.wh_pairs.specs.PairData.{pair_data}
use Rattle.wh_system.specs.SystemView.{system_data}
use Rattle.wh_reduction_pairs.specs.TaskData.{IsTask}
use Rattle.wh_proof.specs.Looked.{covered_rules}
use Rattle.wh_poly_flat.specs.Flat.{IsFlat}
use Rattle.wh_find_flat.proofs.Ended.{of_task, plain_task, usable_is}
use Rattle.wh_find_flat.proofs.find.is_flat.Goals as goal

pub flat-requires : goal.flat-requires
flat-requires c =
    let d = system_data c.args.system.now in
    let pairs = c.args.pairs.now in
    let set = c.args.set.now in
    let covered = covered_rules c.args.usable.now (length d.rules) in
    let closed = usable_is d (map pair_data pairs) set c.args.usable.now c.requires.usable in
    of_task IsTask d c.as_slice.result.now pairs c.as_slice-2.result.now set c.deref.result.now covered c.as_slice.ensures c.as_slice-2.ensures.numbers
    (c.deref.ensures.value ∙ c.in_ok-covered.ensures) (plain_task d pairs set covered c.requires.set c.as_slice-2.ensures.increasing closed.are_rules)

pub returns : goal.returns
returns c =
    let d = system_data c.args.system.now in
    let covered = covered_rules c.args.usable.now (length d.rules) in
    let same = c.deref.ensures.value ∙ c.in_ok-covered.ensures in (
      λ yes. of_task IsFlat d c.args.pairs.now c.as_slice.result.now c.args.set.now c.as_slice-2.result.now covered c.deref.result.now
          (sym c.as_slice.ensures) (sym c.as_slice-2.ensures.numbers) (sym same) (c.flat.ensures.0 yes),
      λ flat. c.flat.ensures.1 (of_task IsFlat d c.as_slice.result.now c.args.pairs.now c.as_slice-2.result.now c.args.set.now c.deref.result.now covered
          c.as_slice.ensures c.as_slice-2.ensures.numbers same flat),
    )
