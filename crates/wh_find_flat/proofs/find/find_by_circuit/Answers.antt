use Rattle.std.proofs.Common.{ℕ, ◌≤◌, List, length, map, sym, subst, ◌∙◌}
use Rattle.wh_pairs.specs.PairData.{pair_data}
use Rattle.wh_system.specs.SystemView.{system_data}
use Rattle.wh_polycheck.specs.Covering.{HaveTypedSides, IsTypedTask}
use Rattle.wh_poly_meaning.proofs.PairSides.{pair_sides}
use Rattle.wh_usable.specs.Closed.{IsUsable}
use Rattle.wh_proof.specs.Looked.{covered_rules}
use Rattle.wh_poly_flat.specs.Flat.{IsFlat}
use Rattle.wh_find_flat.proofs.Ended.{of_task, plain_task, usable_is}
use Rattle.wh_find_flat.proofs.find.find_by_circuit.Goals as goal

pub find_for-requires-clause-task : goal.find_for-requires-clause-task
find_for-requires-clause-task c =
    let d = system_data c.args.system.now in
    let pairs = c.args.pairs.now in
    let set = c.args.set.now in
    let covered = covered_rules c.args.usable (length d.rules) in
    let typed : HaveTypedSides d.symbols d.rules (map pair_data pairs) = λ marks p found l m. pair_sides d c.is_well_made.ensures (map pair_data pairs) c.requires.whole.are marks p found l m in
    let closed = usable_is d (map pair_data pairs) set c.args.usable c.requires.usable in
    of_task IsTypedTask d c.as_slice.result.now pairs c.as_slice-2.result.now set c.deref.result.now covered c.as_slice.ensures c.as_slice-2.ensures.numbers
    (c.deref.ensures.value ∙ c.in_ok-covered.ensures)
    (record { task = plain_task d pairs set covered c.requires.set c.as_slice-2.ensures.increasing closed.are_rules; typed = typed })

pub find_for-requires-clause-usable : goal.find_for-requires-clause-usable
find_for-requires-clause-usable c =
    let d = system_data c.args.system.now in
    let pairs = c.args.pairs.now in
    let set = c.args.set.now in
    let same = c.deref.ensures.value ∙ c.in_ok-covered.ensures in
    record {
      covers = same;
      closed = of_task IsUsable d c.as_slice.result.now pairs c.as_slice-2.result.now set c.deref.result.now (covered_rules c.args.usable (length d.rules))
          c.as_slice.ensures c.as_slice-2.ensures.numbers same (usable_is d (map pair_data pairs) set c.args.usable c.requires.usable);
    }

pub find_for-requires-clause-some : goal.find_for-requires-clause-some
find_for-requires-clause-some c = subst (λ (l : List ℕ). 1 ≤ length l) (sym c.as_slice-2.ensures.numbers) c.requires.some

pub find_for-requires-clause-flat : goal.find_for-requires-clause-flat
find_for-requires-clause-flat c =
    let d = system_data c.args.system.now in
    of_task IsFlat d c.as_slice.result.now c.args.pairs.now c.as_slice-2.result.now c.args.set.now c.deref.result.now
    (covered_rules c.args.usable (length d.rules)) c.as_slice.ensures c.as_slice-2.ensures.numbers
    (c.deref.ensures.value ∙ c.in_ok-covered.ensures) c.requires.flat
