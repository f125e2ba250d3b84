-- The arguments at the two places, by their numbers.
use Rattle.std.proofs.Common.{◌≡◌, List, ℕ, Some, slice_get, subst}
use Rattle.wh_intern.specs.TableTrees.{trees}
use Rattle.wh_intern_pairs.proofs.RelationByNumber.{number_low, related}
use Rattle.wh_intern_pairs.proofs.relation.relation_by_number.Goals as goal

pub compared-requires-clause-left : goal.compared-requires-clause-left
compared-requires-clause-left c =
    let (p, are) = c.requires in
    let n = c.in-Some.left in
    let at = subst (λ (ns : List ℕ). slice_get ns c.args.left ≡ Some n) c.as_slice.ensures c.in-Some.ensures in
    number_low (trees c.args.table.now) c.args.sides.now.left p.left c.args.left n are.left at

pub compared-requires-clause-right : goal.compared-requires-clause-right
compared-requires-clause-right c =
    let (p, are) = c.requires in
    let n = c.in-Some-number_at.right in
    let at = subst (λ (ns : List ℕ). slice_get ns c.args.right ≡ Some n) c.as_slice-2.ensures c.in-Some-number_at.ensures in
    number_low (trees c.args.table.now) c.args.sides.now.right p.right c.args.right n are.right at

pub returns : goal.returns
returns c = λ p are.
    let m = c.in-Some.left in
    let n = c.in-Some-number_at.right in
    let left = subst (λ (ns : List ℕ). slice_get ns c.args.left ≡ Some m) c.as_slice.ensures c.in-Some.ensures in
    let right = subst (λ (ns : List ℕ). slice_get ns c.args.right ≡ Some n) c.as_slice-2.ensures c.in-Some-number_at.ensures in
    related (trees c.args.table.now) c.args.sides.now p are c.args.left c.args.right m n c.compared.result left right c.compared.ensures
