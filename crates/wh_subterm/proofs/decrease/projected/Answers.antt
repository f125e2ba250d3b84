use Rattle.std.proofs.Common.{◌≡◌, ◌-◌, ◌≤◌, Option, Bor, List, map, length, MatchOption, Some, slice_get, sym, subst, ap, arith}
use Rattle.std.proofs.lemmas.List.{length-map}
use Rattle.wh_terms.specs.Tree.{Tm}
use Rattle.wh_terms.specs.Erase.{tm}
use Rattle.wh_terms.specs.declared.term.Term.{Term}
use Rattle.wh_subterm.specs.Projections.{IsProjected}
use Rattle.wh_subterm.specs.SubtermRows.{chosen}
use Rattle.wh_pairs.proofs.ByPlace.{read_map}
use Rattle.wh_subterm.proofs.ProjectionLemmas.{project_zero, project_past, project_at}
use Rattle.wh_subterm.proofs.decrease.projected.Goals as goal

pub returns-in_err-place : goal.returns-in_err-place
returns-in_err-place c =
    let ts = map tm c.args.terms.now in
    let args = map chosen c.args.args.now in
    let none : (t : Tm) → IsProjected args c.args.symbol ts t → ⊥ =
    λ t. project_zero args c.args.symbol c.in_ok-argument.argument ts t c.requires c.in_ok-argument.ensures c.in_err-place.ensures in
    subst (λ (o : Option (Bor Term)). MatchOption o ((t : Tm) → IsProjected args c.args.symbol ts t → ⊥) (λ r. IsProjected args c.args.symbol ts (tm r.now))) (sym c.from_residual-in_err-place.ensures) none

pub returns-then-place-items : goal.returns-then-place-items
returns-then-place-items c =
    let ts = map tm c.args.terms.now in
    let place = c.in_ok-place.field-0 in
    let at = read_map tm c.as_slice-items.result.now place c.index-items-place.result c.if-place-items.true c.index-items-place.is in
    let here = subst (λ (us : List Term). slice_get (map tm us) place ≡ Some (tm c.index-items-place.result)) c.as_slice-items.ensures at in
    let placed : (1 ≤ c.in_ok-argument.argument) × (place ≡ c.in_ok-argument.argument - 1) = c.in_ok-place.ensures in
    project_at (map chosen c.args.args.now) c.args.symbol c.in_ok-argument.argument ts place (tm c.index-items-place.result) c.in_ok-argument.ensures (omega arith) here

pub returns-else-place-items : goal.returns-else-place-items
returns-else-place-items c =
    let ts = map tm c.args.terms.now in
    let placed : (1 ≤ c.in_ok-argument.argument) × (c.in_ok-place.field-0 ≡ c.in_ok-argument.argument - 1) = c.in_ok-place.ensures in
    λ t. project_past (map chosen c.args.args.now) c.args.symbol c.in_ok-argument.argument ts t c.requires c.in_ok-argument.ensures
    (omega (arith, length-map c.args.terms.now tm, ap length c.as_slice-items.ensures, c.if-place-items.false))
