use Rattle.std.proofs.Common.{◌≡◌, ◌++◌}
use Rattle.wh_types.specs.Erase.{tys}
use Rattle.wh_poly_space.specs.Space.{is_sort, sort_variables, functional_variables}
use Rattle.wh_poly_space.proofs.SpotLemmas.{functional}
use Rattle.wh_poly_space.proofs.VariableLemmas.{listed_from}
use Rattle.wh_poly_space.proofs.spots.variables_of.Given as goal

abbrev pub invariant-loop-x : goal.invariant-loop-x
invariant-loop-x l = record {
  sorts : l.sorts.items ++ listed_from is_sort l.x l.scope ≡ sort_variables (tys l.scope);
  functional : l.functional.items ++ listed_from functional l.x l.scope ≡ functional_variables (tys l.scope);
}
