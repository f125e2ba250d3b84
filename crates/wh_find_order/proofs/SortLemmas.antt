-- A sort stands at a place where the type there is one.
use Rattle.std.proofs.Common.{◌≡◌, ℕ, ◌≤◌, List, length, Some, slice_get, ap, ◌∙◌, arith}
use Rattle.std.proofs.lemmas.List.{length-map}
use Rattle.std.proofs.lemmas.Option.{slice_get_within}
use Rattle.wh_types.specs.Ty.{sort}
use Rattle.wh_types.specs.Erase.{ty, tys}
use Rattle.wh_types.specs.declared.simple_type.SimpleType.{SimpleType}
use Rattle.wh_pairs.proofs.ByPlace.{remap, some_one}

pub sort_at : (scope : List SimpleType) (i s : ℕ) (k : SimpleType) → slice_get scope i ≡ Some k → ty k ≡ sort s → slice_get (tys scope) i ≡ Some (sort s)
sort_at scope i s k at is = remap ty scope i k at ∙ ap Some is

pub sort_there : (scope : List SimpleType) (i s : ℕ) (k : SimpleType) → slice_get scope i ≡ Some k → slice_get (tys scope) i ≡ Some (sort s) → ty k ≡ sort s
sort_there scope i s k at is = some_one (remap ty scope i k at) is

pub no_sort : (scope : List SimpleType) (i s : ℕ) → length scope ≤ i → slice_get (tys scope) i ≡ Some (sort s) → ⊥
no_sort scope i s past is = omega (arith, past, slice_get_within (tys scope) i (sort s) is, length-map scope ty)
