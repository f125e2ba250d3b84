-- Places of spines, and the types of places.
use Rattle.std.proofs.Common.{◌≡◌, ℕ, zero, suc, ◌<◌, ◌≤◌, List, Some, slice_get, length, get_or, option_map, refl, ap, sym, ◌∙◌, subst, arith}
use Rattle.std.proofs.lemmas.Option.{slice_get-map, slice_get_read}
use Rattle.wh_types.specs.Ty.{Ty, sort, ◌⇒◌, arguments, result_sort, SortsBelow}
use Rattle.wh_types.specs.Erase.{ty, tys}
use Rattle.wh_types.specs.declared.simple_type.SimpleType.{SimpleType}
use Rattle.wh_terms.specs.Tree.{Tm, bound, free, fun, meta, lam, app, argument_count}
use Rattle.wh_terms.specs.Measures.{nesting}

-- a spine has no more arguments than it is nested deep
pub arguments_nested : (t : Tm) → argument_count t ≤ nesting t
arguments_nested (bound i) = omega arith
arguments_nested (free x a) = omega arith
arguments_nested (fun f) = omega arith
arguments_nested (meta z ts) = omega arith
arguments_nested (lam a t) = omega arith
arguments_nested (app t u) = omega (arith, arguments_nested t)

-- the type of a symbol as the signature lists it
pub symbol_known : (xs funs : List SimpleType) (f : ℕ) (kind : SimpleType) → xs ≡ funs → f < length xs → kind ≡ get_or xs f kind → slice_get (tys funs) f ≡ Some (ty kind)
symbol_known xs funs f kind same within here =
    ap (λ (us : List SimpleType). slice_get (tys us) f) (sym same) ∙ slice_get-map ty xs f ∙ ap (option_map ty) (slice_get_read xs (length xs) f kind refl within here)

-- the sorts of a type are those of its arguments, and its result

pub argument_below : (n : ℕ) (b : Ty) (i : ℕ) (a : Ty) → SortsBelow n b → slice_get (arguments b) i ≡ Some a → SortsBelow n a
argument_below n (sort s) i a below e = absurd (cc)
argument_below n (b ⇒ c) zero a below e = let same : b ≡ a = cc in subst (SortsBelow n) same below.0
argument_below n (b ⇒ c) (suc i) a below e = argument_below n c i a below.1 e

pub result_below : (n : ℕ) (b : Ty) → SortsBelow n b → result_sort b < n
result_below n (sort s) below = below
result_below n (b ⇒ c) below = result_below n c below.1
