-- Missing arguments, and how many nodes they have.
use Rattle.std.proofs.Common.{◌≡◌, ℕ, suc, ◌+◌, refl, arith}
use Rattle.wh_types.specs.Ty.{Ty, sort, ◌⇒◌}
use Rattle.wh_terms.specs.Tree.{Tm, bound, lam, app}
use Rattle.wh_terms.specs.Measures.{size}
use Rattle.wh_terms.specs.Substitution.{rename}
use Rattle.wh_order_extended.specs.Long.{expand}
use Rattle.wh_order_sides.specs.Growth.{growth}
use Rattle.wh_order_sides.proofs.RaiseLemmas.{size-rename}

pub expand_sort : (s : ℕ) (t : Tm) → expand (sort s) t ≡ t
unfolding expand
expand_sort s t = refl

pub expand_arrow : (a b : Ty) (t : Tm) → expand (a ⇒ b) t ≡ lam a (expand b (app (rename suc t) (expand a (bound 0))))
unfolding expand
expand_arrow a b t = refl

pub size_expand : (a : Ty) (t : Tm) → size (expand a t) ≡ size t + growth a
unfolding expand
size_expand (sort s) t = omega arith
size_expand (a ⇒ b) t = omega (arith, size_expand b (app (rename suc t) (expand a (bound 0))), size_expand a (bound 0), size-rename suc t)
