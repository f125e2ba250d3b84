-- The terms that the search for loops begins at.
use Rattle.std.specs.Prelude.{ℕ, zero, suc, ◌≡◌, List, [], ◌∷◌, Some, slice_get}
use Rattle.wh_types.specs.Ty.{Ty, sort, ◌⇒◌}
use Rattle.wh_terms.specs.Tree.{Tm, bound, free, fun, meta, lam, app, Tms, none, more}
use Rattle.wh_terms.specs.Typing.{Declared}
use Rattle.wh_terms.specs.Rules.{RewriteRule}

-- the type of functions of arguments of these types, in order, to the last one
abbrev pub function_type : List Ty → Ty → Ty
function_type [] a = a
function_type (c ∷ cs) a = c ⇒ function_type cs a

-- the type of functions from a meta-variable's arguments to its result; that of one which is not declared is of no
-- interest
abbrev pub meta_type : List Declared → ℕ → Ty
meta_type [] z = sort 0
meta_type (d ∷ metas) zero = function_type d.args d.out
meta_type (d ∷ metas) (suc z) = meta_type metas z

abbrev mutual
  -- the tree with a free variable in place of each meta-variable: of its number, of the type from its arguments to its
  -- result, and applied to its arguments (ours)
  pub freed : List Declared → Tm → Tm
  freed metas (bound i) = bound i
  freed metas (free x a) = free x a
  freed metas (fun f) = fun f
  freed metas (meta z ts) = freed_spine metas (free z (meta_type metas z)) ts
  freed metas (lam a t) = lam a (freed metas t)
  freed metas (app t u) = app (freed metas t) (freed metas u)

  -- a tree applied to such trees in turn
  pub freed_spine : List Declared → Tm → Tms → Tm
  freed_spine metas h none = h
  freed_spine metas h (more t ts) = freed_spine metas (app h (freed metas t)) ts

-- the start of a rule: its left side with free variables in place of meta-variables (ours)
abbrev pub start_of : RewriteRule → Tm
start_of r = freed r.metas r.left

-- t is the start of the rule with the number n
abbrev pub IsStart : List RewriteRule → ℕ → Tm → Type 0
IsStart rules n t = (r : RewriteRule) × (slice_get rules n ≡ Some r) × (t ≡ start_of r)

-- t is the start of some rule
abbrev pub IsSomeStart : List RewriteRule → Tm → Type 0
IsSomeStart rules t = (n : ℕ) × IsStart rules n t
