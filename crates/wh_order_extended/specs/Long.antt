-- Extended trees: each spine of functional type gets its missing arguments, which are the variables of new
-- abstractions.
use Rattle.std.specs.Prelude.{suc, List, ◌∷◌}
use Rattle.wh_types.specs.Ty.{Ty, sort, ◌⇒◌}
use Rattle.wh_terms.specs.Tree.{Tm, bound, free, fun, meta, lam, app, Tms, none, more}
use Rattle.wh_terms.specs.Substitution.{rename}
use Rattle.wh_terms.specs.Typing.{Symbols, Declared}
use Rattle.wh_order_extended.specs.Kinds.{kind}

-- t with all missing arguments of its type, these extended too (eta-expansion; Kop 2012)
unfoldable pub expand : Ty → Tm → Tm
expand (sort s) t = t
expand (a ⇒ b) t = lam a (expand b (app (rename suc t) (expand a (bound 0))))

-- c, which stands for t of type a, with its missing arguments; where t is an abstraction or a meta-application and has
-- no further arguments, c stands as it is (Fuhs and Kop 2019)
abbrev pub finish : Tm → Ty → Tm → Tm
finish (lam b u) a c = c
finish (meta z ts) a c = c
finish _ a c = expand a c

-- what `finish` says, for an argument t of a meta-application: there a bound variable stands as it is too (Fuhs and Kop
-- 2019)
abbrev pub finish_argument : Tm → Ty → Tm → Tm
finish_argument (bound i) a c = c
finish_argument t a c = finish t a c

unfoldable mutual
  -- a spine with its arguments extended, but without its own missing ones (ours)
  pub core : Symbols → List Declared → List Ty → Tm → Tm
  core S M Γ (bound i) = bound i
  core S M Γ (free x a) = free x a
  core S M Γ (fun f) = fun f
  core S M Γ (meta z ts) = meta z (cores S M Γ ts)
  core S M Γ (lam a t) = lam a (finish t (kind S M (a ∷ Γ) t) (core S M (a ∷ Γ) t))
  core S M Γ (app t u) = app (core S M Γ t) (finish u (kind S M Γ u) (core S M Γ u))

  -- the arguments of a meta-application, extended (ours)
  pub cores : Symbols → List Declared → List Ty → Tms → Tms
  cores S M Γ none = none
  cores S M Γ (more t ts) = more (finish_argument t (kind S M Γ t) (core S M Γ t)) (cores S M Γ ts)

-- the extended tree: each spine in it of functional type is the abstraction of that spine applied to its missing
-- arguments (long eta-normal form, but for what `finish` leaves; Kop 2012)
abbrev pub long : Symbols → List Declared → List Ty → Tm → Tm
long S M Γ t = finish t (kind S M Γ t) (core S M Γ t)
