-- What lists of entries stand for: substitutions and meta-substitutions.
use Rattle.std.specs.Prelude.{ℕ, ◌≡◌, ◌==◌, ◌&&◌, List, [], ◌∷◌, Contains, if◌then◌else◌}
use Rattle.wh_types.specs.Ty.{Ty, sort, same_ty}
use Rattle.wh_types.specs.Erase.{ty}
use Rattle.wh_terms.specs.Tree.{Tm, free, meta, lam, app, Tms, none, more, count}
use Rattle.wh_terms.specs.Value.{Body}
use Rattle.wh_terms.specs.Erase.{tm}
use Rattle.wh_terms.specs.declared.subst.SubstEntry.{SubstEntry}
use Rattle.wh_terms.specs.declared.subst.MetaBody.{MetaBody}

-- two entries of a substitution are for different variables
abbrev pub IsAnotherVariable : SubstEntry → SubstEntry → Type 0
IsAnotherVariable e d = e.number ≡ d.number → ty e.kind ≡ ty d.kind → ⊥

-- what a substitution puts for a free variable: the tree of its entry, or the variable itself
abbrev pub replacement : List SubstEntry → ℕ → Ty → Tm
replacement [] x a = free x a
replacement (e ∷ es) x a = if (e.number == x) && same_ty (ty e.kind) a then tm e.value else replacement es x a

-- the body that a meta-substitution gives a meta-variable; one that it does not list is never looked at
abbrev pub bodies : List MetaBody → ℕ → Body
bodies [] z = record { arity = 0; tree = free 0 (sort 0) }
bodies (b ∷ bs) z = if b.meta == z then record { arity = b.arity; tree = tm b.body } else bodies bs z

-- the meta-substitution lists the meta-variable z
abbrev pub Lists : List MetaBody → ℕ → Type 0
Lists bs z = (b : MetaBody) × Contains bs b × (b.meta ≡ z)

-- the meta-substitution lists each meta-variable of the tree, with the number of arguments that it has there
abbrev mutual
  pub Covers : List MetaBody → Tm → Type 0
  Covers bs (meta z ts) = Lists bs z × ((bodies bs z).arity ≡ count ts) × CoversAll bs ts
  Covers bs (lam a t) = Covers bs t
  Covers bs (app t u) = Covers bs t × Covers bs u
  Covers bs _ = Unit {0}

  pub CoversAll : List MetaBody → Tms → Type 0
  CoversAll bs none = Unit {0}
  CoversAll bs (more t ts) = Covers bs t × CoversAll bs ts
