-- What the values stand for that the walks over a rule's sides pass on.
use Rattle.std.specs.Prelude.{ℕ, List, Option, map, position, reverse, Some}
use Rattle.wh_types.specs.Ty.{Ty}
use Rattle.wh_types.specs.Erase.{ty, tys}
use Rattle.wh_terms.specs.Erase.{declared_metas}
use Rattle.wh_text.specs.RawTree.{Binder}
use Rattle.wh_text.specs.Erase.{rbinder}
use Rattle.wh_system_parts.specs.Naming.{Scope, same_binder}
use Rattle.wh_system_parts.specs.Kinds.{TypedBinder}
use Rattle.wh_system_resolve.specs.declared.scope.Scope as code
use Rattle.wh_system_resolve.specs.declared.around.Around.{Around}
use Rattle.wh_system_resolve.specs.declared.kind.Kind.{Kind}
use Rattle.wh_system_resolve.specs.declared.kind.Kind.TheVariants.{Known, Own}

-- what names may stand for
abbrev pub scope : code.Scope → Scope
scope s = record {
  sorts = s.sorts.now;
  funs = s.funs.now;
  kinds = tys s.kinds.now;
  metas = s.metas.now;
  declared = declared_metas
      s.declared.now;
}

-- the type that a `Kind` stands for
abbrev pub type_of : Kind → Ty
type_of (Known a) = ty a.now
type_of (Own a) = ty a

-- the types that a list of `Kind`s stands for
abbrev pub types_of : List Kind → List Ty
types_of = map type_of

abbrev pub typed_binder : Around → TypedBinder
typed_binder a = record { binder = rbinder a.binder.now; kind = Some (ty a.kind) }

-- the binders passed, which a walk lists from the outermost on: the innermost first
abbrev pub typed : List Around → List TypedBinder
typed passed = reverse (map typed_binder passed)

-- the number of the innermost of the binders passed that is x
abbrev pub nearest : List Around → Binder → Option ℕ
nearest passed x = position (λ a. same_binder (rbinder a.binder.now) x) (reverse passed)
