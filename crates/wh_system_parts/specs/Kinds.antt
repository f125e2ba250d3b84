-- The type of a raw term, where its names stand for something and its parts fit together.
use Rattle.std.specs.Prelude.{ℕ, ◌&&◌, Bool, true, false, List, [], ◌∷◌, Option, Some, None, map, slice_get, slice_index_or, option_and_then}
use Rattle.wh_types.specs.Ty.{Ty, ◌⇒◌, same_ty}
use Rattle.wh_terms.specs.Typing.{Declared}
use Rattle.wh_text.specs.RawTree.{Binder, named_binder, numbered_binder, RTm, named, numbered, free_variable, meta as raw_meta, lam as raw_lam, spine, RTms, none, more}
use Rattle.wh_system_parts.specs.Naming.{number_of, type_meant, Scope, binder_number, or_else, both}

-- a binder with the type of its variable, if its sorts are there
pub record TypedBinder : Type 0 where
  pub binder : Binder
  pub kind : Option Ty

abbrev pub binders_of : List TypedBinder → List Binder
binders_of = map (λ b. b.binder)

abbrev pub kind_of_binder : List TypedBinder → Binder → Option Ty
kind_of_binder bs x = option_and_then (λ i. slice_index_or (map (λ b. b.kind) bs) i None) (binder_number (binders_of bs) x)

-- the declaration of a meta-variable
abbrev pub declaration : Scope → List ℕ → Option Declared
declaration s n = option_and_then (λ z. slice_get s.declared z) (number_of s.metas n)

-- a function of type f may take an argument of type a
abbrev pub takes : Option Ty → Option Ty → Bool
takes (Some (a ⇒ b)) (Some c) = same_ty a c
takes _ _ = false

-- what it gives
abbrev pub gives : Option Ty → Option Ty
gives (Some (a ⇒ b)) = Some b
gives _ = None

-- the type, or None where there is none
abbrev pub where_true : Bool → Option Ty → Option Ty
where_true true a = a
where_true false a = None

-- there are as many types as wanted ones, and each is the wanted one at its place
abbrev pub are_wanted : List (Option Ty) → List Ty → Bool
are_wanted [] [] = true
are_wanted (Some a ∷ given) (b ∷ wanted) = same_ty a b && are_wanted given wanted
are_wanted _ _ = false

-- a meta-variable of that declaration, with arguments of these types
abbrev pub meta_kind : Option Declared → List (Option Ty) → Option Ty
meta_kind (Some d) given = where_true (are_wanted given d.args) (Some d.out)
meta_kind None given = None

-- a plain name that no binder has: the meta-variable without arguments, or else the symbol
abbrev pub outer_kind : Scope → List ℕ → Option ℕ → Option Ty
outer_kind s n (Some z) = meta_kind (slice_get s.declared z) []
outer_kind s n None = option_and_then (λ f. slice_get s.kinds f) (number_of s.funs n)

abbrev pub name_kind : Scope → List TypedBinder → List ℕ → Option Ty
name_kind s bs n = or_else (kind_of_binder bs (named_binder n)) (outer_kind s n (number_of s.metas n))

abbrev mutual
  pub kind_of : Scope → List TypedBinder → RTm → Option Ty
  kind_of s bs (named n at) = name_kind s bs n
  kind_of s bs (numbered k at) = kind_of_binder bs (numbered_binder k)
  kind_of s bs (free_variable k a at) = type_meant s.sorts a
  kind_of s bs (raw_meta n ts at) = meta_kind (declaration s n) (kinds_of s bs ts)
  kind_of s bs (raw_lam x a t at) = both (λ b c. b ⇒ c) (type_meant s.sorts a)
      (kind_of s (record { binder = x; kind = type_meant s.sorts a } ∷ bs) t)
  kind_of s bs (spine h ts at) = spine_kind s bs (kind_of s bs h) ts

  pub kinds_of : Scope → List TypedBinder → RTms → List (Option Ty)
  kinds_of s bs none = []
  kinds_of s bs (more t ts) = kind_of s bs t ∷ kinds_of s bs ts

  -- of what has that type, applied to the arguments one after another
  pub spine_kind : Scope → List TypedBinder → Option Ty → RTms → Option Ty
  spine_kind s bs f none = f
  spine_kind s bs f (more t ts) = spine_kind s bs (where_true (takes f (kind_of s bs t)) (gives f)) ts
