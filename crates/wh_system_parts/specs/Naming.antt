-- What a name in a side stands for: a binder, a meta-variable or a symbol; and the number of a name in a table.
use Rattle.std.specs.Prelude.{ℕ, ◌==◌, Bool, false, List, [], ◌∷◌, Option, Some, None, option_and_then, option_map, position, is_some}
use Rattle.std.specs.Str.{bytes_eq}
use Rattle.wh_types.specs.Ty.{Ty, sort, ◌⇒◌}
use Rattle.wh_terms.specs.Tree.{Tm, bound, free, fun, meta, lam, app, Tms, none as no_tms, more as more_tms}
use Rattle.wh_terms.specs.Typing.{Declared}
use Rattle.wh_text.specs.RawTree.{RTy, raw_type, RTys, no_types, more_types, Binder, named_binder, numbered_binder, RTm, named, numbered, free_variable, meta as raw_meta, lam as raw_lam, spine, RTms, none, more}

-- the number of a name in a list: the first that is it
abbrev pub number_of : List (List ℕ) → List ℕ → Option ℕ
number_of names name = position (λ other. bytes_eq other name) names

abbrev pub is_declared : List (List ℕ) → List ℕ → Bool
is_declared names name = is_some (number_of names name)

-- the type that a raw type stands for over these sorts, if all its sorts are there
abbrev mutual
  pub type_meant : List (List ℕ) → RTy → Option Ty
  type_meant sorts (raw_type args s at) = arrows_meant sorts args (option_map sort (number_of sorts s))

  pub arrows_meant : List (List ℕ) → RTys → Option Ty → Option Ty
  arrows_meant sorts no_types result = result
  arrows_meant sorts (more_types a rest) result = option_and_then (λ b. option_map (λ c. b ⇒ c) (arrows_meant sorts rest result))
      (type_meant sorts a)

-- the type of functions from these types, one after another, to the last
abbrev pub arrows_over : List Ty → Ty → Ty
arrows_over [] result = result
arrows_over (a ∷ rest) result = a ⇒ arrows_over rest result

-- what the names in a rule's sides may stand for: sorts, symbols with their types, and the rule's meta-variables
pub record Scope : Type 0 where
  pub sorts : List (List ℕ)
  pub funs : List (List ℕ)
  pub kinds : List Ty
  pub metas : List (List ℕ)
  pub declared : List Declared

abbrev pub same_binder : Binder → Binder → Bool
same_binder (named_binder x) (named_binder y) = bytes_eq x y
same_binder (numbered_binder m) (numbered_binder n) = m == n
same_binder _ _ = false

-- the innermost enclosing binder that is x; the list has the innermost first
abbrev pub binder_number : List Binder → Binder → Option ℕ
binder_number binders x = position (λ y. same_binder y x) binders

-- a or else b
abbrev pub or_else : {A : Type 0} → Option A → Option A → Option A
or_else (Some a) b = Some a
or_else None b = b

-- a plain name: the innermost enclosing binder of that name; else the rule's meta-variable; else the symbol
abbrev pub name_meant : Scope → List Binder → List ℕ → Option Tm
name_meant s binders n =
    or_else (option_map bound (binder_number binders (named_binder n)))
    (or_else (option_map (λ z. meta z no_tms) (number_of s.metas n)) (option_map fun (number_of s.funs n)))

abbrev pub both : {A B C : Type 0} → (A → B → C) → Option A → Option B → Option C
both f (Some a) (Some b) = Some (f a b)
both f _ _ = None

-- the tree that a raw term stands for below these binders, the innermost first, if each of its names stands for
-- something
abbrev mutual
  pub meant : Scope → List Binder → RTm → Option Tm
  meant s binders (named n at) = name_meant s binders n
  meant s binders (numbered k at) = option_map bound (binder_number binders (numbered_binder k))
  meant s binders (free_variable k a at) = option_map (free k) (type_meant s.sorts a)
  meant s binders (raw_meta n ts at) = both meta (number_of s.metas n) (all_meant s binders ts)
  meant s binders (raw_lam x a t at) = both lam (type_meant s.sorts a) (meant s (x ∷ binders) t)
  meant s binders (spine h ts at) = applied_meant s binders (meant s binders h) ts

  pub all_meant : Scope → List Binder → RTms → Option Tms
  all_meant s binders none = Some no_tms
  all_meant s binders (more t ts) = both more_tms (meant s binders t) (all_meant s binders ts)

  pub applied_meant : Scope → List Binder → Option Tm → RTms → Option Tm
  applied_meant s binders h none = h
  applied_meant s binders h (more t ts) = applied_meant s binders (both app h (meant s binders t)) ts
