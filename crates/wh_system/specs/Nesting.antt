-- How deep the parentheses of types nest where they are written canonically (ours): a functional type that is a part of
-- something else stands in parentheses.
use Rattle.std.specs.Prelude.{ℕ, ◌+◌, ◌≤◌, max}
use Rattle.wh_types.specs.Ty.{Ty, sort, ◌⇒◌}
use Rattle.wh_terms.specs.Tree.{Tm, free, meta, lam, app, Tms, none as no_tms, more as more_tms}
use Rattle.wh_text.specs.RawTree.{RTy, raw_type, RTys, no_types, more_types, RTm, free_variable, meta as raw_meta, lam as raw_lam, spine, RTms, none, more}

abbrev mutual
  -- of a type by itself
  pub type_nesting : Ty → ℕ
  type_nesting (sort s) = 0
  type_nesting (a ⇒ b) = max (part_nesting a) (type_nesting b)

  -- of a type as a part of something else
  pub part_nesting : Ty → ℕ
  part_nesting (sort s) = 0
  part_nesting (a ⇒ b) = 1 + max (part_nesting a) (type_nesting b)

-- how deep the parentheses nest in types as they are written: in one as a part of something else, and the most among
-- parts
abbrev mutual
  pub raw_part_nesting : RTy → ℕ
  raw_part_nesting (raw_type no_types s at) = 0
  raw_part_nesting (raw_type (more_types a rest) s at) = 1 + max (raw_part_nesting a) (raw_parts_nesting rest)

  pub raw_parts_nesting : RTys → ℕ
  raw_parts_nesting no_types = 0
  raw_parts_nesting (more_types a rest) = max (raw_part_nesting a) (raw_parts_nesting rest)

-- how deep the parentheses nest in a type by itself
abbrev pub raw_nesting : RTy → ℕ
raw_nesting (raw_type args s at) = raw_parts_nesting args

-- each of the types, by itself, nests at most n deep
abbrev pub RawTypesNestEach : ℕ → RTys → Type 0
RawTypesNestEach n no_types = Unit {0}
RawTypesNestEach n (more_types a rest) = (raw_nesting a ≤ n) × RawTypesNestEach n rest

-- each type in a tree, of a binder or of a free variable, nests at most n deep as a part
abbrev mutual
  pub TypesNestWithin : ℕ → Tm → Type 0
  TypesNestWithin n (free x a) = part_nesting a ≤ n
  TypesNestWithin n (meta z ts) = AllTypesNestWithin n ts
  TypesNestWithin n (lam a t) = (part_nesting a ≤ n) × TypesNestWithin n t
  TypesNestWithin n (app t u) = TypesNestWithin n t × TypesNestWithin n u
  TypesNestWithin n _ = Unit {0}

  pub AllTypesNestWithin : ℕ → Tms → Type 0
  AllTypesNestWithin n no_tms = Unit {0}
  AllTypesNestWithin n (more_tms t ts) = TypesNestWithin n t × AllTypesNestWithin n ts

-- the parentheses of the types in a term, as it is written, nest at most n deep
abbrev mutual
  pub RawTypesNestWithin : ℕ → RTm → Type 0
  RawTypesNestWithin n (free_variable k a at) = raw_part_nesting a ≤ n
  RawTypesNestWithin n (raw_meta x ts at) = AllRawTypesNestWithin n ts
  RawTypesNestWithin n (raw_lam x a t at) = (raw_part_nesting a ≤ n) × RawTypesNestWithin n t
  RawTypesNestWithin n (spine h ts at) = RawTypesNestWithin n h × AllRawTypesNestWithin n ts
  RawTypesNestWithin n _ = Unit {0}

  pub AllRawTypesNestWithin : ℕ → RTms → Type 0
  AllRawTypesNestWithin n none = Unit {0}
  AllRawTypesNestWithin n (more t ts) = RawTypesNestWithin n t × AllRawTypesNestWithin n ts
