-- The tests that parts must pass to be a system, in their order (ours).
use Rattle.std.specs.Prelude.{ℕ, ◌+◌, ◌==◌, ◌&&◌, ◌||◌, not, nat_lt, Bool, false, List, [], ◌∷◌, ◌++◌, Option, Some, None, is_some, map, length, max, slice_index}
use Rattle.wh_types.specs.Limits.{most_sorts, most_symbols, most_arguments, greatest_height, greatest_size}
use Rattle.wh_types.specs.Ty.{Ty, same_ty}
use Rattle.wh_terms.specs.Typing.{Declared}
use Rattle.wh_text.specs.RawTree.{RTy, raw_type, RTys, no_types, more_types, named_binder, numbered_binder, RTm, named, numbered, free_variable, meta, lam, spine, RTms, none, more}
use Rattle.wh_system_parts.specs.Parts.{RName, RFun, RMeta, RParts}
use Rattle.wh_system_parts.specs.declared.fault.SystemFault.{SystemFault}
use Rattle.wh_system_parts.specs.declared.fault.SystemFault.TheVariants.{UnknownName, Twice, IllTyped, TooMany}
use Rattle.wh_system_parts.specs.Faults.{Test}
use Rattle.wh_system_parts.specs.Naming.{is_declared, type_meant, Scope, binder_number}
use Rattle.wh_system_parts.specs.Kinds.{TypedBinder, binders_of, kind_of, declaration, takes, gives}

abbrev pub test : Bool → SystemFault → Test
test fails fault = record { fails = fails; fault = fault }

-- the offsets of types and terms. A functional type stands where its first argument stands.
abbrev pub type_offset : RTy → ℕ
type_offset (raw_type no_types sort at) = at
type_offset (raw_type (more_types a rest) sort at) = type_offset a

abbrev pub term_offset : RTm → ℕ
term_offset (named n at) = at
term_offset (numbered n at) = at
term_offset (free_variable n a at) = at
term_offset (meta n ts at) = at
term_offset (lam x a t at) = at
term_offset (spine h ts at) = at

-- each sort of a type is there, from the left
abbrev mutual
  pub sorts_of_type : List (List ℕ) → RTy → List Test
  sorts_of_type sorts (raw_type args s at) = sorts_of_types sorts args ++ test (not (is_declared sorts s)) (UnknownName at) ∷ []

  pub sorts_of_types : List (List ℕ) → RTys → List Test
  sorts_of_types sorts no_types = []
  sorts_of_types sorts (more_types a rest) = sorts_of_type sorts a ++ sorts_of_types sorts rest

-- no type in it has more than 32 arguments; k of the outer one stand before
abbrev mutual
  pub width_of_type : RTy → List Test
  width_of_type (raw_type args s at) = width_of_types 0 args

  pub width_of_types : ℕ → RTys → List Test
  width_of_types k no_types = []
  width_of_types k (more_types a rest) = test (k == most_arguments) (TooMany (type_offset a)) ∷ (width_of_type a ++ width_of_types (k + 1) rest)

-- the tests of types in brackets: first their number, and then each type
abbrev pub count_of_types : ℕ → RTys → List Test
count_of_types k no_types = []
count_of_types k (more_types a rest) = test (k == most_arguments) (TooMany (type_offset a)) ∷ count_of_types (k + 1) rest

abbrev pub type_tests : List (List ℕ) → RTy → List Test
type_tests sorts a = sorts_of_type sorts a ++ width_of_type a

abbrev pub types_tests : List (List ℕ) → RTys → List Test
types_tests sorts no_types = []
types_tests sorts (more_types a rest) = type_tests sorts a ++ types_tests sorts rest

-- names that are declared one after another: each is none of those before it, nor of the names `others`
abbrev pub names_tests : List (List ℕ) → List (List ℕ) → List RName → List Test
names_tests others before [] = []
names_tests others before (n ∷ ns) =
    test (is_declared before n.name || is_declared others n.name) (Twice n.at) ∷ names_tests others (before ++ n.name ∷ []) ns

-- at most n things, that stand at these offsets; the fault is at the first one past them
abbrev pub count_test : ℕ → List ℕ → List Test
count_test n places = test (nat_lt n (length places)) (TooMany (slice_index places n)) ∷ []

abbrev pub sort_names : RParts → List (List ℕ)
sort_names p = map (λ s. s.name) p.sorts

abbrev pub fun_names : RParts → List (List ℕ)
fun_names p = map (λ f. f.name.name) p.funs

-- 1. the sorts: their number, then each name
abbrev pub sorts_tests : RParts → List Test
sorts_tests p = count_test most_sorts (map (λ s. s.at) p.sorts) ++ names_tests [] [] p.sorts

-- 2. the symbols: their number, then for each its name, its type's sorts, its type's arguments
abbrev pub fun_tests : List (List ℕ) → List (List ℕ) → List RFun → List Test
fun_tests sorts before [] = []
fun_tests sorts before (f ∷ fs) =
    test (is_declared before f.name.name) (Twice f.name.at) ∷ (type_tests sorts f.kind ++ fun_tests sorts (before ++ f.name.name ∷ []) fs)

abbrev pub funs_tests : RParts → List Test
funs_tests p = count_test most_symbols (map (λ f. f.name.at) p.funs) ++ fun_tests (sort_names p) [] p.funs

-- 3. of a rule's meta-variables for each its name, the number of its arguments, and each of its types
abbrev pub meta_tests : List (List ℕ) → List (List ℕ) → List (List ℕ) → List RMeta → List Test
meta_tests sorts funs before [] = []
meta_tests sorts funs before (m ∷ ms) =
    test (is_declared before m.name.name || is_declared funs m.name.name) (Twice m.name.at)
    ∷ (count_of_types 0 m.args ++ types_tests sorts m.args ++ type_tests sorts m.out ++ meta_tests sorts funs
    (before ++ m.name.name ∷ []) ms)

abbrev pub count_of : RTms → ℕ
count_of none = 0
count_of (more t ts) = count_of ts + 1

-- how many arguments a term has: those of a head that is a spine itself count too, so `(f a) b` has two, and
-- parentheses change no limit
abbrev pub arguments_of : RTm → ℕ
arguments_of (spine h ts at) = arguments_of h + count_of ts
arguments_of _ = 0

-- of a side: no spine, and no type of a binder or variable, has more than 32 arguments; k arguments of a spine stand
-- before
abbrev mutual
  pub width_of_term : RTm → List Test
  width_of_term (free_variable n a at) = width_of_type a
  width_of_term (meta n ts at) = widths_of_terms ts
  width_of_term (lam x a t at) = width_of_type a ++ width_of_term t
  width_of_term (spine h ts at) = width_of_term h ++ width_of_arguments (arguments_of h) ts
  width_of_term _ = []

  pub widths_of_terms : RTms → List Test
  widths_of_terms none = []
  widths_of_terms (more t ts) = width_of_term t ++ widths_of_terms ts

  pub width_of_arguments : ℕ → RTms → List Test
  width_of_arguments k none = []
  width_of_arguments k (more t ts) = test (k == most_arguments) (TooMany (term_offset t)) ∷ (width_of_term t ++ width_of_arguments (k + 1) ts)

-- height and size of a side as it is read, in the sense of those of terms
abbrev mutual
  pub raw_height : RTm → ℕ
  raw_height (meta n none at) = 0
  raw_height (meta n (more t ts) at) = 1 + max (raw_height t) (raw_heights ts)
  raw_height (lam x a t at) = 1 + raw_height t
  raw_height (spine h ts at) = 1 + max (raw_height h) (raw_heights ts)
  raw_height _ = 0

  pub raw_heights : RTms → ℕ
  raw_heights none = 0
  raw_heights (more t ts) = max (raw_height t) (raw_heights ts)

abbrev mutual
  pub raw_size : RTm → ℕ
  raw_size (meta n ts at) = 1 + raw_sizes ts
  raw_size (lam x a t at) = 1 + raw_size t
  raw_size (spine h ts at) = raw_size h + raw_spine_size ts
  raw_size _ = 1

  pub raw_sizes : RTms → ℕ
  raw_sizes none = 0
  raw_sizes (more t ts) = raw_size t + raw_sizes ts

  -- an argument of a spine is an application more
  pub raw_spine_size : RTms → ℕ
  raw_spine_size none = 0
  raw_spine_size (more t ts) = 1 + raw_size t + raw_spine_size ts

abbrev pub side_tests : RTm → List Test
side_tests t =
    width_of_term t ++ test (nat_lt greatest_height (raw_height t)) (TooMany (term_offset t))
    ∷ test (nat_lt greatest_size (raw_size t)) (TooMany (term_offset t)) ∷ []

-- names and types of a side, inner terms before outer ones and left before right
abbrev pub is_meta : Scope → List TypedBinder → List ℕ → Bool
is_meta s bs n = not (is_some (binder_number (binders_of bs) (named_binder n))) && is_declared s.metas n

abbrev pub is_known : Scope → List TypedBinder → List ℕ → Bool
is_known s bs n = is_some (binder_number (binders_of bs) (named_binder n)) || (is_declared s.metas n || is_declared s.funs n)

abbrev pub arity_of : Option Declared → ℕ
arity_of (Some d) = length d.args
arity_of None = 0

-- the arguments of a meta-variable have the types that are wanted
abbrev pub wanted_tests : Scope → List TypedBinder → RTms → List Ty → List Test
wanted_tests s bs (more t ts) (a ∷ wanted) = test (not (has_kind (kind_of s bs t) a)) (IllTyped (term_offset t))
    ∷ wanted_tests s bs ts wanted
  where
    has_kind : Option Ty → Ty → Bool
    has_kind (Some b) a = same_ty b a
    has_kind None a = false
wanted_tests s bs _ _ = []

abbrev pub args_of : Option Declared → List Ty
args_of (Some d) = d.args
args_of None = []

abbrev mutual
  pub naming_tests : Scope → List TypedBinder → RTm → List Test
  naming_tests s bs (named n at) =
      test (not (is_known s bs n)) (UnknownName at) ∷ test (is_meta s bs n && not (arity_of (declaration s n) == 0)) (IllTyped at) ∷ []
  naming_tests s bs (numbered k at) = test (not (is_some (binder_number (binders_of bs) (numbered_binder k)))) (UnknownName at) ∷ []
  naming_tests s bs (free_variable k a at) = sorts_of_type s.sorts a
  naming_tests s bs (meta n ts at) =
      namings_tests s bs ts ++ test (not (is_declared s.metas n)) (UnknownName at)
      ∷ test (not (arity_of (declaration s n) == count_of ts)) (IllTyped at) ∷ wanted_tests s bs ts (args_of (declaration s n))
  naming_tests s bs (lam x a t at) =
      sorts_of_type s.sorts a ++ naming_tests s (record { binder = x; kind = type_meant s.sorts a } ∷ bs) t
  naming_tests s bs (spine h ts at) = naming_tests s bs h ++ applying_tests s bs (kind_of s bs h) ts

  pub namings_tests : Scope → List TypedBinder → RTms → List Test
  namings_tests s bs none = []
  namings_tests s bs (more t ts) = naming_tests s bs t ++ namings_tests s bs ts

  -- what has the type f, applied to the arguments one after another
  pub applying_tests : Scope → List TypedBinder → Option Ty → RTms → List Test
  applying_tests s bs f none = []
  applying_tests s bs f (more t ts) =
      naming_tests s bs t ++ test (not (takes f (kind_of s bs t))) (IllTyped (term_offset t)) ∷ applying_tests s bs (gives f) ts
