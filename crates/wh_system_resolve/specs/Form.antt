-- The head and the form of a left side, as the tree that it stands for shows them (ours).
use Rattle.std.specs.Prelude.{ℕ, ◌≡◌, ◌&&◌, Bool, true, false, List, [], ◌∷◌, Option, Some, None, Result, unwrap_or}
use Rattle.wh_types.specs.declared.want.Or.{Or}
use Rattle.wh_terms.specs.Tree.{Tm, bound, fun, meta, app, Tms, none as no_tms, more as more_tms}
use Rattle.wh_text.specs.RawTree.{Binder, RTm, named, numbered, RTms, none, more}
use Rattle.wh_system_parts.specs.declared.fault.SystemFault.{SystemFault}
use Rattle.wh_system_parts.specs.Naming.{Scope, meant}
use Rattle.wh_system_parts.specs.RuleTests.{is_new, pattern_tests}
use Rattle.wh_system_resolve.specs.Answers.{Reports}

-- the symbol that heads the spine that a tree is, if one does
abbrev pub symbol_of : Tm → Option ℕ
symbol_of (fun f) = Some f
symbol_of (app t u) = symbol_of t
symbol_of _ = None

-- the number of a bound variable
abbrev pub bound_in : Tm → Option ℕ
bound_in (bound i) = Some i
bound_in _ = None

-- a bound variable or a symbol
abbrev pub is_front : Tm → Bool
is_front (bound i) = true
is_front (fun f) = true
is_front _ = false

-- the arguments of a meta-variable
abbrev pub arguments_in : Tm → Option Tms
arguments_in (meta z ts) = Some ts
arguments_in _ = None

-- the trees are distinct bound variables, and none of those seen
abbrev pub are_distinct_bound : List ℕ → Tms → Bool
are_distinct_bound seen no_tms = true
are_distinct_bound seen (more_tms t ts) = is_new (bound_in t) seen && are_distinct_bound (unwrap_or (bound_in t) 0 ∷ seen) ts

-- there are trees, and they are distinct bound variables
abbrev pub have_distinct : Option Tms → Bool
have_distinct (Some ts) = are_distinct_bound [] ts
have_distinct None = false

-- a raw term that is one name
abbrev pub is_name : RTm → Bool
is_name (named n at) = true
is_name (numbered k at) = true
is_name _ = false

abbrev pub are_names : RTms → Bool
are_names none = true
are_names (more t ts) = is_name t && are_names ts

-- the answer for the form of a raw term that stands for the tree
abbrev pub TellsForm : Tm → RTm → Result (Unit {0}) (Or SystemFault) → Type 0
TellsForm t r result = (s : Scope) (bs : List Binder) → meant s bs r ≡ Some t → Reports (pattern_tests s bs r) result
