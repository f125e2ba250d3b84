-- Well-made systems: declared sorts, distinct names, well-made rules, and the limits. Every `System` is one.
use Rattle.std.specs.Prelude.{ℕ, ◌+◌, ◌≤◌, ◌≡◌, ◌≢◌, List, length, map, All, AllPairs}
use Rattle.wh_types.specs.Limits.{deepest_type, most_sorts, most_symbols, most_rules, most_arguments}
use Rattle.wh_types.specs.Ty.{Ty, sort, ◌⇒◌, arguments, SortsBelow}
use Rattle.wh_terms.specs.Tree.{Tm, free, meta, lam, app, Tms, none, more}
use Rattle.wh_terms.specs.Typing.{Declared}
use Rattle.wh_terms.specs.Rules.{AreWellMade}
use Rattle.wh_text.specs.Words.{IsName}
use Rattle.wh_system.specs.Systems.{SystemData}
use Rattle.wh_system.specs.Nesting.{type_nesting, TypesNestWithin}

-- no type in it, itself included, has more than n arguments
abbrev pub ArgumentsWithin : ℕ → Ty → Type 0
ArgumentsWithin n (sort s) = Unit {0}
ArgumentsWithin n (a ⇒ b) = (length (arguments b) + 1 ≤ n) × ArgumentsWithin n a × ArgumentsWithin n b

-- no type in a tree, of a binder or of a free variable, has more than n arguments
abbrev mutual
  pub TypesWithin : ℕ → Tm → Type 0
  TypesWithin n (free x a) = ArgumentsWithin n a
  TypesWithin n (meta z ts) = AllTypesWithin n ts
  TypesWithin n (lam a t) = ArgumentsWithin n a × TypesWithin n t
  TypesWithin n (app t u) = TypesWithin n t × TypesWithin n u
  TypesWithin n _ = Unit {0}

  pub AllTypesWithin : ℕ → Tms → Type 0
  AllTypesWithin n none = Unit {0}
  AllTypesWithin n (more t ts) = TypesWithin n t × AllTypesWithin n ts

-- a type of a system with `sorts` sorts: its sorts are there, no type in it has more than 32 arguments, and its
-- parentheses nest at most 16 deep (ours)
pub record IsTypeOver (sorts : ℕ) (a : Ty) : Type 0 where
  pub sorts_are_there : SortsBelow sorts a
  pub narrow : ArgumentsWithin most_arguments a
  pub shallow : type_nesting a ≤ deepest_type

-- a declaration: at most 32 arguments, and all its types are types of the system (ours)
pub record IsDeclarationOver (sorts : ℕ) (d : Declared) : Type 0 where
  pub narrow : length d.args ≤ 32
  pub args : All (IsTypeOver sorts) d.args
  pub out : IsTypeOver sorts d.out

-- no name stands twice in the list
abbrev pub AreDistinct : List (List ℕ) → Type 0
AreDistinct = AllPairs (λ x y. x ≢ y)

-- no name of one list is in the other
abbrev pub AreApart : List (List ℕ) → List (List ℕ) → Type 0
AreApart xs ys = All (λ x. All (λ y. x ≢ y) ys) xs

-- what every system is (Fuhs and Kop 2019; the limits and the names are ours)
pub record IsWellMadeSystem (s : SystemData) : Type 0 where
  -- the rules are well made over the symbols
  pub rules : AreWellMade s.symbols s.rules
  -- there are at most 256 sorts
  pub sorts_within : s.symbols.sorts ≤ most_sorts
  -- there are at most 1,024 symbols
  pub symbols_within : length s.symbols.funs ≤ most_symbols
  -- there are at most 1,024 rules
  pub rules_within : length s.rules ≤ most_rules
  -- each rule has at most 32 meta-variables
  pub metas_within : All (λ r. length r.metas ≤ 32) s.rules
  -- the type of each symbol is a type over the sorts
  pub symbol_types : All (IsTypeOver s.symbols.sorts) s.symbols.funs
  -- each meta-variable is declared with types over the sorts
  pub meta_types : All (λ r. All (IsDeclarationOver s.symbols.sorts) r.metas) s.rules
  -- no type in a side has more than 32 arguments
  pub side_types : All (λ r. TypesWithin 32 r.left × TypesWithin 32 r.right) s.rules
  -- the parentheses of no type in a side nest more than 16 deep
  pub side_types_shallow : All (λ r. TypesNestWithin deepest_type r.left × TypesNestWithin deepest_type r.right) s.rules
  -- each sort has a name
  pub sorts_named : length s.sort_names ≡ s.symbols.sorts
  -- each symbol has a name
  pub symbols_named : length s.fun_names ≡ length s.symbols.funs
  -- each meta-variable of each rule has a name
  pub metas_named : map length s.meta_names ≡ map (λ r. length r.metas) s.rules
  -- the name of each sort is a name
  pub sort_names_spelled : All IsName s.sort_names
  -- the name of each symbol is a name
  pub fun_names_spelled : All IsName s.fun_names
  -- the name of each meta-variable is a name
  pub meta_names_spelled : All (All IsName) s.meta_names
  -- no two sorts have one name
  pub sort_names_distinct : AreDistinct s.sort_names
  -- no two symbols have one name
  pub fun_names_distinct : AreDistinct s.fun_names
  -- no two meta-variables of a rule have one name
  pub meta_names_distinct : All AreDistinct s.meta_names
  -- no meta-variable has the name of a symbol
  pub metas_no_symbols : All (λ names. AreApart names s.fun_names) s.meta_names
