-- The tests of a rule, and of all parts, in their order (ours).
use Rattle.std.specs.Prelude.{ℕ, ◌==◌, ◌&&◌, ◌||◌, not, Bool, true, false, List, [], ◌∷◌, ◌++◌, Option, Some, None, is_some, map, unwrap_or}
use Rattle.wh_types.specs.Limits.{most_rules, most_metas}
use Rattle.wh_types.specs.Ty.{Ty, sort, same_ty}
use Rattle.wh_terms.specs.Typing.{Declared}
use Rattle.wh_text.specs.RawTree.{RTy, RTys, no_types, more_types, Binder, named_binder, numbered_binder, RTm, named, numbered, free_variable, meta, lam, spine, RTms, none, more}
use Rattle.wh_system_parts.specs.Parts.{RMeta, RRule, RParts}
use Rattle.wh_system_parts.specs.declared.fault.SystemFault.{SystemFault}
use Rattle.wh_system_parts.specs.declared.fault.SystemFault.TheVariants.{IllTyped, NotPattern, OpenSide, NewMeta, HeadNotFun, UnevenRules}
use Rattle.wh_system_parts.specs.Faults.{Test, first_fault}
use Rattle.wh_system_parts.specs.Naming.{number_of, is_declared, type_meant, Scope, binder_number}
use Rattle.wh_system_parts.specs.Kinds.{kind_of}
use Rattle.wh_system_parts.specs.Tests.{test, term_offset, arguments_of, count_test, sort_names, fun_names, sorts_tests, funs_tests, meta_tests, side_tests, naming_tests}

-- the type that a raw type stands for; where a sort is not there, which an earlier test finds, any type
abbrev pub type_of_raw : List (List ℕ) → RTy → Ty
type_of_raw sorts a = unwrap_or (type_meant sorts a) (sort 0)

abbrev pub types_of_raw : List (List ℕ) → RTys → List Ty
types_of_raw sorts no_types = []
types_of_raw sorts (more_types a rest) = type_of_raw sorts a ∷ types_of_raw sorts rest

abbrev pub declared_by : List (List ℕ) → RMeta → Declared
declared_by sorts m = record { args = types_of_raw sorts m.args; out = type_of_raw sorts m.out }

-- what names may stand for in a rule
abbrev pub scope_of : RParts → RRule → Scope
scope_of p r = record {
  sorts = sort_names p;
  funs = fun_names p;
  kinds = map (λ f. type_of_raw (sort_names p) f.kind) p.funs;
  metas = map (λ m. m.name.name) r.metas;
  declared = map (declared_by (sort_names p)) r.metas;
}

abbrev pub same_kind : Option Ty → Option Ty → Bool
same_kind (Some a) (Some b) = same_ty a b
same_kind _ _ = false

-- the free variables of a side, each a fault, by their offsets
abbrev mutual
  pub open_tests : RTm → List Test
  open_tests (free_variable n a at) = test true (OpenSide at) ∷ []
  open_tests (meta n ts at) = opens_tests ts
  open_tests (lam x a t at) = open_tests t
  open_tests (spine h ts at) = open_tests h ++ opens_tests ts
  open_tests _ = []

  pub opens_tests : RTms → List Test
  opens_tests none = []
  opens_tests (more t ts) = open_tests t ++ opens_tests ts

-- the symbol that heads a left side, if one does
abbrev pub head_symbol : Scope → RTm → Option ℕ
head_symbol s (named n at) = symbol_unless (is_declared s.metas n) (number_of s.funs n)
  where
    symbol_unless : Bool → Option ℕ → Option ℕ
    symbol_unless true f = None
    symbol_unless false f = f
head_symbol s (spine h ts at) = head_symbol s h
head_symbol s _ = None

-- a plain name or `$k` that an enclosing binder has, with the number of that binder
abbrev pub bound_number : List Binder → RTm → Option ℕ
bound_number binders (named n at) = binder_number binders (named_binder n)
bound_number binders (numbered k at) = binder_number binders (numbered_binder k)
bound_number binders _ = None

abbrev pub is_new : Option ℕ → List ℕ → Bool
is_new None seen = false
is_new (Some i) [] = true
is_new (Some i) (j ∷ seen) = not (i == j) && is_new (Some i) seen

-- the arguments are distinct bound variables, and none of those seen
abbrev pub are_distinct : List Binder → List ℕ → RTms → Bool
are_distinct binders seen none = true
are_distinct binders seen (more t ts) = is_new (bound_number binders t) seen && are_distinct binders
    (unwrap_or (bound_number binders t) 0 ∷ seen) ts

-- a head that a pattern may have: a bound variable or a symbol
abbrev pub is_pattern_head : Scope → List Binder → RTm → Bool
is_pattern_head s binders (named n at) = is_some (binder_number binders (named_binder n)) || not (is_declared s.metas n)
is_pattern_head s binders (numbered k at) = true
is_pattern_head s binders _ = false

-- the parts of a left side whose own form is no pattern's, in preorder
abbrev mutual
  pub pattern_tests : Scope → List Binder → RTm → List Test
  pattern_tests s binders (free_variable n a at) = test true (NotPattern at) ∷ []
  pattern_tests s binders (meta n ts at) = test (not (are_distinct binders [] ts)) (NotPattern at) ∷ []
  pattern_tests s binders (lam x a t at) = pattern_tests s (x ∷ binders) t
  pattern_tests s binders (spine h ts at) = test (not (is_pattern_head s binders h)) (NotPattern at) ∷ patterns_tests s binders ts
  pattern_tests s binders _ = []

  pub patterns_tests : Scope → List Binder → RTms → List Test
  patterns_tests s binders none = []
  patterns_tests s binders (more t ts) = pattern_tests s binders t ++ patterns_tests s binders ts

-- a plain name that stands for a meta-variable
abbrev pub is_plain_meta : Scope → List Binder → List ℕ → Bool
is_plain_meta s binders n = not (is_some (binder_number binders (named_binder n))) && is_declared s.metas n

-- the meta-variable of that name occurs in the term
abbrev mutual
  pub occurs : Scope → List Binder → List ℕ → RTm → Bool
  occurs s binders name (named n at) = is_plain_meta s binders n && is_declared (name ∷ []) n
  occurs s binders name (meta n ts at) = is_declared (name ∷ []) n || any_occurs s binders name ts
  occurs s binders name (lam x a t at) = occurs s (x ∷ binders) name t
  occurs s binders name (spine h ts at) = occurs s binders name h || any_occurs s binders name ts
  occurs s binders name _ = false

  pub any_occurs : Scope → List Binder → List ℕ → RTms → Bool
  any_occurs s binders name none = false
  any_occurs s binders name (more t ts) = occurs s binders name t || any_occurs s binders name ts

-- the occurrences of meta-variables on the right, by their offsets, each tested to be in the left side
abbrev mutual
  pub new_meta_tests : Scope → RTm → List Binder → RTm → List Test
  new_meta_tests s left binders (named n at) = test (is_plain_meta s binders n && not (occurs s [] n left)) (NewMeta at) ∷ []
  new_meta_tests s left binders (meta n ts at) = test (not (occurs s [] n left)) (NewMeta at) ∷ new_metas_tests s left binders ts
  new_meta_tests s left binders (lam x a t at) = new_meta_tests s left (x ∷ binders) t
  new_meta_tests s left binders (spine h ts at) = new_meta_tests s left binders h ++ new_metas_tests s left binders ts
  new_meta_tests s left binders _ = []

  pub new_metas_tests : Scope → RTm → List Binder → RTms → List Test
  new_metas_tests s left binders none = []
  new_metas_tests s left binders (more t ts) = new_meta_tests s left binders t ++ new_metas_tests s left binders ts

-- some earlier rule of the same head has another number of arguments
abbrev pub is_uneven : Option ℕ → ℕ → List (Option ℕ × ℕ) → Bool
is_uneven head n [] = false
is_uneven head n (e ∷ earlier) = (same_head head e.0 && not (n == e.1)) || is_uneven head n earlier
  where
    same_head : Option ℕ → Option ℕ → Bool
    same_head (Some f) (Some g) = f == g
    same_head _ _ = false

-- the tests of one rule; the earlier rules by their heads and numbers of arguments
abbrev pub rule_tests : RParts → List (Option ℕ × ℕ) → RRule → List Test
rule_tests p earlier r =
    let s = scope_of p r in
    count_test most_metas (map (λ m. m.name.at) r.metas) ++ meta_tests (sort_names p) (fun_names p)
    [] r.metas ++ side_tests r.left ++ side_tests r.right ++ naming_tests s [] r.left ++ naming_tests s [] r.right ++ test
    (not (same_kind (kind_of s [] r.left) (kind_of s [] r.right))) (IllTyped (term_offset r.right))
    ∷ (open_tests r.left ++ open_tests r.right ++ test (not (is_some (head_symbol s r.left))) (HeadNotFun (term_offset r.left))
    ∷ (pattern_tests s [] r.left ++ new_meta_tests s r.left [] r.right ++ test
    (is_uneven (head_symbol s r.left) (arguments_of r.left) earlier) (UnevenRules (term_offset r.left)) ∷ []))

abbrev pub rules_tests : RParts → List (Option ℕ × ℕ) → List RRule → List Test
rules_tests p earlier [] = []
rules_tests p earlier (r ∷ rs) =
    rule_tests p earlier r ++ rules_tests p ((head_symbol (scope_of p r) r.left, arguments_of r.left) ∷ earlier) rs

-- all tests: the sorts, the symbols, then the rules: their number and each
abbrev pub tests : RParts → List Test
tests p = sorts_tests p ++ funs_tests p ++ count_test most_rules (map (λ r. r.at) p.rules) ++ rules_tests p [] p.rules

-- why the parts are no system: the first test that fails
abbrev pub refusal : RParts → Option SystemFault
refusal p = first_fault (tests p)
