-- A machine that reads a system text token by token. Its place holds what was written so far, whole, so that the laws
-- are about written trees: an open term is a stack of what it stands in, and so is an open type.
use Rattle.std.specs.Prelude.{ℕ, ◌+◌, ◌||◌, not, nat_lt, Bool, List, [], ◌∷◌, ◌++◌, Option, None, Some, if◌then◌else◌}
use Rattle.wh_text.specs.RawTree.{Binder, named_binder, numbered_binder}
use Rattle.wh_read.specs.Written.{WType, only, arrow, WAtype, sort_name, type_in, WTerm, lambda, atoms, WAtom, plain_name, number, typed_variable, applied, term_in, WAtoms, no_atoms, more_atoms, WTerms, no_terms, more_terms, WTypes, no_types, more_types, WBrackets, no_brackets, brackets, WMeta, WMetas, no_metas, more_metas, WDeclared, nothing, declares, WSort, WFun, WRule, WSystem}
use Rattle.wh_read.specs.Spelled.{Placed}
use Rattle.wh_read.specs.Lexemes.{Lexeme, a_name, a_dollar, a_percent, key_sort, key_fun, key_rule, backslash, colon, dot, semicolon, comma, open_paren, close_paren, open_bracket, close_bracket, open_brace, close_brace, thin_arrow, thick_arrow, lexeme}

-- the members of a list that were read so far, the last one with the comma behind it
pub data SomeTypes : Type 0 where
  no_types_yet : SomeTypes
  types_so_far : (t : WType) (rest : WTypes) (comma_at : ℕ) → SomeTypes

pub data SomeTerms : Type 0 where
  no_terms_yet : SomeTerms
  terms_so_far : (t : WTerm) (rest : WTerms) (comma_at : ℕ) → SomeTerms

pub data SomeMetas : Type 0 where
  no_metas_yet : SomeMetas
  metas_so_far : (m : WMeta) (rest : WMetas) (comma_at : ℕ) → SomeMetas

-- the atoms of a spine that were read so far
pub data SomeAtoms : Type 0 where
  no_atoms_yet : SomeAtoms
  atoms_so_far : (head : WAtom) (rest : WAtoms) → SomeAtoms

abbrev pub join_types : WTypes → WTypes → WTypes
join_types no_types later = later
join_types (more_types d u rest) later = more_types d u (join_types rest later)

abbrev pub add_type : WTypes → ℕ → WType → WTypes
add_type rest c t = join_types rest (more_types c t no_types)

abbrev pub join_terms : WTerms → WTerms → WTerms
join_terms no_terms later = later
join_terms (more_terms d u rest) later = more_terms d u (join_terms rest later)

abbrev pub add_term : WTerms → ℕ → WTerm → WTerms
add_term rest c t = join_terms rest (more_terms c t no_terms)

abbrev pub join_metas : WMetas → WMetas → WMetas
join_metas no_metas later = later
join_metas (more_metas d u rest) later = more_metas d u (join_metas rest later)

abbrev pub add_meta : WMetas → ℕ → WMeta → WMetas
add_meta rest c m = join_metas rest (more_metas c m no_metas)

abbrev pub join_atoms : WAtoms → WAtoms → WAtoms
join_atoms no_atoms later = later
join_atoms (more_atoms v rest) later = more_atoms v (join_atoms rest later)

abbrev pub add_atom : WAtoms → WAtom → WAtoms
add_atom rest u = join_atoms rest (more_atoms u no_atoms)

abbrev pub next_types : SomeTypes → WType → ℕ → SomeTypes
next_types no_types_yet t at = types_so_far t no_types at
next_types (types_so_far u rest c) t at = types_so_far u (add_type rest c t) at

abbrev pub next_terms : SomeTerms → WTerm → ℕ → SomeTerms
next_terms no_terms_yet t at = terms_so_far t no_terms at
next_terms (terms_so_far u rest c) t at = terms_so_far u (add_term rest c t) at

abbrev pub next_metas : SomeMetas → WMeta → ℕ → SomeMetas
next_metas no_metas_yet m at = metas_so_far m no_metas at
next_metas (metas_so_far n rest c) m at = metas_so_far n (add_meta rest c m) at

abbrev pub next_atoms : SomeAtoms → WAtom → SomeAtoms
next_atoms no_atoms_yet u = atoms_so_far u no_atoms
next_atoms (atoms_so_far h rest) u = atoms_so_far h (add_atom rest u)

-- the whole lists, with the last member
abbrev pub all_types : ℕ → SomeTypes → WType → ℕ → WBrackets
all_types open_at no_types_yet t close_at = brackets open_at t no_types close_at
all_types open_at (types_so_far u rest c) t close_at = brackets open_at u (add_type rest c t) close_at

abbrev pub all_terms : List ℕ → ℕ → ℕ → SomeTerms → WTerm → ℕ → WAtom
all_terms n at open_at no_terms_yet t close_at = applied n at open_at t no_terms close_at
all_terms n at open_at (terms_so_far u rest c) t close_at = applied n at open_at u (add_term rest c t) close_at

abbrev pub all_metas : SomeMetas → WMeta → WDeclared
all_metas no_metas_yet m = declares m no_metas
all_metas (metas_so_far n rest c) m = declares n (add_meta rest c m)

-- a symbol up to the colon
pub record FunStart : Type 0 where
  pub sorts : List WSort
  pub funs : List WFun
  pub at : ℕ
  pub name : List ℕ
  pub name_at : ℕ
  pub colon_at : ℕ

-- a rule up to its open brace
pub record RuleStart : Type 0 where
  pub before : WSystem
  pub at : ℕ
  pub open_at : ℕ

-- a meta-variable up to its name
pub record MetaStart : Type 0 where
  pub start : RuleStart
  pub before : SomeMetas
  pub name : List ℕ
  pub name_at : ℕ

-- a rule up to its close brace
pub record RuleHead : Type 0 where
  pub start : RuleStart
  pub metas : WDeclared
  pub close_at : ℕ

-- where a term stands
pub data Where : Type 0 where
  on_left : (h : RuleHead) → Where
  on_right : (h : RuleHead) (left : WTerm) (arrow_at : ℕ) → Where
  in_body : (at : ℕ) (x : Binder) (x_at colon_at : ℕ) (a : WAtype) (dot_at : ℕ) (w : Where) → Where
  in_paren : (open_at : ℕ) (us : SomeAtoms) (w : Where) → Where
  in_bracket : (name : List ℕ) (at open_at : ℕ) (before : SomeTerms) (us : SomeAtoms) (w : Where) → Where

-- where a type stands, and where the part of a type stands that is a sort's name or has parentheses
mutual
  pub data TypeWhere : Type 0 where
    of_fun : (f : FunStart) → TypeWhere
    in_brackets : (m : MetaStart) (colon_at open_at : ℕ) (before : SomeTypes) → TypeWhere
    of_meta : (m : MetaStart) (colon_at : ℕ) (args : WBrackets) → TypeWhere
    behind_arrow : (a : WAtype) (arrow_at : ℕ) (c : TypeWhere) → TypeWhere
    in_type_paren : (open_at : ℕ) (c : AtypeWhere) → TypeWhere

  pub data AtypeWhere : Type 0 where
    in_type : (c : TypeWhere) → AtypeWhere
    of_binder : (at : ℕ) (x : Binder) (x_at colon_at : ℕ) (w : Where) → AtypeWhere
    of_variable : (n at colon_at : ℕ) (us : SomeAtoms) (w : Where) → AtypeWhere

-- how many levels of terms are open
abbrev pub level : Where → ℕ
level (on_left h) = 0
level (on_right h left arrow_at) = 0
level (in_body at x x_at colon_at a dot_at w) = level w + 1
level (in_paren open_at us w) = level w + 1
level (in_bracket name at open_at before us w) = level w + 1

-- how many parentheses of types are open
abbrev mutual
  pub type_level : TypeWhere → ℕ
  type_level (of_fun f) = 0
  type_level (in_brackets m colon_at open_at before) = 0
  type_level (of_meta m colon_at args) = 0
  type_level (behind_arrow a arrow_at c) = type_level c
  type_level (in_type_paren open_at c) = atype_level c + 1

  pub atype_level : AtypeWhere → ℕ
  atype_level (in_type c) = type_level c
  atype_level (of_binder at x x_at colon_at w) = 0
  atype_level (of_variable n at colon_at us w) = 0

-- a place inside a declaration, named for what stands before it
pub data Place : Type 0 where
  behind_sort : (ss : List WSort) (at : ℕ) → Place
  sort_named : (ss : List WSort) (at : ℕ) (name : List ℕ) (name_at : ℕ) → Place
  behind_fun : (ss : List WSort) (fs : List WFun) (at : ℕ) → Place
  fun_named : (ss : List WSort) (fs : List WFun) (at : ℕ) (name : List ℕ) (name_at : ℕ) → Place
  behind_rule : (s : WSystem) (at : ℕ) → Place
  want_meta : (u : RuleStart) (before : SomeMetas) → Place
  meta_named : (m : MetaStart) → Place
  meta_colon : (m : MetaStart) (colon_at : ℕ) → Place
  want_atype : (c : AtypeWhere) → Place
  behind_atype : (c : TypeWhere) (a : WAtype) → Place
  behind_lambda : (at : ℕ) (w : Where) → Place
  binder_named : (at : ℕ) (x : Binder) (x_at : ℕ) (w : Where) → Place
  binder_typed : (at : ℕ) (x : Binder) (x_at colon_at : ℕ) (a : WAtype) (w : Where) → Place
  want_atom : (us : SomeAtoms) (w : Where) → Place
  behind_name : (name : List ℕ) (at : ℕ) (us : SomeAtoms) (w : Where) → Place
  behind_percent : (n at : ℕ) (us : SomeAtoms) (w : Where) → Place

-- between two declarations, inside one, at a token that no system text has there, or at one that opens a level too many
pub data State : Type 0 where
  between : (s : WSystem) → State
  inside : (p : Place) → State
  failed too_many : State

-- whether one more level may be opened within k of them, of which there may be n; without bounds always
abbrev pub may_open : Bool → ℕ → ℕ → Bool
may_open bounded k n = not bounded || nat_lt k n

abbrev pub opened : Bool → ℕ → ℕ → Place → State
opened bounded k n p = if may_open bounded k n then inside p else too_many

abbrev pub open_type : Bool → ℕ → AtypeWhere → State
open_type bounded at c = opened bounded (atype_level c) 16 (want_atype (in_type (in_type_paren at c)))

abbrev pub open_term : Bool → Where → Place → State
open_term bounded w p = opened bounded (level w) 400 p

-- a part of a type was read
abbrev pub had_atype : AtypeWhere → WAtype → Place
had_atype (in_type c) a = behind_atype c a
had_atype (of_binder at x x_at colon_at w) a = binder_typed at x x_at colon_at a w
had_atype (of_variable n at colon_at us w) a = want_atom (next_atoms us (typed_variable n at colon_at a)) w

abbrev pub with_fun : FunStart → WType → ℕ → WSystem
with_fun f t end_at = record { sorts = f.sorts; funs = f.funs ++ record { at = f.at; name = f.name; name_at = f.name_at; colon_at = f.colon_at; kind = t; end_at = end_at } ∷ []; rules = [] }

abbrev pub the_meta : MetaStart → ℕ → WBrackets → WType → WMeta
the_meta m colon_at args t = record { name = m.name; at = m.name_at; colon_at = colon_at; args = args; result = t }

abbrev pub with_rule : RuleHead → WTerm → ℕ → WTerm → ℕ → WSystem
with_rule h left arrow_at right end_at = record { sorts = h.start.before.sorts; funs = h.start.before.funs; rules = h.start.before.rules ++ record { at = h.start.at; open_at = h.start.open_at; metas = h.metas; close_at = h.close_at; left = left; arrow_at = arrow_at; right = right; end_at = end_at } ∷ [] }

abbrev pub left_of : RuleStart → WDeclared → ℕ → State
left_of u metas at = inside (want_atom no_atoms_yet (on_left (record { start = u; metas = metas; close_at = at })))

-- the type t has ended before the letter
abbrev pub type_ended : TypeWhere → WType → Lexeme → ℕ → State
type_ended (of_fun f) t semicolon at = between (with_fun f t at)
type_ended (of_fun f) t l at = failed
type_ended (in_brackets m colon_at open_at before) t comma at = inside (want_atype (in_type (in_brackets m colon_at open_at (next_types before t at))))
type_ended (in_brackets m colon_at open_at before) t close_bracket at = inside (want_atype (in_type (of_meta m colon_at (all_types open_at before t at))))
type_ended (in_brackets m colon_at open_at before) t l at = failed
type_ended (of_meta m colon_at args) t comma at = inside (want_meta m.start (next_metas m.before (the_meta m colon_at args t) at))
type_ended (of_meta m colon_at args) t close_brace at = left_of m.start (all_metas m.before (the_meta m colon_at args t)) at
type_ended (of_meta m colon_at args) t l at = failed
type_ended (behind_arrow a arrow_at c) t l at = type_ended c (arrow a arrow_at t) l at
type_ended (in_type_paren open_at c) t close_paren at = inside (had_atype c (type_in open_at t at))
type_ended (in_type_paren open_at c) t l at = failed

-- the term t has ended before the letter
abbrev pub term_ended : Where → WTerm → Lexeme → ℕ → State
term_ended (on_left h) t thick_arrow at = inside (want_atom no_atoms_yet (on_right h t at))
term_ended (on_left h) t l at = failed
term_ended (on_right h left arrow_at) t semicolon at = between (with_rule h left arrow_at t at)
term_ended (on_right h left arrow_at) t l at = failed
term_ended (in_body lambda_at x x_at colon_at a dot_at w) t l at = term_ended w (lambda lambda_at x x_at colon_at a dot_at t) l at
term_ended (in_paren open_at us w) t close_paren at = inside (want_atom (next_atoms us (term_in open_at t at)) w)
term_ended (in_paren open_at us w) t l at = failed
term_ended (in_bracket n n_at open_at before us w) t comma at = inside (want_atom no_atoms_yet (in_bracket n n_at open_at (next_terms before t at) us w))
term_ended (in_bracket n n_at open_at before us w) t close_bracket at = inside (want_atom (next_atoms us (all_terms n n_at open_at before t at)) w)
term_ended (in_bracket n n_at open_at before us w) t l at = failed

-- a letter where an atom may stand: it begins one, or ends the spine
abbrev pub spine_ended : SomeAtoms → Where → Lexeme → ℕ → State
spine_ended no_atoms_yet w l at = failed
spine_ended (atoms_so_far h rest) w l at = term_ended w (atoms h rest) l at

abbrev pub lambda_begins : Bool → SomeAtoms → Where → ℕ → State
lambda_begins bounded no_atoms_yet w at = open_term bounded w (behind_lambda at w)
lambda_begins bounded (atoms_so_far h rest) w at = failed

abbrev pub at_atom : Bool → SomeAtoms → Where → Lexeme → ℕ → State
at_atom bounded us w (a_name n) at = inside (behind_name n at us w)
at_atom bounded us w (a_dollar n) at = inside (want_atom (next_atoms us (number n at)) w)
at_atom bounded us w (a_percent n) at = inside (behind_percent n at us w)
at_atom bounded us w open_paren at = open_term bounded w (want_atom no_atoms_yet (in_paren at us w))
at_atom bounded us w backslash at = lambda_begins bounded us w at
at_atom bounded us w l at = spine_ended us w l at

abbrev pub behind_plain : Bool → List ℕ → ℕ → SomeAtoms → Where → Lexeme → ℕ → State
behind_plain bounded n n_at us w open_bracket at = open_term bounded w (want_atom no_atoms_yet (in_bracket n n_at at no_terms_yet us w))
behind_plain bounded n n_at us w l at = at_atom bounded (next_atoms us (plain_name n n_at)) w l at

abbrev pub at_atype : Bool → AtypeWhere → Lexeme → ℕ → State
at_atype bounded c (a_name n) at = inside (had_atype c (sort_name n at))
at_atype bounded c open_paren at = open_type bounded at c
at_atype bounded c l at = failed

abbrev pub at_meta : RuleStart → SomeMetas → Lexeme → ℕ → State
at_meta u before (a_name n) at = inside (meta_named (record { start = u; before = before; name = n; name_at = at }))
at_meta u no_metas_yet close_brace at = left_of u nothing at
at_meta u before l at = failed

abbrev pub at_binder : ℕ → Where → Lexeme → ℕ → State
at_binder lambda_at w (a_name n) at = inside (binder_named lambda_at (named_binder n) at w)
at_binder lambda_at w (a_dollar n) at = inside (binder_named lambda_at (numbered_binder n) at w)
at_binder lambda_at w l at = failed

-- the place behind the next letter, which stands at a place of the text
abbrev pub move : Bool → Place → Lexeme → ℕ → State
move bounded (behind_sort ss at) (a_name n) n_at = inside (sort_named ss at n n_at)
move bounded (behind_sort ss at) l end_at = failed
move bounded (sort_named ss at n n_at) semicolon end_at = between (record { sorts = ss ++ record { at = at; name = n; name_at = n_at; end_at = end_at } ∷ []; funs = []; rules = [] })
move bounded (sort_named ss at n n_at) l end_at = failed
move bounded (behind_fun ss fs at) (a_name n) n_at = inside (fun_named ss fs at n n_at)
move bounded (behind_fun ss fs at) l n_at = failed
move bounded (fun_named ss fs at n n_at) colon colon_at = inside (want_atype (in_type (of_fun (record { sorts = ss; funs = fs; at = at; name = n; name_at = n_at; colon_at = colon_at }))))
move bounded (fun_named ss fs at n n_at) l colon_at = failed
move bounded (behind_rule s at) open_brace open_at = inside (want_meta (record { before = s; at = at; open_at = open_at }) no_metas_yet)
move bounded (behind_rule s at) l open_at = failed
move bounded (want_meta u before) l at = at_meta u before l at
move bounded (meta_named m) colon at = inside (meta_colon m at)
move bounded (meta_named m) l at = failed
move bounded (meta_colon m colon_at) open_bracket at = inside (want_atype (in_type (in_brackets m colon_at at no_types_yet)))
move bounded (meta_colon m colon_at) l at = at_atype bounded (in_type (of_meta m colon_at no_brackets)) l at
move bounded (want_atype c) l at = at_atype bounded c l at
move bounded (behind_atype c a) thin_arrow at = inside (want_atype (in_type (behind_arrow a at c)))
move bounded (behind_atype c a) l at = type_ended c (only a) l at
move bounded (behind_lambda lambda_at w) l at = at_binder lambda_at w l at
move bounded (binder_named lambda_at x x_at w) colon at = inside (want_atype (of_binder lambda_at x x_at at w))
move bounded (binder_named lambda_at x x_at w) l at = failed
move bounded (binder_typed lambda_at x x_at colon_at a w) dot at = inside (want_atom no_atoms_yet (in_body lambda_at x x_at colon_at a at w))
move bounded (binder_typed lambda_at x x_at colon_at a w) l at = failed
move bounded (want_atom us w) l at = at_atom bounded us w l at
move bounded (behind_name n n_at us w) l at = behind_plain bounded n n_at us w l at
move bounded (behind_percent n n_at us w) colon at = inside (want_atype (of_variable n n_at at us w))
move bounded (behind_percent n n_at us w) l at = failed

-- a declaration begins: no sort behind a symbol or a rule, no symbol behind a rule
abbrev pub sort_begins : List WSort → List WFun → List WRule → ℕ → State
sort_begins ss [] [] at = inside (behind_sort ss at)
sort_begins ss fs us at = failed

abbrev pub fun_begins : List WSort → List WFun → List WRule → ℕ → State
fun_begins ss fs [] at = inside (behind_fun ss fs at)
fun_begins ss fs us at = failed

abbrev pub begin : WSystem → Lexeme → ℕ → State
begin s key_sort at = sort_begins s.sorts s.funs s.rules at
begin s key_fun at = fun_begins s.sorts s.funs s.rules at
begin s key_rule at = inside (behind_rule s at)
begin s l at = failed

abbrev pub read : Bool → State → Lexeme → ℕ → State
read bounded (between s) l at = begin s l at
read bounded (inside p) l at = move bounded p l at
read bounded failed l at = failed
read bounded too_many l at = too_many

-- with a token that is no letter no system text goes on
abbrev pub read_some : Bool → State → Option Lexeme → ℕ → State
read_some bounded too_many l at = too_many
read_some bounded failed l at = failed
read_some bounded s None at = failed
read_some bounded s (Some l) at = read bounded s l at

abbrev pub step : Bool → State → Placed → State
step bounded s k = read_some bounded s (lexeme k.kind) k.at

abbrev pub run : Bool → State → List Placed → State
run bounded s [] = s
run bounded s (k ∷ r) = run bounded (step bounded s k) r

abbrev pub start : State
start = between (record { sorts = []; funs = []; rules = [] })
