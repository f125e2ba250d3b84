-- How deep parts may nest: terms 400 levels, the parentheses of types 16 (ours). The level of a token counts the open
-- parentheses and brackets of terms and the abstractions around it.
use Rattle.std.specs.Prelude.{ℕ, ◌+◌, ◌<◌, List, [], ◌∷◌}
use Rattle.wh_types.specs.Limits.{deepest_term, deepest_type}
use Rattle.wh_read.specs.Written.{WType, only, arrow, WAtype, sort_name, type_in, WTerm, lambda, atoms, WAtom, plain_name, number, typed_variable, applied, term_in, WAtoms, no_atoms, more_atoms, WTerms, no_terms, more_terms, WTypes, no_types, more_types, WBrackets, no_brackets, brackets, WMeta, WMetas, no_metas, more_metas, WDeclared, nothing, declares, WRule, WSystem}

-- within j open parentheses of types
abbrev mutual
  pub TypeFits : ℕ → WType → Type 0
  TypeFits j (only a) = AtypeFits j a
  TypeFits j (arrow a arrow_at t) = AtypeFits j a × TypeFits j t

  pub AtypeFits : ℕ → WAtype → Type 0
  AtypeFits j (sort_name n at) = Unit {0}
  AtypeFits j (type_in open_at t close_at) = (j < deepest_type) × TypeFits (j + 1) t

-- within k levels of terms
abbrev mutual
  pub TermFits : ℕ → WTerm → Type 0
  TermFits k (lambda at x x_at colon_at a dot_at t) = (k < deepest_term) × AtypeFits 0 a × TermFits (k + 1) t
  TermFits k (atoms head rest) = AtomFits k head × AtomsFit k rest

  pub AtomFits : ℕ → WAtom → Type 0
  AtomFits k (plain_name n at) = Unit {0}
  AtomFits k (number n at) = Unit {0}
  AtomFits k (typed_variable n at colon_at a) = AtypeFits 0 a
  AtomFits k (applied n at open_at t rest close_at) = (k < deepest_term) × TermFits (k + 1) t × TermsFit (k + 1) rest
  AtomFits k (term_in open_at t close_at) = (k < deepest_term) × TermFits (k + 1) t

  pub AtomsFit : ℕ → WAtoms → Type 0
  AtomsFit k no_atoms = Unit {0}
  AtomsFit k (more_atoms u rest) = AtomFits k u × AtomsFit k rest

  pub TermsFit : ℕ → WTerms → Type 0
  TermsFit k no_terms = Unit {0}
  TermsFit k (more_terms comma_at t rest) = TermFits k t × TermsFit k rest

abbrev pub TypesFit : WTypes → Type 0
TypesFit no_types = Unit {0}
TypesFit (more_types comma_at t rest) = TypeFits 0 t × TypesFit rest

abbrev pub BracketsFit : WBrackets → Type 0
BracketsFit no_brackets = Unit {0}
BracketsFit (brackets open_at t rest close_at) = TypeFits 0 t × TypesFit rest

abbrev pub MetaFits : WMeta → Type 0
MetaFits m = BracketsFit m.args × TypeFits 0 m.result

abbrev pub MetasFit : WMetas → Type 0
MetasFit no_metas = Unit {0}
MetasFit (more_metas comma_at m rest) = MetaFits m × MetasFit rest

abbrev pub DeclaredFits : WDeclared → Type 0
DeclaredFits nothing = Unit {0}
DeclaredFits (declares m rest) = MetaFits m × MetasFit rest

abbrev pub RuleFits : WRule → Type 0
RuleFits u = DeclaredFits u.metas × TermFits 0 u.left × TermFits 0 u.right

-- P holds of each member of the list
abbrev pub Each : {A : Type 0} → (A → Type 0) → List A → Type 0
Each P [] = Unit {0}
Each P (x ∷ xs) = P x × Each P xs

abbrev pub SystemFits : WSystem → Type 0
SystemFits s = Each (λ f. TypeFits 0 f.kind) s.funs × Each RuleFits s.rules
