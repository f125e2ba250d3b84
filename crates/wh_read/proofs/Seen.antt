-- What a place of the machine has read: the tokens that led there, with r behind them, and that all of it nests within
-- the limits.
use Rattle.std.proofs.Common.{ℕ, ◌+◌, ◌<◌, List, ◌∷◌, codes}
use Rattle.wh_text.specs.Tokens.{name, keyword, percent}
use Rattle.wh_read.specs.Written.{WFun, WSystem}
use Rattle.wh_read.specs.Spelled.{Placed, token, mark, put_type, put_atype, put_binder, put_term, put_atom, put_atoms, put_terms, put_types, put_brackets, put_meta, put_metas, put_declared, put_sort, put_fun, put_rule, put_all}
use Rattle.wh_read.specs.Nesting.{TypeFits, AtypeFits, TermFits, AtomFits, AtomsFit, TermsFit, TypesFit, BracketsFit, MetaFits, MetasFit, DeclaredFits, Each, SystemFits}
use Rattle.wh_read.proofs.Machine.{SomeTypes, no_types_yet, types_so_far, SomeTerms, no_terms_yet, terms_so_far, SomeMetas, no_metas_yet, metas_so_far, SomeAtoms, no_atoms_yet, atoms_so_far, FunStart, RuleStart, MetaStart, RuleHead, Where, on_left, on_right, in_body, in_paren, in_bracket, TypeWhere, of_fun, in_brackets, of_meta, behind_arrow, in_type_paren, AtypeWhere, in_type, of_binder, of_variable, level, type_level, atype_level, Place, behind_sort, sort_named, behind_fun, fun_named, behind_rule, want_meta, meta_named, meta_colon, want_atype, behind_atype, behind_lambda, binder_named, binder_typed, want_atom, behind_name, behind_percent}

abbrev pub seen_types : SomeTypes → List Placed → List Placed
seen_types no_types_yet r = r
seen_types (types_so_far t rest comma_at) r = put_type t (put_types rest (mark (codes ",") comma_at ∷ r))

abbrev pub seen_terms : SomeTerms → List Placed → List Placed
seen_terms no_terms_yet r = r
seen_terms (terms_so_far t rest comma_at) r = put_term t (put_terms rest (mark (codes ",") comma_at ∷ r))

abbrev pub seen_metas : SomeMetas → List Placed → List Placed
seen_metas no_metas_yet r = r
seen_metas (metas_so_far m rest comma_at) r = put_meta m (put_metas rest (mark (codes ",") comma_at ∷ r))

abbrev pub seen_atoms : SomeAtoms → List Placed → List Placed
seen_atoms no_atoms_yet r = r
seen_atoms (atoms_so_far h rest) r = put_atom h (put_atoms rest r)

abbrev pub seen_system : WSystem → List Placed → List Placed
seen_system s r = put_all put_sort s.sorts (put_all put_fun s.funs (put_all put_rule s.rules r))

abbrev pub seen_fun : FunStart → List Placed → List Placed
seen_fun f r = put_all put_sort f.sorts (put_all put_fun f.funs (token (keyword (codes "fun")) f.at ∷ token (name f.name) f.name_at ∷ mark (codes ":") f.colon_at ∷ r))

abbrev pub seen_rule : RuleStart → List Placed → List Placed
seen_rule u r = seen_system u.before (token (keyword (codes "rule")) u.at ∷ mark (codes "{") u.open_at ∷ r)

abbrev pub seen_meta : MetaStart → List Placed → List Placed
seen_meta m r = seen_rule m.start (seen_metas m.before (token (name m.name) m.name_at ∷ r))

abbrev pub seen_head : RuleHead → List Placed → List Placed
seen_head h r = seen_rule h.start (put_declared h.metas (mark (codes "}") h.close_at ∷ r))

abbrev pub seen_where : Where → List Placed → List Placed
seen_where (on_left h) r = seen_head h r
seen_where (on_right h left arrow_at) r = seen_head h (put_term left (mark (codes "=>") arrow_at ∷ r))
seen_where (in_body at x x_at colon_at a dot_at w) r = seen_where w (mark (codes "\\") at ∷ put_binder x x_at (mark (codes ":") colon_at ∷ put_atype a (mark (codes ".") dot_at ∷ r)))
seen_where (in_paren open_at us w) r = seen_where w (seen_atoms us (mark (codes "(") open_at ∷ r))
seen_where (in_bracket x at open_at before us w) r = seen_where w (seen_atoms us (token (name x) at ∷ mark (codes "[") open_at ∷ seen_terms before r))

abbrev mutual
  pub seen_type_where : TypeWhere → List Placed → List Placed
  seen_type_where (of_fun f) r = seen_fun f r
  seen_type_where (in_brackets m colon_at open_at before) r = seen_meta m (mark (codes ":") colon_at ∷ mark (codes "[") open_at ∷ seen_types before r)
  seen_type_where (of_meta m colon_at args) r = seen_meta m (mark (codes ":") colon_at ∷ put_brackets args r)
  seen_type_where (behind_arrow a arrow_at c) r = seen_type_where c (put_atype a (mark (codes "->") arrow_at ∷ r))
  seen_type_where (in_type_paren open_at c) r = seen_atype_where c (mark (codes "(") open_at ∷ r)

  pub seen_atype_where : AtypeWhere → List Placed → List Placed
  seen_atype_where (in_type c) r = seen_type_where c r
  seen_atype_where (of_binder at x x_at colon_at w) r = seen_where w (mark (codes "\\") at ∷ put_binder x x_at (mark (codes ":") colon_at ∷ r))
  seen_atype_where (of_variable n at colon_at us w) r = seen_where w (seen_atoms us (token (percent n) at ∷ mark (codes ":") colon_at ∷ r))

abbrev pub seen : Place → List Placed → List Placed
seen (behind_sort ss at) r = put_all put_sort ss (token (keyword (codes "sort")) at ∷ r)
seen (sort_named ss at x x_at) r = put_all put_sort ss (token (keyword (codes "sort")) at ∷ token (name x) x_at ∷ r)
seen (behind_fun ss fs at) r = put_all put_sort ss (put_all put_fun fs (token (keyword (codes "fun")) at ∷ r))
seen (fun_named ss fs at x x_at) r = put_all put_sort ss (put_all put_fun fs (token (keyword (codes "fun")) at ∷ token (name x) x_at ∷ r))
seen (behind_rule s at) r = seen_system s (token (keyword (codes "rule")) at ∷ r)
seen (want_meta u before) r = seen_rule u (seen_metas before r)
seen (meta_named m) r = seen_meta m r
seen (meta_colon m colon_at) r = seen_meta m (mark (codes ":") colon_at ∷ r)
seen (want_atype c) r = seen_atype_where c r
seen (behind_atype c a) r = seen_type_where c (put_atype a r)
seen (behind_lambda at w) r = seen_where w (mark (codes "\\") at ∷ r)
seen (binder_named at x x_at w) r = seen_where w (mark (codes "\\") at ∷ put_binder x x_at r)
seen (binder_typed at x x_at colon_at a w) r = seen_where w (mark (codes "\\") at ∷ put_binder x x_at (mark (codes ":") colon_at ∷ put_atype a r))
seen (want_atom us w) r = seen_where w (seen_atoms us r)
seen (behind_name x at us w) r = seen_where w (seen_atoms us (token (name x) at ∷ r))
seen (behind_percent n at us w) r = seen_where w (seen_atoms us (token (percent n) at ∷ r))

abbrev pub SomeTypesFit : SomeTypes → Type 0
SomeTypesFit no_types_yet = Unit {0}
SomeTypesFit (types_so_far t rest comma_at) = TypeFits 0 t × TypesFit rest

abbrev pub SomeTermsFit : ℕ → SomeTerms → Type 0
SomeTermsFit k no_terms_yet = Unit {0}
SomeTermsFit k (terms_so_far t rest comma_at) = TermFits k t × TermsFit k rest

abbrev pub SomeMetasFit : SomeMetas → Type 0
SomeMetasFit no_metas_yet = Unit {0}
SomeMetasFit (metas_so_far m rest comma_at) = MetaFits m × MetasFit rest

abbrev pub SomeAtomsFit : ℕ → SomeAtoms → Type 0
SomeAtomsFit k no_atoms_yet = Unit {0}
SomeAtomsFit k (atoms_so_far h rest) = AtomFits k h × AtomsFit k rest

abbrev pub FunsFit : List WFun → Type 0
FunsFit fs = Each (λ (f : WFun). TypeFits 0 f.kind) fs

abbrev pub MetaStartFits : MetaStart → Type 0
MetaStartFits m = SystemFits m.start.before × SomeMetasFit m.before

abbrev pub HeadFits : RuleHead → Type 0
HeadFits h = SystemFits h.start.before × DeclaredFits h.metas

abbrev pub WhereFits : Where → Type 0
WhereFits (on_left h) = HeadFits h
WhereFits (on_right h left arrow_at) = HeadFits h × TermFits 0 left
WhereFits (in_body at x x_at colon_at a dot_at w) = WhereFits w × (level w < 400) × AtypeFits 0 a
WhereFits (in_paren open_at us w) = WhereFits w × (level w < 400) × SomeAtomsFit (level w) us
WhereFits (in_bracket x at open_at before us w) = WhereFits w × (level w < 400) × SomeAtomsFit (level w) us × SomeTermsFit (level w + 1) before

abbrev mutual
  pub TypeWhereFits : TypeWhere → Type 0
  TypeWhereFits (of_fun f) = FunsFit f.funs
  TypeWhereFits (in_brackets m colon_at open_at before) = MetaStartFits m × SomeTypesFit before
  TypeWhereFits (of_meta m colon_at args) = MetaStartFits m × BracketsFit args
  TypeWhereFits (behind_arrow a arrow_at c) = TypeWhereFits c × AtypeFits (type_level c) a
  TypeWhereFits (in_type_paren open_at c) = AtypeWhereFits c × (atype_level c < 16)

  pub AtypeWhereFits : AtypeWhere → Type 0
  AtypeWhereFits (in_type c) = TypeWhereFits c
  AtypeWhereFits (of_binder at x x_at colon_at w) = WhereFits w × (level w < 400)
  AtypeWhereFits (of_variable n at colon_at us w) = WhereFits w × SomeAtomsFit (level w) us

abbrev pub PlaceFits : Place → Type 0
PlaceFits (behind_sort ss at) = Unit {0}
PlaceFits (sort_named ss at x x_at) = Unit {0}
PlaceFits (behind_fun ss fs at) = FunsFit fs
PlaceFits (fun_named ss fs at x x_at) = FunsFit fs
PlaceFits (behind_rule s at) = SystemFits s
PlaceFits (want_meta u before) = SystemFits u.before × SomeMetasFit before
PlaceFits (meta_named m) = MetaStartFits m
PlaceFits (meta_colon m colon_at) = MetaStartFits m
PlaceFits (want_atype c) = AtypeWhereFits c
PlaceFits (behind_atype c a) = TypeWhereFits c × AtypeFits (type_level c) a
PlaceFits (behind_lambda at w) = WhereFits w × (level w < 400)
PlaceFits (binder_named at x x_at w) = WhereFits w × (level w < 400)
PlaceFits (binder_typed at x x_at colon_at a w) = WhereFits w × (level w < 400) × AtypeFits 0 a
PlaceFits (want_atom us w) = WhereFits w × SomeAtomsFit (level w) us
PlaceFits (behind_name x at us w) = WhereFits w × SomeAtomsFit (level w) us
PlaceFits (behind_percent n at us w) = WhereFits w × SomeAtomsFit (level w) us
