-- The tokens that spell what is written. `put_..  r` is the tokens with r behind them.
use Rattle.std.specs.Prelude.{ℕ, List, [], ◌∷◌, codes}
use Rattle.wh_text.specs.RawTree.{Binder, named_binder, numbered_binder}
use Rattle.wh_text.specs.Tokens.{Kind, name, keyword, dollar, percent, sign, Token}
use Rattle.wh_read.specs.Written.{WType, only, arrow, WAtype, sort_name, type_in, WTerm, lambda, atoms, WAtom, plain_name, number, typed_variable, applied, term_in, WAtoms, no_atoms, more_atoms, WTerms, no_terms, more_terms, WTypes, no_types, more_types, WBrackets, no_brackets, brackets, WMeta, WMetas, no_metas, more_metas, WDeclared, nothing, declares, WSort, WFun, WRule, WSystem}

-- a token as the grammar sees it: what it is, and the place of its first byte
pub record Placed : Type 0 where
  pub kind : Kind
  pub at : ℕ

abbrev pub placed : Token → Placed
placed t = record { kind = t.kind; at = t.from }

abbrev pub token : Kind → ℕ → Placed
token kind at = record { kind = kind; at = at }

abbrev pub mark : List ℕ → ℕ → Placed
mark bytes at = token (sign bytes) at

abbrev mutual
  pub put_type : WType → List Placed → List Placed
  put_type (only a) r = put_atype a r
  put_type (arrow a arrow_at t) r = put_atype a (mark (codes "->") arrow_at ∷ put_type t r)

  pub put_atype : WAtype → List Placed → List Placed
  put_atype (sort_name n at) r = token (name n) at ∷ r
  put_atype (type_in open_at t close_at) r = mark (codes "(") open_at ∷ put_type t (mark (codes ")") close_at ∷ r)

abbrev pub put_binder : Binder → ℕ → List Placed → List Placed
put_binder (named_binder n) at r = token (name n) at ∷ r
put_binder (numbered_binder n) at r = token (dollar n) at ∷ r

abbrev mutual
  pub put_term : WTerm → List Placed → List Placed
  put_term (lambda at x x_at colon_at a dot_at t) r =
      mark (codes "\\") at ∷ put_binder x x_at (mark (codes ":") colon_at ∷ put_atype a (mark (codes ".") dot_at ∷ put_term t r))
  put_term (atoms head rest) r = put_atom head (put_atoms rest r)

  pub put_atom : WAtom → List Placed → List Placed
  put_atom (plain_name n at) r = token (name n) at ∷ r
  put_atom (number n at) r = token (dollar n) at ∷ r
  put_atom (typed_variable n at colon_at a) r = token (percent n) at ∷ mark (codes ":") colon_at ∷ put_atype a r
  put_atom (applied n at open_at t rest close_at) r =
      token (name n) at ∷ mark (codes "[") open_at ∷ put_term t (put_terms rest (mark (codes "]") close_at ∷ r))
  put_atom (term_in open_at t close_at) r = mark (codes "(") open_at ∷ put_term t (mark (codes ")") close_at ∷ r)

  pub put_atoms : WAtoms → List Placed → List Placed
  put_atoms no_atoms r = r
  put_atoms (more_atoms u rest) r = put_atom u (put_atoms rest r)

  pub put_terms : WTerms → List Placed → List Placed
  put_terms no_terms r = r
  put_terms (more_terms comma_at t rest) r = mark (codes ",") comma_at ∷ put_term t (put_terms rest r)

abbrev pub put_types : WTypes → List Placed → List Placed
put_types no_types r = r
put_types (more_types comma_at t rest) r = mark (codes ",") comma_at ∷ put_type t (put_types rest r)

abbrev pub put_brackets : WBrackets → List Placed → List Placed
put_brackets no_brackets r = r
put_brackets (brackets open_at t rest close_at) r =
    mark (codes "[") open_at ∷ put_type t (put_types rest (mark (codes "]") close_at ∷ r))

abbrev pub put_meta : WMeta → List Placed → List Placed
put_meta m r = token (name m.name) m.at ∷ mark (codes ":") m.colon_at ∷ put_brackets m.args (put_type m.result r)

abbrev pub put_metas : WMetas → List Placed → List Placed
put_metas no_metas r = r
put_metas (more_metas comma_at m rest) r = mark (codes ",") comma_at ∷ put_meta m (put_metas rest r)

abbrev pub put_declared : WDeclared → List Placed → List Placed
put_declared nothing r = r
put_declared (declares m rest) r = put_meta m (put_metas rest r)

abbrev pub put_sort : WSort → List Placed → List Placed
put_sort s r = token (keyword (codes "sort")) s.at ∷ token (name s.name) s.name_at ∷ mark (codes ";") s.end_at ∷ r

abbrev pub put_fun : WFun → List Placed → List Placed
put_fun f r =
    token (keyword (codes "fun")) f.at ∷ token (name f.name) f.name_at ∷ mark (codes ":") f.colon_at
    ∷ put_type f.kind (mark (codes ";") f.end_at ∷ r)

abbrev pub put_rule : WRule → List Placed → List Placed
put_rule u r =
    token (keyword (codes "rule")) u.at ∷ mark (codes "{") u.open_at
    ∷ put_declared u.metas (mark (codes "}") u.close_at
    ∷ put_term u.left (mark (codes "=>") u.arrow_at ∷ put_term u.right (mark (codes ";") u.end_at ∷ r)))

-- one after another
abbrev pub put_all : {A : Type 0} → (A → List Placed → List Placed) → List A → List Placed → List Placed
put_all put [] r = r
put_all put (x ∷ xs) r = put x (put_all put xs r)

-- the tokens of a system text
abbrev pub spelled : WSystem → List Placed
spelled s = put_all put_sort s.sorts (put_all put_fun s.funs (put_all put_rule s.rules []))
