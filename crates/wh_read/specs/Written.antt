-- What is written in a system text, token by token: concrete syntax trees. Each part has the places of its tokens.
use Rattle.std.specs.Prelude.{ℕ, List}
use Rattle.wh_text.specs.RawTree.{Binder}

-- type = atype [ "->" type ];  atype = NAME | "(" type ")"
mutual
  pub data WType : Type 0 where
    only : (a : WAtype) → WType
    arrow : (a : WAtype) (arrow_at : ℕ) (t : WType) → WType

  pub data WAtype : Type 0 where
    sort_name : (name : List ℕ) (at : ℕ) → WAtype
    type_in : (open_at : ℕ) (t : WType) (close_at : ℕ) → WAtype

-- term = "\" binder ":" atype "." term | atom { atom }
-- atom = NAME | $NUMBER | %NUMBER ":" atype | NAME "[" term { "," term } "]" | "(" term ")"
mutual
  pub data WTerm : Type 0 where
    lambda : (at : ℕ) (x : Binder) (x_at colon_at : ℕ) (a : WAtype) (dot_at : ℕ) (t : WTerm) → WTerm
    atoms : (head : WAtom) (rest : WAtoms) → WTerm

  pub data WAtom : Type 0 where
    plain_name : (name : List ℕ) (at : ℕ) → WAtom
    number : (n : ℕ) (at : ℕ) → WAtom
    typed_variable : (n : ℕ) (at colon_at : ℕ) (a : WAtype) → WAtom
    applied : (name : List ℕ) (at open_at : ℕ) (t : WTerm) (rest : WTerms) (close_at : ℕ) → WAtom
    term_in : (open_at : ℕ) (t : WTerm) (close_at : ℕ) → WAtom

  -- the atoms behind the first one
  pub data WAtoms : Type 0 where
    no_atoms : WAtoms
    more_atoms : (u : WAtom) (rest : WAtoms) → WAtoms

  -- the terms behind the first one, each behind a comma
  pub data WTerms : Type 0 where
    no_terms : WTerms
    more_terms : (comma_at : ℕ) (t : WTerm) (rest : WTerms) → WTerms

-- the types behind the first one in the brackets of a declared meta-variable, each behind a comma
pub data WTypes : Type 0 where
  no_types : WTypes
  more_types : (comma_at : ℕ) (t : WType) (rest : WTypes) → WTypes

-- meta = NAME ":" [ "[" type { "," type } "]" ] type
pub data WBrackets : Type 0 where
  no_brackets : WBrackets
  brackets : (open_at : ℕ) (t : WType) (rest : WTypes) (close_at : ℕ) → WBrackets

pub record WMeta : Type 0 where
  pub name : List ℕ
  pub at : ℕ
  pub colon_at : ℕ
  pub args : WBrackets
  pub result : WType

-- the meta-variables behind the first one, each behind a comma
pub data WMetas : Type 0 where
  no_metas : WMetas
  more_metas : (comma_at : ℕ) (m : WMeta) (rest : WMetas) → WMetas

pub data WDeclared : Type 0 where
  nothing : WDeclared
  declares : (m : WMeta) (rest : WMetas) → WDeclared

-- "sort" NAME ";"
pub record WSort : Type 0 where
  pub at : ℕ
  pub name : List ℕ
  pub name_at : ℕ
  pub end_at : ℕ

-- "fun" NAME ":" type ";"
pub record WFun : Type 0 where
  pub at : ℕ
  pub name : List ℕ
  pub name_at : ℕ
  pub colon_at : ℕ
  pub kind : WType
  pub end_at : ℕ

-- "rule" "{" [ meta { "," meta } ] "}" term "=>" term ";"
pub record WRule : Type 0 where
  pub at : ℕ
  pub open_at : ℕ
  pub metas : WDeclared
  pub close_at : ℕ
  pub left : WTerm
  pub arrow_at : ℕ
  pub right : WTerm
  pub end_at : ℕ

-- system = { sort } { fun } { rule }
pub record WSystem : Type 0 where
  pub sorts : List WSort
  pub funs : List WFun
  pub rules : List WRule
