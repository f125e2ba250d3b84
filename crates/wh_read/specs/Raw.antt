-- From concrete syntax trees to the raw trees and parts that they say.
use Rattle.std.specs.Prelude.{ℕ, List, [], ◌∷◌, map}
use Rattle.wh_text.specs.RawTree.{RTy, raw_type, RTys, no_types as no_rtys, more_types as more_rtys, RTm, named, numbered, free_variable, meta, lam, spine, RTms, none, more}
use Rattle.wh_system_parts.specs.Parts.{RName, RFun, RMeta, RRule, RParts}
use Rattle.wh_read.specs.Written.{WType, only, arrow, WAtype, sort_name, type_in, WTerm, lambda, atoms, WAtom, plain_name, number, typed_variable, applied, term_in, WAtoms, no_atoms, more_atoms, WTerms, no_terms, more_terms, WTypes, no_types, more_types, WBrackets, no_brackets, brackets, WMeta, WMetas, no_metas, more_metas, WDeclared, nothing, declares, WSort, WFun, WRule, WSystem}

-- an arrow to a parenthesised type is the same type as without the parentheses
abbrev pub with_argument : RTy → RTy → RTy
with_argument a (raw_type args sort at) = raw_type (more_rtys a args) sort at

abbrev mutual
  pub said_type : WType → RTy
  said_type (only a) = said_atype a
  said_type (arrow a arrow_at t) = with_argument (said_atype a) (said_type t)

  pub said_atype : WAtype → RTy
  said_atype (sort_name n at) = raw_type no_rtys n at
  said_atype (type_in open_at t close_at) = said_type t

-- the place of a raw term: of a spine that of its head
abbrev pub place_of : RTm → ℕ
place_of (named n at) = at
place_of (numbered n at) = at
place_of (free_variable n a at) = at
place_of (meta n ts at) = at
place_of (lam x a t at) = at
place_of (spine h ts at) = at

abbrev pub join : RTms → RTms → RTms
join none us = us
join (more t ts) us = more t (join ts us)

-- application groups to the left: arguments behind a spine are further arguments of it
abbrev pub spined : RTm → RTms → RTm
spined h none = h
spined (spine h ts at) (more u us) = spine h (join ts (more u us)) at
spined h (more u us) = spine h (more u us) (place_of h)

abbrev mutual
  pub said_term : WTerm → RTm
  said_term (lambda at x x_at colon_at a dot_at t) = lam x (said_atype a) (said_term t) at
  said_term (atoms head rest) = spined (said_atom head) (said_atoms rest)

  pub said_atom : WAtom → RTm
  said_atom (plain_name n at) = named n at
  said_atom (number n at) = numbered n at
  said_atom (typed_variable n at colon_at a) = free_variable n (said_atype a) at
  said_atom (applied n at open_at t rest close_at) = meta n (more (said_term t) (said_terms rest)) at
  said_atom (term_in open_at t close_at) = said_term t

  pub said_atoms : WAtoms → RTms
  said_atoms no_atoms = none
  said_atoms (more_atoms u rest) = more (said_atom u) (said_atoms rest)

  pub said_terms : WTerms → RTms
  said_terms no_terms = none
  said_terms (more_terms comma_at t rest) = more (said_term t) (said_terms rest)

abbrev pub said_types : WTypes → RTys
said_types no_types = no_rtys
said_types (more_types comma_at t rest) = more_rtys (said_type t) (said_types rest)

abbrev pub said_brackets : WBrackets → RTys
said_brackets no_brackets = no_rtys
said_brackets (brackets open_at t rest close_at) = more_rtys (said_type t) (said_types rest)

abbrev pub said_meta : WMeta → RMeta
said_meta m = record { name = record { name = m.name; at = m.at }; args = said_brackets m.args; out = said_type m.result }

abbrev pub said_metas : WMetas → List RMeta
said_metas no_metas = []
said_metas (more_metas comma_at m rest) = said_meta m ∷ said_metas rest

abbrev pub said_declared : WDeclared → List RMeta
said_declared nothing = []
said_declared (declares m rest) = said_meta m ∷ said_metas rest

abbrev pub said_sort : WSort → RName
said_sort s = record { name = s.name; at = s.name_at }

abbrev pub said_fun : WFun → RFun
said_fun f = record { name = record { name = f.name; at = f.name_at }; kind = said_type f.kind }

abbrev pub said_rule : WRule → RRule
said_rule u = record { metas = said_declared u.metas; left = said_term u.left; right = said_term u.right; at = u.at }

abbrev pub said : WSystem → RParts
said s = record { sorts = map said_sort s.sorts; funs = map said_fun s.funs; rules = map said_rule s.rules }
