-- What a value of the program stands for: the tree without its pointers.
use Rattle.std.specs.Prelude.{List, [], ◌∷◌, map}
use Rattle.wh_types.specs.Erase.{ty, tys}
use Rattle.wh_terms.specs.Tree.{Tm, bound, free, fun, meta, lam, app, Tms, none, more}
use Rattle.wh_terms.specs.Typing.{Symbols, Declared}
use Rattle.wh_terms.specs.Rules.{RewriteRule}
use Rattle.wh_terms.specs.declared.term.Term.{Term, Row_of-Term, end_of-Term, more_of-Term}
use Rattle.wh_terms.specs.declared.term.Term.TheVariants.{Bound, Free, Fun, Meta', Lam', App'}
use Rattle.wh_terms.specs.declared.rule.Signature.{Signature}
use Rattle.wh_terms.specs.declared.rule.MetaDecl.{MetaDecl}
use Rattle.wh_terms.specs.declared.rule.Rule.{Rule}

-- the tree that a `Term` stands for, and the trees of its arguments
abbrev mutual
  pub tm : Term → Tm
  tm (Bound i) = bound i
  tm (Free x a) = free x (ty a)
  tm (Fun f) = fun f
  tm (Meta' z shape all) = meta z (row all)
  tm (Lam' a p t) = lam (ty a) (tm t)
  tm (App' p t q u) = app (tm t) (tm u)

  pub row : {m : _} → Row_of-Term m → Tms
  row end_of-Term = none
  row (more_of-Term t rest) = more (tm t) (row rest)

-- the trees that a list of `Term`s stands for
abbrev pub tms : List Term → Tms
tms [] = none
tms (t ∷ ts) = more (tm t) (tms ts)

-- what terms are built over
abbrev pub symbols : Signature → Symbols
symbols s = record { sorts = s.sorts; funs = tys s.funs }

-- a declared meta-variable
abbrev pub declared_meta : MetaDecl → Declared
declared_meta d = record { args = tys d.args; out = ty d.result }

abbrev pub declared_metas : List MetaDecl → List Declared
declared_metas = map declared_meta

-- a rewrite rule
abbrev pub rewrite_rule : Rule → RewriteRule
rewrite_rule r = record { metas = declared_metas r.metas; left = tm r.left; right = tm r.right }

abbrev pub rewrite_rules : List Rule → List RewriteRule
rewrite_rules = map rewrite_rule
