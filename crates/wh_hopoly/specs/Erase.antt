-- What a value of the program stands for: the tree without its pointers.
use Rattle.std.specs.Prelude.{List, map}
use Rattle.wh_types.specs.Erase.{ty}
use Rattle.wh_poly.specs.Erase.{poly}
use Rattle.wh_hopoly.specs.Moves.{Transfer}
use Rattle.wh_hopoly.specs.Evaluation.{Expression, var, symbol, lambda, apply, Interpretation}
use Rattle.wh_hopoly.specs.declared.expression.Expr.{Expr}
use Rattle.wh_hopoly.specs.declared.expression.Expr.TheVariants.{Var, Sym, Lam', App'}
use Rattle.wh_hopoly.specs.declared.expression.Symbol.{Symbol}
use Rattle.wh_hopoly.specs.declared.expression.Move.{Move}

-- the expression that an `Expr` stands for
abbrev pub expression : Expr → Expression
expression (Var x) = var x
expression (Sym f) = symbol f
expression (Lam' a p e) = lambda (ty a) (expression e)
expression (App' p e q d) = apply (expression e) (expression d)

-- the interpretation that a `Symbol` stands for
abbrev pub interpretation : Symbol → Interpretation
interpretation s = record { kind = ty s.kind; polynomial = poly s.poly }

abbrev pub interpretations : List Symbol → List Interpretation
interpretations = map interpretation

-- the transfer that a `Move` stands for
abbrev pub transfer : Move → Transfer
transfer m = record { from = m.from; to = m.to; amount = m.amount }

abbrev pub transfers : List Move → List Transfer
transfers = map transfer
