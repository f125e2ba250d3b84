-- Sides of rules and of pairs as expressions in the scope of their meta-variables, and when moves cover them.
use Rattle.std.specs.Prelude.{ℕ, suc, ◌-◌, List, [], ◌∷◌, ◌++◌, length, ◌≡◌, Some, slice_get, Contains}
use Rattle.wh_types.specs.Ty.{Ty, ◌⇒◌}
use Rattle.wh_terms.specs.Tree.{Tm, bound, free, fun, meta, lam, app, Tms, none, more}
use Rattle.wh_terms.specs.Typing.{Symbols, Declared}
use Rattle.wh_terms.specs.Rules.{RewriteRule}
use Rattle.wh_poly.specs.Polynomials.{Polynomial}
use Rattle.wh_hopoly.specs.Evaluation.{Expression, var, symbol, lambda, apply, Interpretation, evaluate, Norm, Values}
use Rattle.wh_hopoly.specs.Moves.{Transfer, IsCover}

-- the type of functions of arguments of the types, in order, to the last one (Kop 2012)
abbrev pub arrows : List Ty → Ty → Ty
arrows [] a = a
arrows (c ∷ cs) a = c ⇒ arrows cs a

-- the types of meta-variables, each a function of its arguments (ours)
abbrev pub types_of_metas : List Declared → List Ty
types_of_metas [] = []
types_of_metas (d ∷ M) = arrows d.args d.out ∷ types_of_metas M

-- the scope of a side below binders: the rule's meta-variables, then the binders from the outside; the binders' types
-- are listed nearest first (ours)
abbrev pub side_scope : List Declared → List Ty → List Ty
side_scope M [] = types_of_metas M
side_scope M (a ∷ Γ) = side_scope M Γ ++ a ∷ []

abbrev mutual
  -- a side as an expression in a scope of length n: a meta-variable is a variable, applied to its arguments in turn,
  -- and `bound i` is variable n - 1 - i; a side has no free variable (ours)
  pub side : ℕ → Tm → Expression
  side n (bound i) = var (n - 1 - i)
  side n (free x a) = var n
  side n (fun f) = symbol f
  side n (meta z ts) = side_applied n (var z) ts
  side n (lam a t) = lambda a (side (suc n) t)
  side n (app t u) = apply (side n t) (side n u)

  -- an expression applied to trees in turn (ours)
  pub side_applied : ℕ → Expression → Tms → Expression
  side_applied n e none = e
  side_applied n e (more t ts) = side_applied n (apply e (side n t)) ts

-- a side of a rule as an expression (ours)
abbrev pub side_expression : List Declared → Tm → Expression
side_expression M t = side (length (types_of_metas M)) t

-- a marked side as an expression: the marked symbol, whose number is k, applied to the arguments (ours)
abbrev pub marked_expression : List Declared → ℕ → Tms → Expression
marked_expression M k ts = side_applied (length (types_of_metas M)) (symbol k) ts

-- the polynomial of a side in the scope of its meta-variables and of its type's arguments (Fuhs and Kop 2012)
abbrev pub side_polynomial : List Interpretation → List Declared → Tm → Polynomial
side_polynomial symbols M t = (evaluate symbols (types_of_metas M) (side_expression M t)).result

-- the polynomial of a marked side in the scope of its meta-variables (Fuhs and Kop 2012)
abbrev pub call_polynomial : List Interpretation → List Declared → ℕ → Tms → Polynomial
call_polynomial symbols M k ts = (evaluate symbols (types_of_metas M) (marked_expression M k ts)).result

-- the symbol has an interpretation of this type (Fuhs and Kop 2012)
abbrev pub IsInterpretedAs : List Interpretation → ℕ → Ty → Type 0
IsInterpretedAs symbols f a = (s : Interpretation) × slice_get symbols f ≡ Some s × s.kind ≡ a

-- each symbol has an interpretation of its type (Fuhs and Kop 2012)
abbrev pub Interprets : Symbols → List Interpretation → Type 0
Interprets S symbols = (f : ℕ) (a : Ty) → slice_get S.funs f ≡ Some a → IsInterpretedAs symbols f a

-- moves show that the polynomial of the left side is at least that of the right side (Fuhs and Kop 2012)
abbrev pub RuleIsCovered : List Interpretation → RewriteRule → Type 0
RuleIsCovered symbols r =
    (ms : List Transfer) × IsCover (side_polynomial symbols r.metas r.left) (side_polynomial symbols r.metas r.right) ms

-- moves show for every rule that its left side is at least its right side
abbrev pub RulesAreCovered : List Interpretation → List RewriteRule → Type 0
RulesAreCovered symbols rules = (r : RewriteRule) → Contains rules r → RuleIsCovered symbols r

-- p is the normal form of a side (Fuhs and Kop 2012), and w one of the values on the way to it (ours)
abbrev pub IsNormOfSide : List Interpretation → List Declared → Tm → Polynomial → Type 0
IsNormOfSide symbols M t p = Norm symbols (types_of_metas M) (side_expression M t) p

abbrev pub IsValueOfSide : List Interpretation → List Declared → Tm → Polynomial → Type 0
IsValueOfSide symbols M t w = Values symbols (types_of_metas M) (side_expression M t) w
