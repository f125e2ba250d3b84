-- Relations that may stand at the root of a step: the rules of a system, or a path order.
use Rattle.std.specs.Prelude.{ℕ, ◌≡◌, List, Contains, Some, slice_get}
use Rattle.wh_types.specs.Ty.{Ty, SortsBelow}
use Rattle.wh_terms.specs.Tree.{Tm, fun, head, argument_count}
use Rattle.wh_terms.specs.Typing.{Symbols}
use Rattle.wh_terms.specs.Value.{Body, Value}
use Rattle.wh_terms.specs.Rules.{RewriteRule}
use Rattle.wh_terms.specs.StepOver.{IsKept, KeepsTypes}

-- the sorts in the type of each symbol are sorts of S. The laws of computability need it: they take a variable of each
-- type in sight.
abbrev pub KnowsSorts : Symbols → Type 0
KnowsSorts S = (f : ℕ) (a : Ty) → slice_get S.funs f ≡ Some a → SortsBelow S.sorts a

-- a relation that keeps types, is kept by substitution of terms, and relates nothing but symbols with arguments, as
-- many as its symbol always has (ours)
pub record IsRoot (S : Symbols) (R : Tm → Tm → Type 0) : Type 0 where
  pub kept : IsKept R
  pub typed : KeepsTypes S R
  pub headed : (t u : Tm) → R t u → (f : ℕ) × (head t ≡ fun f)
  pub even : (t t' u u' : Tm) → R t u → R t' u' → head t ≡ head t' → argument_count t ≡ argument_count t'

-- t and u are the values of the two sides of a rule (Fuhs and Kop 2019)
pub data RuleRoot (rules : List RewriteRule) : Tm → Tm → Type 0 where
  rule_root : {t u : Tm} (r : RewriteRule) (g : ℕ → Body) → Contains rules r → Value g r.left t → Value g r.right u → RuleRoot rules t u

-- the symbol f heads the left side of no rule
abbrev pub HeadsNoRule : List RewriteRule → ℕ → Type 0
HeadsNoRule rules f = (r : RewriteRule) → Contains rules r → head r.left ≡ fun f → ⊥
