-- The root of a meta-term, and the meta-terms whose root nothing changes.
use Rattle.std.specs.Prelude.{ℕ, zero, ◌<◌, ◌≡◌, List, Option, Some, None}
use Rattle.wh_terms.specs.Tree.{Tm, bound, fun, lam, head, argument_count}
use Rattle.wh_terms.specs.Rules.{RewriteRule}
use Rattle.wh_system.specs.Needs.{need_of}

-- a root is an abstraction, or a bound variable with its number of arguments, or a symbol with its number of arguments
-- (Fuhs and Kop 2019)
pub data Root : Type 0 where
  abstraction : Root
  variable : (i n : ℕ) → Root
  symbol : (f n : ℕ) → Root

-- the root of a spine with this head and n arguments. An abstraction that is applied has none, since a step makes
-- anything of it; nor has a meta-application, since anything may stand for it, nor a free variable.
abbrev pub root_at : Tm → ℕ → Option Root
root_at (lam a t) zero = Some abstraction
root_at (bound i) n = Some (variable i n)
root_at (fun f) n = Some (symbol f n)
root_at _ _ = None

-- the root of a meta-term
abbrev pub root : Tm → Option Root
root t = root_at (head t) (argument_count t)

-- for the rules, of which those of one symbol need as many arguments, n are too few; where there are no rules, any
-- number is
abbrev pub TooFew : Option ℕ → ℕ → Type 0
TooFew None n = Unit {0}
TooFew (Some need) n = n < need

-- a symbol is fixed where its rules do not apply, an abstraction and a bound variable always
abbrev pub IsFixed : List RewriteRule → Root → Type 0
IsFixed rules abstraction = Unit {0}
IsFixed rules (variable i n) = Unit {0}
IsFixed rules (symbol f n) = TooFew (need_of rules f) n

-- a meta-term is rigid if it is an abstraction without arguments, or a spine headed by a bound variable, by a symbol
-- without rules or by a symbol with fewer arguments than its rules need (Fuhs and Kop 2019; the form is ours)
abbrev pub Rigid : List RewriteRule → Tm → Type 0
Rigid rules q = (r : Root) × (root q ≡ Some r) × IsFixed rules r

-- an abstraction, one without arguments
abbrev pub IsAbstraction : Tm → Type 0
IsAbstraction (lam a t) = Unit {0}
IsAbstraction _ = ⊥

-- two meta-terms have one root
abbrev pub SameRoot : Tm → Tm → Type 0
SameRoot q p = (r : Root) × (root q ≡ Some r) × (root p ≡ Some r)

-- a bound variable or a symbol
abbrev pub IsNamed : Tm → Type 0
IsNamed (bound i) = Unit {0}
IsNamed (fun f) = Unit {0}
IsNamed _ = ⊥

-- two spines have one head, a bound variable or a symbol, and as many arguments
abbrev pub SameNames : Tm → Tm → Type 0
SameNames q p = IsNamed (head q) × (head q ≡ head p) × (argument_count q ≡ argument_count p)
