-- Marked calls: defined symbols with the arguments that their rules need, and what leads from one to another.
use Rattle.std.specs.Prelude.{ℕ, ◌≡◌, ◌⊎◌, List, [], ◌++◌, Some, slice_get, take}
use Rattle.std.specs.List.{AllByRecursion}
use Rattle.wh_types.specs.Ty.{Ty, arguments}
use Rattle.wh_terms.specs.Tree.{Tm, tms_of}
use Rattle.wh_terms.specs.Typing.{Symbols, Declared, AllTyped}
use Rattle.wh_terms.specs.Sight.{OccursIn}
use Rattle.wh_terms.specs.Value.{Body, Values}
use Rattle.wh_terms.specs.TypedBodies.{FitsDeclared}
use Rattle.wh_terms.specs.Rules.{RewriteRule}
use Rattle.wh_system.specs.Needs.{need_of}
use Rattle.wh_pairs.specs.PairData.{PairData}
use Rattle.wh_step_laws.specs.Ends.{Ends, StepsIn}

-- a marked symbol with its arguments (Kop 2012; Fuhs and Kop 2019)
pub record MarkedCall : Type 0 where
  pub symbol : ℕ
  pub arguments : List Tm

-- the arguments have the first types that the symbol takes, as many as its rules need (ours)
pub record IsTypedCall (S : Symbols) (rules : List RewriteRule) (c : MarkedCall) : Type 0 where
  pub kind : Ty
  pub need : ℕ
  pub known : slice_get S.funs c.symbol ≡ Some kind
  pub needed : need_of rules c.symbol ≡ Some need
  pub typed : AllTyped S [] [] (tms_of c.arguments) (take need (arguments kind))

-- each meta-variable that occurs in a side of the pair has a body of the type that it is declared with (ours)
abbrev pub AreTypedBodies : Symbols → PairData → (ℕ → Body) → Type 0
AreTypedBodies S p g = (z : ℕ) (d : Declared) → OccursIn z (tms_of (p.left ++ p.right)) → slice_get p.metas z ≡ Some d
    → FitsDeclared S [] [] d (g z)

-- the pair leads from c to d: these are the values of its sides under one meta-substitution, with bodies of the
-- declared types (Kop 2012; Fuhs and Kop 2019)
pub record PairLeads (S : Symbols) (p : PairData) (c d : MarkedCall) : Type 0 where
  pub bodies : ℕ → Body
  pub typed_bodies : AreTypedBodies S p bodies
  pub left_symbol : c.symbol ≡ p.left_fun
  pub left : Values bodies (tms_of p.left) (tms_of c.arguments)
  pub right_symbol : d.symbol ≡ p.right_fun
  pub right : Values bodies (tms_of p.right) (tms_of d.arguments)

-- the pair leads from c to d, and the arguments of d end by the steps R (Fuhs and Kop 2019, the minimal chains)
pub record PairStep (S : Symbols) (R : Tm → Tm → Type 0) (p : PairData) (c d : MarkedCall) : Type 0 where
  pub leads : PairLeads S p c d
  pub minimal : AllByRecursion (Ends R) d.arguments

-- one argument of c steps by R, and d is the result
pub record ArgumentsStep (R : Tm → Tm → Type 0) (c d : MarkedCall) : Type 0 where
  pub symbol : d.symbol ≡ c.symbol
  pub arguments : StepsIn R c.arguments d.arguments

-- some pair of which P holds leads from c to d
abbrev pub SomePairStep : Symbols → (Tm → Tm → Type 0) → (PairData → Type 0) → MarkedCall → MarkedCall → Type 0
SomePairStep S R P c d = (p : PairData) × P p × PairStep S R p c d

-- the call c leads to the call d, by a step in an argument or by a pair of which P holds. Both are typed, since what a
-- term is worth under interpretations belongs to a typed term.
pub record CallStep (S : Symbols) (rules : List RewriteRule) (R : Tm → Tm → Type 0) (P : PairData → Type 0)
    (c d : MarkedCall) : Type 0 where
  pub from_typed : IsTypedCall S rules c
  pub to_typed : IsTypedCall S rules d
  pub leads : ArgumentsStep R c d ⊎ SomePairStep S R P c d

-- a call whose arguments end by the steps R leads to no endless sequence of calls by the pairs of which P holds (ours)
abbrev pub CallsEnd : Symbols → List RewriteRule → (Tm → Tm → Type 0) → (PairData → Type 0) → Type 0
CallsEnd S rules R P = (c : MarkedCall) → AllByRecursion (Ends R) c.arguments → Ends (CallStep S rules R P) c
