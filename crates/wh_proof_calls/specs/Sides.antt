-- Right sides of rules: when their calls are computable, and what leads from one marked call to another by a call and
-- by a pair.
use Rattle.std.specs.Prelude.{ℕ, ◌≡◌, ◌-◌, List, [], ◌++◌, length, map, take, Contains, Some, slice_get}
use Rattle.wh_types.specs.Ty.{Ty}
use Rattle.wh_terms.specs.Tree.{Tm, free, fun, head, spine, tms_of}
use Rattle.wh_terms.specs.Substitution.{act}
use Rattle.wh_terms.specs.Sight.{Occurs}
use Rattle.wh_terms.specs.Typing.{Symbols, Declared, Typed, AllTyped}
use Rattle.wh_terms.specs.Value.{Body, Values}
use Rattle.wh_terms.specs.TypedBodies.{TypedBodies}
use Rattle.wh_terms.specs.Rules.{RewriteRule}
use Rattle.wh_pairs.specs.PairData.{PairData}
use Rattle.wh_step_laws.specs.Computable.{Computable, ComputableList}
use Rattle.wh_pairs.specs.Spines.{spine_arguments, symbol_of}
use Rattle.wh_pairs.specs.Calls.{Call}
use Rattle.wh_pairs.specs.Candidates.{missing_types}
use Rattle.wh_proof_calls.specs.MarkedCalls.{MarkedCall, PairLeads}
use Rattle.wh_proof_calls.specs.Bodies.{IsComputableBody}

-- the meta-variables of the right side have computable bodies (Fuhs and Kop 2019)
abbrev pub HasComputableBodies : Symbols → (ℕ → ℕ) → (Tm → Tm → Type 0) → RewriteRule → (ℕ → Body) → Type 0
HasComputableBodies S rank R r g =
    (z : ℕ) (q : Declared) → Occurs z r.right → slice_get r.metas z ≡ Some q → IsComputableBody S rank R q (g z)

-- a call is computable under g if its symbol with its arguments is computable where these are and it is well typed: the
-- arguments take their values under g, and any computable terms stand for the binders around the call (Fuhs and Kop
-- 2019)
abbrev pub IsComputableUnder : Symbols → (ℕ → ℕ) → (Tm → Tm → Type 0) → (ℕ → Body) → Call → Type 0
IsComputableUnder S rank R g c = (τ : ℕ → Tm) (vs : List Tm) (cs : List Ty) (b : Ty)
    → ((i : ℕ) (a : Ty) → slice_get c.binders i ≡ Some a → Computable S rank R a (τ i))
    → Values g (tms_of c.arguments) (tms_of vs) → ComputableList S rank R cs (map (act τ free) vs)
    → Typed S [] [] (spine (fun c.symbol) (map (act τ free) vs)) b → Computable S rank R b (spine (fun c.symbol) (map (act τ free) vs))

-- the rule leads from the marked call `from` to `to` by a call of its right side: from the value of the left side to
-- the value of that call. For the binders around the call there are well-typed terms; the call gets as many arguments
-- as the rules of its symbol have, and any well-typed terms for those that it lacks (Kop 2012; Fuhs and Kop 2019)
pub record IsLedByCall (S : Symbols) (r : RewriteRule) (c : Call) (from to : MarkedCall) : Type 0 where
  pub bodies : ℕ → Body
  pub typed_bodies : TypedBodies S r.metas [] [] bodies r.left
  pub left_symbol : from.symbol ≡ symbol_of (head r.left)
  pub left : Values bodies (tms_of (spine_arguments r.left)) (tms_of from.arguments)
  pub right_symbol : to.symbol ≡ c.symbol
  -- the values of the call's arguments, below its binders
  pub given : List Tm
  pub right : Values bodies (tms_of c.arguments) (tms_of given)
  -- a term for each binder, the nearest first
  pub for_binders : ℕ → Tm
  pub typed_binders : (i : ℕ) (a : Ty) → slice_get c.binders i ≡ Some a → Typed S [] [] (for_binders i) a
  -- a term for each argument that the call lacks
  pub further : List Tm
  pub typed_further : AllTyped S [] [] (tms_of further) (missing_types S c)
  pub enough : length further ≡ c.need - length c.arguments
  pub arguments : to.arguments ≡ take c.need (map (act for_binders free) given) ++ further

-- one of the pairs leads from the marked call `from` to `to`
abbrev pub IsLedByPair : Symbols → List PairData → MarkedCall → MarkedCall → Type 0
IsLedByPair S pairs from to = (p : PairData) × Contains pairs p × PairLeads S p from to
