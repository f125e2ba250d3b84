-- Rules and pairs whose sides gates are made for, and what is required of them.
use Rattle.std.specs.Prelude.{ℕ, ◌+◌, ◌<◌, ◌≡◌, nat_lt, true, Bool, List, Some, length, slice_get}
use Rattle.wh_sat_trail.specs.declared.literal.Literal.{Literal}
use Rattle.wh_terms.specs.Tree.{Tm, fun, spine}
use Rattle.wh_terms.specs.Rules.{RewriteRule}
use Rattle.wh_pairs.specs.PairData.{PairData}
use Rattle.wh_reduction_pairs.specs.TaskData.{TaskData}
use Rattle.wh_circuit.specs.declared.circuit.Circuit.{Circuit}
use Rattle.wh_circuit.specs.declared.circuit.Gate.{Gate}
use Rattle.wh_circuit.specs.Gates.{Agrees, Means}
use Rattle.wh_circuit.specs.State.{gates_of, required_of}
use Rattle.wh_circuit.specs.Values.{all_true}
use Rattle.wh_poly_flat.specs.Worth.{IsAtLeast, constant_of}
use Rattle.wh_poly_flat.specs.Dominance.{place_among, LetsGoBy}
use Rattle.wh_find_flat.specs.Lists.{lists_for}
use Rattle.wh_find_flat.specs.Plain.{ArePlainSides, stands_in}
use Rattle.wh_find_flat.specs.Numbers.{AreInputs}

-- two sides over `metas` meta-variables
pub record AreReady (metas : ℕ) (left right : Tm) : Type 0 where
  pub plain : ArePlainSides left right
  pub bounded : (z : ℕ) → stands_in z right ≡ true → z < metas

-- the two sides of a rule
abbrev pub IsReadyRule : RewriteRule → Type 0
IsReadyRule r = AreReady (length r.metas) r.left r.right

-- a marked symbol, whose number counts on from the first one, with its arguments
abbrev pub call_of : ℕ → List ℕ → ℕ → List Tm → Tm
call_of first marked f ts = spine (fun (first + place_among marked f)) ts

abbrev pub left_of : ℕ → List ℕ → PairData → Tm
left_of first marked p = call_of first marked p.left_fun p.left

abbrev pub right_of : ℕ → List ℕ → PairData → Tm
right_of first marked p = call_of first marked p.right_fun p.right

-- the two sides of a pair
abbrev pub IsReadyPair : ℕ → List ℕ → PairData → Type 0
IsReadyPair first marked p = AreReady (length p.metas) (left_of first marked p) (right_of first marked p)

-- the left side of the rule at this place of the list is at least the right one
abbrev pub RuleHolds : List ℕ → List RewriteRule → List ℕ → (ℕ → Bool) → ℕ → Type 0
RuleHolds sizes rules listed v k =
    (n : ℕ) (r : RewriteRule) → slice_get listed k ≡ Some n → slice_get rules n ≡ Some r → IsAtLeast (lists_for sizes v) r.left r.right

-- the left side of the pair at this place of the set is at least its right side
abbrev pub PairHolds : List ℕ → ℕ → List ℕ → List PairData → List ℕ → (ℕ → Bool) → ℕ → Type 0
PairHolds sizes first marked pairs set v k =
    (n : ℕ) (p : PairData) → slice_get set k ≡ Some n → slice_get pairs n ≡ Some p
    → IsAtLeast (lists_for sizes v) (left_of first marked p) (right_of first marked p)

-- the wire is true exactly where the constant of the left side of the pair at this place is greater
abbrev pub TellsGreater : List ℕ → ℕ → List ℕ → List PairData → List ℕ → List Gate → ℕ → Literal → Type 0
TellsGreater sizes first marked pairs set gates k w =
    (n : ℕ) (p : PairData) → slice_get set k ≡ Some n → slice_get pairs n ≡ Some p
    → Means gates w (λ v. nat_lt (constant_of (lists_for sizes v) (right_of first marked p))
    (constant_of (lists_for sizes v) (left_of first marked p)))

-- there is such a wire for each pair of the set
pub record AreGreater (sizes : List ℕ) (first : ℕ) (marked : List ℕ) (pairs : List PairData) (set : List ℕ) (gates : List Gate)
    (wires : List Literal) : Type 0 where
  pub count : length wires ≡ length set
  pub each : (k : ℕ) (w : Literal) → slice_get wires k ≡ Some w → TellsGreater sizes first marked pairs set gates k w

-- the inputs are the bits of coefficients, and what is required is that these let a pair of the set go
pub record IsFlatCircuit (sizes : List ℕ) (T : TaskData) (marked : List ℕ) (bits : ℕ) (circuit : Circuit) : Type 0 where
  pub inputs : AreInputs bits (gates_of circuit)
  pub met : (v : ℕ → Bool) → Agrees (gates_of circuit) v → all_true v (required_of circuit) ≡ true → LetsGoBy T marked (lists_for sizes v)
  pub asks : (v : ℕ → Bool) → Agrees (gates_of circuit) v → LetsGoBy T marked (lists_for sizes v) → all_true v (required_of circuit) ≡ true
