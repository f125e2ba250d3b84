-- Measures of calls: lists of numbers that no step raises and that pairs lower, and what they are at each kind of node.
use Rattle.std.specs.Prelude.{ℕ, ◌≡◌, ◌⊎◌, List, [], ◌∷◌, length}
use Rattle.wh_terms.specs.Tree.{Tm}
use Rattle.wh_terms.specs.Typing.{Symbols}
use Rattle.wh_terms.specs.Rules.{RewriteRule}
use Rattle.wh_step.specs.Step.{Step}
use Rattle.wh_pairs.specs.PairData.{PairData}
use Rattle.wh_pairs.specs.Sets.{InSet}
use Rattle.wh_subterm.specs.Projections.{Chosen, IsProjected}
use Rattle.wh_polycheck.specs.Readings.{ReadingsData}
use Rattle.wh_poly_meaning.specs.PairCovers.{worth_of}
use Rattle.wh_proof_calls.specs.MarkedCalls.{MarkedCall, PairLeads, ArgumentsStep}
use Rattle.wh_law_projection.specs.LongestSequences.{IsProjectedLength, IsBoundedCall}
use Rattle.wh_law_values.specs.Values.{IsCallNumber}
use Rattle.wh_law_measures.specs.Lexicographic.{IsLess, IsNotMore}
use Rattle.wh_law_measures.specs.Reaching.{CanReachSome}

-- a list of numbers for each typed call whose arguments are bounded
abbrev pub Measure : Symbols → List RewriteRule → Type 0
Measure S rules = (c : MarkedCall) → IsBoundedCall S rules c → List ℕ

-- no step in an argument of a call raises its list, and each pair of the set lowers it (Kop 2012; the form is ours)
pub record Measures (S : Symbols) (rules : List RewriteRule) (pairs : List PairData) (set : List ℕ) (f : Measure S rules) : Type 0 where
  pub no_step_raises : (c d : MarkedCall) (good : IsBoundedCall S rules c) (also : IsBoundedCall S rules d) → ArgumentsStep (Step rules) c d
      → IsNotMore (f d also) (f c good)
  pub each_pair_lowers : (p : PairData) (c d : MarkedCall) (good : IsBoundedCall S rules c) (also : IsBoundedCall S rules d) → InSet pairs set p
      → PairLeads S p c d → IsLess (f d also) (f c good)

-- there is a measure for each of the sets, one after another
abbrev pub EachMeasures : (S : Symbols) (rules : List RewriteRule) (pairs : List PairData) → List (List ℕ) → List (Measure S rules) → Type 0
EachMeasures S rules pairs [] [] = Unit {0}
EachMeasures S rules pairs (set ∷ sets) (f ∷ fs) = Measures S rules pairs set f × EachMeasures S rules pairs sets fs
EachMeasures S rules pairs _ _ = ⊥

-- n is 1 where P holds, else 0
abbrev pub IsOneOrZero : Type 0 → ℕ → Type 0
IsOneOrZero P n = (P × (n ≡ 1)) ⊎ ((P → ⊥) × (n ≡ 0))

-- a node `alone` with the pair number a: 1 where the call can still reach the pair, else 0
abbrev pub IsAloneMeasure : (S : Symbols) (rules : List RewriteRule) → List PairData → ℕ → Measure S rules → Type 0
IsAloneMeasure S rules pairs a f = (c : MarkedCall) (good : IsBoundedCall S rules c)
    → (n : ℕ) × IsOneOrZero (CanReachSome rules pairs (a ∷ []) c) n × (f c good ≡ n ∷ [])

-- the length of the longest sequence of steps and direct subterms from the projected argument; 0 where the projection
-- chooses none of the call's arguments, as it may where the symbol heads no side of a pair of the set
abbrev pub IsSubtermNumber : List RewriteRule → List Chosen → MarkedCall → ℕ → Type 0
IsSubtermNumber rules args c n = IsProjectedLength rules args c n ⊎ (((t : Tm) → IsProjected args c.symbol c.arguments t → ⊥) × (n ≡ 0))

-- a node `subterm` with these choices: that length, and behind it the list by the node's child
abbrev pub IsSubtermMeasure : (S : Symbols) (rules : List RewriteRule) → List Chosen → (child f : Measure S rules) → Type 0
IsSubtermMeasure S rules args child f = (c : MarkedCall) (good : IsBoundedCall S rules c)
    → (n : ℕ) × IsSubtermNumber rules args c n × (f c good ≡ n ∷ child c good)

-- The number of blocks from the first one on that has a pair whose left side the call can still reach, and behind it
-- the list by that block's child; 0 alone where there is no such block.
abbrev pub IsBlocksList : (S : Symbols) (rules : List RewriteRule) → List PairData → List (List ℕ) → List (Measure S rules)
    → (c : MarkedCall) → IsBoundedCall S rules c → List ℕ → Type 0
IsBlocksList S rules pairs [] children c good l = l ≡ 0 ∷ []
IsBlocksList S rules pairs (part ∷ parts) [] c good l = ⊥
IsBlocksList S rules pairs (part ∷ parts) (child ∷ children) c good l =
    (CanReachSome rules pairs part c × (l ≡ length (part ∷ parts) ∷ child c good))
    ⊎ ((CanReachSome rules pairs part c → ⊥) × IsBlocksList S rules pairs parts children c good l)

-- a node `blocks` with these blocks, each of which has a child
abbrev pub IsBlocksMeasure : (S : Symbols) (rules : List RewriteRule) → List PairData → List (List ℕ) → List (Measure S rules)
    → Measure S rules → Type 0
IsBlocksMeasure S rules pairs parts children f = (c : MarkedCall) (good : IsBoundedCall S rules c)
    → IsBlocksList S rules pairs parts children c good (f c good)

-- a node `poly` that covers all rules: what the call is worth by the interpretations, with free variables read as 0,
-- and behind it the list by the node's child
abbrev pub IsPolyMeasure : (S : Symbols) (rules : List RewriteRule) → ReadingsData → (child f : Measure S rules) → Type 0
IsPolyMeasure S rules R child f = (c : MarkedCall) (good : IsBoundedCall S rules c) → f c good ≡ worth_of S rules R c ∷ child c good

-- a node `poly` that covers only listed rules: the number of the call, what the interpretation gives at the values of
-- its arguments, and behind it the list by the node's child
abbrev pub IsListedMeasure : (S : Symbols) (rules : List RewriteRule) → List ℕ → ReadingsData → (child f : Measure S rules) → Type 0
IsListedMeasure S rules listed R child f = (c : MarkedCall) (good : IsBoundedCall S rules c)
    → (n : ℕ) × IsCallNumber S rules listed R c n × (f c good ≡ n ∷ child c good)
