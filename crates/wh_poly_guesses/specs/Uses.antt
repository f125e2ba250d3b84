-- The symbols that stand on the sides of a rule or of a pair, as the program lists them.
use Rattle.std.specs.Prelude.{ℕ, ◌+◌, ◌≡◌, ◌⊎◌, ◌↔◌, List, Some, length, Contains, slice_get}
use Rattle.wh_terms.specs.Rules.{RewriteRule}
use Rattle.wh_pairs.specs.PairData.{PairData}
use Rattle.wh_pairs.specs.Marked.{HeadsASide}
use Rattle.wh_reduction_pairs.specs.TaskData.{TaskData}
use Rattle.wh_poly_guesses.specs.Conditions.{Condition, IsCondition, UsesNumber, HasSymbol, StandsInPair}
use Rattle.wh_poly_guesses.specs.declared.uses.Uses.{Uses}

-- the numbers of which P holds join the list
abbrev pub Joins : (ℕ → Type 0) → List ℕ → List ℕ → Type 0
Joins P old new = (n : ℕ) → Contains new n ↔ (Contains old n ⊎ P n)

-- the list has the numbers of which P holds, and no others
abbrev pub ListsAll : (ℕ → Type 0) → List ℕ → Type 0
ListsAll P numbers = (n : ℕ) → Contains numbers n ↔ P n

-- the two lists have together the numbers of which P holds
abbrev pub UsesAll : (ℕ → Type 0) → Uses → Type 0
UsesAll P r = (n : ℕ) → (Contains r.left.items n ⊎ Contains r.right.items n) ↔ P n

-- the symbol stands in a side of the rule
abbrev pub StandsInRule : ℕ → RewriteRule → Type 0
StandsInRule f r = HasSymbol f r.left ⊎ HasSymbol f r.right

-- the number is that of a marked symbol that heads a side of the pair, counted from `first` on
abbrev pub IsMarkOf : ℕ → List ℕ → PairData → ℕ → Type 0
IsMarkOf first marked p n = (i f : ℕ) × (n ≡ first + i) × (slice_get marked i ≡ Some f) × HeadsASide f p

-- for each rule that is to be covered there is a list of the symbols on its sides
pub record AreRuleUses (rules : List RewriteRule) (covered : List ℕ) (uses : List Uses) : Type 0 where
  pub count : length uses ≡ length covered
  pub each : (k n : ℕ) (r : RewriteRule) (u : Uses) → slice_get covered k ≡ Some n → slice_get rules n ≡ Some r
      → slice_get uses k ≡ Some u
      → UsesAll (λ m. StandsInRule m r) u

-- for each pair of the set there is a list of the symbols and marked symbols on its sides
pub record ArePairUses (first : ℕ) (marked : List ℕ) (pairs : List PairData) (set : List ℕ) (uses : List Uses) : Type 0 where
  pub count : length uses ≡ length set
  pub each : (i n : ℕ) (p : PairData) (u : Uses) → slice_get set i ≡ Some n → slice_get pairs n ≡ Some p
      → slice_get uses i ≡ Some u
      → UsesAll (λ m. StandsInPair m p ⊎ IsMarkOf first marked p m) u

-- the two lists have together the numbers of all that is used in the condition
abbrev pub AreUsesIn : TaskData → List ℕ → Condition → Uses → Type 0
AreUsesIn T marked c = UsesAll (UsesNumber T marked c)

-- for each rule that is to be covered, and behind these for each pair of the set, there is a list of the symbols and
-- marked symbols on its sides
pub record AreAllUses (T : TaskData) (marked : List ℕ) (uses : List Uses) : Type 0 where
  pub count : length uses ≡ length T.covered + length T.set
  pub each : (k : ℕ) (c : Condition) (u : Uses) → IsCondition T k c → slice_get uses k ≡ Some u → AreUsesIn T marked c u
