-- The orders that are tried for a set of pairs, and which pairs they let go. An order is given by argument filters with
-- precedences of all symbols and of the marked symbols of the set.
use Rattle.std.specs.Prelude.{ℕ, ◌+◌, ◌≡◌, ◌<◌, List, Some, All, Contains, length, slice_get}
use Rattle.wh_terms.specs.Rules.{RewriteRule}
use Rattle.wh_pairs.specs.PairData.{PairData}
use Rattle.wh_reduction_pairs.specs.TaskData.{TaskData}
use Rattle.wh_order_inference.specs.FilterText.{WrittenFilter, keeps, picks}
use Rattle.wh_order_node.specs.Filterings.{FilteringData, AreFiltersFor, AreProperSymbols, AreProperMarks}
use Rattle.wh_order_node.specs.Ordering.{AreNarrow}
use Rattle.wh_order_lines.specs.Oriented.{OrientsRule, OrientsPair, OrientsStrictly, MeetsRule, MeetsPair, MeetsStrictly}
use Rattle.wh_poly_guesses.specs.Conditions.{Condition, covers_rule, covers_pair, some_strictly}

-- how many symbols there are, the marked symbols of the set among them
abbrev pub symbol_count : TaskData → List ℕ → ℕ
symbol_count T marked = length T.symbols.funs + length marked

-- the precedence that the filter gives, if it gives one, is below n
abbrev pub IsLow : ℕ → WrittenFilter → Type 0
IsLow n (keeps prec places) = prec < n
IsLow n (picks place) = Unit {0}

-- the order is one that is tried (ours): it has a proper filter for each symbol and each marked symbol of the set, and
-- a precedence below the number of these together; and no side, with all its arguments, is too wide
pub record IsOfSpace (T : TaskData) (D : FilteringData) : Type 0 where
  pub filters : AreFiltersFor T D
  pub symbols : AreProperSymbols T.symbols D
  pub marks : AreProperMarks T.symbols T.rules D
  pub symbols_low : All (IsLow (length D.symbols + length D.marks)) D.symbols
  pub marks_low : All (λ m. IsLow (length D.symbols + length D.marks) m.filter) D.marks
  pub narrow : AreNarrow T

module _ (T : TaskData) (D : FilteringData) where
  -- the condition holds under the order (ours)
  abbrev pub Meets : Condition → Type 0
  Meets (covers_rule r) = MeetsRule T.symbols T.rules D r
  Meets (covers_pair p) = MeetsPair T.symbols T.rules D p
  Meets some_strictly = (n : ℕ) × (p : PairData) × Contains T.set n × (slice_get T.pairs n ≡ Some p) × MeetsStrictly T.symbols T.rules D p

  -- the order lets the pair with this number go: the lines of all rules and of all pairs of the set can be made good,
  -- and the line of this pair without being that of equal trees (ours)
  pub record LetsGo (n : ℕ) : Type 0 where
    pub rules : (k : ℕ) (r : RewriteRule) → Contains T.covered k → slice_get T.rules k ≡ Some r → OrientsRule T.symbols T.rules D r
    pub pairs : (k : ℕ) (p : PairData) → Contains T.set k → slice_get T.pairs k ≡ Some p → OrientsPair T.symbols T.rules D p
    pub pair : PairData
    pub in_set : Contains T.set n
    pub is : slice_get T.pairs n ≡ Some pair
    pub strictly : OrientsStrictly T.symbols T.rules D pair

-- no order that is tried lets a pair of the set go (ours)
abbrev pub HasNoOrder : TaskData → Type 0
HasNoOrder T = (D : FilteringData) → IsOfSpace T D → (n : ℕ) → LetsGo T D n → ⊥
