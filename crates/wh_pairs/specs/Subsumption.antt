-- Which candidates are pairs: those that no other candidate makes needless.
use Rattle.std.specs.Prelude.{ℕ, ◌≡◌, List, [], ◌∷◌, Contains, slice_get}
use Rattle.wh_terms.specs.Tree.{tms_of}
use Rattle.wh_terms.specs.Sight.{OccursIn}
use Rattle.wh_pairs.specs.PairData.{PairData}
use Rattle.wh_pairs.specs.Conditions.{AreAmong}

-- two candidates of one rule have equal sides: their right sides are the same trees, and each meta-variable that occurs
-- in these has the same type in both (ours)
pub record EqualSides (a b : PairData) : Type 0 where
  pub rule : a.rule ≡ b.rule
  pub symbol : a.right_fun ≡ b.right_fun
  pub arguments : a.right ≡ b.right
  pub types : (z : ℕ) → OccursIn z (tms_of a.right) → slice_get a.metas z ≡ slice_get b.metas z

-- a is subsumed by b: they have equal sides, and the conditions of b are among those of a (ours)
pub record IsSubsumed (a b : PairData) : Type 0 where
  pub sides : EqualSides a b
  pub conditions : AreAmong b.conditions a.conditions

-- the candidate c, which stands behind the candidates `before` and before the candidates `after`, is dropped: an
-- earlier one with equal sides has no conditions that c has not, or a later one with equal sides has a proper part of
-- its conditions (ours)
pub data IsDropped (before : List PairData) (c : PairData) (after : List PairData) : Type 0 where
  for_earlier : {b : PairData} → Contains before b → IsSubsumed c b → IsDropped before c after
  for_later : {b : PairData} → Contains after b → IsSubsumed c b → (AreAmong c.conditions b.conditions → ⊥) → IsDropped before c after

-- of the candidates `after`, which stand behind the candidates `before`, these are left: all that are not dropped, in
-- order
pub data AreLeft : List PairData → List PairData → List PairData → Type 0 where
  none_left : {before : List PairData} → AreLeft before [] []
  one_dropped : {before after pairs : List PairData} {c : PairData} → IsDropped before c after → AreLeft (c ∷ before) after pairs
      → AreLeft before (c ∷ after) pairs
  one_kept : {before after pairs : List PairData} {c : PairData} → (IsDropped before c after → ⊥) → AreLeft (c ∷ before) after pairs
      → AreLeft before (c ∷ after) (c ∷ pairs)

-- the pairs among the candidates: all that are not dropped, in order (ours)
abbrev pub ArePairs : List PairData → List PairData → Type 0
ArePairs candidates pairs = AreLeft [] candidates pairs
