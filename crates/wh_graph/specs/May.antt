-- `May`: one dependency pair may follow another. These are the edges of the dependency graph.
use Rattle.std.specs.Prelude.{ℕ, ◌≡◌, List, Some, slice_get}
use Rattle.wh_terms.specs.Tree.{Tm}
use Rattle.wh_terms.specs.Rules.{RewriteRule}
use Rattle.wh_pairs.specs.PairData.{PairData}
use Rattle.wh_graph.specs.Clash.{Clash}

-- some of the terms clashes with the pattern at the same place
abbrev pub SomeClash : List RewriteRule → List Tm → List Tm → Type 0
SomeClash rules qs ps = (i : ℕ) × (q p : Tm) × (slice_get qs i ≡ Some q) × (slice_get ps i ≡ Some p) × Clash rules q p

-- b may follow a: the right head of a is the left head of b, and no right argument of a clashes with the left argument
-- of b at the same place (Fuhs and Kop 2019)
pub record May (rules : List RewriteRule) (a b : PairData) : Type 0 where
  pub heads : a.right_fun ≡ b.left_fun
  pub arguments : SomeClash rules a.right b.left → ⊥

-- the pair with the number b may follow the pair with the number a, both of one list
abbrev pub Follows : List RewriteRule → List PairData → ℕ → ℕ → Type 0
Follows rules pairs a b = (x y : PairData) × (slice_get pairs a ≡ Some x) × (slice_get pairs b ≡ Some y) × May rules x y
