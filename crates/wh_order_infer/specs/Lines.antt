-- The answers of the search for the inference of a line: one with the fewest entries, or that there is none.
use Rattle.std.specs.Prelude.{◌≡◌, ◌<◌, ◌≤◌, ◌^◌, List, length, Option, None, MatchOption}
use Rattle.wh_terms.specs.Typing.{Symbols, Declared}
use Rattle.wh_terms.specs.Rules.{RewriteRule}
use Rattle.wh_order_inference.specs.Inferences as m
use Rattle.wh_order_inference.specs.Inferences.{entries}
use Rattle.wh_order_inference.specs.InferenceLimits.{depth, deepest_inference}
use Rattle.wh_order_inference.specs.Said.{inference}
use Rattle.wh_order_inference.specs.declared.inference.Inference.{Inference}
use Rattle.wh_order_path.specs.Verdict.{Claim, verdict}
use Rattle.wh_order_node.specs.Filterings.{FilteringData, precedences_of, filtered_signature}
use Rattle.wh_order_trees.specs.declared.tree.Tree.{Tree}
use Rattle.wh_order_trees.specs.Trees.{tree}
use Rattle.wh_order.specs.TreeSides.{AreSides}

-- the inference shows the claim about two filtered trees, and is within the limits of a line: it nests at most 64 deep
-- and has fewer than 2^32 entries
pub record Shows (S : Symbols) (rules : List RewriteRule) (D : FilteringData) (M : List Declared) (c : Claim) (s t : Tree) (i : m.Inference) : Type 0 where
  pub good : verdict (filtered_signature S rules D) (precedences_of S D) M
      (record { claim = c; next = 0; left = tree (length S.funs) s; right = tree (length S.funs) t }) i ≡ None
  pub nested : depth i ≤ deepest_inference
  pub few : entries i < 2 ^ 32

-- the answer is an inference that shows the claim with the fewest entries, or there is none
abbrev pub IsFound : FilteringData → Claim → Tree → Tree → Option Inference → Type 0
IsFound D c s t found = (S : Symbols) (rules : List RewriteRule) (M : List Declared) → AreSides S rules D M s t
    → MatchOption found ((i : m.Inference) → Shows S rules D M c s t i → ⊥)
    (λ i. Shows S rules D M c s t (inference i) × ((j : m.Inference) → Shows S rules D M c s t j → entries (inference i) ≤ entries j))
