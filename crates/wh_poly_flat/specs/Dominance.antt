-- When coefficients let a pair of a flat set go, by what the sides are worth.
use Rattle.std.specs.Prelude.{ℕ, suc, ◌+◌, ◌==◌, if◌then◌else◌, List, [], ◌∷◌, length}
use Rattle.wh_terms.specs.Tree.{Tm, fun, spine}
use Rattle.wh_terms.specs.Typing.{Symbols}
use Rattle.wh_terms.specs.Rules.{RewriteRule}
use Rattle.wh_pairs.specs.PairData.{PairData}
use Rattle.wh_pairs.specs.Sets.{InSet}
use Rattle.wh_reduction_pairs.specs.TaskData.{TaskData}
use Rattle.wh_poly_flat.specs.Flat.{IsListed}
use Rattle.wh_poly_flat.specs.Worth.{IsAtLeast, IsGreater}

-- the place of a symbol among the marked ones, or their number where it is none of them
abbrev pub place_among : List ℕ → ℕ → ℕ
place_among [] f = 0
place_among (g ∷ marked) f = if g == f then 0 else suc (place_among marked f)

-- the number of its marked symbol: these go on behind all symbols
abbrev pub marked_number : Symbols → List ℕ → ℕ → ℕ
marked_number S marked f = length S.funs + place_among marked f

-- the sides of a pair, headed by marked symbols
abbrev pub left_call : Symbols → List ℕ → PairData → Tm
left_call S marked p = spine (fun (marked_number S marked p.left_fun)) p.left

abbrev pub right_call : Symbols → List ℕ → PairData → Tm
right_call S marked p = spine (fun (marked_number S marked p.right_fun)) p.right

-- by these coefficients the left side of each rule that is to be covered and of each pair of the set is at least the
-- right one, and of some pair of the set it is greater (ours)
pub record LetsGoBy (T : TaskData) (marked : List ℕ) (lists : List (List ℕ)) : Type 0 where
  pub rules_at_least : (r : RewriteRule) → IsListed T.rules T.covered r → IsAtLeast lists r.left r.right
  pub pairs_at_least : (p : PairData) → InSet T.pairs T.set p
      → IsAtLeast lists (left_call T.symbols marked p) (right_call T.symbols marked p)
  pub some_greater :
      (p : PairData) × InSet T.pairs T.set p × IsGreater lists (left_call T.symbols marked p) (right_call T.symbols marked p)
