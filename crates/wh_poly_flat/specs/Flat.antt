-- Flat rules, pairs and sets: first-order ones that are not large.
use Rattle.std.specs.Prelude.{ℕ, ◌+◌, ◌≤◌, ◌≡◌, List, [], Some, Contains, sum_by, slice_get}
use Rattle.std.specs.Option.{option_map_or}
use Rattle.wh_types.specs.Ty.{sort}
use Rattle.wh_terms.specs.Tree.{Tm, fun, meta, lam, app, Tms, none, more, tms_of}
use Rattle.wh_terms.specs.Typing.{Symbols, Typed}
use Rattle.wh_terms.specs.Rules.{RewriteRule}
use Rattle.wh_system.specs.Systems.{SystemData}
use Rattle.wh_pairs.specs.PairData.{PairData}
use Rattle.wh_pairs.specs.Sets.{InSet}
use Rattle.wh_reduction_pairs.specs.TaskData.{TaskData, task_over}
use Rattle.wh_usable_first_order.specs.FirstOrder.{IsFirstOrder, IsFlatTree, AreFlatTrees}

abbrev mutual
  -- how often symbols and meta-variables occur in the tree
  pub occurrences : Tm → ℕ
  occurrences (fun f) = 1
  occurrences (meta z ts) = 1 + occurrences_in ts
  occurrences (lam a t) = occurrences t
  occurrences (app t u) = occurrences t + occurrences u
  occurrences _ = 0

  pub occurrences_in : Tms → ℕ
  occurrences_in none = 0
  occurrences_in (more t ts) = occurrences t + occurrences_in ts

-- how often symbols and meta-variables occur in a side of a pair, with the marked symbol that heads it
abbrev pub call_occurrences : List Tm → ℕ
call_occurrences ts = 1 + occurrences_in (tms_of ts)

-- the greatest number of occurrences in a side of a rule or pair, and in all sides together
abbrev pub most_in_side : ℕ
most_in_side = 60

abbrev pub most_in_all : ℕ
most_in_all = 8192

-- the sides of the rule are flat, of a sort, and not large (ours)
pub record IsFlatRule (S : Symbols) (r : RewriteRule) : Type 0 where
  pub left : IsFlatTree S r.metas r.left
  pub right : IsFlatTree S r.metas r.right
  pub of_a_sort : (s : ℕ) × Typed S r.metas [] r.left (sort s) × Typed S r.metas [] r.right (sort s)
  pub left_few : occurrences r.left ≤ most_in_side
  pub right_few : occurrences r.right ≤ most_in_side

-- the sides of the pair are flat and not large (ours)
pub record IsFlatPair (S : Symbols) (p : PairData) : Type 0 where
  pub left_head : IsFirstOrder S p.left_fun
  pub right_head : IsFirstOrder S p.right_fun
  pub left : AreFlatTrees S p.metas p.left
  pub right : AreFlatTrees S p.metas p.right
  pub left_few : call_occurrences p.left ≤ most_in_side
  pub right_few : call_occurrences p.right ≤ most_in_side

abbrev pub rule_occurrences : RewriteRule → ℕ
rule_occurrences r = occurrences r.left + occurrences r.right

abbrev pub pair_occurrences : PairData → ℕ
pair_occurrences p = call_occurrences p.left + call_occurrences p.right

-- of the pair with this number; there are none where there is no such pair
abbrev pub occurrences_at : List PairData → ℕ → ℕ
occurrences_at pairs n = option_map_or pair_occurrences (slice_get pairs n) 0

-- how often symbols and meta-variables occur in the rule with this number
abbrev pub rule_occurrences_at : List RewriteRule → ℕ → ℕ
rule_occurrences_at rules n = option_map_or rule_occurrences (slice_get rules n) 0

-- the set of pairs of a system, with these rules to be covered
abbrev pub task_for : SystemData → List PairData → List ℕ → List ℕ → TaskData
task_for d pairs set covered = task_over d.symbols d.rules pairs set covered

-- the rule is one of those with the numbers of the list
abbrev pub IsListed : List RewriteRule → List ℕ → RewriteRule → Type 0
IsListed rules listed r = (n : ℕ) × Contains listed n × (slice_get rules n ≡ Some r)

-- how often symbols and meta-variables occur in the sides of the rules that are to be covered and of the set's pairs
abbrev pub all_occurrences : TaskData → ℕ
all_occurrences T = sum_by (rule_occurrences_at T.rules) T.covered + sum_by (occurrences_at T.pairs) T.set

-- the set is flat: the sides of the rules that are to be covered and of its pairs are, and these are together not large
-- (ours)
pub record IsFlat (T : TaskData) : Type 0 where
  pub rules : (r : RewriteRule) → IsListed T.rules T.covered r → IsFlatRule T.symbols r
  pub pairs_of_set : (p : PairData) → InSet T.pairs T.set p → IsFlatPair T.symbols p
  pub few : all_occurrences T ≤ most_in_all
