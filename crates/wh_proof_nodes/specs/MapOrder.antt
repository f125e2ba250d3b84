-- Another proof for the worked system that maps a function over a list: by a path order behind argument filters, as a
-- certificate says it.
use Rattle.std.specs.Prelude.{ℕ, List, [], ◌∷◌}
use Rattle.wh_reduction_pairs.specs.TaskData.{TaskData, whole_task}
use Rattle.wh_reduction_pairs.specs.ReductionPair.{Evidence}
use Rattle.wh_order_inference.specs.FilterText.{keeps}
use Rattle.wh_order_inference.specs.Inferences.{same_trees, part, lower, first_less, meta_part, Inference, infer, no_parts, more_parts}
use Rattle.wh_order_node.specs.Filterings.{FilteringData}
use Rattle.wh_proof.specs.Nodes.{Node, done, order}
use Rattle.wh_proof_nodes.specs.MapSystem.{map_symbols, map_system, map_pair}

-- zero, s and nil have the precedence 0, cons 1 and map 2; each keeps all its arguments, but the marked map the second
-- one alone
abbrev pub map_filters : FilteringData
map_filters = record {
  symbols = keeps 0 [] ∷ keeps 0 (1 ∷ []) ∷ keeps 0 [] ∷ keeps 1 (1 ∷ 2 ∷ []) ∷ keeps 2 (1 ∷ 2 ∷ []) ∷ [];
  marks = record { symbol = 4; filter = keeps 0 (2 ∷ []) } ∷ [];
}

-- `=`, and `sN(..)` with one part
abbrev pub equal : Inference
equal = infer same_trees 0 no_parts

abbrev pub by_argument : ℕ → Inference → Inference
by_argument n i = infer part n (more_parts i no_parts)

-- the first rule, by s2(=): nil is the second argument of map
abbrev pub nil_line : Inference
nil_line = by_argument 2 equal

-- the second one, by p(z1(s2(s1(=))),x2(s2(=),s1(=),s2(s2(=)))): map is above cons, and the second argument of map gets
-- smaller
abbrev pub cons_line : Inference
cons_line =
    infer lower 0
    (more_parts (infer meta_part 1 (more_parts (by_argument 2 (by_argument 1 equal)) no_parts))
    (more_parts (infer first_less 2
    (more_parts (by_argument 2 equal) (more_parts (by_argument 1 equal) (more_parts (by_argument 2 (by_argument 2 equal)) no_parts))))
    no_parts))

-- the pair, by x1(s2(=),s1(s2(=))): Y is a part of cons X Y
abbrev pub pair_line : Inference
pair_line = infer first_less 1 (more_parts (by_argument 2 equal) (more_parts (by_argument 1 (by_argument 2 equal)) no_parts))

abbrev pub map_inferences : Evidence Inference
map_inferences = record { of_rules = nil_line ∷ cons_line ∷ []; of_pairs = pair_line ∷ []; drop = 0 ∷ [] }

-- the set of the one pair, and both rules
abbrev pub map_task : TaskData
map_task = whole_task map_symbols map_system.rules (map_pair ∷ []) (0 ∷ [])

-- the pair is dropped; then there is no pair left
abbrev pub map_order_nodes : List Node
map_order_nodes = order map_filters map_inferences ∷ done ∷ []
