-- What the lines of a YES certificate say over a system, once the names in them are looked up.
use Rattle.std.specs.Prelude.{ℕ, ◌≡◌, List, [], ◌∷◌, Option, Some, None, length, map, slice_get}
use Rattle.wh_types.specs.Ty.{Ty}
use Rattle.wh_system.specs.Systems.{SystemData}
use Rattle.wh_cert.specs.Written as w
use Rattle.wh_cert.specs.Interps.{Interp}
use Rattle.wh_order_inference.specs.Inferences.{Inference}
use Rattle.wh_order_inference.specs.FilterText.{WrittenFilter}
use Rattle.wh_order_node.specs.Filterings.{MarkFilter, FilteringData}
use Rattle.wh_hopoly.specs.Evaluation.{Interpretation}
use Rattle.wh_hopoly.specs.Erase.{transfers}
use Rattle.wh_hopoly.specs.Moves.{Transfer}
use Rattle.wh_hopoly.specs.declared.expression.Move.{Move}
use Rattle.wh_pairs.specs.PairData.{PairData}
use Rattle.wh_reduction_pairs.specs.TaskData.{TaskData, numbers_from, task_over}
use Rattle.wh_reduction_pairs.specs.ReductionPair.{Evidence}
use Rattle.wh_polycheck.specs.Marks.{Mark}
use Rattle.wh_polycheck.specs.Readings.{ReadingsData}
use Rattle.wh_subterm.specs.Projections.{Chosen}
use Rattle.wh_usable.specs.Closed.{AreRulesInOrder}
use Rattle.wh_proof.specs.Nodes.{Node, done, alone, blocks, subterm, poly, order}

-- a line `arg` says this choice: its name is the name of the symbol (ours)
pub record SaysChoice (d : SystemData) (line : w.Arg) (c : Chosen) : Type 0 where
  pub named : slice_get d.fun_names c.symbol ≡ Some line.name
  pub place : c.argument ≡ line.place

-- the lines say these, one after another
abbrev pub SayChoices : SystemData → List w.Arg → List Chosen → Type 0
SayChoices d [] [] = Unit {0}
SayChoices d (line ∷ lines) (c ∷ args) = SaysChoice d line c × SayChoices d lines args
SayChoices d _ _ = ⊥

-- the lines `fun` say interpretations of all symbols: they name these in order, and each is of its symbol's type (ours)
abbrev pub SayInterpretations : List (List ℕ) → List Ty → List Interp → List Interpretation → Type 0
SayInterpretations [] [] [] [] = Unit {0}
SayInterpretations (name ∷ names) (a ∷ kinds) (line ∷ lines) (s ∷ symbols) =
    (line.name ≡ name) × (s.kind ≡ a) × (s.polynomial ≡ line.poly) × SayInterpretations names kinds lines symbols
SayInterpretations _ _ _ _ = ⊥

-- a line `mark` says this interpretation of a marked symbol: its name is the name of the symbol (ours)
pub record SaysMark (d : SystemData) (line : Interp) (m : Mark) : Type 0 where
  pub named : slice_get d.fun_names m.symbol ≡ Some line.name
  pub polynomial : m.polynomial ≡ line.poly

-- the lines say these, one after another
abbrev pub SayMarks : SystemData → List Interp → List Mark → Type 0
SayMarks d [] [] = Unit {0}
SayMarks d (line ∷ lines) (m ∷ marks) = SaysMark d line m × SayMarks d lines marks
SayMarks d _ _ = ⊥

-- the lines `fun` and `mark` say these readings
abbrev pub SayReadings : SystemData → List Interp → List Interp → ReadingsData → Type 0
SayReadings d funs lines R = SayInterpretations d.fun_names d.symbols.funs funs R.symbols × SayMarks d lines R.marks

-- the moves of the lines `rule` and `pair`, with the dropped pairs
abbrev pub moves_of : List (List Move) → List (List Move) → List ℕ → Evidence (List Transfer)
moves_of rules pairs drop = record { of_rules = map transfers rules; of_pairs = map transfers pairs; drop = drop }

-- the lines `fun` of a node of a path order say the filters of all symbols: they name these in order (ours)
abbrev pub SayFilters : List (List ℕ) → List w.Filtering → List WrittenFilter → Type 0
SayFilters [] [] [] = Unit {0}
SayFilters (name ∷ names) (line ∷ lines) (f ∷ filters) = (line.name ≡ name) × (f ≡ line.filter) × SayFilters names lines filters
SayFilters _ _ _ = ⊥

-- a line `mark` says this filter of a marked symbol: its name is the name of the symbol (ours)
pub record SaysMarkFilter (d : SystemData) (line : w.Filtering) (m : MarkFilter) : Type 0 where
  pub named : slice_get d.fun_names m.symbol ≡ Some line.name
  pub filter : m.filter ≡ line.filter

-- the lines say these, one after another
abbrev pub SayMarkFilters : SystemData → List w.Filtering → List MarkFilter → Type 0
SayMarkFilters d [] [] = Unit {0}
SayMarkFilters d (line ∷ lines) (m ∷ marks) = SaysMarkFilter d line m × SayMarkFilters d lines marks
SayMarkFilters d _ _ = ⊥

-- the lines `fun` and `mark` say these filters
abbrev pub SayFilterings : SystemData → List w.Filtering → List w.Filtering → FilteringData → Type 0
SayFilterings d funs lines D = SayFilters d.fun_names funs D.symbols × SayMarkFilters d lines D.marks

-- the inferences of the lines `rule` and `pair`, with the dropped pairs
abbrev pub inferences_of : List Inference → List Inference → List ℕ → Evidence Inference
inferences_of rules pairs drop = record { of_rules = rules; of_pairs = pairs; drop = drop }

-- the rules that a node of interpretations is to cover: those that it lists, or all rules where it lists none
abbrev pub covered_rules : Option (List ℕ) → ℕ → List ℕ
covered_rules (Some listed) n = listed
covered_rules None n = numbers_from 0 n

-- the rules that are to be covered are rules of the system, each above the one before
abbrev pub CoversRules : SystemData → Option (List ℕ) → Type 0
CoversRules d usable = AreRulesInOrder (length d.rules) (covered_rules usable (length d.rules))

-- what such a node has to show of the set
abbrev pub poly_task : SystemData → List PairData → List ℕ → Option (List ℕ) → TaskData
poly_task d ps set usable = task_over d.symbols d.rules ps set (covered_rules usable (length d.rules))

-- the lines of a node say this node
abbrev pub SaysNode : SystemData → w.Node → Node → Type 0
SaysNode d w.done done = Unit {0}
SaysNode d w.alone alone = Unit {0}
SaysNode d (w.blocks listed) (blocks parts) = listed ≡ parts
SaysNode d (w.subterm lines listed) (subterm args drop) = SayChoices d lines args × (listed ≡ drop)
SaysNode d (w.interpretations usable funs lines rules pairs listed) (poly covered R E) =
    (covered ≡ covered_rules usable (length d.rules)) × SayReadings d funs lines R × (E ≡ moves_of rules pairs listed)
SaysNode d (w.order funs lines rules pairs listed) (order D E) =
    SayFilterings d funs lines D × (E ≡ inferences_of rules pairs listed)
SaysNode d _ _ = ⊥

-- the lines say these nodes, one after another
abbrev pub SayNodes : SystemData → List w.Node → List Node → Type 0
SayNodes d [] [] = Unit {0}
SayNodes d (line ∷ lines) (node ∷ nodes) = SaysNode d line node × SayNodes d lines nodes
SayNodes d _ _ = ⊥
