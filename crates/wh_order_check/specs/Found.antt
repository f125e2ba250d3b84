-- What the walks over lines answer: which fault it is that comes first in them.
use Rattle.std.specs.Prelude.{ℕ, List}
use Rattle.wh_reduction_pairs.specs.TaskData.{TaskData}
use Rattle.wh_reduction_pairs.specs.FirstFault.{IsFirstRuleFault, IsFirstPairFault}
use Rattle.wh_order_inference.specs.Inferences.{Inference}
use Rattle.wh_order_node.specs.Filterings.{FilteringData}
use Rattle.wh_order_check.specs.OrderingFaults.{narrow_lines, wide_lines, good_lines, bad_lines, strict_lines, weak_lines}
use Rattle.wh_order_check.specs.declared.fault.OrderingFault.{OrderingFault}
use Rattle.wh_order_check.specs.declared.fault.OrderingFault.TheVariants.{WideRule, WidePair, BadRule, BadPair, NotStrict}

-- the fault is the first one of these lines of rules, or of pairs (ours)
abbrev pub IsWideRuleOf : TaskData → List Inference → OrderingFault → Type 0
IsWideRuleOf T lines (WideRule r) = IsFirstRuleFault (narrow_lines T.symbols) (wide_lines T.symbols) T lines r tt
IsWideRuleOf T lines _ = ⊥

abbrev pub IsWidePairOf : TaskData → List Inference → List ℕ → OrderingFault → Type 0
IsWidePairOf T lines drop (WidePair n) = IsFirstPairFault (narrow_lines T.symbols) (wide_lines T.symbols) T lines drop n tt
IsWidePairOf T lines drop _ = ⊥

abbrev pub IsBadRuleOf : TaskData → FilteringData → List Inference → OrderingFault → Type 0
IsBadRuleOf T D lines (BadRule r e) = IsFirstRuleFault (good_lines T.symbols T.rules D) (bad_lines T.symbols T.rules D) T lines r e
IsBadRuleOf T D lines _ = ⊥

abbrev pub IsBadPairOf : TaskData → FilteringData → List Inference → List ℕ → OrderingFault → Type 0
IsBadPairOf T D lines drop (BadPair n e) = IsFirstPairFault (good_lines T.symbols T.rules D) (bad_lines T.symbols T.rules D) T lines drop n e
IsBadPairOf T D lines drop _ = ⊥

abbrev pub IsWeakPairOf : TaskData → List Inference → List ℕ → OrderingFault → Type 0
IsWeakPairOf T lines drop (NotStrict n) = IsFirstPairFault strict_lines weak_lines T lines drop n tt
IsWeakPairOf T lines drop _ = ⊥
