-- Each fault but that of a polynomial that is not normal, or of a filter that is not proper, is found behind these.
use Rattle.std.proofs.Common.{◌≡◌, ℕ, Bool, refl}
use Rattle.wh_poly_covering.specs.declared.fault.CoveringFault.{CoveringFault}
use Rattle.wh_poly_covering.specs.declared.fault.CoveringFault.TheVariants.{BadPolynomial, BadLines, BadDrop, NotClosed, Rule, Pair}
use Rattle.wh_order_check.specs.declared.fault.OrderingFault.{OrderingFault}
use Rattle.wh_order_check.specs.declared.fault.OrderingFault.TheVariants as order
use Rattle.wh_tell_nodes.specs.Later.{LeavesNormal, LeavesProper}

pub normal_before : (f : CoveringFault) → ((s : ℕ) (m : Bool) → f ≡ BadPolynomial s m → ⊥) → LeavesNormal f
normal_before (BadPolynomial s m) other = absurd (other s m refl)
normal_before BadLines other = λ T R E h. h.0
normal_before BadDrop other = λ T R E h. h.0
normal_before (NotClosed g) other = λ T R E h. h.0
normal_before (Rule r g) other = λ T R E h. h.0.normal
normal_before (Pair n g) other = λ T R E h. h.0.normal

pub proper_before : (f : OrderingFault) → ((s : ℕ) (m : Bool) → f ≡ order.BadFilter s m → ⊥) → LeavesProper f
proper_before (order.BadFilter s m) other = absurd (other s m refl)
proper_before order.BadLines other = λ T D E h. h.0
proper_before order.BadDrop other = λ T D E h. h.0
proper_before (order.WideRule r) other = λ T D E h. h.0.proper
proper_before (order.WidePair n) other = λ T D E h. h.0.proper
proper_before (order.BadRule r e) other = λ T D E h. h.0.proper
proper_before (order.BadPair n e) other = λ T D E h. h.0.proper
proper_before (order.NotStrict n) other = λ T D E h. h.0.proper
