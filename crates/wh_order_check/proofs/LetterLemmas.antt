-- The letter of an inference of the program.
use Rattle.std.proofs.Common.{◌≡◌, ◌≢◌, ◌↔◌, Bool, true, false, IsTrue, refl}
use Rattle.std.specs.Prelude.{not}
use Rattle.wh_order_inference.specs.Inferences as m
use Rattle.wh_order_inference.specs.Inferences.{letter_of, same_trees}
use Rattle.wh_order_inference.specs.Said.{inference, letter}
use Rattle.wh_order_node.specs.Ordering.{IsStrictWhere}
use Rattle.wh_order_inference.specs.declared.inference.Letter.{Letter}
use Rattle.wh_order_inference.specs.declared.inference.Letter.TheVariants.{Same, Lam, Mono, Sub, Prec, Lex, App, Bind, Var, Meta}
use Rattle.wh_order_inference.specs.declared.inference.Inference.{Inference, Inference', out-Inference, outs-Inference'}

pub letter_is : (i : Inference) → letter_of (inference i) ≡ letter (out-Inference i).letter
letter_is (Inference' l n shape all) = rw (outs-Inference' l n shape all) refl

pub only_same : (l : Letter) → letter l ≡ same_trees → l ≡ Same
only_same Same e = refl
only_same Lam e = absurd cc
only_same Mono e = absurd cc
only_same Sub e = absurd cc
only_same Prec e = absurd cc
only_same Lex e = absurd cc
only_same App e = absurd cc
only_same Bind e = absurd cc
only_same Var e = absurd cc
only_same Meta e = absurd cc

pub strict_same : (asked : Bool) (i : m.Inference) → letter_of i ≡ same_trees → IsTrue (not asked) ↔ IsStrictWhere asked i
strict_same true i e = (λ no. absurd (cc (no)), λ strict. absurd (strict e))
strict_same false i e = (λ yes. tt, λ u. refl)

pub strict_other : (asked : Bool) (i : m.Inference) → letter_of i ≢ same_trees → IsTrue true ↔ IsStrictWhere asked i
strict_other true i other = (λ yes. other, λ strict. refl)
strict_other false i other = (λ yes. tt, λ u. refl)
