-- What inferences that are put together stand for, and the stack of their reader, as its code keeps it.
use Rattle.std.proofs.Common.{◌≡◌, ℕ, ◌+◌, ◌<◌, List, [], ◌∷◌, ◌++◌, length, Option, Some, None, MatchOption, IsSome, ◌↔◌, refl, ap, ◌∙◌, arith}
use Rattle.std.specs.Option.{option_to_list}
use Rattle.std.proofs.lemmas.Bool.{false≢true}
use mathlib.Core.Former.{Count}
use Rattle.wh_order_inference.specs.Inferences.{infer, Inferences, more_parts}
use Rattle.wh_order_inference.specs.Said.{letter, inference, inferences, parts_row}
use Rattle.wh_order_inference.specs.declared.inference.Letter.{Letter}
use Rattle.wh_order_inference.specs.declared.inference.Inference.{Inference, Inference', Row_of-Inference, end_of-Inference, more_of-Inference, items-the_row-Inference, items_hidden-the_row-Inference-0, roll-Inference}
use Rattle.wh_order_text.specs.InferenceMachine.{Stack, outside, level, add_part}
use Rattle.wh_order_text.specs.InferenceViews.{opened, opened_in, inference_stack}
use Rattle.wh_order_text.specs.declared.inference_reader.OpenInference.{OpenInference}

-- inferences

pub parts_row-items : (n : _) (r : Row_of-Inference n) → parts_row r ≡ inferences (items-the_row-Inference n r)
parts_row-items n end_of-Inference = refl
parts_row-items n (more_of-Inference i rest) = ap (λ (is : Inferences). more_parts (inference i) is) (parts_row-items _ rest)

abbrev row_of : Inference → (n : Count) × Row_of-Inference n
row_of (Inference' _ _ _ all) = (_, all)

pub inference_made : (l : Letter) (n : ℕ) (is : List Inference) → inference (roll-Inference (record { letter = l; place = n; parts = is })) ≡ infer (letter l) n (inferences is)
unfolding roll-Inference denote.Hole.Carrier.roll
inference_made l n is =
    ap (λ (js : Inferences). infer (letter l) n js)
    (parts_row-items _ (row_of (roll-Inference (record { letter = l; place = n; parts = is }))).1 ∙ ap inferences (items_hidden-the_row-Inference-0 is))

parts_join : (is : List Inference) (i : Inference) → inferences (is ++ i ∷ []) ≡ add_part (inferences is) (inference i)
parts_join [] i = refl
parts_join (j ∷ is) i = ap (λ (os : Inferences). more_parts (inference j) os) (parts_join is i)

pub part_joins : (old new : List Inference) (i : Inference) → new ≡ old ++ i ∷ [] → inferences new ≡ add_part (inferences old) (inference i)
part_joins old new i e = ap inferences e ∙ parts_join old i

-- the stack

opened_push : (fs : Stack) (xs : List OpenInference) (x : OpenInference) → opened_in fs (xs ++ x ∷ []) ≡ opened x (opened_in fs xs)
opened_push fs [] x = refl
opened_push fs (y ∷ ys) x = opened_push (opened y fs) ys x

pub stack_push : (old new : List OpenInference) (x : OpenInference) → new ≡ old ++ x ∷ [] → inference_stack new ≡ opened x (inference_stack old)
stack_push old new x e = ap inference_stack e ∙ opened_push outside old x

opened_level : (fs : Stack) (xs : List OpenInference) → level (opened_in fs xs) ≡ length xs + level fs
opened_level fs [] = omega arith
opened_level fs (x ∷ xs) = omega (arith, opened_level (opened x fs) xs)

pub level_is : (xs : List OpenInference) → level (inference_stack xs) ≡ length xs
level_is xs = omega (arith, opened_level outside xs)

pub stack_pop : (old new : List OpenInference) (r : Option OpenInference) (n : ℕ) → n ≡ length old → old ≡ new ++ option_to_list r → (IsSome r ↔ (0 < n)) → MatchOption r (inference_stack old ≡ outside) (λ f. inference_stack old ≡ opened f (inference_stack new))
stack_pop [] new None n k e v = refl
stack_pop (x ∷ xs) new None n k e v = absurd (false≢true (v.1 (omega arith)))
stack_pop old new (Some x) n k e v = stack_push new old x e
