-- Whether some part of an inference is not that of the same trees.
use Rattle.std.proofs.Common.{◌≡◌, ℕ, ◌+◌, ◌<◌, ◌≤◌, List, length, drop, get_or, Bool, true, false, IsTrue, ◌↔◌, refl, ap, sym, ◌∙◌}
use Rattle.wh_order_inference.specs.Inferences as m
use Rattle.wh_order_inference.specs.Inferences.{same_trees, bodies, arguments, part, lower, first_less, spine_parts, body, variable, meta_part, more_parts, letter_of}
use Rattle.wh_order_inference.specs.Said.{letter, inference, inferences}
use Rattle.wh_order_inference.specs.declared.inference.Inference.{Inference, out-Inference}
use Rattle.wh_order_path.specs.Verdict.{some_strict}
use Rattle.wh_order.proofs.CheckLemmas.{inference_is, drop_here, drop_end}

letter_is : (i : Inference) → letter_of (inference i) ≡ letter (out-Inference i).letter
letter_is i = ap letter_of (inference_is i)

strict_more : (i : m.Inference) (is : m.Inferences) → (letter_of i ≡ same_trees → ⊥) → some_strict (more_parts i is) ≡ true
strict_more i is refuted = on (letter_of i) refl
  where
    on : (l : m.Letter) → letter_of i ≡ l → elim (letter_of i) as (λ x. Bool) [ same_trees ↦ some_strict is | _ ↦ true ] ≡ true
    on same_trees e = absurd (refuted e)
    on bodies e = ap (λ (l : m.Letter). elim l as (λ x. Bool) [ same_trees ↦ some_strict is | _ ↦ true ]) e
    on arguments e = ap (λ (l : m.Letter). elim l as (λ x. Bool) [ same_trees ↦ some_strict is | _ ↦ true ]) e
    on part e = ap (λ (l : m.Letter). elim l as (λ x. Bool) [ same_trees ↦ some_strict is | _ ↦ true ]) e
    on lower e = ap (λ (l : m.Letter). elim l as (λ x. Bool) [ same_trees ↦ some_strict is | _ ↦ true ]) e
    on first_less e = ap (λ (l : m.Letter). elim l as (λ x. Bool) [ same_trees ↦ some_strict is | _ ↦ true ]) e
    on spine_parts e = ap (λ (l : m.Letter). elim l as (λ x. Bool) [ same_trees ↦ some_strict is | _ ↦ true ]) e
    on body e = ap (λ (l : m.Letter). elim l as (λ x. Bool) [ same_trees ↦ some_strict is | _ ↦ true ]) e
    on variable e = ap (λ (l : m.Letter). elim l as (λ x. Bool) [ same_trees ↦ some_strict is | _ ↦ true ]) e
    on meta_part e = ap (λ (l : m.Letter). elim l as (λ x. Bool) [ same_trees ↦ some_strict is | _ ↦ true ]) e

strict_less : (i : m.Inference) (is : m.Inferences) → letter_of i ≡ same_trees → some_strict (more_parts i is) ≡ some_strict is
strict_less i is e = ap (λ (l : m.Letter). elim l as (λ x. Bool) [ same_trees ↦ some_strict is | _ ↦ true ]) e

-- the part at the place is another one
pub strict_here : (is : List Inference) (k : ℕ) (i : Inference) (r : Bool) → some_strict (inferences is) ≡ some_strict (inferences (drop k is)) → k < length is → i ≡ get_or is k i
    → (IsTrue r ↔ (letter (out-Inference i).letter ≡ same_trees)) → r ≡ false → some_strict (inferences is) ≡ true
strict_here is k i r before within e decides not =
    before ∙ ap (λ (l : List Inference). some_strict (inferences l)) (drop_here is k i within e)
    ∙ strict_more (inference i) (inferences (drop (k + 1) is)) (λ same_letter. refuted (sym (decides.1 (sym (letter_is i) ∙ same_letter)) ∙ not))
  where
    refuted : true ≡ false → ⊥
    refuted e = cc

-- it is that of the same trees
pub strict_later : (is : List Inference) (k : ℕ) (i : Inference) (r : Bool) → some_strict (inferences is) ≡ some_strict (inferences (drop k is)) → k < length is → i ≡ get_or is k i
    → (IsTrue r ↔ (letter (out-Inference i).letter ≡ same_trees)) → r ≡ true → some_strict (inferences is) ≡ some_strict (inferences (drop (k + 1) is))
strict_later is k i r before within e decides so =
    before ∙ ap (λ (l : List Inference). some_strict (inferences l)) (drop_here is k i within e)
    ∙ strict_less (inference i) (inferences (drop (k + 1) is)) (letter_is i ∙ decides.0 so)

-- there is none
pub strict_nowhere : (is : List Inference) (k : ℕ) → some_strict (inferences is) ≡ some_strict (inferences (drop k is)) → length is ≤ k → false ≡ some_strict (inferences is)
strict_nowhere is k before past = sym (before ∙ ap (λ (l : List Inference). some_strict (inferences l)) (drop_end is k past))
