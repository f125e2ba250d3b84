-- A spelling of an inference is read, and every front that the reader of inferences goes along can be ended.
use Rattle.std.proofs.Common.{◌≡◌, ℕ, suc, ◌+◌, ◌-◌, ◌*◌, false, ◌==◌, ltb, List, ◌∷◌, Option, Some, refl, sym, ap, ap₂, ◌∙◌, arith}
use Rattle.std.proofs.lemmas.Bool.{lt-ltb, cond-true, cond-false}
use Rattle.wh_text.specs.Chars.{is_digit}
use Rattle.wh_cert_letters.specs.Digits.{goes_on}
use Rattle.wh_cert_letters.proofs.NamesAndNumbers.{ReadsNumbers, number_run, is_digit_48, goes_on_48}
use Rattle.wh_order_inference.specs.Inferences.{Letter, same_trees, bodies, arguments, part, lower, first_less, spine_parts, body, variable, meta_part, Inference, infer, Inferences, no_parts, more_parts}
use Rattle.wh_order_inference.specs.InferenceText.{Form, alone, with_parts, with_place, form, sign, put_place, put_listed, put_inference, put_parts, put_more}
use Rattle.wh_order_inference.specs.InferenceLimits.{FormFits, InferenceFits, PartsFit}
use Rattle.wh_order_text.specs.InferenceMachine.{Stack, outside, inside, Place, wanted, place_wanted, placed, list_wanted, begun, behind, Step, goes, nowhere, level, add_part, letter_at, behind_letter, begin, opening, read, scan}

-- lists of parts one behind the other

abbrev join : Inferences → Inferences → Inferences
join no_parts js = js
join (more_parts i is) js = more_parts i (join is js)

join_add : (is : Inferences) (i : Inference) (js : Inferences) → join (add_part is i) js ≡ join is (more_parts i js)
join_add no_parts i js = refl
join_add (more_parts j is) i js = ap (λ (os : Inferences). more_parts j os) (join_add is i js)

join_one : (is : Inferences) (i : Inference) → add_part is i ≡ join is (more_parts i no_parts)
join_one no_parts i = refl
join_one (more_parts j is) i = ap (λ (os : Inferences). more_parts j os) (join_one is i)

-- letters

letter_is : (l : Letter) → letter_at (sign l) ≡ Some l
letter_is same_trees = refl
letter_is bodies = refl
letter_is arguments = refl
letter_is part = refl
letter_is lower = refl
letter_is first_less = refl
letter_is spine_parts = refl
letter_is body = refl
letter_is variable = refl
letter_is meta_part = refl

closes_nothing : (l : Letter) → (sign l == 41) ≡ false
closes_nothing same_trees = refl
closes_nothing bodies = refl
closes_nothing arguments = refl
closes_nothing part = refl
closes_nothing lower = refl
closes_nothing first_less = refl
closes_nothing spine_parts = refl
closes_nothing body = refl
closes_nothing variable = refl
closes_nothing meta_part = refl

letter_run : (fs : Stack) (l : Letter) (r : List ℕ) → scan (begin fs (letter_at (sign l))) r ≡ scan (behind_letter (form l) fs l) r
letter_run fs l r = ap (λ (o : Option Letter). scan (begin fs o) r) (letter_is l)

-- places

reads_places : (fs : Stack) (l : Letter) → ReadsNumbers (λ (r : List ℕ). scan (goes fs (place_wanted l)) r) (λ (n : ℕ) (r : List ℕ). scan (goes fs (placed l n)) r)
reads_places fs l = record {
  starts = λ d r low. ap (λ (s : Step). scan s r) (cond-true (is_digit (48 + d)) (goes fs (placed l (48 + d - 48))) nowhere (is_digit_48 d low)) ∙ ap (λ (n : ℕ). scan (goes fs (placed l n)) r) (omega arith);
  goes = λ n d r some below fits. ap (λ (s : Step). scan s r) (cond-true (goes_on n (48 + d)) (goes fs (placed l (10 * n + (48 + d - 48)))) (opening fs l n (48 + d)) (goes_on_48 n d some below fits)) ∙ ap (λ (i : ℕ). scan (goes fs (placed l i)) r) (omega arith);
}

-- a spelling is read

-- behind a letter, once its parts are read
behind_letter_run : (f : Form) (fs : Stack) (l : Letter) (n : ℕ) (is : Inferences) (r : List ℕ) → FormFits f n is
    → scan (goes fs (begun l n)) (put_parts is r) ≡ scan (goes fs (behind (infer l n is))) r
    → scan (behind_letter f fs l) (put_place f n (put_listed f (put_parts is r) r)) ≡ scan (goes fs (behind (infer l n is))) r
behind_letter_run alone fs l n is r h run =
    ap₂ (λ (m : ℕ) (js : Inferences). scan (goes fs (behind (infer l m js))) r) (sym h.0) (sym h.1)
behind_letter_run with_parts fs l n is r h run = ap (λ (m : ℕ). scan (goes fs (begun l m)) (put_parts is r)) (sym h) ∙ run
behind_letter_run with_place fs l n is r h run =
    number_run _ _ (reads_places fs l) n (40 ∷ put_parts is r) h ∙ run

-- the first part
first_run : (fs : Stack) (l : Letter) (n : ℕ) (i : Inference) (r : List ℕ) → InferenceFits (suc (level fs)) i → scan (goes fs (begun l n)) (put_inference i r) ≡ scan (goes (inside l n no_parts fs) wanted) (put_inference i r)
first_run fs l n (infer m k is) r h =
    let rest : List ℕ = put_place (form m) k (put_listed (form m) (put_parts is r) r) in
    ap (λ (s : Step). scan s rest) (cond-false (sign m == 41) (goes fs (behind (infer l n no_parts))) _ (closes_nothing m)
    ∙ cond-true (ltb (suc (level fs)) 64) (begin (inside l n no_parts fs) (letter_at (sign m))) nowhere (lt-ltb (suc (level fs)) 64 h.0))

mutual
  pub inference_run : (fs : Stack) (i : Inference) (r : List ℕ) → InferenceFits (level fs) i → scan (goes fs wanted) (put_inference i r) ≡ scan (goes fs (behind i)) r
  inference_run fs (infer l n is) r h =
      letter_run fs l (put_place (form l) n (put_listed (form l) (put_parts is r) r))
      ∙ behind_letter_run (form l) fs l n is r h.1 (parts_run fs l n is r h.2)

  parts_run : (fs : Stack) (l : Letter) (n : ℕ) (is : Inferences) (r : List ℕ) → PartsFit (suc (level fs)) is → scan (goes fs (begun l n)) (put_parts is r) ≡ scan (goes fs (behind (infer l n is))) r
  parts_run fs l n no_parts r h = refl
  parts_run fs l n (more_parts i is) r h =
      first_run fs l n i (put_more is r) h.0
      ∙ inference_run (inside l n no_parts fs) i (put_more is r) h.0
      ∙ more_run fs l n no_parts i is r h.1

  more_run : (fs : Stack) (l : Letter) (n : ℕ) (done : Inferences) (i : Inference) (is : Inferences) (r : List ℕ) → PartsFit (suc (level fs)) is → scan (goes (inside l n done fs) (behind i)) (put_more is r) ≡ scan (goes fs (behind (infer l n (join done (more_parts i is))))) r
  more_run fs l n done i no_parts r h = ap (λ (os : Inferences). scan (goes fs (behind (infer l n os))) r) (join_one done i)
  more_run fs l n done i (more_parts j is) r h =
      inference_run (inside l n (add_part done i) fs) j (put_more is r) h.0
      ∙ more_run fs l n (add_part done i) j is r h.1
      ∙ ap (λ (os : Inferences). scan (goes fs (behind (infer l n os))) r) (join_add done i (more_parts j is))

-- every front can be ended

-- what closes the open parentheses behind an inference, and what is read then
abbrev closing : Stack → List ℕ → List ℕ
closing outside r = r
closing (inside l n is fs) r = 41 ∷ closing fs r

abbrev around : Stack → Inference → Inference
around outside i = i
around (inside l n is fs) i = around fs (infer l n (add_part is i))

closing_run : (fs : Stack) (i : Inference) (b : ℕ) (r : List ℕ) → scan (goes fs (behind i)) (closing fs (b ∷ r)) ≡ read (around fs i) (b ∷ r)
closing_run outside i b r = refl
closing_run (inside l n is fs) i b r = closing_run fs (infer l n (add_part is i)) b r

-- the bytes `tail` lead from the step to the end of some inference
pub record Ends (s : Step) : Type 0 where
  pub tail : List ℕ → List ℕ
  pub i : Inference
  pub ends : (b : ℕ) (r : List ℕ) → scan s (tail (b ∷ r)) ≡ read i (b ∷ r)

ends_by : (fs : Stack) (s : Step) (w : List ℕ → List ℕ) (i : Inference) → ((r : List ℕ) → scan s (w r) ≡ scan (goes fs (behind i)) r) → Ends s
ends_by fs s w i leads =
    record { tail = λ r. w (closing fs r); i = around fs i; ends = λ b r. leads (closing fs (b ∷ r)) ∙ closing_run fs i b r }

pub place_ends : (fs : Stack) (k : Place) → Ends (goes fs k)
place_ends fs wanted = ends_by fs (goes fs wanted) (λ r. 61 ∷ r) (infer same_trees 0 no_parts) (λ r. refl)
place_ends fs (place_wanted l) = ends_by fs (goes fs (place_wanted l)) (λ r. 48 ∷ 40 ∷ 41 ∷ r) (infer l 0 no_parts) (λ r. refl)
place_ends fs (placed l n) = ends_by fs (goes fs (placed l n)) (λ r. 40 ∷ 41 ∷ r) (infer l n no_parts) (λ r. refl)
place_ends fs (list_wanted l) = ends_by fs (goes fs (list_wanted l)) (λ r. 40 ∷ 41 ∷ r) (infer l 0 no_parts) (λ r. refl)
place_ends fs (begun l n) = ends_by fs (goes fs (begun l n)) (λ r. 41 ∷ r) (infer l n no_parts) (λ r. refl)
place_ends fs (behind i) = ends_by fs (goes fs (behind i)) (λ r. r) i (λ r. refl)
