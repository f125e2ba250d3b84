-- What values with lists of parts stand for that are equal part by part.
use Rattle.std.proofs.Common.{◌≡◌, ℕ, List, [], ◌∷◌, map, refl, sym, ap, ◌∙◌}
use Rattle.std.specs.Global.{Box}
use Rattle.wh_text.specs.RawTree.{RTy, RTys, raw_type, no_types, more_types, RTm, meta, spine, RTms, none, more}
use Rattle.wh_text.specs.Erase.{rty, rtys, rtm, rtms}
use Rattle.wh_text.specs.declared.raw.RawType.{RawType, out-RawType, roll-RawType}
use Rattle.wh_text.specs.declared.raw.RawTerm.{RawTerm, Meta, Spine}
use Rattle.wh_text.proofs.RawLemmas.{rty_parts, rty_made, rtm_meta, rtm_of_meta, rtm_of_spine}
use Rattle.wh_order_inference.specs.Inferences as m
use Rattle.wh_order_inference.specs.Said.{letter, inference, inferences}
use Rattle.wh_order_inference.specs.declared.inference.Inference.{Inference, Inference', out-Inference, outs-Inference', roll-Inference, items_shown-the_row-Inference-0}
use Rattle.wh_order_text.proofs.InferenceCode.{parts_row-items, inference_made}

-- types

abbrev types_of : List RTy → RTys
types_of [] = no_types
types_of (a ∷ rest) = more_types a (types_of rest)

types_are : (xs : List RawType) → rtys xs ≡ types_of (map rty xs)
types_are [] = refl
types_are (x ∷ xs) = ap (more_types (rty x)) (types_are xs)

same_types : (xs ys : List RawType) → map rty xs ≡ map rty ys → rtys xs ≡ rtys ys
same_types xs ys e = types_are xs ∙ ap types_of e ∙ sym (types_are ys)

pub type_copied : (a : RawType) (args : List RawType) (sort : List ℕ) → map rty args ≡ map rty (out-RawType a).args → sort ≡ (out-RawType a).sort
    → rty (roll-RawType (record { args = args; sort = sort; at = (out-RawType a).at })) ≡ rty a
type_copied a args sort same named =
    rty_made args sort (out-RawType a).at
    ∙ ap (λ (ts : RTys). raw_type ts sort (out-RawType a).at) (same_types args (out-RawType a).args same)
    ∙ ap (λ (s : List ℕ). raw_type (rtys (out-RawType a).args) s (out-RawType a).at) named
    ∙ sym (rty_parts a)

-- terms

abbrev terms_of : List RTm → RTms
terms_of [] = none
terms_of (t ∷ rest) = more t (terms_of rest)

terms_are : (xs : List RawTerm) → rtms xs ≡ terms_of (map rtm xs)
terms_are [] = refl
terms_are (x ∷ xs) = ap (more (rtm x)) (terms_are xs)

same_terms : (xs ys : List RawTerm) → map rtm xs ≡ map rtm ys → rtms xs ≡ rtms ys
same_terms xs ys e = terms_are xs ∙ ap terms_of e ∙ sym (terms_are ys)

pub meta_copied : (t : RawTerm) (z name : List ℕ) (args copies : List RawTerm) (at : ℕ) → t ≡ Meta z args at → name ≡ z → map rtm copies ≡ map rtm args → rtm (Meta name copies at) ≡ rtm t
meta_copied t z name args copies at is named same =
    rtm_meta name copies at
    ∙ ap (λ (ts : RTms). meta name ts at) (same_terms copies args same)
    ∙ ap (λ (s : List ℕ). meta s (rtms args) at) named
    ∙ sym (rtm_of_meta t z args at is)

pub spine_copied : (t : RawTerm) (h g : Box RawTerm) (args copies : List RawTerm) (at : ℕ) → t ≡ Spine h args at → rtm g.value ≡ rtm h.value → map rtm copies ≡ map rtm args → rtm (Spine g copies at) ≡ rtm t
spine_copied t h g args copies at is head same =
    rtm_of_spine (Spine g copies at) g copies at refl
    ∙ ap (λ (ts : RTms). spine (rtm g.value) ts at) (same_terms copies args same)
    ∙ ap (λ (u : RTm). spine u (rtms args) at) head
    ∙ sym (rtm_of_spine t h args at is)

-- inferences

inference_is : (i : Inference) → inference i ≡ m.infer (letter (out-Inference i).letter) (out-Inference i).place (inferences (out-Inference i).parts)
inference_is (Inference' l n shape all) =
    rw (outs-Inference' l n shape all) (ap (λ (is : m.Inferences). m.infer (letter l) n is) (parts_row-items _ all ∙ ap inferences (sym (items_shown-the_row-Inference-0 shape all))))

abbrev parts_of : List m.Inference → m.Inferences
parts_of [] = m.no_parts
parts_of (i ∷ rest) = m.more_parts i (parts_of rest)

parts_are : (xs : List Inference) → inferences xs ≡ parts_of (map inference xs)
parts_are [] = refl
parts_are (x ∷ xs) = ap (m.more_parts (inference x)) (parts_are xs)

same_parts : (xs ys : List Inference) → map inference xs ≡ map inference ys → inferences xs ≡ inferences ys
same_parts xs ys e = parts_are xs ∙ ap parts_of e ∙ sym (parts_are ys)

pub inference_copied : (i : Inference) (parts : List Inference) → map inference parts ≡ map inference (out-Inference i).parts
    → inference (roll-Inference (record { letter = (out-Inference i).letter; place = (out-Inference i).place; parts = parts })) ≡ inference i
inference_copied i parts same =
    inference_made (out-Inference i).letter (out-Inference i).place parts
    ∙ ap (m.infer (letter (out-Inference i).letter) (out-Inference i).place) (same_parts parts (out-Inference i).parts same)
    ∙ sym (inference_is i)
