-- Raw terms whose parts are a list: their trees, what is left of a list, and the measure of a recursion.
use Rattle.std.proofs.Common.{◌≡◌, ℕ, zero, suc, ◌+◌, ◌<◌, ◌≤◌, List, [], ◌∷◌, length, drop, get_or, ap, sym, ◌∙◌, arith}
use Rattle.std.proofs.lemmas.List.{drop_more, drop_all}
use Rattle.wh_text.specs.RawTree.{RTm, meta, lam, spine, RTms, none, more}
use Rattle.wh_text.specs.Erase.{rtm, rtms}
use Rattle.wh_text.specs.declared.raw.RawTerm.{RawTerm, Meta, Spine}
use Rattle.wh_text.proofs.RawLemmas.{rtm_of_meta, rtm_of_spine}

-- what is left of a list at a place: one step on, and at the end
pub left_next : (xs : List RawTerm) (i : ℕ) (t : RawTerm) → i < length xs → t ≡ get_or xs i t → rtms (drop i xs) ≡ more (rtm t) (rtms (drop (i + 1) xs))
left_next xs i t within e =
    ap rtms (drop_more xs i t within) ∙ ap (λ u. more (rtm u) (rtms (drop (i + 1) xs))) (sym e)

pub left_none : (xs : List RawTerm) (i : ℕ) → length xs ≤ i → rtms (drop i xs) ≡ none
left_none xs i past = ap rtms (drop_all i xs past)

-- a part of a term has less weight than the whole
abbrev mutual
  pub weight : RTm → ℕ
  weight (meta n ts at) = 1 + weights ts
  weight (lam x a t at) = 1 + weight t
  weight (spine h ts at) = 1 + (weight h + weights ts)
  weight _ = 0

  pub weights : RTms → ℕ
  weights none = 0
  weights (more t ts) = 1 + (weight t + weights ts)

pub weight_in_meta : (t : RawTerm) (z : List ℕ) (ts : List RawTerm) (at : ℕ) → t ≡ Meta z ts at → weights (rtms ts) < weight (rtm t)
weight_in_meta t z ts at e = omega (arith, ap weight (rtm_of_meta t z ts at e))

pub weight_in_spine : (t : RawTerm) (h : _) (ts : List RawTerm) (at : ℕ) → t ≡ Spine h ts at → weight (rtm h.value) + weights (rtms ts) < weight (rtm t)
weight_in_spine t h ts at e = omega (arith, ap weight (rtm_of_spine t h ts at e))

weight-get : (xs : List RawTerm) (i : ℕ) (t : RawTerm) → i < length xs → t ≡ get_or xs i t → weight (rtm t) < weights (rtms xs)
weight-get [] i t within e = absurd (omega arith)
weight-get (x ∷ xs) zero t within e = omega (arith, ap (λ u. weight (rtm u)) e)
weight-get (x ∷ xs) (suc i) t within e = omega (arith, weight-get xs i t (omega arith) e)

pub weight_in_item : (ts : List RawTerm) (xs : List RawTerm) (i : ℕ) (t : RawTerm) → xs ≡ ts → i < length xs → t ≡ get_or xs i t
    → weight (rtm t) < weights (rtms ts)
weight_in_item ts xs i t from within e = omega (arith, weight-get xs i t within e, ap (λ us. weights (rtms us)) from)
