-- Parts that are put at the end of others.
use Rattle.std.proofs.Common.{◌≡◌, ℕ, zero, suc, ◌+◌, ◌<◌, ◌≤◌, ◌⊎◌, inl, inr, List, [], ◌∷◌, ◌++◌, length, drop, get_or, refl, ap, ap₂, ◌∙◌, sym, arith, append-nil}
use Rattle.std.specs.Borrow.{Bor}
use Rattle.wh_terms.specs.Tree.{Tm}
use Rattle.wh_terms.specs.Erase.{tm}
use Rattle.wh_terms.specs.declared.term.Term.{Term}
use Rattle.wh_order_demands.specs.declared.claim.Claim.{Claim}
use Rattle.wh_order_demands.specs.declared.plan.Part.{Part}
use Rattle.wh_order_demands.specs.Views.{items_data}
use Rattle.wh_order_demands.specs.Plans.{PartData, part_of, part_data, parts_data, left_parts, right_parts, pair_parts}

-- what is left of a list, from the place of an element on
drop_at : {A : Type 0} (xs : List A) (k : ℕ) (x : A) → x ≡ get_or xs k x → k < length xs → drop k xs ≡ x ∷ drop (k + 1) xs
drop_at [] k x e l = absurd (omega (arith, l))
drop_at (y ∷ xs) zero x e l = ap (λ y. y ∷ xs) (sym e)
drop_at (y ∷ xs) (suc k) x e l =
    let same : suc (k + 1) ≡ suc k + 1 = omega arith in
    drop_at xs k x e (omega (arith, l)) ∙ ap (λ n. x ∷ drop n (y ∷ xs)) same

drop_end : {A : Type 0} (xs : List A) (k : ℕ) → length xs ≤ k → drop k xs ≡ []
drop_end [] zero l = refl
drop_end [] (suc k) l = refl
drop_end (y ∷ xs) zero l = absurd (omega (arith, l))
drop_end (y ∷ xs) (suc k) l = drop_end xs k (omega (arith, l))

parts_push : (ps : List Part) (p : Part) → parts_data (ps ++ p ∷ []) ≡ parts_data ps ++ part_data p ∷ []
parts_push [] p = refl
parts_push (q ∷ ps) p = ap (λ l. part_data q ∷ l) (parts_push ps p)

moved : (ps : List PartData) (p : PartData) (qs : List PartData) → (ps ++ p ∷ []) ++ qs ≡ ps ++ p ∷ qs
moved [] p qs = refl
moved (q ∷ ps) p qs = ap (λ l. q ∷ l) (moved ps p qs)

-- the parts put so far, with those that are still to come, are these
pub record PutLeft (total : List PartData) (c : Claim) (ss : List (Bor Term)) (t : Tm) (parts : List Part) (x y k : ℕ) : Type 0 where
  pub whole : parts_data parts ++ left_parts x y c (items_data (drop k ss)) t ≡ total

pub record PutRight (total : List PartData) (c : Claim) (s : Tm) (ts : List (Bor Term)) (parts : List Part) (x y k : ℕ) : Type 0 where
  pub whole : parts_data parts ++ right_parts x y c s (items_data (drop k ts)) ≡ total

pub record PutPairs (total : List PartData) (c : Claim) (ss ts : List (Bor Term)) (parts : List Part) (x y k : ℕ) : Type 0 where
  pub whole : parts_data parts ++ pair_parts x y c (items_data (drop k ss)) (items_data (drop k ts)) ≡ total

-- one part more
step : (total : List PartData) (old new : List Part) (p : Part) (d : PartData) (rest after : List PartData) → parts_data old ++ d ∷ rest ≡ total → new ≡ old ++ p ∷ []
    → part_data p ≡ d → after ≡ rest → parts_data new ++ after ≡ total
step total old new p d rest after whole n e same =
    ap₂ (λ a b. a ++ b) (ap parts_data n ∙ parts_push old p ∙ ap (λ p. parts_data old ++ p ∷ []) e) same ∙ moved (parts_data old) d rest ∙ whole

one_more : (x y : ℕ) → y ≡ x + 1 → y ≡ suc x
one_more x y e = omega (arith, e)

pub left_next : (total : List PartData) (c : Claim) (ss : List (Bor Term)) (t : Tm) (old new : List Part) (p : Part) (w : Bor Term) (x x' y y' k : ℕ)
    → PutLeft total c ss t old x y k → k < length ss → w ≡ get_or ss k w → part_data p ≡ part_of x y c (tm w.now) t → new ≡ old ++ p ∷ [] → x' ≡ x + 1 → y' ≡ y + 1
    → PutLeft total c ss t new x' y' (k + 1)
left_next total c ss t old new p w x x' y y' k h l is e n z z' = record {
  whole = step total old new p (part_of x y c (tm w.now) t) (left_parts (suc x) (suc y) c (items_data (drop (k + 1) ss)) t) (left_parts x' y' c (items_data (drop (k + 1) ss)) t)
      (ap (λ l. parts_data old ++ left_parts x y c (items_data l) t) (sym (drop_at ss k w is l)) ∙ h.whole) n e
      (ap₂ (λ a b. left_parts a b c (items_data (drop (k + 1) ss)) t) (one_more x x' z) (one_more y y' z'));
}

pub left_all : (total : List PartData) (c : Claim) (ss : List (Bor Term)) (t : Tm) (parts : List Part) (x y k : ℕ) → PutLeft total c ss t parts x y k
    → length ss ≤ k → parts_data parts ≡ total
left_all total c ss t parts x y k h l =
    sym (append-nil (parts_data parts)) ∙ ap (λ l. parts_data parts ++ left_parts x y c (items_data l) t) (sym (drop_end ss k l)) ∙ h.whole

pub right_next : (total : List PartData) (c : Claim) (s : Tm) (ts : List (Bor Term)) (old new : List Part) (p : Part) (w : Bor Term) (x x' y y' k : ℕ)
    → PutRight total c s ts old x y k → k < length ts → w ≡ get_or ts k w → part_data p ≡ part_of x y c s (tm w.now) → new ≡ old ++ p ∷ [] → x' ≡ x + 1 → y' ≡ y + 1
    → PutRight total c s ts new x' y' (k + 1)
right_next total c s ts old new p w x x' y y' k h l is e n z z' = record {
  whole = step total old new p (part_of x y c s (tm w.now)) (right_parts (suc x) (suc y) c s (items_data (drop (k + 1) ts))) (right_parts x' y' c s (items_data (drop (k + 1) ts)))
      (ap (λ l. parts_data old ++ right_parts x y c s (items_data l)) (sym (drop_at ts k w is l)) ∙ h.whole) n e
      (ap₂ (λ a b. right_parts a b c s (items_data (drop (k + 1) ts))) (one_more x x' z) (one_more y y' z'));
}

pub right_all : (total : List PartData) (c : Claim) (s : Tm) (ts : List (Bor Term)) (parts : List Part) (x y k : ℕ) → PutRight total c s ts parts x y k
    → length ts ≤ k → parts_data parts ≡ total
right_all total c s ts parts x y k h l =
    sym (append-nil (parts_data parts)) ∙ ap (λ l. parts_data parts ++ right_parts x y c s (items_data l)) (sym (drop_end ts k l)) ∙ h.whole

pub pairs_next : (total : List PartData) (c : Claim) (ss ts : List (Bor Term)) (old new : List Part) (p : Part) (u w : Bor Term) (x x' y y' k : ℕ)
    → PutPairs total c ss ts old x y k → k < length ss → u ≡ get_or ss k u → k < length ts → w ≡ get_or ts k w → part_data p ≡ part_of x y c (tm u.now) (tm w.now)
    → new ≡ old ++ p ∷ [] → x' ≡ x + 1 → y' ≡ y + 1 → PutPairs total c ss ts new x' y' (k + 1)
pairs_next total c ss ts old new p u w x x' y y' k h l is m at e n z z' = record {
  whole = step total old new p (part_of x y c (tm u.now) (tm w.now)) (pair_parts (suc x) (suc y) c (items_data (drop (k + 1) ss)) (items_data (drop (k + 1) ts)))
      (pair_parts x' y' c (items_data (drop (k + 1) ss)) (items_data (drop (k + 1) ts)))
      (ap₂ (λ l m. parts_data old ++ pair_parts x y c (items_data l) (items_data m)) (sym (drop_at ss k u is l)) (sym (drop_at ts k w at m)) ∙ h.whole) n e
      (ap₂ (λ a b. pair_parts a b c (items_data (drop (k + 1) ss)) (items_data (drop (k + 1) ts))) (one_more x x' z) (one_more y y' z'));
}

pub pairs_all : (total : List PartData) (c : Claim) (ss ts : List (Bor Term)) (parts : List Part) (x y k : ℕ) → PutPairs total c ss ts parts x y k
    → (length ss ≤ k) ⊎ (length ts ≤ k) → parts_data parts ≡ total
pairs_all total c ss ts parts x y k h (inl l) =
    sym (append-nil (parts_data parts)) ∙ ap (λ l. parts_data parts ++ pair_parts x y c (items_data l) (items_data (drop k ts))) (sym (drop_end ss k l)) ∙ h.whole
pairs_all total c ss ts parts x y k h (inr l) =
    sym (append-nil (parts_data parts)) ∙ ap (λ l. parts_data parts ++ l) (sym (none_right x y c (items_data (drop k ss))))
    ∙ ap (λ l. parts_data parts ++ pair_parts x y c (items_data (drop k ss)) (items_data l)) (sym (drop_end ts k l)) ∙ h.whole
  where
    none_right : (x y : ℕ) (c : Claim) (ss : List Tm) → pair_parts x y c ss [] ≡ []
    none_right x y c [] = refl
    none_right x y c (s ∷ ss) = refl
