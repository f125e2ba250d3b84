-- Lists of at most so many numbers do not go down for ever, and the lists of measures are as short as there are nodes.
use Rattle.std.proofs.Common.{◌≡◌, ℕ, zero, suc, ◌<◌, ◌≤◌, inl, inr, List, [], ◌∷◌, ◌++◌, length, Contains, sym, subst, arith}
use Rattle.wh_terms.specs.Typing.{Symbols}
use Rattle.wh_terms.specs.Rules.{RewriteRule}
use Rattle.wh_step_laws.specs.Ends.{Ends, ends}
use Rattle.wh_pairs.specs.PairData.{PairData}
use Rattle.wh_pairs.proofs.MemberLemmas.{none_there, at_head, behind, head_or_behind}
use Rattle.wh_poly_meaning.specs.PairCovers.{worth_of}
use Rattle.wh_proof.specs.Nodes.{Node}
use Rattle.wh_proof_calls.specs.MarkedCalls.{MarkedCall}
use Rattle.wh_law_projection.specs.LongestSequences.{IsBoundedCall}
use Rattle.wh_law_measures.specs.Lexicographic.{IsLess, LeadsDown}
use Rattle.wh_law_measures.specs.Measures.{Measure, IsBlocksList}
use Rattle.wh_law_measures.specs.NodeMeasures.{AreMeasures, no_measures, of_done, of_alone, of_blocks, of_subterm, of_poly, of_listed}

-- no list goes down for ever

none_below_empty : (m : List ℕ) → IsLess m [] → ⊥
none_below_empty [] less = less
none_below_empty (b ∷ m) less = less

none_empty : (m l : List ℕ) → length m ≤ 0 → IsLess m l → ⊥
none_empty [] [] le less = less
none_empty [] (a ∷ l) le less = less
none_empty (b ∷ m) l le less = omega arith

below_head : (n a : ℕ) (l : List ℕ) → ((b : ℕ) → b < a → (m : List ℕ) → Ends (LeadsDown (suc n)) (b ∷ m))
    → ((m : List ℕ) → LeadsDown n l m → Ends (LeadsDown (suc n)) (a ∷ m)) → (m : List ℕ) → length m ≤ suc n → IsLess m (a ∷ l)
    → Ends (LeadsDown (suc n)) m
below_head n a l smaller later [] le less = absurd less
below_head n a l smaller later (b ∷ m) le (inl less) = smaller b less m
below_head n a l smaller later (b ∷ m) le (inr (same, less)) =
    subst (λ k. Ends (LeadsDown (suc n)) (k ∷ m)) (sym same) (later m (omega arith, less))

behind_head : (n a : ℕ) → ((b : ℕ) → b < a → (m : List ℕ) → Ends (LeadsDown (suc n)) (b ∷ m)) → (l : List ℕ) → Ends (LeadsDown n) l
    → Ends (LeadsDown (suc n)) (a ∷ l)
behind_head n a smaller l (ends k) =
    ends (λ m (le, less). below_head n a l smaller (λ o s. behind_head n a smaller o (k o s)) m le less)

headed_ends : (n : ℕ) → ((l : List ℕ) → Ends (LeadsDown n) l) → (k a : ℕ) → a < k → (l : List ℕ) → Ends (LeadsDown (suc n)) (a ∷ l)
headed_ends n rest zero a h l = absurd (omega arith)
headed_ends n rest (suc k) a h l = behind_head n a (λ b less m. headed_ends n rest k b (omega arith) m) l (rest l)

pub lists_end : (n : ℕ) (l : List ℕ) → Ends (LeadsDown n) l
lists_end zero l = ends (λ m (le, less). absurd (none_empty m l le less))
lists_end (suc n) [] = ends (λ m (le, less). absurd (none_below_empty m less))
lists_end (suc n) (a ∷ l) = headed_ends n (λ m. lists_end n m) (suc a) a (omega arith) l

-- the lists of measures

module _ (S : Symbols) (rules : List RewriteRule) (pairs : List PairData) where
  -- the measure gives no call more than n numbers
  abbrev IsShort : ℕ → Measure S rules → Type 0
  IsShort n f = (c : MarkedCall) (good : IsBoundedCall S rules c) → length (f c good) ≤ n

  abbrev AreShort : ℕ → List (Measure S rules) → Type 0
  AreShort n fs = (f : Measure S rules) → Contains fs f → IsShort n f

  more_short : (n m : ℕ) (f : Measure S rules) (fs : List (Measure S rules)) → n ≤ m → IsShort m f → AreShort n fs → AreShort m (f ∷ fs)
  more_short n m f fs le first rest g found = elim (head_or_behind fs f g found) [
    | inl same ↦ subst (IsShort m) same first
    | inr later ↦ λ c good. let h = rest g later c good in omega arith
  ]

  rest_short : (n : ℕ) (f : Measure S rules) (fs : List (Measure S rules)) → AreShort n (f ∷ fs) → AreShort n fs
  rest_short n f fs all g found = all g (behind fs f g found)

  split_short : (n : ℕ) (gs fs : List (Measure S rules)) → AreShort n (gs ++ fs) → AreShort n gs × AreShort n fs
  split_short n [] fs all = (λ g found. absurd (none_there g found), all)
  split_short n (g ∷ gs) fs all =
      let (here, there) = split_short n gs fs (rest_short n g (gs ++ fs) all) in
      (more_short n n g gs (omega arith) (all g (at_head (gs ++ fs) g)) here, there)

  blocks_short : (n : ℕ) (parts : List (List ℕ)) (gs : List (Measure S rules)) (c : MarkedCall) (good : IsBoundedCall S rules c)
      (l : List ℕ) → AreShort n gs → IsBlocksList S rules pairs parts gs c good l → length l ≤ suc n
  blocks_short n [] gs c good l all e = subst (λ m. length m ≤ suc n) (sym e) (omega arith)
  blocks_short n (part ∷ parts) [] c good l all is = absurd is
  blocks_short n (part ∷ parts) (g ∷ gs) c good l all (inl (reach, e)) =
      let h = all g (at_head gs g) c good in
      subst (λ m. length m ≤ suc n) (sym e) (omega arith)
  blocks_short n (part ∷ parts) (g ∷ gs) c good l all (inr (not, rest)) =
      blocks_short n parts gs c good l (rest_short n g gs all) rest

  headed_short : (n a : ℕ) (l m : List ℕ) → l ≡ a ∷ m → length m ≤ n → length l ≤ suc n
  headed_short n a l m e le = subst (λ k. length k ≤ suc n) (sym e) (omega arith)

  pub measures_short : {sets : List (List ℕ)} {nodes : List Node} {fs : List (Measure S rules)} → AreMeasures S rules pairs sets nodes fs
      → AreShort (length nodes) fs
  measures_short no_measures = λ f found. absurd (none_there f found)
  measures_short (of_done {nodes = nodes} {fs = fs} {f = f} is are) =
      more_short (length nodes) (suc (length nodes)) f fs (omega arith)
      (λ c good. subst (λ m. length m ≤ suc (length nodes)) (sym (is c good)) (omega arith)) (measures_short are)
  measures_short (of_alone {nodes = nodes} {fs = fs} {f = f} is are) =
      more_short (length nodes) (suc (length nodes)) f fs (omega arith)
      (λ c good. headed_short (length nodes) (is c good).0 (f c good) [] (is c good).2 (omega arith)) (measures_short are)
  measures_short (of_blocks {parts = parts} {nodes = nodes} gs {fs = fs} {f = f} sets_are long is are) =
      let (here, there) = split_short (length nodes) gs fs (measures_short are) in
      more_short (length nodes) (suc (length nodes)) f fs (omega arith)
      (λ c good. blocks_short (length nodes) parts gs c good (f c good) here (is c good)) there
  measures_short (of_subterm {nodes = nodes} {fs = fs} {child = child} {f = f} kept is are) =
      let all = measures_short are in
      more_short (length nodes) (suc (length nodes)) f fs (omega arith)
      (λ c good. headed_short (length nodes) (is c good).0 (f c good) (child c good) (is c good).2 (all child (at_head fs child) c good))
      (rest_short (length nodes) child fs all)
  measures_short (of_poly {R = R} {nodes = nodes} {fs = fs} {child = child} {f = f} kept whole is are) =
      let all = measures_short are in
      more_short (length nodes) (suc (length nodes)) f fs (omega arith)
      (λ c good. headed_short (length nodes) (worth_of S rules R c) (f c good) (child c good) (is c good) (all child (at_head fs child) c good))
      (rest_short (length nodes) child fs all)
  measures_short (of_listed {nodes = nodes} {fs = fs} {child = child} {f = f} kept listed is are) =
      let all = measures_short are in
      more_short (length nodes) (suc (length nodes)) f fs (omega arith)
      (λ c good. headed_short (length nodes) (is c good).0 (f c good) (child c good) (is c good).2 (all child (at_head fs child) c good))
      (rest_short (length nodes) child fs all)
