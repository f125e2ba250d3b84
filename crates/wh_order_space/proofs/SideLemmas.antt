-- Demands of rules and pairs, one after another.
use Rattle.std.proofs.Common.{Box, Global, ◌≡◌, ℕ, zero, suc, ◌+◌, ◌<◌, ◌≤◌, ◌&&◌, ◌||◌, inl, inr, Bool, true, false, List, [], ◌∷◌, length, map, get_or, refl, ap, ◌∙◌, sym, subst, Option, Some, Result, Ok, Err, IfOk, slice_get, Contains, arith}
use Rattle.std.specs.declared.alloc.AllocError.{AllocError}
use Rattle.std.proofs.lemmas.Bool.{cases_eq}
use Rattle.wh_terms.specs.Erase.{tm}
use Rattle.wh_terms.specs.Tree.{Tm}
use Rattle.wh_terms.specs.Rules.{RewriteRule}
use Rattle.wh_terms.specs.declared.term.Term.{Term}
use Rattle.wh_terms.specs.Typing.{Symbols}
use Rattle.wh_pairs.specs.PairData.{PairData, pair_data}
use Rattle.wh_pairs.specs.declared.pair.Pair.{Pair}
use Rattle.wh_reduction_pairs.specs.TaskData.{TaskData}
use Rattle.wh_order_extended.specs.ExtendedSides.{extended_side, extended_metas}
use Rattle.wh_order_extended.specs.Filtered.{collapsed}
use Rattle.wh_order_node.specs.Filterings.{FilteringData, filters_of, filtered_signature}
use Rattle.wh_order.specs.TreeSides.{extended_pair_side}
use Rattle.wh_order_lines.specs.Oriented.{OrientsRule, OrientsPair, OrientsStrictly}
use Rattle.wh_order_demands.specs.declared.claim.Claim.{Claim}
use Rattle.wh_order_demands.specs.declared.claim.Claim.TheVariants.{Greater, AtLeast}
use Rattle.wh_order_demands.specs.declared.demand.Demand.{Demand}
use Rattle.wh_order_demands.specs.declared.demand.Demand.TheVariants.{Always, Never}
use Rattle.wh_order_demands.specs.declared.view.Spot.{Spot}
use Rattle.wh_order_demands.specs.Demands.{holds}
use Rattle.wh_order_demands.specs.Claims.{Holds, IsPossible}
use Rattle.wh_order_demands.specs.OrderDemands.{IsOrderDemand}
use Rattle.wh_order_demands.proofs.ClaimLemmas.{at_least_holds, greater_holds}
use Rattle.wh_order_space.specs.Circuited.{IsDemandOfSet, IsDemandOfSome, IsClaimOfRule, IsClaimOfPair, IsSide}
use Rattle.wh_order_demands.proofs.OrderLemmas.{both_true, or_left, or_right}

-- an oriented rule, and an oriented pair
rule_holds : (S : Symbols) (rules : List RewriteRule) (D : FilteringData) (r : RewriteRule) → OrientsRule S rules D r
    → Holds (filters_of S D) AtLeast (extended_side S r r.left) (extended_side S r r.right)
rule_holds S rules D r (i, good, _) = at_least_holds (filters_of S D) (filtered_signature S rules D) (collapsed (extended_metas S r)) 0 (extended_side S r r.left) (extended_side S r r.right) i good

pair_holds : (S : Symbols) (rules : List RewriteRule) (D : FilteringData) (p : PairData) → OrientsPair S rules D p
    → Holds (filters_of S D) AtLeast (extended_pair_side S p false) (extended_pair_side S p true)
pair_holds S rules D p (i, good, _) = at_least_holds (filters_of S D) (filtered_signature S rules D) (collapsed p.metas) 0 (extended_pair_side S p false) (extended_pair_side S p true) i good

strictly_holds : (S : Symbols) (rules : List RewriteRule) (D : FilteringData) (p : PairData) → OrientsStrictly S rules D p
    → Holds (filters_of S D) Greater (extended_pair_side S p false) (extended_pair_side S p true)
strictly_holds S rules D p (i, good, _, differ) =
    greater_holds (filters_of S D) (filtered_signature S rules D) (collapsed p.metas) 0 (extended_pair_side S p false) (extended_pair_side S p true) i good differ

get_same : (xs : List ℕ) (k d e : ℕ) → k < length xs → get_or xs k d ≡ get_or xs k e
get_same [] k d e l = absurd (omega (arith, l))
get_same (x ∷ xs) zero d e l = refl
get_same (x ∷ xs) (suc k) d e l = get_same xs k d e (omega (arith, l))

contains_at : (xs : List ℕ) (k n : ℕ) → n ≡ get_or xs k 0 → k < length xs → Contains xs n
contains_at xs k n e l = (k, l, get_same xs k n 0 l ∙ sym e)

pub number_at : (xs : List ℕ) (k n : ℕ) → n ≡ get_or xs k 0 → k < length xs → slice_get xs k ≡ Some n
number_at [] k n e l = absurd (omega (arith, l))
number_at (x ∷ xs) zero n e l = ap Some (sym e)
number_at (x ∷ xs) (suc k) n e l = number_at xs k n e (omega (arith, l))

one_of : {A : Type 0} {a b : A} → Some a ≡ Some b → a ≡ b
one_of e = cc

module _ (T : TaskData) (spots : List (Option Spot)) where
  pub set_none : IsDemandOfSet T spots Always
  set_none v D n say go = refl

  pub set_rule : (k n : ℕ) (found own made : Demand) → n ≡ get_or T.covered k 0 → k < length T.covered → IsDemandOfSet T spots found → IsClaimOfRule T spots n own
      → ((v : ℕ → Bool) → holds v made ≡ (holds v found && holds v own)) → IsDemandOfSet T spots made
  set_rule k n found own made e l before claim is v D m say go =
      is v ∙ both_true (before v D m say go) (claim v (filters_of T.symbols D) say (λ r at. rule_holds T.symbols T.rules D r (go.rules n r (contains_at T.covered k n e l) at)))

  pub set_pair : (k n : ℕ) (found own made : Demand) → n ≡ get_or T.set k 0 → k < length T.set → IsDemandOfSet T spots found → IsClaimOfPair T spots AtLeast n own
      → ((v : ℕ → Bool) → holds v made ≡ (holds v found && holds v own)) → IsDemandOfSet T spots made
  set_pair k n found own made e l before claim is v D m say go =
      is v ∙ both_true (before v D m say go) (claim v (filters_of T.symbols D) say (λ p at. pair_holds T.symbols T.rules D p (go.pairs n p (contains_at T.set k n e l) at)))

  pub some_none : IsDemandOfSome T spots 0 Never
  some_none v D j n say go l at = absurd (omega (arith, l))

  pub some_pair : (k n : ℕ) (found own made : Demand) → n ≡ get_or T.set k 0 → k < length T.set → IsDemandOfSome T spots k found → IsClaimOfPair T spots Greater n own
      → ((v : ℕ → Bool) → holds v made ≡ (holds v found || holds v own)) → IsDemandOfSome T spots (k + 1) made
  some_pair k n found own made e l before claim is v D j m say go less at = is v ∙ elim (cases_eq j k) [
    | inl same ↦
        let number : m ≡ n = one_of (sym at ∙ ap (slice_get T.set) same ∙ number_at T.set k n e l) in
        or_right (holds v found) (claim v (filters_of T.symbols D) say (λ p there.
        let one : go.pair ≡ p = one_of (sym go.is ∙ ap (slice_get T.pairs) number ∙ there) in
        strictly_holds T.symbols T.rules D p (subst (OrientsStrictly T.symbols T.rules D) one go.strictly)))
    | inr ne ↦ or_left _ (before v D j m say go (omega (arith, less, ne)) at)
  ]

  pub some_all : (k : ℕ) (d : Demand) → length T.set ≤ k → IsDemandOfSome T spots k d → IsDemandOfSet T spots d
  some_all k d l h v D n say go =
      let (j, within, e) = go.in_set in
      h v D j n say go (omega (arith, l, within)) (number_at T.set j n (sym e ∙ get_same T.set j n 0 within) within)

  pub set_both : (a b made : Demand) → IsDemandOfSet T spots a → IsDemandOfSet T spots b → ((v : ℕ → Bool) → holds v made ≡ (holds v a && holds v b)) → IsDemandOfSet T spots made
  set_both a b made p q is v D n say go = is v ∙ both_true (p v D n say go) (q v D n say go)

  -- nothing is demanded
  pub nothing_of_rule : (k : ℕ) → IsClaimOfRule T spots k Always
  nothing_of_rule k v Φ say h = refl

  pub nothing_of_pair : (c : Claim) (k : ℕ) → IsClaimOfPair T spots c k Always
  nothing_of_pair c k v Φ say h = refl

  pub claim_of_rule : (k : ℕ) (r : RewriteRule) (s t : Tm) (d : Demand) → slice_get T.rules k ≡ Some r → s ≡ extended_side T.symbols r r.left → t ≡ extended_side T.symbols r r.right
      → IsPossible spots AtLeast s t d → IsClaimOfRule T spots k d
  claim_of_rule k r s t d at left right possible v Φ say h =
      possible v Φ say (subst (λ s. Holds Φ AtLeast s t) (sym left) (subst (λ t. Holds Φ AtLeast (extended_side T.symbols r r.left) t) (sym right) (h r at)))

  pub claim_of_pair : (c : Claim) (k : ℕ) (p : PairData) (s t : Tm) (d : Demand) → slice_get T.pairs k ≡ Some p → s ≡ extended_pair_side T.symbols p false
      → t ≡ extended_pair_side T.symbols p true → IsPossible spots c s t d → IsClaimOfPair T spots c k d
  claim_of_pair c k p s t d at left right possible v Φ say h =
      possible v Φ say (subst (λ s. Holds Φ c s t) (sym left) (subst (λ t. Holds Φ c (extended_pair_side T.symbols p false) t) (sym right) (h p at)))

pub element_at : {A : Type 0} (xs : List A) (i : ℕ) → i < length xs → (x : A) × (slice_get xs i ≡ Some x)
element_at [] i l = absurd (omega (arith, l))
element_at (x ∷ xs) zero l = (x, refl)
element_at (x ∷ xs) (suc i) l = element_at xs i (omega (arith, l))

module _ (T : TaskData) (spots : List (Option Spot)) where
  -- the demand for the sides of a rule
  pub rule_told : (k : ℕ) (s t : Tm) (made : Result Demand AllocError) → k < length T.rules
      → ((r : RewriteRule) → slice_get T.rules k ≡ Some r → s ≡ extended_side T.symbols r r.left)
      → ((r : RewriteRule) → slice_get T.rules k ≡ Some r → t ≡ extended_side T.symbols r r.right)
      → IfOk made (IsPossible spots AtLeast s t) → IfOk made (IsClaimOfRule T spots k)
  rule_told k s t (Err e) within left right possible = tt
  rule_told k s t (Ok d) within left right possible =
      let (r, at) = element_at T.rules k within in
      claim_of_rule T spots k r s t d at (left r at) (right r at) possible

  -- and for those of a pair
  pub pair_told : (c : Claim) (k : ℕ) (p : PairData) (s t : Tm) (made : Result Demand AllocError) → slice_get T.pairs k ≡ Some p
      → s ≡ extended_pair_side T.symbols p false → t ≡ extended_pair_side T.symbols p true
      → IfOk made (IsPossible spots c s t) → IfOk made (IsClaimOfPair T spots c k)
  pair_told c k p s t (Err e) at left right possible = tt
  pair_told c k p s t (Ok d) at left right possible = claim_of_pair T spots c k p s t d at left right possible

  -- what the bits of every order meet
  pub set_orders : (d : Demand) → IsOrderDemand spots d → IsDemandOfSet T spots d
  set_orders d met v D n say go = met v (filters_of T.symbols D) say

  -- and all of them
  pub set_told : (a b : Demand) (made : Result Demand AllocError) → IsDemandOfSet T spots a → IsDemandOfSet T spots b
      → IfOk made (λ d. (v : ℕ → Bool) → holds v d ≡ (holds v a && holds v b)) → IfOk made (IsDemandOfSet T spots)
  set_told a b (Err e) p q is = tt
  set_told a b (Ok d) p q is = set_both T spots a b d p q is

-- a pair of the program at a place
pub pair_there : (ps : List Pair) (k : ℕ) (d : Pair) → k < length ps → slice_get (map pair_data ps) k ≡ Some (pair_data (get_or ps k d))
pair_there [] k d l = absurd (omega (arith, l))
pair_there (q ∷ ps) zero d l = refl
pair_there (q ∷ ps) (suc k) d l = pair_there ps k d (omega (arith, l))

pub mapped_length : {A B : Type 0} (f : A → B) (xs : List A) → length (map f xs) ≡ length xs
mapped_length f [] = refl
mapped_length f (x ∷ xs) = ap suc (mapped_length f xs)

-- between two sides, where the claim of a rule or of a pair is of these
pub between_rule : (T : TaskData) (spots : List (Option Spot)) (k : ℕ) (from to : Option (Box Term Global)) (made : Result Demand AllocError) → k < length T.rules
    → ((r : RewriteRule) → slice_get T.rules k ≡ Some r → IsSide (extended_side T.symbols r r.left) from)
    → ((r : RewriteRule) → slice_get T.rules k ≡ Some r → IsSide (extended_side T.symbols r r.right) to)
    → ((s t : Tm) → IsSide s from → IsSide t to → IfOk made (IsPossible spots AtLeast s t)) → IfOk made (IsClaimOfRule T spots k)
between_rule T spots k from to made within left right is =
    let (r, at) = element_at T.rules k within in
    rule_told T spots k (extended_side T.symbols r r.left) (extended_side T.symbols r r.right) made within (λ q there. ap (λ (r : RewriteRule). extended_side T.symbols r r.left) (one_of (sym at ∙ there)))
    (λ q there. ap (λ (r : RewriteRule). extended_side T.symbols r r.right) (one_of (sym at ∙ there)))
    (is (extended_side T.symbols r r.left) (extended_side T.symbols r r.right) (left r at) (right r at))

pub between_pair : (T : TaskData) (spots : List (Option Spot)) (c : Claim) (k : ℕ) (p : PairData) (from to : Option (Box Term Global)) (made : Result Demand AllocError)
    → slice_get T.pairs k ≡ Some p → IsSide (extended_pair_side T.symbols p false) from → IsSide (extended_pair_side T.symbols p true) to
    → ((s t : Tm) → IsSide s from → IsSide t to → IfOk made (IsPossible spots c s t)) → IfOk made (IsClaimOfPair T spots c k)
between_pair T spots c k p from to made at left right is =
    pair_told T spots c k p (extended_pair_side T.symbols p false) (extended_pair_side T.symbols p true) made at refl refl
    (is (extended_pair_side T.symbols p false) (extended_pair_side T.symbols p true) left right)

-- the claim for two sides
pub sides_told : (spots : List (Option Spot)) (c : Claim) (from to : Option (Box Term Global)) (a b : Box Term Global) (x y : Term) (made : Result Demand AllocError)
    → from ≡ Some a → to ≡ Some b → x ≡ a.value → y ≡ b.value → IfOk made (IsPossible spots c (tm x) (tm y))
    → (s t : Tm) → IsSide s from → IsSide t to → IfOk made (IsPossible spots c s t)
sides_told spots c from to a b x y (Err e) left right here there is s t first second = tt
sides_told spots c from to a b x y (Ok d) left right here there is s t first second =
    let from_is : tm x ≡ s = ap tm here ∙ subst (IsSide s) left first in
    let to_is : tm y ≡ t = ap tm there ∙ subst (IsSide t) right second in
    subst (λ s. IsPossible spots c s t d) from_is (subst (λ t. IsPossible spots c (tm x) t d) to_is is)

pub no_claim : (spots : List (Option Spot)) (c : Claim) (s t : Tm) → IsPossible spots c s t Always
no_claim spots c s t v Φ say h = refl
