-- What is left of a room beyond trees, and beyond the elements of a list one after another.
use Rattle.std.proofs.Common.{◌≡◌, ℕ, ◌+◌, ◌≤◌, Option, Some, None, List, [], ◌∷◌, length, take, map, sum_by, Contains, slice_get, refl, ap, sym, subst, ◌∙◌, arith}
use Rattle.std.proofs.lemmas.List.Sums.{sum_by_more, sum_by_more_le, sum_by-cons}
use Rattle.std.proofs.lemmas.List.{take_all}
use Rattle.std.proofs.lemmas.Option.{slice_get_within, get_or_from_slice_get}
use Rattle.std.specs.Option.{option_map_or}
use Rattle.wh_terms.specs.Budget.{Left}
use Rattle.wh_terms.specs.Erase.{tm, tms}
use Rattle.wh_terms.specs.Tree.{meta, Tms, none, more, tms_of}
use Rattle.wh_terms.specs.Typing.{Symbols, Declared}
use Rattle.wh_terms.specs.Rules.{RewriteRule}
use Rattle.wh_terms.specs.declared.term.Term.{Term}
use Rattle.wh_pairs.specs.PairData.{PairData}
use Rattle.wh_pairs.specs.Sets.{InSet}
use Rattle.wh_pairs.proofs.ByPlace.{some_one, Before, before_more, before_all, contains_at}
use Rattle.wh_usable_first_order.proofs.Lists.{all_flat, flat_each}
use Rattle.wh_usable_first_order.specs.FirstOrder.{IsFlatTree, AreFlatTrees, IsNullary}
use Rattle.wh_poly_flat.specs.Flat.{IsFlatPair, IsFlatRule, IsListed, occurrences, occurrences_in, occurrences_at, pair_occurrences, rule_occurrences, rule_occurrences_at}

-- the same said in other words
pub left_as : (room m n : ℕ) (P Q : Type 0) → m ≡ n → (P → Q) → (Q → P) → (answer : Option ℕ) → Left room m P answer → Left room n Q answer
left_as room m n P Q e to from None h = λ q. h (from q)
left_as room m n P Q e to from (Some rest) h = (to h.0, omega (arith, e, h.1))

pub no_trees : (ts : List Term) → tms ts ≡ none → length ts ≡ 0
no_trees [] e = refl
no_trees (t ∷ ts) e = cc

-- beyond a meta-variable
pub left_meta : (S : Symbols) (M : List Declared) (z : ℕ) (ts : Tms) (room : ℕ) (answer : Option ℕ)
    → Left room 1 ((ts ≡ none) × IsNullary M z × (1 ≤ room)) answer
    → Left room (occurrences (meta z ts)) (IsFlatTree S M (meta z ts) × (occurrences (meta z ts) ≤ room)) answer
left_meta S M z none room None h = λ (flat, some). h (refl, flat, omega (arith, some))
left_meta S M z (more t ts) room None h = λ (flat, some). flat
left_meta S M z none room (Some rest) ((e, flat, some), adds) = ((flat, omega (arith, some)), omega (arith, adds))
left_meta S M z (more t ts) room (Some rest) ((e, flat, some), adds) = cc

-- a walk over a list, of which Q has to hold of each element, where f tells how much occurs in it
module _ {A : Type 0} (Q : A → Type 0) (f : A → ℕ) (xs : List A) (room : ℕ) where
  -- what is left beyond all elements, and beyond those before a place
  abbrev pub Whole : Option ℕ → Type 0
  Whole answer = Left room (sum_by f xs) (((x : A) → Contains xs x → Q x) × (sum_by f xs ≤ room)) answer

  pub record Passed (i rest : ℕ) : Type 0 where
    pub each : Before Q xs i
    pub adds : rest + sum_by f (take i xs) ≡ room

  sum_next : (i : ℕ) (x : A) → slice_get xs i ≡ Some x
      → (sum_by f (take (i + 1) xs) ≡ sum_by f (take i xs) + f x) × (sum_by f (take i xs) + f x ≤ sum_by f xs)
  sum_next i x at =
      let within = slice_get_within xs i x at in
      let same = ap f (get_or_from_slice_get xs i x x at) in
      let next = sum_by_more f xs i x within in
      let less = sum_by_more_le f xs i x within in
      (omega (arith, next, same), omega (arith, less, same))

  pub walk_next : (i rest left : ℕ) (x : A) → slice_get xs i ≡ Some x → Passed i rest → Left rest (f x) (Q x × (f x ≤ rest)) (Some left) → Passed (i + 1) left
  walk_next i rest left x at passed here =
      let next = (sum_next i x at).0 in
      record { each = before_more Q xs i x passed.each at here.0.0; adds = omega (arith, next, passed.adds, here.1) }

  pub walk_stops : (i rest : ℕ) (x : A) → slice_get xs i ≡ Some x → Passed i rest → Left rest (f x) (Q x × (f x ≤ rest)) None → Whole None
  walk_stops i rest x at passed here (all, few) =
      let less = (sum_next i x at).1 in
      here (all x (contains_at xs i x at), omega (arith, less, few, passed.adds))

  pub walk_ends : (i rest : ℕ) → length xs ≤ i → Passed i rest → Whole (Some rest)
  walk_ends i rest end passed =
      let all = ap (sum_by f) (take_all i xs end) in
      let adds = passed.adds in
      ((λ x found. before_all Q xs i x passed.each end found, omega (arith, adds, all)), omega (arith, adds, all))

-- trees

pub occurrences_sum : (ts : List Term) → sum_by (λ t. occurrences (tm t)) ts ≡ occurrences_in (tms_of (map tm ts))
occurrences_sum [] = refl
occurrences_sum (t ∷ ts) = sum_by-cons (λ t. occurrences (tm t)) t ts ∙ ap (λ n. occurrences (tm t) + n) (occurrences_sum ts)

module _ (S : Symbols) (M : List Declared) where
  pub left_trees : (ts : List Term) (room : ℕ) (answer : Option ℕ) → Whole (λ t. IsFlatTree S M (tm t)) (λ t. occurrences (tm t)) ts room answer
      → Left room (occurrences_in (tms_of (map tm ts))) (AreFlatTrees S M (map tm ts) × (occurrences_in (tms_of (map tm ts)) ≤ room)) answer
  left_trees ts room answer h =
      let e = occurrences_sum ts in
      left_as room (sum_by (λ t. occurrences (tm t)) ts) (occurrences_in (tms_of (map tm ts))) (((t : Term) → Contains ts t → IsFlatTree S M (tm t)) × (sum_by (λ t. occurrences (tm t)) ts ≤ room))
      (AreFlatTrees S M (map tm ts) × (occurrences_in (tms_of (map tm ts)) ≤ room)) e
      (λ (each, few). (all_flat S M ts each, omega (arith, few, e))) (λ (flat, few). (flat_each S M ts flat, omega (arith, few, e))) answer h

-- pairs of a set

-- the pair with this number is flat
abbrev pub IsFlatAt : Symbols → List PairData → ℕ → Type 0
IsFlatAt S pairs n = (p : PairData) → slice_get pairs n ≡ Some p → IsFlatPair S p

module _ (S : Symbols) (pairs : List PairData) where
  pub left_at : (n rest : ℕ) (p : PairData) → slice_get pairs n ≡ Some p → (answer : Option ℕ)
      → Left rest (pair_occurrences p) (IsFlatPair S p × (pair_occurrences p ≤ rest)) answer
      → Left rest (occurrences_at pairs n) (IsFlatAt S pairs n × (occurrences_at pairs n ≤ rest)) answer
  left_at n rest p at answer h =
      let e : pair_occurrences p ≡ occurrences_at pairs n = ap (λ (o : Option PairData). option_map_or pair_occurrences o 0) (sym at) in
      left_as rest (pair_occurrences p) (occurrences_at pairs n) (IsFlatPair S p × (pair_occurrences p ≤ rest))
      (IsFlatAt S pairs n × (occurrences_at pairs n ≤ rest)) e
      (λ (flat, few). ((λ q there. subst (IsFlatPair S) (some_one at there) flat), omega (arith, few, e)))
      (λ (flat, few). (flat p at, omega (arith, few, e))) answer h

  pub left_pairs : (set : List ℕ) (room : ℕ) (answer : Option ℕ) → Whole (IsFlatAt S pairs) (occurrences_at pairs) set room answer
      → Left room (sum_by (occurrences_at pairs) set)
      (((p : PairData) → InSet pairs set p → IsFlatPair S p) × (sum_by (occurrences_at pairs) set ≤ room)) answer
  left_pairs set room answer h =
      left_as room (sum_by (occurrences_at pairs) set) (sum_by (occurrences_at pairs) set)
      (((n : ℕ) → Contains set n → IsFlatAt S pairs n) × (sum_by (occurrences_at pairs) set ≤ room))
      (((p : PairData) → InSet pairs set p → IsFlatPair S p) × (sum_by (occurrences_at pairs) set ≤ room)) refl
      (λ (each, few). ((λ p (n, found, there). each n found p there), few))
      (λ (flat, few). ((λ n found p there. flat p (n, found, there)), few)) answer h

-- rules of a list

-- the rule with this number is flat
abbrev pub IsFlatRuleAt : Symbols → List RewriteRule → ℕ → Type 0
IsFlatRuleAt S rules n = (r : RewriteRule) → slice_get rules n ≡ Some r → IsFlatRule S r

module _ (S : Symbols) (rules : List RewriteRule) where
  pub left_rule_at : (n rest : ℕ) (r : RewriteRule) → slice_get rules n ≡ Some r → (answer : Option ℕ)
      → Left rest (rule_occurrences r) (IsFlatRule S r × (rule_occurrences r ≤ rest)) answer
      → Left rest (rule_occurrences_at rules n) (IsFlatRuleAt S rules n × (rule_occurrences_at rules n ≤ rest)) answer
  left_rule_at n rest r at answer h =
      let e : rule_occurrences r ≡ rule_occurrences_at rules n = ap (λ (o : Option RewriteRule). option_map_or rule_occurrences o 0) (sym at) in
      left_as rest (rule_occurrences r) (rule_occurrences_at rules n) (IsFlatRule S r × (rule_occurrences r ≤ rest))
      (IsFlatRuleAt S rules n × (rule_occurrences_at rules n ≤ rest)) e
      (λ (flat, few). ((λ q there. subst (IsFlatRule S) (some_one at there) flat), omega (arith, few, e)))
      (λ (flat, few). (flat r at, omega (arith, few, e))) answer h

  pub left_rules : (listed : List ℕ) (room : ℕ) (answer : Option ℕ) → Whole (IsFlatRuleAt S rules) (rule_occurrences_at rules) listed room answer
      → Left room (sum_by (rule_occurrences_at rules) listed)
      (((r : RewriteRule) → IsListed rules listed r → IsFlatRule S r) × (sum_by (rule_occurrences_at rules) listed ≤ room)) answer
  left_rules listed room answer h =
      left_as room (sum_by (rule_occurrences_at rules) listed) (sum_by (rule_occurrences_at rules) listed)
      (((n : ℕ) → Contains listed n → IsFlatRuleAt S rules n) × (sum_by (rule_occurrences_at rules) listed ≤ room))
      (((r : RewriteRule) → IsListed rules listed r → IsFlatRule S r) × (sum_by (rule_occurrences_at rules) listed ≤ room)) refl
      (λ (each, few). ((λ r (n, found, there). each n found r there), few))
      (λ (flat, few). ((λ n found r there. flat r (n, found, there)), few)) answer h
