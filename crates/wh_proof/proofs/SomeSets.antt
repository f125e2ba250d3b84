-- What is decided and bounded has its set of numbers: so have lists, all pairs, and what is not dropped.
use Rattle.std.proofs.Common.{◌≡◌, ◌↔◌, ℕ, zero, suc, ◌<◌, ◌⊎◌, inl, inr, List, [], ◌∷◌, ◌++◌, length, Contains, sym, subst, arith}
use Rattle.std.proofs.lemmas.Bool.{cases_lt}
use Rattle.wh_pairs.specs.PairData.{PairData}
use Rattle.wh_system.proofs.TypedDecided.{Decided, below_decided, both_decided}
use Rattle.wh_pairs.proofs.DropLemmas.{contains_or_not}
use Rattle.wh_proof.specs.Nodes.{AreSetsOf, no_sets, more_sets}
use Rattle.wh_pairs.specs.Sets.{IsSetOf, IsKept, IsWhole}
use Rattle.wh_pairs.proofs.Searches.{not_decided, bound_of}
use Rattle.wh_pairs.proofs.SetLemmas.{set_none, set_same, set_push}

abbrev Under : (ℕ → Type 0) → ℕ → ℕ → Type 0
Under P k n = (n < k) × P n

under_next : (P : ℕ → Type 0) (k : ℕ) → P k → (m : ℕ) → Under P (suc k) m ↔ (Under P k m ⊎ (m ≡ k))
under_next P k p m = (
  λ (less, q). elim (cases_lt m k) [ inl below ↦ inl (below, q) | inr le ↦ inr (omega (arith, less, le)) ],
  λ either. elim either [ inl (below, q) ↦ (omega (arith, below), q) | inr same ↦ (omega (arith, same), subst P (sym same) p) ],
)

under_same : (P : ℕ → Type 0) (k : ℕ) → (P k → ⊥) → (m : ℕ) → Under P k m ↔ Under P (suc k) m
under_same P k not m = (
  λ (less, q). (omega (arith, less), q),
  λ (less, q). elim (cases_lt m k) [
    | inl below ↦ (below, q)
    | inr le ↦ let same : m ≡ k = omega (arith, less, le) in absurd (not (subst P same q))
  ],
)

set_below : (P : ℕ → Type 0) → ((n : ℕ) → Decided (P n)) → (k : ℕ) → (set : List ℕ) × IsSetOf (Under P k) set
set_below P decided zero = ([], set_none (Under P zero) (λ n (less, p). omega (arith, less)))
set_below P decided (suc k) = go (set_below P decided k) (decided k)
  where
    go : (set : List ℕ) × IsSetOf (Under P k) set → Decided (P k) → (set : List ℕ) × IsSetOf (Under P (suc k)) set
    go (set, is) (inl p) = (set ++ k ∷ [], set_push (Under P k) (Under P (suc k)) set k is (λ m (less, q). less) (under_next P k p))
    go (set, is) (inr not) = (set, set_same (Under P k) (Under P (suc k)) set is (under_same P k not))

some_set : (P : ℕ → Type 0) → ((n : ℕ) → Decided (P n)) → (k : ℕ) → ((n : ℕ) → P n → n < k) → (set : List ℕ) × IsSetOf P set
some_set P decided k below =
    let (set, is) = set_below P decided k in
    (set, set_same (Under P k) P set is (λ n. (λ (less, p). p, λ p. (below n p, p))))

set_of_list : (ns : List ℕ) → (set : List ℕ) × IsSetOf (Contains ns) set
set_of_list ns = let (k, below) = bound_of ns in some_set (Contains ns) (contains_or_not ns) k below

pub sets_of_lists : (parts : List (List ℕ)) → (sets : List (List ℕ)) × AreSetsOf parts sets
sets_of_lists [] = ([], no_sets)
sets_of_lists (part ∷ parts) =
    let (set, is) = set_of_list part in
    let (sets, are) = sets_of_lists parts in
    (set ∷ sets, more_sets is are)

pub whole_set : (ps : List PairData) → (set : List ℕ) × IsWhole ps set
whole_set ps = some_set (λ n. n < length ps) (λ n. below_decided n (length ps)) (length ps) (λ n less. less)

pub kept_set : (set drop : List ℕ) → (rest : List ℕ) × IsSetOf (IsKept set drop) rest
kept_set set drop =
    let (k, below) = bound_of set in
    some_set (IsKept set drop) (λ n. both_decided (contains_or_not set n) (not_decided (contains_or_not drop n))) k (λ n (found, undropped). below n found)
