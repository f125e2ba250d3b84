-- The least of some numbers.
use Rattle.std.proofs.Common.{◌≡◌, ℕ, ◌+◌, ◌<◌, ◌≤◌, nat_le, ◌⊎◌, inl, inr, true, false, cond, List, length, Option, Some, None, slice_get, Contains, refl, ap, sym, subst, ◌∙◌, arith}
use Rattle.std.proofs.lemmas.Bool.Decides.{nat_tests}
use Rattle.std.proofs.lemmas.Option.{slice_get_within}
use Rattle.wh_graph.specs.Components.{StandsAt}
use Rattle.wh_graph.specs.Blocks.{IsListed}
use Rattle.wh_graph.specs.Least.{LeastOf, smaller}
use Rattle.wh_pairs.proofs.ByPlace.{some_one, contains_at, place_of, same_or_below}

pub least_same : (P R : ℕ → Type 0) → ((n : ℕ) → P n → R n) → ((n : ℕ) → R n → P n) → (o : Option ℕ) → LeastOf P o → LeastOf R o
least_same P R there back None least = λ n r. least n (back n r)
least_same P R there back (Some m) least = (there m least.0, λ n r. least.1 n (back n r))

least_le : (m n : ℕ) → (cond (nat_le m n) m n ≤ m) × (cond (nat_le m n) m n ≤ n)
least_le m n = grind (arith, nat_tests)

least_one : (P : ℕ → Type 0) (m n : ℕ) → P m → P n → P (cond (nat_le m n) m n)
least_one P m n p q = elim (nat_le m n) as (λ b. P (cond b m n)) [ true ↦ p | false ↦ q ]

-- of two kinds of numbers together the least is the smaller of the two least
pub least_smaller : (P Q R : ℕ → Type 0) → ((n : ℕ) → P n → R n) → ((n : ℕ) → Q n → R n) → ((n : ℕ) → R n → P n ⊎ Q n) → (a b : Option ℕ) → LeastOf P a → LeastOf Q b → LeastOf R (smaller a b)
least_smaller P Q R left right either None None least other =
    λ n r. elim (either n r) [ inl p ↦ least n p | inr q ↦ other n q ]
least_smaller P Q R left right either None (Some n) least other = (
  right n other.0,
  λ k r. elim (either k r) [ inl p ↦ absurd (least k p) | inr q ↦ other.1 k q ],
)
least_smaller P Q R left right either (Some m) None least other = (
  left m least.0,
  λ k r. elim (either k r) [ inl p ↦ least.1 k p | inr q ↦ absurd (other k q) ],
)
least_smaller P Q R left right either (Some m) (Some n) least other = (
  least_one R m n (left m least.0) (right n other.0),
  λ k r. elim (either k r) [
    | inl p ↦ omega (arith, least_le m n, least.1 k p)
    | inr q ↦ omega (arith, least_le m n, other.1 k q)
  ],
)

-- the numbers before a place of a list of which Q holds
abbrev pub Among : (ℕ → Type 0) → List ℕ → ℕ → ℕ → Type 0
Among Q list i n = (k : ℕ) × (k < i) × (slice_get list k ≡ Some n) × Q n

pub among_none : (Q : ℕ → Type 0) (list : List ℕ) → LeastOf (Among Q list 0) None
among_none Q list = λ n (k, below, at, q). omega arith

among_later : (Q : ℕ → Type 0) (list : List ℕ) (i n : ℕ) → Among Q list i n → Among Q list (i + 1) n
among_later Q list i n (k, below, at, q) = (k, omega arith, at, q)

among_cases : (Q : ℕ → Type 0) (list : List ℕ) (i m n : ℕ) → slice_get list i ≡ Some m → Among Q list (i + 1) n → Among Q list i n ⊎ ((n ≡ m) × Q m)
among_cases Q list i m n here (k, below, at, q) = elim (same_or_below k i below) [
  | inl same ↦ let one : n ≡ m = some_one (sym (ap (slice_get list) same) ∙ at) here in inr (one, subst Q one q)
  | inr less ↦ inl (k, less, at, q)
]

pub among_more : (Q : ℕ → Type 0) (list : List ℕ) (i m : ℕ) (a : Option ℕ) → LeastOf (Among Q list i) a → slice_get list i ≡ Some m → Q m → LeastOf (Among Q list (i + 1)) (smaller a (Some m))
among_more Q list i m a least here q =
    least_smaller (Among Q list i) (λ n. (n ≡ m) × Q m) (Among Q list (i + 1)) (among_later Q list i)
    (λ n (same, held). (i, omega arith, here ∙ ap Some (sym same), subst Q (sym same) held)) (λ n. among_cases Q list i m n here)
    a (Some m) least ((refl, q), λ n (same, held). omega arith)

pub among_skip : (Q : ℕ → Type 0) (list : List ℕ) (i m : ℕ) (a : Option ℕ) → LeastOf (Among Q list i) a → slice_get list i ≡ Some m → (Q m → ⊥) → LeastOf (Among Q list (i + 1)) a
among_skip Q list i m a least here other =
    least_same (Among Q list i) (Among Q list (i + 1)) (among_later Q list i)
    (λ n among. elim (among_cases Q list i m n here among) [ inl before ↦ before | inr (same, held) ↦ absurd (other held) ]) a least

pub among_all : (Q : ℕ → Type 0) (list : List ℕ) (i : ℕ) (a : Option ℕ) → length list ≤ i → LeastOf (Among Q list i) a → LeastOf (λ n. Contains list n × Q n) a
among_all Q list i a past least =
    least_same (Among Q list i) (λ n. Contains list n × Q n) (λ n (k, below, at, q). (contains_at list k n at, q))
    (λ n (found, q). let there = place_of list n found in
    let within = slice_get_within list there.0 n there.1 in (there.0, omega arith, there.1, q)) a least

-- the number n stands in one of the first i blocks, and Q holds of it
abbrev pub AmongBlocks : (ℕ → Type 0) → List (List ℕ) → ℕ → ℕ → Type 0
AmongBlocks Q blocks i n = (j k : ℕ) × (j < i) × StandsAt blocks j k n × Q n

pub blocks_none : (Q : ℕ → Type 0) (blocks : List (List ℕ)) → LeastOf (AmongBlocks Q blocks 0) None
blocks_none Q blocks = λ n (j, k, below, stands, q). omega arith

pub blocks_more : (Q : ℕ → Type 0) (blocks : List (List ℕ)) (i : ℕ) (block : List ℕ) (a b : Option ℕ) → LeastOf (AmongBlocks Q blocks i) a → slice_get blocks i ≡ Some block → LeastOf (λ n. Contains block n × Q n) b
    → LeastOf (AmongBlocks Q blocks (i + 1)) (smaller a b)
blocks_more Q blocks i block a b least here other =
    least_smaller (AmongBlocks Q blocks i) (λ n. Contains block n × Q n) (AmongBlocks Q blocks (i + 1)) (λ n (j, k, below, stands, q). (j, k, omega arith, stands, q))
    (λ n (found, q). let there = place_of block n found in (i, there.0, omega arith, (block, here, there.1), q))
    (λ n (j, k, below, (list, at, stands), q). elim (same_or_below j i below) [
      | inl same ↦
          let one : list ≡ block = some_one (sym (ap (slice_get blocks) same) ∙ at) here in
          inr (contains_at block k n (ap (λ l. slice_get l k) (sym one) ∙ stands), q)
      | inr less ↦ inl (j, k, less, (list, at, stands), q)
    ])
    a b least other

pub blocks_all : (Q : ℕ → Type 0) (blocks : List (List ℕ)) (i : ℕ) (a : Option ℕ) → length blocks ≤ i → LeastOf (AmongBlocks Q blocks i) a → LeastOf (λ n. IsListed blocks n × Q n) a
blocks_all Q blocks i a past least =
    least_same (AmongBlocks Q blocks i) (λ n. IsListed blocks n × Q n) (λ n (j, k, below, stands, q). ((j, (k, stands)), q))
    (λ n ((j, (k, (list, at, stands))), q). let within = slice_get_within blocks j list at in (j, k, omega arith, (list, at, stands), q)) a least
