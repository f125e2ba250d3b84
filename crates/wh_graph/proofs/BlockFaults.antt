-- Blocks are right, or there is a first thing wrong with them.
use Rattle.std.proofs.Common.{◌≡◌, ℕ, zero, suc, ◌+◌, ◌<◌, ◌⊎◌, inl, inr, List, [], ◌∷◌, length, Option, Some, None, slice_get, Contains, refl, ap, subst, arith}
use Rattle.std.proofs.lemmas.Bool.{cases_lt}
use Rattle.std.proofs.lemmas.Option.{slice_get_within}
use Rattle.wh_system.proofs.TypedDecided.{Decided, below_decided, decided_by, both_decided}
use Rattle.wh_pairs.proofs.DropsDecided.{twice_decided}
use Rattle.wh_pairs.proofs.ByPlace.{some_one, contains_at, place_of}
use Rattle.wh_graph.specs.Components.{StandsAt, IsIn}
use Rattle.wh_graph.specs.Blocks.{AreFew, IsListed, IsRepeated, IsMisplaced, IsBackEdge, IsFirstBackEdge, AreBlocks, IsFirstBlockFault}
use Rattle.wh_graph.specs.declared.blocks.BlockFault.{BlockFault}
use Rattle.wh_graph.specs.declared.blocks.BlockFault.TheVariants.{FewBlocks, NotPartition, BackEdge}
use Rattle.wh_graph.proofs.TimesLemmas.{listed_or_not, partition_from}
use Rattle.wh_pairs.proofs.DropLemmas.{contains_or_not}
use Rattle.wh_pairs.specs.Drops.{StandsTwice}
use Rattle.wh_pairs.proofs.Searches.{not_decided, either_decided, equal_decided, list_decided, member_decided, least_below, least_of, some_below, bound_of}

few_decided : (blocks : List (List ℕ)) → Decided (AreFew blocks)
few_decided blocks = either_decided (below_decided (length blocks) 2) (member_decided (list_decided equal_decided) blocks [])

-- the number stands twice in the first block, or in it and behind it, or twice behind it
abbrev RepeatsBy : List ℕ → List (List ℕ) → ℕ → Type 0
RepeatsBy block blocks n = StandsTwice block n ⊎ ((Contains block n × IsListed blocks n) ⊎ IsRepeated blocks n)

here_at : (block : List ℕ) (blocks : List (List ℕ)) (k n : ℕ) → StandsAt (block ∷ blocks) 0 k n → slice_get block k ≡ Some n
here_at block blocks k n (list, at, stands) = subst (λ (l : List ℕ). slice_get l k ≡ Some n) (some_one at refl) stands

repeat_in : (block : List ℕ) (n k m : ℕ) → slice_get block k ≡ Some n → slice_get block m ≡ Some n → (k ≡ m → ⊥) → StandsTwice block n
repeat_in block n k m at also apart = elim (cases_lt k m) [
  | inl less ↦ (k, m, less, at, also)
  | inr le ↦ (m, k, omega (arith, le, apart), also, at)
]

repeat_cases : (block : List ℕ) (blocks : List (List ℕ)) (n i j k m : ℕ) → StandsAt (block ∷ blocks) i k n → StandsAt (block ∷ blocks) j m n
    → ((i ≡ j) × (k ≡ m) → ⊥) → RepeatsBy block blocks n
repeat_cases block blocks n zero zero k m here also apart =
    inl (repeat_in block n k m (here_at block blocks k n here) (here_at block blocks m n also) (λ same. apart (refl, same)))
repeat_cases block blocks n zero (suc j) k m here also apart = inr (inl (contains_at block k n (here_at block blocks k n here), (j, (m, also))))
repeat_cases block blocks n (suc i) zero k m here also apart = inr (inl (contains_at block m n (here_at block blocks m n also), (i, (k, here))))
repeat_cases block blocks n (suc i) (suc j) k m here also apart = inr (inr (i, j, k, m, here, also, λ (e, f). apart (ap suc e, f)))

repeat_from : (block : List ℕ) (blocks : List (List ℕ)) (n : ℕ) → RepeatsBy block blocks n → IsRepeated (block ∷ blocks) n
repeat_from block blocks n (inl (i, j, less, at, also)) = (0, 0, i, j, (block, refl, at), (block, refl, also), λ (e, f). omega (arith, less, f))
repeat_from block blocks n (inr (inl (found, (i, (k, stands))))) =
    let at = place_of block n found in (0, suc i, at.0, k, (block, refl, at.1), stands, λ (e, f). omega (arith, e))
repeat_from block blocks n (inr (inr (i, j, k, m, here, also, apart))) = (suc i, suc j, k, m, here, also, λ (e, f). apart (omega (arith, e), f))

repeated_decided : (blocks : List (List ℕ)) (n : ℕ) → Decided (IsRepeated blocks n)
repeated_decided [] n = inr (λ (i, j, k, m, (list, at, stands), also, apart). cc)
repeated_decided (block ∷ blocks) n =
    decided_by (repeat_from block blocks n) (λ (i, j, k, m, here, also, apart). repeat_cases block blocks n i j k m here also apart)
    (either_decided (twice_decided block n) (either_decided (both_decided (contains_or_not block n) (listed_or_not blocks n)) (repeated_decided blocks n)))

misplaced_decided : (set : List ℕ) (blocks : List (List ℕ)) (n : ℕ) → Decided (IsMisplaced set blocks n)
misplaced_decided set blocks n =
    either_decided (repeated_decided blocks n)
    (either_decided (both_decided (listed_or_not blocks n) (not_decided (contains_or_not set n)))
    (both_decided (contains_or_not set n) (not_decided (listed_or_not blocks n))))

-- each listed number is below some number

listed_below : (block : List ℕ) (blocks : List (List ℕ)) (k l : ℕ) → ((n : ℕ) → Contains block n → n < k) → ((n : ℕ) → IsListed blocks n → n < l)
    → (n i j : ℕ) → StandsAt (block ∷ blocks) i j n → n < k + l
listed_below block blocks k l below under n zero j stands = let less = below n (contains_at block j n (here_at block blocks j n stands)) in omega (arith, less)
listed_below block blocks k l below under n (suc i) j stands = let less = under n (i, (j, stands)) in omega (arith, less)

bound_of_blocks : (blocks : List (List ℕ)) → (k : ℕ) × ((n : ℕ) → IsListed blocks n → n < k)
bound_of_blocks [] = (0, λ n (i, (k, (list, at, stands))). absurd (cc))
bound_of_blocks (block ∷ blocks) =
    let (k, below) = bound_of block in
    let (l, under) = bound_of_blocks blocks in
    (k + l, λ n (i, (j, stands)). listed_below block blocks k l below under n i j stands)

misplaced_below : (set : List ℕ) (blocks : List (List ℕ)) (k l : ℕ) → ((n : ℕ) → Contains set n → n < k) → ((n : ℕ) → IsListed blocks n → n < l)
    → (n : ℕ) → IsMisplaced set blocks n → n < k + l
misplaced_below set blocks k l below under n (inl (i, j, a, b, here, also, apart)) = let less = under n (i, (a, here)) in omega (arith, less)
misplaced_below set blocks k l below under n (inr (inl (listed, stray))) = let less = under n listed in omega (arith, less)
misplaced_below set blocks k l below under n (inr (inr (found, missing))) = let less = below n found in omega (arith, less)

-- back edges

in_decided : (blocks : List (List ℕ)) (i n : ℕ) → Decided (IsIn blocks i n)
in_decided blocks i n = go (slice_get blocks i) refl
  where
    go : (o : Option (List ℕ)) → slice_get blocks i ≡ o → Decided (IsIn blocks i n)
    go None d = inr (λ (k, (list, at, stands)). cc (d, at))
    go (Some block) d =
        decided_by (λ found. let at = place_of block n found in (at.0, (block, d, at.1)))
        (λ (k, (list, at, stands)). contains_at block k n (subst (λ (l : List ℕ). slice_get l k ≡ Some n) (some_one at d) stands))
        (contains_or_not block n)

in_within : (blocks : List (List ℕ)) (i n : ℕ) → IsIn blocks i n → i < length blocks
in_within blocks i n (k, (list, at, stands)) = slice_get_within blocks i list at

-- the number a is in a block behind block i
abbrev IsBehind : List (List ℕ) → ℕ → ℕ → ℕ → Type 0
IsBehind blocks a i j = (i < j) × IsIn blocks j a

-- the number b is in block i, and a in a block behind it
abbrev IsTurned : List (List ℕ) → ℕ → ℕ → ℕ → Type 0
IsTurned blocks a b i = IsIn blocks i b × ((j : ℕ) × (j < length blocks) × IsBehind blocks a i j)

turned_decided : (blocks : List (List ℕ)) (a b i : ℕ) → Decided (IsTurned blocks a b i)
turned_decided blocks a b i =
    both_decided (in_decided blocks i b) (some_below (IsBehind blocks a i) (λ j. both_decided (below_decided i j) (in_decided blocks j a)) (length blocks))

back_edge_decided : (E : ℕ → ℕ → Type 0) → ((a b : ℕ) → Decided (E a b)) → (blocks : List (List ℕ)) (a b : ℕ) → Decided (IsBackEdge E blocks a b)
back_edge_decided E related blocks a b =
    decided_by
    (λ ((i, within, (in_i, (j, inside, (before, in_j)))), edge). (i, j, before, in_j, in_i, edge))
    (λ (i, j, before, in_j, in_i, edge). ((i, in_within blocks i b in_i, (in_i, (j, in_within blocks j a in_j, (before, in_j)))), edge))
    (both_decided (some_below (IsTurned blocks a b) (turned_decided blocks a b) (length blocks)) (related a b))

-- the number is the source of a back edge
abbrev IsSource : (ℕ → ℕ → Type 0) → List (List ℕ) → ℕ → Type 0
IsSource E blocks a = (b : ℕ) × IsBackEdge E blocks a b

abbrev NoBackEdge : (ℕ → ℕ → Type 0) → List (List ℕ) → Type 0
NoBackEdge E blocks = (a b : ℕ) → IsBackEdge E blocks a b → ⊥

first_back_edge : (E : ℕ → ℕ → Type 0) → ((a b : ℕ) → Decided (E a b)) → (blocks : List (List ℕ))
    → ((a b : ℕ) × IsFirstBackEdge E blocks a b) ⊎ NoBackEdge E blocks
first_back_edge E related blocks = go (bound_of_blocks blocks)
  where
    source_decided : (k : ℕ) → ((n : ℕ) → IsListed blocks n → n < k) → (a : ℕ) → Decided (IsSource E blocks a)
    source_decided k below a =
        decided_by (λ (b, less, edge). (b, edge)) (λ (b, (i, j, before, in_j, in_i, edge)). (b, below b (i, in_i), (i, j, before, in_j, in_i, edge)))
        (some_below (IsBackEdge E blocks a) (back_edge_decided E related blocks a) k)

    go : (k : ℕ) × ((n : ℕ) → IsListed blocks n → n < k) → ((a b : ℕ) × IsFirstBackEdge E blocks a b) ⊎ NoBackEdge E blocks
    go (k, below) = elim (least_below (IsSource E blocks) (source_decided k below) k) [
      | inl (a, less, ((c, edge), least)) ↦
          let (b, (first, before)) = least_of (IsBackEdge E blocks a) (back_edge_decided E related blocks a) c edge in
          inl (a, b, (first, λ e d under other. least e under (d, other), before))
      | inr none ↦ inr (λ a b (i, j, before, in_j, in_i, edge). none a (below a (j, in_j)) (b, (i, j, before, in_j, in_i, edge)))
    ]

-- all together

abbrev pub BlocksOrFault : (ℕ → ℕ → Type 0) → List ℕ → List (List ℕ) → Type 0
BlocksOrFault E set blocks = AreBlocks E set blocks ⊎ ((f : BlockFault) × IsFirstBlockFault E set blocks f)

in_order : (E : ℕ → ℕ → Type 0) → ((a b : ℕ) → Decided (E a b)) → (set : List ℕ) (blocks : List (List ℕ)) → (AreFew blocks → ⊥)
    → ((n : ℕ) → IsMisplaced set blocks n → ⊥) → BlocksOrFault E set blocks
in_order E related set blocks many right = elim (first_back_edge E related blocks) [
  | inl (a, b, first) ↦ inr (BackEdge a b, (many, right, first))
  | inr none ↦ inl (record {
    enough = let few : length blocks < 2 → ⊥ = λ less. many (inl less) in omega (arith, few);
    filled = λ empty. many (inr empty);
    partition = partition_from set blocks right;
    ordered = λ i j a b before in_j in_i edge. none a b (i, j, before, in_j, in_i, edge);
  })
]

pub blocks_or_fault : (E : ℕ → ℕ → Type 0) → ((a b : ℕ) → Decided (E a b)) → (set : List ℕ) (blocks : List (List ℕ)) → BlocksOrFault E set blocks
blocks_or_fault E related set blocks = go (few_decided blocks) (bound_of set) (bound_of_blocks blocks)
  where
    go : Decided (AreFew blocks) → (k : ℕ) × ((n : ℕ) → Contains set n → n < k) → (l : ℕ) × ((n : ℕ) → IsListed blocks n → n < l) → BlocksOrFault E set blocks
    go (inl few) b c = inr (FewBlocks, few)
    go (inr many) (k, below) (l, under) = elim (least_below (IsMisplaced set blocks) (misplaced_decided set blocks) (k + l)) [
      | inl (n, less, (bad, least)) ↦ inr (NotPartition n, (many, bad, least))
      | inr none ↦ in_order E related set blocks many (λ n bad. none n (misplaced_below set blocks k l below under n bad) bad)
    ]
