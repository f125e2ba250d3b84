-- Back edges of a partition.
use Rattle.std.proofs.Common.{◌≡◌, ℕ, zero, suc, ◌<◌, ◌≤◌, inl, inr, List, [], ◌∷◌, length, take, Some, All, slice_get, Contains, refl, sym, ◌∙◌, arith}
use Rattle.std.proofs.lemmas.Bool.{cases_lt}
use Rattle.std.proofs.lemmas.Option.{slice_get_within}
use Rattle.std.proofs.lemmas.List.Elements.{All-contains}
use Rattle.wh_graph.specs.Components.{IsIn, Partition}
use Rattle.wh_graph.specs.Blocks.{IsListed, IsBackEdge}

take_get : {A : Type 0} (xs : List A) (n i : ℕ) → i < n → slice_get (take n xs) i ≡ slice_get xs i
take_get [] zero i less = refl
take_get [] (suc n) i less = refl
take_get (x ∷ xs) zero i less = absurd (omega arith)
take_get (x ∷ xs) (suc n) zero less = refl
take_get (x ∷ xs) (suc n) (suc i) less = take_get xs n i (omega arith)

taken_within : {A : Type 0} (xs : List A) (n i : ℕ) (x : A) → slice_get (take n xs) i ≡ Some x → i < n
taken_within [] zero i x at = cc
taken_within [] (suc n) i x at = cc
taken_within (x ∷ xs) zero i y at = cc
taken_within (x ∷ xs) (suc n) zero y at = omega arith
taken_within (x ∷ xs) (suc n) (suc i) y at = let below = taken_within xs n i y at in omega arith

-- what is listed in the blocks before a place
pub listed_before : (blocks : List (List ℕ)) (place n : ℕ) → IsListed (take place blocks) n → (i : ℕ) × (i < place) × IsIn blocks i n
listed_before blocks place n (i, (k, (list, at, stands))) =
    let less = taken_within blocks place i list at in
    (i, less, (k, (list, sym (take_get blocks place i less) ∙ at, stands)))

before_listed : (blocks : List (List ℕ)) (place i n : ℕ) → i < place → IsIn blocks i n → IsListed (take place blocks) n
before_listed blocks place i n less (k, (list, at, stands)) = (i, (k, (list, take_get blocks place i less ∙ at, stands)))

-- what is known of the place of a number: no earlier block has it, and the block there does, if there is one
pub record IsPlaceOf (blocks : List (List ℕ)) (n place : ℕ) : Type 0 where
  pub within : place ≤ length blocks
  pub found : place < length blocks → IsIn blocks place n
  pub first : (i : ℕ) → i < place → IsIn blocks i n → ⊥

one_block : (set : List ℕ) (blocks : List (List ℕ)) (n place j : ℕ) → Partition set blocks → IsPlaceOf blocks n place → IsIn blocks j n → j ≡ place
one_block set blocks n place j p is (k, (list, at, stands)) = elim (cases_lt j place) [
  | inl less ↦ absurd (is.first j less (k, (list, at, stands)))
  | inr later ↦
      let within = slice_get_within blocks j list at in
      let (m, there) = is.found (omega arith) in
      (p.once j place k m n (list, at, stands) there).0
]

pub edge_from : (E : ℕ → ℕ → Type 0) (set : List ℕ) (blocks : List (List ℕ)) (n place b : ℕ) → Partition set blocks → IsPlaceOf blocks n place → Contains set n → IsListed (take place blocks) b × E n b → IsBackEdge E blocks n b
edge_from E set blocks n place b p is found (listed, edge) =
    let whole = p.whole n found in
    let same = one_block set blocks n place whole.0 p is whole.1 in
    let before = listed_before blocks place b listed in
    (before.0, whole.0, omega (arith, before.1), whole.1, before.2, edge)

pub edge_to : (E : ℕ → ℕ → Type 0) (set : List ℕ) (blocks : List (List ℕ)) (n place b : ℕ) → Partition set blocks → IsPlaceOf blocks n place → IsBackEdge E blocks n b → IsListed (take place blocks) b × E n b
edge_to E set blocks n place b p is (i, j, less, here, there, edge) =
    let same = one_block set blocks n place j p is here in
    (before_listed blocks place i b (omega arith) there, edge)

-- the source of a back edge is in the set
pub edge_source : (E : ℕ → ℕ → Type 0) (set : List ℕ) (blocks : List (List ℕ)) (a b : ℕ) → Partition set blocks → IsBackEdge E blocks a b → Contains set a
edge_source E set blocks a b p (i, j, less, here, there, edge) = p.within j a here

pub listed_below : (set : List ℕ) (blocks : List (List ℕ)) (place limit n : ℕ) → Partition set blocks → All (λ m. m < limit) set → IsListed (take place blocks) n → n < limit
listed_below set blocks place limit n p below listed =
    let before = listed_before blocks place n listed in
    All-contains (λ m. m < limit) set n below (p.within before.0 n before.2)
