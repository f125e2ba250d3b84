-- Of the things that can be wrong with ranks, blocks and projections one at most is the first, and none is where nothing is wrong.
use Rattle.std.proofs.Common.{◌≡◌, ℕ, inl, inr, List, slice_get, All, Contains, refl, sym, ap, subst, ◌∙◌, arith}
use Rattle.std.proofs.lemmas.List.Elements.{All-contains}
use Rattle.wh_terms.specs.Tree.{Tm}
use Rattle.wh_terms.specs.Sight.{Occurs}
use Rattle.wh_terms.specs.Rules.{RewriteRule}
use Rattle.wh_pairs.specs.PairData.{PairData}
use Rattle.wh_pairs.proofs.ByPlace.{contains_at, some_one}
use Rattle.wh_access.specs.Passing.{EachUsed, IsFirstWithout}
use Rattle.wh_graph.specs.Blocks.{IsMisplaced, IsBackEdge, AreBlocks, IsFirstBlockFault}
use Rattle.wh_graph.specs.declared.blocks.BlockFault.{BlockFault}
use Rattle.wh_graph.specs.declared.blocks.BlockFault.TheVariants.{FewBlocks, NotPartition, BackEdge}
use Rattle.wh_subterm.specs.Projections.{Chosen}
use Rattle.wh_subterm.specs.SubtermRows.{HasNone, IsPlace, IsFirstOf, NoneIs, IsProjection, IsFirstSubtermFault}
use Rattle.wh_pairs.specs.Drops.{IsBadDrop}
use Rattle.wh_subterm.specs.declared.projection.SubtermFault.{SubtermFault}
use Rattle.wh_subterm.specs.declared.projection.SubtermFault.TheVariants.{BadArgs, NoProjection, BadArgument, BadDrop, NotDecreasing}
use Rattle.wh_usable.proofs.Decisions.{neither_below}

-- ranks

rule_one : (Q : Tm → ℕ → Type 0) (rules : List RewriteRule) (i j y z : ℕ) → IsFirstWithout Q rules i y → IsFirstWithout Q rules j z → i ≡ j
rule_one Q rules i j y z first other = neither_below i j
    (λ less. let (r, at, occurs, not, least) = first.here in not (other.before i r less at y occurs))
    (λ less. let (r, at, occurs, not, least) = other.here in not (first.before j r less at z occurs))

meta_one : (Q : Tm → ℕ → Type 0) (rules : List RewriteRule) (i y z : ℕ) → IsFirstWithout Q rules i y → IsFirstWithout Q rules i z → y ≡ z
meta_one Q rules i y z first other =
    let (r, at, occurs, not, least) = first.here in
    let (s, also, there, missing, smallest) = other.here in
    let same : r ≡ s = some_one at also in
    neither_below y z
    (λ less. not (subst (λ (u : RewriteRule). Q u.left y) (sym same) (smallest y less (subst (λ (u : RewriteRule). Occurs y u.right) same occurs))))
    (λ less. missing (subst (λ (u : RewriteRule). Q u.left z) same (least z less (subst (λ (u : RewriteRule). Occurs z u.right) (sym same) there))))

pub break_one : (Q : Tm → ℕ → Type 0) (rules : List RewriteRule) (i j y z : ℕ) → IsFirstWithout Q rules i y → IsFirstWithout Q rules j z
    → (i ≡ j) × (y ≡ z)
break_one Q rules i j y z first other =
    let same = rule_one Q rules i j y z first other in
    (same, meta_one Q rules j y z (subst (λ k. IsFirstWithout Q rules k y) same first) other)

pub break_or_passing : (Q : Tm → ℕ → Type 0) (rules : List RewriteRule) (i z : ℕ) → IsFirstWithout Q rules i z
    → ((r : RewriteRule) → Contains rules r → EachUsed Q r) → ⊥
break_or_passing Q rules i z first passing =
    let (r, at, occurs, not, least) = first.here in not (passing r (contains_at rules i r at) z occurs)

-- blocks

pub block_fault_one : (E : ℕ → ℕ → Type 0) (set : List ℕ) (blocks : List (List ℕ)) (f g : BlockFault) → IsFirstBlockFault E set blocks f
    → IsFirstBlockFault E set blocks g → f ≡ g
block_fault_one E set blocks FewBlocks FewBlocks few also = refl
block_fault_one E set blocks FewBlocks (NotPartition b) few (many, bad, least) = absurd (many few)
block_fault_one E set blocks FewBlocks (BackEdge a b) few (many, even, back) = absurd (many few)
block_fault_one E set blocks (NotPartition a) FewBlocks (many, bad, least) few = absurd (many few)
block_fault_one E set blocks (NotPartition a) (NotPartition b) (many, bad, least) (also, worse, smallest) =
    let same : a ≡ b = neither_below a b (λ less. smallest a less bad) (λ less. least b less worse) in
    ap NotPartition same
block_fault_one E set blocks (NotPartition a) (BackEdge c e) (many, bad, least) (also, even, back) = absurd (even a bad)
block_fault_one E set blocks (BackEdge a b) FewBlocks (many, even, back) few = absurd (many few)
block_fault_one E set blocks (BackEdge a b) (NotPartition c) (many, even, back) (also, bad, least) = absurd (even c bad)
block_fault_one E set blocks (BackEdge a b) (BackEdge c e) (many, even, (back, source, target)) (also, flat, (other, from, to)) =
    let same : a ≡ c = neither_below a c (λ less. from a b less back) (λ less. source c e less other) in
    let one : b ≡ e = neither_below b e
    (λ less. to b less (subst (λ v. IsBackEdge E blocks v b) same back))
    (λ less. target e less (subst (λ v. IsBackEdge E blocks v e) (sym same) other)) in
    cc (same, one)

misplaced_nowhere : (E : ℕ → ℕ → Type 0) (set : List ℕ) (blocks : List (List ℕ)) (n : ℕ) → AreBlocks E set blocks
    → IsMisplaced set blocks n → ⊥
misplaced_nowhere E set blocks n are (inl (i, j, k, m, stands, also, other)) = other (are.partition.once i j k m n stands also)
misplaced_nowhere E set blocks n are (inr (inl ((i, listed), stray))) = stray (are.partition.within i n listed)
misplaced_nowhere E set blocks n are (inr (inr (found, missing))) = missing (are.partition.whole n found)

pub blocks_or_fault : (E : ℕ → ℕ → Type 0) (set : List ℕ) (blocks : List (List ℕ)) (f : BlockFault) → AreBlocks E set blocks
    → IsFirstBlockFault E set blocks f → ⊥
blocks_or_fault E set blocks FewBlocks are (inl few) = let enough = are.enough in omega (arith, few, enough)
blocks_or_fault E set blocks FewBlocks are (inr empty) = are.filled empty
blocks_or_fault E set blocks (NotPartition a) are (many, bad, least) = misplaced_nowhere E set blocks a are bad
blocks_or_fault E set blocks (BackEdge a b) are (many, even, ((i, j, less, later, earlier, edge), source, target)) =
    are.ordered i j a b less later earlier edge

-- projections

first_of_one : (P : Chosen → Type 0) (args : List Chosen) (f g : ℕ) → IsFirstOf P args f → IsFirstOf P args g → f ≡ g
first_of_one P args f g (i, c, at, symbol, holds, before) (j, e, also, other, true_there, earlier) =
    let same : i ≡ j = neither_below i j (λ less. earlier i c less at holds) (λ less. before j e less also true_there) in
    let one : c ≡ e = some_one (sym (ap (slice_get args) same) ∙ at) also in
    sym symbol ∙ ap (λ (c : Chosen). c.symbol) one ∙ other

first_of_none : (P : Chosen → Type 0) (args : List Chosen) (f : ℕ) → IsFirstOf P args f → NoneIs P args → ⊥
first_of_none P args f (i, c, at, symbol, holds, before) none = none c (contains_at args i c at) holds

none_at_place : (rules : List RewriteRule) (c : Chosen) → IsPlace rules c → HasNone rules c → ⊥
none_at_place rules c (need, is, above, within) none = let zero_is : need ≡ 0 = some_one is none in omega (arith, zero_is)

places_none : (rules : List RewriteRule) (args : List Chosen) → All (IsPlace rules) args → NoneIs (HasNone rules) args
places_none rules args places c found none = none_at_place rules c (All-contains (IsPlace rules) args c places found) none

places_not : (rules : List RewriteRule) (args : List Chosen) → All (IsPlace rules) args → NoneIs (λ c. IsPlace rules c → ⊥) args
places_not rules args places c found not = not (All-contains (IsPlace rules) args c places found)

pub subterm_fault_one : (rules : List RewriteRule) (ps : List PairData) (set : List ℕ) (args : List Chosen) (drop : List ℕ)
    (f g : SubtermFault)
    → IsFirstSubtermFault rules ps set args drop f → IsFirstSubtermFault rules ps set args drop g → f ≡ g
subterm_fault_one rules ps set args drop BadArgs BadArgs not also = refl
subterm_fault_one rules ps set args drop BadArgs (NoProjection f) not first = absurd (not first.0)
subterm_fault_one rules ps set args drop BadArgs (BadArgument f) not first = absurd (not first.0)
subterm_fault_one rules ps set args drop BadArgs BadDrop not first = absurd (not first.0)
subterm_fault_one rules ps set args drop BadArgs (NotDecreasing n) not first = absurd (not first.0)
subterm_fault_one rules ps set args drop (NoProjection f) BadArgs first not = absurd (not first.0)
subterm_fault_one rules ps set args drop (NoProjection f) (NoProjection g) (marked, first) (also, other) =
    ap NoProjection (first_of_one (HasNone rules) args f g first other)
subterm_fault_one rules ps set args drop (NoProjection f) (BadArgument g) (marked, first) (also, none, other) =
    absurd (first_of_none (HasNone rules) args f first none)
subterm_fault_one rules ps set args drop (NoProjection f) BadDrop (marked, first) (also, places, other) =
    absurd (first_of_none (HasNone rules) args f first (places_none rules args places))
subterm_fault_one rules ps set args drop (NoProjection f) (NotDecreasing n) (marked, first) (also, places, good, found, not, least) =
    absurd (first_of_none (HasNone rules) args f first (places_none rules args places))
subterm_fault_one rules ps set args drop (BadArgument f) BadArgs first not = absurd (not first.0)
subterm_fault_one rules ps set args drop (BadArgument f) (NoProjection g) (marked, none, first) (also, other) =
    absurd (first_of_none (HasNone rules) args g other none)
subterm_fault_one rules ps set args drop (BadArgument f) (BadArgument g) (marked, none, first) (also, same, other) =
    ap BadArgument (first_of_one (λ c. IsPlace rules c → ⊥) args f g first other)
subterm_fault_one rules ps set args drop (BadArgument f) BadDrop (marked, none, first) (also, places, other) =
    absurd (first_of_none (λ c. IsPlace rules c → ⊥) args f first (places_not rules args places))
subterm_fault_one rules ps set args drop (BadArgument f) (NotDecreasing n) (marked, none, first) (also, places, good, found, not, least) =
    absurd (first_of_none (λ c. IsPlace rules c → ⊥) args f first (places_not rules args places))
subterm_fault_one rules ps set args drop BadDrop BadArgs first not = absurd (not first.0)
subterm_fault_one rules ps set args drop BadDrop (NoProjection g) (marked, places, bad) (also, other) =
    absurd (first_of_none (HasNone rules) args g other (places_none rules args places))
subterm_fault_one rules ps set args drop BadDrop (BadArgument g) (marked, places, bad) (also, none, other) =
    absurd (first_of_none (λ c. IsPlace rules c → ⊥) args g other (places_not rules args places))
subterm_fault_one rules ps set args drop BadDrop BadDrop first other = refl
subterm_fault_one rules ps set args drop BadDrop (NotDecreasing n) (marked, places, bad) (also, same, good, found, not, least) =
    absurd (good bad)
subterm_fault_one rules ps set args drop (NotDecreasing n) BadArgs first not = absurd (not first.0)
subterm_fault_one rules ps set args drop (NotDecreasing n) (NoProjection g) (marked, places, good, found, not, least) (also, other) =
    absurd (first_of_none (HasNone rules) args g other (places_none rules args places))
subterm_fault_one rules ps set args drop (NotDecreasing n) (BadArgument g) (marked, places, good, found, not, least) (also, none, other) =
    absurd (first_of_none (λ c. IsPlace rules c → ⊥) args g other (places_not rules args places))
subterm_fault_one rules ps set args drop (NotDecreasing n) BadDrop (marked, places, good, found, not, least) (also, same, bad) =
    absurd (good bad)
subterm_fault_one rules ps set args drop (NotDecreasing m) (NotDecreasing n) (marked, places, good, found, not, least) (also, same, fine, there, worse, smallest) =
    let one : m ≡ n = neither_below m n (λ less. smallest m less found not) (λ less. least n less there worse) in
    ap NotDecreasing one

bad_drop_nowhere : (rules : List RewriteRule) (ps : List PairData) (set : List ℕ) (args : List Chosen) (drop : List ℕ)
    → IsProjection rules ps set args drop → IsBadDrop set drop → ⊥
bad_drop_nowhere rules ps set args drop is (inl empty) = is.some_dropped empty
bad_drop_nowhere rules ps set args drop is (inr (inl (n, (i, j, less, at, also)))) =
    let same : i ≡ j = is.once i j n at also in omega (arith, same)
bad_drop_nowhere rules ps set args drop is (inr (inr (n, found, stray))) = stray (All-contains (Contains set) drop n is.within found)

pub projection_or_fault : (rules : List RewriteRule) (ps : List PairData) (set : List ℕ) (args : List Chosen) (drop : List ℕ)
    (f : SubtermFault) → IsProjection rules ps set args drop → IsFirstSubtermFault rules ps set args drop f → ⊥
projection_or_fault rules ps set args drop BadArgs is not = not is.marked
projection_or_fault rules ps set args drop (NoProjection f) is (marked, first) =
    first_of_none (HasNone rules) args f first (places_none rules args is.places)
projection_or_fault rules ps set args drop (BadArgument f) is (marked, none, first) =
    first_of_none (λ c. IsPlace rules c → ⊥) args f first (places_not rules args is.places)
projection_or_fault rules ps set args drop BadDrop is (marked, places, bad) = bad_drop_nowhere rules ps set args drop is bad
projection_or_fault rules ps set args drop (NotDecreasing n) is (marked, places, good, found, (a, at, inl neither), least) =
    neither (is.decreasing n a found at)
projection_or_fault rules ps set args drop (NotDecreasing n) is (marked, places, good, found, (a, at, inr (dropped, not_below)), least) =
    not_below (is.below n a dropped at)
