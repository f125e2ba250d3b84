-- From the classes of places to the components of a set.
use Rattle.std.proofs.Common.{◌≡◌, ◌↔◌, ℕ, ◌+◌, ◌<◌, ◌≤◌, inl, inr, List, [], ◌∷◌, ◌++◌, length, get_or, All, Option, Some, None, Result, Ok, Err, IfOk, slice_get, Contains, refl, ap, sym, subst, ◌∙◌, arith}
use Rattle.std.proofs.Math.ListN.{set}
use Rattle.std.proofs.lemmas.Bool.{cases_eq}
use Rattle.std.proofs.lemmas.List.{length-set}
use Rattle.std.proofs.lemmas.List.Elements.{All-contains, Contains-push, Contains-push_cases, Contains-append_left, Contains-get_or}
use Rattle.std.proofs.lemmas.Option.{slice_get_within, slice_get-get_or}
use Rattle.wh_pairs.specs.PairData.{IsIncreasing}
use Rattle.wh_pairs.proofs.PairLemmas.{increasing_push}
use Rattle.wh_graph.specs.Components.{Reaches, here, step, IsIn, AreComponents}
use Rattle.wh_graph.specs.Graphs.{Edge, Turned, AtPlaces, AreLists, edge_of, IsGraph}
use Rattle.wh_graph.specs.Walks.{Path, stay, go}
use Rattle.wh_graph.specs.Classes.{HasClass, AreGiven, AreClasses, IsClass, AreGathered}
use Rattle.wh_pairs.proofs.ByPlace.{some_one, contains_at, place_of, same_or_below}
use Rattle.wh_pairs.proofs.Increasing.{increasing_at, one_place}
use Rattle.wh_graph.proofs.PushLemmas.{set_here, set_there}
use Rattle.wh_graph.specs.declared.edges.Graph.{Graph}
use Rattle.wh_graph.proofs.ClassLemmas.{none_has}
use Rattle.wh_graph.proofs.GraphLemmas.{edge_within}

-- the members of a class, one after another

pub class_none : (set : List ℕ) (of : List (Option ℕ)) (c : ℕ) → IsClass set of c 0 []
class_none set of c = record {
  increasing = tt;
  members = λ n. (λ (k, within, at). absurd (omega arith), λ (v, below, at, has). absurd (omega arith));
}

earlier_smaller : (set : List ℕ) (v i n m : ℕ) → IsIncreasing set → v < i → slice_get set v ≡ Some n → slice_get set i ≡ Some m → n < m
earlier_smaller set v i n m up less at_v at_i =
    let within = slice_get_within set i m at_i in
    let next = increasing_at set v i up less within in
    let first : get_or set v 0 ≡ n = some_one (slice_get-get_or set v 0 (omega arith)) at_v in
    let second : get_or set i 0 ≡ m = some_one (slice_get-get_or set i 0 within) at_i in
    omega arith

pub class_more : (set : List ℕ) (of : List (Option ℕ)) (c i m : ℕ) (block : List ℕ) → IsIncreasing set → IsClass set of c i block → slice_get set i ≡ Some m → HasClass of i c → IsClass set of c (i + 1) (block ++ m ∷ [])
class_more set of c i m block up is at has = record {
  increasing = increasing_push block m is.increasing (λ k d within.
      let n = get_or block k d in
      let from = (is.members n).0 (Contains-get_or block k d within) in
      earlier_smaller set from.0 i n m up from.1 from.2 at);
  members = λ n. (
    λ found. elim (Contains-push_cases block m n found) [
      | inl before ↦ let from = (is.members n).0 before in (from.0, omega (arith, from.1), from.2, from.3)
      | inr same ↦ (i, omega arith, at ∙ ap Some same, has)
    ],
    λ (v, below, there, has_v). elim (same_or_below v i below) [
      | inl same ↦
          let one : m ≡ n = some_one at (sym (ap (slice_get set) same) ∙ there) in
          subst (Contains (block ++ m ∷ [])) one (Contains-push block m)
      | inr less ↦ Contains-append_left block (m ∷ []) n ((is.members n).1 (v, less, there, has_v))
    ],
  );
}

pub class_skip : (set : List ℕ) (of : List (Option ℕ)) (c i : ℕ) (block : List ℕ) → IsClass set of c i block → (HasClass of i c → ⊥) → IsClass set of c (i + 1) block
class_skip set of c i block is other = record {
  increasing = is.increasing;
  members = λ n. (
    λ found. let from = (is.members n).0 found in (from.0, omega (arith, from.1), from.2, from.3),
    λ (v, below, there, has_v). elim (same_or_below v i below) [
      | inl same ↦ absurd (other (subst (λ u. HasClass of u c) same has_v))
      | inr less ↦ (is.members n).1 (v, less, there, has_v)
    ],
  );
}

-- the blocks, one number after another

one_class : (of : List (Option ℕ)) (v c d : ℕ) → HasClass of v c → HasClass of v d → c ≡ d
one_class of v c d has also = let both : ◌≡◌ {A = Option ℕ} (Some c) (Some d) = some_one has also in cc

pub gathered_none : (members : List ℕ) (of : List (Option ℕ)) (blocks : List (List ℕ)) → All (λ (b : List ℕ). b ≡ []) blocks → AreGathered members of (length blocks) 0 blocks
gathered_none members of blocks none = record {
  size = refl;
  each = λ c block at.
      let empty : block ≡ [] = All-contains (λ (b : List ℕ). b ≡ []) blocks block none (contains_at blocks c block at) in
      subst (λ (b : List ℕ). IsClass members of c 0 b) (sym empty) (class_none members of c);
}

pub gathered_put : (members : List ℕ) (of : List (Option ℕ)) (count i m c : ℕ) (blocks : List (List ℕ)) (old new : List ℕ) → IsIncreasing members
    → AreGathered members of count i blocks → slice_get members i ≡ Some m → HasClass of i c → slice_get blocks c ≡ Some old → new ≡ old ++ m ∷ []
    → AreGathered members of count (i + 1) (set blocks c new)
gathered_put members of count i m c blocks old new up are at has there is = record {
  size = length-set blocks c new ∙ are.size;
  each = λ d block at_d. elim (cases_eq c d) [
    | inl same ↦
        let one : new ≡ block = some_one (set_here blocks c new (slice_get_within blocks c old there)) (ap (slice_get (set blocks c new)) same ∙ at_d) in
        let grown = subst (λ (e : ℕ). IsClass members of e (i + 1) (old ++ m ∷ [])) same (class_more members of c i m old up (are.each c old there) at has) in
        subst (λ (b : List ℕ). IsClass members of d (i + 1) b) (sym is ∙ one) grown
    | inr other ↦
        class_skip members of d i block (are.each d block (sym (set_there blocks c d new other) ∙ at_d)) (λ also. other (one_class of i c d has also))
  ];
}

pub gathered_skip : (members : List ℕ) (of : List (Option ℕ)) (count i : ℕ) (blocks : List (List ℕ)) → AreGathered members of count i blocks
    → slice_get of i ≡ Some None → AreGathered members of count (i + 1) blocks
gathered_skip members of count i blocks are none = record {
  size = are.size;
  each = λ d block at. class_skip members of d i block (are.each d block at) (λ has. none_has of i d none has);
}

-- the relation of the members of the set, as one of their places
pub record ArePlaced (E : ℕ → ℕ → Type 0) (set : List ℕ) (F : ℕ → ℕ → Type 0) : Type 0 where
  pub target : (u v : ℕ) → F u v → v < length set
  pub marks : (u v a b : ℕ) → slice_get set u ≡ Some a → slice_get set v ≡ Some b → F u v ↔ E a b

-- as the lists of the leaders tell it
pub leaders_placed : (g : Graph) (members : List ℕ) (leaders : List (List ℕ)) → IsGraph g
    → AreLists (AtPlaces (Edge g.leaders.items) members) (length members) leaders → ArePlaced (edge_of g) members (Turned (Edge leaders))
leaders_placed g members leaders is back = record {
  target = λ u v edge. let within = edge_within leaders v u edge in omega (arith, within, back.size);
  marks = λ u v a b at_u at_v. (
    λ edge.
        let (y, x, at_y, at_x, e) = (back.each v u).0 edge in
        let first : x ≡ a = some_one at_x at_u in
        let second : y ≡ b = some_one at_y at_v in
        subst (λ (n : ℕ). edge_of g n b) first (subst (λ (n : ℕ). edge_of g x n) second ((is.leaders.each y x).0 e)),
    λ edge. (back.each v u).1 (b, a, at_v, at_u, (is.leaders.each b a).1 edge),
  );
}

-- paths of places are chains in the set

member : (set : List ℕ) (v : ℕ) → v < length set → (n : ℕ) × (slice_get set v ≡ Some n)
member set v within = (get_or set v 0, slice_get-get_or set v 0 within)

reaches_from_path : (E : ℕ → ℕ → Type 0) (set : List ℕ) (F : ℕ → ℕ → Type 0) → ArePlaced E set F → (u v a b : ℕ) → Path F u v → slice_get set u ≡ Some a → slice_get set v ≡ Some b → Reaches E set a b
reaches_from_path E set F placed u v a b stay at_u at_v = subst (Reaches E set a) (some_one at_u at_v) (here (contains_at set u a at_u))
reaches_from_path E set F placed u v a b (go {b = w} edge rest) at_u at_v =
    let (c, at_w) = member set w (placed.target u w edge) in
    step (contains_at set u a at_u) ((placed.marks u w a c at_u at_w).0 edge) (reaches_from_path E set F placed w v c b rest at_w at_v)

reaches_member : (E : ℕ → ℕ → Type 0) (set : List ℕ) (a b : ℕ) → Reaches E set a b → Contains set a
reaches_member E set a b (here found) = found
reaches_member E set a b (step found e rest) = found

path_from_reaches : (E : ℕ → ℕ → Type 0) (set : List ℕ) (F : ℕ → ℕ → Type 0) → ArePlaced E set F → IsIncreasing set → (a b : ℕ) → Reaches E set a b → (u v : ℕ) → slice_get set u ≡ Some a → slice_get set v ≡ Some b → Path F u v
path_from_reaches E set F placed up a b (here found) u v at_u at_v = subst (Path F u) (one_place set u v a up at_u at_v) stay
path_from_reaches E set F placed up a b (step {b = c} found e rest) u v at_u at_v =
    let (w, at_w) = place_of set c (reaches_member E set c b rest) in
    go ((placed.marks u w a c at_u at_w).1 e) (path_from_reaches E set F placed up c b rest w v at_w at_v)

-- along a path classes do not fall
path_class : (F : ℕ → ℕ → Type 0) (n count : ℕ) (of : List (Option ℕ)) → AreGiven F n count of → (u v c : ℕ) → Path F u v → HasClass of v c → (d : ℕ) × HasClass of u d × (d ≤ c)
path_class F n count of given u v c stay has = (c, has, omega arith)
path_class F n count of given u v c (go {b = w} edge rest) has =
    let (d, has_w, le) = path_class F n count of given w v c rest has in
    let from = given.back w u d edge has_w in
    (from.0, from.1, omega (arith, from.2))

-- the numbers of a block are those whose places have its class

in_block : (set : List ℕ) (of : List (Option ℕ)) (count : ℕ) (blocks : List (List ℕ)) → AreGathered set of count (length set) blocks → (c n : ℕ) → IsIn blocks c n → (v : ℕ) × (slice_get set v ≡ Some n) × HasClass of v c
in_block set of count blocks are c n (k, (block, at, stands)) =
    let from = ((are.each c block at).members n).0 (contains_at block k n stands) in (from.0, from.2, from.3)

block_at : (set : List ℕ) (of : List (Option ℕ)) (count : ℕ) (blocks : List (List ℕ)) → AreGathered set of count (length set) blocks → (c : ℕ) → c < count → (block : List ℕ) × (slice_get blocks c ≡ Some block)
block_at set of count blocks are c less = (get_or blocks c [], slice_get-get_or blocks c [] (omega (arith, are.size)))

class_in : (set : List ℕ) (of : List (Option ℕ)) (count : ℕ) (blocks : List (List ℕ)) → AreGathered set of count (length set) blocks → (c n v : ℕ) → c < count → slice_get set v ≡ Some n → HasClass of v c → IsIn blocks c n
class_in set of count blocks are c n v less at has =
    let (block, there) = block_at set of count blocks are c less in
    let found = ((are.each c block there).members n).1 (v, slice_get_within set v n at, at, has) in
    let (k, stands) = place_of block n found in
    (k, (block, there, stands))

pub components_from : (E : ℕ → ℕ → Type 0) (set : List ℕ) (F : ℕ → ℕ → Type 0) (count : ℕ) (of : List (Option ℕ)) (blocks : List (List ℕ)) → IsIncreasing set → ArePlaced E set F → AreClasses F (length set) count of → AreGathered set of count (length set) blocks
    → AreComponents E set blocks
components_from E set F count of blocks up placed classes are = record {
  partition = record {
    within = λ c n found. let from = in_block set of count blocks are c n found in contains_at set from.0 n from.1;
    whole = λ n found.
        let (v, at) = place_of set n found in
        let (c, has) = classes.all v (omega (arith, slice_get_within set v n at)) in
        (c, class_in set of count blocks are c n v (classes.given.below v c has) at has);
    once = λ i j k m n (left, at_i, stands) (right, at_j, also).
        let (u, at_u, has_u) = in_block set of count blocks are i n (k, (left, at_i, stands)) in
        let (v, at_v, has_v) = in_block set of count blocks are j n (m, (right, at_j, also)) in
        let same = one_place set u v n up at_u at_v in
        let one = one_class of v i j (subst (λ w. HasClass of w i) same has_u) has_v in
        let block : left ≡ right = some_one (sym (ap (slice_get blocks) one) ∙ at_i) at_j in
        (one, one_place right k m n (are.each j right at_j).increasing (ap (λ l. slice_get l k) (sym block) ∙ stands) also);
  };
  filled = λ (c, within, empty).
      let at : slice_get blocks c ≡ Some [] = slice_get-get_or blocks c [] within ∙ ap Some empty in
      let (v, has) = classes.given.filled c (omega (arith, are.size)) in
      let v_within = slice_get_within of v (Some c) has in
      let (n, at_v) = member set v (omega (arith, classes.given.size)) in
      let found = ((are.each c [] at).members n).1 (v, omega (arith, classes.given.size), at_v, has) in
      let none : found.0 < 0 = found.1 in omega arith;
  classes = λ i j a b in_i in_j.
      let (u, at_u, has_u) = in_block set of count blocks are i a in_i in
      let (v, at_v, has_v) = in_block set of count blocks are j b in_j in (
        λ same.
            let has_u_j = subst (HasClass of u) same has_u in (
              reaches_from_path E set F placed u v a b (classes.given.together u v j has_u_j has_v) at_u at_v,
              reaches_from_path E set F placed v u b a (classes.given.together v u j has_v has_u_j) at_v at_u,
            ),
        λ (there, back).
            let (c, has_c, le) = path_class F (length set) count of classes.given u v j (path_from_reaches E set F placed up a b there u v at_u at_v) has_v in
            let (d, has_d, also) = path_class F (length set) count of classes.given v u i (path_from_reaches E set F placed up b a back v u at_v at_u) has_u in
            let first = one_class of u c i has_c has_u in
            let second = one_class of v d j has_d has_v in
            omega arith,
      );
  ordered = λ i j a b less in_j in_i edge.
      let (u, at_u, has_u) = in_block set of count blocks are j a in_j in
      let (v, at_v, has_v) = in_block set of count blocks are i b in_i in
      let from = classes.given.back v u i ((placed.marks u v a b at_u at_v).1 edge) has_v in
      let one = one_class of u from.0 j from.1 has_u in
      omega (arith, from.2);
}

pub blocks_increase : (set : List ℕ) (of : List (Option ℕ)) (count : ℕ) (blocks : List (List ℕ)) → AreGathered set of count (length set) blocks → All IsIncreasing blocks
blocks_increase set of count blocks are = λ k d within. (are.each k (get_or blocks k d) (slice_get-get_or blocks k d within)).increasing

pub if_ok_map : {T F : Type 0} (P Q : T → Type 0) → ((x : T) → P x → Q x) → (r : Result T F) → IfOk r P → IfOk r Q
if_ok_map P Q f (Ok x) held = f x held
if_ok_map P Q f (Err e) held = held
