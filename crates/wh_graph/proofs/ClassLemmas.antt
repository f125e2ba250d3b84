-- Classes of mutual reachability, one after another.
use Rattle.std.proofs.Common.{◌≡◌, ℕ, zero, suc, ◌+◌, ◌<◌, ◌⊎◌, inl, inr, Bool, true, false, not, List, [], ◌∷◌, ◌++◌, length, get_or, Option, Some, None, is_some, slice_get, Contains, refl, ap, sym, subst, ◌∙◌, arith}
use Rattle.std.proofs.Math.ListN.{set, replicate}
use Rattle.std.proofs.lemmas.Bool.{cases_eq, cases_lt}
use Rattle.std.proofs.lemmas.List.{length-set}
use Rattle.std.proofs.lemmas.List.Elements.{Contains-append_left, Contains-push, Contains-push_cases}
use Rattle.std.proofs.lemmas.Option.{slice_get_within, get_or_from_slice_get}
use Rattle.wh_graph.specs.Walks.{Path, stay, go, StandsUpTo, IsLeftInOrder, IsLeavingOrder}
use Rattle.wh_graph.specs.Classes.{HasClass, IsPlaced, IsNew, Grown, AreGiven}
use Rattle.wh_pairs.proofs.ByPlace.{some_one, read, place_of}
use Rattle.wh_graph.proofs.PushLemmas.{set_here, set_there, same_marks}
use Rattle.wh_graph.proofs.WalkLemmas.{path_join}

-- what a walk in depth tells: among the vertices that it left up to r, what reaches r is reached from r

-- a path to r of which each later vertex is reached from r
data Back (E : ℕ → ℕ → Type 0) (r : ℕ) : (u : ℕ) → Type 0 where
  home : Back E r r
  leg : {u b : ℕ} → E u b → Path E r b → Back E r b → Back E r u

reach_back : (E : ℕ → ℕ → Type 0) (left : List ℕ) (j y r u : ℕ) → IsLeftInOrder E left → slice_get left j ≡ Some y → (StandsUpTo left j r → ⊥) → Back E r u → StandsUpTo left j u → Path E r y
reach_back E left j y r u order at later home stands = absurd (later stands)
reach_back E left j y r u order at later (leg {b = b} e to_b back) (k, le, there) = elim (order j k y u b at le there e) [
  | inl stands ↦ reach_back E left j y r b order at later back stands
  | inr path ↦ path_join to_b path
]

back_all : (E : ℕ → ℕ → Type 0) (left : List ℕ) (i r : ℕ) (P : ℕ → Type 0) → IsLeftInOrder E left → ((j k w : ℕ) → slice_get left j ≡ Some w → slice_get left k ≡ Some w → j ≡ k) → slice_get left i ≡ Some r
    → ((w : ℕ) → P w → StandsUpTo left i w) → ((a b : ℕ) → P a → E a b → P b) → (y : ℕ) → Path E y r → P y → Back E r y × Path E r y
back_all E left i r P order once at early closed y stay p = (home, stay)
back_all E left i r P order once at early closed y (go {b = b} e rest) p =
    let (back, to_b) = back_all E left i r P order once at early closed b rest (closed y b p e) in
    let whole : Back E r y = leg e to_b back in
    let (j, le, there) = early y p in
    elim (cases_lt j i) [
      | inl less ↦ (
        whole,
        reach_back E left j y r y order there (λ (k, below, again). let one = once k i r again at in omega arith) whole (j, omega arith, there),
      )
      | inr not_less ↦
          let same : i ≡ j = omega arith in
          let one : r ≡ y = some_one (sym (ap (slice_get left) same) ∙ at) there in
          (whole, subst (Path E r) one stay)
    ]

-- a vertex has no class or some

class_or_none : (of : List (Option ℕ)) (v : ℕ) → v < length of → (slice_get of v ≡ Some None) ⊎ ((c : ℕ) × HasClass of v c)
class_or_none [] v within = absurd (omega arith)
class_or_none (None ∷ of) zero within = inl refl
class_or_none (Some c ∷ of) zero within = inr (c, refl)
class_or_none (x ∷ of) (suc v) within = class_or_none of v (omega arith)

pub none_has : (of : List (Option ℕ)) (v c : ℕ) → slice_get of v ≡ Some None → HasClass of v c → ⊥
none_has of v c none has = let both : ◌≡◌ {A = Option ℕ} None (Some c) = some_one none has in cc

-- the next class
pub given_next : (E : ℕ → ℕ → Type 0) (n : ℕ) (order : List ℕ) (k r count : ℕ) (of new : List (Option ℕ)) → ((a b : ℕ) → E a b → b < n) → IsLeavingOrder E n order → AreGiven E n count of
    → ((i v : ℕ) → k < i → slice_get order i ≡ Some v → (c : ℕ) × HasClass of v c) → slice_get order k ≡ Some r → Grown E r count of new → AreGiven E n (count + 1) new
given_next E n order k r count of new target_within leaving given passed at grown =
    let early : (w : ℕ) → slice_get of w ≡ Some None → StandsUpTo order k w = λ w none.
    let within = slice_get_within of w None none in
    let there = place_of order w (leaving.whole w (omega (arith, given.size))) in
    elim (cases_lt k there.0) [
      | inl later ↦ let has = passed there.0 w later there.1 in absurd (none_has of w has.0 none has.1)
      | inr le ↦ (there.0, le, there.1)
    ] in
    let closed : (a b : ℕ) → slice_get of a ≡ Some None → E a b → slice_get of b ≡ Some None = λ a b none edge.
    let target = target_within a b edge in
    elim (class_or_none of b (omega (arith, given.size))) [
      | inl free ↦ free
      | inr (c, has) ↦ let from = given.back b a c edge has in absurd (none_has of a from.0 none from.1)
    ] in
    let old_or_new : (v c : ℕ) → HasClass new v c → HasClass of v c ⊎ ((c ≡ count) × (slice_get of v ≡ Some None) × Path E v r) = grown.given in
    let under : (v c : ℕ) → HasClass new v c → c < count + 1 = λ v c has. elim (old_or_new v c has) [
      | inl old ↦ let less = given.below v c old in omega arith
      | inr fresh ↦ omega (arith, fresh.0)
    ] in
    record {
      size = grown.size ∙ given.size;
      below = under;
      back = λ x y c edge has. elim (old_or_new x c has) [
        | inl old ↦ let from = given.back x y c edge old in (from.0, grown.kept y from.0 from.1, from.2)
        | inr fresh ↦
            let from = grown.closed x y (subst (HasClass new x) fresh.0 has) edge in
            (from.0, from.1, omega (arith, under y from.0 from.1, fresh.0))
      ];
      together = λ x y c has_x has_y. elim (old_or_new x c has_x) [
        | inl old_x ↦ elim (old_or_new y c has_y) [
          | inl old_y ↦ given.together x y c old_x old_y
          | inr fresh_y ↦ let less = given.below x c old_x in absurd (omega (arith, fresh_y.0))
        ]
        | inr fresh_x ↦ elim (old_or_new y c has_y) [
          | inl old_y ↦ let less = given.below y c old_y in absurd (omega (arith, fresh_x.0))
          | inr fresh_y ↦ path_join fresh_x.2 (back_all E order k r (λ w. slice_get of w ≡ Some None) leaving.ordered leaving.once at early closed y fresh_y.2 fresh_y.1).1
        ]
      ];
      filled = λ c less. elim (cases_lt c count) [
        | inl old ↦ let has = given.filled c old in (has.0, grown.kept has.0 c has.1)
        | inr not_less ↦
            let same : count ≡ c = omega arith in
            (r, subst (HasClass new r) same grown.root_has)
      ];
    }

pub given_none : (E : ℕ → ℕ → Type 0) (n m : ℕ) → m ≡ n → length (replicate {A = Option ℕ} m None) ≡ m → AreGiven E n 0 (replicate m None)
given_none E n m size long =
    let nobody : (v c : ℕ) → HasClass (replicate m None) v c → ⊥ = λ v c has. let both : ◌≡◌ {A = Option ℕ} None (Some c) = same_marks m None v (Some c) has in cc in
    record {
      size = long ∙ size;
      below = λ v c has. absurd (nobody v c has);
      back = λ x y c edge has. absurd (nobody x c has);
      together = λ x y c has_x has_y. absurd (nobody x c has_x);
      filled = λ c less. absurd (omega arith);
    }

-- one class, while it grows: what is on the stack may still have predecessors without a class
pub record Growing (E : ℕ → ℕ → Type 0) (root number : ℕ) (old new : List (Option ℕ)) (stack : List ℕ) : Type 0 where
  pub fresh : IsNew number old
  pub size : length new ≡ length old
  pub kept : (v c : ℕ) → HasClass old v c → HasClass new v c
  pub given : (v c : ℕ) → HasClass new v c → HasClass old v c ⊎ ((c ≡ number) × (slice_get old v ≡ Some None) × Path E v root)
  pub root_has : HasClass new root number
  pub on_stack : (x : ℕ) → Contains stack x → HasClass new x number
  pub closed : (x : ℕ) → HasClass new x number → Contains stack x ⊎ ((y : ℕ) → E y x → (d : ℕ) × HasClass new y d)

has_stays : (of : List (Option ℕ)) (w number v c : ℕ) → slice_get of w ≡ Some None → HasClass of v c → HasClass (set of w (Some number)) v c
has_stays of w number v c none has = elim (cases_eq w v) [
  | inl same ↦ absurd (none_has of v c (sym (ap (slice_get of) same) ∙ none) has)
  | inr other ↦ set_there of w v (Some number) other ∙ has
]

-- a vertex that has a class has one when another is given one
pub placed_stays : (of : List (Option ℕ)) (w number v : ℕ) → slice_get of w ≡ Some None → IsPlaced of v → IsPlaced (set of w (Some number)) v
placed_stays of w number v none (c, has) = (c, has_stays of w number v c none has)

has_now : (of : List (Option ℕ)) (w number v c : ℕ) → w < length of → HasClass (set of w (Some number)) v c → HasClass of v c ⊎ ((w ≡ v) × (c ≡ number))
has_now of w number v c within has = elim (cases_eq w v) [
  | inl same ↦
      let both : ◌≡◌ {A = Option ℕ} (Some number) (Some c) = some_one (set_here of w (Some number) within) (ap (slice_get (set of w (Some number))) same ∙ has) in
      inr (same, cc)
  | inr other ↦ inl (sym (set_there of w v (Some number) other) ∙ has)
]

pub grow_start : (E : ℕ → ℕ → Type 0) (root number : ℕ) (old : List (Option ℕ)) → IsNew number old → slice_get old root ≡ Some None → Growing E root number old (set old root (Some number)) (root ∷ [])
grow_start E root number old fresh none =
    let within = slice_get_within old root None none in
    let has_root : HasClass (set old root (Some number)) root number = set_here old root (Some number) within in
    let there : Contains (root ∷ []) root = (0, omega arith, refl) in
    record {
      fresh = fresh;
      size = length-set old root (Some number);
      kept = λ v c has. has_stays old root number v c none has;
      given = λ v c has. elim (has_now old root number v c within has) [
        | inl before ↦ inl before
        | inr now ↦ inr (now.1, sym (ap (slice_get old) now.0) ∙ none, subst (λ x. Path E x root) now.0 stay)
      ];
      root_has = has_root;
      on_stack = λ x found. elim (Contains-push_cases [] root x found) [
        | inl (k, below, at) ↦ absurd (omega arith)
        | inr same ↦ subst (λ y. HasClass (set old root (Some number)) y number) same has_root
      ];
      closed = λ x has. elim (has_now old root number x number within has) [
        | inl before ↦ absurd (fresh x before)
        | inr now ↦ inl (subst (Contains (root ∷ [])) now.0 there)
      ];
    }

pub grow_more : (E : ℕ → ℕ → Type 0) (root number : ℕ) (old new : List (Option ℕ)) (rest : List ℕ) (v w : ℕ) → Growing E root number old new (rest ++ v ∷ []) → E w v → slice_get new w ≡ Some None
    → Growing E root number old (set new w (Some number)) ((rest ++ v ∷ []) ++ w ∷ [])
grow_more E root number old new rest v w growing edge none =
    let stack = rest ++ v ∷ [] in
    let within = slice_get_within new w None none in
    let now : HasClass (set new w (Some number)) w number = set_here new w (Some number) within in
    let from_v : Path E v root = elim (growing.given v number (growing.on_stack v (Contains-push rest v))) [
      | inl before ↦ absurd (growing.fresh v before)
      | inr fresh ↦ fresh.2
    ] in
    let unplaced : slice_get old w ≡ Some None = elim (class_or_none old w (omega (arith, growing.size))) [
      | inl free ↦ free
      | inr (c, has) ↦ absurd (none_has new w c none (growing.kept w c has))
    ] in
    record {
      fresh = growing.fresh;
      size = length-set new w (Some number) ∙ growing.size;
      kept = λ x c has. has_stays new w number x c none (growing.kept x c has);
      given = λ x c has. elim (has_now new w number x c within has) [
        | inl before ↦ growing.given x c before
        | inr here ↦ inr (here.1, sym (ap (slice_get old) here.0) ∙ unplaced, subst (λ y. Path E y root) here.0 (go edge from_v))
      ];
      root_has = has_stays new w number root number none growing.root_has;
      on_stack = λ x found. elim (Contains-push_cases stack w x found) [
        | inl before ↦ has_stays new w number x number none (growing.on_stack x before)
        | inr same ↦ subst (λ y. HasClass (set new w (Some number)) y number) same now
      ];
      closed = λ x has. elim (has_now new w number x number within has) [
        | inl before ↦ elim (growing.closed x before) [
          | inl there ↦ inl (Contains-append_left stack (w ∷ []) x there)
          | inr all ↦ inr (λ y to_x. let from = all y to_x in (from.0, has_stays new w number y from.0 none from.1))
        ]
        | inr here ↦ inl (subst (Contains (stack ++ w ∷ [])) here.0 (Contains-push stack w))
      ];
    }

pub grow_leave : (E : ℕ → ℕ → Type 0) (root number : ℕ) (old new : List (Option ℕ)) (rest : List ℕ) (v : ℕ) → Growing E root number old new (rest ++ v ∷ []) → ((y : ℕ) → E y v → (d : ℕ) × HasClass new y d)
    → Growing E root number old new rest
grow_leave E root number old new rest v growing all = record {
  fresh = growing.fresh;
  size = growing.size;
  kept = growing.kept;
  given = growing.given;
  root_has = growing.root_has;
  on_stack = λ x found. growing.on_stack x (Contains-append_left rest (v ∷ []) x found);
  closed = λ x has. elim (growing.closed x has) [
    | inl there ↦ elim (Contains-push_cases rest v x there) [
      | inl before ↦ inl before
      | inr same ↦ inr (λ y edge. all y (subst (E y) (sym same) edge))
    ]
    | inr done ↦ inr done
  ];
}

pub grown_all : (E : ℕ → ℕ → Type 0) (root number : ℕ) (old new : List (Option ℕ)) → Growing E root number old new [] → Grown E root number old new
grown_all E root number old new growing = record {
  size = growing.size;
  kept = growing.kept;
  given = growing.given;
  root_has = growing.root_has;
  closed = λ x y has edge. elim (growing.closed x has) [
    | inl (k, below, at) ↦ absurd (omega arith)
    | inr all ↦ all y edge
  ];
}

-- how many have no class yet

abbrev pub unplaced : List (Option ℕ) → ℕ
unplaced [] = 0
unplaced (Some c ∷ of) = unplaced of
unplaced (None ∷ of) = 1 + unplaced of

pub one_less_unplaced : (of : List (Option ℕ)) (w c : ℕ) → slice_get of w ≡ Some None → unplaced (set of w (Some c)) + 1 ≡ unplaced of
one_less_unplaced [] w c at = cc
one_less_unplaced (Some d ∷ of) zero c at = cc
one_less_unplaced (None ∷ of) zero c at = omega arith
one_less_unplaced (Some d ∷ of) (suc w) c at = one_less_unplaced of w c at
one_less_unplaced (None ∷ of) (suc w) c at = let less = one_less_unplaced of w c at in omega arith

-- a class as the walk reads it
pub read_class : (of : List (Option ℕ)) (v : ℕ) (none : Bool) → v < length of → is_some (get_or of v None) ≡ not none → none ≡ false → (c : ℕ) × HasClass of v c
read_class of v none within says is = elim (class_or_none of v within) [
  | inl free ↦
      let empty : get_or of v None ≡ None = get_or_from_slice_get of v None None free in
      let both : false ≡ true = sym (ap is_some empty) ∙ says ∙ ap not is in cc
  | inr has ↦ has
]

-- the same, where the walk read the place
pub class_at : (of : List (Option ℕ)) (v : ℕ) (x : Option ℕ) (none : Bool) → v < length of → x ≡ get_or of v x → is_some x ≡ not none → none ≡ false → (c : ℕ) × HasClass of v c
class_at of v None none within at says is = let both : ◌≡◌ {A = Bool} false true = says ∙ ap not is in cc
class_at of v (Some c) none within at says is = (c, read of v (Some c) within at)

pub none_at : (of : List (Option ℕ)) (v : ℕ) (x : Option ℕ) (none : Bool) → v < length of → x ≡ get_or of v x → is_some x ≡ not none → none ≡ true → slice_get of v ≡ Some None
none_at of v None none within at says is = read of v None within at
none_at of v (Some c) none within at says is = let both : ◌≡◌ {A = Bool} true false = says ∙ ap not is in cc
