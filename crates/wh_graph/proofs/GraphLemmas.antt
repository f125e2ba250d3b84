-- Graphs as lists: how they are made, and their parts of a set.
use Rattle.std.proofs.Common.{◌≡◌, ◌↔◌, ℕ, zero, suc, ◌+◌, ◌^◌, ◌<◌, ◌≤◌, ◌⊎◌, inl, inr, List, [], ◌∷◌, ◌++◌, length, get_or, Some, slice_get, Contains, All, refl, ap, sym, subst, ◌∙◌, arith}
use Rattle.std.proofs.Math.ListN.{set, replicate}
use Rattle.std.proofs.lemmas.Bool.{cases_eq, cases_lt}
use Rattle.std.proofs.lemmas.List.{length-append, length-set}
use Rattle.std.proofs.lemmas.List.Elements.{All-contains, All-get_or, All-from_get_or, Contains-append_left, Contains-get_or, Contains-push, Contains-push_cases}
use Rattle.std.proofs.lemmas.Option.{slice_get_within, slice_get-get_or}
use Rattle.wh_terms.specs.Rules.{RewriteRule}
use Rattle.wh_pairs.specs.PairData.{PairData, IsIncreasing}
use Rattle.wh_pairs.proofs.ByPlace.{some_one, contains_at, place_of, same_or_below}
use Rattle.wh_pairs.proofs.PlacesBefore.{StandsBefore, before_none, before_more, before_all}
use Rattle.wh_pairs.proofs.Increasing.{increasing_at, one_place}
use Rattle.wh_graph.specs.Components.{Reaches, here, step, AreComponents}
use Rattle.wh_graph.specs.Graphs.{Edge, AreWithin, Turned, AtPlaces, AreLists, edge_of, IsGraph, IsGraphOf, HavePassed}
use Rattle.wh_graph.specs.May.{Follows}
use Rattle.wh_graph.specs.Walks.{Path, stay, go, IsLeavingOrder}
use Rattle.wh_graph.specs.declared.edges.Graph.{Graph}
use Rattle.wh_graph.proofs.PushLemmas.{push_old, push_new, push_cases, set_here, set_there, same_marks}

-- edges

pub edge_within : (rows : List (List ℕ)) (a b : ℕ) → Edge rows a b → a < length rows
edge_within rows a b (row, at, found) = slice_get_within rows a row at

pub edge_in : (rows : List (List ℕ)) (a b : ℕ) (row : List ℕ) → slice_get rows a ≡ Some row → Edge rows a b → Contains row b
edge_in rows a b row at (other, there, found) = subst (λ (r : List ℕ). Contains r b) (some_one there at) found

-- the list of a vertex, as a program reads it
pub row_at : (rows : List (List ℕ)) (a : ℕ) (row : List ℕ) → a < length rows → row ≡ get_or rows a row → slice_get rows a ≡ Some row
row_at rows a row within is = slice_get-get_or rows a row within ∙ ap Some (sym is)

-- the numbers below one of which P holds, one more at a time

abbrev pub HasBelow : (ℕ → Type 0) → ℕ → List ℕ → Type 0
HasBelow P n row = (b : ℕ) → Contains row b ↔ ((b < n) × P b)

pub below_none : (P : ℕ → Type 0) → HasBelow P 0 []
below_none P b = (λ (k, within, at). absurd (omega arith), λ (less, p). absurd (omega arith))

pub below_push : (P : ℕ → Type 0) (n : ℕ) (row : List ℕ) → HasBelow P n row → P n → HasBelow P (n + 1) (row ++ n ∷ [])
below_push P n row has p b = (
  λ found. elim (Contains-push_cases row n b found) [
    | inl old ↦ let from = (has b).0 old in (omega (arith, from.0), from.1)
    | inr same ↦ (omega arith, subst P same p)
  ],
  λ (less, q). elim (same_or_below b n less) [
    | inl same ↦ subst (Contains (row ++ n ∷ [])) (sym same) (Contains-push row n)
    | inr below ↦ Contains-append_left row (n ∷ []) b ((has b).1 (below, q))
  ],
)

pub below_skip : (P : ℕ → Type 0) (n : ℕ) (row : List ℕ) → HasBelow P n row → (P n → ⊥) → HasBelow P (n + 1) row
below_skip P n row has not b = (
  λ found. let from = (has b).0 found in (omega (arith, from.0), from.1),
  λ (less, q). elim (same_or_below b n less) [
    | inl same ↦ absurd (not (subst P same q))
    | inr below ↦ (has b).1 (below, q)
  ],
)

-- the lists of the first vertices, one more at a time

pub record AreListsTo (E : ℕ → ℕ → Type 0) (i : ℕ) (rows : List (List ℕ)) : Type 0 where
  pub size : length rows ≡ i
  pub each : (a b : ℕ) → Edge rows a b ↔ ((a < i) × E a b)

pub lists_none : (E : ℕ → ℕ → Type 0) → AreListsTo E 0 []
lists_none E = record { size = refl; each = λ a b. (λ (row, at, found). absurd (cc), λ (less, e). absurd (omega arith)) }

pub lists_push : (E : ℕ → ℕ → Type 0) (i : ℕ) (rows : List (List ℕ)) (row : List ℕ) → AreListsTo E i rows → ((b : ℕ) → Contains row b ↔ E i b)
    → AreListsTo E (i + 1) (rows ++ row ∷ [])
lists_push E i rows row are is = record {
  size = omega (arith, length-append rows (row ∷ []), are.size);
  each = λ a b. (
    λ (list, at, found). elim (push_cases rows row a list at) [
      | inl old ↦ let from = (are.each a b).0 (list, old, found) in (omega (arith, from.0), from.1)
      | inr new ↦
          let same : a ≡ i = new.0 ∙ are.size in
          (omega (arith, same), subst (λ c. E c b) (sym same) ((is b).0 (subst (λ (r : List ℕ). Contains r b) new.1 found)))
    ],
    λ (less, e). elim (same_or_below a i less) [
      | inl same ↦
          let last : slice_get (rows ++ row ∷ []) a ≡ Some row = ap (slice_get (rows ++ row ∷ [])) (same ∙ sym are.size) ∙ push_new rows row in
          (row, last, (is b).1 (subst (λ c. E c b) same e))
      | inr below ↦ let from = (are.each a b).1 (below, e) in (from.0, push_old rows row a from.0 from.1, from.2)
    ],
  );
}

pub lists_all : (E : ℕ → ℕ → Type 0) (n i : ℕ) (rows : List (List ℕ)) → AreListsTo E i rows → i ≡ n → ((a b : ℕ) → E a b → a < n) → AreLists E n rows
lists_all E n i rows are whole source = record {
  size = are.size ∙ whole;
  each = λ a b. (λ edge. ((are.each a b).0 edge).1, λ e. (are.each a b).1 (let less = source a b e in omega (arith, whole), e));
}

pub follows_within : (rules : List RewriteRule) (pairs : List PairData) (a b : ℕ) → Follows rules pairs a b → (a < length pairs) × (b < length pairs)
follows_within rules pairs a b (x, y, at, also, may) = (slice_get_within pairs a x at, slice_get_within pairs b y also)

-- one more number in a list

pub edge_set : (rows : List (List ℕ)) (t x : ℕ) (old new : List ℕ) → slice_get rows t ≡ Some old → new ≡ old ++ x ∷ [] → (b a : ℕ)
    → Edge (set rows t new) b a ↔ (Edge rows b a ⊎ ((a ≡ x) × (b ≡ t)))
edge_set rows t x old new at is b a =
    let within = slice_get_within rows t old at in
    let now : slice_get (set rows t new) t ≡ Some new = set_here rows t new within in
    let new_has : Contains new x = subst (λ (r : List ℕ). Contains r x) (sym is) (Contains-push old x) in (
      λ edge. elim (cases_eq t b) [
        | inl same ↦
            let found : Contains new a = edge_in (set rows t new) b a new (ap (slice_get (set rows t new)) (sym same) ∙ now) edge in
            elim (Contains-push_cases old x a (subst (λ (r : List ℕ). Contains r a) is found)) [
              | inl before ↦ inl (old, ap (slice_get rows) (sym same) ∙ at, before)
              | inr one ↦ inr (sym one, sym same)
            ]
        | inr other ↦ let (row, there, found) = edge in inl (row, sym (set_there rows t b new other) ∙ there, found)
      ],
      λ either. elim either [
        | inl (row, there, found) ↦ elim (cases_eq t b) [
          | inl same ↦
              let one : row ≡ old = some_one there (ap (slice_get rows) (sym same) ∙ at) in
              let kept : Contains new a = subst (λ (r : List ℕ). Contains r a) (sym is) (Contains-append_left old (x ∷ []) a (subst (λ (r : List ℕ). Contains r a) one found)) in
              (new, ap (slice_get (set rows t new)) (sym same) ∙ now, kept)
          | inr other ↦ (row, set_there rows t b new other ∙ there, found)
        ]
        | inr (is_x, is_t) ↦ (new, ap (slice_get (set rows t new)) is_t ∙ now, subst (Contains new) (sym is_x) new_has)
      ],
    )

-- the number entered in the lists of what stands before a place of a row

pub record AreEntered (old : List (List ℕ)) (row : List ℕ) (number i : ℕ) (new : List (List ℕ)) : Type 0 where
  pub size : length new ≡ length old
  pub each : (b a : ℕ) → Edge new b a ↔ (Edge old b a ⊎ ((a ≡ number) × StandsBefore row i b))

pub entered_none : (old : List (List ℕ)) (row : List ℕ) (number : ℕ) → AreEntered old row number 0 old
entered_none old row number = record {
  size = refl;
  each = λ b a. (λ edge. inl edge, λ either. elim either [ inl edge ↦ edge | inr (same, stands) ↦ absurd (before_none row b stands) ]);
}

pub entered_more : (old : List (List ℕ)) (row : List ℕ) (number i t : ℕ) (back : List (List ℕ)) (before after : List ℕ) → AreEntered old row number i back
    → slice_get row i ≡ Some t → slice_get back t ≡ Some before → after ≡ before ++ number ∷ [] → AreEntered old row number (i + 1) (set back t after)
entered_more old row number i t back before after are at there is = record {
  size = length-set back t after ∙ are.size;
  each = λ b a.
      let changed = edge_set back t number before after there is b a in
      let next = before_more row i t at b in (
        λ edge. elim (changed.0 edge) [
          | inl was ↦ elim ((are.each b a).0 was) [
            | inl first ↦ inl first
            | inr (same, stands) ↦ inr (same, next.1 (inl stands))
          ]
          | inr (same, is_t) ↦ inr (same, next.1 (inr is_t))
        ],
        λ either. elim either [
          | inl first ↦ changed.1 (inl ((are.each b a).1 (inl first)))
          | inr (same, stands) ↦ elim (next.0 stands) [
            | inl early ↦ changed.1 (inl ((are.each b a).1 (inr (same, early))))
            | inr is_t ↦ changed.1 (inr (same, is_t))
          ]
        ],
      );
}

-- the edges from the first vertices turned round

pub record AreTurnedTo (rows : List (List ℕ)) (i : ℕ) (back : List (List ℕ)) : Type 0 where
  pub size : length back ≡ length rows
  pub each : (b a : ℕ) → Edge back b a ↔ ((a < i) × Edge rows a b)

pub turned_none : (rows back : List (List ℕ)) → length back ≡ length rows → ((a b : ℕ) → Edge back a b → ⊥) → AreTurnedTo rows 0 back
turned_none rows back size none = record { size = size; each = λ b a. (λ edge. absurd (none b a edge), λ (less, edge). absurd (omega arith)) }

pub turned_more : (rows : List (List ℕ)) (i : ℕ) (row : List ℕ) (back new : List (List ℕ)) → AreTurnedTo rows i back → slice_get rows i ≡ Some row
    → length new ≡ length back → ((b a : ℕ) → Edge new b a ↔ (Edge back b a ⊎ ((a ≡ i) × Contains row b))) → AreTurnedTo rows (i + 1) new
turned_more rows i row back new are at size each = record {
  size = size ∙ are.size;
  each = λ b a. (
    λ edge. elim ((each b a).0 edge) [
      | inl old ↦ let from = (are.each b a).0 old in (omega (arith, from.0), from.1)
      | inr (same, found) ↦ (omega (arith, same), subst (λ c. Edge rows c b) (sym same) (row, at, found))
    ],
    λ (less, edge). elim (same_or_below a i less) [
      | inl same ↦ (each b a).1 (inr (same, edge_in rows i b row at (subst (λ c. Edge rows c b) same edge)))
      | inr below ↦ (each b a).1 (inl ((are.each b a).1 (below, edge)))
    ],
  );
}

pub turned_all : (rows : List (List ℕ)) (i : ℕ) (back : List (List ℕ)) → AreTurnedTo rows i back → length rows ≤ i → AreLists (Turned (Edge rows)) (length rows) back
turned_all rows i back are past = record {
  size = are.size;
  each = λ b a. (
    λ edge. ((are.each b a).0 edge).1,
    λ edge. (are.each b a).1 (let less = edge_within rows a b edge in omega (arith, past), edge),
  );
}

-- the graph of pairs

pub followers_within : (rules : List RewriteRule) (pairs : List PairData) (count : ℕ) (rows : List (List ℕ)) → count ≡ length pairs
    → AreLists (Follows rules pairs) count rows → AreWithin rows
followers_within rules pairs count rows count_is are a b edge =
    let both = follows_within rules pairs a b ((are.each a b).0 edge) in
    omega (arith, both.1, are.size, count_is)

pub graph_made : (rules : List RewriteRule) (pairs : List PairData) (g : Graph) (count : ℕ) → count < 2 ^ 32 → count ≡ length pairs
    → AreLists (Follows rules pairs) count g.followers.items → AreLists (Turned (Edge g.followers.items)) (length g.followers.items) g.leaders.items → IsGraphOf rules pairs g
graph_made rules pairs g count low count_is followers leaders = record {
  graph = record {
    within = followers_within rules pairs count g.followers.items count_is followers;
    leaders = leaders;
    few = omega (arith, low, followers.size);
  };
  size = followers.size ∙ count_is;
  each = followers.each;
}

-- the places of the members that a row has, one more at a time

abbrev pub HasPlaces : List ℕ → List ℕ → ℕ → List ℕ → Type 0
HasPlaces members row i placed = (v : ℕ) → Contains placed v ↔ ((b : ℕ) × (slice_get members v ≡ Some b) × StandsBefore row i b)

pub places_none : (members row : List ℕ) → HasPlaces members row 0 []
places_none members row v = (λ (k, within, at). absurd (omega arith), λ (b, at, stands). absurd (before_none row b stands))

pub places_push : (members row : List ℕ) (i n place : ℕ) (placed : List ℕ) → IsIncreasing members → HasPlaces members row i placed → slice_get row i ≡ Some n
    → slice_get members place ≡ Some n → HasPlaces members row (i + 1) (placed ++ place ∷ [])
places_push members row i n place placed up has at member v = (
  λ found. elim (Contains-push_cases placed place v found) [
    | inl old ↦ let (b, there, stands) = (has v).0 old in (b, there, (before_more row i n at b).1 (inl stands))
    | inr same ↦ (n, ap (slice_get members) (sym same) ∙ member, (before_more row i n at n).1 (inr refl))
  ],
  λ (b, there, stands). elim ((before_more row i n at b).0 stands) [
    | inl early ↦ Contains-append_left placed (place ∷ []) v ((has v).1 (b, there, early))
    | inr same ↦
        let one : place ≡ v = one_place members place v n up member (there ∙ ap Some same) in
        subst (Contains (placed ++ place ∷ [])) one (Contains-push placed place)
  ],
)

pub places_skip : (members row : List ℕ) (i n : ℕ) (placed : List ℕ) → HasPlaces members row i placed → slice_get row i ≡ Some n
    → (Contains members n → ⊥) → HasPlaces members row (i + 1) placed
places_skip members row i n placed has at missing v = (
  λ found. let (b, there, stands) = (has v).0 found in (b, there, (before_more row i n at b).1 (inl stands)),
  λ (b, there, stands). elim ((before_more row i n at b).0 stands) [
    | inl early ↦ (has v).1 (b, there, early)
    | inr same ↦ absurd (missing (contains_at members v n (there ∙ ap Some same)))
  ],
)

pub places_all : (members row : List ℕ) (i : ℕ) (placed : List ℕ) → HasPlaces members row i placed → length row ≤ i
    → (v : ℕ) → Contains placed v ↔ ((b : ℕ) × (slice_get members v ≡ Some b) × Contains row b)
places_all members row i placed has past v = (
  λ found. let (b, there, stands) = (has v).0 found in (b, there, (before_all row i past b).0 stands),
  λ (b, there, found). (has v).1 (b, there, (before_all row i past b).1 found),
)

-- so its row has the edges to members, by their places
pub row_at_place : (rows : List (List ℕ)) (members : List ℕ) (i n : ℕ) (row placed : List ℕ) → slice_get members i ≡ Some n → slice_get rows n ≡ Some row
    → ((v : ℕ) → Contains placed v ↔ ((b : ℕ) × (slice_get members v ≡ Some b) × Contains row b)) → (v : ℕ) → Contains placed v ↔ AtPlaces (Edge rows) members i v
row_at_place rows members i n row placed at there has v = (
  λ found. let (b, member, in_row) = (has v).0 found in (n, b, at, member, (row, there, in_row)),
  λ (a, b, at_a, member, edge).
      let same : a ≡ n = some_one at_a at in
      (has v).1 (b, member, edge_in rows n b row there (subst (λ c. Edge rows c b) same edge)),
)

pub at_places_within : (E : ℕ → ℕ → Type 0) (members : List ℕ) (u v : ℕ) → AtPlaces E members u v → (u < length members) × (v < length members)
at_places_within E members u v (a, b, at, also, e) = (slice_get_within members u a at, slice_get_within members v b also)

-- an increasing list of numbers below one is not longer than that
rises : (xs : List ℕ) (i : ℕ) → IsIncreasing xs → i < length xs → i ≤ get_or xs i 0
rises xs zero up within = omega arith
rises xs (suc i) up within =
    let before = rises xs i up (omega arith) in
    let next = increasing_at xs i (suc i) up (omega arith) within in
    omega (arith, before, next)

pub few_members : (xs : List ℕ) (n : ℕ) → IsIncreasing xs → All (λ x. x < n) xs → length xs ≤ n
few_members [] n up below = omega arith
few_members (x ∷ rest) n up below =
    let last = length rest in
    let within : last < length (x ∷ rest) = omega arith in
    omega (arith, rises (x ∷ rest) last up within, All-get_or (λ m. m < n) (x ∷ rest) last 0 within below)

-- one relation in place of another that is the same

path_same : (E F : ℕ → ℕ → Type 0) → ((a b : ℕ) → E a b → F a b) → (a b : ℕ) → Path E a b → Path F a b
path_same E F same a b stay = stay
path_same E F same a b (go {b = c} edge rest) = go (same a c edge) (path_same E F same c b rest)

pub leaving_same : (E F : ℕ → ℕ → Type 0) (n : ℕ) (order : List ℕ) → ((a b : ℕ) → E a b ↔ F a b) → IsLeavingOrder E n order → IsLeavingOrder F n order
leaving_same E F n order same leaving = record {
  within = leaving.within;
  whole = leaving.whole;
  once = leaving.once;
  ordered = λ i j y u w at_i le at_j edge. elim (leaving.ordered i j y u w at_i le at_j ((same u w).1 edge)) [
    | inl stands ↦ inl stands
    | inr path ↦ inr (path_same E F (λ a b e. (same a b).0 e) w y path)
  ];
}

reaches_same : (E F : ℕ → ℕ → Type 0) (members : List ℕ) → ((a b : ℕ) → E a b → F a b) → (a b : ℕ) → Reaches E members a b → Reaches F members a b
reaches_same E F members same a b (here found) = here found
reaches_same E F members same a b (step {b = c} found e rest) = step found (same a c e) (reaches_same E F members same c b rest)

pub components_same : (E F : ℕ → ℕ → Type 0) (members : List ℕ) (parts : List (List ℕ)) → ((a b : ℕ) → E a b ↔ F a b) → AreComponents E members parts
    → AreComponents F members parts
components_same E F members parts same are =
    let there = reaches_same E F members (λ a b e. (same a b).0 e) in
    let back = reaches_same F E members (λ a b e. (same a b).1 e) in
    record {
      partition = are.partition;
      filled = are.filled;
      classes = λ i j a b in_i in_j. (
        λ one. let both = (are.classes i j a b in_i in_j).0 one in (there a b both.0, there b a both.1),
        λ (forth, home). (are.classes i j a b in_i in_j).1 (back a b forth, back b a home),
      );
      ordered = λ i j a b less in_j in_i edge. are.ordered i j a b less in_j in_i ((same a b).1 edge);
    }

-- the components in the graph of pairs are those of the pairs
pub components_of_pairs : (rules : List RewriteRule) (pairs : List PairData) (g : Graph) (members : List ℕ) (parts : List (List ℕ)) → IsGraphOf rules pairs g
    → AreComponents (edge_of g) members parts → AreComponents (Follows rules pairs) members parts
components_of_pairs rules pairs g members parts is are = components_same (edge_of g) (Follows rules pairs) members parts is.each are

-- the lists of the leaders of members are those of the followers turned round
pub turned_at_places : (g : Graph) (members : List ℕ) (followers leaders : List (List ℕ)) → IsGraph g
    → AreLists (AtPlaces (edge_of g) members) (length members) followers → AreLists (AtPlaces (Edge g.leaders.items) members) (length members) leaders
    → (u v : ℕ) → Edge followers u v ↔ Turned (Edge leaders) u v
turned_at_places g members followers leaders is are back u v = (
  λ edge.
      let (a, b, at_u, at_v, e) = (are.each u v).0 edge in
      (back.each v u).1 (b, a, at_v, at_u, (is.leaders.each b a).1 e),
  λ edge.
      let (b, a, at_v, at_u, e) = (back.each v u).0 edge in
      (are.each u v).1 (a, b, at_u, at_v, (is.leaders.each b a).0 e),
)

-- each edge of these lists leads to one of them
pub placed_within : (E : ℕ → ℕ → Type 0) (members : List ℕ) (rows : List (List ℕ)) → AreLists (AtPlaces E members) (length members) rows → AreWithin rows
placed_within E members rows are a b edge =
    let both = at_places_within E members a b ((are.each a b).0 edge) in
    omega (arith, both.1, are.size)

-- an order of the followers is one of the leaders turned round
pub leaving_turned : (g : Graph) (members : List ℕ) (followers leaders : List (List ℕ)) (order : List ℕ) → IsGraph g
    → AreLists (AtPlaces (edge_of g) members) (length members) followers → AreLists (AtPlaces (Edge g.leaders.items) members) (length members) leaders
    → IsLeavingOrder (Edge followers) (length followers) order → IsLeavingOrder (Turned (Edge leaders)) (length leaders) order
leaving_turned g members followers leaders order is are back leaving =
    subst (λ (n : ℕ). IsLeavingOrder (Turned (Edge leaders)) n order) (are.size ∙ sym back.size)
    (leaving_same (Edge followers) (Turned (Edge leaders)) (length followers) order (turned_at_places g members followers leaders is are back) leaving)

-- the places where walks stopped in the lists

pub passed_none : (P : ℕ → Type 0) (rows : List (List ℕ)) (n : ℕ) → length {A = ℕ} (replicate n 0) ≡ length rows → HavePassed P rows (replicate n 0)
passed_none P rows n size = record {
  size = size;
  each = λ v p k w row at there below stands. let zero_is : 0 ≡ p = same_marks n 0 v p at in absurd (omega (arith, zero_is, below));
}

pub passed_weaker : (P Q : ℕ → Type 0) (rows : List (List ℕ)) (places : List ℕ) → ((w : ℕ) → P w → Q w) → HavePassed P rows places → HavePassed Q rows places
passed_weaker P Q rows places then passed = record { size = passed.size; each = λ v p k w row at there below stands. then w (passed.each v p k w row at there below stands) }

-- all of the list before a place, where a walk went on to that from the place where it was
pub passed_row : (P : ℕ → Type 0) (rows : List (List ℕ)) (places : List ℕ) (v from place : ℕ) (row : List ℕ) → HavePassed P rows places
    → slice_get rows v ≡ Some row → slice_get places v ≡ Some from → ((k w : ℕ) → from ≤ k → k < place → slice_get row k ≡ Some w → P w)
    → (k w : ℕ) → k < place → slice_get row k ≡ Some w → P w
passed_row P rows places v from place row passed at was next k w below stands = elim (cases_lt k from) [
  | inl early ↦ passed.each v from k w row was at early stands
  | inr late ↦ next k w late below stands
]

pub passed_on : (P : ℕ → Type 0) (rows : List (List ℕ)) (places : List ℕ) (v from place : ℕ) (row : List ℕ) → HavePassed P rows places
    → slice_get rows v ≡ Some row → slice_get places v ≡ Some from → ((k w : ℕ) → from ≤ k → k < place → slice_get row k ≡ Some w → P w)
    → HavePassed P rows (set places v place)
passed_on P rows places v from place row passed at was next =
    let all = passed_row P rows places v from place row passed at was next in
    record {
      size = length-set places v place ∙ passed.size;
      each = λ u p k w list at_u there below stands. elim (cases_eq v u) [
        | inl same ↦
            let one : place ≡ p = some_one (set_here places v place (slice_get_within places v from was)) (ap (slice_get (set places v place)) same ∙ at_u) in
            let list_is : list ≡ row = some_one there (ap (slice_get rows) (sym same) ∙ at) in
            all k w (omega (arith, one, below)) (ap (λ (l : List ℕ). slice_get l k) (sym list_is) ∙ stands)
        | inr other ↦ passed.each u p k w list (sym (set_there places v u place other) ∙ at_u) there below stands
      ];
    }

-- the edges of a vertex, where a walk has passed its whole list
pub passed_edges : (P : ℕ → Type 0) (rows : List (List ℕ)) (places : List ℕ) (v from place : ℕ) (row : List ℕ) → HavePassed P rows places
    → slice_get rows v ≡ Some row → slice_get places v ≡ Some from → ((k w : ℕ) → from ≤ k → k < place → slice_get row k ≡ Some w → P w)
    → length row ≤ place → (w : ℕ) → Edge rows v w → P w
passed_edges P rows places v from place row passed at was next past w edge =
    let there = place_of row w (edge_in rows v w row at edge) in
    let within = slice_get_within row there.0 w there.1 in
    passed_row P rows places v from place row passed at was next there.0 w (omega arith) there.1

pub edge_at : (rows : List (List ℕ)) (v k w : ℕ) (row : List ℕ) → slice_get rows v ≡ Some row → slice_get row k ≡ Some w → Edge rows v w
edge_at rows v k w row at stands = (row, at, contains_at row k w stands)

-- a list whose entries are below a number
pub row_within : (rows : List (List ℕ)) (v n : ℕ) (row : List ℕ) → AreWithin rows → slice_get rows v ≡ Some row → n ≡ length rows → All (λ w. w < n) row
row_within rows v n row within at size =
    All-from_get_or (λ w. w < n) row 0 (λ k inside.
    let less = within v (get_or row k 0) (row, at, Contains-get_or row k 0 inside) in
    omega (arith, less, size))

-- empty lists have no edges
pub empty_edges : (rows : List (List ℕ)) → All (λ (row : List ℕ). row ≡ []) rows → (a b : ℕ) → Edge rows a b → ⊥
empty_edges rows none a b (row, at, found) =
    let empty : row ≡ [] = All-contains (λ (r : List ℕ). r ≡ []) rows row none (contains_at rows a row at) in
    let (k, within, stands) = subst (λ (r : List ℕ). Contains r b) empty found in
    omega arith
