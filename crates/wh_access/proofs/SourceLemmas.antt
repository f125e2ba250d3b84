-- The list of sources as it grows, how long it gets, and the ways that it holds.
use Rattle.std.proofs.Common.{◌≡◌, ◌≢◌, ℕ, zero, suc, ◌+◌, ◌<◌, ◌≤◌, ◌⊎◌, inl, inr, Bool, true, false, eqb, List, [], ◌∷◌, ◌++◌, length, get_or, map, set, All, AllPairs, Contains, refl, ap, sym, ◌∙◌, subst, arith}
use Rattle.std.proofs.lemmas.List.{get_or_default, get_or_append_left, get_or-map, get_or-set_same, get_or-set_other, get_or-replicate, length-append, length-map, length-set, length-replicate}
use Rattle.std.proofs.lemmas.List.Quantifiers.{all_pairs_push}
use Rattle.std.proofs.Math.Seq.{get_or-append_seam}
use Rattle.std.proofs.Math.ListN.{replicate}
use Rattle.std.specs.List.{IsDistinct}
use Rattle.std.specs.Set.{is_member}
use Rattle.std.proofs.lemmas.Bool.Decides.{Decides-eqb}
use Rattle.std.proofs.lemmas.Cmp.{nat_eq_equiv}
use Rattle.std.proofs.lemmas.List.Elements.{All-push, Contains-push_cases}
use Rattle.std.proofs.lemmas.Map.Made.{is_member-Decides, AllPairs-from_IsDistinct, IsDistinct-from_AllPairs, length-le_from_is_member}
use Rattle.std.proofs.lemmas.Map.Steps.{length-le_from_distinct_below}
use Rattle.wh_access.specs.Demands.{LeadsAlong, LeadsSomewhere, IsCycle}
use Rattle.wh_access.specs.declared.sources.Source.{Source}
use Rattle.wh_access.specs.Sources.{sort_at, next_at, Lists, Begun, AreSources, Marks, LeadsBy, LeadsUpTo, IsWay}

-- an entry that is read
pub entry_here : (xs : List Source) (k : ℕ) (x : Source) → k < length xs → x ≡ get_or xs k x → (sort_at xs k ≡ x.sort) × (next_at xs k ≡ x.next)
entry_here xs k x within here =
    let e : get_or xs k (record { sort = 0; next = 0 }) ≡ x = get_or_default xs k (record { sort = 0; next = 0 }) x within ∙ sym here in
    (ap (λ (y : Source). y.sort) e, ap (λ (y : Source). y.next) e)

-- one more entry

sort_before : (xs : List Source) (x : Source) (k : ℕ) → k < length xs → sort_at (xs ++ x ∷ []) k ≡ sort_at xs k
sort_before xs x k within = ap (λ (y : Source). y.sort) (get_or_append_left xs (x ∷ []) (record { sort = 0; next = 0 }) k within)

next_before : (xs : List Source) (x : Source) (k : ℕ) → k < length xs → next_at (xs ++ x ∷ []) k ≡ next_at xs k
next_before xs x k within = ap (λ (y : Source). y.next) (get_or_append_left xs (x ∷ []) (record { sort = 0; next = 0 }) k within)

sort_last : (xs : List Source) (x : Source) → sort_at (xs ++ x ∷ []) (length xs) ≡ x.sort
sort_last xs x = ap (λ (y : Source). y.sort) (get_or-append_seam xs x [] (record { sort = 0; next = 0 }))

next_last : (xs : List Source) (x : Source) → next_at (xs ++ x ∷ []) (length xs) ≡ x.next
next_last xs x = ap (λ (y : Source). y.next) (get_or-append_seam xs x [] (record { sort = 0; next = 0 }))

one_longer : (xs : List Source) (x : Source) → length (xs ++ x ∷ []) ≡ length xs + 1
one_longer xs x = length-append xs (x ∷ [])

cases : (k n m : ℕ) → m ≡ n + 1 → k < m → (k < n) ⊎ (k ≡ n)
cases k n m e h = grind arith

pub lists_push : (xs : List Source) (x : Source) (s : ℕ) → Lists xs s → Lists (xs ++ x ∷ []) s
lists_push xs x s (k, within, e) = (k, omega (arith, one_longer xs x), sort_before xs x k within ∙ e)

lists_push_back : (xs : List Source) (x : Source) (s : ℕ) → Lists (xs ++ x ∷ []) s → Lists xs s ⊎ (x.sort ≡ s)
lists_push_back xs x s (k, within, e) =
    elim (cases k (length xs) (length (xs ++ x ∷ [])) (one_longer xs x) within) [
      | inl less ↦ inl (k, less, sym (sort_before xs x k less) ∙ e)
      | inr same ↦ inr (sym (sort_last xs x) ∙ ap (sort_at (xs ++ x ∷ [])) (sym same) ∙ e)
    ]

lists_last : (xs : List Source) (x : Source) → Lists (xs ++ x ∷ []) x.sort
lists_last xs x = (length xs, omega (arith, one_longer xs x), sort_last xs x)

pub begun_push : (P : ℕ → ℕ → Type 0) (n goal : ℕ) (xs : List Source) (at : ℕ) (x : Source) → Begun P n goal xs at → x.sort < n → (Lists xs x.sort → ⊥) → x.next < length xs → at ≤ length xs → P x.sort (sort_at xs x.next)
    → Begun P n goal (xs ++ x ∷ []) at
begun_push P n goal xs at x b small fresh back far leads =
    let long = one_longer xs x in
    record {
      nonempty = omega (arith, b.nonempty, long);
      first = sort_before xs x 0 b.nonempty ∙ b.first;
      within = λ k h. elim (cases k (length xs) (length (xs ++ x ∷ [])) long h) [
        | inl less ↦ subst (λ s. s < n) (sym (sort_before xs x k less)) (b.within k less)
        | inr same ↦ subst (λ s. s < n) (sym (ap (sort_at (xs ++ x ∷ [])) same ∙ sort_last xs x)) small
      ];
      apart = λ j k less h e. elim (cases k (length xs) (length (xs ++ x ∷ [])) long h) [
        | inl low ↦ b.apart j k less low (sym (sort_before xs x j (omega (arith, less, low))) ∙ e ∙ sort_before xs x k low)
        | inr same ↦
            let low : j < length xs = omega (arith, less, same) in
            fresh (j, low, sym (sort_before xs x j low) ∙ e ∙ ap (sort_at (xs ++ x ∷ [])) same ∙ sort_last xs x)
      ];
      earlier = λ k some h. elim (cases k (length xs) (length (xs ++ x ∷ [])) long h) [
        | inl less ↦ subst (λ m. m < k) (sym (next_before xs x k less)) (b.earlier k some less)
        | inr same ↦ subst (λ m. m < k) (sym (ap (next_at (xs ++ x ∷ [])) same ∙ next_last xs x)) (omega (arith, back, same))
      ];
      linked = λ k some h. elim (cases k (length xs) (length (xs ++ x ∷ [])) long h) [
        | inl less ↦
            let near : next_at xs k < length xs = omega (arith, b.earlier k some less, less) in
            subst (λ m. P (sort_at (xs ++ x ∷ []) k) (sort_at (xs ++ x ∷ []) m)) (sym (next_before xs x k less))
            (subst (λ t. P (sort_at (xs ++ x ∷ []) k) t) (sym (sort_before xs x (next_at xs k) near)) (subst (λ s. P s (sort_at xs (next_at xs k))) (sym (sort_before xs x k less)) (b.linked k some less)))
        | inr same ↦
            subst (λ m. P (sort_at (xs ++ x ∷ []) k) (sort_at (xs ++ x ∷ []) m)) (sym (ap (next_at (xs ++ x ∷ [])) same ∙ next_last xs x))
            (subst (λ t. P (sort_at (xs ++ x ∷ []) k) t) (sym (sort_before xs x x.next back)) (subst (λ s. P s (sort_at xs x.next)) (sym (ap (sort_at (xs ++ x ∷ [])) same ∙ sort_last xs x)) leads))
      ];
      closed = λ k s early h low to.
          let less : k < length xs = omega (arith, early, far) in
          lists_push xs x s (b.closed k s early less low (subst (P s) (sort_before xs x k less) to));
    }

pub marks_push : (n : ℕ) (xs : List Source) (seen : List Bool) (x : Source) → Marks n xs seen → x.sort < n → Marks n (xs ++ x ∷ []) (set seen x.sort true)
marks_push n xs seen x m small = record {
  each = length-set seen x.sort true ∙ m.each;
  marked = λ s low. elim (split s x.sort) [
    | inl same ↦ (
      λ _. subst (Lists (xs ++ x ∷ [])) (sym same) (lists_last xs x),
      λ _. ap (λ s. get_or (set seen x.sort true) s false) same ∙ get_or-set_same seen x.sort true false (omega (arith, m.each, small)),
    )
    | inr other ↦ (
      λ here. lists_push xs x s ((m.marked s low).0 (sym (get_or-set_other seen x.sort s true false other) ∙ here)),
      λ here. get_or-set_other seen x.sort s true false other ∙ elim (lists_push_back xs x s here) [ inl before ↦ (m.marked s low).1 before | inr e ↦ absurd (other (sym e)) ],
    )
  ];
}
  where
    split : (s t : ℕ) → (s ≡ t) ⊎ (s ≢ t)
    split s t = grind arith

-- all sorts that lead to one more entry are there
pub begun_next : (P : ℕ → ℕ → Type 0) (n goal : ℕ) (xs : List Source) (at : ℕ) → Begun P n goal xs at → ((s : ℕ) → s < n → P s (sort_at xs at) → Lists xs s) → Begun P n goal xs (at + 1)
begun_next P n goal xs at b here = record {
  nonempty = b.nonempty;
  first = b.first;
  within = b.within;
  apart = b.apart;
  earlier = b.earlier;
  linked = b.linked;
  closed = λ k s early h low to. elim (cases k at (at + 1) refl early) [
    | inl less ↦ b.closed k s less h low to
    | inr same ↦ here s low (subst (λ k. P s (sort_at xs k)) same to)
  ];
}

-- past the end of the list there is no more to add
pub begun_all : (P : ℕ → ℕ → Type 0) (n goal : ℕ) (xs : List Source) (at : ℕ) → Begun P n goal xs at → length xs ≤ at → AreSources P n goal xs
begun_all P n goal xs at b past = record {
  nonempty = b.nonempty;
  first = b.first;
  within = b.within;
  apart = b.apart;
  earlier = b.earlier;
  linked = b.linked;
  closed = λ k s early h low to. b.closed k s (omega arith) h low to;
}

-- what holds where the sorts below `sort` have been tried as sources of the entry `at`, which is the sort `here`
pub record Adding (P : ℕ → ℕ → Type 0) (n goal at here least sort : ℕ) (xs : List Source) (seen : List Bool) : Type 0 where
  pub begun : Begun P n goal xs at
  pub marks : Marks n xs seen
  pub longer : least ≤ length xs
  pub near : at < length xs
  pub entry : sort_at xs at ≡ here
  pub all : (s : ℕ) → s < sort → P s here → Lists xs s

pub adding_first : (P : ℕ → ℕ → Type 0) (n goal at : ℕ) (xs : List Source) (seen : List Bool) (x : Source) → Begun P n goal xs at → Marks n xs seen → at < length xs → x ≡ get_or xs at x
    → Adding P n goal at x.sort (length xs) 0 xs seen
adding_first P n goal at xs seen x begun marks near e = record {
  begun = begun;
  marks = marks;
  longer = omega arith;
  near = near;
  entry = (entry_here xs at x near e).0;
  all = λ s low. absurd (omega arith);
}

pub add_one : (P : ℕ → ℕ → Type 0) (n goal at here least sort : ℕ) (xs : List Source) (seen : List Bool) → Adding P n goal at here least sort xs seen → sort < n → get_or seen sort false ≡ false → P sort here
    → Adding P n goal at here least (sort + 1) (xs ++ record { sort = sort; next = at } ∷ []) (set seen sort true)
add_one P n goal at here least sort xs seen a small fresh to =
    let x : Source = record { sort = sort; next = at } in
    let new : Lists xs sort → ⊥ = λ lists. let marked = (a.marks.marked sort small).1 lists in cc in
    record {
      begun = begun_push P n goal xs at x a.begun small new a.near (omega (arith, a.near)) (subst (P sort) (sym a.entry) to);
      marks = marks_push n xs seen x a.marks small;
      longer = omega (arith, a.longer, one_longer xs x);
      near = omega (arith, a.near, one_longer xs x);
      entry = sort_before xs x at a.near ∙ a.entry;
      all = λ s less leads. elim (cases s sort (sort + 1) refl less) [
        | inl low ↦ lists_push xs x s (a.all s low leads)
        | inr same ↦ subst (Lists (xs ++ x ∷ [])) (sym same) (lists_last xs x)
      ];
    }

pub skip_one : (P : ℕ → ℕ → Type 0) (n goal at here least sort : ℕ) (xs : List Source) (seen : List Bool) → Adding P n goal at here least sort xs seen → (P sort here → Lists xs sort)
    → Adding P n goal at here least (sort + 1) xs seen
skip_one P n goal at here least sort xs seen a known = record {
  begun = a.begun;
  marks = a.marks;
  longer = a.longer;
  near = a.near;
  entry = a.entry;
  all = λ s less leads. elim (cases s sort (sort + 1) refl less) [
    | inl low ↦ a.all s low leads
    | inr same ↦ subst (Lists xs) (sym same) (known (subst (λ s. P s here) same leads))
  ];
}

-- the list that has the goal alone
pub begun_first : (P : ℕ → ℕ → Type 0) (n goal : ℕ) (xs : List Source) → xs ≡ record { sort = goal; next = 0 } ∷ [] → goal < n → Begun P n goal xs 0
begun_first P n goal xs e small = subst (λ xs. Begun P n goal xs 0) (sym e) (record {
  nonempty = omega arith;
  first = refl;
  within = λ k h. subst (λ k. sort_at (record { sort = goal; next = 0 } ∷ []) k < n) (zero_of k h) small;
  apart = λ j k less h. absurd (omega arith);
  earlier = λ k some h. absurd (omega arith);
  linked = λ k some h. absurd (omega arith);
  closed = λ k s early. absurd (omega arith);
})
  where
    zero_of : (k : ℕ) → k < 1 → 0 ≡ k
    zero_of k h = omega arith

pub marks_first : (n goal : ℕ) (xs : List Source) (seen : List Bool) → xs ≡ record { sort = goal; next = 0 } ∷ [] → goal < n → seen ≡ set (replicate n false) goal true → Marks n xs seen
marks_first n goal xs seen e small f = subst (Marks n xs) (sym f) (subst (λ xs. Marks n xs (set (replicate n false) goal true)) (sym e) (marks_push n [] (replicate n false) (record { sort = goal; next = 0 }) bare small))
  where
    bare : Marks n [] (replicate n false)
    bare = record {
      each = length-replicate n false;
      marked = λ s low. (λ here. absurd (cc (here, get_or-replicate n s false false low)), λ (k, within, e). absurd (omega arith));
    }

-- the sorts of the entries

unfoldable sorts_of : List Source → List ℕ
sorts_of xs = map (λ (x : Source). x.sort) xs

long_as : (xs : List Source) → length (sorts_of xs) ≡ length xs
unfolding sorts_of
long_as xs = length-map xs (λ (x : Source). x.sort)

sort_in : (xs : List Source) (k d : ℕ) → k < length xs → get_or (sorts_of xs) k d ≡ sort_at xs k
unfolding sorts_of
sort_in xs k d within = get_or-map (λ (x : Source). x.sort) xs k (record { sort = 0; next = 0 }) d within

member_lists : (xs : List Source) (s : ℕ) → is_member eqb (sorts_of xs) s ≡ true → Lists xs s
member_lists xs s m =
    let found : Contains (sorts_of xs) s = (is_member-Decides Decides-eqb (sorts_of xs) s).0 m in
    let low : found.0 < length xs = omega (arith, found.1, long_as xs) in
    (found.0, low, sym (sort_in xs found.0 s low) ∙ found.2)

lists_member : (xs : List Source) (s : ℕ) → Lists xs s → is_member eqb (sorts_of xs) s ≡ true
lists_member xs s (k, within, e) =
    (is_member-Decides Decides-eqb (sorts_of xs) s).1 (k, omega (arith, within, long_as xs), sort_in xs k s within ∙ e)

distinct_sorts : (P : ℕ → ℕ → Type 0) (n goal : ℕ) (xs : List Source) (at : ℕ) → Begun P n goal xs at → IsDistinct eqb (sorts_of xs)
distinct_sorts P n goal xs at b =
    IsDistinct-from_AllPairs Decides-eqb (sorts_of xs) (λ i j d less h e.
    let low : j < length xs = omega (arith, h, long_as xs) in
    let early : i < length xs = omega (arith, low, less) in
    b.apart i j less low (sym (sort_in xs i d early) ∙ e ∙ sort_in xs j d low))

-- there are no more entries than sorts
pub few_sources : (P : ℕ → ℕ → Type 0) (n goal : ℕ) (xs : List Source) (at : ℕ) → Begun P n goal xs at → length xs ≤ n
few_sources P n goal xs at b =
    let most = length-le_from_distinct_below (sorts_of xs) n (distinct_sorts P n goal xs at b) (λ s m.
    let here = member_lists xs s m in
    subst (λ s. s < n) here.2 (b.within here.0 here.1)) in
    omega (arith, most, long_as xs)

-- where P leads from one goal to another, the sources of the first are sources of the second

source_after : (P : ℕ → ℕ → Type 0) (n a b : ℕ) (xs ys : List Source) → AreSources P n a xs → AreSources P n b ys → P a b → a < n → (m k : ℕ) → k < m → k < length xs → Lists ys (sort_at xs k)
source_after P n a b xs ys x y to small zero k less h = absurd (omega arith)
source_after P n a b xs ys x y to small (suc m) zero less h = subst (Lists ys) (sym x.first) (y.closed 0 a y.nonempty y.nonempty small (subst (P a) (sym y.first) to))
source_after P n a b xs ys x y to small (suc m) (suc k) less h =
    let back = x.earlier (suc k) (omega arith) h in
    let next = source_after P n a b xs ys x y to small m (next_at xs (suc k)) (omega (arith, back, less)) (omega (arith, back, h)) in
    y.closed next.0 (sort_at xs (suc k)) next.1 next.1 (x.within (suc k) h) (subst (P (sort_at xs (suc k))) (sym next.2) (x.linked (suc k) (omega arith) h))

pub no_fewer : (P : ℕ → ℕ → Type 0) (n a b : ℕ) (xs ys : List Source) → AreSources P n a xs → AreSources P n b ys → P a b → a < n → length xs ≤ length ys
no_fewer P n a b xs ys x y to small =
    let most = length-le_from_is_member nat_eq_equiv (sorts_of xs) (sorts_of ys) (distinct_sorts P n a xs (length xs) x) (λ s m.
    let here = member_lists xs s m in
    lists_member ys s (subst (Lists ys) here.2 (source_after P n a b xs ys x y to small (suc here.0) here.0 (omega arith) here.1))) in
    omega (arith, most, long_as xs, long_as ys)

-- and if the second goal is no source of the first, there are more
pub more_sources : (P : ℕ → ℕ → Type 0) (n a b : ℕ) (xs ys : List Source) → AreSources P n a xs → AreSources P n b ys → P a b → a < n → (Lists xs b → ⊥) → length xs < length ys
more_sources P n a b xs ys x y to small apart =
    let distinct = IsDistinct-from_AllPairs Decides-eqb (sorts_of xs ++ b ∷ []) (all_pairs_push (λ s t. s ≢ t) (sorts_of xs) b
    (AllPairs-from_IsDistinct Decides-eqb (sorts_of xs) (distinct_sorts P n a xs (length xs) x))
    (λ k d h e. let low : k < length xs = omega (arith, h, long_as xs) in apart (k, low, sym (sort_in xs k d low) ∙ e))) in
    let most = length-le_from_is_member nat_eq_equiv (sorts_of xs ++ b ∷ []) (sorts_of ys) distinct (λ s m.
    elim (Contains-push_cases (sorts_of xs) b s ((is_member-Decides Decides-eqb (sorts_of xs ++ b ∷ []) s).0 m)) [
      | inl within ↦
          let here = member_lists xs s ((is_member-Decides Decides-eqb (sorts_of xs) s).1 within) in
          lists_member ys s (subst (Lists ys) here.2 (source_after P n a b xs ys x y to small (suc here.0) here.0 (omega arith) here.1))
      | inr e ↦ lists_member ys s (0, y.nonempty, y.first ∙ e)
    ]) in
    omega (arith, most, long_as xs, long_as ys, length-append (sorts_of xs) (b ∷ []))

-- ways

leads_push : (P : ℕ → ℕ → Type 0) (s : ℕ) (us : List ℕ) (t v : ℕ) → LeadsUpTo P s us t → P t v → LeadsUpTo P s (us ++ v ∷ []) v
leads_push P s [] t v leads to = (subst (λ s. P s v) (sym leads) to, refl)
leads_push P s (u ∷ us) t v leads to = (leads.0, leads_push P u us t v leads.1 to)

-- all on the way so far have entries from number k on
abbrev pub StandsFrom : List Source → ℕ → List ℕ → Type 0
StandsFrom xs k way = All (λ s. (j : ℕ) × (k ≤ j) × (j < length xs) × (sort_at xs j ≡ s)) way

pub way_push : (xs : List Source) (start k : ℕ) (way : List ℕ) → ((k : ℕ) → 0 < k → k < length xs → next_at xs k < k) → ((j k : ℕ) → j < k → k < length xs → sort_at xs j ≢ sort_at xs k)
    → 0 < k → k < length xs → StandsFrom xs k way → IsWay (LeadsBy xs) start (sort_at xs k) way
    → StandsFrom xs (next_at xs k) (way ++ sort_at xs (next_at xs k) ∷ []) × IsWay (LeadsBy xs) start (sort_at xs (next_at xs k)) (way ++ sort_at xs (next_at xs k) ∷ [])
way_push xs start k way earlier apart some h stands (us, e, leads, distinct) =
    let m : ℕ = next_at xs k in
    let back : m < k = earlier k some h in
    let v : ℕ = sort_at xs m in (
      All-push (λ s. (j : ℕ) × (m ≤ j) × (j < length xs) × (sort_at xs j ≡ s)) way v
          (λ i d l. let here = stands i d l in (here.0, omega (arith, here.1, back), here.2, here.3))
          (m, omega arith, omega (arith, back, h), refl),
      (
        us ++ v ∷ [],
        ap (λ w. w ++ v ∷ []) e,
        leads_push (LeadsBy xs) start us (sort_at xs k) v leads (k, some, h, refl, refl),
        all_pairs_push (λ s t. s ≢ t) way v distinct (λ i d l same.
            let here = stands i d l in
            apart m here.0 (omega (arith, here.1, back)) here.2 (sym same ∙ sym here.3)),
      ),
    )

pub way_first : (xs : List Source) (start : ℕ) → start < length xs → StandsFrom xs start (sort_at xs start ∷ []) × IsWay (LeadsBy xs) (sort_at xs start) (sort_at xs start) (sort_at xs start ∷ [])
way_first xs start h = (
  All-push (λ s. (j : ℕ) × (start ≤ j) × (j < length xs) × (sort_at xs j ≡ s)) [] (sort_at xs start) (λ i d l. absurd (omega arith)) (start, omega arith, h, refl),
  ([], refl, refl, λ i j d less l. absurd (omega arith)),
)

-- what the entries say holds, among the sorts below n
pub leads_by : (P : ℕ → ℕ → Type 0) (n goal : ℕ) (xs : List Source) (s t : ℕ) → AreSources P n goal xs → LeadsBy xs s t → (s < n) × (t < n) × P s t
leads_by P n goal xs s t b (k, some, h, from, to) = (
  subst (λ s. s < n) from (b.within k h),
  subst (λ t. t < n) to (b.within (next_at xs k) (omega (arith, b.earlier k some h, h))),
  subst (P s) to (subst (λ s. P s (sort_at xs (next_at xs k))) from (b.linked k some h)),
)

-- a way back and a step forth make a cycle

round : (P R : ℕ → ℕ → Type 0) → ((s t : ℕ) → R s t → P s t) → (s v : ℕ) (us : List ℕ) (t : ℕ) → LeadsUpTo R s us t → P t v → LeadsAlong P s us v
round P R h s v [] t leads to = subst (λ s. P s v) (sym leads) to
round P R h s v (u ∷ us) t leads to = (h s u leads.0, round P R h u v us t leads.1 to)

somewhere : (Q R : ℕ → ℕ → Type 0) (s v : ℕ) (us : List ℕ) (t : ℕ) → LeadsUpTo R s us t → Q t v → LeadsSomewhere Q s us v
somewhere Q R s v [] t leads to = subst (λ s. Q s v) (sym leads) to
somewhere Q R s v (u ∷ us) t leads to = inr (somewhere Q R u v us t leads.1 to)

pub cycle_back : (P Q R : ℕ → ℕ → Type 0) → ((s t : ℕ) → R s t → P s t) → ((s t : ℕ) → Q s t → P s t) → (s t : ℕ) (way : List ℕ) → IsWay R s t way → Q t s → IsCycle P Q way
cycle_back P Q R h q s t way (us, e, leads, distinct) to =
    subst (IsCycle P Q) (sym e) (subst (AllPairs (λ x y. x ≢ y)) e distinct, round P R h s s us t leads (q t s to), somewhere Q R s s us t leads to)

pub cycle_as : (P Q P' Q' : ℕ → ℕ → Type 0) → ((s t : ℕ) → P s t → P' s t) → ((s t : ℕ) → Q s t → Q' s t) → (way : List ℕ) → IsCycle P Q way → IsCycle P' Q' way
cycle_as P Q P' Q' h k [] cycle = cycle
cycle_as P Q P' Q' h k (s ∷ ss) cycle = (cycle.0, along s ss s cycle.1, some s ss s cycle.2)
  where
    along : (s : ℕ) (us : List ℕ) (t : ℕ) → LeadsAlong P s us t → LeadsAlong P' s us t
    along s [] t leads = h s t leads
    along s (u ∷ us) t leads = (h s u leads.0, along u us t leads.1)

    some : (s : ℕ) (us : List ℕ) (t : ℕ) → LeadsSomewhere Q s us t → LeadsSomewhere Q' s us t
    some s [] t leads = k s t leads
    some s (u ∷ us) t (inl here) = inl (k s u here)
    some s (u ∷ us) t (inr later) = inr (some u us t later)
