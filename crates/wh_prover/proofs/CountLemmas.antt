-- How many numbers sets have, and what they weigh.
use Rattle.std.proofs.Common.{◌≡◌, ◌≢◌, ℕ, suc, ◌+◌, ◌-◌, ◌*◌, ◌<◌, ◌≤◌, inl, inr, List, [], ◌∷◌, ◌++◌, length, get_or, All, Contains, refl, sym, ap, subst, ◌∙◌, arith}
use Rattle.std.specs.List.{AllPairs, concat}
use Rattle.std.specs.Cmp.{nat_eq_equiv}
use Rattle.std.proofs.lemmas.Bool.{cases_lt}
use Rattle.std.proofs.lemmas.Bool.Decides.{Decides-eqb}
use Rattle.std.proofs.lemmas.List.{length-append, get_or_append_left, get_or-append_right, get_or_default}
use Rattle.std.proofs.lemmas.List.Elements.{All-head, All-tail, Contains-get_or, Contains-append_cases}
use Rattle.std.proofs.lemmas.Map.Made.{length-le_from_is_member, IsDistinct-from_AllPairs, is_member-Decides}
use Rattle.std.proofs.lemmas.Map.Steps.{length-le_from_distinct_below}
use Rattle.wh_pairs.specs.PairData.{IsIncreasing}
use Rattle.wh_pairs.proofs.Increasing.{increasing_at}
use Rattle.wh_pairs.proofs.ByPlace.{place_of}
use Rattle.wh_pairs.proofs.MemberLemmas.{none_there, at_head, behind, head_or_behind}
use Rattle.wh_graph.specs.Components.{IsIn, AreComponents}
use Rattle.wh_pairs.specs.Sets.{IsSetOf, IsKept}
use Rattle.wh_prover.specs.Walk.{weigh, weight}

-- no number stands twice
abbrev pub Apart : List ℕ → Type 0
Apart xs = AllPairs (λ m n. m ≢ n) xs

pub apart_none : Apart []
apart_none i j d less within = absurd (omega arith)

pub apart_one : (n : ℕ) → Apart (n ∷ [])
apart_one n i j d less within = absurd (omega arith)

pub apart_increasing : (xs : List ℕ) → IsIncreasing xs → Apart xs
apart_increasing xs up i j d less within e =
    let below = increasing_at xs i j up less within in
    omega (arith, below, e, get_or_default xs i d 0 (omega arith), get_or_default xs j d 0 within)

-- a list in which no number stands twice is no longer than one that has its numbers
pub no_longer : (xs ys : List ℕ) → Apart xs → ((n : ℕ) → Contains xs n → Contains ys n) → length xs ≤ length ys
no_longer xs ys apart has =
    length-le_from_is_member nat_eq_equiv xs ys (IsDistinct-from_AllPairs Decides-eqb xs apart)
    (λ n in_xs. (is_member-Decides Decides-eqb ys n).1 (has n ((is_member-Decides Decides-eqb xs n).0 in_xs)))

pub apart_join : (xs ys : List ℕ) → Apart xs → Apart ys → ((n : ℕ) → Contains xs n → Contains ys n → ⊥) → Apart (xs ++ ys)
apart_join xs ys front back none i j d less within e = elim (cases_lt j (length xs)) [
  | inl early ↦
      front i j d less early (sym (get_or_append_left xs ys d i (omega arith)) ∙ e ∙ get_or_append_left xs ys d j early)
  | inr late ↦
      let at_j = get_or-append_right xs ys (length xs) j d refl late in
      let in_ys : j - length xs < length ys = omega (arith, length-append xs ys) in
      elim (cases_lt i (length xs)) [
        | inl early ↦
            let one : get_or xs i d ≡ get_or ys (j - length xs) d = sym (get_or_append_left xs ys d i early) ∙ e ∙ at_j in
            none (get_or xs i d) (Contains-get_or xs i d early) (subst (Contains ys) (sym one) (Contains-get_or ys (j - length xs) d in_ys))
        | inr past ↦
            let at_i = get_or-append_right xs ys (length xs) i d refl past in
            back (i - length xs) (j - length xs) d (omega arith) in_ys (sym at_i ∙ e ∙ at_j)
      ]
]

-- the blocks, joined

pub in_first : (part : List ℕ) (parts : List (List ℕ)) (n : ℕ) → Contains part n → IsIn (part ∷ parts) 0 n
in_first part parts n found = let at = place_of part n found in (at.0, (part, refl, at.1))

pub in_later : (part : List ℕ) (parts : List (List ℕ)) (i n : ℕ) → IsIn parts i n → IsIn (part ∷ parts) (suc i) n
in_later part parts i n (k, (block, at, stands)) = (k, (block, at, stands))

pub joined_has : (parts : List (List ℕ)) (n : ℕ) → Contains (concat parts) n → (i : ℕ) × IsIn parts i n
joined_has [] n found = absurd (none_there n found)
joined_has (part ∷ parts) n found = elim (Contains-append_cases part (concat parts) n found) [
  | inl here ↦ (0, in_first part parts n here)
  | inr later ↦ let there = joined_has parts n later in (suc there.0, in_later part parts there.0 n there.1)
]

-- a number is in one block alone
abbrev pub AreDisjoint : List (List ℕ) → Type 0
AreDisjoint parts = (i j n : ℕ) → IsIn parts i n → IsIn parts j n → i ≡ j

pub joined_apart : (parts : List (List ℕ)) → All IsIncreasing parts → AreDisjoint parts → Apart (concat parts)
joined_apart [] up disjoint = apart_none
joined_apart (part ∷ parts) up disjoint =
    apart_join part (concat parts) (apart_increasing part (All-head IsIncreasing part parts up))
    (joined_apart parts (All-tail IsIncreasing part parts up) (λ i j n here there.
    let same = disjoint (suc i) (suc j) n (in_later part parts i n here) (in_later part parts j n there) in omega (arith, same)))
    (λ n here later.
    let there = joined_has parts n later in
    let same = disjoint 0 (suc there.0) n (in_first part parts n here) (in_later part parts there.0 n there.1) in
    omega (arith, same))

-- what sets weigh

pub weigh_some : (set : List ℕ) → set ≢ [] → weigh set + 1 ≡ 3 * length set
weigh_some [] some = absurd (some refl)
weigh_some (n ∷ ns) some = omega arith

pub weight_append : (xs ys : List (List ℕ)) → weight (xs ++ ys) ≡ weight xs + weight ys
weight_append [] ys = omega arith
weight_append (x ∷ xs) ys = omega (arith, weight_append xs ys)

pub weight_joined : (parts : List (List ℕ)) → (Contains parts [] → ⊥) → weight parts + length parts ≡ 3 * length (concat parts)
weight_joined [] filled = omega arith
weight_joined (part ∷ parts) filled =
    let some : part ≢ [] = λ empty. filled (subst (Contains (part ∷ parts)) empty (at_head parts part)) in
    let rest = weight_joined parts (λ there. filled (behind parts part [] there)) in
    omega (arith, weigh_some part some, rest, length-append part (concat parts))

-- each of some sets weighs something, but for none
pub weighs_something : (set : List ℕ) → 1 ≤ weigh set
weighs_something [] = omega arith
weighs_something (n ∷ ns) = omega arith

-- components are no longer than their set, all together, and weigh less where there are two or more
pub components_long : (E : ℕ → ℕ → Type 0) (set : List ℕ) (parts : List (List ℕ)) → All IsIncreasing parts → AreComponents E set parts
    → length (concat parts) ≤ length set
components_long E set parts up are =
    no_longer (concat parts) set (joined_apart parts up (λ i j n (k, here) (m, there). (are.partition.once i j k m n here there).0))
    (λ n found. let there = joined_has parts n found in are.partition.within there.0 n there.1)

pub components_lighter : (E : ℕ → ℕ → Type 0) (set : List ℕ) (parts : List (List ℕ)) → All IsIncreasing parts → AreComponents E set parts
    → 2 ≤ length parts → weight parts < weigh set
components_lighter E set parts up are enough =
    let long = components_long E set parts up are in
    let joined = weight_joined parts are.filled in
    let some : set ≢ [] = λ empty. omega (arith, long, joined, ap length empty) in
    omega (arith, weigh_some set some, long, joined)

pub few_components : (E : ℕ → ℕ → Type 0) (set : List ℕ) (parts : List (List ℕ)) → All IsIncreasing parts → AreComponents E set parts
    → length parts ≤ length set
few_components E set parts up are = omega (arith, components_long E set parts up are, each_some parts are.filled)
  where
    each_some : (parts : List (List ℕ)) → (Contains parts [] → ⊥) → length parts ≤ length (concat parts)
    each_some [] filled = omega arith
    each_some ([] ∷ parts) filled = absurd (filled (at_head parts []))
    each_some ((n ∷ ns) ∷ parts) filled =
        let rest = each_some parts (λ there. filled (behind parts (n ∷ ns) [] there)) in
        omega (arith, rest, length-append (n ∷ ns) (concat parts))

-- numbers below k are at most k
pub few_below : (xs : List ℕ) (k : ℕ) → Apart xs → ((n : ℕ) → Contains xs n → n < k) → length xs ≤ k
few_below xs k apart below =
    length-le_from_distinct_below xs k (IsDistinct-from_AllPairs Decides-eqb xs apart)
    (λ n in_xs. below n ((is_member-Decides Decides-eqb xs n).0 in_xs))

-- what is left where a number of the set is dropped weighs less
pub rest_lighter : (set drop rest : List ℕ) → IsSetOf (IsKept set drop) rest → drop ≢ [] → All (Contains set) drop → weigh rest < weigh set
rest_lighter set [] rest is some within = absurd (some refl)
rest_lighter set (n ∷ ns) rest is some within =
    let first : Contains (n ∷ ns) n = at_head ns n in
    let in_set : Contains set n = All-head (Contains set) n ns within in
    let apart : Apart (rest ++ n ∷ []) =
    apart_join rest (n ∷ []) (apart_increasing rest is.increasing) (apart_one n) (λ m here there.
    elim (head_or_behind [] n m there) [ inl same ↦ ((is.each m).0 here).1 (subst (Contains (n ∷ ns)) same first) | inr none ↦ none_there m none ]) in
    let long : length (rest ++ n ∷ []) ≤ length set =
    no_longer (rest ++ n ∷ []) set apart (λ m found. elim (Contains-append_cases rest (n ∷ []) m found) [
      | inl here ↦ ((is.each m).0 here).0
      | inr there ↦ elim (head_or_behind [] n m there) [ inl same ↦ subst (Contains set) same in_set | inr none ↦ absurd (none_there m none) ]
    ]) in
    let set_some : set ≢ [] = λ empty. none_there n (subst (λ (s : List ℕ). Contains s n) empty in_set) in
    lighter rest (omega (arith, long, length-append rest (n ∷ []))) (weigh_some set set_some)
  where
    lighter : (rest : List ℕ) → length rest + 1 ≤ length set → weigh set + 1 ≡ 3 * length set → weigh rest < weigh set
    lighter [] long is = omega (arith, long, is)
    lighter (m ∷ ms) long is = omega (arith, long, is)
