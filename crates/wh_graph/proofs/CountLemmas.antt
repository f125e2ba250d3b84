-- How often the numbers of a set are listed, counted at their places.
use Rattle.std.proofs.Common.{◌≡◌, ℕ, ◌+◌, ◌-◌, ◌<◌, ◌≤◌, ◌⊎◌, inl, inr, List, length, get_or, take, drop, Option, Some, Ok, slice_get, Contains, refl, ap, sym, subst, ◌∙◌, arith}
use Rattle.std.proofs.Math.ListN.{set, replicate}
use Rattle.std.proofs.lemmas.Bool.{cases_eq}
use Rattle.std.proofs.lemmas.List.{take_all, take-append-drop, get_or-take, get_or-drop, get_or-replicate, length-take, length-drop, length-replicate}
use Rattle.std.proofs.lemmas.List.Elements.{Contains-append_left, Contains-append_right, Contains-append_cases}
use Rattle.std.proofs.lemmas.List.Sorted.{searched}
use Rattle.std.proofs.lemmas.Option.{slice_get_within, get_or_from_slice_get, slice_get-get_or}
use Rattle.std.specs.List.Sorted.{IsBinarySearchResult}
use Rattle.std.specs.Ordering.{nat_cmp}
use Rattle.wh_pairs.specs.PairData.{IsIncreasing}
use Rattle.wh_graph.specs.Least.{LeastOf, smaller}
use Rattle.wh_graph.specs.Times.{plus, TimesIn, TimesListed, AreCounted, AreAdded, IsUneven}
use Rattle.wh_graph.specs.declared.places.Times.{Times}
use Rattle.wh_graph.specs.declared.places.Times.TheVariants.{Never, Once, Often}
use Rattle.wh_pairs.proofs.ByPlace.{some_one, contains_at}
use Rattle.wh_pairs.proofs.Increasing.{increasing_at, not_falling, increasing_from_adjacent, one_place}
use Rattle.wh_graph.proofs.LeastLemmas.{least_smaller}
use Rattle.wh_graph.proofs.PushLemmas.{set_here, set_there}
use Rattle.wh_graph.proofs.TimesLemmas.{times_skip, times_more, listed_more}

-- a search finds the place of a number
pub search_place : (ns : List ℕ) (n i : ℕ) → IsIncreasing ns → IsBinarySearchResult (λ m. nat_cmp m n) ns (Ok i) → slice_get ns i ≡ Some n
search_place ns n i up result =
    let said = searched ns n (Ok i) result (not_falling ns up) in
    slice_get-get_or ns i 0 said.0 ∙ ap Some said.1

-- counting the numbers of one list

plus_never : (a : Times) → plus a Never ≡ a
plus_never Never = refl
plus_never Once = refl
plus_never Often = refl

plus_once : (a b : Times) → plus (plus a b) Once ≡ plus a (plus b Once)
plus_once Never b = refl
plus_once Once Never = refl
plus_once Once Once = refl
plus_once Once Often = refl
plus_once Often Never = refl
plus_once Often Once = refl
plus_once Often Often = refl

none_in : (list : List ℕ) (n : ℕ) → TimesIn list n 0 Never
none_in list n = λ k below at. omega arith

pub added_none : (set list : List ℕ) (times : List Times) → AreAdded set list 0 times times
added_none set list times = λ p n a at was. (Never, none_in list n, was ∙ ap Some (sym (plus_never a)))

pub added_skip : (set list : List ℕ) (i m : ℕ) (old new : List Times) → AreAdded set list i old new → slice_get list i ≡ Some m → (Contains set m → ⊥) → AreAdded set list (i + 1) old new
added_skip set list i m old new added here missing = λ p n a at was.
    let (b, times, now) = added p n a at was in
    (b, times_skip list n i m b times here (λ same. missing (contains_at set p m (at ∙ ap Some (sym same)))), now)

pub added_more : (ns list : List ℕ) (i m place : ℕ) (x : Times) (old new : List Times) → IsIncreasing ns → AreAdded ns list i old new → slice_get list i ≡ Some m → slice_get ns place ≡ Some m → slice_get new place ≡ Some x
    → AreAdded ns list (i + 1) old (set new place (plus x Once))
added_more ns list i m place x old new up added here there had = λ p n a at was.
    let (b, times, now) = added p n a at was in
    elim (cases_eq place p) [
      | inl same ↦
          let equal : m ≡ n = some_one there (ap (slice_get ns) same ∙ at) in
          let is : x ≡ plus a b = some_one had (ap (slice_get new) same ∙ now) in (
            plus b Once,
            times_more list n i m b times here equal,
            ap (slice_get (set new place (plus x Once))) (sym same) ∙ set_here new place (plus x Once) (slice_get_within new place x had)
                ∙ ap (λ t. Some (plus t Once)) is ∙ ap Some (plus_once a b),
          )
      | inr other ↦ (
        b,
        times_skip list n i m b times here (λ equal. other (one_place ns place p m up there (at ∙ ap Some (sym equal)))),
        set_there new place p (plus x Once) other ∙ now,
      )
    ]

-- counting block by block

none_listed : (blocks : List (List ℕ)) (n : ℕ) → TimesListed blocks n 0 Never
none_listed blocks n = λ j k below stands. omega arith

pub counted_none : (set : List ℕ) (blocks : List (List ℕ)) (many : ℕ) → length set ≤ many → AreCounted set blocks 0 (replicate many Never)
counted_none set blocks many few = λ p n at.
    let below = slice_get_within set p n at in
    let within : p < length (replicate many Never) = omega (arith, length-replicate many Never) in
    (Never, slice_get-get_or (replicate many Never) p Never within ∙ ap Some (get_or-replicate many p Never Never (omega arith)), none_listed blocks n)

pub counted_more : (set : List ℕ) (blocks : List (List ℕ)) (i : ℕ) (block : List ℕ) (old new : List Times) → AreCounted set blocks i old → slice_get blocks i ≡ Some block → AreAdded set block (length block) old new
    → AreCounted set blocks (i + 1) new
counted_more set blocks i block old new counted here added = λ p n at.
    let (a, was, listed) = counted p n at in
    let (b, times, now) = added p n a at was in
    (plus a b, now, listed_more blocks n i block a b listed here times)

-- what was counted at a place
pub times_at : (set : List ℕ) (blocks : List (List ℕ)) (i p n : ℕ) (times : List Times) → AreCounted set blocks i times → slice_get set p ≡ Some n → TimesListed blocks n i (get_or times p Never)
times_at set blocks i p n times counted at =
    let (t, is, listed) = counted p n at in subst (λ (u : Times). TimesListed blocks n i u) (sym (get_or_from_slice_get times p t Never is)) listed

-- a set by two pieces

pub increasing_take : (k : ℕ) (ns : List ℕ) → IsIncreasing ns → IsIncreasing (take k ns)
increasing_take k ns up = increasing_from_adjacent (take k ns) (λ j below.
    let front : j + 1 < k = omega (arith, length-take k ns) in
    let within : j + 1 < length ns = omega (arith, length-take k ns) in
    let up_here = increasing_at ns j (j + 1) up (omega arith) within in
    omega (arith, get_or-take k ns j 0 (omega arith), get_or-take k ns (j + 1) 0 front, up_here))

increasing_drop : (k : ℕ) (ns : List ℕ) → IsIncreasing ns → IsIncreasing (drop k ns)
increasing_drop k ns up = increasing_from_adjacent (drop k ns) (λ j below.
    let within : k + (j + 1) < length ns = omega (arith, length-drop k ns) in
    let up_here = increasing_at ns (k + j) (k + (j + 1)) up (omega arith) within in
    omega (arith, get_or-drop k ns j 0, get_or-drop k ns (j + 1) 0, up_here))

pub front_long : (k : ℕ) (ns : List ℕ) → k < length ns → k ≡ length (take k ns)
front_long k ns longer = omega (arith, length-take k ns)

pub front_few : (k : ℕ) (ns : List ℕ) → length (take k ns) ≤ k
front_few k ns = omega (arith, length-take k ns)

-- what is left, as a slice to the end reads it
pub back_is : (k : ℕ) (ns : List ℕ) → take (length ns - k) (drop k ns) ≡ drop k ns
back_is k ns = take_all (length ns - k) (drop k ns) (omega (arith, length-drop k ns))

pub increasing_back : (k : ℕ) (ns : List ℕ) → IsIncreasing ns → IsIncreasing (take (length ns - k) (drop k ns))
increasing_back k ns up = subst IsIncreasing (sym (back_is k ns)) (increasing_drop k ns up)

pub back_less : (k : ℕ) (ns : List ℕ) → 0 < k → k < length ns → length (take (length ns - k) (drop k ns)) < length ns
back_less k ns some longer = omega (arith, ap length (back_is k ns), length-drop k ns)

uneven_front : (k : ℕ) (set : List ℕ) (blocks : List (List ℕ)) (n : ℕ) → IsUneven (take k set) blocks n → IsUneven set blocks n
uneven_front k set blocks n (found, bad) =
    (subst (λ (ns : List ℕ). Contains ns n) (take-append-drop k set) (Contains-append_left (take k set) (drop k set) n found), bad)

uneven_back : (k : ℕ) (set : List ℕ) (blocks : List (List ℕ)) (n : ℕ) → IsUneven (drop k set) blocks n → IsUneven set blocks n
uneven_back k set blocks n (found, bad) =
    (subst (λ (ns : List ℕ). Contains ns n) (take-append-drop k set) (Contains-append_right (take k set) (drop k set) n found), bad)

uneven_either : (k : ℕ) (set : List ℕ) (blocks : List (List ℕ)) (n : ℕ) → IsUneven set blocks n → IsUneven (take k set) blocks n ⊎ IsUneven (drop k set) blocks n
uneven_either k set blocks n (found, bad) =
    elim (Contains-append_cases (take k set) (drop k set) n (subst (λ (ns : List ℕ). Contains ns n) (sym (take-append-drop k set)) found)) [
      | inl front ↦ inl (front, bad)
      | inr back ↦ inr (back, bad)
    ]

pub least_of_pieces : (k : ℕ) (set : List ℕ) (blocks : List (List ℕ)) (a b : Option ℕ) → LeastOf (IsUneven (take k set) blocks) a → LeastOf (IsUneven (take (length set - k) (drop k set)) blocks) b → LeastOf (IsUneven set blocks) (smaller a b)
least_of_pieces k set blocks a b front back =
    least_smaller (IsUneven (take k set) blocks) (IsUneven (drop k set) blocks) (IsUneven set blocks) (uneven_front k set blocks) (uneven_back k set blocks) (uneven_either k set blocks)
    a b front (subst (λ (ns : List ℕ). LeastOf (IsUneven ns blocks) b) (back_is k set) back)
