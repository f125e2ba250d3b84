-- Choices of a projection, and what a pair is under them.
use Rattle.std.proofs.Common.{◌≡◌, ℕ, suc, ◌+◌, ◌<◌, List, length, Option, Some, None, Contains, slice_get, refl, sym, ap, ◌∙◌, arith}
use Rattle.std.proofs.lemmas.Option.{slice_get-get_or, get_or_from_slice_get}
use Rattle.wh_terms.specs.Tree.{Tm, app}
use Rattle.wh_pairs.specs.PairData.{PairData, IsIncreasing}
use Rattle.wh_pairs.proofs.ByPlace.{some_one}
use Rattle.wh_subterm.specs.ProperParts.{Argument, Part, last, front, argument, deeper}
use Rattle.wh_subterm.specs.Projections.{Below, Chosen, Equal}
use Rattle.wh_subterm.specs.Relations.{BelowAt, EqualAt}
use Rattle.wh_subterm.specs.SubtermRows.{chosen_symbols}
use Rattle.wh_subterm.proofs.ChoiceLemmas.{one_choice}
use Rattle.wh_find_subterm.specs.Rows.{or_zero}
use Rattle.wh_find_subterm.specs.Cases.{no_pair, pair_at}

abbrev pub choice : ℕ → ℕ → Chosen
choice f i = record { symbol = f; argument = i + 1 }

pub some_need : (o : Option ℕ) → 0 < or_zero o → o ≡ Some (or_zero o)
some_need (Some n) some = refl
some_need None some = absurd (omega arith)

pub read_pair : (pairs : List PairData) (n : ℕ) → n < length pairs → slice_get pairs n ≡ Some (pair_at pairs n)
read_pair pairs n within = slice_get-get_or pairs n no_pair within

pub pair_is : (pairs : List PairData) (n : ℕ) (a : PairData) → slice_get pairs n ≡ Some a → pair_at pairs n ≡ a
pair_is pairs n a at = get_or_from_slice_get pairs n a no_pair at

-- a proper part is no larger

abbrev weight : Tm → ℕ
weight (app t u) = suc (weight t + weight u)
weight _ = 0

lighter_argument : {u t : Tm} → Argument u t → weight u < weight t
lighter_argument last = omega arith
lighter_argument (front is) = let below = lighter_argument is in omega (arith, below)

lighter_part : {u t : Tm} → Part u t → weight u < weight t
lighter_part (argument headed is) = lighter_argument is
lighter_part (deeper headed is part) =
    let outer = lighter_argument is in
    let inner = lighter_part part in omega (arith, outer, inner)

pub not_both_at : (a : PairData) (i j : ℕ) → EqualAt a i j → BelowAt a i j → ⊥
not_both_at a i j (t, left, right) (x, y, also, there, part) =
    let x_is : t ≡ x = some_one left also in
    let y_is : t ≡ y = some_one right there in
    let less = lighter_part part in
    let same : weight y ≡ weight x = ap weight (sym y_is ∙ x_is) in omega arith

-- what is said of the two arguments is said of the pair, and the other way round

pub equal_from : (args : List Chosen) (a : PairData) (i j : ℕ) → Contains args (choice a.left_fun i) → Contains args (choice a.right_fun j) → EqualAt a i j → Equal args a
equal_from args a i j left right (t, at, there) = (t, (i, left, at), (j, right, there))

pub below_from : (args : List Chosen) (a : PairData) (i j : ℕ) → Contains args (choice a.left_fun i) → Contains args (choice a.right_fun j) → BelowAt a i j → Below args a
below_from args a i j left right (t, u, at, there, part) = (t, u, (i, left, at), (j, right, there), part)

same_place : (args : List Chosen) (f i k : ℕ) → IsIncreasing (chosen_symbols args) → Contains args (choice f i) → Contains args (choice f k) → k ≡ i
same_place args f i k up here there = let same = one_choice args f (k + 1) (i + 1) up there here in omega arith

pub equal_at : (args : List Chosen) (a : PairData) (i j : ℕ) → IsIncreasing (chosen_symbols args) → Contains args (choice a.left_fun i) → Contains args (choice a.right_fun j) → Equal args a → EqualAt a i j
equal_at args a i j up left right (t, (k, here, at), (m, there, beside)) = (
  t,
  ap (slice_get a.left) (sym (same_place args a.left_fun i k up left here)) ∙ at,
  ap (slice_get a.right) (sym (same_place args a.right_fun j m up right there)) ∙ beside,
)

pub below_at : (args : List Chosen) (a : PairData) (i j : ℕ) → IsIncreasing (chosen_symbols args) → Contains args (choice a.left_fun i) → Contains args (choice a.right_fun j) → Below args a → BelowAt a i j
below_at args a i j up left right (t, u, (k, here, at), (m, there, beside), part) = (
  t,
  u,
  ap (slice_get a.left) (sym (same_place args a.left_fun i k up left here)) ∙ at,
  ap (slice_get a.right) (sym (same_place args a.right_fun j m up right there)) ∙ beside,
  part,
)
