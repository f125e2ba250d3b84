-- The steps of a flow: how it starts, gives, takes back and reroutes.
use Rattle.std.proofs.Common.{◌≡◌, ℕ, zero, suc, ◌+◌, ◌-◌, ◌^◌, ◌<◌, ◌≤◌, min, inl, inr, List, [], ◌∷◌, ◌++◌, length, get_or, set, map, refl, ap, sym, subst, ◌∙◌, arith}
use Rattle.std.specs.List.{All}
use Rattle.std.proofs.lemmas.List.{get_or-set_same, get_or-set_other, length-set, set-set, set-get_or, length-map, get_or_past}
use Rattle.std.proofs.lemmas.List.Elements.{All-get_or, All-nil}
use Rattle.std.proofs.lemmas.Bool.{cases_eq, cases_lt}
use Rattle.wh_hopoly.specs.Moves.{Good, MonomialAt, given_by, taken_by}
use Rattle.wh_poly.specs.Polynomials.{Factors}
use Rattle.wh_poly.specs.declared.polynomial.Monomial.{Monomial, out-Monomial}
use Rattle.wh_poly.specs.Erase.{sum_of}
use Rattle.wh_hopoly.specs.Erase.{transfers}
use Rattle.wh_poly_moves.specs.declared.flow.Flow.{Flow}
use Rattle.wh_poly_moves.specs.Flows.{IsFlow, IsSomeFlow, AreDistinct, AreKeptBut, HasGiven, HasTakenBack, IsRerouted, NoneBetween, IsBetween, CanGive, move_at}
use Rattle.wh_poly_moves.proofs.Units.{units_of_one}
use Rattle.wh_poly_moves.proofs.Changes.{AddTo, flow_given, flow_taken_back}
use Rattle.wh_poly_moves.proofs.Moves.{with_amount, good_push, good_set, distinct_push, distinct_set, add_push, add_set, add_unset, kept_push, kept_set_more, kept_set_less, kept_then, transfers_long}

-- the monomials of a good move are there
within : (xs : List Monomial) (i c : ℕ) (us : Factors) → MonomialAt (sum_of xs) i c us → i < length xs
within [] i c us m = absurd m
within (x ∷ xs) zero c us m = omega arith
within (x ∷ xs) (suc i) c us m = let h = within xs i c us m in omega (arith, h)

pub can_give_from : (left right : List Monomial) (i j : ℕ) → CanGive left right i j → i < length left
can_give_from left right i j g = within left i g.given g.giver g.source

pub can_give_to : (left right : List Monomial) (i j : ℕ) → CanGive left right i j → j < length right
can_give_to left right i j g = within right j g.taken g.taker g.target

pub good_at : (left right : List Monomial) (flow : Flow) (e : ℕ) → IsFlow left right flow → e < length flow.moves.items
    → Good (sum_of left) (sum_of right) (move_at (transfers flow.moves.items) e)
good_at left right flow e f h = All-get_or (Good (sum_of left) (sum_of right)) (transfers flow.moves.items) e (record { from = 0; to = 0; amount = 0 })
    (let l = transfers_long flow.moves.items in omega (arith, l, h)) f.good

pub giver_here : (flow : Flow) (e : ℕ) → IsSomeFlow flow → e < length flow.moves.items → (move_at (transfers flow.moves.items) e).from < length flow.free.items
giver_here flow e (left, right, f) h = let g = good_at left right flow e f h in
    let w = within left (move_at (transfers flow.moves.items) e).from g.given g.giver g.source in let l = f.free_long in omega (arith, w, l)

pub taker_here : (flow : Flow) (e : ℕ) → IsSomeFlow flow → e < length flow.moves.items → (move_at (transfers flow.moves.items) e).to < length flow.want.items
taker_here flow e (left, right, f) h = let g = good_at left right flow e f h in
    let w = within right (move_at (transfers flow.moves.items) e).to g.taken g.taker g.target in let l = f.want_long in omega (arith, w, l)

-- no sum passes the greatest number
pub room_for_move : (flow : Flow) (e giver amount : ℕ) → IsSomeFlow flow → e < length (transfers flow.moves.items) → (move_at (transfers flow.moves.items) e).from ≡ giver
    → amount ≤ get_or flow.free.items giver 0 → (move_at (transfers flow.moves.items) e).amount + amount < 2 ^ 128
room_for_move flow e giver amount (left, right, f) h same l =
    let a = units_of_one (λ m. m.from) (transfers flow.moves.items) e (record { from = 0; to = 0; amount = 0 }) h in
    let b : (move_at (transfers flow.moves.items) e).amount ≤ given_by giver (transfers flow.moves.items) = subst (λ i. (move_at (transfers flow.moves.items) e).amount ≤ given_by i (transfers flow.moves.items)) same a in
    let c = f.given giver in let d = f.left_fits giver in omega (arith, b, c, d, l)

pub room_for_free : (flow : Flow) (e amount : ℕ) → IsSomeFlow flow → e < length flow.moves.items → amount ≤ (move_at (transfers flow.moves.items) e).amount
    → get_or flow.free.items (move_at (transfers flow.moves.items) e).from 0 + amount < 2 ^ 128
room_for_free flow e amount (left, right, f) h l =
    let a = units_of_one (λ m. m.from) (transfers flow.moves.items) e (record { from = 0; to = 0; amount = 0 }) (let k = transfers_long flow.moves.items in omega (arith, k, h)) in
    let c = f.given (move_at (transfers flow.moves.items) e).from in let d = f.left_fits (move_at (transfers flow.moves.items) e).from in omega (arith, a, c, d, l)

pub room_for_want : (flow : Flow) (e amount : ℕ) → IsSomeFlow flow → e < length flow.moves.items → amount ≤ (move_at (transfers flow.moves.items) e).amount
    → get_or flow.want.items (move_at (transfers flow.moves.items) e).to 0 + amount < 2 ^ 128
room_for_want flow e amount (left, right, f) h l =
    let a = units_of_one (λ m. m.to) (transfers flow.moves.items) e (record { from = 0; to = 0; amount = 0 }) (let k = transfers_long flow.moves.items in omega (arith, k, h)) in
    let c = f.taken (move_at (transfers flow.moves.items) e).to in let d = f.right_fits (move_at (transfers flow.moves.items) e).to in omega (arith, a, c, d, l)

-- a flow without moves
fits_all : (xs : List ℕ) → All (λ c. c < 2 ^ 128) xs → (i : ℕ) → get_or xs i 0 < 2 ^ 128
fits_all xs h i = elim (cases_lt i (length xs)) [
  | inl below ↦ All-get_or (λ c. c < 2 ^ 128) xs i 0 below h
  | inr past ↦ let e = get_or_past xs i 0 past in omega (arith, e)
]

pub starts : (left right : List Monomial) (flow : Flow)
    → flow.free.items ≡ map (λ x. (out-Monomial x).coefficient) left → flow.want.items ≡ map (λ x. (out-Monomial x).coefficient) right
    → All (λ c. c < 2 ^ 128) flow.free.items → All (λ c. c < 2 ^ 128) flow.want.items → flow.moves.items ≡ []
    → IsFlow left right flow
starts left right flow ef ew lf rf em = record {
  free_long = ap length ef ∙ length-map left (λ x. (out-Monomial x).coefficient);
  want_long = ap length ew ∙ length-map right (λ x. (out-Monomial x).coefficient);
  good = subst (λ ms. All (Good (sum_of left) (sum_of right)) (transfers ms)) (sym em) (All-nil (Good (sum_of left) (sum_of right)));
  distinct = subst (λ ms. AreDistinct (transfers ms)) (sym em) tt;
  given = λ i. let a = ap (λ ms. given_by i (transfers ms)) em in let b = ap (λ xs. get_or xs i 0) ef in omega (arith, a, b);
  taken = λ j. let a = ap (λ ms. taken_by j (transfers ms)) em in let b = ap (λ xs. get_or xs j 0) ew in omega (arith, a, b);
  left_fits = λ i. let b = ap (λ xs. get_or xs i 0) ef in let c = fits_all flow.free.items lf i in omega (arith, b, c);
  right_fits = λ j. let b = ap (λ xs. get_or xs j 0) ew in let c = fits_all flow.want.items rf j in omega (arith, b, c);
}

-- a new move, and more of one
pub gives_first : (old new : Flow) (giver taker amount : ℕ)
    → giver < length old.free.items → taker < length old.want.items → amount ≤ get_or old.free.items giver 0 → amount ≤ get_or old.want.items taker 0
    → NoneBetween giver taker (transfers old.moves.items)
    → new.free.items ≡ set old.free.items giver (get_or old.free.items giver 0 - amount)
    → new.want.items ≡ set old.want.items taker (get_or old.want.items taker 0 - amount)
    → transfers new.moves.items ≡ transfers old.moves.items ++ record { from = giver; to = taker; amount = amount } ∷ []
    → HasGiven old giver taker amount new
gives_first old new giver taker amount h k lg lt none ef ew em =
    let ms = transfers old.moves.items in record {
      free = ef;
      want = ew;
      kept = subst (AreKeptBut (λ e. ⊥) ms) (sym em) (kept_push ms (record { from = giver; to = taker; amount = amount }));
      flow = λ left right f can. flow_given left right old new giver taker amount f h k lg lt ef ew
          (subst (AddTo giver taker amount ms) (sym em) (add_push ms giver taker amount))
          (subst (All (Good (sum_of left) (sum_of right))) (sym em) (good_push left right ms giver taker amount f.good can))
          (subst AreDistinct (sym em) (distinct_push ms giver taker amount f.distinct none));
    }

pub gives_more : (old new : Flow) (place giver taker amount : ℕ)
    → giver < length old.free.items → taker < length old.want.items → amount ≤ get_or old.free.items giver 0 → amount ≤ get_or old.want.items taker 0
    → IsBetween giver taker (transfers old.moves.items) place
    → new.free.items ≡ set old.free.items giver (get_or old.free.items giver 0 - amount)
    → new.want.items ≡ set old.want.items taker (get_or old.want.items taker 0 - amount)
    → (n : ℕ) → n ≡ (move_at (transfers old.moves.items) place).amount + amount
    → transfers new.moves.items ≡ set (transfers old.moves.items) place (with_amount (move_at (transfers old.moves.items) place) n)
    → HasGiven old giver taker amount new
gives_more old new place giver taker amount h k lg lt b ef ew n en em =
    let ms = transfers old.moves.items in
    let added : AddTo giver taker amount ms (set ms place (with_amount (move_at ms place) n)) =
    subst (λ i. AddTo i taker amount ms (set ms place (with_amount (move_at ms place) n))) b.from
    (subst (λ j. AddTo (move_at ms place).from j amount ms (set ms place (with_amount (move_at ms place) n))) b.to (add_set ms place amount n b.here en)) in record {
      free = ef;
      want = ew;
      kept = subst (AreKeptBut (λ e. ⊥) ms) (sym em) (kept_set_more ms place n b.here (omega (arith, en)));
      flow = λ left right f can. flow_given left right old new giver taker amount f h k lg lt ef ew
          (subst (AddTo giver taker amount ms) (sym em) added)
          (subst (All (Good (sum_of left) (sum_of right))) (sym em) (good_set (sum_of left) (sum_of right) ms place n b.here f.good))
          (subst AreDistinct (sym em) (distinct_set ms place n b.here f.distinct));
    }

pub takes_back : (old new : Flow) (place amount : ℕ) → IsSomeFlow old → place < length old.moves.items
    → amount ≤ (move_at (transfers old.moves.items) place).amount
    → new.free.items ≡ set old.free.items (move_at (transfers old.moves.items) place).from (get_or old.free.items (move_at (transfers old.moves.items) place).from 0 + amount)
    → new.want.items ≡ set old.want.items (move_at (transfers old.moves.items) place).to (get_or old.want.items (move_at (transfers old.moves.items) place).to 0 + amount)
    → (n : ℕ) → n ≡ (move_at (transfers old.moves.items) place).amount - amount
    → transfers new.moves.items ≡ set (transfers old.moves.items) place (with_amount (move_at (transfers old.moves.items) place) n)
    → HasTakenBack old place amount new
takes_back old new place amount some h l ef ew n en em =
    let ms = transfers old.moves.items in
    let here : place < length ms = let k = transfers_long old.moves.items in omega (arith, k, h) in record {
      free = ef;
      want = ew;
      kept = subst (AreKeptBut (λ e. e ≡ place) ms) (sym em) (kept_set_less ms place n here);
      flow = λ left right f. flow_taken_back left right old new (move_at ms place).from (move_at ms place).to amount f (giver_here old place some h) (taker_here old place some h) ef ew
          (subst (λ ns. AddTo (move_at ms place).from (move_at ms place).to amount ns ms) (sym em) (add_unset ms place amount n here (omega (arith, en, l))))
          (subst (All (Good (sum_of left) (sum_of right))) (sym em) (good_set (sum_of left) (sum_of right) ms place n here f.good))
          (subst AreDistinct (sym em) (distinct_set ms place n here f.distinct));
    }

-- units of a move from another giver
set_back : (xs : List ℕ) (k amount : ℕ) (ys zs : List ℕ) → k < length xs → ys ≡ set xs k (get_or xs k 0 + amount) → zs ≡ set ys k (get_or ys k 0 - amount) → zs ≡ xs
set_back xs k amount ys zs h ey ez =
    let a : get_or ys k 0 ≡ get_or xs k 0 + amount = ap (λ xs. get_or xs k 0) ey ∙ get_or-set_same xs k (get_or xs k 0 + amount) 0 h in
    let b : get_or ys k 0 - amount ≡ get_or xs k 0 = omega (arith, a) in
    ez ∙ ap (set ys k) b ∙ ap (λ ys. set ys k (get_or xs k 0)) ey ∙ set-set xs k (get_or xs k 0 + amount) (get_or xs k 0) ∙ set-get_or xs k 0

-- what the first giver has free
freed : (xs ys zs : List ℕ) (first giver amount most : ℕ) → first < length xs → ys ≡ set xs first (get_or xs first 0 + amount) → zs ≡ set ys giver (get_or ys giver 0 - amount)
    → amount ≡ min most (get_or xs giver 0) → 0 < get_or xs giver 0 → 0 < most → 0 < get_or zs first 0
freed xs ys zs first giver amount most h ey ez e free some =
    let long : length ys ≡ length xs = ap length ey ∙ length-set xs first _ in
    let a : get_or ys first 0 ≡ get_or xs first 0 + amount = ap (λ xs. get_or xs first 0) ey ∙ get_or-set_same xs first (get_or xs first 0 + amount) 0 h in
    elim (cases_eq first giver) [
      | inl same ↦
          let b : get_or zs first 0 ≡ get_or ys giver 0 - amount = subst (λ k. get_or zs k 0 ≡ get_or ys giver 0 - amount) (sym same)
          (ap (λ xs. get_or xs giver 0) ez ∙ get_or-set_same ys giver (get_or ys giver 0 - amount) 0 (omega (arith, h, same, long))) in
          let c = ap (λ k. get_or ys k 0) same in let d = ap (λ k. get_or xs k 0) same in omega (arith, a, b, c, d, free)
      | inr other ↦
          let b : get_or zs first 0 ≡ get_or ys first 0 = ap (λ xs. get_or xs first 0) ez ∙ get_or-set_other ys giver first (get_or ys giver 0 - amount) 0 other in
          omega (arith, a, b, e, free, some)
    ]

pub reroutes : (old between new : Flow) (place giver amount : ℕ) → IsSomeFlow old → place < length old.moves.items
    → amount ≡ min (move_at (transfers old.moves.items) place).amount (get_or old.free.items giver 0)
    → HasTakenBack old place amount between → HasGiven between giver (move_at (transfers old.moves.items) place).to amount new
    → IsRerouted old place giver (move_at (transfers old.moves.items) place).from new
reroutes old between new place giver amount some h e back gave =
    let m = move_at (transfers old.moves.items) place in record {
      first_is = refl;
      free_long = ap length gave.free ∙ length-set between.free.items giver _ ∙ ap length back.free ∙ length-set old.free.items m.from _;
      free = λ free amount_some. freed old.free.items between.free.items new.free.items m.from giver amount m.amount (giver_here old place some h) back.free gave.free e free amount_some;
      want = set_back old.want.items m.to amount between.want.items new.want.items (taker_here old place some h) back.want gave.want;
      kept = kept_then (λ e. e ≡ place) (transfers old.moves.items) (transfers between.moves.items) (transfers new.moves.items) back.kept gave.kept;
      flow = λ left right f can. gave.flow left right (back.flow left right f) can;
    }

-- what is wanted where units were taken back
pub wanted_there : (old between : Flow) (place amount : ℕ) → IsSomeFlow old → place < length old.moves.items → HasTakenBack old place amount between
    → (move_at (transfers old.moves.items) place).to < length between.want.items × (amount ≤ get_or between.want.items (move_at (transfers old.moves.items) place).to 0)
wanted_there old between place amount some h back =
    let to = (move_at (transfers old.moves.items) place).to in
    let here = taker_here old place some h in
    let long = ap length back.want ∙ length-set old.want.items to _ in
    let has = ap (λ xs. get_or xs to 0) back.want ∙ get_or-set_same old.want.items to (get_or old.want.items to 0 + amount) 0 here in
    (omega (arith, here, long), omega (arith, has))
