-- What each claim asks of parts, by what heads the two trees.
use Rattle.std.proofs.Common.{◌≡◌, ℕ, zero, suc, ◌+◌, ◌<◌, Bool, true, false, ◌||◌, nat_lt, not, ◌==◌, if◌then◌else◌, List, [], ◌∷◌, ◌++◌, ◌⊎◌, inl, inr, length, map, take, get_or, refl, ap, ◌∙◌, sym, subst, Option, Some, None, slice_get, eqb-true, arith}
use Rattle.std.proofs.lemmas.Bool.{le-ltb, eq-eqb, ne_eqb, eqb-false}
use Rattle.wh_step_laws.proofs.Spines.{spine_one}
use Rattle.wh_terms.specs.Tree.{Tm, free, fun, meta, lam, app, Tms, none, head}
use Rattle.wh_terms.specs.Typing.{Symbols, Declared}
use Rattle.wh_order_inference.specs.Filters.{Filter, keep, pick}
use Rattle.wh_order_inference.specs.Inferences.{Letter, same_trees, bodies, arguments, part, lower, first_less, spine_parts, body, variable, meta_part, Inference, Inferences}
use Rattle.wh_order_extended.specs.Filtered.{chosen, sift, sifts, precedences}
use Rattle.wh_order_path.specs.Heads.{arguments_of, list_of}
use Rattle.wh_order_path.specs.Verdict.{Task, at_least, greater, above, each, is_other_head, is_abstracted, verdict, verdicts}
use Rattle.wh_order_path.proofs.AskedTasks.{AboveAsks, asks_part, asks_lower, asks_first_less, asks_spine, asks_body, asks_variable, asks_meta, above_asks, typed_asks}
use Rattle.wh_order_demands.specs.declared.claim.Claim.TheVariants.{Equal, Greater, AtLeast, Above, PartGreater}
use Rattle.wh_order_demands.specs.declared.view.Spot.{Spot}
use Rattle.wh_order_demands.specs.Claims.{behind, Holds, IsShown, IsGreater, IsAbove, IsPartGreater, Says, SayFilters, order_bit}
use Rattle.wh_order_demands.specs.Views.{IsCallOf}
use Rattle.wh_order_demands.specs.Plans.{PartData, part_of, left_parts, right_parts, pair_parts, same_symbol, other_symbol, IsSomeMet, AreAllMet, IsFirstMet, IsOrderMet, IsWholeMet, HoldsOf}
use Rattle.wh_order_demands.specs.Orders.{compared, all_above}
use Rattle.wh_order_demands.proofs.BehindLemmas.{symbol_not_other, kept_head, kept_arguments, behind_kept, behind_picked, other_behind, some_at, get_at, chosen_at, at_chosen, KeptArgument, kept_argument, argument_kept}
use Rattle.wh_order_demands.proofs.PartLemmas.{below_at, not_set, right_is, pair_is, pair_at, left_met, left_met_by, right_met, met_left, met_right}
use Rattle.wh_order_demands.proofs.ClaimLemmas.{shown_by, first_shown, others_shown, each_shown, greater_above, greater_none, meta_greater_none, at_least_holds, meta_alone}

-- the tree is that of the meta-variable below abstractions over its arguments
abbrev IsAbstractedBy : Tm → Tm → Type 0
IsAbstractedBy (meta y us) u = is_abstracted y (length (list_of us)) 0 u ≡ true
IsAbstractedBy _ u = Unit {0}

meta_behind : (Φ : ℕ → Filter) (z : ℕ) → behind Φ (meta z none) ≡ meta z none
unfolding sift sifts
meta_behind Φ z = refl

pub one_symbol : {f g : ℕ} → fun f ≡ fun g → f ≡ g
one_symbol e = cc

no_true : true ≡ false → ⊥
no_true e = cc

no_filter : {p : ℕ} {is : List ℕ} {j : ℕ} → keep p is ≡ pick j → ⊥
no_filter e = cc

never_less : (n : ℕ) → nat_lt n n ≡ true → ⊥
never_less n e = no_true (sym e ∙ le-ltb n n (omega arith))

-- one of two bits is set, and the second or the first is not
first_set : (a b : Bool) → (b ≡ true → ⊥) → (a || b) ≡ true → a ≡ true
first_set true b never e = refl
first_set false b never e = absurd (never e)

second_set : (a b : Bool) → (a ≡ true → ⊥) → (a || b) ≡ true → b ≡ true
second_set true b never e = absurd (never refl)
second_set false b never e = e

-- a shorter front of two lists that are alike there
take_at : (n m : ℕ) (l : List Tm) → m < n → slice_get (take n l) m ≡ slice_get l m
take_at zero m l h = absurd (omega (arith, h))
take_at (suc n) m [] h = refl
take_at (suc n) zero (t ∷ l) h = refl
take_at (suc n) (suc m) (t ∷ l) h = take_at n m l (omega (arith, h))

one_tree : {a b : Tm} → Some a ≡ Some b → a ≡ b
one_tree e = cc

if_true : {A : Type 0} (b : Bool) (x y : A) → b ≡ true → (if b then x else y) ≡ x
if_true b x y e = ap (λ b. if b then x else y) e

if_false : {A : Type 0} (b : Bool) (x y : A) → b ≡ false → (if b then x else y) ≡ y
if_false b x y e = ap (λ b. if b then x else y) e

module _ (spots : List (Option Spot)) (v : ℕ → Bool) (Φ : ℕ → Filter) (say : SayFilters spots v Φ) where
  abbrev prec : ℕ → ℕ
  prec = precedences Φ

  -- the bits of a symbol with arguments
  says_of : (t : Tm) (f x : ℕ) (ts : List Tm) → IsCallOf spots t f x ts → Says v x (length ts) (Φ f)
  says_of t f x ts c = say.filters f (record { first = x; places = length ts }) c.spot

  -- how its precedence compares with that of another one
  order_of : (s t : Tm) (f x g y : ℕ) (ss ts : List Tm) → IsCallOf spots s f x ss → IsCallOf spots t g y ts
      → v (order_bit (length ss) x g) ≡ not (nat_lt (prec f) (prec g))
  order_of s t f x g y ss ts c d =
      say.orders f g (record { first = x; places = length ss }) c.spot (below_at spots g (Some (record { first = y; places = length ts })) d.spot)

  -- behind a filter that picks, a tree is one of its arguments
  record PickedArgument (t : Tm) (x : ℕ) (ts : List Tm) (i : ℕ) : Type 0 where
    argument : Tm
    at : slice_get ts i ≡ Some argument
    set : v (length ts + x + i) ≡ true
    is : behind Φ t ≡ behind Φ argument

  picked_argument : (t : Tm) (f x : ℕ) (ts : List Tm) (i : ℕ) → IsCallOf spots t f x ts → Φ f ≡ pick i → PickedArgument t x ts i
  picked_argument t f x ts i c k =
      let (l, set) = (says_of t f x ts c).picked i k in
      let (u, at) = some_at ts i l in
      record {
        argument = u;
        at = at;
        set = set;
        is = behind_picked Φ t f i u c.headed k (subst (λ l. slice_get l i ≡ Some u) (sym c.items_are) at);
      }

  -- of the places only that one has its bit set
  only_picked : (t : Tm) (f x : ℕ) (ts : List Tm) (i n : ℕ) → IsCallOf spots t f x ts → Φ f ≡ pick i → n < length ts
      → (v (x + n) || v (length ts + x + n)) ≡ true → n ≡ i
  only_picked t f x ts i n c k l set =
      let told = says_of t f x ts c in
      told.one_picked i n k l (second_set (v (x + n)) (v (length ts + x + n)) (told.none_kept i n k l) set)

  -- and where places are kept only those have
  only_kept : (t : Tm) (f x : ℕ) (ts : List Tm) (p : ℕ) (is : List ℕ) (n : ℕ) → IsCallOf spots t f x ts → Φ f ≡ keep p is → n < length ts
      → (v (x + n) || v (length ts + x + n)) ≡ true → v (x + n) ≡ true
  only_kept t f x ts p is n c k l set =
      first_set (v (x + n)) (v (length ts + x + n)) ((says_of t f x ts c).none_picked p is n k l) set

  -- the arguments that are kept
  kept_items : (t : Tm) (f x : ℕ) (ts : List Tm) (p : ℕ) (is : List ℕ) → IsCallOf spots t f x ts → Φ f ≡ keep p is → arguments_of (behind Φ t) ≡ chosen is (map (behind Φ) ts)
  kept_items t f x ts p is c k = kept_arguments Φ t f p is c.headed k ∙ ap (λ l. chosen is (map (behind Φ) l)) c.items_are

  kept_at : (t : Tm) (f x : ℕ) (ts : List Tm) (p : ℕ) (is : List ℕ) → IsCallOf spots t f x ts → Φ f ≡ keep p is → (n : ℕ) (u : Tm)
      → slice_get (arguments_of (behind Φ t)) n ≡ Some u → KeptArgument Φ v x ts u
  kept_at t f x ts p is c k n u at =
      kept_argument Φ v x ts (Φ f) p is (says_of t f x ts c) k n u (subst (λ l. slice_get l n ≡ Some u) (kept_items t f x ts p is c k) at)

  -- the kept place of which another one is
  kept_number : (t : Tm) (f x : ℕ) (ts : List Tm) (p : ℕ) (is : List ℕ) → IsCallOf spots t f x ts → Φ f ≡ keep p is → (n : ℕ) (u : Tm)
      → slice_get (arguments_of (behind Φ t)) n ≡ Some u → (i : ℕ) × (slice_get is n ≡ Some i) × (i < length ts) × (u ≡ get_or (map (behind Φ) ts) i (fun 0))
  kept_number t f x ts p is c k n u at =
      let (i, there, same) = chosen_at is (map (behind Φ) ts) n u (subst (λ l. slice_get l n ≡ Some u) (kept_items t f x ts p is c k) at) in
      (i, there, (says_of t f x ts c).within p is i k (n, there), same)

  -- what stands behind the filter at a place that is kept
  kept_there : (t : Tm) (f x : ℕ) (ts : List Tm) (p : ℕ) (is : List ℕ) → IsCallOf spots t f x ts → Φ f ≡ keep p is → (m i : ℕ) (u : Tm)
      → slice_get is m ≡ Some i → slice_get ts i ≡ Some u → slice_get (arguments_of (behind Φ t)) m ≡ Some (behind Φ u)
  kept_there t f x ts p is c k m i u at there =
      subst (λ l. slice_get l m ≡ Some (behind Φ u)) (sym (kept_items t f x ts p is c k))
      (at_chosen is (map (behind Φ) ts) m i at ∙ ap Some (get_at (behind Φ) ts i u (fun 0) there))

  -- an argument that is kept is at least the tree on the right
  pub record PartAtLeast (x : ℕ) (ss : List Tm) (t : Tm) : Type 0 where
    pub place : ℕ
    pub argument : Tm
    pub at : slice_get ss place ≡ Some argument
    pub set : v (x + place) ≡ true
    pub least : Holds Φ AtLeast argument t

  -- so it is greater or equal
  pub least_met : (x z : ℕ) (ss : List Tm) (t : Tm) → PartAtLeast x ss t → IsSomeMet v Φ (left_parts x z Greater ss t ++ left_parts x x Equal ss t)
  least_met x z ss t a = on a.least
    where
      on : Holds Φ AtLeast a.argument t → IsSomeMet v Φ (left_parts x z Greater ss t ++ left_parts x x Equal ss t)
      on (inl e) = met_right v Φ (left_parts x z Greater ss t) (left_parts x x Equal ss t) (left_met v Φ x x Equal ss t a.place a.argument a.at a.set e)
      on (inr g) = met_left v Φ (left_parts x z Greater ss t) (left_parts x x Equal ss t) (left_met v Φ x z Greater ss t a.place a.argument a.at a.set g)

  -- what a good inference of a tree above another one says
  module _ (s t : Tm) (f x : ℕ) (ss : List Tm) (c : IsCallOf spots s f x ss) (a : IsAbove Φ s t) where
    abbrev F : Symbols
    F = a.shown.signature

    abbrev M : List Declared
    M = a.shown.metas

    keeps : Φ f ≡ keep a.kept.precedence a.kept.places
    keeps = subst (λ g. Φ g ≡ keep a.kept.precedence a.kept.places) (one_symbol (sym a.kept.headed ∙ c.headed)) a.kept.keeps

    asks : AboveAsks F prec M a.from a.next (behind Φ s) (behind Φ t) a.shown.letter a.shown.place a.shown.asked
    asks = (above_asks F prec M a.from a.next (behind Φ s) (behind Φ t) a.shown.letter a.shown.place a.shown.asked a.shown.asks).1

    abbrev AsPart : Type 0
    AsPart = PartAtLeast x ss t

    -- an argument is at least the tree on the right
    by_part : (n : ℕ) (u : Tm) (ks : List Task) → slice_get (arguments_of (behind Φ s)) n ≡ Some u
        → ks ≡ record { claim = at_least; next = a.next; left = u; right = behind Φ t } ∷ [] → verdicts F prec M ks a.shown.parts ≡ None → AsPart
    by_part n u ks at k g =
        let w = kept_at s f x ss a.kept.precedence a.kept.places c keeps n u at in
        let (i, e) = first_shown F prec M (record { claim = at_least; next = a.next; left = u; right = behind Φ t }) [] a.shown.parts (subst (λ ks. verdicts F prec M ks a.shown.parts ≡ None) k g) in
        record {
          place = w.place;
          argument = w.argument;
          at = w.at;
          set = w.set;
          least = at_least_holds Φ F M a.next w.argument t i (subst (λ u. verdict F prec M (record { claim = at_least; next = a.next; left = u; right = behind Φ t }) i ≡ None) w.is e);
        }

    -- the same of the tree on the right
    above_moved : (u : Tm) → behind Φ t ≡ behind Φ u → IsAbove Φ s u
    above_moved u e = record {
      kept = a.kept;
      from = a.from;
      next = a.next;
      shown = subst (λ w. IsShown prec (record { claim = above a.from; next = a.next; left = behind Φ s; right = w })) e a.shown;
    }

    above_each : (u : Tm) → (i : Inference) × (verdict F prec M (record { claim = above a.from; next = a.next; left = behind Φ s; right = behind Φ u }) i ≡ None) → IsAbove Φ s u
    above_each u (i, e) = record {
      kept = a.kept;
      from = a.from;
      next = a.next;
      shown = shown_by F prec M (record { claim = above a.from; next = a.next; left = behind Φ s; right = behind Φ u }) i e;
    }

    -- a symbol heads the right one
    module _ (g y : ℕ) (ts : List Tm) (d : IsCallOf spots t g y ts) where
      abbrev AllAbove : Type 0
      AllAbove = AreAllMet v Φ (right_parts y (length ts + y) Above s ts)

      -- the argument that it picks is the tree
      by_picked : (j : ℕ) → Φ g ≡ pick j → AllAbove
      by_picked j k n p at set =
          let w = picked_argument t g y ts j d k in
          let (u, there, same) = right_is y (length ts + y) Above s ts n p at in
          let one : n ≡ j = only_picked t g y ts j n d k (below_at ts n u there) (subst (λ (p : PartData). (v p.bit || v p.other) ≡ true) (sym same) set) in
          let tree : w.argument ≡ u = one_tree (sym w.at ∙ subst (λ n. slice_get ts n ≡ Some u) one there) in
          subst (HoldsOf v Φ) same (above_moved u (w.is ∙ ap (behind Φ) tree))

      -- s is above each argument that is kept
      by_all : (q : ℕ) (js : List ℕ) → Φ g ≡ keep q js → (parts : Inferences) → verdicts F prec M (each (above a.from) a.next (behind Φ s) (arguments_of (behind Φ t))) parts ≡ None → AllAbove
      by_all q js k parts e n p at set =
          let (u, there, same) = right_is y (length ts + y) Above s ts n p at in
          let bit : v (y + n) ≡ true = only_kept t g y ts q js n d k (below_at ts n u there) (subst (λ (p : PartData). (v p.bit || v p.other) ≡ true) (sym same) set) in
          let (m, chosen_there) = argument_kept Φ v y ts (Φ g) q js (says_of t g y ts d) k n u there (below_at ts n u there) bit in
          subst (HoldsOf v Φ) same
          (above_each u (each_shown F prec M (above a.from) a.next (behind Φ s) (arguments_of (behind Φ t)) parts e m (behind Φ u)
          (subst (λ l. slice_get l m ≡ Some (behind Φ u)) (sym (kept_items t g y ts q js d k)) chosen_there)))

      -- by the first arguments that differ, of one symbol
      by_first : (n : ℕ) (u w : Tm) → Φ g ≡ keep a.kept.precedence a.kept.places → take n (arguments_of (behind Φ s)) ≡ take n (arguments_of (behind Φ t))
          → slice_get (arguments_of (behind Φ s)) n ≡ Some u → slice_get (arguments_of (behind Φ t)) n ≡ Some w
          → (i : Inference) × (verdict F prec M (record { claim = greater; next = a.next; left = u; right = w }) i ≡ None) → IsFirstMet v Φ 0 (pair_parts x x Greater ss ts)
      by_first n u w k front at at' (i, e) =
          let p = a.kept.precedence in
          let places = a.kept.places in
          let (place, number, within, left_is) = kept_number s f x ss p places c keeps n u at in
          let (place', number', within', right_is) = kept_number t g y ts p places d k n w at' in
          let one : place' ≡ place = one_number (sym number' ∙ number) in
          let (l, left_there) = some_at ss place within in
          let (r, right_there) = some_at ts place (subst (λ n. n < length ts) one within') in
          let left_tree : u ≡ behind Φ l = left_is ∙ get_at (behind Φ) ss place l (fun 0) left_there in
          let right_tree : w ≡ behind Φ r = right_is ∙ ap (λ n. get_or (map (behind Φ) ts) n (fun 0)) one ∙ get_at (behind Φ) ts place r (fun 0) right_there in
          let shown : IsShown prec (record { claim = greater; next = a.next; left = u; right = w }) = shown_by F prec M (record { claim = greater; next = a.next; left = u; right = w }) i e in
          let kept : v (x + place) ≡ true = (says_of s f x ss c).kept p places place keeps (n, number) in
          record {
            place = place;
            part = part_of (x + place) (x + place) Greater l r;
            from = omega arith;
            at = pair_at x x Greater ss ts place l r left_there right_there;
            set = ap (λ b. b || v (x + place)) kept;
            less = record {
              next = a.next;
              shown = subst (λ r. IsShown prec (record { claim = greater; next = a.next; left = behind Φ l; right = r })) right_tree
                  (subst (λ l. IsShown prec (record { claim = greater; next = a.next; left = l; right = w })) left_tree shown);
            };
            before = λ m q _ less there set. (
                let (b, b', b_at, b'_at, same) = pair_is x x Greater ss ts m q there in
                let bit : v (x + m) ≡ true = either_same (v (x + m)) (subst (λ (p : PartData). (v p.bit || v p.other) ≡ true) (sym same) set) in
                let (h, h_at) = (says_of s f x ss c).others p places m keeps (below_at ss m b b_at) bit in
                let earlier : h < n = (says_of s f x ss c).in_order p places n h place m keeps number h_at less in
                let b_there = kept_there s f x ss p places c keeps h m b h_at b_at in
                let b'_there = kept_there t g y ts p places d k h m b' h_at b'_at in
                let trees : behind Φ b ≡ behind Φ b' =
                one_tree (sym b_there ∙ sym (take_at n h (arguments_of (behind Φ s)) earlier) ∙ ap (λ l. slice_get l h) front ∙ take_at n h (arguments_of (behind Φ t)) earlier ∙ b'_there) in
                subst (λ (q : PartData). behind Φ q.left ≡ behind Φ q.right) same trees);
          }
        where
          one_number : {m n : ℕ} → Some m ≡ Some n → m ≡ n
          one_number e = cc

          either_same : (a : Bool) → (a || a) ≡ true → a ≡ true
          either_same true e = refl
          either_same false e = e

      -- by an argument that is greater than one of another symbol
      by_other : (q : ℕ) (js : List ℕ) → Φ g ≡ keep q js → (n : ℕ) (u w : Tm) → slice_get (arguments_of (behind Φ s)) n ≡ Some u → slice_get (arguments_of (behind Φ t)) n ≡ Some w
          → (i : Inference) × (verdict F prec M (record { claim = greater; next = a.next; left = u; right = w }) i ≡ None) → IsSomeMet v Φ (right_parts y y PartGreater s ts)
      by_other q js k n u w at at' (i, e) =
          let r = kept_at t g y ts q js d k n w at' in
          right_met v Φ y y PartGreater s ts r.place r.argument r.at r.set record {
            kept = a.kept;
            next = a.next;
            place = n;
            part = u;
            at = at;
            shown = subst (λ w. IsShown prec (record { claim = greater; next = a.next; left = u; right = w })) r.is
                (shown_by F prec M (record { claim = greater; next = a.next; left = u; right = w }) i e);
          }

      -- the two symbols of an inference are those that head the trees
      heads_left : (f' : ℕ) → head (behind Φ s) ≡ fun f' → f' ≡ f
      heads_left f' h = one_symbol (sym h ∙ kept_head Φ s f a.kept.precedence a.kept.places c.headed keeps)

      heads_right : (q : ℕ) (js : List ℕ) → Φ g ≡ keep q js → (g' : ℕ) → head (behind Φ t) ≡ fun g' → g' ≡ g
      heads_right q js k g' h = one_symbol (sym h ∙ kept_head Φ t g q js d.headed k)

      abbrev Compared : Type 0
      Compared = IsOrderMet v Φ (compared s f x g y ss ts)

      -- one symbol, or two
      compare_same : f ≡ g → IsFirstMet v Φ 0 (pair_parts x x Greater ss ts) → Compared
      compare_same e h =
          subst (IsOrderMet v Φ) (sym (if_true (f == g) (same_symbol (pair_parts x x Greater ss ts))
          (other_symbol (length ts + y) (length ts) (order_bit (length ss) x g) (order_bit (length ts) y f) (right_parts y y PartGreater s ts)) (eq-eqb f g e))) h

      compare_other : (f ≡ g → ⊥) → IsOrderMet v Φ (other_symbol (length ts + y) (length ts) (order_bit (length ss) x g) (order_bit (length ts) y f) (right_parts y y PartGreater s ts)) → Compared
      compare_other ne h =
          subst (IsOrderMet v Φ) (sym (if_false (f == g) (same_symbol (pair_parts x x Greater ss ts))
          (other_symbol (length ts + y) (length ts) (order_bit (length ss) x g) (order_bit (length ts) y f) (right_parts y y PartGreater s ts)) (ne_eqb f g ne))) h

      -- a lower symbol on the right
      lower_compared : nat_lt (prec g) (prec f) ≡ true → Compared
      lower_compared less = on (f == g) refl
        where
          on : (b : Bool) → (f == g) ≡ b → Compared
          on true e = absurd (never_less (prec g) (subst (λ f. nat_lt (prec g) (prec f) ≡ true) (eqb-true f g e) less))
          on false e = compare_other (eqb-false f g e) (inr (inl (order_of t s g y f x ts ss d c ∙ ap not less)))

      -- one of equal precedence
      level_compared : (q : ℕ) (js : List ℕ) → Φ g ≡ keep q js → (n : ℕ) (u w : Tm) → prec g ≡ prec f
          → take n (arguments_of (behind Φ s)) ≡ take n (arguments_of (behind Φ t))
          → slice_get (arguments_of (behind Φ s)) n ≡ Some u → slice_get (arguments_of (behind Φ t)) n ≡ Some w
          → (i : Inference) × (verdict F prec M (record { claim = greater; next = a.next; left = u; right = w }) i ≡ None) → Compared
      level_compared q js k n u w level front at at' shown = on (f == g) refl
        where
          on : (b : Bool) → (f == g) ≡ b → Compared
          on true e = compare_same (eqb-true f g e) (by_first n u w (subst (λ g. Φ g ≡ keep a.kept.precedence a.kept.places) (eqb-true f g e) keeps) front at at' shown)
          on false e =
              compare_other (eqb-false f g e) (inr (inr (
                order_of s t f x g y ss ts c d ∙ ap not (le-ltb (prec f) (prec g) (omega (arith, level))),
                by_other q js k n u w at at' shown,
              )))

      picked_set : (j : ℕ) → Φ g ≡ pick j → (i : ℕ) × (i < length ts) × (v (length ts + y + i) ≡ true)
      picked_set j k = let w = picked_argument t g y ts j d k in (j, below_at ts j w.argument w.at, w.set)

      -- the left symbol picks nothing
      nothing_picked : (i : ℕ) → i < length ss → v (length ss + x + i) ≡ false
      nothing_picked i l = not_set _ ((says_of s f x ss c).none_picked a.kept.precedence a.kept.places i keeps l)

      abbrev ByCall : Type 0
      ByCall = AsPart ⊎ IsWholeMet v Φ (all_above s f x g y ss ts)

      by_letter : (q : ℕ) (js : List ℕ) → Φ g ≡ keep q js → (l : Letter) (n : ℕ) (ks : List Task) → AboveAsks F prec M a.from a.next (behind Φ s) (behind Φ t) l n ks
          → verdicts F prec M ks a.shown.parts ≡ None → ByCall
      by_letter q js k part (suc n) ks (asks_part u at e) good = inl (by_part n u ks at e good)
      by_letter q js k lower zero ks (asks_lower f' g' hs ht less e) good = inr record {
        unset = nothing_picked;
        parts = by_all q js k a.shown.parts (subst (λ ks. verdicts F prec M ks a.shown.parts ≡ None) e good);
        order = lower_compared (subst (λ f. nat_lt (prec g) (prec f) ≡ true) (heads_left f' hs) (subst (λ g. nat_lt (prec g) (prec f') ≡ true) (heads_right q js k g' ht) less));
      }
      by_letter q js k first_less (suc n) ks (asks_first_less f' g' u w hs ht level front at at' e) good =
          let asked : verdicts F prec M (record { claim = greater; next = a.next; left = u; right = w } ∷ each (above a.from) a.next (behind Φ s) (arguments_of (behind Φ t))) a.shown.parts ≡ None =
          subst (λ ks. verdicts F prec M ks a.shown.parts ≡ None) e good in
          let (is, h) = others_shown F prec M (record { claim = greater; next = a.next; left = u; right = w }) (each (above a.from) a.next (behind Φ s) (arguments_of (behind Φ t))) a.shown.parts asked in
          let shown = first_shown F prec M (record { claim = greater; next = a.next; left = u; right = w }) (each (above a.from) a.next (behind Φ s) (arguments_of (behind Φ t))) a.shown.parts asked in
          inr record {
            unset = nothing_picked;
            parts = by_all q js k is h;
            order = level_compared q js k n u w (ap prec (sym (heads_right q js k g' ht)) ∙ level ∙ ap prec (heads_left f' hs)) front at at' shown;
          }
      by_letter q js k spine_parts zero ks (asks_spine u w form other e) good = absurd (symbol_not_other g (head (behind Φ t)) (kept_head Φ t g q js d.headed k) other)
      by_letter q js k body zero ks (asks_body b w form e) good = absurd (symbol_not_other g (head (behind Φ t)) (kept_head Φ t g q js d.headed k) (ap (λ t. is_other_head (head t)) form))
      by_letter q js k variable zero ks (asks_variable z b form less e) good = absurd (symbol_not_other g (head (behind Φ t)) (kept_head Φ t g q js d.headed k) (ap (λ t. is_other_head (head t)) form))
      by_letter q js k meta_part (suc n) ks (asks_meta z us u form at same e) good = absurd (symbol_not_other g (head (behind Φ t)) (kept_head Φ t g q js d.headed k) (ap (λ t. is_other_head (head t)) form))
      by_letter q js k same_trees n ks asked good = elim asked [ ]
      by_letter q js k bodies n ks asked good = elim asked [ ]
      by_letter q js k arguments n ks asked good = elim asked [ ]
      by_letter q js k part zero ks asked good = elim asked [ ]
      by_letter q js k lower (suc n) ks asked good = elim asked [ ]
      by_letter q js k first_less zero ks asked good = elim asked [ ]
      by_letter q js k spine_parts (suc n) ks asked good = elim asked [ ]
      by_letter q js k body (suc n) ks asked good = elim asked [ ]
      by_letter q js k variable (suc n) ks asked good = elim asked [ ]
      by_letter q js k meta_part zero ks asked good = elim asked [ ]

      pub above_call : ByCall
      above_call = on (Φ g) refl
        where
          on : (G : Filter) → Φ g ≡ G → ByCall
          on (pick j) k = inr record {
            unset = nothing_picked;
            parts = by_picked j k;
            order = compare_other (λ e. no_filter (sym keeps ∙ ap Φ e ∙ k)) (inl (picked_set j k));
          }
          on (keep q js) k = by_letter q js k a.shown.letter a.shown.place a.shown.asked asks a.shown.good

    -- the right one is a meta-variable without arguments
    by_meta : (z : ℕ) → behind Φ t ≡ meta z none → (l : Letter) (n : ℕ) (ks : List Task) → AboveAsks F prec M a.from a.next (behind Φ s) (behind Φ t) l n ks
        → verdicts F prec M ks a.shown.parts ≡ None → AsPart
    by_meta z m part (suc n) ks (asks_part u at e) good = by_part n u ks at e good
    by_meta z m lower zero ks (asks_lower f' g' hs ht less e) good = absurd (symbol_not_other g' (head (behind Φ t)) ht (ap (λ t. is_other_head (head t)) m))
    by_meta z m first_less (suc n) ks (asks_first_less f' g' u w hs ht same front at at' e) good = absurd (symbol_not_other g' (head (behind Φ t)) ht (ap (λ t. is_other_head (head t)) m))
    by_meta z m spine_parts zero ks (asks_spine u w form other e) good = absurd (no_app (sym m ∙ form))
      where
        no_app : meta z none ≡ app u w → ⊥
        no_app e = cc
    by_meta z m body zero ks (asks_body b w form e) good = absurd (no_lam (sym m ∙ form))
      where
        no_lam : meta z none ≡ lam b w → ⊥
        no_lam e = cc
    by_meta z m variable zero ks (asks_variable y b form less e) good = absurd (no_free (sym m ∙ form))
      where
        no_free : meta z none ≡ free y b → ⊥
        no_free e = cc
    by_meta z m same_trees n ks asked good = elim asked [ ]
    by_meta z m bodies n ks asked good = elim asked [ ]
    by_meta z m arguments n ks asked good = elim asked [ ]
    by_meta z m part zero ks asked good = elim asked [ ]
    by_meta z m lower (suc n) ks asked good = elim asked [ ]
    by_meta z m first_less zero ks asked good = elim asked [ ]
    by_meta z m spine_parts (suc n) ks asked good = elim asked [ ]
    by_meta z m body (suc n) ks asked good = elim asked [ ]
    by_meta z m variable (suc n) ks asked good = elim asked [ ]
    by_meta z m meta_part zero ks asked good = elim asked [ ]
    by_meta z m meta_part (suc n) ks (asks_meta y us u form at abstracted e) good =
        let w = kept_at s f x ss a.kept.precedence a.kept.places c keeps n u at in
        record { place = w.place; argument = w.argument; at = w.at; set = w.set; least = inl (sym w.is ∙ on y us (sym m ∙ form) abstracted ∙ sym m) }
      where
        on : (y : ℕ) (us : Tms) → meta z none ≡ meta y us → is_abstracted y (length (list_of us)) 0 u ≡ true → u ≡ meta z none
        on y us e abstracted = meta_alone z u (subst (λ (r : Tm). IsAbstractedBy r u) (sym e) abstracted)

    pub above_meta : (z : ℕ) → t ≡ meta z none → AsPart
    above_meta z e = by_meta z (ap (behind Φ) e ∙ meta_behind Φ z) a.shown.letter a.shown.place a.shown.asked asks a.shown.good

  -- a greater tree that a symbol heads
  pub greater_call : (s t : Tm) (f x : ℕ) (ss : List Tm) → IsCallOf spots s f x ss → IsGreater Φ s t
      → IsSomeMet v Φ (left_parts x (length ss + x) Greater ss t) ⊎ IsAbove Φ s t
  greater_call s t f x ss c h = on (Φ f) refl
    where
      on : (G : Filter) → Φ f ≡ G → IsSomeMet v Φ (left_parts x (length ss + x) Greater ss t) ⊎ IsAbove Φ s t
      on (pick i) k =
          let w = picked_argument s f x ss i c k in
          inl (left_met_by v Φ x (length ss + x) Greater ss t i w.argument w.at w.set record {
            next = h.next;
            shown = subst (λ w. IsShown prec (record { claim = greater; next = h.next; left = w; right = behind Φ t })) w.is h.shown;
          })
      on (keep p is) k = inr record {
        kept = record { symbol = f; precedence = p; places = is; headed = c.headed; keeps = k };
        from = h.next;
        next = h.next;
        shown = record {
          signature = h.shown.signature;
          metas = h.shown.metas;
          letter = h.shown.letter;
          place = h.shown.place;
          parts = h.shown.parts;
          asked = h.shown.asked;
          asks = greater_above h.shown.signature prec h.shown.metas h.next (behind Φ s) (behind Φ t) f (kept_head Φ s f p is c.headed k) h.shown.letter h.shown.place h.shown.parts h.shown.asked
              (typed_asks h.shown.signature prec h.shown.metas h.next (behind Φ s) (behind Φ t) h.shown.letter h.shown.place h.shown.parts h.shown.asked h.shown.asks).1;
          good = h.shown.good;
        };
      }

  -- no symbol heads the greater tree, and one heads the other
  pub greater_other : (s t : Tm) (g y : ℕ) (ts : List Tm) → is_other_head (head s) ≡ true → IsCallOf spots t g y ts → IsGreater Φ s t
      → IsSomeMet v Φ (right_parts (length ts + y) (length ts + y) Greater s ts)
  greater_other s t g y ts o d h = on (Φ g) refl
    where
      on : (G : Filter) → Φ g ≡ G → IsSomeMet v Φ (right_parts (length ts + y) (length ts + y) Greater s ts)
      on (pick j) k =
          let w = picked_argument t g y ts j d k in
          right_met v Φ (length ts + y) (length ts + y) Greater s ts j w.argument w.at w.set record {
            next = h.next;
            shown = subst (λ w. IsShown prec (record { claim = greater; next = h.next; left = behind Φ s; right = w })) w.is h.shown;
          }
      on (keep q js) k =
          absurd (greater_none h.shown.signature prec h.shown.metas h.next (behind Φ s) (behind Φ t) g (other_behind Φ s o) (kept_head Φ t g q js d.headed k)
          h.shown.letter h.shown.place h.shown.parts h.shown.asked
          (typed_asks h.shown.signature prec h.shown.metas h.next (behind Φ s) (behind Φ t) h.shown.letter h.shown.place h.shown.parts h.shown.asked h.shown.asks).1)

  -- a meta-variable without arguments is not greater
  pub greater_meta : (s t : Tm) (z : ℕ) → s ≡ meta z none → IsGreater Φ s t → ⊥
  greater_meta s t z e h =
      meta_greater_none h.shown.signature prec h.shown.metas h.next (behind Φ s) (behind Φ t) z (ap (behind Φ) e ∙ meta_behind Φ z)
      h.shown.letter h.shown.place h.shown.parts h.shown.asked
      (typed_asks h.shown.signature prec h.shown.metas h.next (behind Φ s) (behind Φ t) h.shown.letter h.shown.place h.shown.parts h.shown.asked h.shown.asks).1

  -- nor equal to another one
  pub equal_metas : (s t : Tm) (z y : ℕ) → s ≡ meta z none → t ≡ meta y none → behind Φ s ≡ behind Φ t → z ≡ y
  equal_metas s t z y e d same = one_meta (sym (meta_behind Φ z) ∙ sym (ap (behind Φ) e) ∙ same ∙ ap (behind Φ) d ∙ meta_behind Φ y)
    where
      one_meta : meta z none ≡ meta y none → z ≡ y
      one_meta e = cc

  -- an argument that is greater, of a symbol that keeps it
  pub part_greater : (s t : Tm) (f x : ℕ) (ss : List Tm) → IsCallOf spots s f x ss → IsPartGreater Φ s t → IsSomeMet v Φ (left_parts x x Greater ss t)
  part_greater s t f x ss c h =
      let keeps : Φ f ≡ keep h.kept.precedence h.kept.places = subst (λ g. Φ g ≡ keep h.kept.precedence h.kept.places) (one_symbol (sym h.kept.headed ∙ c.headed)) h.kept.keeps in
      let w = kept_at s f x ss h.kept.precedence h.kept.places c keeps h.place h.part h.at in
      left_met v Φ x x Greater ss t w.place w.argument w.at w.set record {
        next = h.next;
        shown = subst (λ w. IsShown prec (record { claim = greater; next = h.next; left = w; right = behind Φ t })) w.is h.shown;
      }

  -- equal trees, where a symbol heads the left one and picks
  equal_left : (s t : Tm) (f x : ℕ) (ss : List Tm) (i : ℕ) → IsCallOf spots s f x ss → Φ f ≡ pick i → behind Φ s ≡ behind Φ t
      → IsSomeMet v Φ (left_parts (length ss + x) (length ss + x) Equal ss t)
  equal_left s t f x ss i c k e =
      let w = picked_argument s f x ss i c k in
      left_met v Φ (length ss + x) (length ss + x) Equal ss t i w.argument w.at w.set (sym w.is ∙ e)

  equal_right : (s t : Tm) (g y : ℕ) (ts : List Tm) (j : ℕ) → IsCallOf spots t g y ts → Φ g ≡ pick j → behind Φ s ≡ behind Φ t
      → IsSomeMet v Φ (right_parts (length ts + y) (length ts + y) Equal s ts)
  equal_right s t g y ts j d k e =
      let w = picked_argument t g y ts j d k in
      right_met v Φ (length ts + y) (length ts + y) Equal s ts j w.argument w.at w.set (e ∙ w.is)

  pub equal_other_left : (s t : Tm) (g y : ℕ) (ts : List Tm) → is_other_head (head s) ≡ true → IsCallOf spots t g y ts → behind Φ s ≡ behind Φ t
      → IsSomeMet v Φ (right_parts (length ts + y) (length ts + y) Equal s ts)
  equal_other_left s t g y ts o d e = on (Φ g) refl
    where
      on : (G : Filter) → Φ g ≡ G → IsSomeMet v Φ (right_parts (length ts + y) (length ts + y) Equal s ts)
      on (pick j) k = equal_right s t g y ts j d k e
      on (keep q js) k = absurd (symbol_not_other g (head (behind Φ s)) (ap head e ∙ kept_head Φ t g q js d.headed k) (other_behind Φ s o))

  pub equal_other_right : (s t : Tm) (f x : ℕ) (ss : List Tm) → IsCallOf spots s f x ss → is_other_head (head t) ≡ true → behind Φ s ≡ behind Φ t
      → IsSomeMet v Φ (left_parts (length ss + x) (length ss + x) Equal ss t)
  equal_other_right s t f x ss c o e = on (Φ f) refl
    where
      on : (G : Filter) → Φ f ≡ G → IsSomeMet v Φ (left_parts (length ss + x) (length ss + x) Equal ss t)
      on (pick i) k = equal_left s t f x ss i c k e
      on (keep p is) k = absurd (symbol_not_other f (head (behind Φ t)) (ap head (sym e) ∙ kept_head Φ s f p is c.headed k) (other_behind Φ t o))

  -- two symbols head them, which keep their arguments: it is one symbol, and what is kept is equal
  equal_kept : (s t : Tm) (f x g y : ℕ) (ss ts : List Tm) (p q : ℕ) (is js : List ℕ) → IsCallOf spots s f x ss → IsCallOf spots t g y ts
      → Φ f ≡ keep p is → Φ g ≡ keep q js → behind Φ s ≡ behind Φ t → (f ≡ g) × AreAllMet v Φ (pair_parts x (length ss + x) Equal ss ts)
  equal_kept s t f x g y ss ts p q is js c d k m e =
      let (one, items) = spine_one f g (chosen is (map (behind Φ) (arguments_of s))) (chosen js (map (behind Φ) (arguments_of t)))
      (sym (behind_kept Φ s f p is c.headed k) ∙ e ∙ behind_kept Φ t g q js d.headed m) in
      let places : js ≡ is = one_list (sym m ∙ ap Φ (sym one) ∙ k) in
      let same_items : chosen is (map (behind Φ) ss) ≡ chosen is (map (behind Φ) ts) =
      ap (λ l. chosen is (map (behind Φ) l)) (sym c.items_are) ∙ items ∙ ap (λ l. chosen js (map (behind Φ) l)) d.items_are
      ∙ ap (λ l. chosen l (map (behind Φ) ts)) places in (
        one,
        λ n r at set. (
            let (a, b, left_there, right_there, same) = pair_is x (length ss + x) Equal ss ts n r at in
            let bit : v (x + n) ≡ true = only_kept s f x ss p is n c k (below_at ss n a left_there) (subst (λ (r : PartData). (v r.bit || v r.other) ≡ true) (sym same) set) in
            let (w, there) = (says_of s f x ss c).others p is n k (below_at ss n a left_there) bit in
            subst (HoldsOf v Φ) same
            (one_tree (sym (at_chosen is (map (behind Φ) ss) w n there ∙ ap Some (get_at (behind Φ) ss n a (fun 0) left_there))
            ∙ ap (λ l. slice_get l w) same_items
            ∙ at_chosen is (map (behind Φ) ts) w n there ∙ ap Some (get_at (behind Φ) ts n b (fun 0) right_there)))),
      )
    where
      one_list : {p q : ℕ} {is js : List ℕ} → keep q js ≡ keep p is → js ≡ is
      one_list e = cc

  -- one symbol heads both
  pub equal_same : (s t : Tm) (f x y : ℕ) (ss ts : List Tm) → IsCallOf spots s f x ss → IsCallOf spots t f y ts → behind Φ s ≡ behind Φ t
      → AreAllMet v Φ (pair_parts x (length ss + x) Equal ss ts)
  equal_same s t f x y ss ts c d e = on (Φ f) refl
    where
      on : (G : Filter) → Φ f ≡ G → AreAllMet v Φ (pair_parts x (length ss + x) Equal ss ts)
      on (keep p is) k = (equal_kept s t f x f y ss ts p p is is c d k k e).1
      on (pick i) k = λ n r at set. (
          let (a, b, left_there, right_there, same) = pair_is x (length ss + x) Equal ss ts n r at in
          let one : n ≡ i = only_picked s f x ss i n c k (below_at ss n a left_there) (subst (λ (r : PartData). (v r.bit || v r.other) ≡ true) (sym same) set) in
          let l = picked_argument s f x ss i c k in
          let r' = picked_argument t f y ts i d k in
          let left_tree : l.argument ≡ a = one_tree (sym l.at ∙ subst (λ n. slice_get ss n ≡ Some a) one left_there) in
          let right_tree : r'.argument ≡ b = one_tree (sym r'.at ∙ subst (λ n. slice_get ts n ≡ Some b) one right_there) in
          subst (HoldsOf v Φ) same (ap (behind Φ) (sym left_tree) ∙ sym l.is ∙ e ∙ r'.is ∙ ap (behind Φ) right_tree))

  -- or two
  pub equal_others : (s t : Tm) (f x g y : ℕ) (ss ts : List Tm) → IsCallOf spots s f x ss → IsCallOf spots t g y ts → (f ≡ g → ⊥) → behind Φ s ≡ behind Φ t
      → IsSomeMet v Φ (left_parts (length ss + x) (length ss + x) Equal ss t) ⊎ IsSomeMet v Φ (right_parts (length ts + y) (length ts + y) Equal s ts)
  equal_others s t f x g y ss ts c d ne e = on (Φ f) (Φ g) refl refl
    where
      on : (G H : Filter) → Φ f ≡ G → Φ g ≡ H
          → IsSomeMet v Φ (left_parts (length ss + x) (length ss + x) Equal ss t) ⊎ IsSomeMet v Φ (right_parts (length ts + y) (length ts + y) Equal s ts)
      on (pick i) H k m = inl (equal_left s t f x ss i c k e)
      on (keep p is) (pick j) k m = inr (equal_right s t g y ts j d m e)
      on (keep p is) (keep q js) k m = absurd (ne (equal_kept s t f x g y ss ts p q is js c d k m e).0)
