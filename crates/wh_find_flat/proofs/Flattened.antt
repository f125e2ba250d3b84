-- The sides of a flat set are plain.
use Rattle.std.proofs.Common.{◌≡◌, ◌⊎◌, inl, inr, ℕ, ◌+◌, ◌<◌, ◌||◌, Bool, true, false, List, [], ◌∷◌, length, refl, arith, tests}
use Rattle.std.proofs.lemmas.Option.{slice_get_within}
use Rattle.wh_types.specs.Ty.{sort}
use Rattle.wh_terms.specs.Tree.{Tm, bound, free, fun, meta, lam, app, none, more, spine}
use Rattle.wh_terms.specs.Typing.{Symbols, Declared}
use Rattle.wh_terms.specs.Rules.{RewriteRule}
use Rattle.wh_pairs.specs.PairData.{PairData}
use Rattle.wh_usable_first_order.specs.FirstOrder.{IsFlatTree, AreFlatTrees}
use Rattle.wh_poly_flat.specs.Flat.{IsFlatRule, IsFlatPair}
use Rattle.wh_poly_flat.proofs.Sides.{spine_occurrences}
use Rattle.wh_poly_flat.specs.Dominance.{place_among}
use Rattle.wh_find_flat.specs.Plain.{IsPlain, stands_in}
use Rattle.wh_find_flat.specs.Ready.{IsReadyRule, IsReadyPair}

one_of : (a b : Bool) → a || b ≡ true → (a ≡ true) ⊎ (b ≡ true)
one_of true b e = inl refl
one_of false b e = inr e

module _ (S : Symbols) (M : List Declared) where
  plain_tree : (t : Tm) → IsFlatTree S M t → IsPlain t
  plain_tree (bound i) f = absurd f
  plain_tree (free x a) f = absurd f
  plain_tree (fun g) f = tt
  plain_tree (meta z none) f = tt
  plain_tree (meta z (more t ts)) f = absurd f
  plain_tree (lam a t) f = absurd f
  plain_tree (app t u) f = (plain_tree t f.0, plain_tree u f.1)

  tree_bounded : (z : ℕ) (t : Tm) → IsFlatTree S M t → stands_in z t ≡ true → z < length M
  tree_bounded z (bound i) f e = absurd f
  tree_bounded z (free x a) f e = absurd f
  tree_bounded z (fun g) f e = absurd (grind (arith, e))
  tree_bounded z (meta y none) (s, at) e =
      let same : y ≡ z = grind (arith, tests, e) in
      let w = slice_get_within M y (record { args = []; out = sort s }) at in omega (arith, w, same)
  tree_bounded z (meta y (more t ts)) f e = absurd f
  tree_bounded z (lam a t) f e = absurd f
  tree_bounded z (app t u) f e = elim (one_of (stands_in z t) (stands_in z u) e) [
    | inl l ↦ tree_bounded z t f.0 l
    | inr r ↦ tree_bounded z u f.1 r
  ]

  plain_spine : (h : Tm) (ts : List Tm) → IsPlain h → AreFlatTrees S M ts → IsPlain (spine h ts)
  plain_spine h [] p f = p
  plain_spine h (t ∷ ts) p f = plain_spine (app h t) ts (p, plain_tree t f.0) f.1

  spine_bounded : (z : ℕ) (h : Tm) (ts : List Tm) → (stands_in z h ≡ true → z < length M) → AreFlatTrees S M ts
      → stands_in z (spine h ts) ≡ true → z < length M
  spine_bounded z h [] p f e = p e
  spine_bounded z h (t ∷ ts) p f e = spine_bounded z (app h t) ts
      (λ q. elim (one_of (stands_in z h) (stands_in z t) q) [ inl l ↦ p l | inr r ↦ tree_bounded z t f.0 r ]) f.1 e

pub ready_rule : (S : Symbols) (r : RewriteRule) → IsFlatRule S r → IsReadyRule r
ready_rule S r f = record {
  plain = record {
    left_plain = plain_tree S r.metas r.left f.left;
    right_plain = plain_tree S r.metas r.right f.right;
    left_few = f.left_few;
    right_few = f.right_few;
  };
  bounded = λ z e. tree_bounded S r.metas z r.right f.right e;
}

pub ready_pair : (S : Symbols) (first : ℕ) (marked : List ℕ) (p : PairData) → IsFlatPair S p → IsReadyPair first marked p
ready_pair S first marked p f =
    let left = fun (first + place_among marked p.left_fun) in
    let right = fun (first + place_among marked p.right_fun) in
    let a = spine_occurrences left p.left in
    let b = spine_occurrences right p.right in
    record {
      plain = record {
        left_plain = plain_spine S p.metas left p.left tt f.left;
        right_plain = plain_spine S p.metas right p.right tt f.right;
        left_few = omega (arith, a, f.left_few);
        right_few = omega (arith, b, f.right_few);
      };
      bounded = λ z e. spine_bounded S p.metas z right p.right (λ q. absurd (grind (arith, q))) f.right e;
    }
