-- Whether a meta-term clashes with a pattern, and so whether a pair may follow another, is decided.
use Rattle.std.proofs.Common.{◌≡◌, ◌≢◌, ℕ, zero, suc, ◌⊎◌, inl, inr, List, [], ◌∷◌, Option, Some, None, slice_get, refl, sym, ap, subst, ◌∙◌}
use Rattle.wh_terms.specs.Tree.{Tm, lam, app}
use Rattle.wh_terms.specs.Rules.{RewriteRule}
use Rattle.wh_system.specs.Needs.{need_of}
use Rattle.wh_pairs.specs.PairData.{PairData}
use Rattle.wh_system.proofs.TypedDecided.{Decided, below_decided, decided_by, both_decided}
use Rattle.wh_pairs.proofs.ByPlace.{some_one}
use Rattle.wh_graph.specs.Rigid.{Root, abstraction, variable, symbol, root, TooFew, IsFixed}
use Rattle.wh_graph.specs.Clash.{Clash, roots, parts, PartsClash}
use Rattle.wh_graph.specs.May.{SomeClash, May, Follows}
use Rattle.wh_graph.proofs.ClashLemmas.{parts_body, body_parts, parts_last, parts_front, spine_parts}
use Rattle.wh_pairs.proofs.Searches.{not_decided, either_decided, equal_decided}

root_decided : (r s : Root) → Decided (r ≡ s)
root_decided abstraction abstraction = inl refl
root_decided (variable i n) (variable j m) = decided_by (λ (e, f). cc (e, f)) (λ e. (cc, cc)) (both_decided (equal_decided i j) (equal_decided n m))
root_decided (symbol f n) (symbol g m) = decided_by (λ (e, h). cc (e, h)) (λ e. (cc, cc)) (both_decided (equal_decided f g) (equal_decided n m))
root_decided abstraction (variable j m) = inr (λ e. cc)
root_decided abstraction (symbol g m) = inr (λ e. cc)
root_decided (variable i n) abstraction = inr (λ e. cc)
root_decided (variable i n) (symbol g m) = inr (λ e. cc)
root_decided (symbol f n) abstraction = inr (λ e. cc)
root_decided (symbol f n) (variable j m) = inr (λ e. cc)

too_few_decided : (o : Option ℕ) (n : ℕ) → Decided (TooFew o n)
too_few_decided None n = inl tt
too_few_decided (Some need) n = below_decided n need

fixed_decided : (rules : List RewriteRule) (r : Root) → Decided (IsFixed rules r)
fixed_decided rules abstraction = inl tt
fixed_decided rules (variable i n) = inl tt
fixed_decided rules (symbol f n) = too_few_decided (need_of rules f) n

-- what a clash of two trees with these roots says
abbrev ClashesAt : List RewriteRule → Root → Root → Tm → Tm → Type 0
ClashesAt rules r s q p = IsFixed rules r × ((r ≢ s) ⊎ PartsClash rules q p)

clash_at : (rules : List RewriteRule) (q p : Tm) (r s : Root) → root q ≡ Some r → root p ≡ Some s → ClashesAt rules r s q p → Clash rules q p
clash_at rules q p r s d e (fixed, inl other) = roots (r, d, fixed) d e other
clash_at rules q p r s d e (fixed, inr (x, y, match, clash)) = elim (root_decided r s) [
  | inl same ↦ parts (r, d, fixed) d (e ∙ ap (λ z. Some z) (sym same)) match clash
  | inr other ↦ roots (r, d, fixed) d e other
]

-- the roots of two trees that clash, and what the clash says
abbrev HasRoots : List RewriteRule → Tm → Tm → Type 0
HasRoots rules q p = (r s : Root) × (root q ≡ Some r) × (root p ≡ Some s) × ClashesAt rules r s q p

clash_roots : (rules : List RewriteRule) (q p : Tm) → Clash rules q p → HasRoots rules q p
clash_roots rules q p (roots {r = r} {s = s} rigid d e other) = (r, s, d, e, (subst (IsFixed rules) (some_one rigid.1 d) rigid.2, inl other))
clash_roots rules q p (parts {x = x} {y = y} {r = r} rigid d e match clash) =
    (r, r, d, e, (subst (IsFixed rules) (some_one rigid.1 d) rigid.2, inr (x, y, match, clash)))

at_roots : (rules : List RewriteRule) (q p : Tm) (r s : Root) → root q ≡ Some r → root p ≡ Some s → Clash rules q p → ClashesAt rules r s q p
at_roots rules q p r s d e clash =
    let (r', s', d', e', at) = clash_roots rules q p clash in
    subst (λ z. ClashesAt rules r z q p) (some_one e' e) (subst (λ z. ClashesAt rules z s' q p) (some_one d' d) at)

-- a clash is decided where it is decided whether matching parts clash
clash_by_parts : (rules : List RewriteRule) (q p : Tm) → Decided (PartsClash rules q p) → Decided (Clash rules q p)
clash_by_parts rules q p inside = go (root q) refl (root p) refl
  where
    go : (o : Option Root) → root q ≡ o → (u : Option Root) → root p ≡ u → Decided (Clash rules q p)
    go None d u e = inr (λ clash. let (r, s, at, also, says) = clash_roots rules q p clash in cc (d, at))
    go (Some r) d None e = inr (λ clash. let (r', s, at, also, says) = clash_roots rules q p clash in cc (e, also))
    go (Some r) d (Some s) e =
        decided_by (clash_at rules q p r s d e) (at_roots rules q p r s d e)
        (both_decided (fixed_decided rules r) (either_decided (not_decided (root_decided r s)) inside))

no_parts : (rules : List RewriteRule) (q p : Tm) → ((x y : Tm) → Clash rules x y → ⊥) → PartsClash rules q p → ⊥
no_parts rules q p none (x, y, match, clash) = none x y clash

parts_decided : (rules : List RewriteRule) (q p : Tm) → Decided (PartsClash rules q p)
parts_decided rules (lam a t) (lam b u) =
    decided_by (parts_body rules a b t u) (body_parts rules a b t u) (clash_by_parts rules t u (parts_decided rules t u))
parts_decided rules (app t u) (app t' u') =
    decided_by (λ e. elim e [ inl before ↦ parts_front rules t t' u u' before | inr here ↦ parts_last rules t t' u u' here ]) (spine_parts rules t t' u u')
    (either_decided (parts_decided rules t t') (clash_by_parts rules u u' (parts_decided rules u u')))
parts_decided rules q p = inr (λ (x, y, match, clash). elim match [ ])

pub clash_decided : (rules : List RewriteRule) (q p : Tm) → Decided (Clash rules q p)
clash_decided rules q p = clash_by_parts rules q p (parts_decided rules q p)

-- argument by argument
some_clash_decided : (rules : List RewriteRule) (qs ps : List Tm) → Decided (SomeClash rules qs ps)
some_clash_decided rules [] ps = inr (λ (i, q, p, at, also, clash). cc)
some_clash_decided rules (q ∷ qs) [] = inr (λ (i, x, p, at, also, clash). cc)
some_clash_decided rules (q ∷ qs) (p ∷ ps) = decided_by there back (either_decided (clash_decided rules q p) (some_clash_decided rules qs ps))
  where
    there : Clash rules q p ⊎ SomeClash rules qs ps → SomeClash rules (q ∷ qs) (p ∷ ps)
    there (inl clash) = (0, q, p, refl, refl, clash)
    there (inr (i, x, y, at, also, clash)) = (suc i, x, y, at, also, clash)

    cases : (i : ℕ) (x y : Tm) → slice_get (q ∷ qs) i ≡ Some x → slice_get (p ∷ ps) i ≡ Some y → Clash rules x y → Clash rules q p ⊎ SomeClash rules qs ps
    cases zero x y at also clash = inl (subst (Clash rules q) (some_one also refl) (subst (λ z. Clash rules z y) (some_one at refl) clash))
    cases (suc i) x y at also clash = inr (i, x, y, at, also, clash)

    back : SomeClash rules (q ∷ qs) (p ∷ ps) → Clash rules q p ⊎ SomeClash rules qs ps
    back (i, x, y, at, also, clash) = cases i x y at also clash

pub may_decided : (rules : List RewriteRule) (a b : PairData) → Decided (May rules a b)
may_decided rules a b =
    decided_by (λ (heads, arguments). record { heads = heads; arguments = arguments }) (λ may. (may.heads, may.arguments))
    (both_decided (equal_decided a.right_fun b.left_fun) (not_decided (some_clash_decided rules a.right b.left)))

pub follows_decided : (rules : List RewriteRule) (ps : List PairData) (a b : ℕ) → Decided (Follows rules ps a b)
follows_decided rules ps a b = go (slice_get ps a) refl (slice_get ps b) refl
  where
    go : (o : Option PairData) → slice_get ps a ≡ o → (u : Option PairData) → slice_get ps b ≡ u → Decided (Follows rules ps a b)
    go None d u e = inr (λ (x, y, at, also, may). cc (d, at))
    go (Some x) d None e = inr (λ (z, y, at, also, may). cc (e, also))
    go (Some x) d (Some y) e =
        decided_by (λ may. (x, y, d, e, may))
        (λ (z, w, at, also, may). subst (May rules x) (some_one also e) (subst (λ v. May rules v w) (some_one at d) may))
        (may_decided rules x y)
