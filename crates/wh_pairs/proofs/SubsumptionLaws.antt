-- Laws of subsumption, and of the candidates that are left.
use Rattle.std.proofs.Common.{◌≡◌, List, [], ◌∷◌, ◌++◌, ◌⊎◌, inl, inr, refl, ap, sym, subst, ◌∙◌}
use Rattle.std.specs.Prelude.{Contains}
use Rattle.std.proofs.lemmas.List.Elements.{Contains-append_cases, Contains-append_left, Contains-append_right}
use Rattle.wh_terms.specs.Tree.{tms_of}
use Rattle.wh_terms.specs.Sight.{OccursIn}
use Rattle.wh_pairs.specs.PairData.{PairData}
use Rattle.wh_pairs.specs.Conditions.{AreAmong}
use Rattle.wh_pairs.specs.Subsumption.{EqualSides, IsSubsumed, IsDropped, for_earlier, for_later, AreLeft, none_left, one_dropped, one_kept}
use Rattle.wh_pairs.specs.Survivors.{Survive}
use Rattle.wh_pairs.proofs.MemberLemmas.{none_there, at_head, behind, head_or_behind}

-- there is one list at most
pub one_list : (before after p q : List PairData) → AreLeft before after p → AreLeft before after q → p ≡ q
one_list before after p q none_left none_left = refl
one_list before after p q (one_dropped d l) (one_dropped e m) = one_list _ _ _ _ l m
one_list before after p q (one_dropped d l) (one_kept e m) = absurd (e d)
one_list before after p q (one_kept d l) (one_dropped e m) = absurd (d e)
one_list before after p q (one_kept {c = c} d l) (one_kept e m) = ap (λ ps. c ∷ ps) (one_list _ _ _ _ l m)

-- subsumption is a preorder
sides_sym : (a b : PairData) → EqualSides a b → EqualSides b a
sides_sym a b s = record {
  rule = sym s.rule;
  symbol = sym s.symbol;
  arguments = sym s.arguments;
  types = λ z o. sym (s.types z (subst (λ ts. OccursIn z (tms_of ts)) (sym s.arguments) o));
}

pub subsumed_self : (a : PairData) → IsSubsumed a a
subsumed_self a = record { sides = record { rule = refl; symbol = refl; arguments = refl; types = λ z o. refl }; conditions = λ c at. at }

pub subsumed_trans : (a b c : PairData) → IsSubsumed a b → IsSubsumed b c → IsSubsumed a c
subsumed_trans a b c s t = record {
  sides = record {
    rule = s.sides.rule ∙ t.sides.rule;
    symbol = s.sides.symbol ∙ t.sides.symbol;
    arguments = s.sides.arguments ∙ t.sides.arguments;
    types = λ z o. s.sides.types z o ∙ t.sides.types z (subst (λ ts. OccursIn z (tms_of ts)) s.sides.arguments o);
  };
  conditions = λ d at. s.conditions d (t.conditions d at);
}

subsumes_back : (a b : PairData) → IsSubsumed a b → AreAmong a.conditions b.conditions → IsSubsumed b a
subsumes_back a b s few = record { sides = sides_sym a b s.sides; conditions = few }

-- more candidates behind
pub wider : (before after more : List PairData) (c : PairData) → IsDropped before c after → IsDropped before c (after ++ more)
wider before after more c (for_earlier at s) = for_earlier at s
wider before after more c (for_later {b = b} at s proper) = for_later (Contains-append_left after more b at) s proper

-- a candidate that one before it subsumes is dropped, and drops none
abbrev Among : List PairData → List PairData → PairData → Type 0
Among before after s = Contains before s ⊎ Contains after s

next-among : (before after : List PairData) (p s : PairData) → Among before (p ∷ after) s → Among (p ∷ before) after s
next-among before after p s (inl at) = inl (behind before p s at)
next-among before after p s (inr at) = go (head_or_behind after p s at)
  where
    go : (p ≡ s) ⊎ Contains after s → Among (p ∷ before) after s
    go (inl e) = inl (subst (λ t. Contains (p ∷ before) t) e (at_head before p))
    go (inr at) = inr at

before-among : (before after : List PairData) (p s : PairData) → Among (p ∷ before) after s → Among before (p ∷ after) s
before-among before after p s (inr at) = inr (behind after p s at)
before-among before after p s (inl at) = go (head_or_behind before p s at)
  where
    go : (p ≡ s) ⊎ Contains before s → Among before (p ∷ after) s
    go (inl e) = inr (subst (λ t. Contains (p ∷ after) t) e (at_head after p))
    go (inr at) = inl at

still-kept : (before after : List PairData) (p c s : PairData) → (IsDropped before p after → ⊥) → Among before (p ∷ after) s → IsSubsumed c s → IsDropped before p (after ++ c ∷ []) → ⊥
still-kept before after p c s kept among t (for_earlier at u) = kept (for_earlier at u)
still-kept before after p c s kept among t (for_later {b = b} at u proper) = go (Contains-append_cases after (c ∷ []) b at)
  where
    by_s : IsSubsumed p c → (AreAmong p.conditions c.conditions → ⊥) → Among before (p ∷ after) s → ⊥
    by_s v past (inl at) = kept (for_earlier at (subsumed_trans p c s v t))
    by_s v past (inr at) = here (head_or_behind after p s at)
      where
        here : (p ≡ s) ⊎ Contains after s → ⊥
        here (inl e) = past (λ d h. t.conditions d (subst (λ r. Contains r.conditions d) e h))
        here (inr at) = kept (for_later at (subsumed_trans p c s v t) (λ few. past (λ d h. t.conditions d (few d h))))

    by_c : (c ≡ b) ⊎ Contains [] b → ⊥
    by_c (inl e) = by_s (subst (λ r. IsSubsumed p r) (sym e) u) (subst (λ r. AreAmong p.conditions r.conditions → ⊥) (sym e) proper) among
    by_c (inr at) = none_there b at

    go : Contains after b ⊎ Contains (c ∷ []) b → ⊥
    go (inl at) = kept (for_later at u proper)
    go (inr at) = by_c (head_or_behind [] c b at)

left_dropped : (before after pairs : List PairData) (c s : PairData) → AreLeft before after pairs → Among before after s → IsSubsumed c s → AreLeft before (after ++ c ∷ []) pairs
left_dropped before after pairs c s none_left (inl at) t = one_dropped (for_earlier at t) none_left
left_dropped before after pairs c s none_left (inr at) t = absurd (none_there s at)
left_dropped before after pairs c s (one_dropped {after = rest} {c = p} d l) among t =
    one_dropped (wider before rest (c ∷ []) p d) (left_dropped (p ∷ before) rest pairs c s l (next-among before rest p s among) t)
left_dropped before after pairs c s (one_kept {after = rest} {pairs = ps} {c = p} n l) among t =
    one_kept (still-kept before rest p c s n among t) (left_dropped (p ∷ before) rest ps c s l (next-among before rest p s among) t)

-- a list without those that c subsumes
pub data Thinned (c : PairData) : List PairData → List PairData → Type 0 where
  thin_none : Thinned c [] []
  thin_out : {ps qs : List PairData} {p : PairData} → IsSubsumed p c → Thinned c ps qs → Thinned c (p ∷ ps) qs
  thin_keep : {ps qs : List PairData} {p : PairData} → (IsSubsumed p c → ⊥) → Thinned c ps qs → Thinned c (p ∷ ps) (p ∷ qs)

-- a candidate that none before it subsumes is kept, and drops those that it subsumes
kept-by-none : (before : List PairData) (c : PairData) → ((s : PairData) → Among before [] s → IsSubsumed c s → ⊥) → IsDropped before c [] → ⊥
kept-by-none before c none (for_earlier {b = b} at s) = none b (inl at) s
kept-by-none before c none (for_later {b = b} at s proper) = none_there b at

kept-beside : (before after : List PairData) (p c : PairData) → (IsDropped before p after → ⊥) → (IsSubsumed p c → ⊥) → IsDropped before p (after ++ c ∷ []) → ⊥
kept-beside before after p c kept apart (for_earlier at u) = kept (for_earlier at u)
kept-beside before after p c kept apart (for_later {b = b} at u proper) = go (Contains-append_cases after (c ∷ []) b at)
  where
    by_c : (c ≡ b) ⊎ Contains [] b → ⊥
    by_c (inl e) = apart (subst (λ r. IsSubsumed p r) (sym e) u)
    by_c (inr at) = none_there b at

    go : Contains after b ⊎ Contains (c ∷ []) b → ⊥
    go (inl at) = kept (for_later at u proper)
    go (inr at) = by_c (head_or_behind [] c b at)

left_kept : (before after pairs thin : List PairData) (c : PairData) → AreLeft before after pairs → Thinned c pairs thin → ((s : PairData) → Among before after s → IsSubsumed c s → ⊥)
    → AreLeft before (after ++ c ∷ []) (thin ++ c ∷ [])
left_kept before after pairs thin c none_left thin_none none = one_kept (kept-by-none before c none) none_left
left_kept before after pairs thin c (one_dropped {after = rest} {c = p} d l) t none =
    one_dropped (wider before rest (c ∷ []) p d) (left_kept (p ∷ before) rest pairs thin c l t (λ s among. none s (before-among before rest p s among)))
left_kept before after pairs thin c (one_kept {after = rest} {pairs = ps} {c = p} n l) (thin_out s t) none =
    one_dropped
    (for_later (Contains-append_right rest (c ∷ []) c (at_head [] c)) s (λ few. none p (inr (at_head rest p)) (subsumes_back p c s few)))
    (left_kept (p ∷ before) rest ps thin c l t (λ s among. none s (before-among before rest p s among)))
left_kept before after pairs thin c (one_kept {after = rest} {pairs = ps} {c = p} n l) (thin_keep {qs = qs} apart t) none =
    one_kept (kept-beside before rest p c n apart) (left_kept (p ∷ before) rest ps qs c l t (λ s among. none s (before-among before rest p s among)))

-- the pairs are among the candidates
pub left-member : (before after pairs : List PairData) (p : PairData) → AreLeft before after pairs → Contains pairs p → Contains after p
left-member before after pairs p none_left at = absurd (none_there p at)
left-member before after pairs p (one_dropped {after = rest} {c = q} d l) at = behind rest q p (left-member (q ∷ before) rest pairs p l at)
left-member before after pairs p (one_kept {after = rest} {pairs = ps} {c = q} n l) at = go (λ h. left-member (q ∷ before) rest ps p l h) (head_or_behind ps q p at)
  where
    go : (Contains ps p → Contains rest p) → (q ≡ p) ⊎ Contains ps p → Contains (q ∷ rest) p
    go further (inl e) = subst (λ r. Contains (q ∷ rest) r) e (at_head rest q)
    go further (inr at) = behind rest q p (further at)

thinned-member : (c p : PairData) (ps qs : List PairData) → Thinned c ps qs → Contains ps p → Contains qs p ⊎ IsSubsumed p c
thinned-member c p ps qs thin_none at = absurd (none_there p at)
thinned-member c p ps qs (thin_out {ps = rest} {p = q} s t) at = go (λ h. thinned-member c p rest qs t h) (head_or_behind rest q p at)
  where
    go : (Contains rest p → Contains qs p ⊎ IsSubsumed p c) → (q ≡ p) ⊎ Contains rest p → Contains qs p ⊎ IsSubsumed p c
    go further (inl e) = inr (subst (λ r. IsSubsumed r c) e s)
    go further (inr at) = further at
thinned-member c p ps qs (thin_keep {ps = rest} {qs = us} {p = q} n t) at = go (λ h. thinned-member c p rest us t h) (head_or_behind rest q p at)
  where
    more : Contains us p ⊎ IsSubsumed p c → Contains (q ∷ us) p ⊎ IsSubsumed p c
    more (inl at) = inl (behind us q p at)
    more (inr s) = inr s

    go : (Contains rest p → Contains us p ⊎ IsSubsumed p c) → (q ≡ p) ⊎ Contains rest p → Contains (q ∷ us) p ⊎ IsSubsumed p c
    go further (inl e) = inl (subst (λ r. Contains (q ∷ us) r) e (at_head us q))
    go further (inr at) = more (further at)

-- the step of the loop over candidates

pub survive_dropped : (earlier kept : List PairData) (c k : PairData) → Survive earlier kept → Contains kept k → IsSubsumed c k → Survive (earlier ++ c ∷ []) kept
survive_dropped earlier kept c k s at t = record {
  pairs_left = left_dropped [] earlier kept c k s.pairs_left (inr (left-member [] earlier kept k s.pairs_left at)) t;
  covered = λ d there. go d (Contains-append_cases earlier (c ∷ []) d there);
}
  where
    last : (d : PairData) → (c ≡ d) ⊎ Contains [] d → (p : PairData) × Contains kept p × IsSubsumed d p
    last d (inl e) = (k, at, subst (λ r. IsSubsumed r k) e t)
    last d (inr at) = absurd (none_there d at)

    go : (d : PairData) → Contains earlier d ⊎ Contains (c ∷ []) d → (p : PairData) × Contains kept p × IsSubsumed d p
    go d (inl there) = s.covered d there
    go d (inr there) = last d (head_or_behind [] c d there)

pub survive_kept : (earlier kept thin : List PairData) (c : PairData) → Survive earlier kept → Thinned c kept thin → ((k : PairData) → Contains kept k → IsSubsumed c k → ⊥)
    → Survive (earlier ++ c ∷ []) (thin ++ c ∷ [])
survive_kept earlier kept thin c s t none = record {
  pairs_left = left_kept [] earlier kept thin c s.pairs_left t no_earlier;
  covered = λ d there. go d (Contains-append_cases earlier (c ∷ []) d there);
}
  where
    no_earlier : (d : PairData) → Among [] earlier d → IsSubsumed c d → ⊥
    no_earlier d (inl at) u = none_there d at
    no_earlier d (inr at) u = let k = s.covered d at in none k.0 k.1 (subsumed_trans c d k.0 u k.2)

    c_there : Contains (thin ++ c ∷ []) c
    c_there = Contains-append_right thin (c ∷ []) c (at_head [] c)

    last : (d : PairData) → (c ≡ d) ⊎ Contains [] d → (p : PairData) × Contains (thin ++ c ∷ []) p × IsSubsumed d p
    last d (inl e) = (c, c_there, subst (λ r. IsSubsumed r c) e (subsumed_self c))
    last d (inr at) = absurd (none_there d at)

    old : (d k : PairData) → IsSubsumed d k → Contains thin k ⊎ IsSubsumed k c → (p : PairData) × Contains (thin ++ c ∷ []) p × IsSubsumed d p
    old d k u (inl at) = (k, Contains-append_left thin (c ∷ []) k at, u)
    old d k u (inr v) = (c, c_there, subsumed_trans d k c u v)

    go : (d : PairData) → Contains earlier d ⊎ Contains (c ∷ []) d → (p : PairData) × Contains (thin ++ c ∷ []) p × IsSubsumed d p
    go d (inl there) = let k = s.covered d there in old d k.0 k.2 (thinned-member c k.0 kept thin t k.1)
    go d (inr there) = last d (head_or_behind [] c d there)

pub survive_none : Survive [] []
survive_none = record { pairs_left = none_left; covered = λ d at. absurd (none_there d at) }
