-- One number for each symbol is enough to test rules to be even, and it is what the symbol's rules need.
use Rattle.std.proofs.Common.{◌≡◌, ℕ, ◌<◌, List, [], ◌∷◌, ◌++◌, length, get_or, Option, Some, None, Bool, true, false, not, refl, ap, ap₂, sym, ◌∙◌, subst, eqb-true}
use Rattle.std.specs.Prelude.{◌==◌, ◌&&◌, ◌||◌, slice_set}
use Rattle.std.proofs.lemmas.Bool.{eqb-false}
use Rattle.std.proofs.Math.ListN.{length-set}
use Rattle.std.proofs.lemmas.List.{get_or-set_same, get_or-set_other}
use Rattle.wh_terms.specs.Tree.{fun, head, argument_count}
use Rattle.wh_terms.specs.Rules.{RewriteRule}
use Rattle.wh_system_parts.specs.RuleTests.{is_uneven}
use Rattle.wh_system.specs.Needs.{is_symbol, first_need, need_of}
use Rattle.wh_system_making.specs.RulePasses.{differs}

or-false : (b : Bool) → (b || false) ≡ b
or-false true = refl
or-false false = refl

or-self : (b : Bool) → (b || b) ≡ b
or-self true = refl
or-self false = refl

not-false : (b : Bool) → not b ≡ false → b ≡ true
not-false true e = refl
not-false false e = absurd (cc)

-- the numbers needed so far tell which rules are uneven
abbrev pub TellUneven : List (Option ℕ × ℕ) → List (Option ℕ) → Type 0
TellUneven earlier needs = (f n : ℕ) → f < length needs → is_uneven (Some f) n earlier ≡ differs n (get_or needs f None)

met-again : (n m : ℕ) (o : Option ℕ) → differs m o ≡ false → (not (n == m) || differs n o) ≡ not (n == m)
met-again n m None e = or-false (not (n == m))
met-again n m (Some k) e = ap (λ j. not (n == m) || not (n == j)) (sym (eqb-true m k (not-false (m == k) e))) ∙ or-self (not (n == m))

pub tell_next : (earlier : List (Option ℕ × ℕ)) (needs : List (Option ℕ)) (g m : ℕ) → g < length needs → TellUneven earlier needs → differs m (get_or needs g None) ≡ false
    → TellUneven ((Some g, m) ∷ earlier) (slice_set needs g (Some m))
tell_next earlier needs g m within tell meets f n inside = go (f == g) refl
  where
    go : (b : Bool) → (f == g) ≡ b → ((b && not (n == m)) || is_uneven (Some f) n earlier) ≡ differs n (get_or (slice_set needs g (Some m)) f None)
    go true e =
        let same : f ≡ g = eqb-true f g e in
        ap (λ b. not (n == m) || b) (tell f n (subst (λ k. k < length needs) (sym same) within) ∙ ap (λ k. differs n (get_or needs k None)) same) ∙ met-again n m (get_or needs g None) meets
        ∙ sym (ap (differs n) (ap (λ k. get_or (slice_set needs g (Some m)) k None) same ∙ get_or-set_same needs g (Some m) None within))
    go false e =
        tell f n (subst (λ k. f < k) (length-set needs g (Some m)) inside) ∙ sym (ap (differs n) (get_or-set_other needs g f (Some m) None (eqb-false f g e)))

-- what each symbol needs, after one rule more
abbrev or_first : Option ℕ → Option ℕ → Option ℕ
or_first (Some n) rest = Some n
or_first None rest = rest

first-or : (b : Bool) (n : ℕ) (a c : Option ℕ) → first_need b n (or_first a c) ≡ or_first (first_need b n a) c
first-or true n a c = refl
first-or false n a c = refl

need-push : (rules : List RewriteRule) (r : RewriteRule) (f : ℕ) → need_of (rules ++ r ∷ []) f ≡ or_first (need_of rules f) (first_need (is_symbol f (head r.left)) (argument_count r.left) None)
need-push [] r f = refl
need-push (u ∷ rules) r f =
    ap (first_need (is_symbol f (head u.left)) (argument_count u.left)) (need-push rules r f)
    ∙ first-or (is_symbol f (head u.left)) (argument_count u.left) (need_of rules f) (first_need (is_symbol f (head r.left)) (argument_count r.left) None)

abbrev pub AreNeeds : List (Option ℕ) → List RewriteRule → Type 0
AreNeeds needs rules = (f : ℕ) → f < length needs → get_or needs f None ≡ need_of rules f

meets-first : (m : ℕ) (o : Option ℕ) → differs m o ≡ false → Some m ≡ or_first o (Some m)
meets-first m None e = refl
meets-first m (Some k) e = ap (λ j. Some j) (eqb-true m k (not-false (m == k) e))

first-none : (o : Option ℕ) → o ≡ or_first o None
first-none None = refl
first-none (Some n) = refl

pub needs_next : (needs : List (Option ℕ)) (rules : List RewriteRule) (r : RewriteRule) (g m : ℕ) → g < length needs → AreNeeds needs rules → head r.left ≡ fun g → argument_count r.left ≡ m
    → differs m (get_or needs g None) ≡ false → AreNeeds (slice_set needs g (Some m)) (rules ++ r ∷ [])
needs_next needs rules r g m within so_far headed counted meets f inside = go (f == g) refl
  where
    last : need_of (rules ++ r ∷ []) f ≡ or_first (need_of rules f) (first_need (f == g) m None)
    last = need-push rules r f ∙ ap₂ (λ h k. or_first (need_of rules f) (first_need (is_symbol f h) k None)) headed counted

    go : (b : Bool) → (f == g) ≡ b → get_or (slice_set needs g (Some m)) f None ≡ need_of (rules ++ r ∷ []) f
    go true e =
        let same : f ≡ g = eqb-true f g e in
        ap (λ k. get_or (slice_set needs g (Some m)) k None) same ∙ get_or-set_same needs g (Some m) None within ∙ meets-first m (get_or needs g None) meets
        ∙ ap (λ o. or_first o (Some m)) (so_far g within ∙ ap (need_of rules) (sym same)) ∙ sym (last ∙ ap (λ b. or_first (need_of rules f) (first_need b m None)) e)
    go false e =
        get_or-set_other needs g f (Some m) None (eqb-false f g e) ∙ so_far f (subst (λ k. f < k) (length-set needs g (Some m)) inside) ∙ first-none (need_of rules f)
        ∙ sym (last ∙ ap (λ b. or_first (need_of rules f) (first_need b m None)) e)
