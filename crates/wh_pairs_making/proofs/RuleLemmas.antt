-- Candidates of several rules.
use Rattle.std.proofs.Common.{◌≡◌, ℕ, ◌+◌, ◌<◌, ◌≤◌, List, [], ◌∷◌, ◌++◌, length, map, take, drop, get_or, ◌⊎◌, inl, inr, refl, ap, ap₂, sym, subst, ◌∙◌, arith, append_assoc, append-nil}
use Rattle.std.specs.Prelude.{Contains}
use Rattle.std.proofs.lemmas.List.{map-append, take_more, take-append-drop, length-append, length-map, length-take-le}
use Rattle.std.proofs.lemmas.List.Elements.{Contains-append_cases}
use Rattle.wh_terms.specs.Typing.{Symbols}
use Rattle.wh_terms.specs.Rules.{RewriteRule}
use Rattle.wh_terms.specs.Erase.{rewrite_rule, rewrite_rules}
use Rattle.wh_terms.specs.declared.rule.Rule.{Rule}
use Rattle.wh_pairs.specs.PairData.{PairData}
use Rattle.wh_pairs.specs.Calls.{Call, calls_of}
use Rattle.wh_pairs.specs.Candidates.{candidate, candidates_from}
use Rattle.wh_pairs.specs.Subsumption.{IsDropped, for_earlier, for_later, AreLeft, none_left, one_dropped, one_kept, ArePairs}
use Rattle.wh_pairs.proofs.MemberLemmas.{none_there, at_head, behind, head_or_behind}
use Rattle.wh_pairs.proofs.SubsumptionLaws.{wider, one_list}

-- no two of them are of one rule
abbrev pub AreApart : List PairData → List PairData → Type 0
AreApart ps qs = (p q : PairData) → Contains ps p → Contains qs q → p.rule ≡ q.rule → ⊥

apart-rest : (p : PairData) (ps qs : List PairData) → AreApart (p ∷ ps) qs → AreApart ps qs
apart-rest p ps qs apart a b at there = apart a b (behind ps p a at) there

-- candidates of other rules behind drop none
narrow : (before after more : List PairData) (p : PairData) → ((q : PairData) → Contains more q → p.rule ≡ q.rule → ⊥) → IsDropped before p (after ++ more) → IsDropped before p after
narrow before after more p apart (for_earlier at s) = for_earlier at s
narrow before after more p apart (for_later {b = b} at s proper) = go (Contains-append_cases after more b at)
  where
    go : Contains after b ⊎ Contains more b → IsDropped before p after
    go (inl at) = for_later at s proper
    go (inr at) = absurd (apart b at s.sides.rule)

-- the candidates in the other order in front
abbrev onto : List PairData → List PairData → List PairData
onto [] before = before
onto (p ∷ ps) before = onto ps (p ∷ before)

left_join : (before ps pairs qs more : List PairData) → AreLeft before ps pairs → AreApart ps qs → AreLeft (onto ps before) qs more → AreLeft before (ps ++ qs) (pairs ++ more)
left_join before ps pairs qs more none_left apart l = l
left_join before ps pairs qs more (one_dropped {after = rest} {c = p} d k) apart l =
    one_dropped (wider before rest qs p d) (left_join (p ∷ before) rest pairs qs more k (apart-rest p rest qs apart) l)
left_join before ps pairs qs more (one_kept {after = rest} {pairs = kept} {c = p} n k) apart l =
    one_kept (λ d. n (narrow before rest qs p (λ q at. apart p q (at_head rest p) at) d)) (left_join (p ∷ before) rest kept qs more k (apart-rest p rest qs apart) l)

-- further candidates of other rules in front drop none
abbrev OthersIn : List PairData → List PairData → List PairData → Type 0
OthersIn wide before qs = (b : PairData) → Contains wide b → Contains before b ⊎ ((q : PairData) → Contains qs q → b.rule ≡ q.rule → ⊥)

abbrev Within : List PairData → List PairData → Type 0
Within before wide = (b : PairData) → Contains before b → Contains wide b

within-cons : (before wide : List PairData) (c : PairData) → Within before wide → Within (c ∷ before) (c ∷ wide)
within-cons before wide c h b at = go (head_or_behind before c b at)
  where
    go : (c ≡ b) ⊎ Contains before b → Contains (c ∷ wide) b
    go (inl e) = subst (λ r. Contains (c ∷ wide) r) e (at_head wide c)
    go (inr at) = behind wide c b (h b at)

others-cons : (before wide rest : List PairData) (c : PairData) → OthersIn wide before (c ∷ rest) → OthersIn (c ∷ wide) (c ∷ before) rest
others-cons before wide rest c h b at = go (head_or_behind wide c b at)
  where
    old : Contains before b ⊎ ((q : PairData) → Contains (c ∷ rest) q → b.rule ≡ q.rule → ⊥) → Contains (c ∷ before) b ⊎ ((q : PairData) → Contains rest q → b.rule ≡ q.rule → ⊥)
    old (inl at) = inl (behind before c b at)
    old (inr apart) = inr (λ q there. apart q (behind rest c q there))

    go : (c ≡ b) ⊎ Contains wide b → Contains (c ∷ before) b ⊎ ((q : PairData) → Contains rest q → b.rule ≡ q.rule → ⊥)
    go (inl e) = inl (subst (λ r. Contains (c ∷ before) r) e (at_head before c))
    go (inr at) = old (h b at)

widened : (before wide rest : List PairData) (c : PairData) → Within before wide → IsDropped before c rest → IsDropped wide c rest
widened before wide rest c h (for_earlier {b = b} at s) = for_earlier (h b at) s
widened before wide rest c h (for_later at s proper) = for_later at s proper

narrowed : (before wide rest : List PairData) (c : PairData) → OthersIn wide before (c ∷ rest) → IsDropped wide c rest → IsDropped before c rest
narrowed before wide rest c h (for_later at s proper) = for_later at s proper
narrowed before wide rest c h (for_earlier {b = b} at s) = go (h b at)
  where
    go : Contains before b ⊎ ((q : PairData) → Contains (c ∷ rest) q → b.rule ≡ q.rule → ⊥) → IsDropped before c rest
    go (inl at) = for_earlier at s
    go (inr apart) = absurd (apart c (at_head rest c) (sym s.sides.rule))

left_wide : (before wide qs pairs : List PairData) → AreLeft before qs pairs → Within before wide → OthersIn wide before qs → AreLeft wide qs pairs
left_wide before wide qs pairs none_left h o = none_left
left_wide before wide qs pairs (one_dropped {after = rest} {c = c} d l) h o =
    one_dropped (widened before wide rest c h d) (left_wide (c ∷ before) (c ∷ wide) rest pairs l (within-cons before wide c h) (others-cons before wide rest c o))
left_wide before wide qs pairs (one_kept {after = rest} {pairs = kept} {c = c} n l) h o =
    one_kept (λ d. n (narrowed before wide rest c o d)) (left_wide (c ∷ before) (c ∷ wide) rest kept l (within-cons before wide c h) (others-cons before wide rest c o))

onto-member : (ps before : List PairData) (b : PairData) → Contains (onto ps before) b → Contains ps b ⊎ Contains before b
onto-member [] before b at = inr at
onto-member (p ∷ ps) before b at = go (onto-member ps (p ∷ before) b at)
  where
    old : (p ≡ b) ⊎ Contains before b → Contains (p ∷ ps) b ⊎ Contains before b
    old (inl e) = inl (subst (λ r. Contains (p ∷ ps) r) e (at_head ps p))
    old (inr at) = inr at

    go : Contains ps b ⊎ Contains (p ∷ before) b → Contains (p ∷ ps) b ⊎ Contains before b
    go (inl at) = inl (behind ps p b at)
    go (inr at) = old (head_or_behind before p b at)

-- the pairs of candidates of different rules
pub pairs_join : (ps pairs qs more : List PairData) → ArePairs ps pairs → ArePairs qs more → AreApart ps qs → ArePairs (ps ++ qs) (pairs ++ more)
pairs_join ps pairs qs more k l apart = left_join [] ps pairs qs more k apart (left_wide [] (onto ps []) qs more l (λ b at. absurd (none_there b at)) others)
  where
    others : OthersIn (onto ps []) [] qs
    others b at = go (onto-member ps [] b at)
      where
        go : Contains ps b ⊎ Contains [] b → Contains [] b ⊎ ((q : PairData) → Contains qs q → b.rule ≡ q.rule → ⊥)
        go (inl at) = inr (λ q there. apart b q at there)
        go (inr at) = inl at

-- the pairs begin with those of the first candidates
pub record BeginsWith (before ps pairs : List PairData) : Type 0 where
  pub first : List PairData
  pub rest : List PairData
  pub is : pairs ≡ first ++ rest
  pub are_left : AreLeft before ps first

left_split : (before ps qs pairs : List PairData) → AreLeft before (ps ++ qs) pairs → AreApart ps qs → BeginsWith before ps pairs
left_split before [] qs pairs l apart = record { first = []; rest = pairs; is = refl; are_left = none_left }
left_split before (p ∷ ps) qs pairs (one_dropped d l) apart =
    let more = left_split (p ∷ before) ps qs pairs l (apart-rest p ps qs apart) in record {
      first = more.first;
      rest = more.rest;
      is = more.is;
      are_left = one_dropped (narrow before ps qs p (λ q at. apart p q (at_head ps p) at) d) more.are_left;
    }
left_split before (p ∷ ps) qs pairs (one_kept {pairs = kept} n l) apart =
    let more = left_split (p ∷ before) ps qs kept l (apart-rest p ps qs apart) in record {
      first = p ∷ more.first;
      rest = more.rest;
      is = ap (λ l. p ∷ l) more.is;
      are_left = one_kept (λ d. n (wider before ps qs p d)) more.are_left;
    }

-- there are as many pairs at least as there are of the first candidates
pub pairs_at_least : (ps qs pairs all : List PairData) → ArePairs ps pairs → ArePairs (ps ++ qs) all → AreApart ps qs → length pairs ≤ length all
pairs_at_least ps qs pairs all k l apart =
    let split = left_split [] ps qs all l apart in
    let same : split.first ≡ pairs = one_list [] ps split.first pairs split.are_left k in
    omega (arith, ap length split.is, length-append split.first split.rest, ap length same)

-- candidates of rules from one number on
candidates-append : (S : Symbols) (rules : List RewriteRule) (k : ℕ) (xs ys : List RewriteRule)
    → candidates_from S rules k (xs ++ ys) ≡ candidates_from S rules k xs ++ candidates_from S rules (k + length xs) ys
candidates-append S rules k [] ys = let e : k ≡ k + 0 = omega arith in ap (λ n. candidates_from S rules n ys) e
candidates-append S rules k (x ∷ xs) ys =
    let e : (k + 1) + length xs ≡ k + length (x ∷ xs) = omega arith in
    ap (λ l. map (candidate S k x) (calls_of rules x) ++ l) (candidates-append S rules (k + 1) xs ys ∙ ap (λ n. candidates_from S rules (k + 1) xs ++ candidates_from S rules n ys) e)
    ∙ sym (append_assoc (map (candidate S k x) (calls_of rules x)) _ _)

of-rule : (S : Symbols) (k : ℕ) (r : RewriteRule) (cs : List Call) (p : PairData) → Contains (map (candidate S k r) cs) p → p.rule ≡ k
of-rule S k r [] p at = absurd (none_there p at)
of-rule S k r (c ∷ cs) p at = go (λ h. of-rule S k r cs p h) (head_or_behind (map (candidate S k r) cs) (candidate S k r c) p at)
  where
    go : (Contains (map (candidate S k r) cs) p → p.rule ≡ k) → (candidate S k r c ≡ p) ⊎ Contains (map (candidate S k r) cs) p → p.rule ≡ k
    go further (inl e) = sym (ap (λ q. q.rule) e)
    go further (inr at) = further at

rule-bounds : (S : Symbols) (rules : List RewriteRule) (k : ℕ) (xs : List RewriteRule) (p : PairData) → Contains (candidates_from S rules k xs) p → (k ≤ p.rule) × (p.rule < k + length xs)
rule-bounds S rules k [] p at = absurd (none_there p at)
rule-bounds S rules k (x ∷ xs) p at = go (λ h. rule-bounds S rules (k + 1) xs p h) (Contains-append_cases (map (candidate S k x) (calls_of rules x)) (candidates_from S rules (k + 1) xs) p at)
  where
    go : (Contains (candidates_from S rules (k + 1) xs) p → (k + 1 ≤ p.rule) × (p.rule < k + 1 + length xs))
        → Contains (map (candidate S k x) (calls_of rules x)) p ⊎ Contains (candidates_from S rules (k + 1) xs) p → (k ≤ p.rule) × (p.rule < k + length (x ∷ xs))
    go further (inl at) = let e = of-rule S k x (calls_of rules x) p at in (omega arith, omega arith)
    go further (inr at) = let b = further at in (omega arith, omega arith)

apart-rules : (S : Symbols) (rules : List RewriteRule) (j k : ℕ) (xs ys : List RewriteRule) → k ≡ j + length xs → AreApart (candidates_from S rules j xs) (candidates_from S rules k ys)
apart-rules S rules j k xs ys is p q at there e =
    let a = rule-bounds S rules j xs p at in
    let b = rule-bounds S rules k ys q there in
    omega arith

-- the step of the loop over rules

module _ (S : Symbols) (rules : List RewriteRule) (xs : List Rule) (i : ℕ) (x : Rule) (within : i < length xs) (is : x ≡ get_or xs i x) where
  up_to : rewrite_rules (take (i + 1) xs) ≡ rewrite_rules (take i xs) ++ rewrite_rule x ∷ []
  up_to = ap rewrite_rules (take_more xs i x within) ∙ map-append rewrite_rule (take i xs) (get_or xs i x ∷ []) ∙ ap (λ y. rewrite_rules (take i xs) ++ rewrite_rule y ∷ []) (sym is)

  counted : length (rewrite_rules (take i xs)) ≡ i
  counted = length-map (take i xs) rewrite_rule ∙ length-take-le i xs (omega arith)

  next-candidates : candidates_from S rules 0 (rewrite_rules (take (i + 1) xs)) ≡ candidates_from S rules 0 (rewrite_rules (take i xs)) ++ map (candidate S i (rewrite_rule x)) (calls_of rules (rewrite_rule x))
  next-candidates =
      let e : 0 + length (rewrite_rules (take i xs)) ≡ i = omega (arith, counted) in
      ap (candidates_from S rules 0) up_to ∙ candidates-append S rules 0 (rewrite_rules (take i xs)) (rewrite_rule x ∷ [])
      ∙ ap₂ (λ n l. candidates_from S rules 0 (rewrite_rules (take i xs)) ++ l) e (append-nil _ ∙ ap (λ n. map (candidate S n (rewrite_rule x)) (calls_of rules (rewrite_rule x))) e)

  apart-next : AreApart (candidates_from S rules 0 (rewrite_rules (take i xs))) (map (candidate S i (rewrite_rule x)) (calls_of rules (rewrite_rule x)))
  apart-next p q at there e =
      let a = rule-bounds S rules 0 (rewrite_rules (take i xs)) p at in
      let b = of-rule S i (rewrite_rule x) (calls_of rules (rewrite_rule x)) q there in
      omega (arith, counted)

  pub rule_next : (pairs found : List PairData) → ArePairs (candidates_from S rules 0 (rewrite_rules (take i xs))) pairs
      → ArePairs (map (candidate S i (rewrite_rule x)) (calls_of rules (rewrite_rule x))) found → ArePairs (candidates_from S rules 0 (rewrite_rules (take (i + 1) xs))) (pairs ++ found)
  rule_next pairs found k l = subst (λ cs. ArePairs cs (pairs ++ found)) (sym next-candidates) (pairs_join _ pairs _ found k l apart-next)

  pub too_many : (pairs found all : List PairData) → ArePairs (candidates_from S rules 0 (rewrite_rules (take i xs))) pairs
      → ArePairs (map (candidate S i (rewrite_rule x)) (calls_of rules (rewrite_rule x))) found → ArePairs (candidates_from S rules 0 (rewrite_rules xs)) all → length pairs + length found ≤ length all
  too_many pairs found all k l m =
      let front : List RewriteRule = rewrite_rules (take (i + 1) xs) in
      let back : List RewriteRule = rewrite_rules (drop (i + 1) xs) in
      let whole : candidates_from S rules 0 (rewrite_rules xs) ≡ candidates_from S rules 0 front ++ candidates_from S rules (0 + length front) back =
      ap (λ l. candidates_from S rules 0 (rewrite_rules l)) (sym (take-append-drop (i + 1) xs)) ∙ ap (candidates_from S rules 0) (map-append rewrite_rule (take (i + 1) xs) (drop (i + 1) xs)) ∙ candidates-append S rules 0 front back in
      omega (arith, pairs_at_least (candidates_from S rules 0 front) (candidates_from S rules (0 + length front) back) (pairs ++ found) all (rule_next pairs found k l) (subst (λ cs. ArePairs cs all) whole m) (apart-rules S rules 0 (0 + length front) front back refl), length-append pairs found)
