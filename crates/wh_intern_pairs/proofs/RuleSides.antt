-- Pairs of one rule have one left side.
use Rattle.std.proofs.Common.{ℕ, suc, ◌≡◌, ◌+◌, List, [], ◌∷◌, map, Some, slice_get, Contains, ◌⊎◌, inl, inr, refl, sym, ap, ◌∙◌, arith}
use Rattle.std.proofs.lemmas.List.Elements.{Contains-append_cases}
use Rattle.wh_terms.specs.Typing.{Symbols}
use Rattle.wh_terms.specs.Rules.{RewriteRule}
use Rattle.wh_system.specs.Systems.{SystemData}
use Rattle.wh_pairs.specs.PairData.{PairData}
use Rattle.wh_pairs.specs.Spines.{spine_arguments}
use Rattle.wh_pairs.specs.Calls.{Call, calls_of}
use Rattle.wh_pairs.specs.Candidates.{candidate, candidates_from, candidates}
use Rattle.wh_pairs.specs.SystemPairs.{HasPairs}
use Rattle.wh_pairs.proofs.ByPlace.{some_one}
use Rattle.wh_pairs.proofs.MemberLemmas.{none_there, head_or_behind}
use Rattle.wh_pairs.proofs.SubsumptionLaws.{left-member}

-- the pair has the left side of the rule at a place behind the number k, which is its rule
abbrev HasLeftOf : ℕ → List RewriteRule → PairData → Type 0
HasLeftOf k rest p = (j : ℕ) × (r : RewriteRule) × (slice_get rest j ≡ Some r) × (p.rule ≡ k + j) × (p.left ≡ spine_arguments r.left)

one_candidate : (S : Symbols) (k : ℕ) (r : RewriteRule) (cs : List Call) (p : PairData) → Contains (map (candidate S k r) cs) p
    → (p.rule ≡ k) × (p.left ≡ spine_arguments r.left)
one_candidate S k r [] p at = absurd (none_there p at)
one_candidate S k r (c ∷ cs) p at =
    go (one_candidate S k r cs p) (head_or_behind (map (candidate S k r) cs) (candidate S k r c) p at)
  where
    go : (Contains (map (candidate S k r) cs) p → (p.rule ≡ k) × (p.left ≡ spine_arguments r.left))
        → (candidate S k r c ≡ p) ⊎ Contains (map (candidate S k r) cs) p → (p.rule ≡ k) × (p.left ≡ spine_arguments r.left)
    go later (inl e) = (sym (ap (λ (q : PairData). q.rule) e), sym (ap (λ (q : PairData). q.left) e))
    go later (inr there) = later there

left_of_rule : (S : Symbols) (rules : List RewriteRule) (k : ℕ) (rest : List RewriteRule) (p : PairData)
    → Contains (candidates_from S rules k rest) p → HasLeftOf k rest p
left_of_rule S rules k [] p at = absurd (none_there p at)
left_of_rule S rules k (r ∷ rest) p at =
    go (left_of_rule S rules (k + 1) rest p)
    (Contains-append_cases (map (candidate S k r) (calls_of rules r)) (candidates_from S rules (k + 1) rest) p at)
  where
    go : (Contains (candidates_from S rules (k + 1) rest) p → HasLeftOf (k + 1) rest p)
        → Contains (map (candidate S k r) (calls_of rules r)) p ⊎ Contains (candidates_from S rules (k + 1) rest) p → HasLeftOf k (r ∷ rest) p
    go later (inl here) = let (rule, left) = one_candidate S k r (calls_of rules r) p here in (0, r, refl, omega (arith, rule), left)
    go later (inr there) = let (j, s, e, rule, left) = later there in (suc j, s, e, omega (arith, rule), left)

pub one_left : (d : SystemData) (ps : List PairData) (p q : PairData) → HasPairs d ps → Contains ps p → Contains ps q → p.rule ≡ q.rule
    → p.left ≡ q.left
one_left d ps p q has at also same =
    let all = candidates d.symbols d.rules in
    let (i, r, e, rule, left) = left_of_rule d.symbols d.rules 0 d.rules p (left-member [] all ps p has.are at) in
    let (j, s, f, rule', left') = left_of_rule d.symbols d.rules 0 d.rules q (left-member [] all ps q has.are also) in
    let one : i ≡ j = omega (arith, rule, rule', same) in
    left ∙ ap (λ (t : RewriteRule). spine_arguments t.left) (some_one (sym (ap (slice_get d.rules) one) ∙ e) f) ∙ sym left'
