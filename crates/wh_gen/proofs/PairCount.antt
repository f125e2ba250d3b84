-- A generated system has few pairs: at most four for each of its functions.
use Rattle.std.proofs.Common.{◌≡◌, ℕ, zero, suc, ◌+◌, ◌*◌, ◌≤◌, List, [], ◌∷◌, length, map, Option, Some, None, lit≤, arith, length-append}
use Rattle.std.specs.List.{flat_map, range_with_len}
use Rattle.std.proofs.lemmas.List.{length-map}
use Rattle.wh_types.specs.Ty.{Ty}
use Rattle.wh_terms.specs.Tree.{Tm, bound, free, fun, meta, lam, app, Tms, none, more}
use Rattle.wh_terms.specs.Typing.{Symbols}
use Rattle.wh_terms.specs.Rules.{RewriteRule}
use Rattle.wh_pairs.specs.PairData.{PairData, Within}
use Rattle.wh_system.specs.Needs.{need_of}
use Rattle.wh_pairs.specs.Conditions.{with_condition}
use Rattle.wh_pairs.specs.Calls.{call_where_defined, calls, calls_within, calls_of}
use Rattle.wh_pairs.specs.Candidates.{candidate, candidates_from}
use Rattle.wh_pairs.specs.Subsumption.{AreLeft, none_left, one_dropped, one_kept}
use Rattle.wh_pairs.specs.SystemPairs.{HasTooManyPairs}
use Rattle.wh_gen.specs.Family.{second_right, first_rule, second_rule, rules_of, gen_data}
use Rattle.wh_gen.proofs.RangeLists.{length-pairs}

-- calls

-- how many symbols stand in a tree
abbrev mutual
  symbol_count : Tm → ℕ
  symbol_count (fun f) = 1
  symbol_count (meta z ts) = symbol_counts ts
  symbol_count (lam a t) = symbol_count t
  symbol_count (app t u) = symbol_count t + symbol_count u
  symbol_count _ = 0

  symbol_counts : Tms → ℕ
  symbol_counts none = 0
  symbol_counts (more t ts) = symbol_count t + symbol_counts ts

length-where_defined : (need : Option ℕ) (cs : List Within) (Γ : List Ty) (f : ℕ) (qs : List Tm) → length (call_where_defined need cs Γ f qs) ≤ 1
length-where_defined None cs Γ f qs = lit≤ tt
length-where_defined (Some e) cs Γ f qs = lit≤ tt

-- a tree has at most one call for each symbol in it
mutual
  length-calls : (rules : List RewriteRule) (cs : List Within) (Γ : List Ty) (t : Tm) (qs : List Tm) → length (calls rules cs Γ t qs) ≤ symbol_count t
  length-calls rules cs Γ (bound i) qs = lit≤ tt
  length-calls rules cs Γ (free x a) qs = lit≤ tt
  length-calls rules cs Γ (fun f) qs = length-where_defined (need_of rules f) cs Γ f qs
  length-calls rules cs Γ (meta z ts) qs = length-within rules cs Γ z 1 ts
  length-calls rules cs Γ (lam a t) qs = length-calls rules cs (a ∷ Γ) t []
  length-calls rules cs Γ (app t u) qs =
      let both = length-append (calls rules cs Γ t (u ∷ qs)) (calls rules cs Γ u []) in
      omega (arith, both, length-calls rules cs Γ t (u ∷ qs), length-calls rules cs Γ u [])

  length-within : (rules : List RewriteRule) (cs : List Within) (Γ : List Ty) (z i : ℕ) (ts : Tms) → length (calls_within rules cs Γ z i ts) ≤ symbol_counts ts
  length-within rules cs Γ z i none = lit≤ tt
  length-within rules cs Γ z i (more t ts) =
      let ds = with_condition (record { meta = z; place = i }) cs in
      let both = length-append (calls rules ds Γ t []) (calls_within rules cs Γ z (i + 1) ts) in
      omega (arith, both, length-calls rules ds Γ t [], length-within rules cs Γ z (i + 1) ts)

-- candidates

-- a rule adds at most one candidate for each symbol in its right side
length-candidates : (S : Symbols) (rules : List RewriteRule) (k : ℕ) (r : RewriteRule) (rest : List RewriteRule)
    → length (candidates_from S rules k (r ∷ rest)) ≤ symbol_count r.right + length (candidates_from S rules (k + 1) rest)
length-candidates S rules k r rest =
    let both = length-append (map (candidate S k r) (calls_of rules r)) (candidates_from S rules (k + 1) rest) in
    let here = length-map (calls_of rules r) (candidate S k r) in
    omega (arith, both, here, length-calls rules [] [] r.right [])

second_right_symbols : (i : ℕ) → symbol_count (second_right i) ≤ 3
second_right_symbols zero = lit≤ tt
second_right_symbols (suc j) = lit≤ tt

-- one symbol in the first rule of each function, and three in the second
length-family : (S : Symbols) (rules : List RewriteRule) (k a n : ℕ) → length (candidates_from S rules k (flat_map rules_of (range_with_len a n))) ≤ 4 * n
length-family S rules k a zero = lit≤ tt
length-family S rules k a (suc n) =
    let rest = flat_map rules_of (range_with_len (a + 1) n) in
    let first = length-candidates S rules k (first_rule a) (second_rule a ∷ rest) in
    let second = length-candidates S rules (k + 1) (second_rule a) rest in
    omega (arith, first, second, second_right_symbols a, length-family S rules (k + 1 + 1) (a + 1) n)

-- pairs

-- the pairs are some of the candidates
length-left : (before after pairs : List PairData) → AreLeft before after pairs → length pairs ≤ length after
length-left before after pairs none_left = lit≤ tt
length-left before after pairs (one_dropped {after = rest} {c = c} dropped left) = omega (arith, length-left (c ∷ before) rest pairs left)
length-left before after pairs (one_kept {after = rest} {pairs = kept} {c = c} stays left) = omega (arith, length-left (c ∷ before) rest kept left)

pub few_pairs : (n : ℕ) → 1 ≤ n → n ≤ 200 → HasTooManyPairs (gen_data n) → ⊥
few_pairs n some few (pairs, are, many) =
    let rules = (gen_data n).rules in
    let left = length-left [] (candidates_from (gen_data n).symbols rules 0 rules) pairs are in
    omega (arith, left, length-family (gen_data n).symbols rules 0 0 n)

-- rules

pub length-rules : (n : ℕ) → length (gen_data n).rules ≡ 2 * n
length-rules n = omega (arith, length-pairs first_rule second_rule 0 n)
