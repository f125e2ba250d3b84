-- Ranks by the number of sources.
use Rattle.std.proofs.Common.{◌≡◌, ℕ, ◌+◌, ◌<◌, ◌≤◌, ◌⊎◌, inl, inr, true, List, [], ◌∷◌, ◌++◌, length, get_or, ap, sym, ◌∙◌, subst, arith}
use Rattle.std.proofs.lemmas.List.{get_or_append_left, get_or_default, length-append}
use Rattle.std.proofs.Math.Seq.{get_or-append_seam}
use Rattle.wh_step_laws.specs.Ranks.{rank_of}
use Rattle.wh_access.specs.declared.sources.Source.{Source}
use Rattle.wh_access.specs.declared.demands.Demands.{Demands}
use Rattle.wh_access.specs.Sources.{sort_at, AreSources, IsWay, LeadsBy}
use Rattle.wh_access.specs.Demands.{IsCycle}
use Rattle.wh_access.specs.Found.{MeetTold}
use Rattle.wh_access.specs.Tables.{LeadsIn, LeadsStrictlyIn, LeadsBelow, LeadsStrictlyBelow}
use Rattle.wh_access.proofs.SourceLemmas.{no_fewer, more_sources, few_sources, leads_by, cycle_back}

-- the rank is one less than the number of the sources of the sort, and Q leads from it to none of these
pub record IsRank (P Q : ℕ → ℕ → Type 0) (n s rank : ℕ) : Type 0 where
  pub found : List Source
  pub whole : AreSources P n s found
  pub count : rank + 1 ≡ length found
  pub apart : (k : ℕ) → k < length found → Q s (sort_at found k) → ⊥

-- the ranks of the sorts below number m
pub record RanksSoFar (P Q : ℕ → ℕ → Type 0) (n m : ℕ) (ranks : List ℕ) : Type 0 where
  pub each : length ranks ≡ m
  pub are : (s : ℕ) → s < m → IsRank P Q n s (rank_of ranks s)

pub ranks_none : (P Q : ℕ → ℕ → Type 0) (n : ℕ) (ranks : List ℕ) → ranks ≡ [] → RanksSoFar P Q n 0 ranks
ranks_none P Q n ranks e = record { each = ap length e; are = λ s low. absurd (omega arith) }

pub ranks_push : (P Q : ℕ → ℕ → Type 0) (n m : ℕ) (ranks : List ℕ) (rank : ℕ) → RanksSoFar P Q n m ranks → IsRank P Q n m rank → RanksSoFar P Q n (m + 1) (ranks ++ rank ∷ [])
ranks_push P Q n m ranks rank r here = record {
  each = length-append ranks (rank ∷ []) ∙ ap (λ k. k + 1) r.each;
  are = λ s low. elim (cases s m low) [
    | inl less ↦ subst (IsRank P Q n s) (sym (get_or_append_left ranks (rank ∷ []) 0 s (omega (arith, less, r.each)))) (r.are s less)
    | inr same ↦ subst (λ s. IsRank P Q n s (get_or (ranks ++ rank ∷ []) s 0)) (sym same)
        (subst (IsRank P Q n m) (sym (ap (λ k. get_or (ranks ++ rank ∷ []) k 0) (sym r.each) ∙ get_or-append_seam ranks rank [] 0)) here)
  ];
}
  where
    cases : (j i : ℕ) → j < i + 1 → (j < i) ⊎ (j ≡ i)
    cases j i h = grind arith

pub ranks_meet : (demands : Demands) (n : ℕ) (ranks : List ℕ) → n ≤ 256 → RanksSoFar (LeadsIn demands) (LeadsStrictlyIn demands) n n ranks → MeetTold demands n ranks
ranks_meet demands n ranks few r = record {
  count = r.each;
  low = λ k d h.
      let here = r.are k (omega (arith, h, r.each)) in
      let most = few_sources (LeadsIn demands) n k here.found (length here.found) here.whole in
      subst (λ m. m ≤ 255) (get_or_default ranks k 0 d h) (omega (arith, here.count, most, few));
  weak = λ s t low small leads.
      let a = r.are s low in
      let b = r.are t small in
      let more = no_fewer (LeadsIn demands) n s t a.found b.found a.whole b.whole leads low in
      omega (arith, a.count, b.count, more);
  strict = λ s t low small leads.
      let a = r.are s low in
      let b = r.are t small in
      let more = more_sources (LeadsIn demands) n s t a.found b.found a.whole b.whole (true, leads) low
      (λ (k, within, e). a.apart k within (subst (LeadsStrictlyIn demands s) (sym e) leads)) in
      omega (arith, a.count, b.count, more);
}

-- a way from a source of the sort, and a strict demand from the sort to this source
pub cycle_found : (demands : Demands) (n goal start : ℕ) (xs : List Source) (way : List ℕ) → AreSources (LeadsIn demands) n goal xs → goal < n → start < length xs → IsWay (LeadsBy xs) (sort_at xs start) (sort_at xs 0) way
    → LeadsStrictlyIn demands goal (sort_at xs start) → IsCycle (LeadsBelow demands n) (LeadsStrictlyBelow demands n) way
cycle_found demands n goal start xs way whole small near back strict =
    cycle_back (LeadsBelow demands n) (LeadsStrictlyBelow demands n) (LeadsBy xs) (λ s t. leads_by (LeadsIn demands) n goal xs s t whole) (λ s t leads. (leads.0, leads.1, (true, leads.2)))
    (sort_at xs start) goal way (subst (λ t. IsWay (LeadsBy xs) (sort_at xs start) t way) whole.first back) (small, whole.within start near, strict)
