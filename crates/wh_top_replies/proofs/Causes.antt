-- The sorts and the meta-variable that a cause for giving up names are there.
use Rattle.std.proofs.Common.{ℕ, ◌<◌, inl, inr, List, [], ◌∷◌, length, sym, subst}
use Rattle.std.specs.List.{All}
use Rattle.std.proofs.lemmas.List.Elements.{All-nil, All-cons}
use Rattle.wh_types.specs.Ty.{Ty, sort, ◌⇒◌, SortsBelow}
use Rattle.wh_system.specs.Systems.{SystemData}
use Rattle.wh_pairs.specs.PairData.{PairData}
use Rattle.wh_system.specs.WellMade.{IsWellMadeSystem}
use Rattle.wh_access.specs.Passing.{IsFirstUnread}
use Rattle.wh_access.specs.Demands.{Demand, HasSort, Asks, IsDemand, Leads, LeadsAlong, IsStrictCycle}
use Rattle.wh_access.specs.declared.find.NoRanks.TheVariants as ranks
use Rattle.wh_access.proofs.PlaceLemmas.{argument_below}
use Rattle.wh_access.proofs.FindLemmas.{sort_below, sorts_known}
use Rattle.wh_checker.specs.Named.{HasMeta}
use Rattle.wh_checker.proofs.Named.{used_there}
use Rattle.wh_prover.specs.Answers.{IsReason}
use Rattle.wh_prover.specs.declared.answer.Options.{Options}
use Rattle.wh_prover.specs.declared.answer.Cause.{Cause}
use Rattle.wh_prover.specs.declared.answer.Cause.TheVariants as cause
use Rattle.wh_top_replies.specs.Proving.{CauseIsThere}

-- the rule and the meta-variable that is not read
unread_there : (d : SystemData) (r z : ℕ) → IsWellMadeSystem d → IsFirstUnread d.rules r z → HasMeta d r z
unread_there d r z made first =
    let (rule, at, occurs, not, least) = first.here in
    used_there d r z rule made at occurs

-- the sort that a demand comes from

asker_below : (n : ℕ) (a : Ty) (t : ℕ) (e : Demand) → Asks a t e → SortsBelow n a → e.from < n
asker_below n (sort r) t e asks below = subst (λ s. s < n) (sym asks.0) below
asker_below n (a ⇒ b) t e asks below = sort_below n e.from (a ⇒ b) asks.0 below

demand_there : (d : SystemData) (e : Demand) → IsWellMadeSystem d → IsDemand d.symbols d.rules e → e.from < d.symbols.sorts
demand_there d e made (r, listed, (z, (used, (way, read, (p, on, (a, b, has, at, asks)))))) =
    let n = d.symbols.sorts in
    asker_below n a _ e asks (argument_below n b p.index a (sorts_known d made p.symbol b has) at)

-- each sort of a way is one from which it goes on
along_there : (n : ℕ) (P : ℕ → ℕ → Type 0) → ((s t : ℕ) → P s t → s < n) → (s : ℕ) (us : List ℕ) (t : ℕ)
    → LeadsAlong P s us t → All (λ u. u < n) (s ∷ us)
along_there n P h s [] t leads = All-cons (λ u. u < n) s [] (h s t leads) (All-nil (λ u. u < n))
along_there n P h s (u ∷ us) t leads =
    All-cons (λ u. u < n) s (u ∷ us) (h s u leads.0) (along_there n P h u us t leads.1)

cycle_there : (d : SystemData) (sorts : List ℕ) → IsWellMadeSystem d → IsStrictCycle d.symbols d.rules sorts
    → All (λ s. s < length d.sort_names) sorts
cycle_there d [] made cycle = absurd cycle
cycle_there d (s ∷ ss) made cycle =
    let n = d.symbols.sorts in
    subst (λ n. All (λ u. u < n) (s ∷ ss)) (sym made.sorts_named)
    (along_there n (Leads d.symbols d.rules) (λ s t leads. demand_there d _ made leads.1) s ss s cycle.1)

-- what a reason for giving up names
pub reason_there : (d : SystemData) (ps : List PairData) (o : Options) (c : Cause) → IsWellMadeSystem d → IsReason d ps o c
    → CauseIsThere d c
reason_there d ps o (cause.NoRanks (ranks.Unread r z)) made is = unread_there d r z made is.0
reason_there d ps o (cause.NoRanks (ranks.Cycle sorts)) made is = cycle_there d sorts made is.0.1
reason_there d ps o (cause.Stuck set) made is = tt
reason_there d ps o (cause.Spent finder set list) made is = tt
reason_there d ps o (cause.Full visits) made is = tt
