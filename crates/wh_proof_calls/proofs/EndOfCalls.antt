-- Where calls lead to no endless sequence of calls, well-typed terms are bounded; and calls by the steps of a system
-- end where those by its steps on raw bodies do.
use Rattle.std.proofs.Common.{◌≡◌, ℕ, List, [], ◌∷◌, ◌⊎◌, inl, inr, Contains, Some, slice_get, refl}
use Rattle.std.specs.List.{AllByRecursion}
use Rattle.wh_types.specs.Ty.{Ty}
use Rattle.wh_terms.specs.Tree.{Tm, fun, tms_of}
use Rattle.wh_terms.specs.Typing.{Symbols, Typed, AllTyped, typed_more}
use Rattle.wh_terms.specs.Rules.{RewriteRule, AreWellMade}
use Rattle.wh_terms.specs.StepOver.{StepOver}
use Rattle.wh_terms.proofs.TypingLaws.{typed_loose, typed_term}
use Rattle.wh_step.specs.Step.{Step}
use Rattle.wh_step.specs.Reduction.{Bounded}
use Rattle.wh_step.proofs.Instances.{Instance}
use Rattle.wh_step.proofs.RawStep.{RawStep, step_raw, raw_step}
use Rattle.wh_step_laws.specs.Ends.{Ends, ends, StepsIn, step_here, step_there}
use Rattle.wh_step_laws.specs.Ranks.{rank_of}
use Rattle.wh_step_laws.specs.Computable.{Computable}
use Rattle.wh_step_laws.proofs.EndsLaws.{ends-next, ends-simulated}
use Rattle.wh_step_laws.proofs.BetaAlone.{symbols-bounded}
use Rattle.wh_step_laws.proofs.SameSteps.{raw-computable}
use Rattle.wh_step_laws.proofs.SystemSteps.{IsShutTerm, shut-step}
use Rattle.wh_pairs.specs.PairData.{PairData}
use Rattle.wh_system.specs.Systems.{SystemData}
use Rattle.wh_system.specs.WellMade.{IsWellMadeSystem}
use Rattle.wh_access.specs.Passing.{IsPassing}
use Rattle.wh_access.proofs.FindLemmas.{sorts_known}
use Rattle.wh_pairs.specs.Candidates.{candidates}
use Rattle.wh_pairs.specs.Subsumption.{ArePairs}
use Rattle.wh_proof_calls.specs.MarkedCalls.{MarkedCall, ArgumentsStep, SomePairStep, CallStep, CallsEnd}
use Rattle.wh_proof_calls.proofs.SymbolLaws.{symbols_computable}

-- where the calls of the pairs end, each typed term is bounded
pub typed-bounded : (d : SystemData) → IsWellMadeSystem d → (ranks : List ℕ) → IsPassing d ranks → (ps : List PairData)
    → ArePairs (candidates d.symbols d.rules) ps
    → CallsEnd d.symbols d.rules (StepOver (Instance d.rules)) (Contains ps) → (t : Tm) (a : Ty) → Typed d.symbols [] [] t a
    → Bounded d.rules t
typed-bounded d made ranks passing ps pairs end =
    symbols-bounded made.rules (rank_of ranks) (sorts_known d made) (symbols_computable d made ranks passing ps pairs end)

-- trees that end by one kind of steps end by a kind with fewer steps
ends-fewer : {R Q : Tm → Tm → Type 0} → ((t u : Tm) → Q t u → R t u) → (ts : List Tm) → AllByRecursion (Ends R) ts
    → AllByRecursion (Ends Q) ts
ends-fewer h [] e = tt
ends-fewer h (t ∷ ts) e = (ends-simulated (λ u. u) h t t refl e.0, ends-fewer h ts e.1)

-- a step on raw bodies of a member of typed trees is a step of the system
typed_steps : {S : Symbols} {rules : List RewriteRule} {ts us : List Tm} {cs : List Ty} → AreWellMade S rules
    → StepsIn (RawStep rules) ts us → AllTyped S [] [] (tms_of ts) cs → StepsIn (Step rules) ts us
typed_steps {S = S} w (step_here {a = t} s) (typed_more q qs) = step_here (raw_step S w s (typed_loose q) (typed_term t q))
typed_steps w (step_there s) (typed_more q qs) = step_there (typed_steps w s qs)

-- what leads from call to call on raw bodies does so by the steps of the system
raw_leads : {S : Symbols} {rules : List RewriteRule} → AreWellMade S rules → (P : PairData → Type 0) (c d : MarkedCall)
    → CallStep S rules (RawStep rules) P c d → CallStep S rules (Step rules) P c d
raw_leads {S = S} {rules = rules} w P c d s = record { from_typed = s.from_typed; to_typed = s.to_typed; leads = step s.leads }
  where
    step : ArgumentsStep (RawStep rules) c d ⊎ SomePairStep S (RawStep rules) P c d
        → ArgumentsStep (Step rules) c d ⊎ SomePairStep S (Step rules) P c d
    step (inl m) = inl (record { symbol = m.symbol; arguments = typed_steps w m.arguments s.from_typed.typed })
    step (inr (p, holds, m)) = inr (
      p,
      holds,
      record {
        leads = m.leads;
        minimal = ends-fewer (λ t u r. step_raw S w r) d.arguments m.minimal;
      },
    )

-- calls end on raw bodies where they do by the steps of the system
pub calls_end-raw : {S : Symbols} {rules : List RewriteRule} → AreWellMade S rules → (P : PairData → Type 0)
    → CallsEnd S rules (Step rules) P → CallsEnd S rules (RawStep rules) P
calls_end-raw {S =
    S} w P end c h = ends-simulated (λ c. c) (raw_leads w P) c c refl (end c (ends-fewer (λ t u r. step_raw S w r) c.arguments h))

-- and the other way round: a term without loose variables that ends by the steps of the system ends on raw bodies
raw_ends : {S : Symbols} {rules : List RewriteRule} {t : Tm} → AreWellMade S rules → IsShutTerm t → Ends (Step rules) t
    → Ends (RawStep rules) t
raw_ends {S = S} {t = t} w c (ends h) = ends (λ u r. raw_ends w (shut-step w t u c (raw_step S w r c.0 c.1)) (h u (raw_step S w r c.0 c.1)))

raw_list_ends : {S : Symbols} {rules : List RewriteRule} {cs : List Ty} → AreWellMade S rules → (ts : List Tm)
    → AllTyped S [] [] (tms_of ts) cs → AllByRecursion (Ends (Step rules)) ts → AllByRecursion (Ends (RawStep rules)) ts
raw_list_ends w [] p e = tt
raw_list_ends w (t ∷ ts) (typed_more q qs) e = (raw_ends w (typed_loose q, typed_term t q) e.0, raw_list_ends w ts qs e.1)

raw_steps : {S : Symbols} {rules : List RewriteRule} {ts us : List Tm} → AreWellMade S rules → StepsIn (Step rules) ts us
    → StepsIn (RawStep rules) ts us
raw_steps {S = S} w (step_here s) = step_here (step_raw S w s)
raw_steps w (step_there s) = step_there (raw_steps w s)

leads_raw : {S : Symbols} {rules : List RewriteRule} → AreWellMade S rules → (P : PairData → Type 0) (c d : MarkedCall)
    → CallStep S rules (Step rules) P c d → CallStep S rules (RawStep rules) P c d
leads_raw {S = S} {rules = rules} w P c d s = record { from_typed = s.from_typed; to_typed = s.to_typed; leads = step s.leads }
  where
    step : ArgumentsStep (Step rules) c d ⊎ SomePairStep S (Step rules) P c d
        → ArgumentsStep (RawStep rules) c d ⊎ SomePairStep S (RawStep rules) P c d
    step (inl m) = inl (record { symbol = m.symbol; arguments = raw_steps w m.arguments })
    step (inr (p, holds, m)) = inr (
      p,
      holds,
      record {
        leads = m.leads;
        minimal = raw_list_ends w d.arguments s.to_typed.typed m.minimal;
      },
    )

-- calls end by the steps of the system where they do on raw bodies
pub raw-calls_end : {S : Symbols} {rules : List RewriteRule} → AreWellMade S rules → (P : PairData → Type 0)
    → CallsEnd S rules (RawStep rules) P → CallsEnd S rules (Step rules) P
raw-calls_end {S = S} {rules = rules} w P end c h = ends (λ d s. ends-next d (on_raw s) s)
  where
    on_raw : {d : MarkedCall} → CallStep S rules (Step rules) P c d → Ends (CallStep S rules (Step rules) P) c
    on_raw s = ends-simulated (λ c. c) (leads_raw w P) c c refl (end c (raw_list_ends w c.arguments s.from_typed.typed h))

pub calls-symbols : (d : SystemData) → IsWellMadeSystem d → (ranks : List ℕ) → IsPassing d ranks → (ps : List PairData)
    → ArePairs (candidates d.symbols d.rules) ps
    → CallsEnd d.symbols d.rules (Step d.rules) (Contains ps) → (f : ℕ) (a : Ty) → slice_get d.symbols.funs f ≡ Some a
    → Computable d.symbols (rank_of ranks) (Step d.rules) a (fun f)
calls-symbols d made ranks passing ps pairs end f a known =
    let raw : CallsEnd d.symbols d.rules (RawStep d.rules) (Contains ps) = calls_end-raw made.rules (Contains ps) end in
    raw-computable made.rules (rank_of ranks) a (fun f) (symbols_computable d made ranks passing ps pairs raw f a known)

pub calls-bounded : (d : SystemData) → IsWellMadeSystem d → (ranks : List ℕ) → IsPassing d ranks → (ps : List PairData)
    → ArePairs (candidates d.symbols d.rules) ps
    → CallsEnd d.symbols d.rules (Step d.rules) (Contains ps) → (t : Tm) (a : Ty) → Typed d.symbols [] [] t a → Bounded d.rules t
calls-bounded d made ranks passing ps pairs end = typed-bounded d made ranks passing ps pairs (calls_end-raw made.rules (Contains ps) end)
