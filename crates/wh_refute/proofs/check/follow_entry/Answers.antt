use Rattle.std.proofs.Common.{◌≡◌, subst, Result, Ok, Err, MatchResult, List, ℕ, map}
use Rattle.wh_sat_trail.specs.declared.literal.Literal.{Literal}
use Rattle.wh_sat_trail.specs.declared.entry.Entry.{Entry}
use Rattle.wh_sat_trail.specs.Assignment.{AllBelow, negated}
use Rattle.wh_refute.specs.Refuting.{IsGoodEntry, Leads}
use Rattle.wh_refute.specs.Told.{IsEntryFault, IsHintFault, Tells}
use Rattle.wh_refute.specs.declared.fault.EntryFault.{EntryFault}
use Rattle.wh_refute.proofs.Following.{entry_faults}
use Rattle.wh_refute.proofs.check.follow_entry.Goals as goal

followed : (n : ℕ) (clauses : List (List Literal)) (e : Entry) (hints : List ℕ) (r : Result (Unit {0}) EntryFault) → hints ≡ e.hints
    → AllBelow n e.clause → MatchResult r (λ _. Leads clauses (map negated e.clause) hints) (IsHintFault clauses (map negated e.clause) hints)
    → MatchResult r (λ _. IsGoodEntry n clauses e) (IsEntryFault n clauses e)
followed n clauses e hints (Ok x) is below h = record { below = below; leads = subst (Leads clauses (map negated e.clause)) is h }
followed n clauses e hints (Err f) is below h =
    entry_faults n clauses e f below (subst (λ hs. IsHintFault clauses (map negated e.clause) hs f) is h)

pub returns-clause-found : goal.returns-clause-found
returns-clause-found c =
    let f = c.in_ok-suppose.ensures.found in
    let below : AllBelow c.args.variables c.args.entry.now.clause = subst (AllBelow c.args.variables) c.as_slice.ensures f.0 in
    let told : Tells c.args.variables c.suppose.new.truth (map negated c.args.entry.now.clause) =
    subst (λ d. Tells c.args.variables c.suppose.new.truth (map negated d)) c.as_slice.ensures f.1 in
    followed c.args.variables _ c.args.entry.now c.as_slice-2.result.now c.follow.result c.as_slice-2.ensures below
    (c.follow.ensures.found (map negated c.args.entry.now.clause) told)
