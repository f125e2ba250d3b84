-- When marked calls lead to no endless sequence: what every reason for it shares.
use Rattle.std.proofs.Common.{◌≡◌, List, inl, inr, refl, sym, subst}
use Rattle.std.specs.List.{AllByRecursion}
use Rattle.wh_terms.specs.Tree.{Tm}
use Rattle.wh_terms.specs.Typing.{Symbols}
use Rattle.wh_terms.specs.Rules.{RewriteRule}
use Rattle.wh_step_laws.specs.Ends.{Ends, ends, StepsIn, step_here, step_there}
use Rattle.wh_step_laws.proofs.EndsLaws.{ends-next, ends-list}
use Rattle.wh_pairs.specs.PairData.{PairData}
use Rattle.wh_proof_calls.specs.MarkedCalls.{MarkedCall, IsTypedCall, ArgumentsStep, SomePairStep, CallStep, CallsEnd}

-- induction: what passes from all that R leads to holds of what ends
pub ends_induct : {A : Type 0} {R : A → A → Type 0} (P : A → Type 0) → ((a : A) → ((b : A) → R a b → P b) → P a) → (a : A) → Ends R a → P a
ends_induct P h a (ends k) = h a (λ b r. ends_induct P h b (k b r))

-- what steps of members leave of a list whose members end
pub step_all_ends : {R : Tm → Tm → Type 0} {ts us : List Tm} → StepsIn R ts us → AllByRecursion (Ends R) ts → AllByRecursion (Ends R) us
step_all_ends (step_here {b = b} r) h = (ends-next b h.0 r, h.1)
step_all_ends (step_there s) h = (h.0, step_all_ends s h.1)

-- the arguments end, steps of arguments keep K, and where K holds pairs lead to calls that end: so does the call itself
pub ends_while : {S : Symbols} {rules : List RewriteRule} {R : Tm → Tm → Type 0} {P : PairData → Type 0} (K : MarkedCall → Type 0)
    → ((c d : MarkedCall) → K c → ArgumentsStep R c d → K d)
    → ((c d : MarkedCall) → K c → IsTypedCall S rules d → SomePairStep S R P c d → Ends (CallStep S rules R P) d) → (c : MarkedCall)
    → K c → AllByRecursion (Ends R) c.arguments → Ends (CallStep S rules R P) c
ends_while {S = S} {rules = rules} {R = R} {P = P} K kept pairs c q all =
    ends_induct (λ ts. (d : MarkedCall) → ts ≡ d.arguments → K d → Ends (CallStep S rules R P) d) next c.arguments
    (ends-list c.arguments all) c refl q
  where
    next : (ts : List Tm) → ((us : List Tm) → StepsIn R ts us → (d : MarkedCall) → us ≡ d.arguments → K d → Ends (CallStep S rules R P) d)
        → (d : MarkedCall) → ts ≡ d.arguments → K d → Ends (CallStep S rules R P) d
    next ts below d e has = ends (λ b s. elim (s.leads) [
      | inl a ↦ below b.arguments (subst (λ us. StepsIn R us b.arguments) (sym e) a.arguments) b refl (kept d b has a)
      | inr p ↦ pairs d b has s.to_typed p
    ])

-- calls end where the calls do that pairs lead to
pub calls_end : {S : Symbols} {rules : List RewriteRule} {R : Tm → Tm → Type 0} {P : PairData → Type 0}
    → ((c d : MarkedCall) → IsTypedCall S rules d → SomePairStep S R P c d → Ends (CallStep S rules R P) d) → CallsEnd S rules R P
calls_end pairs c all = ends_while (λ _. Unit {0}) (λ c d q a. tt) (λ c d q t s. pairs c d t s) c tt all

-- a step by one pair, as one of others
pub other_pairs : {S : Symbols} {rules : List RewriteRule} {R : Tm → Tm → Type 0} {P Q : PairData → Type 0} (c d : MarkedCall)
    → CallStep S rules R P c d → (SomePairStep S R P c d → SomePairStep S R Q c d) → CallStep S rules R Q c d
other_pairs c d s h = record {
  from_typed = s.from_typed;
  to_typed = s.to_typed;
  leads = elim (s.leads) [
    | inl a ↦ inl a
    | inr p ↦ inr (h p)
  ];
}

-- a step of an argument, beside other pairs
pub other_arguments : {S : Symbols} {rules : List RewriteRule} {R : Tm → Tm → Type 0} {P Q : PairData → Type 0} (c d : MarkedCall)
    → CallStep S rules R P c d → ArgumentsStep R c d → CallStep S rules R Q c d
other_arguments c d s a = record {
  from_typed = s.from_typed;
  to_typed = s.to_typed;
  leads = inl a;
}
