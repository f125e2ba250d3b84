-- When marked calls lead to no endless sequence: what all nodes of proofs share.
use Rattle.std.proofs.Common.{◌≡◌, ℕ, List, refl, sym, ◌∙◌}
use Rattle.wh_terms.specs.Tree.{Tm, tms_of}
use Rattle.wh_terms.specs.Typing.{Symbols}
use Rattle.wh_terms.specs.Value.{Body, Values}
use Rattle.wh_terms.specs.Rules.{RewriteRule}
use Rattle.wh_step_laws.specs.Ends.{StepsIn}
use Rattle.wh_step_laws.proofs.EndsLaws.{ends-simulated}
use Rattle.wh_pairs.specs.PairData.{PairData}
use Rattle.wh_graph.specs.May.{May}
use Rattle.wh_proof_calls.specs.MarkedCalls.{MarkedCall, PairStep, ArgumentsStep, CallsEnd}
use Rattle.wh_proof_nodes.specs.Many.{Many, stay}
use Rattle.wh_proof_calls.proofs.Leading.{calls_end, other_pairs}
use Rattle.wh_proof_nodes.proofs.ManyLaws.{many-join, many-one}
use Rattle.wh_proof_nodes.proofs.MayLaws.{MayIsSound}

-- fewer pairs lead to no more calls
pub calls_fewer : {S : Symbols} {rules : List RewriteRule} {R : Tm → Tm → Type 0} {P Q : PairData → Type 0} → ((p : PairData) → P p → Q p)
    → CallsEnd S rules R Q → CallsEnd S rules R P
calls_fewer h all c good = ends-simulated (λ d. d) (λ d e s. other_pairs d e s (λ (p, has, by). (p, h p has, by))) c c refl (all c good)

-- no pair is left
pub no_pair_calls : {S : Symbols} {rules : List RewriteRule} {R : Tm → Tm → Type 0} {P : PairData → Type 0} → ((p : PairData) → P p → ⊥)
    → CallsEnd S rules R P
no_pair_calls none = calls_end (λ c d typed (p, has, by). absurd (none p has))

-- the call comes from the pair: from values of its right side steps of the arguments lead to it
pub record ComesFrom (R : Tm → Tm → Type 0) (p : PairData) (c : MarkedCall) : Type 0 where
  pub bodies : ℕ → Body
  pub first : List Tm
  pub symbol : c.symbol ≡ p.right_fun
  pub values : Values bodies (tms_of p.right) (tms_of first)
  pub leads : Many (StepsIn R) first c.arguments

pub comes_step : {S : Symbols} {R : Tm → Tm → Type 0} (p : PairData) (c d : MarkedCall) → PairStep S R p c d → ComesFrom R p d
comes_step p c d s = record {
  bodies = s.leads.bodies;
  first = d.arguments;
  symbol = s.leads.right_symbol;
  values = s.leads.right;
  leads = stay;
}

pub comes_kept : {R : Tm → Tm → Type 0} (p : PairData) (c d : MarkedCall) → ComesFrom R p c → ArgumentsStep R c d → ComesFrom R p d
comes_kept p c d from a = record {
  bodies = from.bodies;
  first = from.first;
  symbol = a.symbol ∙ from.symbol;
  values = from.values;
  leads = many-join from.leads (many-one a.arguments);
}

-- a pair that leads on from a call may follow the one that the call comes from
pub comes_may : {S : Symbols} {R : Tm → Tm → Type 0} (rules : List RewriteRule) (p q : PairData) (c d : MarkedCall) → MayIsSound rules R
    → ComesFrom R p c → PairStep S R q c d → May rules p q
comes_may rules p q c d sound from s =
    sound p q from.bodies s.leads.bodies from.first c.arguments (sym from.symbol ∙ s.leads.left_symbol) from.values s.leads.left from.leads
