-- The law of reduction pairs where calls are measured by numbers.
use Rattle.std.proofs.Common.{ℕ, zero, suc, ◌≤◌, ◌<◌, ◌⊎◌, arith, lt_of_lt_of_le}
use Rattle.std.specs.Prelude.{List}
use Rattle.wh_terms.specs.Tree.{Tm}
use Rattle.wh_terms.specs.Typing.{Symbols}
use Rattle.wh_terms.specs.Rules.{RewriteRule}
use Rattle.wh_step_laws.specs.Ends.{Ends, ends}
use Rattle.wh_pairs.specs.PairData.{PairData}
use Rattle.wh_proof_calls.specs.MarkedCalls.{MarkedCall, IsTypedCall, PairStep, ArgumentsStep, CallsEnd}
use Rattle.wh_proof_calls.specs.CallOrders.{by_numbers}
use Rattle.wh_proof_calls.proofs.Measured.{ends_measured, function_measures}

-- no endless descent goes out from a number

end_below : (n m : ℕ) → m < n → Ends (λ a b. b < a) m
end_below zero m less = absurd (omega (arith, less))
end_below (suc n) m less = ends (λ k under. end_below n k (omega (arith, less, under)))

pub numbers_end : (n : ℕ) → Ends (λ a b. b < a) n
numbers_end n = end_below (suc n) n (omega arith)

pub numbers_together : (a b c : ℕ) → b ≤ a → c < b → c < a
numbers_together a b c no_more less = lt_of_lt_of_le less no_more

-- where a number never rises, and falls where a pair is not one of the kept ones, calls end if those by these do
pub ends_numbered : {S : Symbols} {rules : List RewriteRule} {R : Tm → Tm → Type 0} (measure : MarkedCall → ℕ) {P Q : PairData → Type 0}
    → ((c d : MarkedCall) → IsTypedCall S rules c → ArgumentsStep R c d → measure d ≤ measure c)
    → ((p : PairData) (c d : MarkedCall) → P p → PairStep S R p c d → ((Q p × measure d ≤ measure c) ⊎ measure d < measure c))
    → CallsEnd S rules R Q → CallsEnd S rules R P
ends_numbered measure arguments pairs kept =
    ends_measured (function_measures by_numbers measure numbers_together
    (λ d typed all. numbers_end (measure d)) arguments (λ p c d has typed by. pairs p c d has by)) kept
