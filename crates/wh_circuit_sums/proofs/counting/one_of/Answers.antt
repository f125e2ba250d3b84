use Rattle.std.proofs.Common.{ℕ, ◌&&◌, Bool, List, nat_eq, nat_lt, not, ap, ◌∙◌, rules}
use Rattle.std.proofs.lemmas.Result.{IfOk-weaker}
use Rattle.wh_sat_trail.specs.declared.literal.Literal.{Literal}
use Rattle.wh_sat.specs.Solving.{literal_true}
use Rattle.wh_circuit.specs.Gates.{Means}
use Rattle.wh_circuit.specs.State.{gates_of}
use Rattle.wh_circuit.specs.Values.{true_count}
use Rattle.wh_circuit_sums.proofs.CountLemmas.{one_alone}
use Rattle.wh_circuit.proofs.Growing.{both_means, means_same}
use Rattle.wh_circuit_sums.proofs.counting.one_of.Goals as goal

pub returns-clause-means : goal.returns-clause-means
returns-clause-means c =
    let ls : List Literal = c.args.of.now in
    let one = gates_of c.count.new.circuit in
    let two = gates_of c.both.new.self in
    let count = c.in_ok-count.count in
    let few = c.not-few.result in
    let counts = c.in_ok-count.ensures.means in
    let some : (ℕ → Bool) → Bool = λ v. nat_lt 0 (true_count v ls) in
    let less : (ℕ → Bool) → Bool = λ v. not (nat_lt 1 (true_count v ls)) in
    let is_few : Means one few less = record { own = search rules; is = λ v a. c.not-few.ensures.means v ∙ ap not (counts.more.is v a) } in
    IfOk-weaker c.both.result (λ made. Means two made (λ v. literal_true v count.some && literal_true v few)) (λ made. Means two made (λ v. nat_eq (true_count v ls) 1))
    (λ made m. means_same two made (λ v. some v && less v) (λ v. nat_eq (true_count v ls) 1) (λ v a. one_alone (true_count v ls))
    (both_means 1 one two count.some few made some less c.both.ensures.grows.gates counts.some is_few m))
    c.both.ensures.means
