use Rattle.std.proofs.Common.{ℕ, ◌+◌, ◌&&◌, ◌||◌, Bool, nat_lt, arith}
use Rattle.wh_sat.specs.Solving.{literal_true}
use Rattle.wh_circuit.specs.Gates.{Extends}
use Rattle.wh_circuit.specs.State.{gates_of}
use Rattle.wh_circuit.specs.Values.{bit}
use Rattle.wh_circuit_sums.proofs.CountLemmas.{some_more, two_more}
use Rattle.wh_circuit.proofs.Growing.{both_means, either_means, extends_then, means_later, means_same, wire_means}
use Rattle.wh_circuit_sums.proofs.counting.counted.Goals as goal

pub returns-clause-means : goal.returns-clause-means
returns-clause-means c many counts =
    let count = c.args.count in
    let wire = c.args.wire in
    let start = gates_of c.args.circuit.now in
    let one = gates_of c.both.new.self in
    let two = gates_of c.either.new.self in
    let three = gates_of c.either-2.new.self in
    let again = c.in_ok-again.again in
    let some : (ℕ → Bool) → Bool = λ v. nat_lt 0 (many v) in
    let more : (ℕ → Bool) → Bool = λ v. nat_lt 1 (many v) in
    let it : (ℕ → Bool) → Bool = λ v. literal_true v wire in
    let joins : Extends 2 start two = extends_then 1 1 2 start one two c.both.ensures.grows.gates c.either.ensures.grows.gates (omega arith) in
    let is_wire = wire_means start wire c.requires.own in
    let is_again = both_means 1 start one count.some wire again some it c.both.ensures.grows.gates counts.some is_wire c.in_ok-again.ensures.means in
    let is_more = either_means 1 one two count.more again c.in_ok-more.more more (λ v. some v && it v) c.either.ensures.grows.gates
    (means_later 1 start one count.more more c.both.ensures.grows.gates counts.more) is_again c.in_ok-more.ensures.means in
    let is_some = either_means 1 two three count.some wire c.in_ok-some.some some it c.either-2.ensures.grows.gates
    (means_later 2 start two count.some some joins counts.some) (means_later 2 start two wire it joins is_wire) c.in_ok-some.ensures.means in
    record {
      some = means_same three c.in_ok-some.some (λ v. some v || it v) (λ v. nat_lt 0 (bit (it v) + many v)) (λ v a. some_more (it v) (many v)) is_some;
      more = means_same three c.in_ok-more.more (λ v. more v || some v && it v) (λ v. nat_lt 1 (bit (it v) + many v)) (λ v a. two_more (it v) (many v))
          (means_later 1 two three c.in_ok-more.more (λ v. more v || some v && it v) c.either-2.ensures.grows.gates is_more);
    }
