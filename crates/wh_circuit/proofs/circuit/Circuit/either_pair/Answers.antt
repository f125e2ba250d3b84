use Rattle.std.proofs.Common.{ℕ, ◌&&◌, ◌||◌, Bool, arith}
use Rattle.std.proofs.lemmas.Result.{IfOk-weaker}
use Rattle.wh_sat.specs.Solving.{literal_true}
use Rattle.wh_circuit.specs.Gates.{Means}
use Rattle.wh_circuit.specs.State.{gates_of}
use Rattle.wh_circuit.proofs.Growing.{either_means, grows_then, means_later}
use Rattle.wh_circuit.proofs.circuit.Circuit.either_pair.Goals as goal

pub returns-clause-grows : goal.returns-clause-grows
returns-clause-grows c =
    grows_then 2 1 3 c.args.self.now c.both-2.new.self c.either.new.self
    (grows_then 1 1 2 c.args.self.now c.both.new.self c.both-2.new.self c.both.ensures.grows c.both-2.ensures.grows (omega arith)) c.either.ensures.grows (omega arith)

pub returns-clause-means : goal.returns-clause-means
returns-clause-means c =
    let g = c.args in
    let first = c.in_ok-first.first in
    let second = c.in_ok-second.second in
    let f : (ℕ → Bool) → Bool = λ v. literal_true v g.a && literal_true v g.b in
    let h : (ℕ → Bool) → Bool = λ v. literal_true v g.c && literal_true v g.d in
    let one = gates_of c.both.new.self in
    let two = gates_of c.both-2.new.self in
    let three = gates_of c.either.new.self in
    IfOk-weaker c.either.result (λ made. Means three made (λ v. literal_true v first || literal_true v second)) (λ made. Means three made (λ v. f v || h v))
    (λ made m. either_means 1 two three first second made f h c.either.ensures.grows.gates
    (means_later 1 one two first f c.both-2.ensures.grows.gates c.in_ok-first.ensures.means) c.in_ok-second.ensures.means m)
    c.either.ensures.means
