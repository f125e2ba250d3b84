use Rattle.std.proofs.Common.{rules, ◌≡◌, length, List, map, sym, ◌∙◌, ap, subst}
use Rattle.wh_sat_trail.specs.declared.literal.Literal.{Literal}
use Rattle.wh_sat_trail.specs.Assignment.{AllBelow, negated}
use Rattle.wh_sat.specs.Solving.{clause_true}
use Rattle.wh_circuit.specs.Gates.{Means}
use Rattle.wh_circuit.specs.Values.{all_true}
use Rattle.wh_circuit.specs.State.{gates_of}
use Rattle.wh_circuit.proofs.Solving.{some_by_none, negated_below}
use Rattle.wh_circuit.proofs.circuit.Circuit.or.Goals as goal

pub and-requires-clause-own : goal.and-requires-clause-own
and-requires-clause-own c =
    let ls : List Literal = c.args.of.now in
    let is : c.deref.result.now ≡ map negated ls = search rules in
    subst (AllBelow (length (gates_of c.args.self.now))) (sym is) (negated_below (length (gates_of c.args.self.now)) ls c.requires.own)

pub returns-clause-means : goal.returns-clause-means
returns-clause-means c =
    let ls : List Literal = c.args.of.now in
    let is : c.deref.result.now ≡ map negated ls = search rules in
    let none = c.in_ok-none.none in
    let same : c.not.result ≡ negated none = search rules in
    let m = c.in_ok-none.ensures.means in
    subst (λ a. Means (gates_of c.and.new.self) a (λ v. clause_true v ls)) (sym same) (record {
      own = m.own;
      is = λ v a. some_by_none v ls none (m.is v a ∙ ap (all_true v) is);
    })
