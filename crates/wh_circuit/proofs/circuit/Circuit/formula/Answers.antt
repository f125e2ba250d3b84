use Rattle.wh_circuit.proofs.circuit.Circuit.formula.Goals as goal

pub returns-clause-exact : goal.returns-clause-exact
returns-clause-exact c given =
    let it = c.args.self.now in (
      λ m. record {
        values = m.model;
        carries = record { agrees = it.gates_hold m.model m.solves; inputs = m.inputs };
        met = it.required_hold m.model m.solves;
      },
      λ m. record {
        model = m.values;
        solves = it.enough m.values m.carries.agrees m.met;
        inputs = m.carries.inputs;
      },
    )
