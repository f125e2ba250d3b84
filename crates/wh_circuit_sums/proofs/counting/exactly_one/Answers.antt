use Rattle.wh_circuit_sums.proofs.counting.exactly_one.Goals as goal

pub returns-in-Err-clause-err : goal.returns-in-Err-clause-err
returns-in-Err-clause-err c = c.restore.ensures c.args.circuit.now _ c.mark-mark.ensures c.one_of.ensures.grows
