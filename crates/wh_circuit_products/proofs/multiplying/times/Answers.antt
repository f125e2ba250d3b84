use Rattle.wh_circuit_products.proofs.multiplying.times.Goals as goal

pub returns-in-Err-clause-err : goal.returns-in-Err-clause-err
returns-in-Err-clause-err c = c.restore.ensures c.args.circuit.now _ c.mark-mark.ensures c.multiplied.ensures.grows
