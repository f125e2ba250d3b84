use Rattle.wh_sat_listed.proofs.listing.entry_for.Goals as goal

pub returns-clause-tells : goal.returns-clause-tells
returns-clause-tells c =
    let told = c.in_ok-hints.ensures.tells in c.clear.ensures.tells c.args.variables told.0 told.1
