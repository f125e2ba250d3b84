-- The walk's list, read on a term without loose variables.
use Rattle.std.proofs.Common.{◌≡◌, map, sym, subst}
use Rattle.wh_terms.specs.Erase.{tm, rewrite_rules}
use Rattle.wh_terms.proofs.Results.{IfOk-map}
use Rattle.wh_step.specs.Reducts.{AreReducts}
use Rattle.wh_step.proofs.PlaceLemmas.{plain_whole}
use Rattle.wh_step.proofs.EnumerationLaws.{reducts_of_steps}
use Rattle.wh_step.proofs.reducing.reducts.Goals as goal

pub reducts_below-requires-clause-plain : goal.reducts_below-requires-clause-plain
reducts_below-requires-clause-plain c = plain_whole (tm c.args.term.now) c.requires.fits c.requires.shut c.requires.plain

pub returns : goal.returns
returns c =
    let (S, made) = c.requires.well_made in
    let rules = rewrite_rules c.args.rules.now in
    let t = tm c.args.term.now in
    let found = map tm c.in_ok-found.found.items in
    IfOk-map (λ r. map tm r ≡ found) (λ r. AreReducts rules t (map tm r)) c.collected.result
    (λ r same. subst (AreReducts rules t) (sym same) (reducts_of_steps S made t found c.requires.shut c.requires.plain c.in_ok-found.ensures)) c.collected.ensures
