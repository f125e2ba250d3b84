-- The redex that the walk finds, read on a term without loose variables.
use Rattle.std.proofs.Common.{subst}
use Rattle.wh_terms.specs.Erase.{tm, rewrite_rules}
use Rattle.wh_step.proofs.PlaceLemmas.{plain_whole}
use Rattle.wh_step_outermost.specs.Redexes.{HasNone, IsFirst, redex_of}
use Rattle.wh_step_outermost.proofs.FirstRedexes.{Told, normal_if_none, steps_first_as, first_path}
use Rattle.wh_step_outermost.proofs.searching.next_step.Goals as goal

pub next_below-requires-clause-plain : goal.next_below-requires-clause-plain
next_below-requires-clause-plain c = plain_whole (tm c.args.term.now) c.requires.fits c.requires.shut c.requires.plain

pub as_step-requires : goal.as_step-requires
as_step-requires c =
    let rules = rewrite_rules c.args.rules.now in
    let t = tm c.args.term.now in
    let found : IsFirst rules t (redex_of c.in-Some.found) = subst (Told rules t) c.in-Some.is c.in_ok-found.ensures in
    first_path rules t (redex_of c.in-Some.found) found

pub returns-in_ok-as_step-in-Some : goal.returns-in_ok-as_step-in-Some
returns-in_ok-as_step-in-Some c =
    let (S, made) = c.requires.well_made in
    let rules = rewrite_rules c.args.rules.now in
    let t = tm c.args.term.now in
    let found : IsFirst rules t (redex_of c.in-Some.found) = subst (Told rules t) c.in-Some.is c.in_ok-found.ensures in
    steps_first_as S made t c.requires.shut c.requires.plain (redex_of c.in-Some.found) c.in_ok-as_step-in-Some.field-0 found c.in_ok-as_step-in-Some.ensures.0 c.in_ok-as_step-in-Some.ensures.1

pub returns-in-None : goal.returns-in-None
returns-in-None c =
    let (S, made) = c.requires.well_made in
    let rules = rewrite_rules c.args.rules.now in
    let t = tm c.args.term.now in
    let none : HasNone rules t = subst (Told rules t) c.in-None.is c.in_ok-found.ensures in
    normal_if_none S made t none
