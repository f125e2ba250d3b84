-- A part that begins otherwise is no instance; else the opened part tells.
use Rattle.std.proofs.Common.{length, ap, arith}
use Rattle.wh_terms.specs.Erase.{tm, symbols}
use Rattle.wh_terms.proofs.TypingLaws.{typed_term}
use Rattle.wh_step.proofs.RedexLemmas.{manageable_fit}
use Rattle.wh_loop_starts.proofs.PlaceLemmas.{part_facts, other_head}
use Rattle.wh_loop_starts.proofs.instance.instance_at.Goals as goal

pub returns-then-not-has_same_head : goal.returns-then-not-has_same_head
returns-then-not-has_same_head c =
    other_head (symbols c.args.search.now.signature.now) (tm c.args.search.now.start.now) (tm c.args.search.now.term.now) (tm c.args.here.now) c.args.steps.now c.requires.ready.headed c.requires.here
    (λ same. let yes = c.has_same_head.ensures.1 same in let no = c.if-not-has_same_head.true in absurd (cc))

pub path_of-requires : goal.path_of-requires
path_of-requires c = (part_facts c.args.steps.now (tm c.args.search.now.term.now) (tm c.args.here.now) c.requires.here).0

pub first_unused-first-requires-clause-plain : goal.first_unused-first-requires-clause-plain
first_unused-first-requires-clause-plain c = typed_term (tm c.args.search.now.start.now) c.requires.ready.typed.1

pub opened_at-requires-clause-in_range : goal.opened_at-requires-clause-in_range
opened_at-requires-clause-in_range c = manageable_fit (tm c.args.search.now.term.now) c.requires.searchable.small.fits c.requires.searchable.shut

pub opened_at-requires-clause-numbers : goal.opened_at-requires-clause-numbers
opened_at-requires-clause-numbers c =
    let within = (part_facts c.args.steps.now (tm c.args.search.now.term.now) (tm c.args.here.now) c.requires.here).1 in
    omega (arith, within, c.requires.searchable.small.small, c.requires.ready.low, c.first_unused-first.ensures, ap length c.in_ok-at.ensures)
