-- A path longer than the term is large leads nowhere.
use Rattle.std.proofs.Common.{◌<◌, length, subst, arith}
use Rattle.wh_terms.specs.Tree.{bound}
use Rattle.wh_terms.specs.Erase.{tm}
use Rattle.wh_terms.specs.Substitution.{act}
use Rattle.wh_step.proofs.RedexLemmas.{manageable_fit}
use Rattle.wh_no.specs.Claim.{put_for}
use Rattle.wh_no.specs.Entry.{entry_puts}
use Rattle.wh_no.specs.Unused.{first_unused}
use Rattle.wh_no.proofs.Reaching.{reaches, path_within}
use Rattle.wh_no.proofs.instance.check_instance.Goals as goal

pub returns-then-as_slice-gt-MOST_SIZE : goal.returns-then-as_slice-gt-MOST_SIZE
returns-then-as_slice-gt-MOST_SIZE c = λ e.
    let t = tm c.args.term.now in
    let there = reaches c.args.at.now (first_unused t) (tm c.args.last.now) (act bound (put_for (entry_puts c.args.entries.now)) t) e in
    let long = subst (λ l. 65536 < length l) c.as_slice.ensures.steps c.if-as_slice-gt-MOST_SIZE.true in
    absurd (omega (arith, path_within there, c.requires.fits.small, long))

pub opened_at-requires-clause-in_range : goal.opened_at-requires-clause-in_range
opened_at-requires-clause-in_range c = manageable_fit (tm c.args.last.now) c.requires.fits c.requires.closed
