use Rattle.std.proofs.Common.{ap, ◌∙◌}
use Rattle.wh_hopoly.specs.Erase.{transfers}
use Rattle.wh_poly_moves.proofs.FlowSteps.{gives_first}
use Rattle.wh_poly_moves.proofs.Moves.{transfers_push}
use Rattle.wh_poly_moves.proofs.flow.Flow.give_first.Goals as goal

pub returns-clause-given : goal.returns-clause-given
returns-clause-given c = gives_first c.args.self.now c.spend.new.self c.args.giver c.args.taker c.args.amount
    c.requires.giver_here c.requires.taker_here c.requires.free c.requires.wanted c.requires.first c.spend.ensures.free c.spend.ensures.want
    (ap transfers (c.spend.ensures.moves ∙ c.in_ok-push.ensures.items) ∙ transfers_push c.args.self.now.moves.items _)
