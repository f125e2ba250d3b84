use Rattle.wh_cert_machines.proofs.YesCode.{word_goes_on}
use Rattle.wh_cert_machines.proofs.yes_line.YesLine.step_word.Goals as goal

pub returns-then-at-word-2 : goal.returns-then-at-word-2
returns-then-at-word-2 c =
    word_goes_on c.args.behind c.args.self.now c.args.at c.args.byte c.spelling-word.result.now (c.spelling-word.ensures c.args.self.now) c.if-at-word-2.true c.if-byte-word.false
