use Rattle.std.proofs.Common.{arith}
use Rattle.wh_cert_parts.proofs.TermCode.{term_pop}
use Rattle.wh_cert_parts.proofs.term_reader.close_term.Goals as goal

pub returns : goal.returns
returns c =
    term_pop c.args.stack.now.items c.pop.new.self.items c.pop.result c.args.stack.now.len (omega (arith, c.args.stack.now.ok.0)) c.pop.ensures.items c.pop.ensures.variant
