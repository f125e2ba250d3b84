use Rattle.std.proofs.Common.{arith}
use Rattle.wh_order_text.proofs.InferenceCode.{stack_pop}
use Rattle.wh_order_text.proofs.inference_reader.pop_open.Goals as goal

pub returns : goal.returns
returns c =
    stack_pop c.args.stack.now.items c.pop.new.self.items c.pop.result c.args.stack.now.len (omega (arith, c.args.stack.now.ok.0)) c.pop.ensures.items c.pop.ensures.variant
