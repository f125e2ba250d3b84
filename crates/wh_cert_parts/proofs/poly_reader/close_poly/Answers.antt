use Rattle.std.proofs.Common.{arith}
use Rattle.wh_cert_parts.proofs.PolyCode.{poly_pop}
use Rattle.wh_cert_parts.proofs.poly_reader.close_poly.Goals as goal

pub returns : goal.returns
returns c =
    poly_pop c.args.stack.now.items c.pop.new.self.items c.pop.result c.args.stack.now.len (omega (arith, c.args.stack.now.ok.0)) c.pop.ensures.items c.pop.ensures.variant
