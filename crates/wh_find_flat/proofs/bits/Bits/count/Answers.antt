use Rattle.std.proofs.Common.{◌≡◌, ◌+◌, length, get_or, arith, ap, ◌∙◌}
use Rattle.wh_poly_blocking.proofs.BitLemmas.{first_all}
use Rattle.wh_find_flat.proofs.BitsLemmas.{there}
use Rattle.wh_find_flat.proofs.bits.Bits.count.Goals as goal

pub returns : goal.returns
returns c =
    let long : length c.args.self.now.firsts.items ≡ length c.args.self.now.sizes.items + 1 = c.args.self.now.count in
    let n = length c.args.self.now.sizes.items in
    let at : c.len.result ≡ n = omega (arith, c.len.ensures) in
    c.index.ensures ∙ ap (λ k. get_or c.args.self.now.firsts.items k c.index.result.now) at
    ∙ there c.args.self.now.firsts.items n c.index.result.now 0 (omega (arith, long)) ∙ c.args.self.now.each n (omega arith) ∙ first_all c.args.self.now.sizes.items
