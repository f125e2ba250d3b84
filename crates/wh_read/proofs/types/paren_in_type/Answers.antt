use Rattle.std.proofs.Common.{ap, sym, ◌∙◌, arith}
use Rattle.wh_read.specs.Held as held
use Rattle.wh_read.specs.Reader as r
use Rattle.wh_read.proofs.HeldLaws.{outer_of, open_under, open_over}
use Rattle.wh_read.proofs.types.paren_in_type.Goals as goal

pub returns-then-len-ge-DEEPEST_TYPE : goal.returns-then-len-ge-DEEPEST_TYPE
returns-then-len-ge-DEEPEST_TYPE c =
    λ parts. sym (open_over parts _ 16 c.len.result _ (outer_of c.args.started.outer ∙ sym c.len.ensures) c.if-len-ge-DEEPEST_TYPE.true)

pub returns : goal.returns
returns c =
    λ parts. ap (λ t. r.inside parts (r.want_atype (held.purpose c.args.purpose) t)) c.in_ok-inner.ensures
    ∙ sym (open_under parts _ 16 c.len.result _ (outer_of c.args.started.outer ∙ sym c.len.ensures) (omega (arith, c.if-len-ge-DEEPEST_TYPE.false)))
