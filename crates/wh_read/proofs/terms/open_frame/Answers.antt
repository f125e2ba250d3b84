use Rattle.std.proofs.Common.{◌≡◌, vec_len, true, false, ap, sym, ◌∙◌, rules}
use Rattle.wh_read.specs.Reader as r
use Rattle.wh_read.proofs.HeldLaws.{level_of, open_tested}
use Rattle.wh_read.proofs.terms.open_frame.Goals as goal

pub returns-then-may_open : goal.returns-then-may_open
returns-then-may_open c =
    let levels : vec_len c.args.rule.value.frames ≡ c.len.result = search rules in
    λ parts. ap (r.inside parts) c.in_ok-opened.ensures
    ∙ sym (open_tested parts _ 400 c.len.result true _ (level_of c.args.rule.value.frames ∙ levels) (search rules))

pub returns-else-may_open : goal.returns-else-may_open
returns-else-may_open c =
    let levels : vec_len c.args.rule.value.frames ≡ c.len.result = search rules in
    λ parts. sym (open_tested parts _ 400 c.len.result false _ (level_of c.args.rule.value.frames ∙ levels) (search rules))
