use Rattle.std.proofs.Common.{◌≡◌, vec_len, is_some, true, false, sym, ◌∙◌, rules}
use Rattle.wh_read.specs.Held as held
use Rattle.wh_read.proofs.HeldLaws.{level_of, open_tested, begins_empty}
use Rattle.wh_read.proofs.terms.lambda_begins.Goals as goal

pub returns-else-opens_in_system : goal.returns-else-opens_in_system
returns-else-opens_in_system c =
    let levels : vec_len c.args.rule.value.frames ≡ c.len.result = search rules in
    let empty : is_some c.args.rule.value.before ≡ false = search rules in
    λ parts. sym (begins_empty parts (held.rule c.args.rule) c.args.rule.value.before c.args.at empty
    ∙ open_tested parts _ 400 c.len.result false _ (level_of c.args.rule.value.frames ∙ levels) (search rules))

pub returns-then-opens_in_system : goal.returns-then-opens_in_system
returns-then-opens_in_system c =
    let levels : vec_len c.args.rule.value.frames ≡ c.len.result = search rules in
    let empty : is_some c.args.rule.value.before ≡ false = search rules in
    λ parts. sym (begins_empty parts (held.rule c.args.rule) c.args.rule.value.before c.args.at empty
    ∙ open_tested parts _ 400 c.len.result true _ (level_of c.args.rule.value.frames ∙ levels) (search rules))
