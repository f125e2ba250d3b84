use Rattle.std.proofs.Common.{◌∙◌, ap, arith}
use Rattle.std.specs.List.{prefix_len}
use Rattle.wh_text.specs.Chars.{is_comment}
use Rattle.wh_text.proofs.CutLemmas.{comment_gap}
use Rattle.wh_text.proofs.cut.comment_end.Goals as goal

pub overflow_add-result-2 : goal.overflow_add-result-2
overflow_add-result-2 c = omega (arith, c.comment_run.ensures.within, c.split_at.ensures.back_len)

pub returns : goal.returns
returns c =
    comment_gap c.args.bytes.now c.args.at c.comment_run.result c.requires.room c.requires.mark (c.comment_run.ensures.run ∙ ap (prefix_len is_comment) c.split_at.ensures.back)
