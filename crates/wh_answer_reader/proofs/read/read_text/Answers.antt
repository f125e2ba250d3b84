use Rattle.std.proofs.Common.{◌∙◌, ap}
use Rattle.wh_answer_reader.specs.Seen.{seen}
use Rattle.wh_answer_reader.proofs.Cut.{line_by_words}
use Rattle.wh_answer_reader.proofs.read.read_text.Goals as goal

pub returns : goal.returns
returns c =
    line_by_words c.args.text.now (seen c.as_slice.result.now) c.read_words.result (ap seen c.as_slice.ensures.value ∙ c.in_ok-words.ensures) c.read_words.ensures
