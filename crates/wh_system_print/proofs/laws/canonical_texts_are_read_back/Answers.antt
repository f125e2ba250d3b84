-- What is printed is cut into tokens that spell the canonical parts.
use Rattle.wh_system_print.proofs.ReadBack.{text_read_back}
use Rattle.wh_system_print.proofs.laws.canonical_texts_are_read_back.Goals as goal

pub returns : goal.returns
returns c d made = text_read_back d made
