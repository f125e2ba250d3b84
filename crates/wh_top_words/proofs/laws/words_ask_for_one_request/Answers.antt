use Rattle.wh_top_words.proofs.OneRequest.{one_request}
use Rattle.wh_top_words.proofs.laws.words_ask_for_one_request.Goals as goal

pub returns : goal.returns
returns c words a b asks also = one_request words a b asks also
