use Rattle.wh_terms.specs.Erase.{tm}
use Rattle.wh_poly_guesses.specs.Conditions.{HasSymbol}
use Rattle.wh_poly_guesses.proofs.OkLemmas.{ok_as}
use Rattle.wh_poly_guesses.proofs.ListedLemmas.{listed}
use Rattle.wh_poly_guesses.proofs.uses.used_in_term.Goals as goal

pub returns : goal.returns
returns c =
    ok_as c.numbers_of.result _ _ (λ numbers lists. listed (λ n. HasSymbol n (tm c.args.term.now)) _ c.add_symbols.new.symbols.items c.deref.result.now numbers.items
    c.new-symbols.ensures.items c.deref.ensures.value c.in_ok-add_symbols.ensures lists) c.numbers_of.ensures
