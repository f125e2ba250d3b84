use Rattle.wh_terms.specs.Erase.{tms as trees}
use Rattle.wh_poly_guesses.specs.Conditions.{SomeHasSymbol}
use Rattle.wh_poly_guesses.proofs.ListedLemmas.{listed, listed_mark}
use Rattle.wh_poly_guesses.proofs.uses.used_in_terms.Goals as goal

pub returns : goal.returns
returns c =
    listed_mark (λ n. SomeHasSymbol n (trees c.args.terms.now)) c.in_ok-numbers.numbers.items c.push.new.self.items c.args.mark c.in_ok-push.ensures.items
    (listed (λ n. SomeHasSymbol n (trees c.args.terms.now)) _ c.add_symbols_of_all.new.symbols.items c.deref.result.now c.in_ok-numbers.numbers.items
    c.new-symbols.ensures.items c.deref.ensures.value c.in_ok-add_symbols_of_all.ensures c.in_ok-numbers.ensures)
