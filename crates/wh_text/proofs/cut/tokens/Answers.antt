use Rattle.std.proofs.Common.{◌≡◌, ℕ, List, [], drop, sym, subst}
use Rattle.std.proofs.lemmas.List.{append-nil, drop_all}
use Rattle.wh_text.specs.Tokens.{Token, whole, Cuts, ended}
use Rattle.wh_text.specs.Erase as erase
use Rattle.wh_text.proofs.cut.tokens.Goals as goal

-- at the end nothing more is cut
pub returns : goal.returns
returns c =
    let text = c.args.bytes.now in
    let ts = erase.tokens text c.loop-at.found in
    let none : [] ≡ drop c.loop-at.at text = sym (drop_all c.loop-at.at text c.loop-at-test.false) in
    let last : Cuts c.loop-at.at (drop c.loop-at.at text) [] whole = subst (λ (s : List ℕ). Cuts c.loop-at.at s [] whole) none ended in
    subst (λ (us : List Token). Cuts 0 text us whole) (append-nil ts) (c.loop-at.invariant.joins [] whole last)
