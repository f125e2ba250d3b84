use Rattle.wh_poly.specs.Erase.{poly}
use Rattle.wh_hopoly.specs.Erase.{transfers}
use Rattle.wh_poly_guesses.specs.Lines.{IsLine, IsNotMet}
use Rattle.wh_poly_guesses.proofs.LineLemmas.{matched_some, matched_none, few_moves, pair_line_of}
use Rattle.wh_poly_guesses.proofs.lines.strict_line.Goals as goal

pub is_strict-strict-requires-clause-few : goal.is_strict-strict-requires-clause-few
is_strict-strict-requires-clause-few c =
    let (a, l) = c.requires.left in
    let (b, r) = c.requires.right in
    few_moves a b c.in-Some.moves (matched_some c.in_ok-moves.field-0 c.in-Some.moves (IsNotMet a b) (λ ms. IsLine a b (transfers ms)) c.in-Some.is (c.in_ok-moves.ensures a b l r))

pub returns-in-Some : goal.returns-in-Some
returns-in-Some c a b l r =
    pair_line_of a b (poly c.args.left.now) (poly c.args.right.now) _ l r
    (matched_some c.in_ok-moves.field-0 c.in-Some.moves (IsNotMet a b) (λ ms. IsLine a b (transfers ms)) c.in-Some.is (c.in_ok-moves.ensures a b l r)) c.is_strict-strict.ensures

pub returns-in-None : goal.returns-in-None
returns-in-None c a b l r = matched_none c.in_ok-moves.field-0 (IsNotMet a b) (λ ms. IsLine a b (transfers ms)) c.in-None.is (c.in_ok-moves.ensures a b l r)
