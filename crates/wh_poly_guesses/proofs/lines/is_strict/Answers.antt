use Rattle.std.proofs.Common.{◌↔◌, Bool, IsTrue, List, MatchResult, sym, subst}
use Rattle.wh_poly.specs.Erase.{poly}
use Rattle.wh_hopoly.specs.Erase.{transfers}
use Rattle.wh_hopoly.specs.Moves.{IsStrictCover}
use Rattle.wh_hopoly.specs.declared.expression.Move.{Move}
use Rattle.wh_polycheck.specs.CoverFaults.{IsFirstStrictCoverFault}
use Rattle.wh_poly_covering.proofs.SideLemmas.{few_of_side}
use Rattle.wh_poly_guesses.proofs.LineLemmas.{strict_decided}
use Rattle.wh_poly_guesses.proofs.lines.is_strict.Goals as goal

pub check_strict-requires-clause-few_left : goal.check_strict-requires-clause-few_left
check_strict-requires-clause-few_left c = few_of_side c.args.left.now c.requires.left

pub check_strict-requires-clause-few_right : goal.check_strict-requires-clause-few_right
check_strict-requires-clause-few_right c = few_of_side c.args.right.now c.requires.right

pub returns : goal.returns
returns c =
    let p = poly c.args.left.now in
    let q = poly c.args.right.now in
    let ms = c.args.moves.now in
    subst (λ (b : Bool). IsTrue b ↔ IsStrictCover p q (transfers ms)) (sym c.is_ok.ensures.value)
    (strict_decided p q (transfers ms) c.check_strict.result
    (subst (λ (ms : List Move). MatchResult c.check_strict.result (λ _. IsStrictCover p q (transfers ms)) (IsFirstStrictCoverFault p q (transfers ms))) c.as_slice.ensures c.check_strict.ensures))
