-- The two pairs are those that are compared.
use Rattle.std.proofs.Common.{◌-◌, get_or, ap, sym, ◌∙◌, eqb-true, arith}
use Rattle.wh_pairs.specs.PairData.{PairData, pair_data}
use Rattle.wh_pairs.specs.declared.pair.Pair.{Pair}
use Rattle.wh_pairs.proofs.ByPlace.{some_one, read_map}
use Rattle.wh_intern_pairs.proofs.numbering.follows_its_rule.Goals as goal

pub returns-clause-one : goal.returns-clause-one
returns-clause-one c = λ same p q at also.
    let xs = c.args.pairs.now in
    let x = c.index-pairs-place.result in
    let y = c.index-pairs-place-2.result in
    let left = some_one (read_map pair_data xs (c.args.place - 1) x (omega arith) c.index-pairs-place.is) at in
    let right = some_one (read_map pair_data xs c.args.place y (omega arith) c.index-pairs-place-2.is) also in
    sym (ap (λ (r : PairData). r.rule) left) ∙ ap (λ (z : Pair). z.rule) c.index-pairs-place.is
    ∙ eqb-true (get_or xs (c.args.place - 1) x).rule (get_or xs c.args.place y).rule same
    ∙ sym (ap (λ (z : Pair). z.rule) c.index-pairs-place-2.is) ∙ ap (λ (r : PairData). r.rule) right
