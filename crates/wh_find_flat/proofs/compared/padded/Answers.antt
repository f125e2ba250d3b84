use Rattle.std.proofs.Common.{rules, ◌≡◌, ◌++◌, [], ◌∷◌, List, length, arith, sym, ◌∙◌, ap, subst, length-append}
use Rattle.wh_sat_trail.specs.declared.literal.Literal.{Literal}
use Rattle.wh_sat_trail.specs.Assignment.{AllBelow}
use Rattle.wh_circuit.specs.Values.{number_of}
use Rattle.wh_circuit.proofs.Folding.{below_push}
use Rattle.wh_find_flat.proofs.RowLemmas.{number_longer}
use Rattle.wh_find_flat.proofs.compared.padded.Goals as goal

pub loop-preserved : goal.loop-preserved
loop-preserved c =
    let made : List Literal = c.loop.made.items in
    let z = c.args.zero in
    let is : c.push.new.self.items ≡ made ++ z ∷ [] = search rules in
    record {
      width = omega (arith, ap length is, length-append made (z ∷ []), c.loop.invariant.width);
      own = λ n a h. subst (AllBelow n) (sym is) (below_push n made z (c.loop.invariant.own n a h) h);
      same = λ v f. ap (number_of v) is ∙ number_longer v made z f ∙ c.loop.invariant.same v f;
    }
