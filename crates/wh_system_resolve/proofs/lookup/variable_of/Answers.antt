use Rattle.std.proofs.Common.{◌≡◌, Some, ap, sym, ◌∙◌, refl, rules, arith}
use Rattle.wh_terms.specs.Tree.{bound}
use Rattle.wh_system_resolve.proofs.LookupLemmas.{kind_at}
use Rattle.wh_system_resolve.proofs.lookup.variable_of.Goals as goal

pub returns : goal.returns
returns c =
    let same : c.args.number ≡ c.in-Ok.outward = first_of (search rules, omega arith, omega (arith, c.in-Ok.ensures), cc) in
    record {
      passed = refl;
      term = ap (λ n. Some (bound n)) same;
      kind = kind_at c.args.passed.now c.args.number c.index-passed-passed.result c.requires c.index-passed-passed.is ∙ ap Some (sym c.in_ok-copy.ensures);
    }
