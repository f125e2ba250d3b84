use Rattle.std.proofs.Common.{List, map, subst, sym, rules}
use Rattle.wh_terms.specs.Sight.{OccursIn}
use Rattle.wh_pairs.specs.PairData.{within}
use Rattle.wh_pairs.specs.declared.pair.Condition.{Condition}
use Rattle.wh_pairs.specs.Conditions.{AreAmong}
use Rattle.wh_pairs.proofs.AlikeLemmas.{tms_of_map}
use Rattle.wh_pairs_making.proofs.subsumption.subsumed.Goals as goal

pub returns-then-not-are_among : goal.returns-then-not-are_among
returns-then-not-are_among c = (
  λ no_way. cc,
  λ s. c.if-not-are_among.ensures.1 (subst (λ (ds : List Condition). AreAmong (map within c.as_slice.result.now) (map within ds)) (sym c.as_slice-2.ensures)
      (subst (λ (cs : List Condition). AreAmong (map within cs) (map within c.args.a.now.conditions)) (sym c.as_slice.ensures) s.conditions)),
)

pub returns : goal.returns
returns c =
    let right = c.args.a.now.right in
    let among : AreAmong (map within c.args.b.now.conditions) (map within c.args.a.now.conditions) =
    subst (λ (ds : List Condition). AreAmong (map within c.args.b.now.conditions) (map within ds)) c.as_slice-2.ensures
    (subst (λ (cs : List Condition). AreAmong (map within cs) (map within c.as_slice-2.result.now)) c.as_slice.ensures (c.are_among.ensures.0 (search rules))) in (
      λ yes. record {
        sides = record {
          rule = c.if-a-b.false;
          symbol = c.if-a-b-2.false;
          arguments = c.same_terms.ensures.0 (search rules);
          types = λ z o. c.all_declared_alike.ensures.0 yes z (subst (OccursIn z) (tms_of_map right) o);
        };
        conditions = among;
      },
      λ s. c.all_declared_alike.ensures.1 (λ z o. s.sides.types z (subst (OccursIn z) (sym (tms_of_map right)) o)),
    )
