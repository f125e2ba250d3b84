use Rattle.std.proofs.Common.{List, map, inl, inr, not, ap, subst, sym}
use Rattle.wh_terms.specs.Erase.{tm}
use Rattle.wh_terms.specs.declared.term.Term.{Term}
use Rattle.wh_pairs.specs.PairData.{pair_data}
use Rattle.wh_subterm.specs.Projections.{IsProjected}
use Rattle.wh_subterm.specs.SubtermRows.{chosen}
use Rattle.wh_subterm.proofs.ProjectionLemmas.{unprojected, decreasing_part, decreasing_same, decreasing_cases}
use Rattle.wh_subterm.proofs.decrease.is_decreasing.Goals as goal

pub returns-in_default : goal.returns-in_default
returns-in_default c = (
  λ no_way. cc,
  λ decreasing. absurd (unprojected (map chosen c.args.args.now) (pair_data c.args.pair.now) c.args.dropped (λ t u left right. c.in_default.ensures t
      (subst (λ (ts : List Term). IsProjected (map chosen c.args.args.now) c.args.pair.now.left_fun (map tm ts) t) (sym c.deref.ensures) left)) decreasing),
)

pub returns-in_default-projected : goal.returns-in_default-projected
returns-in_default-projected c = (
  λ no_way. cc,
  λ decreasing. absurd (unprojected (map chosen c.args.args.now) (pair_data c.args.pair.now) c.args.dropped (λ t u left right. c.in_default-projected.ensures u right) decreasing),
)

pub returns-then-has_part : goal.returns-then-has_part
returns-then-has_part c = (
  λ is. decreasing_part (map chosen c.args.args.now) (pair_data c.args.pair.now) (tm c.in-Some.left.now) (tm c.in-Some-projected.right.now) c.args.dropped
      (subst (λ (ts : List Term). IsProjected (map chosen c.args.args.now) c.args.pair.now.left_fun (map tm ts) (tm c.in-Some.left.now)) c.deref.ensures c.in-Some.ensures) c.in-Some-projected.ensures (c.has_part.ensures.0 is),
  λ _. c.if-has_part.true,
)

pub returns-then-not-dropped : goal.returns-then-not-dropped
returns-then-not-dropped c =
    let args = map chosen c.args.args.now in
    let a = pair_data c.args.pair.now in
    let t = tm c.in-Some.left.now in
    let u = tm c.in-Some-projected.right.now in
    let projects = subst (λ (ts : List Term). IsProjected (map chosen c.args.args.now) c.args.pair.now.left_fun (map tm ts) (tm c.in-Some.left.now)) c.deref.ensures c.in-Some.ensures in (
      λ is. decreasing_same args a t u c.args.dropped c.if-not-dropped.true projects c.in-Some-projected.ensures (c.same.ensures.0 is),
      λ decreasing. elim (decreasing_cases args a t u c.args.dropped c.requires projects c.in-Some-projected.ensures decreasing) [
        | inl part ↦ cc (c.has_part.ensures.1 part, c.if-has_part.false)
        | inr equal ↦ c.same.ensures.1 equal.1
      ],
    )

pub returns-else-not-dropped : goal.returns-else-not-dropped
returns-else-not-dropped c =
    let args = map chosen c.args.args.now in
    let a = pair_data c.args.pair.now in
    let t = tm c.in-Some.left.now in
    let u = tm c.in-Some-projected.right.now in
    let projects = subst (λ (ts : List Term). IsProjected (map chosen c.args.args.now) c.args.pair.now.left_fun (map tm ts) (tm c.in-Some.left.now)) c.deref.ensures c.in-Some.ensures in (
      λ is. cc (ap not c.if-not-dropped.false, is),
      λ decreasing. elim (decreasing_cases args a t u c.args.dropped c.requires projects c.in-Some-projected.ensures decreasing) [
        | inl part ↦ cc (c.has_part.ensures.1 part, c.if-has_part.false)
        | inr equal ↦ cc (equal.0, c.if-not-dropped.false)
      ],
    )
