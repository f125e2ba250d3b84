use Rattle.std.proofs.Common.{inl, inr}
use Rattle.wh_terms.specs.Erase.{tm}
use Rattle.wh_graph.proofs.RootLemmas.{same_root_from_names, names_from_same_root}
use Rattle.wh_graph.proofs.root.same_root.Goals as goal
use Rattle.wh_graph.proofs.root.same_root.Goals.{then-is_abstraction, else-is_abstraction}

pub returns-else-is_abstraction-2 : goal.returns-else-is_abstraction-2
returns-else-is_abstraction-2 c =
    let q = tm c.args.a.now in
    let p = tm c.args.b.now in (
      λ is. same_root_from_names q p (c.same_names.ensures.0 is),
      λ same. elim (names_from_same_root q p same) [
        | inl both ↦ elim c.if-is_abstraction.branch [
          | then-is_abstraction w ↦ cc (w.is_abstraction-then-is_abstraction.ensures.1 both.1, w.value-is)
          | else-is_abstraction w ↦ cc (c.is_abstraction.ensures.1 both.0)
        ]
        | inr names ↦ c.same_names.ensures.1 names
      ],
    )
