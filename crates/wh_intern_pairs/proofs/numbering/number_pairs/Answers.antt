use Rattle.std.proofs.Common.{◌↔◌, ◌⊎◌, Contains, map, subst}
use Rattle.wh_terms.specs.Tree.{Tm}
use Rattle.wh_pairs.specs.PairData.{pair_data}
use Rattle.wh_intern.specs.TableTrees.{trees}
use Rattle.wh_intern_pairs.specs.NumberedSides.{IsPartOfSides}
use Rattle.wh_intern_pairs.proofs.EntryLaws.{sides_joined}
use Rattle.wh_intern_pairs.proofs.numbering.number_pairs.Goals as goal

pub returns-clause-parts : goal.returns-clause-parts
returns-clause-parts c =
    let a = trees c.args.table.now in
    let b = trees c.numbered.new.table in
    subst (λ qs. (s : Tm) → Contains b s ↔ (Contains a s ⊎ IsPartOfSides (map pair_data qs) s)) c.as_slice.ensures
    (sides_joined a b c.in_ok-list.list (map pair_data c.as_slice.result.now) c.in_ok-list.ensures.sides c.numbered.ensures.joins c.has_parts.ensures.there)
