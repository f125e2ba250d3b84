use Rattle.std.proofs.Common.{length, All, subst}
use Rattle.std.proofs.lemmas.List.Elements.{All-head, All-tail}
use Rattle.wh_types.specs.Ty.{SortsBelow}
use Rattle.wh_types.specs.Erase.{ty, tys}
use Rattle.wh_system_print.proofs.declarations.print_brackets.Goals as goal

pub print_type-requires : goal.print_type-requires
print_type-requires c =
    let n = length c.args.sorts.now in
    All-head (SortsBelow n) (ty c.in-Some.first.now) (tys c.in-Some.further.now) (subst (λ xs. All (SortsBelow n) (tys xs)) c.in-Some.ensures.cases.0 c.requires)

pub print_further-requires : goal.print_further-requires
print_further-requires c =
    let n = length c.args.sorts.now in
    All-tail (SortsBelow n) (ty c.in-Some.first.now) (tys c.in-Some.further.now) (subst (λ xs. All (SortsBelow n) (tys xs)) c.in-Some.ensures.cases.0 c.requires)
