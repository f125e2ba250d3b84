-- Whether a tree is another, or a proper part of it, is decided.
use Rattle.std.proofs.Common.{◌≡◌, inl, inr, Bool, true, false, refl, subst}
use Rattle.wh_terms.specs.Tree.{Tm, fun, app, head}
use Rattle.wh_system.proofs.TypedDecided.{Decided, decided_by, both_decided}
use Rattle.wh_step_laws.proofs.SameTree.{same_tm, same_tm-equal, same_tm-self}
use Rattle.wh_subterm.specs.ProperParts.{IsSymbol, Part, SomeArgumentHas}
use Rattle.wh_subterm.proofs.PartLemmas.{part_from_argument, argument_from_part, last_has, front_has, has_cases}
use Rattle.wh_pairs.proofs.Searches.{either_decided}

pub tree_decided : (t u : Tm) → Decided (t ≡ u)
tree_decided t u = go (same_tm t u) refl
  where
    go : (b : Bool) → same_tm t u ≡ b → Decided (t ≡ u)
    go true e = inl (same_tm-equal t u e)
    go false e = inr (λ same. let yes : same_tm t u ≡ true = subst (λ v. same_tm t v ≡ true) same (same_tm-self t) in cc (yes, e))

symbol_decided : (h : Tm) → Decided (IsSymbol h)
symbol_decided (fun f) = inl tt
symbol_decided h = inr (λ is. is)

part_by_argument : (u t : Tm) → Decided (SomeArgumentHas u t) → Decided (Part u t)
part_by_argument u t has =
    decided_by (λ (headed, there). part_from_argument u t headed there) (argument_from_part u t) (both_decided (symbol_decided (head t)) has)

has_decided : (u t : Tm) → Decided (SomeArgumentHas u t)
has_decided u (app t v) =
    decided_by (λ e. elim e [ inl here ↦ last_has u t v here | inr before ↦ front_has u t v before ]) (has_cases u t v)
    (either_decided (either_decided (tree_decided v u) (part_by_argument u v (has_decided u v))) (has_decided u t))
has_decided u t = inr (λ (v, at, here). elim at [ ])

pub part_decided : (u t : Tm) → Decided (Part u t)
part_decided u t = part_by_argument u t (has_decided u t)
