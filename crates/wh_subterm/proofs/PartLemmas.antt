-- Parts, case by case.
use Rattle.std.proofs.Common.{◌≡◌, ◌⊎◌, inl, inr, refl, subst}
use Rattle.wh_terms.specs.Tree.{Tm, app}
use Rattle.wh_subterm.specs.ProperParts.{last, front, IsHeadedBySymbol, Part, argument, deeper, SomeArgumentHas}

pub part_from_argument : (u t : Tm) → IsHeadedBySymbol t → SomeArgumentHas u t → Part u t
part_from_argument u t headed (v, at, inl same) = subst (λ w. Part w t) same (argument headed at)
part_from_argument u t headed (v, at, inr part) = deeper headed at part

pub argument_from_part : (u t : Tm) → Part u t → IsHeadedBySymbol t × SomeArgumentHas u t
argument_from_part u t (argument headed at) = (headed, (u, at, inl refl))
argument_from_part u t (deeper {v = v} headed at part) = (headed, (v, at, inr part))

pub last_has : (u t v : Tm) → (v ≡ u) ⊎ Part u v → SomeArgumentHas u (app t v)
last_has u t v here = (v, last, here)

pub front_has : (u t v : Tm) → SomeArgumentHas u t → SomeArgumentHas u (app t v)
front_has u t v (w, at, here) = (w, front at, here)

pub has_cases : (u t v : Tm) → SomeArgumentHas u (app t v) → ((v ≡ u) ⊎ Part u v) ⊎ SomeArgumentHas u t
has_cases u t v (w, last, here) = inl here
has_cases u t v (w, front at, here) = inr (w, at, here)
