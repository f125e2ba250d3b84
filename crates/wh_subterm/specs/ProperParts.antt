-- Proper parts of a meta-term that are reached through arguments alone.
use Rattle.std.specs.Prelude.{◌≡◌, ◌⊎◌}
use Rattle.wh_terms.specs.Tree.{Tm, fun, app, head}

-- `Argument u t`: u is an argument of the spine t
pub data Argument : (u t : Tm) → Type 0 where
  last : {t u : Tm} → Argument u (app t u)
  front : {t u v : Tm} → Argument u t → Argument u (app t v)

-- the head of the spine is a symbol
abbrev pub IsSymbol : Tm → Type 0
IsSymbol (fun f) = Unit {0}
IsSymbol _ = ⊥

abbrev pub IsHeadedBySymbol : Tm → Type 0
IsHeadedBySymbol t = IsSymbol (head t)

-- `Part u t`: u is a proper part of t, reached through arguments of spines that symbols head: never through an
-- abstraction, a meta-application or a spine's head, and never t itself or a front part of a longer spine (ours)
pub data Part : (u t : Tm) → Type 0 where
  argument : {t u : Tm} → IsHeadedBySymbol t → Argument u t → Part u t
  deeper : {t u v : Tm} → IsHeadedBySymbol t → Argument v t → Part u v → Part u t

-- some argument of the spine t is u or has it as a part
abbrev pub SomeArgumentHas : Tm → Tm → Type 0
SomeArgumentHas u t = (v : Tm) × Argument v t × ((v ≡ u) ⊎ Part u v)
