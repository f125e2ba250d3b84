-- How a head with arguments steps: in the head, in an argument, by a front part, or by opening an abstraction.
use Rattle.std.specs.Prelude.{◌≡◌, List, ◌∷◌, ◌++◌}
use Rattle.wh_terms.specs.Tree.{Tm, spine}
use Rattle.wh_terms.specs.Substitution.{opened}
use Rattle.wh_step_laws.specs.Ends.{StepsIn}

-- h itself steps by R, and v is the result with the arguments ts
abbrev pub HeadStep : (Tm → Tm → Type 0) → Tm → List Tm → Tm → Type 0
HeadStep R h ts v = (w : Tm) × R h w × (v ≡ spine w ts)

-- one of the arguments ts of h steps by R, and v is the result
abbrev pub ArgumentStep : (Tm → Tm → Type 0) → Tm → List Tm → Tm → Type 0
ArgumentStep R h ts v = (us : List Tm) × StepsIn R ts us × (v ≡ spine h us)

-- h with the first of its arguments ts is related by R to some tree, and v is that tree with the arguments that are
-- left
abbrev pub FrontStep : (Tm → Tm → Type 0) → Tm → List Tm → Tm → Type 0
FrontStep R h ts v = (us ws : List Tm) × (w : Tm) × (ts ≡ us ++ ws) × R (spine h us) w × (v ≡ spine w ws)

-- the first of the arguments ts opens the body t, and v is the result with the arguments that are left
abbrev pub OpeningStep : Tm → List Tm → Tm → Type 0
OpeningStep t ts v = (u : Tm) × (us : List Tm) × (ts ≡ u ∷ us) × (v ≡ spine (opened u t) us)
