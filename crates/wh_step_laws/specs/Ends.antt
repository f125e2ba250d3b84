-- `Ends`: no endless descent goes out from a thing, by any relation.
use Rattle.std.specs.Prelude.{◌≤◌, List, ◌∷◌, length}
use Rattle.wh_step.specs.Reduction.{Walk}

-- `Ends R a`: a is accessible, that is, all that R leads to from a is; so no walk by R from a goes on for ever (Aczel
-- 1977)
pub data Ends {A : Type 0} (R : A → A → Type 0) : A → Type 0 where
  ends : {a : A} → ((b : A) → R a b → Ends R b) → Ends R a

-- there is a longest walk by R from a
pub record Longest {A : Type 0} (R : A → A → Type 0) (a : A) : Type 0 where
  pub walk : List A
  pub walked : Walk R a walk
  pub longest : (l : List A) → Walk R a l → length l ≤ length walk

-- `StepsIn R l m`: one member of l steps by R, the others stay (ours)
pub data StepsIn {A : Type 0} (R : A → A → Type 0) : List A → List A → Type 0 where
  step_here : {a b : A} {l : List A} → R a b → StepsIn R (a ∷ l) (b ∷ l)
  step_there : {a : A} {l m : List A} → StepsIn R l m → StepsIn R (a ∷ l) (a ∷ m)
