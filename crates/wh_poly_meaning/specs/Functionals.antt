-- Weakly monotone functionals over the numbers, by recursion on simple types (Fuhs and Kop 2012).
use Rattle.std.specs.Prelude.{ℕ, ◌≤◌}
use Rattle.wh_types.specs.Ty.{Ty, sort, ◌⇒◌}

-- the values of a type: numbers at a sort, all functions at an arrow (Fuhs and Kop 2012)
abbrev pub Sem : Ty → Type 0
Sem (sort s) = ℕ
Sem (A ⇒ B) = Sem A → Sem B

abbrev mutual
  -- a value is monotone if it takes monotone values to monotone values, and greater ones to ones at least as great
  -- (Fuhs and Kop 2012)
  pub Mono : (A : Ty) → Sem A → Type 0
  Mono (sort s) n = Unit {0}
  Mono (A ⇒ B) f =
      ((x : Sem A) → Mono A x → Mono B (f x)) × ((x y : Sem A) → Mono A x → Mono A y → Le A x y → Le B (f x) (f y))

  -- a value is at most another if it is so at all monotone arguments (Fuhs and Kop 2012)
  pub Le : (A : Ty) → Sem A → Sem A → Type 0
  Le (sort s) m n = m ≤ n
  Le (A ⇒ B) f g = (x : Sem A) → Mono A x → Le B (f x) (g x)

-- the value that is 0 at all arguments (Fuhs and Kop 2012)
abbrev pub nothing : (A : Ty) → Sem A
nothing (sort s) = 0
nothing (A ⇒ B) = λ a. nothing B
