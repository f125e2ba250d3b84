-- Facts on the value of a result.
use Rattle.std.specs.Prelude.{◌≡◌, refl, Result, Ok, Err, IfOk, Option, Some, None, MatchOption}

pub IfOk-map : {A E : Type 0} (P Q : A → Type 0) (r : Result A E) → ((a : A) → P a → Q a) → IfOk r P → IfOk r Q
IfOk-map P Q (Ok a) h p = h a p
IfOk-map P Q (Err e) h p = tt

pub MatchOption-none : {A : Type 0} (P : Type 0) (Q : A → Type 0) (o : Option A) → ((a : A) → o ≡ Some a → ⊥) → MatchOption o P Q → P
MatchOption-none P Q None none_is h = h
MatchOption-none P Q (Some a) none_is h = absurd (none_is a refl)
