-- Answers that say more, case by case.
use Rattle.std.proofs.Common.{◌≡◌, Bool, true, false, Option, Some, None, Result, Ok, Err}
use Rattle.std.specs.Prelude.{IfOk, MatchBool, MatchOption}

-- what a call that may fail says of nothing and of something
pub answer_more : {T E : Type 0} (r : Result (Option T) E) (P P' : Type 0) (Q Q' : T → Type 0) → IfOk r (λ o. MatchOption o P Q) → (P → P') → ((x : T) → Q x → Q' x) → IfOk r (λ o. MatchOption o P' Q')
answer_more (Ok None) P P' Q Q' h f g = f h
answer_more (Ok (Some x)) P P' Q Q' h f g = g x h
answer_more (Err e) P P' Q Q' h f g = tt

pub no_answer : {T : Type 0} (o : Option T) (P : Type 0) (Q : T → Type 0) → o ≡ None → MatchOption o P Q → P
no_answer None P Q e h = h
no_answer (Some x) P Q e h = absurd (cc)

-- what a test says of its two cases
pub test_more : (b : Bool) (P P' Q Q' : Type 0) → MatchBool b P Q → (P → P') → (Q → Q') → MatchBool b P' Q'
test_more true P P' Q Q' h f g = f h
test_more false P P' Q Q' h f g = g h

pub when_true : (b : Bool) (P Q : Type 0) → b ≡ true → MatchBool b P Q → P
when_true true P Q e h = h
when_true false P Q e h = absurd (cc)

pub when_false : (b : Bool) (P Q : Type 0) → b ≡ false → MatchBool b P Q → Q
when_false true P Q e h = absurd (cc)
when_false false P Q e h = h
