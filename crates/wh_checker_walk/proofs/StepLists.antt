-- Steps behind other steps.
use Rattle.std.proofs.Common.{◌≡◌, ℕ, zero, suc, ◌+◌, ◌<◌, List, [], ◌∷◌, ◌++◌, length, Some, refl, sym, subst, arith}
use Rattle.std.specs.Prelude.{slice_get}
use Rattle.std.proofs.lemmas.List.{take-append-le}
use Rattle.std.proofs.lemmas.Option.{slice_get_within}
use Rattle.wh_terms.specs.Tree.{Tm}
use Rattle.wh_terms.specs.Measures.{Fits}
use Rattle.wh_terms.specs.Sight.{IsTerm, LooseBelow}
use Rattle.wh_terms.specs.Typing.{Symbols}
use Rattle.wh_terms.specs.Rules.{RewriteRule, AreWellMade}
use Rattle.wh_terms.specs.declared.path.Step as taken
use Rattle.wh_step.specs.Replay.{Replays}
use Rattle.wh_step.specs.Reducts.{FailsAt, TooBigAt}
use Rattle.wh_step.proofs.ReplayLemmas.{step_shut, step_term}

-- a member of a list, of a longer one

pub got_before : {A : Type 0} (xs ys : List A) (i : ℕ) (x : A) → slice_get xs i ≡ Some x → slice_get (xs ++ ys) i ≡ Some x
got_before [] ys i x e = absurd (cc)
got_before (y ∷ xs) ys zero x e = e
got_before (y ∷ xs) ys (suc i) x e = got_before xs ys i x e

pub got_between : {A : Type 0} (xs ys : List A) (x : A) → slice_get (xs ++ x ∷ ys) (length xs) ≡ Some x
got_between [] ys x = refl
got_between (y ∷ xs) ys x = got_between xs ys x

-- where steps lead

pub replays_then : (rules : List RewriteRule) (xs ys : List taken.Step) (t u v : Tm) → Replays rules xs t u → Replays rules ys u v
    → Replays rules (xs ++ ys) t v
replays_then rules [] ys t u v same r = subst (λ x. Replays rules ys x v) (sym same) r
replays_then rules (s ∷ xs) ys t u v (x, by, fits, rest) r = (x, by, fits, replays_then rules xs ys x u v rest r)

pub replays_fit : (rules : List RewriteRule) (xs : List taken.Step) (t u : Tm) → Replays rules xs t u → Fits t → Fits u
replays_fit rules [] t u same h = subst Fits same h
replays_fit rules (s ∷ xs) t u (x, by, fits, rest) h = replays_fit rules xs x u rest fits

pub replays_shut : (S : Symbols) (rules : List RewriteRule) (xs : List taken.Step) (t u : Tm) → AreWellMade S rules → Replays rules xs t u
    → LooseBelow 0 t → LooseBelow 0 u
replays_shut S rules [] t u made same h = subst (LooseBelow 0) same h
replays_shut S rules (s ∷ xs) t u made (x, by, fits, rest) h = replays_shut S rules xs x u made rest (step_shut S made s by h)

pub replays_plain : (S : Symbols) (rules : List RewriteRule) (xs : List taken.Step) (t u : Tm) → AreWellMade S rules → Replays rules xs t u
    → IsTerm t → IsTerm u
replays_plain S rules [] t u made same h = subst IsTerm same h
replays_plain S rules (s ∷ xs) t u made (x, by, fits, rest) h = replays_plain S rules xs x u made rest (step_term S made s by h)

-- the first step that does not apply, with steps behind it and before it

pub fails_before : (rules : List RewriteRule) (xs ys : List taken.Step) (t : Tm) (i : ℕ) → FailsAt rules xs t i → FailsAt rules (xs ++ ys) t i
fails_before rules xs ys t i f =
    let within : i < length xs = slice_get_within xs i f.step f.here in
    record {
      step = f.step;
      here = got_before xs ys i f.step f.here;
      term = f.term;
      before = subst (λ l. Replays rules l t f.term) (sym (take-append-le i xs ys (omega (arith, within)))) f.before;
      none = f.none;
    }

pub fails_behind : (rules : List RewriteRule) (xs ys : List taken.Step) (t u : Tm) (i k : ℕ) → k ≡ length xs + i → Replays rules xs t u
    → FailsAt rules ys u i → FailsAt rules (xs ++ ys) t k
fails_behind rules [] ys t u i k e same f =
    let is : i ≡ k = omega (arith, e) in
    subst (λ n. FailsAt rules ys t n) is (subst (λ x. FailsAt rules ys x i) (sym same) f)
fails_behind rules (s ∷ xs) ys t u i zero e r f = absurd (omega (arith, e))
fails_behind rules (s ∷ xs) ys t u i (suc k) e (x, by, fits, rest) f =
    let g = fails_behind rules xs ys x u i k (omega (arith, e)) rest f in
    record { step = g.step; here = g.here; term = g.term; before = (x, by, fits, g.before); none = g.none }

-- so where the result does not fit

pub big_before : (rules : List RewriteRule) (xs ys : List taken.Step) (t : Tm) (i : ℕ) → TooBigAt rules xs t i → TooBigAt rules (xs ++ ys) t i
big_before rules xs ys t i f =
    let within : i < length xs = slice_get_within xs i f.step f.here in
    record {
      step = f.step;
      here = got_before xs ys i f.step f.here;
      term = f.term;
      before = subst (λ l. Replays rules l t f.term) (sym (take-append-le i xs ys (omega (arith, within)))) f.before;
      result = f.result;
      applies = f.applies;
      big = f.big;
    }

pub big_behind : (rules : List RewriteRule) (xs ys : List taken.Step) (t u : Tm) (i k : ℕ) → k ≡ length xs + i → Replays rules xs t u
    → TooBigAt rules ys u i → TooBigAt rules (xs ++ ys) t k
big_behind rules [] ys t u i k e same f =
    let is : i ≡ k = omega (arith, e) in
    subst (λ n. TooBigAt rules ys t n) is (subst (λ x. TooBigAt rules ys x i) (sym same) f)
big_behind rules (s ∷ xs) ys t u i zero e r f = absurd (omega (arith, e))
big_behind rules (s ∷ xs) ys t u i (suc k) e (x, by, fits, rest) f =
    let g = big_behind rules xs ys x u i k (omega (arith, e)) rest f in
    record {
      step = g.step;
      here = g.here;
      term = g.term;
      before = (x, by, fits, g.before);
      result = g.result;
      applies = g.applies;
      big = g.big;
    }
