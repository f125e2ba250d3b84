-- Ways in patterns: where a pattern is read for a meta-variable on accessible places, there is a way to it.
use Rattle.std.proofs.Common.{◌≡◌, ℕ, zero, suc, ◌+◌, Bool, true, false, eqb, List, [], ◌∷◌, ◌++◌, length, Option, Some, None, option_map, slice_get, refl, ap, sym, ◌∙◌, subst, eqb-true}
use Rattle.std.proofs.lemmas.List.Elements.{All-head, All-tail}
use Rattle.wh_types.specs.Ty.{Ty}
use Rattle.wh_terms.specs.Tree.{Tm, bound, free, fun, meta, lam, app, Tms, spine, head, argument_count}
use Rattle.wh_terms.specs.Typing.{Symbols}
use Rattle.wh_terms.specs.Pattern.{IsPatternUnder, IsPatternSpine}
use Rattle.wh_terms.proofs.TypingLaws.{some_one}
use Rattle.wh_step_laws.specs.Ranks.{IsAccessible}
use Rattle.wh_access.specs.Readings.{Place, Reading, symbol_of, within_argument, readings, readings_of_left, first_way, way_to}
use Rattle.wh_access.specs.Passing.{AllAccessible}
use Rattle.wh_access.proofs.ReadingLemmas.{way_in_front, way_after, way_behind}
use Rattle.wh_pairs.specs.Spines.{spine_arguments}
use Rattle.wh_proof_calls.proofs.SpineLaws.{count-arguments, symbol-spine}

pub slice_get-front : {A : Type 0} (xs ys : List A) (i : ℕ) (x : A) → slice_get xs i ≡ Some x → slice_get (xs ++ ys) i ≡ Some x
slice_get-front [] ys i x e = absurd (cc)
slice_get-front (y ∷ xs) ys zero x e = e
slice_get-front (y ∷ xs) ys (suc i) x e = slice_get-front xs ys i x e

pub slice_get-last : {A : Type 0} (xs : List A) (x : A) → slice_get (xs ++ x ∷ []) (length xs) ≡ Some x
slice_get-last [] x = refl
slice_get-last (y ∷ xs) x = slice_get-last xs x

-- a way from a pattern to the meta-variable z passes abstractions, and accessible places of symbols (Fuhs and Kop 2019)
pub data Way (S : Symbols) (rank : ℕ → ℕ) (z : ℕ) : Tm → Type 0 where
  way_here : {ts : Tms} → Way S rank z (meta z ts)
  way_under : {a : Ty} {t : Tm} → Way S rank z t → Way S rank z (lam a t)
  way_through : {t u : Tm} (f i : ℕ) (ts : List Tm) → t ≡ spine (fun f) ts → slice_get ts i ≡ Some u → IsAccessible S rank f i → Way S rank z u
      → Way S rank z t

-- a way through some argument of the symbol that heads the tree
pub record WayThrough (S : Symbols) (rank : ℕ → ℕ) (z : ℕ) (t : Tm) : Type 0 where
  pub symbol : ℕ
  pub place : ℕ
  pub argument : Tm
  pub headed : head t ≡ fun symbol
  pub there : slice_get (spine_arguments t) place ≡ Some argument
  pub accessible : IsAccessible S rank symbol place
  pub way : Way S rank z argument

-- the front of an application has the same head, and its arguments come first
through_front : (S : Symbols) (rank : ℕ → ℕ) (z : ℕ) (t u : Tm) → WayThrough S rank z t → WayThrough S rank z (app t u)
through_front S rank z t u w = record {
  symbol = w.symbol;
  place = w.place;
  argument = w.argument;
  headed = w.headed;
  there = slice_get-front (spine_arguments t) (u ∷ []) w.place w.argument w.there;
  accessible = w.accessible;
  way = w.way;
}

last_argument : (t u : Tm) → slice_get (spine_arguments (app t u)) (argument_count t) ≡ Some u
last_argument t u = ap (slice_get (spine_arguments (app t u))) (count-arguments t) ∙ slice_get-last (spine_arguments t) u

symbol_there : (f : ℕ) (t : Tm) → symbol_of t ≡ Some f → t ≡ fun f
symbol_there f (fun g) e = ap fun (some_one e)
symbol_there f (bound i) e = absurd (cc)
symbol_there f (free x a) e = absurd (cc)
symbol_there f (meta y ts) e = absurd (cc)
symbol_there f (lam a t) e = absurd (cc)
symbol_there f (app t u) e = absurd (cc)

-- the way goes through an argument of the front, or else through the last argument
way_in_app : (S : Symbols) (rank : ℕ → ℕ) (z : ℕ) (t u : Tm) (way : List Place) → way_to z (readings (app t u)) ≡ Some way → AllAccessible S rank way
    → (way_to z (readings t) ≡ Some way → WayThrough S rank z t)
    → ((v : List Place) → way_to z (readings u) ≡ Some v → AllAccessible S rank v → Way S rank z u) → WayThrough S rank z (app t u)
way_in_app S rank z t u way e all front last = by_front (way_to z (readings t)) refl
  where
    rest : List Reading
    rest = within_argument (symbol_of (head t)) (argument_count t) (readings u)

    by_way : (f : ℕ) → symbol_of (head t) ≡ Some f → (o : Option (List Place)) → way_to z (readings u) ≡ o
        → option_map (λ v. record { symbol = f; index = argument_count t } ∷ v) o ≡ Some way → WayThrough S rank z (app t u)
    by_way f d None q c = absurd (cc)
    by_way f d (Some v) q c =
        let p : Place = record { symbol = f; index = argument_count t } in
        let here : AllAccessible S rank (p ∷ v) = subst (AllAccessible S rank) (sym (some_one c)) all in
        let P : Place → Type 0 = λ p. IsAccessible S rank p.symbol p.index in
        record {
          symbol = f;
          place = argument_count t;
          argument = u;
          headed = symbol_there f (head t) d;
          there = last_argument t u;
          accessible = All-head P p v here;
          way = last v q (All-tail P p v here);
        }

    by_symbol : (o : Option ℕ) → symbol_of (head t) ≡ o → way_to z (within_argument o (argument_count t) (readings u)) ≡ Some way
        → WayThrough S rank z (app t u)
    by_symbol None d c = absurd (cc)
    by_symbol (Some f) d c = by_way f d (way_to z (readings u)) refl (sym (way_behind z (record { symbol = f; index = argument_count t }) (readings u)) ∙ c)

    by_front : (o : Option (List Place)) → way_to z (readings t) ≡ o → WayThrough S rank z (app t u)
    by_front (Some v) q = through_front S rank z t u (front (q ∙ sym (way_in_front z (readings t) rest v q) ∙ e))
    by_front None q = by_symbol (symbol_of (head t)) refl (sym (way_after z (readings t) rest q) ∙ e)

-- a meta-variable that is read at once
read_here : (z y : ℕ) (b : Bool) (way : List Place) → eqb y z ≡ b → first_way b [] None ≡ Some way → y ≡ z
read_here z y true way q e = eqb-true y z q
read_here z y false way q e = absurd (cc)

mutual
  -- a pattern that is read on a way of accessible places
  pub pattern_way : (S : Symbols) (rank : ℕ → ℕ) (z k : ℕ) (p : Tm) (way : List Place) → IsPatternUnder k p → way_to z (readings p) ≡ Some way
      → AllAccessible S rank way → Way S rank z p
  pattern_way S rank z k (bound i) way s e all = absurd (cc)
  pattern_way S rank z k (free x a) way s e all = absurd s
  pattern_way S rank z k (fun f) way s e all = absurd (cc)
  pattern_way S rank z k (meta y ts) way s e all = subst (λ y. Way S rank z (meta y ts)) (sym (read_here z y (eqb y z) way refl e)) way_here
  pattern_way S rank z k (lam a t) way s e all = way_under (pattern_way S rank z (k + 1) t way s e all)
  pattern_way S rank z k (app t u) way s e all =
      let w : WayThrough S rank z (app t u) =
      way_in_app S rank z t u way e all (λ q. spine_way S rank z k t way s.0 q all)
      (λ v q here. pattern_way S rank z k u v s.1 q here) in
      way_through w.symbol w.place (spine_arguments (app t u)) (sym (symbol-spine w.symbol (app t u) w.headed)) w.there w.accessible w.way

  -- a symbol with patterns as its arguments
  pub spine_way : (S : Symbols) (rank : ℕ → ℕ) (z k : ℕ) (t : Tm) (way : List Place) → IsPatternSpine k t → way_to z (readings t) ≡ Some way
      → AllAccessible S rank way → WayThrough S rank z t
  spine_way S rank z k (bound i) way s e all = absurd (cc)
  spine_way S rank z k (free x a) way s e all = absurd s
  spine_way S rank z k (fun f) way s e all = absurd (cc)
  spine_way S rank z k (meta y ts) way s e all = absurd s
  spine_way S rank z k (lam a t) way s e all = absurd s
  spine_way S rank z k (app t u) way s e all =
      way_in_app S rank z t u way e all (λ q. spine_way S rank z k t way s.0 q all)
      (λ v q here. pattern_way S rank z k u v s.1 q here)

-- a way in some argument of a left side
pub record WayInArgument (S : Symbols) (rank : ℕ → ℕ) (z k : ℕ) (t : Tm) : Type 0 where
  pub place : ℕ
  pub argument : Tm
  pub there : slice_get (spine_arguments t) place ≡ Some argument
  pub pattern : IsPatternUnder k argument
  pub way : Way S rank z argument

-- a left side that is read on a way of accessible places
pub left_way : (S : Symbols) (rank : ℕ → ℕ) (z k : ℕ) (t : Tm) (way : List Place) → IsPatternSpine k t → way_to z (readings_of_left t) ≡ Some way
    → AllAccessible S rank way → WayInArgument S rank z k t
left_way S rank z k (bound i) way s e all = absurd (cc)
left_way S rank z k (free x a) way s e all = absurd s
left_way S rank z k (fun f) way s e all = absurd (cc)
left_way S rank z k (meta y ts) way s e all = absurd s
left_way S rank z k (lam a t) way s e all = absurd s
left_way S rank z k (app t u) way s e all = by_front (way_to z (readings_of_left t)) refl (λ q. left_way S rank z k t way s.0 q all)
  where
    more : WayInArgument S rank z k t → WayInArgument S rank z k (app t u)
    more w = record {
      place = w.place;
      argument = w.argument;
      there = slice_get-front (spine_arguments t) (u ∷ []) w.place w.argument w.there;
      pattern = w.pattern;
      way = w.way;
    }

    by_front : (o : Option (List Place)) → way_to z (readings_of_left t) ≡ o → (way_to z (readings_of_left t) ≡ Some way → WayInArgument S rank z k t)
        → WayInArgument S rank z k (app t u)
    by_front (Some v) q front = more (front (q ∙ sym (way_in_front z (readings_of_left t) (readings u) v q) ∙ e))
    by_front None q front = record {
      place = argument_count t;
      argument = u;
      there = last_argument t u;
      pattern = s.1;
      way = pattern_way S rank z k u way s.1 (sym (way_after z (readings_of_left t) (readings u) q) ∙ e) all;
    }
