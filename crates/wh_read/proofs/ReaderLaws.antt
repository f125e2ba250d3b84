-- What a run of the reader over tokens tells: the parts that they say, or the first token at fault.
use Rattle.std.proofs.Common.{◌≡◌, ℕ, ◌+◌, ◌<◌, true, List, [], length, take, refl, sym, ap, subst, ◌∙◌}
use Rattle.wh_system_parts.specs.Parts.{RParts}
use Rattle.wh_read.specs.Spelled.{Placed}
use Rattle.wh_read.specs.Parsing.{Parses, SyntaxAt, TooDeepAt}
use Rattle.wh_read.specs.Reader as l
use Rattle.wh_read.proofs.Machine.{Place, State, between, inside, failed, too_many, run, start, behind_sort, sort_named, behind_fun, fun_named, behind_rule, want_meta, meta_named, meta_colon, want_atype, behind_atype, behind_lambda, binder_named, binder_typed, want_atom, behind_name, behind_percent}
use Rattle.wh_read.proofs.Light.{light, place, run-said}
use Rattle.wh_read.proofs.Whole.{Goes, parsed, ends_early, syntax_at, too_deep_at}

from_start : (ts : List Placed) → l.run l.start ts ≡ light (run true start ts)
from_start ts = run-said start ts

abbrev IsInside : l.State → Type 0
IsInside (l.inside p q) = Unit {0}
IsInside s = ⊥

abbrev IsFailed : l.State → Type 0
IsFailed l.failed = Unit {0}
IsFailed s = ⊥

abbrev IsTooMany : l.State → Type 0
IsTooMany l.too_many = Unit {0}
IsTooMany s = ⊥

abbrev IsBetween : l.Place → Type 0
IsBetween l.between = Unit {0}
IsBetween p = ⊥

abbrev parts_in : l.State → RParts
parts_in (l.inside p q) = p
parts_in s = record { sorts = []; funs = []; rules = [] }

abbrev place_in : l.State → l.Place
place_in (l.inside p q) = q
place_in s = l.between

-- in a declaration the reader is not between two
inside_one : (p : Place) → IsBetween (place p) → ⊥
inside_one (behind_sort ss at) h = h
inside_one (sort_named ss at x x_at) h = h
inside_one (behind_fun ss fs at) h = h
inside_one (fun_named ss fs at x x_at) h = h
inside_one (behind_rule s at) h = h
inside_one (want_meta u before) h = h
inside_one (meta_named m) h = h
inside_one (meta_colon m colon_at) h = h
inside_one (want_atype c) h = h
inside_one (behind_atype c a) h = h
inside_one (behind_lambda at w) h = h
inside_one (binder_named at x x_at w) h = h
inside_one (binder_typed at x x_at colon_at a w) h = h
inside_one (want_atom us w) h = h
inside_one (behind_name x at us w) h = h
inside_one (behind_percent n at us w) h = h

goes : (s : State) → IsInside (light s) → Goes s
goes (between w) h = tt
goes (inside p) h = tt
goes failed h = h
goes too_many h = h

fails : (s : State) → IsFailed (light s) → s ≡ failed
fails (between w) h = absurd h
fails (inside p) h = absurd h
fails failed h = refl
fails too_many h = absurd h

opens_too_many : (s : State) → IsTooMany (light s) → s ≡ too_many
opens_too_many (between w) h = absurd h
opens_too_many (inside p) h = absurd h
opens_too_many failed h = absurd h
opens_too_many too_many h = refl

goes_to : (ts : List Placed) (p : RParts) (q : l.Place) → l.run l.start ts ≡ l.inside p q → Goes (run true start ts)
goes_to ts p q e = goes (run true start ts) (subst IsInside (sym (sym (from_start ts) ∙ e)) tt)

-- the reader is between two declarations: the tokens are a system text
pub says_parts : (ts : List Placed) (p : RParts) → l.run l.start ts ≡ l.inside p l.between → Parses ts p
says_parts ts p e = by_state (run true start ts) refl (sym (from_start ts) ∙ e)
  where
    by_state : (s : State) → run true start ts ≡ s → light s ≡ l.inside p l.between → Parses ts p
    by_state (between w) h f = subst (Parses ts) (ap parts_in f) (parsed ts w h)
    by_state (inside q) h f = absurd (inside_one q (subst IsBetween (sym (ap place_in f)) tt))
    by_state failed h f = absurd (subst IsInside (sym f) tt)
    by_state too_many h f = absurd (subst IsInside (sym f) tt)

-- the reader is in a declaration: the text ends too early
pub stops_early : (ts : List Placed) (p : RParts) (q : l.Place) → l.run l.start ts ≡ l.inside p q → (q ≡ l.between → ⊥) → SyntaxAt ts (length ts)
stops_early ts p q e h = by_state (run true start ts) refl (sym (from_start ts) ∙ e)
  where
    by_state : (s : State) → run true start ts ≡ s → light s ≡ l.inside p q → SyntaxAt ts (length ts)
    by_state (between w) g f = absurd (h (sym (ap place_in f)))
    by_state (inside r) g f = ends_early ts r g
    by_state failed g f = absurd (subst IsInside (sym f) tt)
    by_state too_many g f = absurd (subst IsInside (sym f) tt)

-- the reader fails at a token
pub fails_at : (ts : List Placed) (n : ℕ) (p : RParts) (q : l.Place) → n < length ts → l.run l.start (take n ts) ≡ l.inside p q → l.run l.start (take (n + 1) ts) ≡ l.failed → SyntaxAt ts n
fails_at ts n p q below e f =
    let next : List Placed = take (n + 1) ts in
    syntax_at ts n below (goes_to (take n ts) p q e) (fails (run true start next) (subst IsFailed (sym (sym (from_start next) ∙ f)) tt))

-- a token opens one level too many
pub too_many_at : (ts : List Placed) (n : ℕ) (d : Placed) (p : RParts) (q : l.Place) → n < length ts → l.run l.start (take n ts) ≡ l.inside p q → l.run l.start (take (n + 1) ts) ≡ l.too_many → TooDeepAt ts n
too_many_at ts n d p q below e f =
    let next : List Placed = take (n + 1) ts in
    too_deep_at ts n d below (goes_to (take n ts) p q e) (opens_too_many (run true start next) (subst IsTooMany (sym (sym (from_start next) ∙ f)) tt))
