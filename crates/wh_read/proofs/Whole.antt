-- What a run of the machine over tokens tells: the text that they are, or the first token at which they are none.
use Rattle.std.proofs.Common.{◌≡◌, ℕ, ◌+◌, ◌<◌, Bool, true, false, List, [], ◌∷◌, ◌++◌, Option, None, Some, length, take, get_or, refl, sym, ap, subst, ◌∙◌, append-nil, arith, true≢false, le_refl}
use Rattle.std.proofs.Math.Path.{fun_ext}
use Rattle.std.proofs.lemmas.List.{take_more}
use Rattle.wh_read.specs.Written.{WSystem}
use Rattle.wh_read.specs.Spelled.{Placed, token, spelled}
use Rattle.wh_read.specs.Nesting.{SystemFits}
use Rattle.wh_read.specs.Raw.{said}
use Rattle.wh_read.specs.Parsing.{Parses, Begins, BeginsWithin, SyntaxAt, TooDeepAt}
use Rattle.wh_read.specs.Lexemes.{Lexeme, lexeme}
use Rattle.wh_read.proofs.LexemeLaws.{kind_lexeme, Is}
use Rattle.wh_read.proofs.Machine.{Place, State, between, inside, failed, too_many, move, begin, read_some, step, run, start}
use Rattle.wh_read.proofs.Seen.{seen_system, seen}
use Rattle.wh_read.proofs.Sound.{Next, move-kept, begin-kept}
use Rattle.wh_read.proofs.CompleteText.{system_run}
use Rattle.wh_read.proofs.Ends.{finish, place_ends}
use Rattle.wh_read.proofs.Bounds.{Calm, Under, step-under, run_failed, run_too_many, run-under}

-- the state goes on: it is no fault
abbrev pub Goes : State → Type 0
Goes (between w) = Unit {0}
Goes (inside p) = Unit {0}
Goes failed = ⊥
Goes too_many = ⊥

run_append : (b : Bool) (s : State) (p q : List Placed) → run b s (p ++ q) ≡ run b (run b s p) q
run_append b s [] q = refl
run_append b s (k ∷ p) q = run_append b (step b s k) p q

-- one token stands among those read
taken : (b : Bool) (s : State) (k : Placed) (o : Option Lexeme) (f : List Placed → List Placed) → Is k.kind o → Next b s f → Next b (read_some b s o k.at) (λ r. f (k ∷ r))
taken b (between w) k None f h g = tt
taken b (between w) k (Some l) f h g =
    subst (Next b (begin w l k.at)) (fun_ext (λ r. ap (λ kind. seen_system w (token kind k.at ∷ r)) (sym h) ∙ g.1 (k ∷ r))) (begin-kept b w l k.at g.0)
taken b (inside p) k None f h g = tt
taken b (inside p) k (Some l) f h g =
    subst (Next b (move b p l k.at)) (fun_ext (λ r. ap (λ kind. seen p (token kind k.at ∷ r)) (sym h) ∙ g.1 (k ∷ r))) (move-kept b p l k.at g.0)
taken b failed k None f h g = tt
taken b failed k (Some l) f h g = tt
taken b too_many k None f h g = tt
taken b too_many k (Some l) f h g = tt

all_taken : (b : Bool) (s : State) (ts : List Placed) (f : List Placed → List Placed) → Next b s f → Next b (run b s ts) (λ r. f (ts ++ r))
all_taken b s [] f g = g
all_taken b s (k ∷ ts) f g = all_taken b (step b s k) ts (λ r. f (k ∷ r)) (taken b s k (lexeme k.kind) f (kind_lexeme k.kind) g)

read_from_start : (b : Bool) (ts : List Placed) → Next b (run b start ts) (λ r. ts ++ r)
read_from_start b ts = all_taken b start ts (λ r. r) ((λ i. (tt, tt)), λ r. refl)

-- a text that was read whole
whole_text : (b : Bool) (ts : List Placed) (w : WSystem) → run b start ts ≡ between w → (b ≡ true → SystemFits w) × (ts ≡ spelled w)
whole_text b ts w e =
    let n : Next b (between w) (λ r. ts ++ r) = subst (λ (s : State). Next b s (λ r. ts ++ r)) e (read_from_start b ts) in
    (n.0, sym (append-nil ts) ∙ sym (n.1 []))

-- where the machine goes on, some text begins with the tokens
pub goes_begins : (b : Bool) (ts : List Placed) → Goes (run b start ts) → (w : WSystem) × (r : List Placed) × (b ≡ true → SystemFits w) × (ts ++ r ≡ spelled w)
goes_begins b ts g = by_state (run b start ts) refl g
  where
    by_state : (s : State) → run b start ts ≡ s → Goes s → (w : WSystem) × (r : List Placed) × (b ≡ true → SystemFits w) × (ts ++ r ≡ spelled w)
    by_state (between w) e h =
        let t = whole_text b ts w e in
        (w, [], t.0, append-nil ts ∙ t.1)
    by_state (inside p) e h =
        let last = place_ends b p in
        let t = whole_text b (ts ++ finish p) last.0 (run_append b start ts (finish p) ∙ ap (λ (s : State). run b s (finish p)) e ∙ last.1) in
        (last.0, finish p, t.0, t.1)
    by_state failed e h = absurd h
    by_state too_many e h = absurd h

pub goes_within : (ts : List Placed) → Goes (run true start ts) → BeginsWithin ts
goes_within ts g =
    let t = goes_begins true ts g in
    (t.0, t.1, t.2 refl, t.3)

-- no text begins with tokens at which the machine without bounds fails
failed_begins : (ts : List Placed) → run false start ts ≡ failed → Begins ts → ⊥
failed_begins ts e h =
    let whole = system_run false h.0 (λ i. absurd (true≢false (sym i))) in
    between_failed h.0 (sym whole ∙ sym (ap (run false start) h.2) ∙ run_append false start ts h.1 ∙ ap (λ (s : State). run false s h.1) e ∙ run_failed false h.1)
  where
    IsBetween : State → Type 0
    IsBetween (between w) = Unit {0}
    IsBetween s = ⊥

    between_failed : (w : WSystem) → between w ≡ failed → ⊥
    between_failed w q = subst IsBetween q tt

too_many_begins : (ts : List Placed) → run true start ts ≡ too_many → BeginsWithin ts → ⊥
too_many_begins ts e h =
    let whole = system_run true h.0 (λ i. h.2) in
    subst Calm (sym whole ∙ sym (ap (run true start) h.3) ∙ run_append true start ts h.1 ∙ ap (λ (s : State). run true s h.1) e ∙ run_too_many true h.1) tt

goes_calm : (s : State) → Goes s → Calm s
goes_calm (between w) g = tt
goes_calm (inside p) g = tt
goes_calm failed g = absurd g
goes_calm too_many g = absurd g

-- all tokens were read, and a text ends there
pub parsed : (ts : List Placed) (w : WSystem) → run true start ts ≡ between w → Parses ts (said w)
parsed ts w e =
    let t = whole_text true ts w e in
    record { written = w; fits = t.0 refl; spelling = t.1; parts_are = refl }

-- all tokens were read, inside a declaration
pub ends_early : (ts : List Placed) (p : Place) → run true start ts ≡ inside p → SyntaxAt ts (length ts)
ends_early ts p e =
    record {
      within = le_refl (length ts);
      begins = goes_within (take (length ts) ts) (subst Goes (sym (ap (run true start) (take_whole ts) ∙ e)) tt);
      none_goes_on = λ n. absurd (omega (arith, n));
      ends_early = λ n w s. not_whole w s;
    }
  where
    take_whole : (xs : List Placed) → take (length xs) xs ≡ xs
    take_whole [] = refl
    take_whole (x ∷ xs) = ap (λ (ys : List Placed). x ∷ ys) (take_whole xs)

    IsBetween : State → Type 0
    IsBetween (between w) = Unit {0}
    IsBetween s = ⊥

    not_whole : (w : WSystem) → ts ≡ spelled w → ⊥
    not_whole w s =
        let free : run false start ts ≡ inside p = run-under ts start (subst Calm (sym e) tt) ∙ e in
        subst IsBetween (sym (system_run false w (λ i. absurd (true≢false (sym i)))) ∙ sym (ap (run false start) s) ∙ free) tt

-- the first token behind which the machine fails
pub syntax_at : (ts : List Placed) (n : ℕ) → n < length ts → Goes (run true start (take n ts)) → run true start (take (n + 1) ts) ≡ failed → SyntaxAt ts n
syntax_at ts n below g e =
    record {
      within = omega (arith, below);
      begins = goes_within (take n ts) g;
      none_goes_on = λ m. failed_begins (take (n + 1) ts) (run-under (take (n + 1) ts) start (subst Calm (sym e) tt) ∙ e);
      ends_early = λ m. absurd (omega (arith, below, m));
    }

-- the first token that opens too much
pub too_deep_at : (ts : List Placed) (n : ℕ) (d : Placed) → n < length ts → Goes (run true start (take n ts)) → run true start (take (n + 1) ts) ≡ too_many → TooDeepAt ts n
too_deep_at ts n d below g e =
    record {
      within = below;
      begins = goes_within (take n ts) g;
      goes_on = onward;
      too_deep = too_many_begins (take (n + 1) ts) e;
    }
  where
    s : State
    s = run true start (take n ts)

    k : Placed
    k = get_or ts n d

    next : (b : Bool) → run b start (take (n + 1) ts) ≡ step b (run b start (take n ts)) k
    next b = ap (run b start) (take_more ts n d below) ∙ run_append b start (take n ts) (k ∷ [])

    free : Under (step true s k) (step false s k)
    free = step-under s (lexeme k.kind) k.at (goes_calm s g)

    opens : (p : Place) × (step false s k ≡ inside p)
    opens = subst (λ (t : State). Under t (step false s k)) (sym (next true) ∙ e) free

    onward : Begins (take (n + 1) ts)
    onward =
        let there : run false start (take (n + 1) ts) ≡ inside opens.0 = next false ∙ ap (λ (t : State). step false t k) (run-under (take n ts) start (goes_calm s g)) ∙ opens.1 in
        let t = goes_begins false (take (n + 1) ts) (subst Goes (sym there) tt) in
        (t.0, t.1, t.3)
