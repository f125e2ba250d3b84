-- One more token of a text, and how far the reader came.
use Rattle.std.proofs.Common.{◌≡◌, ℕ, ◌+◌, ◌<◌, ◌≤◌, List, [], ◌∷◌, ◌++◌, length, get_or, map, take, refl, sym, ap, subst, ◌∙◌, arith, Result, Ok, Err, IsErrAnd}
use Rattle.wh_types.specs.declared.want.Or.{Or}
use Rattle.wh_types.specs.declared.want.Or.TheVariants.{NoMemory, Because}
use Rattle.wh_types.specs.Outcome.{IfBecause, MatchOr}
use Rattle.std.proofs.lemmas.List.{take_more, take_all, get_or-map, get_or_past, length-map}
use Rattle.wh_text.specs.Erase.{tokens}
use Rattle.wh_text.specs.Erase.{token as cut_token}
use Rattle.wh_text.specs.declared.token.Token as code
use Rattle.wh_system_parts.specs.Parts.{RParts}
use Rattle.wh_read.specs.Spelled.{Placed, placed}
use Rattle.wh_read.specs.Parsing.{Parses}
use Rattle.wh_read.specs.SyntaxFaults.{letters, place_in, HasSyntaxFault}
use Rattle.wh_read.specs.declared.fault.SyntaxFault.{SyntaxFault}
use Rattle.wh_read.specs.declared.fault.SyntaxFault.TheVariants.{Syntax, TooMany}
use Rattle.wh_read.specs.Held.{stopped, fault_offset}
use Rattle.wh_read.specs.Reader as r
use Rattle.wh_read.proofs.ReaderLaws.{says_parts, stops_early, fails_at, too_many_at}

run_append : (s : r.State) (p q : List Placed) → r.run s (p ++ q) ≡ r.run (r.run s p) q
run_append s [] q = refl
run_append s (k ∷ p) q = run_append (r.step s k) p q

-- as many letters as tokens
pub letters_long : (text : List ℕ) (ts : List code.Token) → length (letters text ts) ≡ length ts
letters_long text ts = length-map (tokens text ts) placed ∙ length-map ts (cut_token text)

letter_at : (text : List ℕ) (ts : List code.Token) (i : ℕ) (d : code.Token) → i < length ts → get_or (letters text ts) i (placed (cut_token text d)) ≡ placed (cut_token text (get_or ts i d))
letter_at text ts i d below =
    get_or-map placed (tokens text ts) i (cut_token text d) (placed (cut_token text d)) (omega (arith, below, length-map ts (cut_token text)))
    ∙ ap placed (get_or-map (cut_token text) ts i d (cut_token text d) below)

-- the state behind one more token
pub one_more : (text : List ℕ) (ts : List code.Token) (i : ℕ) (d : code.Token) (s u : r.State) → i < length ts → r.run r.start (take i (letters text ts)) ≡ s → r.step s (placed (cut_token text (get_or ts i d))) ≡ u → r.run r.start (take (i + 1) (letters text ts)) ≡ u
one_more text ts i d s u below f g =
    let k : Placed = placed (cut_token text (get_or ts i d)) in
    ap (r.run r.start) (take_more (letters text ts) i (placed (cut_token text d)) (omega (arith, below, letters_long text ts)) ∙ ap (λ (x : Placed). take i (letters text ts) ++ x ∷ []) (letter_at text ts i d below))
    ∙ run_append r.start (take i (letters text ts)) (k ∷ []) ∙ ap (λ (x : r.State). r.step x k) f ∙ g

place_at : (text : List ℕ) (ts : List code.Token) (i : ℕ) (d : code.Token) (size : ℕ) → i < length ts → place_in (letters text ts) i size ≡ (get_or ts i d).from
place_at text ts i d size below =
    get_or-map (λ (k : Placed). k.at) (letters text ts) i (placed (cut_token text d)) size (omega (arith, below, letters_long text ts))
    ∙ ap (λ (k : Placed). k.at) (letter_at text ts i d below)

-- the reader stops at a token
pub stops_there : (text : List ℕ) (ts : List code.Token) (i : ℕ) (d : code.Token) (p : RParts) (q : r.Place) (fault : SyntaxFault) → i < length ts → r.run r.start (take i (letters text ts)) ≡ r.inside p q → r.step (r.inside p q) (placed (cut_token text (get_or ts i d))) ≡ stopped fault → fault_offset fault ≡ (get_or ts i d).from → HasSyntaxFault (letters text ts) (length text) fault
stops_there text ts i d p q (Syntax at) below f g h =
    (i, fails_at (letters text ts) i p q (omega (arith, below, letters_long text ts)) f (one_more text ts i d (r.inside p q) r.failed below f g), h ∙ sym (place_at text ts i d (length text) below))
stops_there text ts i d p q (TooMany at) below f g h =
    (i, too_many_at (letters text ts) i (placed (cut_token text d)) p q (omega (arith, below, letters_long text ts)) f (one_more text ts i d (r.inside p q) r.too_many below f g), h ∙ sym (place_at text ts i d (length text) below))

past_end : (xs : List Placed) (size : ℕ) → place_in xs (length xs) size ≡ size
past_end xs size = get_or_past (map (λ (k : Placed). k.at) xs) (length xs) size (omega (arith, length-map xs (λ (k : Placed). k.at)))

-- all tokens were read
pub all_read : (text : List ℕ) (ts : List code.Token) (i : ℕ) (p : RParts) (q : r.Place) → length ts ≤ i → r.run r.start (take i (letters text ts)) ≡ r.inside p q → r.run r.start (letters text ts) ≡ r.inside p q
all_read text ts i p q past e = ap (r.run r.start) (sym (take_all i (letters text ts) (omega (arith, past, letters_long text ts)))) ∙ e

pub reads_parts : (text : List ℕ) (ts : List code.Token) (i : ℕ) (p : RParts) (q : r.Place) → length ts ≤ i → r.run r.start (take i (letters text ts)) ≡ r.inside p q → q ≡ r.between → Parses (letters text ts) p
reads_parts text ts i p q past e h = says_parts (letters text ts) p (all_read text ts i p q past e ∙ ap (r.inside p) h)

pub ends_there : (text : List ℕ) (ts : List code.Token) (i : ℕ) (p : RParts) (q : r.Place) (at : ℕ) → length ts ≤ i → r.run r.start (take i (letters text ts)) ≡ r.inside p q → (q ≡ r.between → ⊥) → at ≡ length text → HasSyntaxFault (letters text ts) (length text) (Syntax at)
ends_there text ts i p q at past e h g =
    (length (letters text ts), stops_early (letters text ts) p q (all_read text ts i p q past e) h, g ∙ sym (past_end (letters text ts) (length text)))

-- a fault that is handed on
pub fault_up : (T U : Type 0) (result : Result U (Or SyntaxFault)) (e : Or SyntaxFault) (P : U → Type 0) (Q R S : SyntaxFault → Type 0) → IsErrAnd result (λ x. x ≡ e) → ((fault : SyntaxFault) → Q fault → R fault → S fault) → IfBecause {T = T} (Err e) Q → IfBecause {T = T} (Err e) R → MatchOr result P S
fault_up T U (Ok x) e P Q R S is on h g = absurd is
fault_up T U (Err x) e P Q R S is on h g = subst (λ (y : Or SyntaxFault). MatchOr (Err y) P S) (sym is) (by e h g)
  where
    by : (e : Or SyntaxFault) → IfBecause {T = T} (Err e) Q → IfBecause {T = T} (Err e) R → MatchOr {T = U} (Err e) P S
    by NoMemory h g = tt
    by (Because fault) h g = on fault h g
