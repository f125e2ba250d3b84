-- The machine of terms reads a text and a line feed behind it exactly where the bytes are the text of a term.
use Rattle.std.proofs.Common.{◌≡◌, ℕ, ◌+◌, ◌<◌, ◌≤◌, List, [], ◌∷◌, ◌++◌, length, drop, get_or, refl, ap, sym, ◌∙◌}
use Rattle.std.proofs.lemmas.List.{append_cancel_right, drop_more, drop_all}
use Rattle.std.specs.Prelude.{IfOk, MatchOption, Option, Some, None, Result, Ok, Err}
use Rattle.std.specs.declared.alloc.AllocError.{AllocError}
use Rattle.wh_text.specs.RawTree.{RTm}
use Rattle.wh_text.specs.Erase.{rtm}
use Rattle.wh_text.specs.declared.raw.RawTerm.{RawTerm}
use Rattle.wh_text.specs.Spelling.{put_term}
use Rattle.wh_cert_parts.specs.TermMachine.{Stack, base, Place, wanted, State, at, whole, failed, step}
use Rattle.wh_cert_parts.specs.TermViews.{term_went}
use Rattle.wh_cert_parts.specs.declared.term_reader.Frame.{Frame}
use Rattle.wh_cert_parts.specs.declared.term_reader.TermPlace.{TermPlace}
use Rattle.wh_cert_parts.specs.declared.term_reader.TermStep.{TermStep}
use Rattle.wh_cert_parts.specs.declared.term_reader.TermStep.TheVariants.{Goes, Whole, Wrong}
use Rattle.wh_cert_parts.proofs.TermComplete.{Scan, read, stuck, scan, term_run, term_sound}
use Rattle.wh_cert_term.specs.TermText.{IsTermText}
use Rattle.wh_cert_term.specs.Ending.{EndsHere}
use Rattle.wh_cert_term.proofs.Appending.{term-append}

-- the text, and a line feed
abbrev pub line : List ℕ → List ℕ
line bytes = bytes ++ (10 ∷ [])

abbrev pub began : List ℕ → Scan
began bytes = scan (at base wanted) (line bytes)

pub text_read : (t : RTm) (bytes : List ℕ) → IsTermText t bytes → began bytes ≡ read t []
text_read t bytes text =
    ap (λ (b : List ℕ). scan (at base wanted) (line b)) text.text
    ∙ ap (scan (at base wanted)) (sym (term-append t [] (10 ∷ [])))
    ∙ term_run base t (10 ∷ []) text.fits refl

pub read_text : (t : RTm) (r bytes : List ℕ) → began bytes ≡ read t r → r ≡ [] → IsTermText t bytes
read_text t r bytes is none =
    let (fits, put) = term_sound (at base wanted) (line bytes) (λ (q : List ℕ). q) t r (tt, tt, λ q. refl) is in
    let spells : put_term t [] ++ (10 ∷ []) ≡ bytes ++ (10 ∷ []) = sym (term-append t [] (10 ∷ [])) ∙ ap (λ (q : List ℕ). put_term t (10 ∷ q)) (sym none) ∙ put in
    record { fits = fits; text = sym (append_cancel_right (put_term t []) bytes (10 ∷ []) spells) }

pub one_text : (bytes : List ℕ) (t u : RTm) → IsTermText t bytes → IsTermText u bytes → t ≡ u
one_text bytes t u x y = let same : read t [] ≡ read u [] = sym (text_read t bytes x) ∙ text_read u bytes y in cc

-- a term that has ended before the last byte, or never, is none

line_some : (l : List ℕ) → line l ≡ [] → ⊥
line_some [] e = absurd (cc)
line_some (b ∷ l) e = absurd (cc)

pub ended_early : (bytes rest : List ℕ) (u : RTm) → began bytes ≡ scan (whole u) (line rest) → (t : RTm) → IsTermText t bytes → ⊥
ended_early bytes rest u is t text = let same : read u (line rest) ≡ read t [] = sym is ∙ text_read t bytes text in let none : line rest ≡ [] = cc in line_some rest none

pub gone_wrong : (bytes rest : List ℕ) → began bytes ≡ scan failed (line rest) → (t : RTm) → IsTermText t bytes → ⊥
gone_wrong bytes rest is t text = let same : stuck ≡ read t [] = sym is ∙ text_read t bytes text in absurd (cc)

-- behind the last byte

pub all_read : (bytes : List ℕ) (i : ℕ) (fs : Stack) (k : Place) → length bytes ≤ i → began bytes ≡ scan (at fs k) (line (drop i bytes)) → began bytes ≡ scan (step fs k 10) []
all_read bytes i fs k all is = is ∙ ap (λ (l : List ℕ). scan (at fs k) (line l)) (nothing_left bytes i all)
  where
    nothing_left : (l : List ℕ) (j : ℕ) → length l ≤ j → drop j l ≡ []
    nothing_left l j h = drop_all j l h

whole_read : (s : State) (t : RTm) → scan s [] ≡ read t [] → s ≡ whole t
whole_read (whole u) t e = let same : u ≡ t = cc in ap whole same
whole_read failed t e = absurd (cc)
whole_read (at fs k) t e = absurd (cc)

pub ends_text : (bytes : List ℕ) (fs : Stack) (k : Place) (t : RTm) → began bytes ≡ scan (step fs k 10) [] → EndsHere fs k t → IsTermText t bytes
ends_text bytes fs k t is ends = read_text t [] bytes (is ∙ ap (λ (s : State). scan s []) ends) refl

pub text_ends : (bytes : List ℕ) (fs : Stack) (k : Place) (t : RTm) → began bytes ≡ scan (step fs k 10) [] → IsTermText t bytes → EndsHere fs k t
text_ends bytes fs k t is text = whole_read (step fs k 10) t (sym is ∙ text_read t bytes text)

-- the answers of the code

pub next_step : (bytes : List ℕ) (i d : ℕ) (s : State) (fs : Stack) (k : Place) → i < length bytes → s ≡ step fs k (get_or bytes i d) → began bytes ≡ scan (at fs k) (line (drop i bytes)) → began bytes ≡ scan s (line (drop (i + 1) bytes))
next_step bytes i d s fs k within took so_far =
    so_far
    ∙ ap (λ (l : List ℕ). scan (at fs k) (line l)) (drop_more bytes i d within)
    ∙ ap (λ (t : State). scan t (line (drop (i + 1) bytes))) (sym took)

pub stops_there : (bytes rest : List ℕ) (stack : List Frame) (n : TermStep) → ((place : TermPlace) → n ≡ Goes place → ⊥) → began bytes ≡ scan (term_went stack n) (line rest) → (t : RTm) → IsTermText t bytes → ⊥
stops_there bytes rest stack (Goes place) other next t text = other place refl
stops_there bytes rest stack (Whole u) other next t text = ended_early bytes rest (rtm u.value) next t text
stops_there bytes rest stack Wrong other next t text = gone_wrong bytes rest next t text

pub told_end : (bytes : List ℕ) (fs : Stack) (k : Place) (r : Result (Option RawTerm) AllocError) → began bytes ≡ scan (step fs k 10) []
    → IfOk r (λ o. MatchOption o ((t : RTm) → EndsHere fs k t → ⊥) (λ u. EndsHere fs k (rtm u))) → IfOk r (λ o. MatchOption o ((t : RTm) → IsTermText t bytes → ⊥) (λ u. IsTermText (rtm u) bytes))
told_end bytes fs k (Ok None) is none = λ t text. none t (text_ends bytes fs k t is text)
told_end bytes fs k (Ok (Some u)) is ends = ends_text bytes fs k (rtm u) is ends
told_end bytes fs k (Err e) is told = told
