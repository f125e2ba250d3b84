-- A list of words that are kept by themselves, as far as a loop has come.
use Rattle.std.proofs.Common.{ℕ, ◌≡◌, ◌≢◌, ◌+◌, ◌<◌, List, [], ◌∷◌, ◌++◌, length, get_or, take, drop, ◌==◌, refl, sym, ap, ◌∙◌, subst, arith, true, false, All, map, append_assoc, rules}
use Rattle.std.proofs.Math.Seq.{get_or-append_seam}
use Rattle.std.proofs.lemmas.Bool.{eqb-true, false≢true}
use Rattle.std.proofs.lemmas.List.{append-nil, drop_more, length-append, map_more, map-append, take-append-drop}
use Rattle.std.proofs.lemmas.List.Elements.{All-push}
use Rattle.wh_top_words.specs.Words.{IsFilled, alone}
use Rattle.wh_top_words.specs.Kept.{Adds, AddsNone, Fits}
use Rattle.wh_top_words.specs.declared.kept.Kept.{Kept}

-- all words so far are filled, and are kept behind what was
abbrev pub AddsWords : Kept → List (List ℕ) → Kept → Type 0
AddsWords old words new = All IsFilled words × Adds old (map alone words) new

pub adds_no_words : (old : Kept) → AddsWords old [] old
adds_no_words old = (search rules, λ front sums. rw append-nil sums)

pub adds_one_more : (old kept new : Kept) (words : List (List ℕ)) (word : List ℕ) → AddsWords old words kept → word ≢ []
    → Adds kept (alone word ∷ []) new → AddsWords old (words ++ word ∷ []) new
adds_one_more old kept new words word all filled one = (
  All-push IsFilled words word all.0 filled,
  λ front sums. rw (map-append, ← append_assoc) (one (front ++ map alone words) (all.1 front sums)),
)

-- where one of the words cannot be kept behind those before it, they all cannot
pub adds_none_of : (old kept : Kept) (front : List (List ℕ)) (word : List ℕ) (back words : List (List ℕ)) → words ≡ front ++ word ∷ back
    → Adds old (map alone front) kept → AddsNone kept (alone word ∷ []) → AddsNone old (map alone words)
adds_none_of old kept front word back words is adds none before more sums fits =
    let e : before ++ (map alone words ++ more) ≡ (before ++ map alone front) ++ (alone word ∷ (map alone back ++ more)) =
    rw (is, map-append) (simp append_assoc) in
    none (before ++ map alone front) (map alone back ++ more) (adds before sums) (subst Fits e fits)

-- the list that a loop has gone through as far as i
pub at_turn : {A : Type 0} (f : A → List ℕ) (xs : List A) (i : ℕ) (x : A) → i < length xs → x ≡ get_or xs i x
    → map f xs ≡ map f (take i xs) ++ f x ∷ map f (drop (i + 1) xs)
at_turn f xs i x small is =
    ap (map f) (sym (take-append-drop i xs)) ∙ map-append f (take i xs) (drop i xs)
    ∙ ap (λ ys. map f (take i xs) ++ map f ys) (drop_more xs i x small)
    ∙ ap (λ y. map f (take i xs) ++ f y ∷ map f (drop (i + 1) xs)) (sym is)

pub next_turn : {A : Type 0} (f : A → List ℕ) (xs : List A) (i : ℕ) (x : A) → i < length xs → x ≡ get_or xs i x
    → map f (take (i + 1) xs) ≡ map f (take i xs) ++ f x ∷ []
next_turn f xs i x small is = map_more f xs i x small ∙ ap (λ y. map f (take i xs) ++ f y ∷ []) (sym is)

pub no_bytes : (word : List ℕ) → (length word == 0) ≡ true → word ≡ []
no_bytes [] e = refl
no_bytes (b ∷ bs) e = let n = eqb-true _ _ e in absurd (omega arith)

pub some_bytes : (word : List ℕ) → (length word == 0) ≡ false → word ≢ []
some_bytes [] e none = absurd (false≢true (sym e))
some_bytes (b ∷ bs) e none = cc

-- an empty word among them is not filled
pub empty_among : (front : List (List ℕ)) (word : List ℕ) (back words : List (List ℕ)) → words ≡ front ++ word ∷ back → word ≡ []
    → All IsFilled words → ⊥
empty_among front word back words is empty filled =
    filled (length front) word (rw (is, length-append) (omega arith)) (rw is (get_or-append_seam front word back word) ∙ empty)
