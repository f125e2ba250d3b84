-- What is known of the words after one more item, and where none can be.
use Rattle.std.proofs.Common.{ℕ, ◌≡◌, ◌-◌, ◌≤◌, List, [], ◌∷◌, ◌++◌, All, map, codes, length, get_or, take, drop, sym, ap, ap₂, ◌∙◌, subst, arith}
use Rattle.std.proofs.lemmas.List.{append-nil, take_all}
use Rattle.std.specs.Fmt.{decimal}
use Rattle.wh_top_words.specs.Words.{Setting, option_of, alone, set, IsFilled, IsPlain}
use Rattle.wh_top_words.specs.Kept.{Adds, AddsNone, Fits, Knows, SayNone, Sets, SetsNone}
use Rattle.wh_top_words.specs.declared.kept.Kept.{Kept}
use Rattle.wh_top_words.proofs.Saying.{from_end, from_plain, from_joined, from_apart}
use Rattle.wh_top_words.proofs.Following.{follows_plain, follows_joined, follows_apart, follows_end}

pub know_plain : (words rest : List (List ℕ)) (word : List ℕ) (old new : Kept) → IsPlain word → Adds old (alone word ∷ []) new
    → Knows words (word ∷ rest) old → Knows words rest new
know_plain words rest word old new plain keeps k = (k.0 ++ alone word ∷ [], keeps k.0 k.1, follows_plain plain k.2)

pub know_joined : (words rest : List (List ℕ)) (word number : List ℕ) (s : Setting) (old new : Kept) → word ≡ option_of s ++ 61 ∷ number
    → Sets old s number new → Knows words (word ∷ rest) old → Knows words rest new
know_joined words rest word number s old new is sets k =
    let n = sets.0 in
    let spelled : word ≡ option_of s ++ 61 ∷ decimal n = rw sets.1 is in
    (k.0 ++ set s n ∷ [], sets.3 k.0 k.1, follows_joined s n spelled sets.2 k.2)

pub know_apart : (words rest : List (List ℕ)) (word number : List ℕ) (s : Setting) (old new : Kept) → word ≡ option_of s
    → Sets old s number new → Knows words (word ∷ number ∷ rest) old → Knows words rest new
know_apart words rest word number s old new is sets k =
    let n = sets.0 in
    (k.0 ++ set s n ∷ [], sets.3 k.0 k.1, follows_apart s n is (sym sets.1) sets.2 k.2)

pub know_end : (words rest : List (List ℕ)) (word : List ℕ) (old new : Kept) → word ≡ codes "--" → All IsFilled rest
    → Adds old (map alone rest) new → Knows words (word ∷ rest) old → Knows words [] new
know_end words rest word old new is filled keeps k = (k.0 ++ map alone rest, keeps k.0 k.1, follows_end is filled k.2)

pub none_plain : (words rest : List (List ℕ)) (word : List ℕ) (kept : Kept) → IsPlain word → AddsNone kept (alone word ∷ [])
    → Knows words (word ∷ rest) kept → SayNone words
none_plain words rest word kept plain stops k items said fits =
    let q = k.2.all items said fits in
    let p = from_plain plain q.1 in
    stops k.0 p.0 k.1 (subst Fits (q.2 ∙ ap (λ is. k.0 ++ is) p.2) fits)

pub none_joined : (words rest : List (List ℕ)) (word number : List ℕ) (s : Setting) (kept : Kept) → word ≡ option_of s ++ 61 ∷ number
    → SetsNone kept s number → Knows words (word ∷ rest) kept → SayNone words
none_joined words rest word number s kept is stops k items said fits =
    let q = k.2.all items said fits in
    let p = from_joined s number is q.1 in
    stops p.0 p.2 k.0 p.1 k.1 (subst Fits (q.2 ∙ ap (λ is. k.0 ++ is) p.4) fits)

pub none_apart : (words rest : List (List ℕ)) (word number : List ℕ) (s : Setting) (kept : Kept) → word ≡ option_of s
    → SetsNone kept s number → Knows words (word ∷ number ∷ rest) kept → SayNone words
none_apart words rest word number s kept is stops k items said fits =
    let q = k.2.all items said fits in
    let p = from_apart s is q.1 in
    let spelled : decimal p.0 ≡ number = cc p.3 in
    stops p.0 spelled k.0 p.2 k.1 (subst Fits (q.2 ∙ ap (λ is. k.0 ++ is) p.5) fits)

pub none_end : (words rest : List (List ℕ)) (word : List ℕ) (kept : Kept) → word ≡ codes "--"
    → (All IsFilled rest → AddsNone kept (map alone rest)) → Knows words (word ∷ rest) kept → SayNone words
none_end words rest word kept is stops k items said fits =
    let q = k.2.all items said fits in
    let p = from_end is q.1 in
    stops p.0 k.0 [] k.1 (subst Fits (q.2 ∙ ap (λ is. k.0 ++ is) (p.1 ∙ sym (append-nil (map alone rest)))) fits)

-- the first word of a slice, and the rest
pub first_word : {A : Type 0} (f : A → List ℕ) (xs : List A) (x : A) (word : List ℕ) → 1 ≤ length xs → x ≡ get_or xs 0 x → word ≡ f x
    → map f xs ≡ word ∷ map f (take (length xs - 1) (drop 1 xs))
first_word f [] x word some is same = absurd (omega arith)
first_word f (y ∷ ys) x word some is same =
    let first : f y ≡ word = ap f (sym is) ∙ sym same in
    let rest : take (length (y ∷ ys) - 1) ys ≡ ys = take_all (length (y ∷ ys) - 1) ys (omega arith) in
    ap₂ (λ w ws. w ∷ map f ws) first (sym rest)
