-- Lists of words that are read one by one.
use Rattle.std.proofs.Common.{ℕ, ◌≡◌, ◌+◌, ◌<◌, ◌++◌, List, [], ◌∷◌, length, get_or, drop, map, refl, sym, ◌∙◌, ap, subst, append_assoc}
use Rattle.std.specs.Borrow.{Bor}
use Rattle.std.specs.Fmt.{decimal}
use Rattle.std.proofs.lemmas.List.{at_drop_more}
use Rattle.wh_text.specs.Words.{IsWord}
use Rattle.wh_answer.specs.Stands.{AllShort, AllWords, Short}
use Rattle.wh_answer_reader.specs.Seen.{seen}

-- what is read, and then the next word
pub next_word : (front : List (List ℕ)) (ws : List (Bor (List ℕ))) (i : ℕ) (d : Bor (List ℕ)) (w : List ℕ) (all : List (List ℕ)) → i < length ws → w ≡ (get_or ws i d).now → front ++ seen (drop i ws) ≡ all → front ++ (w ∷ seen (drop (i + 1) ws)) ≡ all
next_word front ws i d w all below is e =
    ap (λ (v : List ℕ). front ++ (v ∷ seen (drop (i + 1) ws))) is ∙ (ap (λ (t : List (List ℕ)). front ++ t) (sym (at_drop_more seen ws i d below)) ∙ e)

-- one more name
words_push : (names : List (List ℕ)) (w : List ℕ) → AllWords names → IsWord w → AllWords (names ++ (w ∷ []))
words_push [] w h is = (is, tt)
words_push (v ∷ vs) w h is = (h.0, words_push vs w h.1 is)

words_at : (names : List (List ℕ)) (w : List ℕ) (rest : List (List ℕ)) → AllWords (names ++ (w ∷ rest)) → IsWord w
words_at [] w rest h = h.0
words_at (v ∷ vs) w rest h = words_at vs w rest h.1

pub names_more : (names after : List (List ℕ)) (name w : List ℕ) (rest all : List (List ℕ)) → AllWords names → names ++ (w ∷ rest) ≡ all → IsWord name × (name ≡ w) → after ≡ names ++ (name ∷ []) → AllWords after × (after ++ rest ≡ all)
names_more names after name w rest all h e is put =
    let shown : after ≡ names ++ (w ∷ []) = put ∙ ap (λ (v : List ℕ). names ++ (v ∷ [])) is.1 in (
      subst AllWords (sym put) (words_push names name h is.0),
      ap (λ (t : List (List ℕ)). t ++ rest) shown ∙ (append_assoc names (w ∷ []) rest ∙ e),
    )

pub names_end : (names : List (List ℕ)) (w : List ℕ) (rest all : List (List ℕ)) → names ++ (w ∷ rest) ≡ all → (IsWord w → ⊥) → AllWords all → ⊥
names_end names w rest all e bad h = bad (words_at names w rest (subst AllWords (sym e) h))

-- one more number
short_push : (ns : List ℕ) (n : ℕ) → AllShort ns → Short n → AllShort (ns ++ (n ∷ []))
short_push [] n h is = (is, tt)
short_push (m ∷ ms) n h is = (h.0, short_push ms n h.1 is)

spelled_push : (ns : List ℕ) (n : ℕ) (rest : List (List ℕ)) → map decimal (ns ++ (n ∷ [])) ++ rest ≡ map decimal ns ++ (decimal n ∷ rest)
spelled_push [] n rest = refl
spelled_push (m ∷ ms) n rest = ap (λ (t : List (List ℕ)). decimal m ∷ t) (spelled_push ms n rest)

pub numbers_more : (ns after : List ℕ) (n : ℕ) (w : List ℕ) (rest all : List (List ℕ)) → AllShort ns → map decimal ns ++ (w ∷ rest) ≡ all → Short n × (decimal n ≡ w) → after ≡ ns ++ (n ∷ []) → AllShort after × (map decimal after ++ rest ≡ all)
numbers_more ns after n w rest all h e is put = (
  subst AllShort (sym put) (short_push ns n h is.0),
  ap (λ (t : List ℕ). map decimal t ++ rest) put ∙ (spelled_push ns n rest ∙ (ap (λ (v : List ℕ). map decimal ns ++ (v ∷ rest)) is.1 ∙ e)),
)

numbers_at : (ns : List ℕ) (front : List (List ℕ)) (w : List ℕ) (rest : List (List ℕ)) → AllShort ns → map decimal ns ≡ front ++ (w ∷ rest) → (n : ℕ) × Short n × (decimal n ≡ w)
numbers_at [] [] w rest h e = cc
numbers_at [] (v ∷ vs) w rest h e = cc
numbers_at (n ∷ ns) [] w rest h e = let q : decimal n ≡ w = cc in (n, h.0, q)
numbers_at (n ∷ ns) (v ∷ vs) w rest h e = let q : map decimal ns ≡ vs ++ (w ∷ rest) = cc in numbers_at ns vs w rest h.1 q

pub numbers_end : (ms : List ℕ) (w : List ℕ) (rest all : List (List ℕ)) → map decimal ms ++ (w ∷ rest) ≡ all → ((n : ℕ) → Short n → decimal n ≡ w → ⊥) → (ns : List ℕ) → AllShort ns → map decimal ns ≡ all → ⊥
numbers_end ms w rest all e bad ns h same =
    let found = numbers_at ns (map decimal ms) w rest h (same ∙ sym e) in
    bad found.0 found.1 found.2
