-- The words and the numbers among items.
use Rattle.std.proofs.Common.{ℕ, ◌≡◌, ◌<◌, ◌^◌, inl, inr, List, [], ◌∷◌, ◌++◌, length, refl, sym, ap, ◌∙◌, arith}
use Rattle.std.proofs.lemmas.List.{length-append}
use Rattle.wh_top_words.specs.Words.{Setting, tries, depth, visited, steps, Item, alone, set, words_in, numbers_for}
use Rattle.wh_top_words.specs.Kept.{Fits, Within}

pub words_in-append : (items more : List Item) → words_in (items ++ more) ≡ words_in items ++ words_in more
words_in-append [] more = refl
words_in-append (alone word ∷ items) more = ap (λ words. word ∷ words) (words_in-append items more)
words_in-append (set s n ∷ items) more = words_in-append items more

pub numbers_for-append : (s : Setting) (items more : List Item) → numbers_for s (items ++ more) ≡ numbers_for s items ++ numbers_for s more
numbers_for-append s [] more = refl
numbers_for-append s (alone word ∷ items) more = numbers_for-append s items more
numbers_for-append tries (set tries n ∷ items) more = ap (λ ns. n ∷ ns) (numbers_for-append tries items more)
numbers_for-append tries (set depth n ∷ items) more = numbers_for-append tries items more
numbers_for-append tries (set visited n ∷ items) more = numbers_for-append tries items more
numbers_for-append tries (set steps n ∷ items) more = numbers_for-append tries items more
numbers_for-append depth (set tries n ∷ items) more = numbers_for-append depth items more
numbers_for-append depth (set depth n ∷ items) more = ap (λ ns. n ∷ ns) (numbers_for-append depth items more)
numbers_for-append depth (set visited n ∷ items) more = numbers_for-append depth items more
numbers_for-append depth (set steps n ∷ items) more = numbers_for-append depth items more
numbers_for-append visited (set tries n ∷ items) more = numbers_for-append visited items more
numbers_for-append visited (set depth n ∷ items) more = numbers_for-append visited items more
numbers_for-append visited (set visited n ∷ items) more = ap (λ ns. n ∷ ns) (numbers_for-append visited items more)
numbers_for-append visited (set steps n ∷ items) more = numbers_for-append visited items more
numbers_for-append steps (set tries n ∷ items) more = numbers_for-append steps items more
numbers_for-append steps (set depth n ∷ items) more = numbers_for-append steps items more
numbers_for-append steps (set visited n ∷ items) more = numbers_for-append steps items more
numbers_for-append steps (set steps n ∷ items) more = ap (λ ns. n ∷ ns) (numbers_for-append steps items more)

pub numbers_for-set : (s : Setting) (n : ℕ) (items : List Item) → numbers_for s (set s n ∷ items) ≡ n ∷ numbers_for s items
numbers_for-set tries n items = refl
numbers_for-set depth n items = refl
numbers_for-set visited n items = refl
numbers_for-set steps n items = refl

-- before a word by itself stands at most one other
pub room_for_word : (items : List Item) (word : List ℕ) (more : List Item) → Fits (items ++ alone word ∷ more) → length (words_in items) < 2
room_for_word items word more fits =
    let e = ap length (words_in-append items (alone word ∷ more)) in
    let l = length-append (words_in items) (words_in (alone word ∷ more)) in
    let w = fits.words in
    omega arith

none_before : (xs : List ℕ) (m : ℕ) (ys : List ℕ) → xs ++ m ∷ ys ≡ [] → ⊥
none_before [] m ys e = cc
none_before (x ∷ xs) m ys e = cc

only_one : (xs : List ℕ) (m : ℕ) (ys : List ℕ) (n : ℕ) → xs ++ m ∷ ys ≡ n ∷ [] → (xs ≡ []) × (m ≡ n)
only_one [] m ys n e = (refl, cc)
only_one (x ∷ xs) m ys n e = let rest : xs ++ m ∷ ys ≡ [] = cc in absurd (none_before xs m ys rest)

-- an option stands for the first time, and its number may be asked for
pub room_for_number : (s : Setting) (n : ℕ) (items more : List Item) → Fits (items ++ set s n ∷ more) → (numbers_for s items ≡ []) × Within s n
room_for_number s n items more fits =
    let e = numbers_for-append s items (set s n ∷ more) ∙ ap (λ ns. numbers_for s items ++ ns) (numbers_for-set s n more) in
    elim (fits.numbers s) [
      | inl none ↦ absurd (none_before _ _ _ (sym e ∙ none))
      | inr some ↦
          let one = only_one _ _ _ some.0 (sym e ∙ some.1) in
          (one.0, rw one.1 some.2)
    ]

-- what may be asked for has 64 bits
pub within_is_long : (s : Setting) (n : ℕ) → Within s n → n < 2 ^ 64
within_is_long tries n w = omega arith
within_is_long depth n w = omega arith
within_is_long visited n w = omega arith
within_is_long steps n w = omega arith
