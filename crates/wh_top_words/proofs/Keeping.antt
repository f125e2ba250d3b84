-- One more word or number that is kept.
use Rattle.std.proofs.Common.{ℕ, ◌≡◌, ◌<◌, ◌≤◌, ◌^◌, ◌⊎◌, inl, inr, List, [], ◌∷◌, ◌++◌, length, refl, sym, ap, ◌∙◌, subst, arith, Bool, true, false, not, is_some, IsTrue, ◌↔◌, Option, Some, None, MatchOption}
use Rattle.std.specs.Fmt.{decimal}
use Rattle.std.proofs.lemmas.Fmt.{decimal_injective}
use Rattle.std.proofs.lemmas.Bool.{false≢true}
use Rattle.std.proofs.lemmas.List.{append-nil}
use Rattle.wh_top_words.specs.Words.{Setting, tries, depth, visited, steps, Item, alone, set, words_in, numbers_for}
use Rattle.wh_top_words.specs.Kept.{Adds, AddsNone, Fits, Within, AllWithin, Sums, Sets, SetsNo, SetsNoBounds, SetsNone, words_of, number_of, listed}
use Rattle.wh_top_words.specs.declared.kept.Kept.{Kept}
use Rattle.wh_top_words.proofs.Among.{words_in-append, numbers_for-append, numbers_for-set, room_for_word, room_for_number, within_is_long}

-- a word more is kept, and the same numbers
pub record KeepsWord (old : Kept) (word : List ℕ) (new : Kept) : Type 0 where
  pub words : words_of new.alone ≡ words_of old.alone ++ word ∷ []
  pub tries : new.tries ≡ old.tries
  pub depth : new.depth ≡ old.depth
  pub visited : new.visited ≡ old.visited
  pub steps : new.steps ≡ old.steps

same_numbers : (old new : Kept) (word : List ℕ) → KeepsWord old word new → (s : Setting) → number_of new s ≡ number_of old s
same_numbers old new word k tries = k.tries
same_numbers old new word k depth = k.depth
same_numbers old new word k visited = k.visited
same_numbers old new word k steps = k.steps

pub adds_word : (old new : Kept) (word : List ℕ) → KeepsWord old word new → Adds old (alone word ∷ []) new
adds_word old new word k items sums = record {
  words = words_in-append items (alone word ∷ []) ∙ ap (λ words. words ++ word ∷ []) sums.words ∙ sym k.words;
  numbers = λ s. numbers_for-append s items (alone word ∷ []) ∙ append-nil (numbers_for s items) ∙ sums.numbers s
      ∙ ap listed (sym (same_numbers old new word k s));
  within = λ s n is. sums.within s n (sym (same_numbers old new word k s) ∙ is);
}

-- another setting is the same, and has no number of this option
abbrev IsApart : Setting → Kept → Kept → Setting → Type 0
IsApart s old new t = ((n : ℕ) → numbers_for t (set s n ∷ []) ≡ []) × (number_of new t ≡ number_of old t)

-- a number is kept where none was, and the same words
record KeepsNumber (old : Kept) (s : Setting) (n : ℕ) (new : Kept) : Type 0 where
  words : words_of new.alone ≡ words_of old.alone
  before : number_of old s ≡ None
  now : number_of new s ≡ Some n
  others : (t : Setting) → (t ≡ s) ⊎ IsApart s old new t

numbers_with : (old new : Kept) (s : Setting) (n : ℕ) → KeepsNumber old s n new → (items : List Item) → Sums old items → (t : Setting)
    → numbers_for t (items ++ set s n ∷ []) ≡ listed (number_of new t)
numbers_with old new s n k items sums t = elim (k.others t) [
  | inl same ↦ rw same (numbers_for-append s items (set s n ∷ []) ∙ ap (λ ns. ns ++ numbers_for s (set s n ∷ [])) (sums.numbers s ∙ ap listed k.before)
      ∙ numbers_for-set s n [] ∙ ap listed (sym k.now))
  | inr apart ↦ numbers_for-append t items (set s n ∷ []) ∙ ap (λ ns. numbers_for t items ++ ns) (apart.0 n) ∙ append-nil (numbers_for t items)
      ∙ sums.numbers t ∙ ap listed (sym apart.1)
]

within_with : (old new : Kept) (s : Setting) (n : ℕ) → KeepsNumber old s n new → Within s n → AllWithin old → AllWithin new
within_with old new s n k here all t m is = elim (k.others t) [
  | inl same ↦
      let there : number_of new s ≡ Some m = ap (number_of new) (sym same) ∙ is in
      let one : n ≡ m = cc k.now in
      rw (same, ← one) here
  | inr apart ↦ all t m (sym apart.1 ∙ is)
]

adds_number : (old new : Kept) (s : Setting) (n : ℕ) → KeepsNumber old s n new → Within s n → Adds old (set s n ∷ []) new
adds_number old new s n k here items sums = record {
  words = words_in-append items (set s n ∷ []) ∙ append-nil (words_in items) ∙ sums.words ∙ sym k.words;
  numbers = numbers_with old new s n k items sums;
  within = within_with old new s n k here sums.within;
}

-- after two words by themselves stands no third
pub two_are_all : (kept : Kept) (word : List ℕ) → 2 ≤ length (words_of kept.alone) → AddsNone kept (alone word ∷ [])
two_are_all kept word two front back sums fits =
    let room = room_for_word front word back fits in
    let e = ap length sums.words in
    omega arith

-- no option stands twice
once_is_all : (kept : Kept) (s : Setting) (n m : ℕ) (items more : List Item) → Sums kept items → number_of kept s ≡ Some m
    → Fits (items ++ set s n ∷ more) → ⊥
once_is_all kept s n m items more sums is fits =
    let room = room_for_number s n items more fits in
    let e = sums.numbers s ∙ ap listed is in
    let none = room.0 in
    cc

-- a word that spells no number of 64 bits spells none that can be kept
pub spells_none : (kept : Kept) (s : Setting) (word : List ℕ) → ((n : ℕ) → n < 2 ^ 64 → decimal n ≡ word → ⊥) → SetsNone kept s word
spells_none kept s word none n spelled items more sums fits =
    none n (within_is_long s n (room_for_number s n items more fits).1) spelled

-- nor does one that spells another
pub spells_other : (kept : Kept) (s : Setting) (word : List ℕ) (number : ℕ) → number < 2 ^ 64 → decimal number ≡ word → (Within s number → ⊥)
    → SetsNone kept s word
spells_other kept s word number long is other n spelled items more sums fits =
    let here = (room_for_number s n items more fits).1 in
    let same : decimal n ≡ decimal number = cc in
    let one : n ≡ number = decimal_injective n number (within_is_long s n here) long same in
    other (subst (Within s) one here)

-- what was told when the number was put into a place of its own
abbrev IsPut : Option (Unit {0}) → Option ℕ → ℕ → Option ℕ → Type 0
IsPut r old number new = MatchOption r ((n : ℕ) × (old ≡ Some n)) (λ _. (old ≡ None) × (new ≡ Some number))

told : (old new : Kept) (s : Setting) → words_of new.alone ≡ words_of old.alone → ((t : Setting) → (t ≡ s) ⊎ IsApart s old new t)
    → (word : List ℕ) (number : ℕ) (r : Option (Unit {0})) → decimal number ≡ word → Within s number
    → IsPut r (number_of old s) number (number_of new s) → MatchOption r (SetsNone old s word) (λ _. Sets old s word new)
told old new s words others word number None is here put = λ n spelled front back sums fits. once_is_all old s n put.0 front back sums put.1 fits
told old new s words others word number (Some u) is here put =
    (number, is, here, adds_number old new s number (record { words = words; before = put.0; now = put.1; others = others }) here)

pub told_tries : (old : Kept) (place : Option ℕ) (word : List ℕ) (number : ℕ) (r : Option (Unit {0})) → decimal number ≡ word → Within tries number
    → IsPut r old.tries number place → MatchOption r (SetsNone old tries word) (λ _. Sets old tries word (record old { tries = place }))
told_tries old place = told old (record old { tries = place }) tries refl others
  where
    others : (t : Setting) → (t ≡ tries) ⊎ IsApart tries old (record old { tries = place }) t
    others tries = inl refl
    others depth = inr (λ _. refl, refl)
    others visited = inr (λ _. refl, refl)
    others steps = inr (λ _. refl, refl)

pub told_depth : (old : Kept) (place : Option ℕ) (word : List ℕ) (number : ℕ) (r : Option (Unit {0})) → decimal number ≡ word → Within depth number
    → IsPut r old.depth number place → MatchOption r (SetsNone old depth word) (λ _. Sets old depth word (record old { depth = place }))
told_depth old place = told old (record old { depth = place }) depth refl others
  where
    others : (t : Setting) → (t ≡ depth) ⊎ IsApart depth old (record old { depth = place }) t
    others tries = inr (λ _. refl, refl)
    others depth = inl refl
    others visited = inr (λ _. refl, refl)
    others steps = inr (λ _. refl, refl)

pub told_visited : (old : Kept) (place : Option ℕ) (word : List ℕ) (number : ℕ) (r : Option (Unit {0})) → decimal number ≡ word → Within visited number
    → IsPut r old.visited number place → MatchOption r (SetsNone old visited word) (λ _. Sets old visited word (record old { visited = place }))
told_visited old place = told old (record old { visited = place }) visited refl others
  where
    others : (t : Setting) → (t ≡ visited) ⊎ IsApart visited old (record old { visited = place }) t
    others tries = inr (λ _. refl, refl)
    others depth = inr (λ _. refl, refl)
    others visited = inl refl
    others steps = inr (λ _. refl, refl)

pub told_steps : (old : Kept) (place : Option ℕ) (word : List ℕ) (number : ℕ) (r : Option (Unit {0})) → decimal number ≡ word → Within steps number
    → IsPut r old.steps number place → MatchOption r (SetsNone old steps word) (λ _. Sets old steps word (record old { steps = place }))
told_steps old place = told old (record old { steps = place }) steps refl others
  where
    others : (t : Setting) → (t ≡ steps) ⊎ IsApart steps old (record old { steps = place }) t
    others tries = inr (λ _. refl, refl)
    others depth = inr (λ _. refl, refl)
    others visited = inr (λ _. refl, refl)
    others steps = inl refl

pub none_where : (o : Option ℕ) (r : Bool) → is_some o ≡ not r → r ≡ true → o ≡ None
none_where None r e t = refl
none_where (Some n) false e t = cc
none_where (Some n) true e t = cc

some_where : (o : Option ℕ) (r : Bool) → is_some o ≡ not r → r ≡ false → o ≡ None → ⊥
some_where o true e f none = cc
some_where None false e f none = cc
some_where (Some n) false e f none = cc

-- where P asks of one number alone that it is not kept, that tells whether P holds
pub last_tells : (P : Type 0) (o : Option ℕ) (r : Bool) → is_some o ≡ not r → (o ≡ None → P) → (P → o ≡ None) → IsTrue r ↔ P
last_tells P o r last to from = (λ t. to (none_where o r last t), λ p. both r last (from p))
  where
    both : (r : Bool) → is_some o ≡ not r → o ≡ None → IsTrue r
    both true e none = refl
    both false e none = absurd (some_where o false e refl none)

-- where a number is kept that P asks not to be kept, P does not hold
pub one_tells : (P : Type 0) (o : Option ℕ) (r one : Bool) → r ≡ false → is_some o ≡ not one → one ≡ false → (P → o ≡ None) → IsTrue r ↔ P
one_tells P o r one is other not_one none =
    (λ t. absurd (false≢true (sym is ∙ t)), λ p. absurd (some_where o one other not_one (none p)))

-- no number is kept where no bound is, nor how many steps are taken
set_none : (kept : Kept) → SetsNoBounds kept → kept.steps ≡ None → SetsNo kept
set_none kept bounds none tries = bounds.tries
set_none kept bounds none depth = bounds.depth
set_none kept bounds none visited = bounds.visited
set_none kept bounds none steps = none

pub no_bounds : (kept : Kept) → SetsNo kept → SetsNoBounds kept
no_bounds kept none = record { tries = none tries; depth = none depth; visited = none visited }

pub sets_none_where : (kept : Kept) → SetsNoBounds kept → (r : Bool) → is_some kept.steps ≡ not r → IsTrue r ↔ SetsNo kept
sets_none_where kept bounds r last = (λ t. set_none kept bounds (none_where kept.steps r last t), λ none. both r last (none steps))
  where
    both : (r : Bool) → is_some kept.steps ≡ not r → kept.steps ≡ None → IsTrue r
    both true e none = refl
    both false e none = absurd (some_where kept.steps false e refl none)
