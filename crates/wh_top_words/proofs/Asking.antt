-- What a command asks for with items that are kept.
use Rattle.std.proofs.Common.{ℕ, ◌+◌, ◌≡◌, ◌≤◌, ◌⊎◌, inl, inr, List, [], ◌∷◌, ◌++◌, codes, map, get_or, length, refl, sym, ap, ◌∙◌, subst, arith, Option, Some, None, MatchOption, unwrap_or}
use Rattle.std.specs.Fmt.{decimal}
use Rattle.std.proofs.lemmas.List.{append-nil}
use Rattle.wh_top_words.specs.Words.{Setting, tries, depth, visited, steps, usual, Item, alone, set, words_in, numbers_for, Say, SetTo, IsUnset, Bounds, SetBounds, SetSteps, SetTries, Request, check, prove, show, gen, reduce, upgrade, refute, Asks, say_none}
use Rattle.wh_top_words.specs.Kept.{Within, Fits, Knows, Sums, SetsNo, SetsNoBounds, SetsTriesAlone, SetsAll, words_of, number_of, listed}
use Rattle.wh_top_words.specs.Answers.{Answers, Wants}
use Rattle.wh_top_words.specs.Asked.{request}
use Rattle.wh_top_words.specs.declared.kept.Kept.{Kept}
use Rattle.wh_top_words.specs.declared.words.Command.{Command}
use Rattle.wh_top_words.proofs.Saying.{from_none}

-- items without numbers are their words
only_words : (items : List Item) → ((s : Setting) → numbers_for s items ≡ []) → items ≡ map alone (words_in items)
only_words [] none = refl
only_words (alone word ∷ items) none = ap (λ is. alone word ∷ is) (only_words items none)
only_words (set tries n ∷ items) none = cc (none tries)
only_words (set depth n ∷ items) none = cc (none depth)
only_words (set visited n ∷ items) none = cc (none visited)
only_words (set steps n ∷ items) none = cc (none steps)

listed_none : (o : Option ℕ) → listed o ≡ [] → o ≡ None
listed_none None e = refl
listed_none (Some n) e = cc

-- nothing is kept for what no option sets
unset_none : (kept : Kept) (items : List Item) (s : Setting) → Sums kept items → IsUnset items s → number_of kept s ≡ None
unset_none kept items s sums unset = listed_none (number_of kept s) (sym (sums.numbers s) ∙ unset)

none_unset : (kept : Kept) (items : List Item) (s : Setting) → Sums kept items → number_of kept s ≡ None → IsUnset items s
none_unset kept items s sums none = sums.numbers s ∙ ap listed none

no_numbers : (words : List (List ℕ)) (s : Setting) → numbers_for s (map alone words) ≡ []
no_numbers [] s = refl
no_numbers (word ∷ words) s = no_numbers words s

all_words : (words : List (List ℕ)) → words_in (map alone words) ≡ words
all_words [] = refl
all_words (word ∷ words) = ap (λ ws. word ∷ ws) (all_words words)

-- what is kept of words alone
kept_alone : (kept : Kept) (items : List Item) (words : List (List ℕ)) → Sums kept items → items ≡ map alone words
    → (words_of kept.alone ≡ words) × SetsNo kept
kept_alone kept items words sums is = (
  sym sums.words ∙ ap words_in is ∙ all_words words,
  λ s. listed_none (number_of kept s) (sym (sums.numbers s) ∙ ap (numbers_for s) is ∙ no_numbers words s),
)

-- the items of which words alone are kept
items_alone : (kept : Kept) (items : List Item) (words : List (List ℕ)) → Sums kept items → words_of kept.alone ≡ words → SetsNo kept
    → items ≡ map alone words
items_alone kept items words sums is none =
    only_words items (λ s. sums.numbers s ∙ ap listed (none s)) ∙ ap (map alone) (sums.words ∙ is)

-- the sum of two bytes tells the commands apart
abbrev mark : List ℕ → ℕ
mark word = get_or word 0 0 + get_or word 2 0

-- the command asks for nothing with what is kept
abbrev pub AsksNone : List ℕ → Kept → Type 0
AsksNone command kept = (items : List Item) → Sums kept items → (asked : Request) → Wants command items asked → ⊥

pub none_check : (kept : Kept) → ((file cert : List ℕ) → words_of kept.alone ≡ file ∷ cert ∷ [] → SetsNo kept → ⊥) → AsksNone (codes "check") kept
none_check kept none items sums (check file cert) w =
    let k = kept_alone kept items (file ∷ cert ∷ []) sums w.1 in none file cert k.0 k.1
none_check kept none items sums (prove file b) w = let e : ◌≡◌ {A = ℕ} 200 223 = ap mark w.0 in absurd (omega arith)
none_check kept none items sums (show file) w = let e : ◌≡◌ {A = ℕ} 200 226 = ap mark w.0 in absurd (omega arith)
none_check kept none items sums (gen n) w = let e : ◌≡◌ {A = ℕ} 200 213 = ap mark w.0 in absurd (omega arith)
none_check kept none items sums (reduce file term n) w = let e : ◌≡◌ {A = ℕ} 200 214 = ap mark w.0 in absurd (omega arith)
none_check kept none items sums (upgrade file cert) w = let e : ◌≡◌ {A = ℕ} 200 220 = ap mark w.0 in absurd (omega arith)
none_check kept none items sums (refute file n) w = let e : ◌≡◌ {A = ℕ} 200 216 = ap mark w.0 in absurd (omega arith)

pub none_prove : (kept : Kept) → ((file : List ℕ) → words_of kept.alone ≡ file ∷ [] → kept.steps ≡ None → ⊥) → AsksNone (codes "prove") kept
none_prove kept none items sums (check file cert) w = let e : ◌≡◌ {A = ℕ} 223 200 = ap mark w.0 in absurd (omega arith)
none_prove kept none items sums (prove file b) w =
    none file (sym sums.words ∙ w.1) (unset_none kept items steps sums w.2.steps)
none_prove kept none items sums (show file) w = let e : ◌≡◌ {A = ℕ} 223 226 = ap mark w.0 in absurd (omega arith)
none_prove kept none items sums (gen n) w = let e : ◌≡◌ {A = ℕ} 223 213 = ap mark w.0 in absurd (omega arith)
none_prove kept none items sums (reduce file term n) w = let e : ◌≡◌ {A = ℕ} 223 214 = ap mark w.0 in absurd (omega arith)
none_prove kept none items sums (upgrade file cert) w = let e : ◌≡◌ {A = ℕ} 223 220 = ap mark w.0 in absurd (omega arith)
none_prove kept none items sums (refute file n) w = let e : ◌≡◌ {A = ℕ} 223 216 = ap mark w.0 in absurd (omega arith)

pub none_show : (kept : Kept) → ((file : List ℕ) → words_of kept.alone ≡ file ∷ [] → SetsNo kept → ⊥) → AsksNone (codes "show") kept
none_show kept none items sums (check file cert) w = let e : ◌≡◌ {A = ℕ} 226 200 = ap mark w.0 in absurd (omega arith)
none_show kept none items sums (prove file b) w = let e : ◌≡◌ {A = ℕ} 226 223 = ap mark w.0 in absurd (omega arith)
none_show kept none items sums (show file) w =
    let k = kept_alone kept items (file ∷ []) sums w.1 in none file k.0 k.1
none_show kept none items sums (gen n) w = let e : ◌≡◌ {A = ℕ} 226 213 = ap mark w.0 in absurd (omega arith)
none_show kept none items sums (reduce file term n) w = let e : ◌≡◌ {A = ℕ} 226 214 = ap mark w.0 in absurd (omega arith)
none_show kept none items sums (upgrade file cert) w = let e : ◌≡◌ {A = ℕ} 226 220 = ap mark w.0 in absurd (omega arith)
none_show kept none items sums (refute file n) w = let e : ◌≡◌ {A = ℕ} 226 216 = ap mark w.0 in absurd (omega arith)

pub none_gen : (kept : Kept) → ((n : ℕ) → words_of kept.alone ≡ decimal n ∷ [] → SetsNo kept → 1 ≤ n → n ≤ 200 → ⊥) → AsksNone (codes "gen") kept
none_gen kept none items sums (check file cert) w = let e : ◌≡◌ {A = ℕ} 213 200 = ap mark w.0 in absurd (omega arith)
none_gen kept none items sums (prove file b) w = let e : ◌≡◌ {A = ℕ} 213 223 = ap mark w.0 in absurd (omega arith)
none_gen kept none items sums (show file) w = let e : ◌≡◌ {A = ℕ} 213 226 = ap mark w.0 in absurd (omega arith)
none_gen kept none items sums (gen n) w =
    let k = kept_alone kept items (decimal n ∷ []) sums w.1 in none n k.0 k.1 w.2 w.3
none_gen kept none items sums (reduce file term n) w = let e : ◌≡◌ {A = ℕ} 213 214 = ap mark w.0 in absurd (omega arith)
none_gen kept none items sums (upgrade file cert) w = let e : ◌≡◌ {A = ℕ} 213 220 = ap mark w.0 in absurd (omega arith)
none_gen kept none items sums (refute file n) w = let e : ◌≡◌ {A = ℕ} 213 216 = ap mark w.0 in absurd (omega arith)

pub none_reduce : (kept : Kept) → ((file term : List ℕ) → words_of kept.alone ≡ file ∷ term ∷ [] → SetsNoBounds kept → ⊥)
    → AsksNone (codes "reduce") kept
none_reduce kept none items sums (check file cert) w = let e : ◌≡◌ {A = ℕ} 214 200 = ap mark w.0 in absurd (omega arith)
none_reduce kept none items sums (prove file b) w = let e : ◌≡◌ {A = ℕ} 214 223 = ap mark w.0 in absurd (omega arith)
none_reduce kept none items sums (show file) w = let e : ◌≡◌ {A = ℕ} 214 226 = ap mark w.0 in absurd (omega arith)
none_reduce kept none items sums (gen n) w = let e : ◌≡◌ {A = ℕ} 214 213 = ap mark w.0 in absurd (omega arith)
none_reduce kept none items sums (reduce file term n) w = none file term (sym sums.words ∙ w.1) (record {
  tries = unset_none kept items tries sums w.2.tries;
  depth = unset_none kept items depth sums w.2.depth;
  visited = unset_none kept items visited sums w.2.visited;
})
none_reduce kept none items sums (upgrade file cert) w = let e : ◌≡◌ {A = ℕ} 214 220 = ap mark w.0 in absurd (omega arith)
none_reduce kept none items sums (refute file n) w = let e : ◌≡◌ {A = ℕ} 214 216 = ap mark w.0 in absurd (omega arith)

pub none_upgrade : (kept : Kept) → ((file cert : List ℕ) → words_of kept.alone ≡ file ∷ cert ∷ [] → SetsNo kept → ⊥) → AsksNone (codes "upgrade") kept
none_upgrade kept none items sums (check file cert) w = let e : ◌≡◌ {A = ℕ} 220 200 = ap mark w.0 in absurd (omega arith)
none_upgrade kept none items sums (prove file b) w = let e : ◌≡◌ {A = ℕ} 220 223 = ap mark w.0 in absurd (omega arith)
none_upgrade kept none items sums (show file) w = let e : ◌≡◌ {A = ℕ} 220 226 = ap mark w.0 in absurd (omega arith)
none_upgrade kept none items sums (gen n) w = let e : ◌≡◌ {A = ℕ} 220 213 = ap mark w.0 in absurd (omega arith)
none_upgrade kept none items sums (reduce file term n) w = let e : ◌≡◌ {A = ℕ} 220 214 = ap mark w.0 in absurd (omega arith)
none_upgrade kept none items sums (upgrade file cert) w =
    let k = kept_alone kept items (file ∷ cert ∷ []) sums w.1 in none file cert k.0 k.1
none_upgrade kept none items sums (refute file n) w = let e : ◌≡◌ {A = ℕ} 220 216 = ap mark w.0 in absurd (omega arith)

pub none_refute : (kept : Kept) → ((file : List ℕ) → words_of kept.alone ≡ file ∷ [] → SetsTriesAlone kept → ⊥) → AsksNone (codes "refute") kept
none_refute kept none items sums (check file cert) w = let e : ◌≡◌ {A = ℕ} 216 200 = ap mark w.0 in absurd (omega arith)
none_refute kept none items sums (prove file b) w = let e : ◌≡◌ {A = ℕ} 216 223 = ap mark w.0 in absurd (omega arith)
none_refute kept none items sums (show file) w = let e : ◌≡◌ {A = ℕ} 216 226 = ap mark w.0 in absurd (omega arith)
none_refute kept none items sums (gen n) w = let e : ◌≡◌ {A = ℕ} 216 213 = ap mark w.0 in absurd (omega arith)
none_refute kept none items sums (reduce file term n) w = let e : ◌≡◌ {A = ℕ} 216 214 = ap mark w.0 in absurd (omega arith)
none_refute kept none items sums (upgrade file cert) w = let e : ◌≡◌ {A = ℕ} 216 220 = ap mark w.0 in absurd (omega arith)
none_refute kept none items sums (refute file n) w = none file (sym sums.words ∙ w.1) (record {
  depth = unset_none kept items depth sums w.2.depth;
  visited = unset_none kept items visited sums w.2.visited;
  steps = unset_none kept items steps sums w.2.steps;
})

-- with what is kept the command asks for it
abbrev pub AsksFor : List ℕ → Kept → Request → Type 0
AsksFor command kept asked = (items : List Item) → Sums kept items → Wants command items asked

pub some_check : (kept : Kept) (file cert : List ℕ) → words_of kept.alone ≡ file ∷ cert ∷ [] → SetsNo kept
    → AsksFor (codes "check") kept (check file cert)
some_check kept file cert words none items sums = (refl, items_alone kept items (file ∷ cert ∷ []) sums words none)

pub some_show : (kept : Kept) (file : List ℕ) → words_of kept.alone ≡ file ∷ [] → SetsNo kept → AsksFor (codes "show") kept (show file)
some_show kept file words none items sums = (refl, items_alone kept items (file ∷ []) sums words none)

pub some_gen : (kept : Kept) (n : ℕ) → words_of kept.alone ≡ decimal n ∷ [] → SetsNo kept → 1 ≤ n → n ≤ 200 → AsksFor (codes "gen") kept (gen n)
some_gen kept n words none least most items sums = (refl, items_alone kept items (decimal n ∷ []) sums words none, least, most)

set_to : (items : List Item) (s : Setting) (o : Option ℕ) → numbers_for s items ≡ listed o → ((n : ℕ) → o ≡ Some n → Within s n)
    → SetTo items s (unwrap_or o (usual s))
set_to items s None e within = inl (e, refl)
set_to items s (Some n) e within = let w = within n refl in inr (e, w.0, w.1)

pub some_prove : (kept : Kept) (file : List ℕ) (b : Bounds) → words_of kept.alone ≡ file ∷ [] → kept.steps ≡ None → SetsAll kept b
    → AsksFor (codes "prove") kept (prove file b)
some_prove kept file b words none sets items sums = (
  refl,
  sums.words ∙ words,
  record {
    tries = rw sets.tries (set_to items tries kept.tries (sums.numbers tries) (sums.within tries));
    depth = rw sets.depth (set_to items depth kept.depth (sums.numbers depth) (sums.within depth));
    visited = rw sets.visited (set_to items visited kept.visited (sums.numbers visited) (sums.within visited));
    steps = none_unset kept items steps sums none;
  },
)

pub some_reduce : (kept : Kept) (file term : List ℕ) (n : ℕ) → words_of kept.alone ≡ file ∷ term ∷ [] → SetsNoBounds kept
    → n ≡ unwrap_or kept.steps (usual steps) → AsksFor (codes "reduce") kept (reduce file term n)
some_reduce kept file term n words none is items sums = (
  refl,
  sums.words ∙ words,
  record {
    steps = rw is (set_to items steps kept.steps (sums.numbers steps) (sums.within steps));
    tries = none_unset kept items tries sums none.tries;
    depth = none_unset kept items depth sums none.depth;
    visited = none_unset kept items visited sums none.visited;
  },
)

pub some_upgrade : (kept : Kept) (file cert : List ℕ) → words_of kept.alone ≡ file ∷ cert ∷ [] → SetsNo kept
    → AsksFor (codes "upgrade") kept (upgrade file cert)
some_upgrade kept file cert words none items sums = (refl, items_alone kept items (file ∷ cert ∷ []) sums words none)

pub some_refute : (kept : Kept) (file : List ℕ) (n : ℕ) → words_of kept.alone ≡ file ∷ [] → SetsTriesAlone kept
    → n ≡ unwrap_or kept.tries (usual tries) → AsksFor (codes "refute") kept (refute file n)
some_refute kept file n words none is items sums = (
  refl,
  sums.words ∙ words,
  record {
    tries = rw is (set_to items tries kept.tries (sums.numbers tries) (sums.within tries));
    depth = none_unset kept items depth sums none.depth;
    visited = none_unset kept items visited sums none.visited;
    steps = none_unset kept items steps sums none.steps;
  },
)

fits_alone : (words : List (List ℕ)) → length words ≤ 2 → Fits (map alone words)
fits_alone words few = record {
  words = rw (all_words words) few;
  numbers = λ s. inl (no_numbers words s);
}

bound_fits : (items : List Item) (s : Setting) (n : ℕ) → SetTo items s n → (numbers_for s items ≡ []) ⊎ ((m : ℕ) × (numbers_for s items ≡ m ∷ []) × Within s m)
bound_fits items s n (inl none) = inl none.0
bound_fits items s n (inr some) = inr (n, some.0, (some.1, some.2))

bounds_fit : (items : List Item) (b : Bounds) → SetBounds items b → (s : Setting)
    → (numbers_for s items ≡ []) ⊎ ((m : ℕ) × (numbers_for s items ≡ m ∷ []) × Within s m)
bounds_fit items b sets tries = bound_fits items tries b.tries sets.tries
bounds_fit items b sets depth = bound_fits items depth b.depth sets.depth
bounds_fit items b sets visited = bound_fits items visited b.visited sets.visited
bounds_fit items b sets steps = inl sets.steps

steps_fit : (items : List Item) (n : ℕ) → SetSteps items n → (s : Setting)
    → (numbers_for s items ≡ []) ⊎ ((m : ℕ) × (numbers_for s items ≡ m ∷ []) × Within s m)
steps_fit items n sets tries = inl sets.tries
steps_fit items n sets depth = inl sets.depth
steps_fit items n sets visited = inl sets.visited
steps_fit items n sets steps = bound_fits items steps n sets.steps

tries_fit : (items : List Item) (n : ℕ) → SetTries items n → (s : Setting)
    → (numbers_for s items ≡ []) ⊎ ((m : ℕ) × (numbers_for s items ≡ m ∷ []) × Within s m)
tries_fit items n sets tries = bound_fits items tries n sets.tries
tries_fit items n sets depth = inl sets.depth
tries_fit items n sets visited = inl sets.visited
tries_fit items n sets steps = inl sets.steps

-- what a command asks for can be kept
pub wants_fit : (command : List ℕ) (items : List Item) (asked : Request) → Wants command items asked → Fits items
wants_fit command items (check file cert) w = rw w.1 (fits_alone (file ∷ cert ∷ []) (omega arith))
wants_fit command items (prove file b) w = record {
  words = rw w.1 (omega arith);
  numbers = bounds_fit items b w.2;
}
wants_fit command items (show file) w = rw w.1 (fits_alone (file ∷ []) (omega arith))
wants_fit command items (gen n) w = rw w.1 (fits_alone (decimal n ∷ []) (omega arith))
wants_fit command items (reduce file term n) w = record {
  words = rw w.1 (omega arith);
  numbers = steps_fit items n w.2;
}
wants_fit command items (upgrade file cert) w = rw w.1 (fits_alone (file ∷ cert ∷ []) (omega arith))
wants_fit command items (refute file n) w = record {
  words = rw w.1 (omega arith);
  numbers = tries_fit items n w.2;
}

asks : (command : List ℕ) (rest : List (List ℕ)) (items : List Item) (asked : Request) → Say rest items → Wants command items asked
    → Asks (command ∷ rest) asked
asks command rest items (check file cert) said w = (rest, ap (λ c. c ∷ rest) w.0, subst (Say rest) w.1 said)
asks command rest items (prove file b) said w = (rest, items, ap (λ c. c ∷ rest) w.0, said, w.1, w.2)
asks command rest items (show file) said w = (rest, ap (λ c. c ∷ rest) w.0, subst (Say rest) w.1 said)
asks command rest items (gen n) said w = (rest, ap (λ c. c ∷ rest) w.0, subst (Say rest) w.1 said, w.2, w.3)
asks command rest items (reduce file term n) said w = (rest, items, ap (λ c. c ∷ rest) w.0, said, w.1, w.2)
asks command rest items (upgrade file cert) said w = (rest, ap (λ c. c ∷ rest) w.0, subst (Say rest) w.1 said)
asks command rest items (refute file n) said w = (rest, items, ap (λ c. c ∷ rest) w.0, said, w.1, w.2)

pub asked_by : (command : List ℕ) (rest : List (List ℕ)) (asked : Request) → Asks (command ∷ rest) asked
    → (items : List Item) × Say rest items × Wants command items asked
asked_by command rest (check file cert) a =
    let c : command ≡ codes "check" = cc a.1 in let r : a.0 ≡ rest = cc a.1 in
    (alone file ∷ alone cert ∷ [], subst (λ words. Say words (alone file ∷ alone cert ∷ [])) r a.2, (c, refl))
asked_by command rest (prove file b) a =
    let c : command ≡ codes "prove" = cc a.2 in let r : a.0 ≡ rest = cc a.2 in
    (a.1, subst (λ words. Say words a.1) r a.3, (c, a.4, a.5))
asked_by command rest (show file) a =
    let c : command ≡ codes "show" = cc a.1 in let r : a.0 ≡ rest = cc a.1 in
    (alone file ∷ [], subst (λ words. Say words (alone file ∷ [])) r a.2, (c, refl))
asked_by command rest (gen n) a =
    let c : command ≡ codes "gen" = cc a.1 in let r : a.0 ≡ rest = cc a.1 in
    (alone (decimal n) ∷ [], subst (λ words. Say words (alone (decimal n) ∷ [])) r a.2, (c, refl, a.3, a.4))
asked_by command rest (reduce file term n) a =
    let c : command ≡ codes "reduce" = cc a.2 in let r : a.0 ≡ rest = cc a.2 in
    (a.1, subst (λ words. Say words a.1) r a.3, (c, a.4, a.5))
asked_by command rest (upgrade file cert) a =
    let c : command ≡ codes "upgrade" = cc a.1 in let r : a.0 ≡ rest = cc a.1 in
    (alone file ∷ alone cert ∷ [], subst (λ words. Say words (alone file ∷ alone cert ∷ [])) r a.2, (c, refl))
asked_by command rest (refute file n) a =
    let c : command ≡ codes "refute" = cc a.2 in let r : a.0 ≡ rest = cc a.2 in
    (a.1, subst (λ words. Say words a.1) r a.3, (c, a.4, a.5))

-- without words nothing is asked for
pub no_words : (asked : Request) → Asks [] asked → ⊥
no_words (check file cert) a = cc a.1
no_words (prove file b) a = cc a.2
no_words (show file) a = cc a.1
no_words (gen n) a = cc a.1
no_words (reduce file term n) a = cc a.2
no_words (upgrade file cert) a = cc a.1
no_words (refute file n) a = cc a.2

-- nor where nothing that can be kept is said
pub nothing_said : (command : List ℕ) (rest : List (List ℕ)) → ((items : List Item) → Say rest items → Fits items → ⊥) → (asked : Request)
    → Asks (command ∷ rest) asked → ⊥
nothing_said command rest none asked a =
    let by = asked_by command rest asked a in
    none by.0 by.1 (wants_fit command by.0 asked by.2)

-- nor where the command asks for nothing with what is kept
pub nothing_asked : (command : List ℕ) (rest : List (List ℕ)) (kept : Kept) → Knows rest [] kept → AsksNone command kept → (asked : Request)
    → Asks (command ∷ rest) asked → ⊥
nothing_asked command rest kept known none asked a =
    let by = asked_by command rest asked a in
    let q = known.2.all by.0 by.1 (wants_fit command by.0 asked by.2) in
    let same : by.0 ≡ known.0 = q.2 ∙ ap (λ is. known.0 ++ is) (from_none q.1) ∙ append-nil known.0 in
    none known.0 known.1 asked (subst (λ items. Wants command items asked) same by.2)

-- what it asks for is asked for
pub something_asked : (command : List ℕ) (rest : List (List ℕ)) (kept : Kept) (asked : Request) → Knows rest [] kept → AsksFor command kept asked
    → Asks (command ∷ rest) asked
something_asked command rest kept asked known wants =
    let said : Say rest known.0 = rw (← append-nil known.0) (known.2.says [] say_none) in
    asks command rest known.0 asked said (wants known.0 known.1)

-- what `gen` asks for with one word
pub generated : (kept : Kept) (word : List ℕ) (r : Option Command) → words_of kept.alone ≡ word ∷ [] → SetsNo kept
    → MatchOption r ((n : ℕ) → decimal n ≡ word → 1 ≤ n → n ≤ 200 → ⊥)
    (λ command. (n : ℕ) × (request command ≡ gen n) × (decimal n ≡ word) × (1 ≤ n) × (n ≤ 200))
    → Answers (codes "gen") kept r
generated kept word None words none found = none_gen kept (λ n is _ least most. found n (cc (is, words)) least most)
generated kept word (Some command) words none found =
    let is : words_of kept.alone ≡ decimal found.0 ∷ [] = words ∙ ap (λ w. w ∷ []) (sym found.2) in
    rw found.1 (some_gen kept found.0 is none found.3 found.4)

-- the answer of a command is that of its words
pub answered : (command : List ℕ) (rest : List (List ℕ)) (kept : Kept) (r : Option Command) → Knows rest [] kept → Answers command kept r
    → MatchOption r ((asked : Request) → Asks (command ∷ rest) asked → ⊥) (λ answer. Asks (command ∷ rest) (request answer))
answered command rest kept None known none = nothing_asked command rest kept known none
answered command rest kept (Some answer) known wants = something_asked command rest kept (request answer) known wants

pub at_most : (o : Option ℕ) (usual most : ℕ) → ((n : ℕ) → o ≡ Some n → n ≤ most) → usual ≤ most → unwrap_or o usual ≤ most
at_most None usual most all low = low
at_most (Some n) usual most all low = all n refl
