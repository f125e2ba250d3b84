-- Words ask for one request at most.
use Rattle.std.proofs.Common.{ℕ, ◌+◌, ◌≡◌, ◌<◌, ◌^◌, inl, inr, List, [], ◌∷◌, ◌++◌, get_or, refl, sym, ap, ap₂, ◌∙◌, subst, arith, append_assoc}
use Rattle.std.specs.Fmt.{decimal}
use Rattle.std.proofs.lemmas.Fmt.{decimal_injective}
use Rattle.wh_top_words.specs.Words.{Setting, tries, depth, visited, steps, Item, alone, set, Say, say_none, say_rest, say_alone, say_joined, say_apart, SetTo, Bounds, SetBounds, Request, check, prove, show, gen, reduce, upgrade, refute, Asks}
use Rattle.wh_top_words.specs.Kept.{Fits}
use Rattle.wh_top_words.specs.Answers.{Wants}
use Rattle.wh_top_words.proofs.Among.{room_for_number, within_is_long}
use Rattle.wh_top_words.proofs.Saying.{from_none, from_end, from_plain, from_joined, from_apart}
use Rattle.wh_top_words.proofs.Asking.{asked_by, no_words, wants_fit}

-- the numbers that options set have 64 bits
abbrev AreLong : List Item → Type 0
AreLong [] = Unit {0}
AreLong (alone word ∷ items) = AreLong items
AreLong (set s n ∷ items) = (n < 2 ^ 64) × AreLong items

long_behind : (front items : List Item) → Fits (front ++ items) → AreLong items
long_behind front [] fits = tt
long_behind front (alone word ∷ items) fits = long_behind (front ++ alone word ∷ []) items (rw append_assoc fits)
long_behind front (set s n ∷ items) fits = (
  within_is_long s n (room_for_number s n front items fits).1,
  long_behind (front ++ set s n ∷ []) items (rw append_assoc fits),
)

-- words say one list of such items
one_saying : {words : List (List ℕ)} {items others : List Item} → Say words items → Say words others → AreLong items → AreLong others
    → items ≡ others
one_saying say_none also long longer = sym (from_none also)
one_saying (say_rest filled) also long longer = sym (from_end refl also).1
one_saying (say_alone {word = word} {items = items} plain said) also long longer =
    let next = from_plain plain also in
    ap (λ is. alone word ∷ is) (one_saying said next.1 long (subst AreLong next.2 longer)) ∙ sym next.2
one_saying (say_joined {s = s} {n = n} {items = items} said) also long longer =
    let next = from_joined s (decimal n) refl also in
    let more = subst AreLong next.4 longer in
    let same : n ≡ next.0 = decimal_injective n next.0 long.0 more.0 (sym next.2) in
    ap₂ (λ m is. set s m ∷ is) same (one_saying said next.3 long.1 more.1) ∙ sym next.4
one_saying (say_apart {s = s} {n = n} {words = words} {items = items} said) also long longer =
    let next = from_apart s refl also in
    let more = subst AreLong next.5 longer in
    let same : n ≡ next.0 = decimal_injective n next.0 long.0 more.0 (cc next.3) in
    let rest : next.1 ≡ words = cc next.3 in
    ap₂ (λ m is. set s m ∷ is) same (one_saying said (subst (λ ws. Say ws next.2) rest next.4) long.1 more.1) ∙ sym next.5

set_one : (items : List Item) (s : Setting) (n m : ℕ) → SetTo items s n → SetTo items s m → n ≡ m
set_one items s n m (inl none) (inl also) = none.1 ∙ sym also.1
set_one items s n m (inl none) (inr some) = let first = none.0 in let then = some.0 in cc
set_one items s n m (inr some) (inl none) = let first = none.0 in let then = some.0 in cc
set_one items s n m (inr some) (inr also) = let first = some.0 in let then = also.0 in cc

bounds_one : (items : List Item) (b c : Bounds) → SetBounds items b → SetBounds items c → b ≡ c
bounds_one items b c sets also =
    let same_tries = set_one items tries b.tries c.tries sets.tries also.tries in
    let same_depth = set_one items depth b.depth c.depth sets.depth also.depth in
    let same_visited = set_one items visited b.visited c.visited sets.visited also.visited in
    λ i. record { tries = same_tries i; depth = same_depth i; visited = same_visited i }

-- the sum of two bytes tells the commands apart
abbrev mark : List ℕ → ℕ
mark word = get_or word 0 0 + get_or word 2 0

abbrev letter : Request → ℕ
letter (check file cert) = 200
letter (prove file b) = 223
letter (show file) = 226
letter (gen n) = 213
letter (reduce file term n) = 214
letter (upgrade file cert) = 220
letter (refute file n) = 216

wants_letter : (command : List ℕ) (items : List Item) (a : Request) → Wants command items a → mark command ≡ letter a
wants_letter command items (check file cert) w = ap mark w.0
wants_letter command items (prove file b) w = ap mark w.0
wants_letter command items (show file) w = ap mark w.0
wants_letter command items (gen n) w = ap mark w.0
wants_letter command items (reduce file term n) w = ap mark w.0
wants_letter command items (upgrade file cert) w = ap mark w.0
wants_letter command items (refute file n) w = ap mark w.0

-- a command asks for one thing with the items
wants_one : (command : List ℕ) (items : List Item) (a b : Request) → letter a ≡ letter b → Wants command items a → Wants command items b → a ≡ b
wants_one command items (check file cert) (check other by) e w v = let here = w.1 in let there = v.1 in cc
wants_one command items (prove file b) (prove other c) e w v =
    let here = w.1 in
    let there = v.1 in
    let files : file ≡ other = cc in
    ap₂ prove files (bounds_one items b c w.2 v.2)
wants_one command items (show file) (show other) e w v = let here = w.1 in let there = v.1 in cc
wants_one command items (gen n) (gen m) e w v =
    let here = w.1 in
    let there = v.1 in
    let spelled : decimal n ≡ decimal m = cc in
    let few = w.3 in
    let also_few = v.3 in
    ap gen (decimal_injective n m (omega arith) (omega arith) spelled)
wants_one command items (reduce file term n) (reduce other by m) e w v =
    let here = w.1 in
    let there = v.1 in
    let files : file ≡ other = cc in
    let terms : term ≡ by = cc in
    let counts = set_one items steps n m w.2.steps v.2.steps in
    λ i. reduce (files i) (terms i) (counts i)
wants_one command items (upgrade file cert) (upgrade other by) e w v = let here = w.1 in let there = v.1 in cc
wants_one command items (refute file n) (refute other m) e w v =
    let here = w.1 in
    let there = v.1 in
    let files : file ≡ other = cc in
    ap₂ refute files (set_one items tries n m w.2.tries v.2.tries)
wants_one command items a b e w v = absurd (omega arith)

pub one_request : (words : List (List ℕ)) (a b : Request) → Asks words a → Asks words b → a ≡ b
one_request [] a b asks also = absurd (no_words a asks)
one_request (command ∷ rest) a b asks also =
    let here = asked_by command rest a asks in
    let there = asked_by command rest b also in
    let same : here.0 ≡ there.0 =
    one_saying here.1 there.1 (long_behind [] here.0 (wants_fit command here.0 a here.2)) (long_behind [] there.0 (wants_fit command there.0 b there.2)) in
    wants_one command there.0 a b (sym (wants_letter command here.0 a here.2) ∙ wants_letter command there.0 b there.2)
    (subst (λ items. Wants command items a) same here.2) there.2
