-- Lines that say interpretations, by the lists of their names, types and polynomials; and the one reading that such lines have.
use Rattle.std.proofs.Common.{◌≡◌, ℕ, ◌+◌, ◌<◌, ◌≤◌, List, [], ◌∷◌, ◌++◌, length, map, get_or, take, Some, slice_get, refl, sym, ap, subst, ◌∙◌}
use Rattle.std.proofs.lemmas.List.{take_more, take_all, map-append, length-map}
use Rattle.wh_types.specs.Ty.{Ty}
use Rattle.wh_types.specs.Erase.{ty}
use Rattle.wh_system.specs.Systems.{SystemData}
use Rattle.wh_system.specs.WellMade.{AreDistinct}
use Rattle.wh_pairs.specs.PairData.{PairData}
use Rattle.wh_pairs.proofs.ByPlace.{read, remap, some_one}
use Rattle.wh_pairs.proofs.ListLemmas.{map-map}
use Rattle.wh_pairs.specs.Marked.{AreMarked}
use Rattle.wh_cert.specs.Interps.{Interp}
use Rattle.wh_cert.specs.Said.{said_interp}
use Rattle.wh_cert.specs.declared.poly_node.Interp as code
use Rattle.wh_poly.specs.Erase.{poly}
use Rattle.wh_hopoly.specs.Erase.{interpretation, interpretations}
use Rattle.wh_hopoly.specs.Evaluation.{Interpretation}
use Rattle.wh_poly.specs.Polynomials.{Polynomial}
use Rattle.wh_hopoly.specs.declared.expression.Symbol.{Symbol}
use Rattle.wh_polycheck.specs.Marks.{Mark}
use Rattle.wh_polycheck.specs.SideResults.{mark, marks_of}
use Rattle.wh_polycheck.specs.declared.marks.MarkedSymbol.{MarkedSymbol}
use Rattle.wh_proof.specs.Looked.{SayInterpretations, SaysMark, SayMarks}
use Rattle.wh_pairs.proofs.SetLemmas.{increasing_one}
use Rattle.wh_proof.proofs.ChoiceLemmas.{one_symbol}

-- two lists that are read side by side

pub pace_next : {A B C : Type 0} (f : A → C) (g : B → C) (xs : List A) (ys : List B) (i : ℕ) (x : A) (y : B)
    → map f (take i xs) ≡ map g (take i ys) → i < length xs → x ≡ get_or xs i x → i < length ys → y ≡ get_or ys i y → f x ≡ g y
    → map f (take (i + 1) xs) ≡ map g (take (i + 1) ys)
pace_next {A = A} {B = B} f g xs ys i x y so_far within x_is inside y_is same =
    let left : take (i + 1) xs ≡ take i xs ++ x ∷ [] = subst (λ (a : A). take (i + 1) xs ≡ take i xs ++ a ∷ []) (sym x_is)
    (take_more xs i x within) in
    let right : take (i + 1) ys ≡ take i ys ++ y ∷ [] = subst (λ (b : B). take (i + 1) ys ≡ take i ys ++ b ∷ []) (sym y_is)
    (take_more ys i y inside) in
    let both : map f (take i xs) ++ f x ∷ [] ≡ map g (take i ys) ++ g y ∷ [] = cc in
    ap (map f) left ∙ map-append f (take i xs) (x ∷ []) ∙ both ∙ sym (map-append g (take i ys) (y ∷ [])) ∙ sym (ap (map g) right)

pub pace_broken : {A B C : Type 0} (f : A → C) (g : B → C) (xs : List A) (ys : List B) (i : ℕ) (x : A) (y : B) → i < length xs
    → x ≡ get_or xs i x → i < length ys → y ≡ get_or ys i y → (f x ≡ g y → ⊥) → map f xs ≡ map g ys → ⊥
pace_broken f g xs ys i x y within x_is inside y_is apart same =
    apart (some_one (sym (ap (λ l. slice_get l i) same) ∙ remap f xs i x (read xs i x within x_is))
    (remap g ys i y (read ys i y inside y_is)))

pub pace_ended : {A B C : Type 0} (f : A → C) (g : B → C) (xs : List A) (ys : List B) (i : ℕ)
    → map f (take i xs) ≡ map g (take i ys) → length xs ≤ i → length ys ≤ i → map f xs ≡ map g ys
pace_ended f g xs ys i so_far past over = sym (ap (map f) (take_all i xs past)) ∙ so_far ∙ ap (map g) (take_all i ys over)

pub pace_as_long : {A B C : Type 0} (f : A → C) (g : B → C) (xs : List A) (ys : List B) → map f xs ≡ map g ys → length xs ≡ length ys
pace_as_long f g xs ys same = sym (length-map xs f) ∙ ap length same ∙ length-map ys g

-- the lines of all symbols

abbrev pub kinds_of : List Interpretation → List Ty
kinds_of = map (λ (s : Interpretation). s.kind)

abbrev pub polynomials_of : List Interpretation → List Polynomial
polynomials_of = map (λ (s : Interpretation). s.polynomial)

abbrev pub names_in : List Interp → List (List ℕ)
names_in = map (λ (l : Interp). l.name)

abbrev pub polynomials_in : List Interp → List Polynomial
polynomials_in = map (λ (l : Interp). l.poly)

pub said_lists : (names : List (List ℕ)) (kinds : List Ty) (lines : List Interp) (symbols : List Interpretation)
    → SayInterpretations names kinds lines symbols
    → (names_in lines ≡ names) × (kinds_of symbols ≡ kinds) × (polynomials_of symbols ≡ polynomials_in lines)
said_lists [] [] [] [] says = (refl, refl, refl)
said_lists (n ∷ names) (a ∷ kinds) (l ∷ lines) (s ∷ symbols) (name, kind, polynomial, rest) =
    let (names_are, kinds_are, polynomials_are) = said_lists names kinds lines symbols rest in (cc, cc, cc)
said_lists [] [] [] (s ∷ symbols) says = absurd says
said_lists [] [] (l ∷ lines) symbols says = absurd says
said_lists [] (a ∷ kinds) lines symbols says = absurd says
said_lists (n ∷ names) [] lines symbols says = absurd says
said_lists (n ∷ names) (a ∷ kinds) [] symbols says = absurd says
said_lists (n ∷ names) (a ∷ kinds) (l ∷ lines) [] says = absurd says

own_lists_say : (lines : List Interp) (symbols : List Interpretation) → polynomials_of symbols ≡ polynomials_in lines
    → SayInterpretations (names_in lines) (kinds_of symbols) lines symbols
own_lists_say [] [] same = tt
own_lists_say (l ∷ lines) (s ∷ symbols) same = (refl, refl, cc, own_lists_say lines symbols (cc))
own_lists_say [] (s ∷ symbols) same = absurd (cc)
own_lists_say (l ∷ lines) [] same = absurd (cc)

pub lists_say : (names : List (List ℕ)) (kinds : List Ty) (lines : List Interp) (symbols : List Interpretation) → names_in lines ≡ names
    → kinds_of symbols ≡ kinds → polynomials_of symbols ≡ polynomials_in lines → SayInterpretations names kinds lines symbols
lists_say names kinds lines symbols names_are kinds_are polynomials_are =
    subst (λ (l : List (List ℕ)). SayInterpretations l kinds lines symbols) names_are
    (subst (λ (l : List Ty). SayInterpretations (names_in lines) l lines symbols) kinds_are (own_lists_say lines symbols polynomials_are))

same_lists : (ss us : List Interpretation) → kinds_of ss ≡ kinds_of us → polynomials_of ss ≡ polynomials_of us → ss ≡ us
same_lists [] [] kinds polynomials = refl
same_lists (s ∷ ss) (u ∷ us) kinds polynomials =
    let rest : ss ≡ us = same_lists ss us (cc) (cc) in
    let kind : s.kind ≡ u.kind = cc in
    let polynomial : s.polynomial ≡ u.polynomial = cc in
    let here : s ≡ u = interpretation_one s.kind u.kind s.polynomial u.polynomial kind polynomial in
    cc
  where
    interpretation_one : (a b : Ty) (p q : Polynomial) → a ≡ b → p ≡ q
        → ◌≡◌ {A = Interpretation} (record { kind = a; polynomial = p }) (record { kind = b; polynomial = q })
    interpretation_one a b p q kind polynomial = cc
same_lists [] (u ∷ us) kinds polynomials = absurd (cc)
same_lists (s ∷ ss) [] kinds polynomials = absurd (cc)

pub one_interpretations_said : (names : List (List ℕ)) (kinds : List Ty) (lines : List Interp) (ss us : List Interpretation)
    → SayInterpretations names kinds lines ss → SayInterpretations names kinds lines us → ss ≡ us
one_interpretations_said names kinds lines ss us says also =
    let (_, kinds_are, polynomials_are) = said_lists names kinds lines ss says in
    let (_, others, more) = said_lists names kinds lines us also in
    same_lists ss us (kinds_are ∙ sym others) (polynomials_are ∙ sym more)

-- the lines of marked symbols

abbrev pub marked_numbers : List Mark → List ℕ
marked_numbers = map (λ (m : Mark). m.symbol)

abbrev pub polynomials_of_marks : List Mark → List Polynomial
polynomials_of_marks = map (λ (m : Mark). m.polynomial)

pub marks_say : (d : SystemData) (lines : List Interp) (marks : List Mark)
    → map (λ (m : Mark). slice_get d.fun_names m.symbol) marks ≡ map (λ (l : Interp). Some l.name) lines
    → polynomials_of_marks marks ≡ polynomials_in lines → SayMarks d lines marks
marks_say d [] [] named polynomials = tt
marks_say d (l ∷ lines) (m ∷ marks) named polynomials = (record { named = cc; polynomial = cc }, marks_say d lines marks (cc) (cc))
marks_say d [] (m ∷ marks) named polynomials = absurd (cc)
marks_say d (l ∷ lines) [] named polynomials = absurd (cc)

pub marks_named : (d : SystemData) (lines : List Interp) (marks : List Mark) → SayMarks d lines marks
    → map (λ (m : Mark). slice_get d.fun_names m.symbol) marks ≡ map (λ (l : Interp). Some l.name) lines
marks_named d [] [] says = refl
marks_named d (l ∷ lines) (m ∷ marks) (here, rest) = let same = marks_named d lines marks rest in let one = here.named in cc
marks_named d [] (m ∷ marks) says = absurd says
marks_named d (l ∷ lines) [] says = absurd says

mark_one : (s t : ℕ) (p q : Polynomial) → s ≡ t → p ≡ q → ◌≡◌ {A = Mark} (record { symbol = s; polynomial = p })
    (record { symbol = t; polynomial = q })
mark_one s t p q symbol polynomial = cc

one_mark_said : (d : SystemData) (line : Interp) (m n : Mark) → AreDistinct d.fun_names → SaysMark d line m → SaysMark d line n → m ≡ n
one_mark_said d line m n apart says also =
    let symbol : m.symbol ≡ n.symbol = one_symbol d.fun_names m.symbol n.symbol line.name apart says.named also.named in
    let polynomial : m.polynomial ≡ n.polynomial = says.polynomial ∙ sym also.polynomial in
    mark_one m.symbol n.symbol m.polynomial n.polynomial symbol polynomial

pub one_marks_said : (d : SystemData) (lines : List Interp) (ms ns : List Mark) → AreDistinct d.fun_names → SayMarks d lines ms
    → SayMarks d lines ns → ms ≡ ns
one_marks_said d [] [] [] apart says also = refl
one_marks_said d (line ∷ lines) (m ∷ ms) (n ∷ ns) apart (here, rest) (also, others) =
    cc (one_mark_said d line m n apart here also, one_marks_said d lines ms ns apart rest others)
one_marks_said d [] (m ∷ ms) ns apart says also = absurd says
one_marks_said d [] [] (n ∷ ns) apart says also = absurd also
one_marks_said d (line ∷ lines) [] ns apart says also = absurd says
one_marks_said d (line ∷ lines) (m ∷ ms) [] apart says also = absurd also

-- what the program's lists say

pub symbols_read : (names : List (List ℕ)) (kinds : List Ty) (lines : List code.Interp) (made : List Symbol)
    → map (λ (l : code.Interp). l.name) lines ≡ names → map (λ (s : Symbol). ty s.kind) made ≡ kinds
    → map (λ (s : Symbol). poly s.poly) made ≡ map (λ (l : code.Interp). poly l.poly) lines
    → SayInterpretations names kinds (map said_interp lines) (interpretations made)
symbols_read names kinds lines made names_are kinds_are polynomials_are =
    lists_say names kinds (map said_interp lines) (interpretations made)
    (map-map (λ (l : Interp). l.name) said_interp lines ∙ names_are)
    (map-map (λ (s : Interpretation). s.kind) interpretation made ∙ kinds_are)
    (map-map (λ (s : Interpretation). s.polynomial) interpretation made ∙ polynomials_are
    ∙ sym (map-map (λ (l : Interp). l.poly) said_interp lines))

-- other names than the symbols': the lines say nothing
pub symbols_unread : (names : List (List ℕ)) (kinds : List Ty) (lines : List code.Interp)
    → (map (λ (l : code.Interp). l.name) lines ≡ names → ⊥)
    → (symbols : List Interpretation) → SayInterpretations names kinds (map said_interp lines) symbols → ⊥
symbols_unread names kinds lines other symbols says =
    other (sym (map-map (λ (l : Interp). l.name) said_interp lines) ∙ (said_lists names kinds (map said_interp lines) symbols says).0)

-- the types of interpretations that lines say are those of the symbols
pub kinds_said : (names : List (List ℕ)) (kinds : List Ty) (lines : List Interp) (made : List Symbol)
    → SayInterpretations names kinds lines (interpretations made) → map (λ (s : Symbol). ty s.kind) made ≡ kinds
kinds_said names kinds lines made says =
    sym (map-map (λ (s : Interpretation). s.kind) interpretation made) ∙ (said_lists names kinds lines (interpretations made) says).1

pub numbers_of : (made : List MarkedSymbol) → marked_numbers (marks_of made) ≡ map (λ (m : MarkedSymbol). m.symbol) made
numbers_of made = map-map (λ (m : Mark). m.symbol) mark made

pub marks_read : (d : SystemData) (lines : List code.Interp) (numbers : List ℕ) (made : List MarkedSymbol)
    → map (λ n. slice_get d.fun_names n) numbers ≡ map (λ (l : code.Interp). Some l.name) lines
    → map (λ (m : MarkedSymbol). m.symbol) made ≡ numbers
    → map (λ (m : MarkedSymbol). poly m.poly) made ≡ map (λ (l : code.Interp). poly l.poly) lines
    → SayMarks d (map said_interp lines) (marks_of made)
marks_read d lines numbers made named numbers_are polynomials_are =
    marks_say d (map said_interp lines) (marks_of made)
    (sym (map-map (λ n. slice_get d.fun_names n) (λ (m : Mark). m.symbol) (marks_of made))
    ∙ ap (map (λ n. slice_get d.fun_names n)) (numbers_of made ∙ numbers_are) ∙ named
    ∙ sym (map-map (λ (l : Interp). Some l.name) said_interp lines))
    (map-map (λ (m : Mark). m.polynomial) mark made ∙ polynomials_are ∙ sym (map-map (λ (l : Interp). l.poly) said_interp lines))

pub marked_one : (ps : List PairData) (set fs gs : List ℕ) → AreMarked ps set fs → AreMarked ps set gs → fs ≡ gs
marked_one ps set fs gs are also =
    increasing_one fs gs are.in_order also.in_order (λ f found. (also.each f).1 ((are.each f).0 found))
    (λ f found. (are.each f).1 ((also.each f).0 found))

-- other names than the marked symbols': the lines say nothing
pub marks_unread : (d : SystemData) (ps : List PairData) (set : List ℕ) (lines : List code.Interp) (numbers : List ℕ)
    → AreMarked ps set numbers → (map (λ n. slice_get d.fun_names n) numbers ≡ map (λ (l : code.Interp). Some l.name) lines → ⊥)
    → (marks : List Mark) → SayMarks d (map said_interp lines) marks → AreMarked ps set (marked_numbers marks) → ⊥
marks_unread d ps set lines numbers are other marks says marked =
    other (ap (map (λ n. slice_get d.fun_names n)) (marked_one ps set numbers (marked_numbers marks) are marked)
    ∙ map-map (λ n. slice_get d.fun_names n) (λ (m : Mark). m.symbol) marks ∙ marks_named d (map said_interp lines) marks says
    ∙ map-map (λ (l : Interp). Some l.name) said_interp lines)

-- the names of equal numbers in equal lists
pub named_same : (names others : List (List ℕ)) (ns ms : List ℕ) → names ≡ others → ns ≡ ms
    → map (λ n. slice_get names n) ns ≡ map (λ n. slice_get others n) ms
named_same names others ns ms same equal =
    subst (λ (l : List (List ℕ)). map (λ n. slice_get names n) ns ≡ map (λ n. slice_get l n) ms) same
    (ap (map (λ n. slice_get names n)) equal)
