-- Lines that say argument filters, by the lists of their names and filters; and the one reading that such lines have.
use Rattle.std.proofs.Common.{◌≡◌, ℕ, List, [], ◌∷◌, length, map, Some, slice_get, refl, sym, ap, subst, ◌∙◌}
use Rattle.std.proofs.lemmas.List.{length-map}
use Rattle.wh_system.specs.Systems.{SystemData}
use Rattle.wh_system.specs.WellMade.{AreDistinct}
use Rattle.wh_pairs.specs.PairData.{PairData}
use Rattle.wh_pairs.specs.Marked.{AreMarked}
use Rattle.wh_pairs.proofs.ListLemmas.{map-map}
use Rattle.wh_order_inference.specs.FilterText.{WrittenFilter}
use Rattle.wh_order_inference.specs.Said.{written_filter}
use Rattle.wh_cert.specs.Written as w
use Rattle.wh_cert.specs.Said.{said_filter}
use Rattle.wh_cert.specs.declared.order_node.NamedFilter.{NamedFilter}
use Rattle.wh_order_node.specs.Filterings.{MarkFilter}
use Rattle.wh_order_node.specs.FilteringView.{mark_filter}
use Rattle.wh_order_node.specs.declared.filters.MarkFilter as code
use Rattle.wh_proof.specs.Looked.{SayFilters, SaysMarkFilter, SayMarkFilters}
use Rattle.wh_proof.proofs.ChoiceLemmas.{one_symbol}
use Rattle.wh_proof.proofs.InterpretationLemmas.{marked_one}

abbrev pub names_in : List w.Filtering → List (List ℕ)
names_in = map (λ (l : w.Filtering). l.name)

abbrev pub filters_in : List w.Filtering → List WrittenFilter
filters_in = map (λ (l : w.Filtering). l.filter)

-- the lines of all symbols

pub filters_named : (names : List (List ℕ)) (lines : List w.Filtering) (filters : List WrittenFilter) → SayFilters names lines filters
    → (names_in lines ≡ names) × (filters ≡ filters_in lines)
filters_named [] [] [] says = (refl, refl)
filters_named (n ∷ names) (l ∷ lines) (f ∷ filters) (name, filter, rest) =
    let (names_are, filters_are) = filters_named names lines filters rest in (cc, cc)
filters_named [] [] (f ∷ filters) says = absurd says
filters_named [] (l ∷ lines) filters says = absurd says
filters_named (n ∷ names) [] filters says = absurd says
filters_named (n ∷ names) (l ∷ lines) [] says = absurd says

-- a filter for each name
pub as_many_filters : (names : List (List ℕ)) (lines : List w.Filtering) (filters : List WrittenFilter) → SayFilters names lines filters
    → length filters ≡ length names
as_many_filters names lines filters says =
    let (names_are, filters_are) = filters_named names lines filters says in
    ap length filters_are ∙ length-map lines (λ l. l.filter) ∙ sym (length-map lines (λ l. l.name)) ∙ ap length names_are

own_filters_say : (lines : List w.Filtering) → SayFilters (names_in lines) lines (filters_in lines)
own_filters_say [] = tt
own_filters_say (l ∷ lines) = (refl, refl, own_filters_say lines)

pub filters_say : (names : List (List ℕ)) (lines : List w.Filtering) (filters : List WrittenFilter) → names_in lines ≡ names
    → filters ≡ filters_in lines → SayFilters names lines filters
filters_say names lines filters names_are filters_are =
    subst (λ (l : List (List ℕ)). SayFilters l lines filters) names_are
    (subst (λ (l : List WrittenFilter). SayFilters (names_in lines) lines l) (sym filters_are) (own_filters_say lines))

pub one_filters_said : (names : List (List ℕ)) (lines : List w.Filtering) (fs gs : List WrittenFilter) → SayFilters names lines fs
    → SayFilters names lines gs → fs ≡ gs
one_filters_said names lines fs gs says also = (filters_named names lines fs says).1 ∙ sym (filters_named names lines gs also).1

-- the lines of marked symbols

abbrev pub marked_numbers : List MarkFilter → List ℕ
marked_numbers = map (λ (m : MarkFilter). m.symbol)

abbrev pub filters_of_marks : List MarkFilter → List WrittenFilter
filters_of_marks = map (λ (m : MarkFilter). m.filter)

pub mark_filters_say : (d : SystemData) (lines : List w.Filtering) (marks : List MarkFilter)
    → map (λ (m : MarkFilter). slice_get d.fun_names m.symbol) marks ≡ map (λ (l : w.Filtering). Some l.name) lines
    → filters_of_marks marks ≡ filters_in lines → SayMarkFilters d lines marks
mark_filters_say d [] [] named filters = tt
mark_filters_say d (l ∷ lines) (m ∷ marks) named filters =
    (record { named = cc; filter = cc }, mark_filters_say d lines marks (cc) (cc))
mark_filters_say d [] (m ∷ marks) named filters = absurd (cc)
mark_filters_say d (l ∷ lines) [] named filters = absurd (cc)

pub mark_filters_named : (d : SystemData) (lines : List w.Filtering) (marks : List MarkFilter) → SayMarkFilters d lines marks
    → map (λ (m : MarkFilter). slice_get d.fun_names m.symbol) marks ≡ map (λ (l : w.Filtering). Some l.name) lines
mark_filters_named d [] [] says = refl
mark_filters_named d (l ∷ lines) (m ∷ marks) (here, rest) =
    let same = mark_filters_named d lines marks rest in let one = here.named in cc
mark_filters_named d [] (m ∷ marks) says = absurd says
mark_filters_named d (l ∷ lines) [] says = absurd says

mark_filter_one : (s t : ℕ) (f g : WrittenFilter) → s ≡ t → f ≡ g → ◌≡◌ {A = MarkFilter} (record { symbol = s; filter = f })
    (record { symbol = t; filter = g })
mark_filter_one s t f g symbol filter = cc (symbol, filter)

one_mark_filter_said : (d : SystemData) (line : w.Filtering) (m n : MarkFilter) → AreDistinct d.fun_names → SaysMarkFilter d line m
    → SaysMarkFilter d line n → m ≡ n
one_mark_filter_said d line m n apart says also =
    let symbol : m.symbol ≡ n.symbol = one_symbol d.fun_names m.symbol n.symbol line.name apart says.named also.named in
    let filter : m.filter ≡ n.filter = says.filter ∙ sym also.filter in
    mark_filter_one m.symbol n.symbol m.filter n.filter symbol filter

pub one_mark_filters_said : (d : SystemData) (lines : List w.Filtering) (ms ns : List MarkFilter) → AreDistinct d.fun_names
    → SayMarkFilters d lines ms → SayMarkFilters d lines ns → ms ≡ ns
one_mark_filters_said d [] [] [] apart says also = refl
one_mark_filters_said d (line ∷ lines) (m ∷ ms) (n ∷ ns) apart (here, rest) (also, others) =
    cc (one_mark_filter_said d line m n apart here also, one_mark_filters_said d lines ms ns apart rest others)
one_mark_filters_said d [] (m ∷ ms) ns apart says also = absurd says
one_mark_filters_said d [] [] (n ∷ ns) apart says also = absurd also
one_mark_filters_said d (line ∷ lines) [] ns apart says also = absurd says
one_mark_filters_said d (line ∷ lines) (m ∷ ms) [] apart says also = absurd also

-- what the program's lists say

pub filters_read : (names : List (List ℕ)) (lines : List NamedFilter) (made : List WrittenFilter)
    → map (λ (l : NamedFilter). l.name) lines ≡ names → made ≡ map (λ (l : NamedFilter). written_filter l.filter) lines
    → SayFilters names (map said_filter lines) made
filters_read names lines made names_are filters_are =
    filters_say names (map said_filter lines) made (map-map (λ (l : w.Filtering). l.name) said_filter lines ∙ names_are)
    (filters_are ∙ sym (map-map (λ (l : w.Filtering). l.filter) said_filter lines))

-- other names than the symbols': the lines say nothing
pub filters_unread : (names : List (List ℕ)) (lines : List NamedFilter) → (map (λ (l : NamedFilter). l.name) lines ≡ names → ⊥)
    → (filters : List WrittenFilter) → SayFilters names (map said_filter lines) filters → ⊥
filters_unread names lines other filters says =
    other (sym (map-map (λ (l : w.Filtering). l.name) said_filter lines) ∙ (filters_named names (map said_filter lines) filters says).0)

pub numbers_of : (made : List code.MarkFilter) → marked_numbers (map mark_filter made) ≡ map (λ (m : code.MarkFilter). m.symbol) made
numbers_of made = map-map (λ (m : MarkFilter). m.symbol) mark_filter made

pub mark_filters_read : (d : SystemData) (lines : List NamedFilter) (numbers : List ℕ) (made : List code.MarkFilter)
    → map (λ n. slice_get d.fun_names n) numbers ≡ map (λ (l : NamedFilter). Some l.name) lines
    → map (λ (m : code.MarkFilter). m.symbol) made ≡ numbers
    → map (λ (m : code.MarkFilter). written_filter m.filter) made ≡ map (λ (l : NamedFilter). written_filter l.filter) lines
    → SayMarkFilters d (map said_filter lines) (map mark_filter made)
mark_filters_read d lines numbers made named numbers_are filters_are =
    mark_filters_say d (map said_filter lines) (map mark_filter made)
    (sym (map-map (λ n. slice_get d.fun_names n) (λ (m : MarkFilter). m.symbol) (map mark_filter made))
    ∙ ap (map (λ n. slice_get d.fun_names n)) (numbers_of made ∙ numbers_are) ∙ named
    ∙ sym (map-map (λ (l : w.Filtering). Some l.name) said_filter lines))
    (map-map (λ (m : MarkFilter). m.filter) mark_filter made ∙ filters_are ∙ sym (map-map (λ (l : w.Filtering). l.filter) said_filter lines))

-- other names than the marked symbols': the lines say nothing
pub mark_filters_unread : (d : SystemData) (ps : List PairData) (set : List ℕ) (lines : List NamedFilter) (numbers : List ℕ)
    → AreMarked ps set numbers → (map (λ n. slice_get d.fun_names n) numbers ≡ map (λ (l : NamedFilter). Some l.name) lines → ⊥)
    → (marks : List MarkFilter) → SayMarkFilters d (map said_filter lines) marks → AreMarked ps set (marked_numbers marks) → ⊥
mark_filters_unread d ps set lines numbers are other marks says marked =
    other (ap (map (λ n. slice_get d.fun_names n)) (marked_one ps set numbers (marked_numbers marks) are marked)
    ∙ map-map (λ n. slice_get d.fun_names n) (λ (m : MarkFilter). m.symbol) marks ∙ mark_filters_named d (map said_filter lines) marks says
    ∙ map-map (λ (l : w.Filtering). Some l.name) said_filter lines)
