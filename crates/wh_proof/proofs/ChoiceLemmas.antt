-- Lines that say choices, and the one list of choices with increasing symbols that they can say.
use Rattle.std.proofs.Common.{◌≡◌, ℕ, ◌+◌, ◌<◌, ◌≤◌, inl, inr, List, [], ◌∷◌, ◌++◌, length, map, get_or, take, drop, Some, slice_get, refl, sym, ap, subst, ◌∙◌, arith}
use Rattle.std.proofs.lemmas.Bool.{cases_eq, cases_lt}
use Rattle.std.proofs.lemmas.Option.{slice_get_within, get_or_from_slice_get}
use Rattle.std.proofs.lemmas.List.{drop_more, take_more, map-append}
use Rattle.wh_system.specs.Systems.{SystemData}
use Rattle.wh_system.specs.WellMade.{AreDistinct}
use Rattle.wh_pairs.specs.PairData.{IsIncreasing}
use Rattle.wh_subterm.specs.Projections.{Chosen}
use Rattle.wh_subterm.specs.SubtermRows.{chosen, chosen_symbols}
use Rattle.wh_subterm.specs.declared.projection.Choice.{Choice}
use Rattle.wh_cert.specs.Written as w
use Rattle.wh_cert.specs.Said.{said_arg}
use Rattle.wh_cert.specs.declared.certificate.Arg as code
use Rattle.wh_proof.specs.Looked.{SaysChoice, SayChoices}

-- one name is that of one symbol
pub one_symbol : (names : List (List ℕ)) (i j : ℕ) (name : List ℕ) → AreDistinct names → slice_get names i ≡ Some name
    → slice_get names j ≡ Some name → i ≡ j
one_symbol names i j name apart at_i at_j = elim (cases_eq i j) [
  | inl same ↦ same
  | inr other ↦
      let one : get_or names i [] ≡ get_or names j [] = get_or_from_slice_get names i name [] at_i ∙ sym (get_or_from_slice_get names j name [] at_j) in
      elim (cases_lt i j) [
        | inl less ↦ absurd (apart i j [] less (slice_get_within names j name at_j) one)
        | inr le ↦ absurd (apart j i [] (omega (arith, le, other)) (slice_get_within names i name at_i) (sym one))
      ]
]

-- a choice is its parts
choice_one : (s t a b : ℕ) → s ≡ t → a ≡ b → ◌≡◌ {A = Chosen} (record { symbol = s; argument = a }) (record { symbol = t; argument = b })
choice_one s t a b symbol argument = cc (symbol, argument)

pub one_choice_said : (d : SystemData) (line : w.Arg) (c e : Chosen) → AreDistinct d.fun_names → SaysChoice d line c
    → SaysChoice d line e → c ≡ e
one_choice_said d line c e apart says also =
    let symbol : c.symbol ≡ e.symbol = one_symbol d.fun_names c.symbol e.symbol line.name apart says.named also.named in
    let argument : c.argument ≡ e.argument = says.place ∙ sym also.place in
    choice_one c.symbol e.symbol c.argument e.argument symbol argument

pub one_list_said : (d : SystemData) (lines : List w.Arg) (cs es : List Chosen) → AreDistinct d.fun_names → SayChoices d lines cs
    → SayChoices d lines es → cs ≡ es
one_list_said d [] [] [] apart says also = refl
one_list_said d (line ∷ lines) (c ∷ cs) (e ∷ es) apart (here, rest) (also, others) =
    cc (one_choice_said d line c e apart here also, one_list_said d lines cs es apart rest others)
one_list_said d [] (c ∷ cs) es apart says also = absurd says
one_list_said d [] [] (e ∷ es) apart says also = absurd also
one_list_said d (line ∷ lines) [] es apart says also = absurd says
one_list_said d (line ∷ lines) (c ∷ cs) [] apart says also = absurd also

-- the symbols increase, from that one on
abbrev pub RiseFrom : ℕ → List Chosen → Type 0
RiseFrom n [] = Unit {0}
RiseFrom n (c ∷ cs) = (n ≤ c.symbol) × RiseFrom (c.symbol + 1) cs

rise_behind : (c : Chosen) (cs : List Chosen) → IsIncreasing (chosen_symbols (c ∷ cs)) → RiseFrom (c.symbol + 1) cs
rise_behind c [] up = tt
rise_behind c (e ∷ cs) up = (omega (arith, up.0), rise_behind e cs up.1)

pub rise_from_zero : (cs : List Chosen) → IsIncreasing (chosen_symbols cs) → RiseFrom 0 cs
rise_from_zero [] up = tt
rise_from_zero (c ∷ cs) up = (omega arith, rise_behind c cs up)

-- where the lines say choices with increasing symbols, the lines that are left say some from the symbol on that comes next
abbrev pub LeavesChoices : SystemData → List w.Arg → List w.Arg → ℕ → Type 0
LeavesChoices d lines left next =
    (cs : List Chosen) → SayChoices d lines cs → IsIncreasing (chosen_symbols cs) → (rest : List Chosen) × SayChoices d left rest × RiseFrom next rest

pub leaves_all : (d : SystemData) (lines : List w.Arg) → LeavesChoices d lines lines 0
leaves_all d lines cs says up = (cs, says, rise_from_zero cs up)

none_rise : (d : SystemData) (left : List w.Arg) (line : w.Arg) (next : ℕ)
    → ((k : ℕ) → next ≤ k → slice_get d.fun_names k ≡ Some line.name → ⊥)
    → (rest : List Chosen) × SayChoices d (line ∷ left) rest × RiseFrom next rest → ⊥
none_rise d left line next none ([], says, rise) = says
none_rise d left line next none (c ∷ rest, says, rise) = none c.symbol rise.0 says.0.named

-- no symbol from there on has the name of the next line: the lines say no such choices
pub leaves_none : (d : SystemData) (lines left : List w.Arg) (line : w.Arg) (next : ℕ) → LeavesChoices d lines (line ∷ left) next
    → ((k : ℕ) → next ≤ k → slice_get d.fun_names k ≡ Some line.name → ⊥)
    → (cs : List Chosen) → SayChoices d lines cs → IsIncreasing (chosen_symbols cs) → ⊥
leaves_none d lines left line next leaves none cs says up = none_rise d left line next none (leaves cs says up)

next_rise : (d : SystemData) (left : List w.Arg) (line : w.Arg) (next k : ℕ) → AreDistinct d.fun_names
    → slice_get d.fun_names k ≡ Some line.name → (rest : List Chosen) × SayChoices d (line ∷ left) rest × RiseFrom next rest
    → (rest : List Chosen) × SayChoices d left rest × RiseFrom (k + 1) rest
next_rise d left line next k apart here ([], says, rise) = absurd says
next_rise d left line next k apart here (c ∷ rest, says, rise) =
    let same : c.symbol ≡ k = one_symbol d.fun_names c.symbol k line.name apart says.0.named here in
    (rest, says.1, subst (λ n. RiseFrom (n + 1) rest) same rise.1)

-- the first symbol from there on with the name of the next line is the one that is said
pub leaves_next : (d : SystemData) (lines left : List w.Arg) (line : w.Arg) (next k : ℕ) → AreDistinct d.fun_names
    → LeavesChoices d lines (line ∷ left) next → slice_get d.fun_names k ≡ Some line.name → LeavesChoices d lines left (k + 1)
leaves_next d lines left line next k apart leaves here cs says up = next_rise d left line next k apart here (leaves cs says up)

-- one more line says one more choice
pub says_more : (d : SystemData) (lines : List w.Arg) (line : w.Arg) (cs : List Chosen) (c : Chosen) → SayChoices d lines cs
    → SaysChoice d line c → SayChoices d (lines ++ line ∷ []) (cs ++ c ∷ [])
says_more d [] line [] c says here = (here, tt)
says_more d (first ∷ lines) line (e ∷ cs) c says here = (says.0, says_more d lines line cs c says.1 here)
says_more d [] line (e ∷ cs) c says here = absurd says
says_more d (first ∷ lines) line [] c says here = absurd says

-- the line at a place, as the walk over the lines reads it

pub left_said : (args : List code.Arg) (i : ℕ) (arg : code.Arg) → i < length args → arg ≡ get_or args i arg
    → map said_arg (drop i args) ≡ said_arg arg ∷ map said_arg (drop (i + 1) args)
left_said args i arg within is =
    ap (map said_arg) (subst (λ (a : code.Arg). drop i args ≡ a ∷ drop (i + 1) args) (sym is) (drop_more args i arg within))

pub front_said : (args : List code.Arg) (i : ℕ) (arg : code.Arg) → i < length args → arg ≡ get_or args i arg
    → map said_arg (take (i + 1) args) ≡ map said_arg (take i args) ++ said_arg arg ∷ []
front_said args i arg within is =
    ap (map said_arg) (subst (λ (a : code.Arg). take (i + 1) args ≡ take i args ++ a ∷ []) (sym is) (take_more args i arg within)) ∙ map-append said_arg (take i args) (arg ∷ [])

-- the choices that a list of the program has, with one more
pub chosen_more : (cs : List Choice) (c : Choice) → map chosen (cs ++ c ∷ []) ≡ map chosen cs ++ chosen c ∷ []
chosen_more cs c = map-append chosen cs (c ∷ [])
