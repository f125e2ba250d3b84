-- The lines of choices, one more at a time.
use Rattle.std.proofs.Common.{◌≡◌, ℕ, ◌+◌, ◌<◌, ◌≤◌, List, [], ◌∷◌, ◌++◌, length, map, get_or, take, Some, slice_get, All, refl, sym, ap, subst, ◌∙◌}
use Rattle.std.proofs.lemmas.List.{take_more, map-append}
use Rattle.std.proofs.lemmas.List.Elements.{All-push}
use Rattle.wh_text.specs.Words.{IsWord}
use Rattle.wh_system.specs.Systems.{SystemData}
use Rattle.wh_subterm.specs.SubtermRows.{chosen}
use Rattle.wh_subterm.specs.declared.projection.Choice.{Choice}
use Rattle.wh_cert.specs.Written as w
use Rattle.wh_cert.specs.Limits.{ArgFits}
use Rattle.wh_cert.specs.Said.{said_arg}
use Rattle.wh_cert.specs.declared.certificate.Arg as code
use Rattle.wh_proof.specs.Looked.{SayChoices}
use Rattle.wh_proof.proofs.ChoiceLemmas.{says_more}

abbrev pub no_choice : Choice
no_choice = record { symbol = 0; argument = 0 }

-- the choices before the next place
chosen_more : (choices : List Choice) (i : ℕ) → i < length choices
    → map chosen (take (i + 1) choices) ≡ map chosen (take i choices) ++ chosen (get_or choices i no_choice) ∷ []
chosen_more choices i within =
    ap (map chosen) (take_more choices i no_choice within) ∙ map-append chosen (take i choices) (get_or choices i no_choice ∷ [])

lines_more : (args longer : List code.Arg) (arg : code.Arg) → longer ≡ args ++ arg ∷ [] → map said_arg longer ≡ map said_arg args ++ said_arg arg ∷ []
lines_more args longer arg is = ap (map said_arg) is ∙ map-append said_arg args (arg ∷ [])

pub said_more : (d : SystemData) (args longer : List code.Arg) (choices : List Choice) (i : ℕ) (name : List ℕ) → i < length choices
    → longer ≡ args ++ record { name = name; place = (get_or choices i no_choice).argument } ∷ []
    → slice_get d.fun_names (get_or choices i no_choice).symbol ≡ Some name → SayChoices d (map said_arg args) (map chosen (take i choices))
    → SayChoices d (map said_arg longer) (map chosen (take (i + 1) choices))
said_more d args longer choices i name within is named said =
    let choice = get_or choices i no_choice in
    let arg : code.Arg = record { name = name; place = choice.argument } in
    subst (SayChoices d (map said_arg longer)) (sym (chosen_more choices i within))
    (subst (λ (l : List w.Arg). SayChoices d l (map chosen (take i choices) ++ chosen choice ∷ [])) (sym (lines_more args longer arg is))
    (says_more d (map said_arg args) (said_arg arg) (map chosen (take i choices)) (chosen choice) said (record { named = named; place = refl })))

pub fit_more : (args longer : List code.Arg) (name : List ℕ) (place : ℕ) → longer ≡ args ++ record { name = name; place = place } ∷ []
    → IsWord name → place ≤ 65535 → All ArgFits (map said_arg args) → All ArgFits (map said_arg longer)
fit_more args longer name place is word low fit =
    let arg : code.Arg = record { name = name; place = place } in
    subst (All ArgFits) (sym (lines_more args longer arg is)) (All-push ArgFits (map said_arg args) (said_arg arg) fit (record { name = word; place = low }))
