use Rattle.std.proofs.Common.{◌≡◌, ◌<◌, ◌+◌, ℕ, List, [], ◌∷◌, ◌++◌, Some, length, map, take, drop, slice_get, refl, sym, subst, ap, ◌∙◌, arith}
use Rattle.std.proofs.lemmas.Option.{slice_get_within}
use Rattle.wh_system.specs.SystemView.{system_data}
use Rattle.wh_subterm.specs.Projections.{Chosen}
use Rattle.wh_subterm.specs.SubtermRows.{chosen}
use Rattle.wh_cert.specs.Said.{said_arg}
use Rattle.wh_cert.specs.Written as w
use Rattle.wh_proof.specs.Looked.{SayChoices}
use Rattle.wh_proof.proofs.ChoiceLemmas.{LeavesChoices, leaves_all, leaves_none, leaves_next, says_more, left_said, front_said, chosen_more}
use Rattle.wh_proof.proofs.choices.choices_of.Goals as goal

pub loop-arg-init : goal.loop-arg-init
loop-arg-init c =
    let d = system_data c.args.system.now in (
      omega arith,
      subst (λ (cs : List Chosen). SayChoices d [] cs) (sym (ap (map chosen) c.new-choices.ensures)) tt,
      leaves_all d (map said_arg c.args.args.now),
    )

pub returns-then-symbol-names : goal.returns-then-symbol-names
returns-then-symbol-names c =
    let d = system_data c.args.system.now in
    let names = c.fun_names-names.result.now in
    let args = c.args.args.now in
    let i = c.loop-arg.arg-index in
    let arg = c.arg-item.result in
    let leaves = subst (λ (l : List w.Arg). LeavesChoices d (map said_arg args) l c.loop-arg.next) (left_said args i arg c.loop-arg-test.true c.arg-item.is) c.loop-arg.invariant.2 in
    leaves_none d (map said_arg args) (map said_arg (drop (i + 1) args)) (said_arg arg) c.loop-arg.next leaves (λ k from at.
    let there = subst (λ (l : List (List ℕ)). slice_get l k ≡ Some arg.name) (sym c.fun_names-names.ensures) at in
    let within = slice_get_within names k arg.name there in
    c.symbol_from-symbol.ensures.first k from (omega (arith, c.if-symbol-names.true)) there)

pub loop-arg-preserved : goal.loop-arg-preserved
loop-arg-preserved c =
    let d = system_data c.args.system.now in
    let names = c.fun_names-names.result.now in
    let args = c.args.args.now in
    let i = c.loop-arg.arg-index in
    let arg = c.arg-item.result in
    let k = c.symbol_from-symbol.result in
    let choices = c.loop-arg.choices in
    let below : k < length names = let le = c.symbol_from-symbol.ensures.within in let other = c.if-symbol-names.false in omega arith in
    let at = subst (λ (l : List (List ℕ)). slice_get l k ≡ Some arg.name) c.fun_names-names.ensures (c.symbol_from-symbol.ensures.found below) in
    let leaves = subst (λ (l : List w.Arg). LeavesChoices d (map said_arg args) l c.loop-arg.next) (left_said args i arg c.loop-arg-test.true c.arg-item.is) c.loop-arg.invariant.2 in
    let choice : Chosen = record { symbol = k; argument = arg.place } in
    let says = says_more d (map said_arg (take i args)) (said_arg arg) (map chosen choices) choice c.loop-arg.invariant.1 (record { named = at; place = refl }) in
    let lines = sym (front_said args i arg c.loop-arg-test.true c.arg-item.is) in
    let choices_are = sym (ap (map chosen) c.in_ok-push.ensures.ok ∙ chosen_more choices (record { symbol = k; argument = arg.place })) in (
      omega (arith, below),
      subst (λ (cs : List Chosen). SayChoices d (map said_arg (take (i + 1) args)) cs) choices_are (subst (λ (l : List w.Arg). SayChoices d l (map chosen choices ++ choice ∷ [])) lines says),
      leaves_next d (map said_arg args) (map said_arg (drop (i + 1) args)) (said_arg arg) c.loop-arg.next k c.is_well_made.ensures.fun_names_distinct leaves at,
    )
