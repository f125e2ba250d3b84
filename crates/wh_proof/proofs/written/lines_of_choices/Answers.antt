use Rattle.std.proofs.Common.{◌≡◌, ◌≤◌, Some, get_or, slice_get, sym, subst, ◌∙◌}
use Rattle.std.proofs.lemmas.List.Elements.{All-get_or}
use Rattle.wh_text.specs.Words.{IsWord}
use Rattle.wh_system.specs.SystemView.{system_data}
use Rattle.wh_proof.proofs.WrittenLemmas.{no_choice, said_more, fit_more}
use Rattle.wh_proof.proofs.written.lines_of_choices.Goals as goal

pub loop-choice-preserved : goal.loop-choice-preserved
loop-choice-preserved c =
    let d = system_data c.args.system.now in
    let args = c.loop-choice.args in
    let choices = c.args.choices.now in
    let i = c.loop-choice.choice-index in
    let choice = get_or choices i no_choice in
    let name_is = c.in_ok-name.ensures ∙ c.bytes.ensures.value in
    let named = subst (λ n. slice_get d.fun_names choice.symbol ≡ Some n) (sym name_is) c.fun_name.ensures in
    let low = All-get_or (λ e. e.argument ≤ 65535) choices i no_choice c.loop-choice-test.true c.requires.arguments in
    record {
      said = said_more d args c.push.new.self choices i c.in_ok-name.name c.loop-choice-test.true c.in_ok-push.ensures.ok named c.loop-choice.invariant.said;
      fit = fit_more args c.push.new.self c.in_ok-name.name choice.argument c.in_ok-push.ensures.ok (subst IsWord (sym name_is) c.bytes.ensures.word) low c.loop-choice.invariant.fit;
    }
