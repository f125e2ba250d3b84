use Rattle.std.proofs.Common.{subst, sym, ◌∙◌}
use Rattle.wh_system.specs.SystemView.{system_data}
use Rattle.wh_pairs.specs.Views.{pairs_data}
use Rattle.wh_pairs.specs.Marked.{AreMarked}
use Rattle.wh_proof.proofs.InterpretationLemmas.{named_same}
use Rattle.wh_proof.proofs.FilterLemmas.{mark_filters_read, mark_filters_unread, numbers_of}
use Rattle.wh_proof.proofs.filters.filters_of_set.Goals as goal

pub returns-then-not-name_these : goal.returns-then-not-name_these
returns-then-not-name_these c =
    let d = system_data c.args.system.now in
    let numbers = c.in_ok-numbers.numbers.items in
    mark_filters_unread d (pairs_data c.args.pairs.now) c.args.set.now c.args.lines.now numbers c.in_ok-numbers.ensures (λ same.
    cc (
      c.name_these.ensures.1 (named_same c.fun_names.result.now d.fun_names c.deref.result.now numbers c.fun_names.ensures
          c.deref.ensures.value ∙ same),
      c.if-not-name_these.true,
    ))

pub returns : goal.returns
returns c =
    let d = system_data c.args.system.now in
    let numbers = c.in_ok-numbers.numbers.items in
    let made = c.in_ok-read_mark_filters.field-0 in
    let named = named_same d.fun_names c.fun_names.result.now numbers c.deref.result.now (sym c.fun_names.ensures)
    (sym c.deref.ensures.value) ∙ c.name_these.ensures.0 c.if-not-name_these.false in
    let symbols = c.in_ok-read_mark_filters.ensures.symbols ∙ c.deref-2.ensures.value in (
      mark_filters_read d c.args.lines.now numbers made named symbols c.in_ok-read_mark_filters.ensures.filters,
      subst (AreMarked (pairs_data c.args.pairs.now) c.args.set.now) (sym (numbers_of made ∙ symbols)) c.in_ok-numbers.ensures,
    )
