use Rattle.std.proofs.Common.{◌≡◌, ℕ, List, map, subst, sym, ◌∙◌}
use Rattle.wh_order_inference.specs.Said.{written_filter}
use Rattle.wh_system.specs.SystemView.{system_data}
use Rattle.wh_proof.proofs.FilterLemmas.{filters_read, filters_unread}
use Rattle.wh_proof.proofs.filters.filters_of_symbols.Goals as goal

pub returns-then-not-name_all : goal.returns-then-not-name_all
returns-then-not-name_all c =
    let d = system_data c.args.system.now in
    filters_unread d.fun_names c.args.lines.now
    (λ same. cc (
      c.name_all.ensures.1 (subst (λ (l : List (List ℕ)). map (λ line. line.name) c.args.lines.now ≡ l)
          (sym c.fun_names.ensures) same),
      c.if-not-name_all.true,
    ))

pub returns : goal.returns
returns c =
    let d = system_data c.args.system.now in
    filters_read d.fun_names c.args.lines.now (map written_filter c.in_ok-read_filters.field-0)
    (c.name_all.ensures.0 c.if-not-name_all.false ∙ c.fun_names.ensures) c.in_ok-read_filters.ensures
