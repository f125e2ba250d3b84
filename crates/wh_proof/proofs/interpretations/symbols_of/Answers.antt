use Rattle.std.proofs.Common.{◌≡◌, ℕ, List, map, ap, subst, sym, ◌∙◌}
use Rattle.wh_types.specs.Erase.{ty}
use Rattle.wh_terms.specs.Typing.{Symbols}
use Rattle.wh_system.specs.SystemView.{system_data}
use Rattle.wh_proof.proofs.InterpretationLemmas.{symbols_read, symbols_unread}
use Rattle.wh_proof.proofs.interpretations.symbols_of.Goals as goal

pub returns-then-not-name_all : goal.returns-then-not-name_all
returns-then-not-name_all c =
    let d = system_data c.args.system.now in
    symbols_unread d.fun_names d.symbols.funs c.args.lines.now
    (λ same. cc (
      c.name_all.ensures.1 (subst (λ (l : List (List ℕ)). map (λ line. line.name) c.args.lines.now ≡ l)
          (sym c.fun_names.ensures) same),
      c.if-not-name_all.true,
    ))

pub returns : goal.returns
returns c =
    let d = system_data c.args.system.now in
    let made = c.in_ok-read_symbols.field-0 in
    let kinds = ap (map ty) c.as_slice-kinds.ensures ∙ ap (λ (s : Symbols). s.funs) c.signature.ensures in
    symbols_read d.fun_names d.symbols.funs c.args.lines.now made.items (c.name_all.ensures.0 c.if-not-name_all.false ∙ c.fun_names.ensures)
    (c.in_ok-read_symbols.ensures.kinds ∙ kinds) c.in_ok-read_symbols.ensures.polynomials
