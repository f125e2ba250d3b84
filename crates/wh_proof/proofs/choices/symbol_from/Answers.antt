use Rattle.std.proofs.Common.{◌≡◌, Some, inl, inr, slice_get, sym, ap, ◌∙◌}
use Rattle.std.proofs.lemmas.Bool.Decides.{Decides-eqb}
use Rattle.std.proofs.lemmas.Slice.Eq.{slice_eq-Decides}
use Rattle.wh_pairs.proofs.ByPlace.{read, same_or_below, some_one}
use Rattle.wh_proof.proofs.choices.symbol_from.Goals as goal

pub returns-then-eq-clause-found : goal.returns-then-eq-clause-found
returns-then-eq-clause-found c =
    let here = read c.args.names.now c.loop-symbol.symbol c.index-names-symbol.result c.loop-symbol-test.true c.index-names-symbol.is in
    let same = (slice_eq-Decides Decides-eqb c.bytes.result.now c.bytes-in-loop-symbol.result.now c.eq.result c.eq.ensures).0 c.if-eq.true in
    λ within. here ∙ ap Some (sym c.bytes.ensures.value ∙ same ∙ c.bytes-in-loop-symbol.ensures.value)

pub loop-symbol-preserved : goal.loop-symbol-preserved
loop-symbol-preserved c =
    let names = c.args.names.now in
    let i = c.loop-symbol.symbol in
    let here = read names i c.index-names-symbol.result c.loop-symbol-test.true c.index-names-symbol.is in
    let decided = slice_eq-Decides Decides-eqb c.bytes.result.now c.bytes-in-loop-symbol.result.now c.eq.result c.eq.ensures in
    λ k from below at. elim (same_or_below k i below) [
      | inl same ↦
          let one : c.index-names-symbol.result ≡ c.args.name.now = some_one here (sym (ap (slice_get names) same) ∙ at) in
          cc (decided.1 (c.bytes.ensures.value ∙ one ∙ sym c.bytes-in-loop-symbol.ensures.value), c.if-eq.false)
      | inr less ↦ c.loop-symbol.invariant k from less at
    ]
