use Rattle.std.proofs.Common.{ℕ, ◌<◌, List, length, Some, get_or, slice_get, ap, sym, ◌∙◌, arith}
use Rattle.std.proofs.lemmas.List.{get_or_default}
use Rattle.wh_proof.proofs.InterpretationLemmas.{pace_broken}
use Rattle.wh_proof.proofs.named.name_these.Goals as goal

pub returns-then-not-is_name_of : goal.returns-then-not-is_name_of
returns-then-not-is_name_of g c =
    let names = c.args.names.now in
    let numbers = c.args.numbers.now in
    let lines = c.args.lines.now in
    let i = c.loop-i.i in
    let within : i < length numbers = omega (arith, c.loop-i-test.true) in (
      λ no_way. cc,
      λ same. absurd (pace_broken (λ n. slice_get names n) (λ line. Some (g.L.Named.name_of line)) numbers lines i
          (get_or numbers i 0) c.index-lines-i.result
          within (get_or_default numbers i 0 (get_or numbers i 0) within) c.loop-i-test.true c.index-lines-i.is
          (λ here. cc (c.is_name_of.ensures.1 (here ∙ ap (λ (name : List ℕ). Some name) (sym c.name.ensures)), c.if-not-is_name_of.true))
          same),
    )
