use Rattle.std.proofs.Common.{ℕ, List, refl, ◌∙◌, arith}
use Rattle.std.proofs.lemmas.List.{map-id}
use Rattle.wh_proof.proofs.InterpretationLemmas.{pace_ended}
use Rattle.wh_proof.proofs.named.name_all.Goals as goal

pub returns : goal.returns
returns g c =
    let names = c.args.names.now in
    let lines = c.args.lines.now in (
      λ _. pace_ended g.L.Named.name_of (λ (name : List ℕ). name) lines names c.loop-i.i c.loop-i.invariant c.loop-i-test.false
          (omega arith) ∙ map-id names,
      λ _. refl,
    )
