use Rattle.std.proofs.Common.{◌≡◌, inl, inr, arith}
use Rattle.std.specs.Fmt.{decimal}
use Rattle.std.proofs.lemmas.Fmt.{decimal_injective}
use Rattle.wh_top_words.proofs.words.generated.Goals as goal

pub returns-else-n-ge1 : goal.returns-else-n-ge1
returns-else-n-ge1 c = λ n spelled least most.
    let number = c.in_ok-n.ensures in
    let same : decimal n ≡ decimal c.in_ok-n.n = cc number.1 in
    let one : n ≡ c.in_ok-n.n = decimal_injective n c.in_ok-n.n (omega arith) number.0 same in
    elim c.else-n-ge1.either [
      | inl more ↦ omega arith
      | inr less ↦ omega arith
    ]
