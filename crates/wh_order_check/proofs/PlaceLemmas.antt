-- Places as they are written, counted from 1: increasing ones, one after another.
use Rattle.std.proofs.Common.{◌≡◌, ℕ, suc, ◌<◌, ◌≤◌, ◌-◌, List, ◌∷◌, map, All, subst, arith}
use Rattle.std.proofs.lemmas.List.Elements.{All-cons, All-head, All-tail}
use Rattle.wh_order_extended.specs.Filtered.{IncreasingFrom}

abbrev pub AreWritten : (last arity : ℕ) → List ℕ → Type 0
AreWritten last arity ns = All (λ n. 0 < n) ns × IncreasingFrom last arity (map (λ n. n - 1) ns)

pub written_more : (last arity n : ℕ) (ns : List ℕ) → last < n → n ≤ arity → AreWritten n arity ns → AreWritten last arity (n ∷ ns)
written_more last arity n ns above within (counted, increasing) =
    let same : n ≡ suc (n - 1) = omega (arith, above) in (
      All-cons (λ n. 0 < n) n ns (omega (arith, above)) counted,
      (
        subst (λ k. last < k) same above,
        omega (arith, above, within),
        subst (λ k. IncreasingFrom k arity (map (λ n. n - 1) ns)) same increasing,
      ),
    )

pub written_rest : (last arity n : ℕ) (ns : List ℕ) → AreWritten last arity (n ∷ ns) → (last < n) × (n ≤ arity) × AreWritten n arity ns
written_rest last arity n ns (counted, (above, within, increasing)) =
    let some : 0 < n = All-head (λ n. 0 < n) n ns counted in
    let same : suc (n - 1) ≡ n = omega (arith, some) in (
      subst (λ k. last < k) same above,
      omega (arith, some, within),
      (All-tail (λ n. 0 < n) n ns counted, subst (λ k. IncreasingFrom k arity (map (λ n. n - 1) ns)) same increasing),
    )
