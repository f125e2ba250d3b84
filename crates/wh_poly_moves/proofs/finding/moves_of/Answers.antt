-- A move that brings something joins, and another does not.
use Rattle.std.proofs.Common.{ℕ, ◌≡◌, ◌<◌, ◌≤◌, ◌+◌, ◌++◌, ◌∷◌, [], nat_lt, cond, true, false, List, length, take, arith, ap, sym, subst, ◌∙◌}
use Rattle.std.proofs.lemmas.List.{append-nil}
use Rattle.std.proofs.lemmas.List.Elements.{filter_more}
use Rattle.wh_hopoly.specs.Moves.{Transfer}
use Rattle.wh_hopoly.specs.Erase.{transfers}
use Rattle.wh_poly_moves.specs.Flows.{positives, move_at}
use Rattle.wh_poly_moves.proofs.Moves.{move_read, transfers_long, transfers_push}
use Rattle.wh_poly_moves.proofs.finding.moves_of.Goals as goal
use Rattle.wh_poly_moves.proofs.finding.moves_of.Goals.{then-item-gt0+in_ok-push, else-item-gt0}

joined : (xs ys : List Transfer) (i : ℕ) → i < length xs → ys ≡ positives (take i xs) → 0 < (move_at xs i).amount
    → ys ++ move_at xs i ∷ [] ≡ positives (take (i + 1) xs)
joined xs ys i h e some =
    let yes : nat_lt 0 (move_at xs i).amount ≡ true = grind (arith, some) in
    ap (λ ys. ys ++ move_at xs i ∷ []) e ∙ ap (λ b. positives (take i xs) ++ cond b (move_at xs i ∷ []) []) (sym yes) ∙ sym (filter_more (λ m. nat_lt 0 m.amount) xs i (record { from = 0; to = 0; amount = 0 }) h)

passed : (xs ys : List Transfer) (i : ℕ) → i < length xs → ys ≡ positives (take i xs) → (move_at xs i).amount ≤ 0
    → ys ≡ positives (take (i + 1) xs)
passed xs ys i h e none =
    let no : nat_lt 0 (move_at xs i).amount ≡ false = grind (arith, none) in
    e ∙ sym (append-nil (positives (take i xs))) ∙ ap (λ b. positives (take i xs) ++ cond b (move_at xs i ∷ []) []) (sym no) ∙ sym (filter_more (λ m. nat_lt 0 m.amount) xs i (record { from = 0; to = 0; amount = 0 }) h)

pub loop-item-preserved : goal.loop-item-preserved
loop-item-preserved c =
    let xs = c.args.items.now in let i = c.loop-item.item-index in
    let read = move_read xs i in
    let here : i < length (transfers xs) = let l = transfers_long xs in omega (arith, l, c.loop-item-test.true) in
    elim c.if-item-gt0.branch [
      | then-item-gt0+in_ok-push w ↦
          ap transfers (w.list-is ∙ w.in_ok-push.ensures.ok) ∙ transfers_push c.loop-item.list _ ∙ ap (λ m. transfers c.loop-item.list ++ m ∷ []) (sym read)
          ∙ joined (transfers xs) (transfers c.loop-item.list) i here c.loop-item.invariant (subst (λ m. 0 < m.amount) (sym read) w.if-item-gt0.true)
      | else-item-gt0 w ↦ ap transfers w.list-is ∙ passed (transfers xs) (transfers c.loop-item.list) i here c.loop-item.invariant (subst (λ m. m.amount ≤ 0) (sym read) w.if-item-gt0.false)
    ]
