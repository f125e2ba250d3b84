-- Printing pairs.
use Rattle.std.proofs.Common.{◌≡◌, ℕ, List, [], ◌∷◌, ◌++◌, subst}
use Rattle.std.specs.Prelude.{codes}
use Rattle.std.specs.Fmt.{decimal}
use Rattle.wh_text.specs.Pushes.{Pushes}
use Rattle.wh_text.proofs.PrintLemmas.{push_bytes, push_byte, push_then}
use Rattle.wh_system.specs.Systems.{SystemData}
use Rattle.wh_system.specs.Canonical.{Names}
use Rattle.wh_pairs.specs.PairData.{PairData}
use Rattle.wh_system_print.specs.PairText.{names_of_pair, put_side, put_if, put_pair}

-- the line of a pair, part by part
pub pair_pushes : (d : SystemData) (k : ℕ) (p : PairData) (n : Names) (a b c e f g h i j l m : List ℕ) → n ≡ names_of_pair d p → b ≡ a ++ codes "pair " → c ≡ b ++ decimal k → e ≡ c ++ codes " rule "
    → f ≡ e ++ decimal p.rule → g ≡ f ++ 32 ∷ [] → Pushes g h (put_side n p.left_fun p.left) → i ≡ h ++ codes " => " → Pushes i j (put_side n p.right_fun p.right)
    → Pushes j l (put_if n p.conditions) → m ≡ l ++ 10 ∷ [] → Pushes a m (put_pair d k p)
pair_pushes d k p n a b c e f g h i j l m same word number rule_word rule space left arrow right conditions ends =
    let N : Names = names_of_pair d p in
    let L : List ℕ → List ℕ = put_side N p.left_fun p.left in
    let R : List ℕ → List ℕ = put_side N p.right_fun p.right in
    let C : List ℕ → List ℕ = put_if N p.conditions in
    let on_left : Pushes g h L = subst (λ v. Pushes g h (put_side v p.left_fun p.left)) same left in
    let on_right : Pushes i j R = subst (λ v. Pushes i j (put_side v p.right_fun p.right)) same right in
    let where_any : Pushes j l C = subst (λ v. Pushes j l (put_if v p.conditions)) same conditions in
    let q1 = push_then j l m C (λ r. 10 ∷ r) where_any (push_byte l m 10 ends) in
    let q2 = push_then i j m R (λ r. C (10 ∷ r)) on_right q1 in
    let q3 = push_then h i m (λ r. codes " => " ++ r) (λ r. R (C (10 ∷ r))) (push_bytes h i (codes " => ") arrow) q2 in
    let q4 = push_then g h m L (λ r. codes " => " ++ R (C (10 ∷ r))) on_left q3 in
    let q5 = push_then f g m (λ r. 32 ∷ r) (λ r. L (codes " => " ++ R (C (10 ∷ r)))) (push_byte f g 32 space) q4 in
    let q6 = push_then e f m (λ r. decimal p.rule ++ r) (λ r. 32 ∷ L (codes " => " ++ R (C (10 ∷ r)))) (push_bytes e f (decimal p.rule) rule) q5 in
    let q7 = push_then c e m (λ r. codes " rule " ++ r) (λ r. decimal p.rule ++ (32 ∷ L (codes " => " ++ R (C (10 ∷ r))))) (push_bytes c e (codes " rule ") rule_word) q6 in
    let q8 = push_then b c m (λ r. decimal k ++ r) (λ r. codes " rule " ++ (decimal p.rule ++ (32 ∷ L (codes " => " ++ R (C (10 ∷ r)))))) (push_bytes b c (decimal k) number) q7 in
    push_then a b m (λ r. codes "pair " ++ r) (λ r. decimal k ++ (codes " rule " ++ (decimal p.rule ++ (32 ∷ L (codes " => " ++ R (C (10 ∷ r))))))) (push_bytes a b (codes "pair ") word) q8
