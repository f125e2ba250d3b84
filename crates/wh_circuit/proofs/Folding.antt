-- Wires that are left out of a gate.
use Rattle.std.proofs.Common.{◌≡◌, ℕ, ◌+◌, ◌<◌, Bool, true, false, ◌&&◌, List, [], ◌∷◌, ◌++◌, length, get_or, drop, refl, sym, ◌∙◌, ap, suc, zero, arith}
use Rattle.std.proofs.lemmas.List.{at_drop_more}
use Rattle.wh_sat_trail.specs.declared.literal.Literal.{Literal}
use Rattle.wh_sat_trail.specs.Assignment.{AllBelow}
use Rattle.wh_sat.specs.Solving.{literal_true}
use Rattle.wh_circuit.specs.Values.{all_true}
use Rattle.wh_circuit.proofs.Solving.{all_true_push}

and_assoc : (a b c : Bool) → ((a && b) && c) ≡ (a && (b && c))
and_assoc true b c = refl
and_assoc false b c = refl

-- a wire is kept
pub kept_more : (v : ℕ → Bool) (kept of : List Literal) (i : ℕ) (d : Literal) (x : Bool) → i < length of → (all_true v kept && all_true v (drop i of)) ≡ x
    → (all_true v (kept ++ get_or of i d ∷ []) && all_true v (drop (i + 1) of)) ≡ x
kept_more v kept of i d x w e =
    ap (λ b. b && all_true v (drop (i + 1) of)) (all_true_push v kept (get_or of i d)) ∙ and_assoc (all_true v kept) (literal_true v (get_or of i d)) (all_true v (drop (i + 1) of))
    ∙ sym (ap (λ b. all_true v kept && b) (at_drop_more (all_true v) of i d w)) ∙ e

-- a true wire is left out
pub kept_same : (v : ℕ → Bool) (kept of : List Literal) (i : ℕ) (d : Literal) (x : Bool) → i < length of → literal_true v (get_or of i d) ≡ true
    → (all_true v kept && all_true v (drop i of)) ≡ x → (all_true v kept && all_true v (drop (i + 1) of)) ≡ x
kept_same v kept of i d x w t e =
    sym (ap (λ b. all_true v kept && (b && all_true v (drop (i + 1) of))) t) ∙ sym (ap (λ b. all_true v kept && b) (at_drop_more (all_true v) of i d w)) ∙ e

and_false : (a b : Bool) → (a && (false && b)) ≡ false
and_false true b = refl
and_false false b = refl

-- a false wire decides
pub kept_none : (v : ℕ → Bool) (kept of : List Literal) (i : ℕ) (d : Literal) (x : Bool) → i < length of → literal_true v (get_or of i d) ≡ false
    → (all_true v kept && all_true v (drop i of)) ≡ x → x ≡ false
kept_none v kept of i d x w t e =
    sym e ∙ ap (λ b. all_true v kept && b) (at_drop_more (all_true v) of i d w) ∙ ap (λ b. all_true v kept && (b && all_true v (drop (i + 1) of))) t
    ∙ and_false (all_true v kept) (all_true v (drop (i + 1) of))

pub below_push : (n : ℕ) (c : List Literal) (l : Literal) → AllBelow n c → l.variable < n → AllBelow n (c ++ l ∷ [])
below_push n [] l b w zero d q = w
below_push n [] l b w (suc i) d q = absurd (omega (arith, q))
below_push n (x ∷ c) l b w zero d q = b 0 d (omega arith)
below_push n (x ∷ c) l b w (suc i) d q = below_push n c l (λ j e u. b (suc j) e (omega (arith, u))) w i d (omega (arith, q))

pub below_append : (n : ℕ) (c e : List Literal) → AllBelow n c → AllBelow n e → AllBelow n (c ++ e)
below_append n [] e b w i d q = w i d q
below_append n (x ∷ c) e b w zero d q = b 0 d (omega arith)
below_append n (x ∷ c) e b w (suc i) d q = below_append n c e (λ j f u. b (suc j) f (omega (arith, u))) w i d (omega (arith, q))

pub below_tail : (n : ℕ) (c : List Literal) → AllBelow n c → AllBelow n (drop 1 c)
below_tail n [] b i d q = b i d q
below_tail n (x ∷ c) b i d q = b (suc i) d (omega (arith, q))

pub below_at : (n : ℕ) (c : List Literal) (i : ℕ) (d : Literal) → AllBelow n c → i < length c → (get_or c i d).variable < n
below_at n c i d b w = b i d w
