-- Numbered trees as expressions, argument by argument.
use Rattle.std.proofs.Common.{◌≡◌, ℕ, suc, ◌+◌, ◌<◌, List, [], ◌∷◌, length, map, take, get_or, refl, ap, ap₂, sym, ◌∙◌, add-one}
use Rattle.std.proofs.lemmas.List.{take_more}
use Rattle.wh_terms.specs.Tree.{Tm, tms_of}
use Rattle.wh_hopoly.specs.Evaluation.{Expression, apply, lambda, symbol}
use Rattle.wh_hopoly.specs.Outcomes.{applied_to}
use Rattle.wh_types.specs.Ty.{Ty}
use Rattle.wh_polycheck.specs.Sides.{side, side_applied}
use Rattle.wh_intern.specs.Parts.{PartTree, lam}
use Rattle.wh_intern.specs.Trees.{tree_at, trees_at, tree_of}
use Rattle.wh_intern.proofs.AddLaws.{trees_at_push}
use Rattle.wh_intern_pairs.specs.SidesInScope.{call_in}
use Rattle.wh_polycheck.proofs.SideWalk.{applied_last}

-- an abstraction
pub lam_told : (ts : List Tm) (k : ℕ) (p : PartTree) (a b : Ty) (m n s : ℕ) (e : Expression) → tree_at ts k ≡ tree_of ts p → p ≡ lam a m
    → b ≡ a → s ≡ n + 1 → e ≡ side s (tree_at ts m) → lambda b e ≡ side n (tree_at ts k)
lam_told ts k p a b m n s e says is kind longer told =
    let next : s ≡ suc n = longer ∙ add-one n in
    ap₂ lambda kind (told ∙ ap (λ i. side i (tree_at ts m)) next) ∙ sym (ap (side n) (says ∙ ap (tree_of ts) is))

-- one number more
pub applied_next : (n : ℕ) (e : Expression) (ts : List Tm) (ns : List ℕ) (i : ℕ) (before after d : Expression)
    → before ≡ side_applied n e (trees_at ts (take i ns)) → d ≡ side n (tree_at ts (get_or ns i 0)) → after ≡ apply before d → i < length ns
    → after ≡ side_applied n e (trees_at ts (take (i + 1) ns))
applied_next n e ts ns i before after d same is made within =
    made ∙ ap₂ apply same is ∙ sym (applied_last n e (trees_at ts (take i ns)) (tree_at ts (get_or ns i 0)))
    ∙ ap (side_applied n e) (sym (ap (trees_at ts) (take_more ns i 0 within) ∙ trees_at_push ts (take i ns) (get_or ns i 0)))

-- all of them in turn
applied_in_turn : (n : ℕ) (e : Expression) (ts : List Tm) (ns : List ℕ)
    → applied_to e (map (λ k. side n (tree_at ts k)) ns) ≡ side_applied n e (tms_of (map (tree_at ts) ns))
applied_in_turn n e ts [] = refl
applied_in_turn n e ts (k ∷ ns) = applied_in_turn n (apply e (side n (tree_at ts k))) ts ns

-- a symbol applied to expressions that numbered trees have become
pub call_told : (Γ : List Ty) (n k l : ℕ) (ts : List Tm) (ns : List ℕ) (es : List Expression) → n ≡ length Γ
    → es ≡ map (λ m. side n (tree_at ts m)) ns → k ≡ l → applied_to (symbol k) es ≡ call_in Γ l (map (tree_at ts) ns)
call_told Γ n k l ts ns es long made same =
    ap (applied_to (symbol k)) made ∙ applied_in_turn n (symbol k) ts ns
    ∙ ap₂ (λ n k. side_applied n (symbol k) (tms_of (map (tree_at ts) ns))) long same
