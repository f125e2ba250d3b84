-- Marked symbols applied to arguments.
use Rattle.std.proofs.Common.{Box, Global, ◌≡◌, ℕ, suc, ◌+◌, List, [], ◌∷◌, Result, Ok, Err, IfOk, length, map, refl, ap, sym, ◌∙◌}
use Rattle.std.specs.declared.alloc.AllocError.{AllocError}
use Rattle.wh_types.specs.Erase.{ty}
use Rattle.wh_types.specs.declared.simple_type.SimpleType.{SimpleType}
use Rattle.wh_terms.specs.Tree.{Tm, fun, spine}
use Rattle.wh_terms.specs.Erase.{symbols, tm}
use Rattle.wh_terms.specs.Typing.{Symbols}
use Rattle.wh_terms.specs.declared.rule.Signature.{Signature}
use Rattle.wh_terms.specs.declared.term.Term.{Term}
use Rattle.wh_order_extended.specs.ExtendedSides.{marked_number}

mapped_length : {A B : Type 0} (f : A → B) (xs : List A) → length (map f xs) ≡ length xs
mapped_length f [] = refl
mapped_length f (x ∷ xs) = ap suc (mapped_length f xs)

-- a marked symbol applied to arguments
pub called : (s : Signature) (S : Symbols) (items : List SimpleType) (n f k : ℕ) (ts : List Tm) (made : Result (Box Term Global) AllocError) → symbols s ≡ S
    → items ≡ s.funs → n ≡ length items → k ≡ n + f → IfOk made (λ made. tm made.value ≡ spine (fun k) ts)
    → IfOk made (λ made. tm made.value ≡ spine (fun (marked_number S f)) ts)
called s S items n f k ts (Err e) same list count sum is = tt
called s S items n f k ts (Ok made) same list count sum is =
    let long : length S.funs ≡ n = ap (λ (S : Symbols). length S.funs) (sym same) ∙ mapped_length ty s.funs ∙ ap length (sym list) ∙ sym count in
    let number : k ≡ marked_number S f = sum ∙ ap (λ n. n + f) (sym long) in
    is ∙ ap (λ k. spine (fun k) ts) number
