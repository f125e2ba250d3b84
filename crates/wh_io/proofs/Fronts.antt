-- Front parts of a file that is read, and of a text that is written.
use Rattle.std.proofs.Common.{◌≡◌, ℕ, ◌+◌, List, ◌++◌, take, drop, Option, Some, sym, ap, ◌∙◌, append_assoc}
use Rattle.std.proofs.Math.Seq.{take-add}
use Rattle.std.proofs.lemmas.List.{take-append-drop}
use Rattle.wh_io.specs.Outside.{Wrote}

-- the front part that was read, and a further piece
pub longer_front : (file bytes into : List ℕ) (at n : ℕ) → bytes ≡ take at file → take n into ≡ take n (drop at file) → bytes ++ take n into ≡ take (at + n) file
longer_front file bytes into at n front piece =
    ap (λ xs. xs ++ take n into) front ∙ ap (λ xs. take at file ++ xs) piece ∙ sym (take-add at n file)

-- two texts after one another are written as one
pub wrote_both : (old mid new : Option (List ℕ)) (front piece : List ℕ) → Wrote old mid front → Wrote mid new piece → Wrote old new (front ++ piece)
wrote_both old mid new front piece first second =
    λ before told. second (before ++ front) (first before told) ∙ ap Some (append_assoc before front piece)

-- what is left of a text after a piece of n bytes
pub split_rest : (text front rest : List ℕ) (n : ℕ) → text ≡ front ++ rest → text ≡ (front ++ take n rest) ++ drop n rest
split_rest text front rest n whole =
    whole ∙ ap (λ xs. front ++ xs) (sym (take-append-drop n rest)) ∙ sym (append_assoc front (take n rest) (drop n rest))
