-- The lines behind MAYBE, as they are put together.
use Rattle.std.proofs.Common.{◌≡◌, ℕ, Bool, true, List, [], ◌∷◌, ◌++◌, Result, OnOk, refl, sym, subst, ap, ◌∙◌, append_assoc}
use Rattle.wh_text.proofs.PrintLemmas.{on_ok}
use Rattle.wh_hunt.specs.Hunting.{IsEndOf, IsEndTold, refused_line}

pub joined_line : (t a d w : List ℕ)
    → ((((t ++ a) ++ d) ++ 32 ∷ []) ++ w) ++ 10 ∷ [] ≡ t ++ (a ++ (d ++ 32 ∷ (w ++ 10 ∷ [])))
joined_line t a d w =
    append_assoc (((t ++ a) ++ d) ++ 32 ∷ []) w (10 ∷ []) ∙ append_assoc ((t ++ a) ++ d) (32 ∷ []) (w ++ 10 ∷ [])
    ∙ append_assoc (t ++ a) d (32 ∷ (w ++ 10 ∷ [])) ∙ append_assoc t a (d ++ 32 ∷ (w ++ 10 ∷ []))

pub end_if : {T E : Type 0} (r : Result T E) (given : ℕ) (old new more : List ℕ) → IsEndOf given more → OnOk r (new ≡ old ++ more)
    → OnOk r ((m : List ℕ) × IsEndOf given m × (new ≡ old ++ m))
end_if r given old new more is joins = on_ok r _ _ (λ e. (more, is, e)) joins

-- the line that says how the hunt ended, and the one with the number of refused certificates
pub told_with_count : (given refused : ℕ) (counts : Bool) (old line middle new : List ℕ) → counts ≡ true → IsEndOf given line
    → middle ≡ old ++ line → new ≡ middle ++ refused_line refused
    → (more : List ℕ) × IsEndTold given counts more × (new ≡ old ++ more)
told_with_count given refused counts old line middle new asked is first then_new = (
  line ++ refused_line refused,
  subst (λ b. IsEndTold given b (line ++ refused_line refused)) (sym asked) (line, refused, is, refl),
  then_new ∙ ap (λ t. t ++ refused_line refused) first ∙ append_assoc old line (refused_line refused),
)
