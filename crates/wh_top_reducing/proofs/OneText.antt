-- The reduction of the term of a text is told by one text.
use Rattle.std.proofs.Common.{◌≡◌, ℕ, List, sym, ◌∙◌, subst}
use Rattle.wh_terms.specs.Tree.{Tm}
use Rattle.wh_system.specs.Systems.{SystemData}
use Rattle.wh_system.specs.WellMade.{IsWellMadeSystem}
use Rattle.wh_step_outermost.specs.Reducing.{Reduces}
use Rattle.wh_step_outermost.proofs.Chains.{reduces_one}
use Rattle.wh_top_reducing.specs.Telling.{TellsOf, TellsReduced, reduced_text}
use Rattle.wh_top_reducing.proofs.GivenTerms.{one_given}

told_one : (d : SystemData) (t u : Tm) (asked : ℕ) (a b : List ℕ) → IsWellMadeSystem d → t ≡ u → TellsOf d t asked a → TellsOf d u asked b → a ≡ b
told_one d t u asked a b well same x y =
    let there = subst (λ (s : Tm). Reduces d.rules s asked y.steps y.last y.end) (sym same) y.reduces in
    let (steps, last, end) = reduces_one d.symbols well.rules asked t x.last y.last x.steps y.steps x.end y.end x.reduces there in
    x.text_is ∙ (λ i. reduced_text d (steps i) (last i) (end i)) ∙ sym y.text_is

pub one_text : (d : SystemData) (bytes : List ℕ) (asked : ℕ) (a b : List ℕ) → IsWellMadeSystem d → TellsReduced d bytes asked a → TellsReduced d bytes asked b
    → a ≡ b
one_text d bytes asked a b well (t, gives, x) (u, also, y) = told_one d t u asked a b well (one_given d bytes t u gives also) x y
