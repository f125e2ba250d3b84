-- The text that `reduce` writes: how a term of a system reduces.
use Rattle.std.specs.Prelude.{ℕ, ◌≡◌, List, [], ◌∷◌, ◌++◌, codes}
use Rattle.std.specs.Fmt.{decimal}
use Rattle.wh_terms.specs.Tree.{Tm}
use Rattle.wh_terms.specs.Measures.{Fits}
use Rattle.wh_text.specs.RawTree.{RTm}
use Rattle.wh_text.specs.Spelling.{put_term}
use Rattle.wh_step_outermost.specs.Reducing.{Reduces}
use Rattle.wh_step_outermost.specs.declared.reducing.End.{End}
use Rattle.wh_step_outermost.specs.declared.reducing.End.TheVariants.{Normal, Spent, TooBig}
use Rattle.wh_cert_term.specs.TermText.{IsTermText}
use Rattle.wh_system.specs.Systems.{SystemData}
use Rattle.wh_system.specs.Canonical.{raw_of}
use Rattle.wh_system.specs.CanonicalView.{names_of_system}
use Rattle.wh_system_making.specs.Resolve.{Means}

-- the bytes are the text of the term t of the system, which is well typed and fits (ours)
pub record Gives (d : SystemData) (bytes : List ℕ) (t : Tm) : Type 0 where
  pub raw : RTm
  pub text : IsTermText raw bytes
  pub means : Means d raw t
  pub fits : Fits t

-- the word for the reason why no step more is taken
abbrev pub end_word : End → List ℕ
end_word Normal = codes "normal"
end_word Spent = codes "spent"
end_word TooBig = codes "too-big"

-- the lines: how many steps are taken, the last term in its canonical spelling, and why it is the last (ours)
abbrev pub reduced_text : SystemData → ℕ → Tm → End → List ℕ
reduced_text d n u e =
    codes "REDUCED " ++ (decimal n ++ (10 ∷ put_term (raw_of (names_of_system d) u) (10 ∷ (end_word e ++ (10 ∷ [])))))

-- the bytes are the text of no such term
abbrev pub GivesNone : SystemData → List ℕ → Type 0
GivesNone d bytes = (t : Tm) → Gives d bytes t → ⊥

-- the text tells how t reduces by at most `asked` leftmost-outermost steps
pub record TellsOf (d : SystemData) (t : Tm) (asked : ℕ) (text : List ℕ) : Type 0 where
  pub steps : ℕ
  pub last : Tm
  pub end : End
  pub reduces : Reduces d.rules t asked steps last end
  pub text_is : text ≡ reduced_text d steps last end

-- the text tells how the term whose text the bytes are reduces by at most `asked` steps
abbrev pub TellsReduced : SystemData → List ℕ → ℕ → List ℕ → Type 0
TellsReduced d bytes asked text = (t : Tm) × Gives d bytes t × TellsOf d t asked text
