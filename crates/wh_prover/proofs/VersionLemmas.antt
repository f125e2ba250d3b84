-- Nodes of the search in both versions of certificates.
use Rattle.std.proofs.Common.{List, [], ◌∷◌, length, map, Some, None, All, Contains, refl}
use Rattle.std.proofs.lemmas.List.Elements.{All-nil, All-cons, All-head, All-tail}
use Rattle.wh_system.specs.Systems.{SystemData}
use Rattle.wh_cert.specs.Written as w
use Rattle.wh_cert.specs.Limits.{IsOfVersion}
use Rattle.wh_pairs.proofs.MemberLemmas.{at_head, behind}
use Rattle.wh_cert_upgrade.specs.Upgraded.{upgraded_node}
use Rattle.wh_prover.specs.Searched.{IsSearched}
use Rattle.wh_prover.specs.Versions.{NeedsSecond, IsMade}

-- a node that the search makes is of its space, and so is the one of version 2

pub made_searched : (d : SystemData) (line : w.Node) → IsMade d line → IsSearched d line
made_searched d (w.interpretations None funs marks rules pairs drop) made = made
made_searched d (w.interpretations (Some listed) funs marks rules pairs drop) made = made.0
made_searched d w.done made = tt
made_searched d w.alone made = tt
made_searched d (w.blocks parts) made = tt
made_searched d (w.subterm lines drop) made = tt
made_searched d (w.order funs marks rules pairs drop) made = made

pub upgraded_searched : (d : SystemData) (line : w.Node) → IsMade d line → IsSearched d (upgraded_node (length d.rules) line)
upgraded_searched d (w.interpretations None funs marks rules pairs drop) made = made
upgraded_searched d (w.interpretations (Some listed) funs marks rules pairs drop) made = made.0
upgraded_searched d w.done made = tt
upgraded_searched d w.alone made = tt
upgraded_searched d (w.blocks parts) made = tt
upgraded_searched d (w.subterm lines drop) made = tt
upgraded_searched d (w.order funs marks rules pairs drop) made = made

-- where not all nodes are of version 1, some node of version 2 needs that version

abbrev pub SomeNeeds : SystemData → List w.Node → Type 0
SomeNeeds d lines = (line : w.Node) × Contains lines line × NeedsSecond d line

abbrev Upgraded : SystemData → List w.Node → List w.Node
Upgraded d lines = map (upgraded_node (length d.rules)) lines

later : (d : SystemData) (x : w.Node) (xs : List w.Node) → SomeNeeds d xs → SomeNeeds d (x ∷ xs)
later d x xs (line, found, needs) = (line, behind xs x line found, needs)

pub some_needs : (d : SystemData) (lines : List w.Node) → All (IsMade d) lines → (All (IsOfVersion 1) lines → ⊥) → SomeNeeds d (Upgraded d lines)
some_needs d [] made not_first = absurd (not_first (All-nil (IsOfVersion 1)))
some_needs d (x ∷ xs) made not_first =
    at x (All-head (IsMade d) x xs made) (λ one. some_needs d xs (All-tail (IsMade d) x xs made) (λ all. not_first (All-cons (IsOfVersion 1) x xs one all)))
  where
    at : (y : w.Node) → IsMade d y → (IsOfVersion 1 y → SomeNeeds d (Upgraded d xs)) → SomeNeeds d (upgraded_node (length d.rules) y ∷ Upgraded d xs)
    at (w.interpretations None funs marks rules pairs drop) of_space other = later d _ (Upgraded d xs) (other refl)
    at (w.interpretations (Some listed) funs marks rules pairs drop) of_space other =
        (w.interpretations (Some listed) funs marks rules pairs drop, at_head (Upgraded d xs) _, of_space.1)
    at w.done of_space other = later d _ (Upgraded d xs) (other tt)
    at w.alone of_space other = later d _ (Upgraded d xs) (other tt)
    at (w.blocks parts) of_space other = later d _ (Upgraded d xs) (other tt)
    at (w.subterm lines drop) of_space other = later d _ (Upgraded d xs) (other tt)
    at (w.order funs marks rules pairs drop) of_space other = (w.order funs marks rules pairs drop, at_head (Upgraded d xs) _, tt)
