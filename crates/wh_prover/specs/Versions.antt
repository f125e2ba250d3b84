-- The version of what the search finds: the first one, but where some node needs the second one.
use Rattle.std.specs.Prelude.{◌≡◌, ◌⊎◌, Some, None, Contains}
use Rattle.wh_system.specs.Systems.{SystemData}
use Rattle.wh_cert.specs.Written.{Node, interpretations, order, Cert, yes, no}
use Rattle.wh_interpreting.specs.Fewer.{HasFewer}
use Rattle.wh_prover.specs.Searched.{IsSearched}

-- no node of the first version says the same: it is one of interpretations that lists not all rules, or one of a path
-- order (ours)
abbrev pub NeedsSecond : SystemData → Node → Type 0
NeedsSecond d (interpretations (Some listed) funs marks rules pairs drop) = HasFewer d listed
NeedsSecond d (order funs marks rules pairs drop) = Unit {0}
NeedsSecond d _ = ⊥

-- the certificate is of the first version, or of the second one, which some node of it needs (ours)
abbrev pub IsOfLeastVersion : SystemData → Cert → Type 0
IsOfLeastVersion d (yes version ranks pairs lines) =
    (version ≡ 1) ⊎ ((version ≡ 2) × ((line : Node) × Contains lines line × NeedsSecond d line))
IsOfLeastVersion d (no t steps at puts) = ⊥

-- a node that the search makes is of its space, and if it lists rules, it does not list all (ours)
abbrev pub IsMade : SystemData → Node → Type 0
IsMade d (interpretations None funs marks rules pairs drop) = IsSearched d (interpretations None funs marks rules pairs drop)
IsMade d (interpretations (Some listed) funs marks rules pairs drop) =
    IsSearched d (interpretations (Some listed) funs marks rules pairs drop) × HasFewer d listed
IsMade d line = IsSearched d line
