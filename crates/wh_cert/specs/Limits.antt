-- The limits of the format (ours). In all trees the places are 0.
use Rattle.std.specs.Prelude.{ℕ, ◌≡◌, ◌⊎◌, ◌^◌, ◌<◌, ◌≤◌, List, Option, Some, None, length, All}
use Rattle.wh_types.specs.Limits.{greatest_number}
use Rattle.wh_terms.specs.Places.{IsPath}
use Rattle.wh_terms.specs.declared.path.Step as taken
use Rattle.wh_text.specs.Words.{IsWord}
use Rattle.wh_hopoly.specs.declared.expression.Move as moved
use Rattle.wh_order_inference.specs.Inferences.{entries}
use Rattle.wh_order_inference.specs.InferenceLimits.{InferenceFits}
use Rattle.wh_order_inference.specs.FilterText.{WrittenFilter, keeps, picks, FilterFits}
use Rattle.wh_cert.specs.TermLimits.{TypeFits, TermFits, IsSmall}
use Rattle.wh_cert.specs.PolyLimits.{IsBig, PolyFits}
use Rattle.wh_cert.specs.Interps.{Interp}
use Rattle.wh_cert.specs.Written.{Put, Arg, Filtering, Node, blocks, subterm, interpretations, order, Preorder, Cert, yes, no}

-- the number of a rule is at most 65,535
abbrev pub RuleFits : Option ℕ → Type 0
RuleFits (Some k) = k ≤ greatest_number
RuleFits None = Unit {0}

pub record StepFits (s : taken.Step) : Type 0 where
  pub rule : RuleFits s.rule
  pub path : IsPath s.path

pub record PutFits (p : Put) : Type 0 where
  pub number : p.number ≤ greatest_number
  pub kind : TypeFits 0 p.kind
  pub term : TermFits 0 p.term

pub record ArgFits (a : Arg) : Type 0 where
  pub name : IsWord a.name
  pub place : IsSmall a.place

pub record InterpFits (i : Interp) : Type 0 where
  pub name : IsWord i.name
  pub poly : PolyFits 0 i.poly

pub record FilteringFits (f : Filtering) : Type 0 where
  pub name : IsWord f.name
  pub filter : FilterFits f.filter

pub record MoveFits (m : moved.Move) : Type 0 where
  pub from : m.from ≤ greatest_number
  pub to : m.to ≤ greatest_number
  pub amount : IsBig m.amount

-- the numbers of the rules that are to be covered, where they are listed
abbrev pub UsableFits : Option (List ℕ) → Type 0
UsableFits (Some ns) = All IsSmall ns
UsableFits None = Unit {0}

abbrev pub NodeFits : Node → Type 0
NodeFits (blocks parts) = IsSmall (length parts) × All (All IsSmall) parts
NodeFits (subterm args drop) = All ArgFits args × All IsSmall drop
NodeFits (interpretations usable funs marks rules pairs drop) =
    UsableFits usable × All InterpFits funs × All InterpFits marks × All (All MoveFits) rules × All (All MoveFits) pairs × All IsSmall drop
NodeFits (order funs marks rules pairs drop) =
    All FilteringFits funs × All FilteringFits marks × All (InferenceFits 0) rules × All (InferenceFits 0) pairs × All IsSmall drop
NodeFits _ = Unit {0}

-- the versions of the format
abbrev pub IsVersion : ℕ → Type 0
IsVersion version = (version ≡ 1) ⊎ (version ≡ 2)

-- the node is one of that version: of interpretations those that list no rules are of the first one, those that list
-- some are of the second, and so are those of path orders
abbrev pub IsOfVersion : ℕ → Node → Type 0
IsOfVersion version (interpretations None funs marks rules pairs drop) = version ≡ 1
IsOfVersion version (interpretations (Some ns) funs marks rules pairs drop) = version ≡ 2
IsOfVersion version (order funs marks rules pairs drop) = version ≡ 2
IsOfVersion version _ = Unit {0}

-- the parts are within their limits, and the nodes are one tree of the version
abbrev pub PartsFit : Cert → Type 0
PartsFit (yes version ranks pairs nodes) =
    IsVersion version × All IsSmall ranks × IsSmall pairs × All NodeFits nodes × All (IsOfVersion version) nodes × Preorder 1 nodes
PartsFit (no t steps at puts) = TermFits 0 t × All StepFits steps × IsPath at × All PutFits puts

-- each path has at most n entries
abbrev pub PathsWithin : ℕ → List taken.Step → Type 0
PathsWithin n steps = All (λ s. length s.path ≤ n) steps

-- a filter keeps at most n places
abbrev pub FilterWithin : ℕ → WrittenFilter → Type 0
FilterWithin n (keeps prec places) = length places ≤ n
FilterWithin n (picks place) = Unit {0}

-- the list of rules that are to be covered has at most n entries, where there is one
abbrev pub UsableWithin : ℕ → Option (List ℕ) → Type 0
UsableWithin n (Some ns) = length ns ≤ n
UsableWithin n None = Unit {0}

-- the lists of a node have at most n entries each, and each of its lines has fewer than n inferences
abbrev pub NodeWithin : ℕ → Node → Type 0
NodeWithin n (blocks parts) = All (λ block. length block ≤ n) parts
NodeWithin n (subterm args drop) = (length args ≤ n) × (length drop ≤ n)
NodeWithin n (interpretations usable funs marks rules pairs drop) =
    UsableWithin n usable × (length funs ≤ n) × (length marks ≤ n) × All (λ moves. length moves ≤ n) rules × (length rules ≤ n)
    × All (λ moves. length moves ≤ n) pairs × (length pairs ≤ n) × (length drop ≤ n)
NodeWithin n (order funs marks rules pairs drop) =
    (length funs ≤ n) × (length marks ≤ n) × All (λ f. FilterWithin n f.filter) funs × All (λ f. FilterWithin n f.filter) marks
    × All (λ i. entries i < n) rules × (length rules ≤ n) × All (λ i. entries i < n) pairs × (length pairs ≤ n) × (length drop ≤ n)
NodeWithin n _ = Unit {0}

-- there are fewer than n nodes, fewer than n steps, and at most n entries in each other list
abbrev pub CountsWithin : ℕ → Cert → Type 0
CountsWithin n (yes version ranks pairs nodes) = (length ranks ≤ n) × (length nodes < n) × All (NodeWithin n) nodes
CountsWithin n (no t steps at puts) = (length steps < n) × PathsWithin n steps × (length at ≤ n) × (length puts ≤ n)

-- a certificate within the limits of the format
pub record IsCert (c : Cert) : Type 0 where
  pub parts : PartsFit c
  pub counts : CountsWithin (2 ^ 32) c
