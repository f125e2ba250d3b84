-- What a certificate says, as trees without pointers.
use Rattle.std.specs.Prelude.{ℕ, zero, suc, ◌+◌, List, [], ◌∷◌, length, Option}
use Rattle.wh_terms.specs.declared.path.Step as taken
use Rattle.wh_text.specs.RawTree.{RTy, RTm}
use Rattle.wh_hopoly.specs.declared.expression.Move as moved
use Rattle.wh_order_inference.specs.Inferences.{Inference}
use Rattle.wh_order_inference.specs.FilterText.{WrittenFilter}
use Rattle.wh_cert.specs.Interps.{Interp}

-- a variable by its number and its type, and the term that is put for it
pub record Put : Type 0 where
  pub number : ℕ
  pub kind : RTy
  pub term : RTm

-- a symbol by its name, and which of its arguments is looked at, counted from 1
pub record Arg : Type 0 where
  pub name : List ℕ
  pub place : ℕ

-- a symbol by its name, and its argument filter
pub record Filtering : Type 0 where
  pub name : List ℕ
  pub filter : WrittenFilter

-- how the chains of a set of pairs are shown to end: there is no pair; there is one pair, which may not follow itself;
-- by blocks of pairs, of which no later one leads back to an earlier one; by an argument for each symbol that never
-- grows and shrinks in the pairs that are dropped; by polynomials for all symbols and for the marked ones, with moves
-- that cover each rule, or each of those that are listed, and each pair, the dropped ones strictly; by argument filters
-- for all symbols and for the marked ones, with an inference of the path order for each rule and each pair (Kop 2012,
-- Fuhs and Kop 2019; the spelling is ours)
pub data Node : Type 0 where
  done alone : Node
  blocks : (parts : List (List ℕ)) → Node
  subterm : (args : List Arg) (drop : List ℕ) → Node
  interpretations : (usable : Option (List ℕ)) (funs marks : List Interp) (rules pairs : List (List moved.Move)) (drop : List ℕ) → Node
  order : (funs marks : List Filtering) (rules pairs : List Inference) (drop : List ℕ) → Node

-- for how many sets a node leaves the same to be shown
abbrev pub children : Node → ℕ
children done = 0
children alone = 0
children (blocks parts) = length parts
children (subterm args drop) = 1
children (interpretations usable funs marks rules pairs drop) = 1
children (order funs marks rules pairs drop) = 1

-- the nodes are k trees, one behind the other, in each a node before its children's trees
abbrev pub Preorder : ℕ → List Node → Type 0
Preorder zero [] = Unit {0}
Preorder zero (x ∷ rest) = ⊥
Preorder (suc k) [] = ⊥
Preorder (suc k) (x ∷ rest) = Preorder (children x + k) rest

-- a certificate (ours). YES: a rank for each sort, the number of pairs, and a tree of nodes. NO: a term, the steps of a
-- reduction from it, a position in the last term, and terms for the first term's variables there
pub data Cert : Type 0 where
  yes : (version : ℕ) (ranks : List ℕ) (pairs : ℕ) (nodes : List Node) → Cert
  no : (term : RTm) (steps : List taken.Step) (at : List ℕ) (puts : List Put) → Cert
