-- The items of a certificate, as trees without pointers: what its lines say, one behind the other (ours).
use Rattle.std.specs.Prelude.{ℕ, List, [], ◌∷◌, ◌++◌, map}
use Rattle.wh_terms.specs.declared.path.Step as taken
use Rattle.wh_text.specs.RawTree.{RTm}
use Rattle.wh_cert.specs.Written.{Node, Put, Cert, yes, no}

-- the lines of a YES certificate before its nodes; a node without its children; the lines of a NO certificate before
-- its steps; a step; the position of the instance; a term that is put for a variable; the end of a certificate of
-- either kind
pub data Item : Type 0 where
  yes_head : (version : ℕ) (ranks : List ℕ) (pairs : ℕ) → Item
  node : (x : Node) → Item
  no_head : (term : RTm) → Item
  step : (s : taken.Step) → Item
  at : (path : List ℕ) → Item
  put : (p : Put) → Item
  end : Item

-- the items of a certificate in the order of its text, with the end behind the others
abbrev pub items : Cert → List Item
items (yes version ranks pairs nodes) = yes_head version ranks pairs ∷ (map node nodes ++ end ∷ [])
items (no t steps path puts) = no_head t ∷ (map step steps ++ at path ∷ (map put puts ++ end ∷ []))
