-- The lines of a node of version 1 and those of the upgraded one say the same node.
use Rattle.std.proofs.Common.{ℕ, ◌↔◌, ◌==◌, List, [], ◌∷◌, length, map, Some, None}
use Rattle.std.proofs.lemmas.Bool.{cond_both}
use Rattle.wh_system.specs.Systems.{SystemData}
use Rattle.wh_pairs.specs.PairData.{PairData}
use Rattle.wh_cert.specs.Written as w
use Rattle.wh_cert.specs.Written.{Cert, yes, no}
use Rattle.wh_cert.specs.Limits.{IsCert}
use Rattle.wh_cert_upgrade.specs.Upgraded.{upgraded_node, upgraded}
use Rattle.wh_proof.specs.Nodes.{Node, done, alone, blocks, subterm, poly, order}
use Rattle.wh_proof.specs.Looked.{SaysNode, SayNodes}
use Rattle.wh_proof.specs.Valid.{IsValidYes, IsValidCert, IsSmallCert}
use Rattle.wh_proof.specs.Small.{IsSmallYes}

abbrev Upgraded : SystemData → w.Node → w.Node
Upgraded d x = upgraded_node (length d.rules) x

-- a node

pub says_new : (d : SystemData) (x : w.Node) (node : Node) → SaysNode d x node → SaysNode d (Upgraded d x) node
says_new d (w.interpretations None funs marks rules pairs drop) (poly covered R E) s = s
says_new d (w.interpretations None funs marks rules pairs drop) done s = s
says_new d (w.interpretations None funs marks rules pairs drop) alone s = s
says_new d (w.interpretations None funs marks rules pairs drop) (blocks parts) s = s
says_new d (w.interpretations None funs marks rules pairs drop) (subterm args drop2) s = s
says_new d (w.interpretations None funs marks rules pairs drop) (order D E) s = s
says_new d (w.interpretations (Some ns) funs marks rules pairs drop) node s = s
says_new d w.done node s = s
says_new d w.alone node s = s
says_new d (w.blocks parts) node s = s
says_new d (w.subterm args drop) node s = s
says_new d (w.order funs marks rules pairs drop) node s = s

says_old : (d : SystemData) (x : w.Node) (node : Node) → SaysNode d (Upgraded d x) node → SaysNode d x node
says_old d (w.interpretations None funs marks rules pairs drop) (poly covered R E) s = s
says_old d (w.interpretations None funs marks rules pairs drop) done s = s
says_old d (w.interpretations None funs marks rules pairs drop) alone s = s
says_old d (w.interpretations None funs marks rules pairs drop) (blocks parts) s = s
says_old d (w.interpretations None funs marks rules pairs drop) (subterm args drop2) s = s
says_old d (w.interpretations None funs marks rules pairs drop) (order D E) s = s
says_old d (w.interpretations (Some ns) funs marks rules pairs drop) node s = s
says_old d w.done node s = s
says_old d w.alone node s = s
says_old d (w.blocks parts) node s = s
says_old d (w.subterm args drop) node s = s
says_old d (w.order funs marks rules pairs drop) node s = s

-- nodes, one after another

pub all_new : (d : SystemData) (xs : List w.Node) (nodes : List Node) → SayNodes d xs nodes → SayNodes d (map (Upgraded d) xs) nodes
all_new d [] [] s = s
all_new d [] (node ∷ nodes) s = absurd s
all_new d (x ∷ xs) [] s = absurd s
all_new d (x ∷ xs) (node ∷ nodes) s = (says_new d x node s.0, all_new d xs nodes s.1)

all_old : (d : SystemData) (xs : List w.Node) (nodes : List Node) → SayNodes d (map (Upgraded d) xs) nodes → SayNodes d xs nodes
all_old d [] [] s = s
all_old d [] (node ∷ nodes) s = absurd s
all_old d (x ∷ xs) [] s = absurd s
all_old d (x ∷ xs) (node ∷ nodes) s = (says_old d x node s.0, all_old d xs nodes s.1)

-- certificates

valid_again : (d : SystemData) (ps : List PairData) (ranks : List ℕ) (pairs : ℕ) (xs ys : List w.Node) → ((nodes : List Node) → SayNodes d xs nodes → SayNodes d ys nodes) → IsValidYes d ps ranks pairs xs → IsValidYes d ps ranks pairs ys
valid_again d ps ranks pairs xs ys same v = record {
  rank_count = v.rank_count;
  passing = v.passing;
  pair_count = v.pair_count;
  set = v.set;
  whole = v.whole;
  nodes = v.nodes;
  says = same v.nodes v.says;
  proves = v.proves;
}

small_again : (d : SystemData) (ps : List PairData) (xs ys : List w.Node) → ((nodes : List Node) → SayNodes d xs nodes → SayNodes d ys nodes) → IsSmallYes d ps xs → IsSmallYes d ps ys
small_again d ps xs ys same v = record {
  set = v.set;
  whole = v.whole;
  nodes = v.nodes;
  says = same v.nodes v.says;
  small = v.small;
}

pub as_valid : (d : SystemData) (ps : List PairData) (c : Cert) → IsCert c → (IsValidCert d ps (upgraded (length d.rules) c) ↔ IsValidCert d ps c)
as_valid d ps (no t steps at puts) fits = ((λ v. v), (λ v. v))
as_valid d ps (yes version ranks pairs xs) fits =
    let c : Cert = yes version ranks pairs xs in
    cond_both (version == 1) (yes 2 ranks pairs (map (Upgraded d) xs)) c (λ (u : Cert). IsValidCert d ps u ↔ IsValidCert d ps c)
    (λ e. ((λ h. valid_again d ps ranks pairs (map (Upgraded d) xs) xs (all_old d xs) h), (λ h. valid_again d ps ranks pairs xs (map (Upgraded d) xs) (all_new d xs) h)))
    (λ e. ((λ h. h), (λ h. h)))

pub as_small : (d : SystemData) (ps : List PairData) (c : Cert) → IsCert c → (IsSmallCert d ps (upgraded (length d.rules) c) ↔ IsSmallCert d ps c)
as_small d ps (no t steps at puts) fits = ((λ v. v), (λ v. v))
as_small d ps (yes version ranks pairs xs) fits =
    let c : Cert = yes version ranks pairs xs in
    cond_both (version == 1) (yes 2 ranks pairs (map (Upgraded d) xs)) c (λ (u : Cert). IsSmallCert d ps u ↔ IsSmallCert d ps c)
    (λ e. ((λ h. small_again d ps (map (Upgraded d) xs) xs (all_old d xs) h), (λ h. small_again d ps xs (map (Upgraded d) xs) (all_new d xs) h)))
    (λ e. ((λ h. h), (λ h. h)))
