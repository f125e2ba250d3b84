-- An upgraded certificate is within the limits of the format.
use Rattle.std.proofs.Common.{◌≡◌, ℕ, zero, suc, ◌+◌, ◌^◌, ◌<◌, ◌≤◌, ◌==◌, Some, None, List, [], ◌∷◌, length, map, refl, sym, ap, subst, arith, inr}
use Rattle.std.specs.List.{All}
use Rattle.std.proofs.lemmas.Bool.{cond_both, eqb-true}
use Rattle.std.proofs.lemmas.List.Elements.{All-nil, All-cons, All-head, All-tail, All-weaker}
use Rattle.wh_types.specs.Limits.{greatest_number}
use Rattle.wh_reduction_pairs.specs.TaskData.{numbers_from}
use Rattle.wh_reduction_pairs.proofs.Numbers.{numbers_length, numbers_within}
use Rattle.wh_cert.specs.TermLimits.{IsSmall}
use Rattle.wh_cert.specs.Written.{Node, done, alone, blocks, subterm, interpretations, order, children, Preorder, Cert, yes, no}
use Rattle.wh_cert.specs.Text.{text}
use Rattle.wh_cert.specs.Limits.{NodeFits, IsOfVersion, NodeWithin, IsCert}
use Rattle.wh_cert.specs.CertText.{CertText}
use Rattle.wh_cert.specs.PolyCounts.{PolysWithin, AllPolysWithin}
use Rattle.wh_cert_upgrade.specs.Upgraded.{upgraded_node, upgraded}

-- what holds of all nodes, node by node
pub all_upgraded : (P Q : Node → Type 0) (rules : ℕ) (xs : List Node) → ((x : Node) → P x → Q (upgraded_node rules x)) → All P xs → All Q (map (upgraded_node rules) xs)
all_upgraded P Q rules [] one h = All-nil Q
all_upgraded P Q rules (x ∷ xs) one h =
    All-cons Q (upgraded_node rules x) (map (upgraded_node rules) xs) (one x (All-head P x xs h)) (all_upgraded P Q rules xs one (All-tail P x xs h))

small_rules : (rules : ℕ) → rules ≤ greatest_number → All IsSmall (numbers_from 0 rules)
small_rules rules few = All-weaker (λ (n : ℕ). n < rules) IsSmall (λ n p. omega (arith, p, few)) (numbers_from 0 rules) (numbers_within rules)

few_rules : (rules : ℕ) → rules ≤ greatest_number → length (numbers_from 0 rules) ≤ 2 ^ 32
few_rules rules few = omega (arith, numbers_length 0 rules, few)

pub node_fits : (rules : ℕ) → rules ≤ greatest_number → (x : Node) → NodeFits x → NodeFits (upgraded_node rules x)
node_fits rules few (interpretations None funs marks lines pairs drop) f = (small_rules rules few, f.1, f.2, f.3, f.4, f.5)
node_fits rules few (interpretations (Some listed) funs marks lines pairs drop) f = f
node_fits rules few done f = f
node_fits rules few alone f = f
node_fits rules few (blocks parts) f = f
node_fits rules few (subterm args drop) f = f
node_fits rules few (order funs marks lines pairs drop) f = f

pub node_within : (rules : ℕ) → rules ≤ greatest_number → (x : Node) → NodeWithin (2 ^ 32) x → NodeWithin (2 ^ 32) (upgraded_node rules x)
node_within rules few (interpretations None funs marks lines pairs drop) f = (few_rules rules few, f.1, f.2, f.3, f.4, f.5, f.6, f.7)
node_within rules few (interpretations (Some listed) funs marks lines pairs drop) f = f
node_within rules few done f = f
node_within rules few alone f = f
node_within rules few (blocks parts) f = f
node_within rules few (subterm args drop) f = f
node_within rules few (order funs marks lines pairs drop) f = f

pub node_of_two : (rules : ℕ) (x : Node) → IsOfVersion 2 (upgraded_node rules x)
node_of_two rules (interpretations None funs marks lines pairs drop) = refl
node_of_two rules (interpretations (Some listed) funs marks lines pairs drop) = refl
node_of_two rules done = tt
node_of_two rules alone = tt
node_of_two rules (blocks parts) = tt
node_of_two rules (subterm args drop) = tt
node_of_two rules (order funs marks lines pairs drop) = refl

same_children : (rules : ℕ) (x : Node) → children (upgraded_node rules x) ≡ children x
same_children rules (interpretations usable funs marks lines pairs drop) = refl
same_children rules done = refl
same_children rules alone = refl
same_children rules (blocks parts) = refl
same_children rules (subterm args drop) = refl
same_children rules (order funs marks lines pairs drop) = refl

pub preorder : (rules k : ℕ) (xs : List Node) → Preorder k xs → Preorder k (map (upgraded_node rules) xs)
preorder rules zero [] h = h
preorder rules zero (x ∷ xs) h = absurd h
preorder rules (suc k) [] h = absurd h
preorder rules (suc k) (x ∷ xs) h =
    subst (λ (c : ℕ). Preorder (c + k) (map (upgraded_node rules) xs)) (sym (same_children rules x)) (preorder rules (children x + k) xs h)

pub map_length : (rules : ℕ) (xs : List Node) → length (map (upgraded_node rules) xs) ≡ length xs
map_length rules [] = refl
map_length rules (x ∷ xs) = ap suc (map_length rules xs)

yes_upgraded : (rules : ℕ) (ranks : List ℕ) (pairs : ℕ) (nodes : List Node) → rules ≤ greatest_number → IsCert (yes 1 ranks pairs nodes) → IsCert (yes 2 ranks pairs (map (upgraded_node rules) nodes))
yes_upgraded rules ranks pairs nodes few c = record {
  parts = (
    inr refl,
    c.parts.1,
    c.parts.2,
    all_upgraded NodeFits NodeFits rules nodes (node_fits rules few) c.parts.3,
    all_upgraded (IsOfVersion 1) (IsOfVersion 2) rules nodes (λ x f. node_of_two rules x) c.parts.4,
    preorder rules 1 nodes c.parts.5,
  );
  counts = (
    c.counts.0,
    subst (λ (n : ℕ). n < 2 ^ 32) (sym (map_length rules nodes)) c.counts.1,
    all_upgraded (NodeWithin (2 ^ 32)) (NodeWithin (2 ^ 32)) rules nodes (node_within rules few) c.counts.2,
  );
}

upgraded_fits : (rules : ℕ) (c : Cert) → rules ≤ greatest_number → IsCert c → IsCert (upgraded rules c)
upgraded_fits rules (no t steps at puts) few fits = fits
upgraded_fits rules (yes version ranks pairs nodes) few fits =
    cond_both (version == 1) (yes 2 ranks pairs (map (upgraded_node rules) nodes)) (yes version ranks pairs nodes) IsCert
    (λ e. yes_upgraded rules ranks pairs nodes few (subst (λ (v : ℕ). IsCert (yes v ranks pairs nodes)) (eqb-true version 1 e) fits))
    (λ e. fits)

pub has_text : (rules : ℕ) (c : Cert) → rules ≤ greatest_number → IsCert c → CertText (text (upgraded rules c)) (upgraded rules c)
has_text rules c few fits = record { fits = upgraded_fits rules c few fits; spelled = refl }

-- lists in polynomials

polys_within : (n rules : ℕ) (x : Node) → PolysWithin n x → PolysWithin n (upgraded_node rules x)
polys_within n rules (interpretations usable funs marks lines pairs drop) f = f
polys_within n rules done f = f
polys_within n rules alone f = f
polys_within n rules (blocks parts) f = f
polys_within n rules (subterm args drop) f = f
polys_within n rules (order funs marks lines pairs drop) f = f

pub is_short : (n rules : ℕ) (c : Cert) → AllPolysWithin n c → AllPolysWithin n (upgraded rules c)
is_short n rules (no t steps at puts) h = h
is_short n rules (yes version ranks pairs nodes) h =
    cond_both (version == 1) (yes 2 ranks pairs (map (upgraded_node rules) nodes)) (yes version ranks pairs nodes) (AllPolysWithin n)
    (λ e. all_upgraded (PolysWithin n) (PolysWithin n) rules nodes (polys_within n rules) h)
    (λ e. h)
