-- A tree of nodes for the set of all pairs, with ranks, is a proof, as a certificate of one version or of the other.
use Rattle.std.proofs.Common.{◌≡◌, inl, inr, ℕ, ◌^◌, ◌<◌, ◌≤◌, List, [], ◌∷◌, length, map, All, refl, arith}
use Rattle.std.proofs.lemmas.List.Elements.{All-weaker}
use Rattle.wh_system.specs.Systems.{SystemData}
use Rattle.wh_system.specs.WellMade.{IsWellMadeSystem}
use Rattle.wh_pairs.specs.PairData.{PairData}
use Rattle.wh_access.specs.Passing.{IsPassing}
use Rattle.wh_pairs.specs.SystemPairs.{HasPairs}
use Rattle.wh_cert.specs.Written as w
use Rattle.wh_cert.specs.Limits.{IsCert, IsOfVersion, NodeFits, NodeWithin}
use Rattle.wh_cert_upgrade.specs.Upgraded.{upgraded_node}
use Rattle.wh_cert_upgrade.proofs.Texts.{all_upgraded, node_fits, node_within, node_of_two, preorder, map_length}
use Rattle.wh_cert_upgrade_laws.proofs.SameNodes.{all_new}
use Rattle.wh_pairs.specs.Sets.{IsWhole}
use Rattle.wh_prover.specs.Answers.{IsProof, IsReason, IsFull, HasNoLoops, HasNoProof, HasRanks}
use Rattle.wh_prover.specs.Searched.{IsSearched}
use Rattle.wh_cert_versions.specs.Certificates.{IsCertificateOf, first, second}
use Rattle.wh_prover.specs.Versions.{IsMade}
use Rattle.wh_prover.specs.Walk.{weigh, IsTree, IsEnd}
use Rattle.wh_loop_reached.specs.Arrivals.{Arrival}
use Rattle.wh_prover.specs.declared.answer.Options.{Options}
use Rattle.wh_prover.specs.declared.answer.Cause.{Cause}
use Rattle.wh_prover.specs.declared.answer.Cause.TheVariants.{NoRanks, Stuck, Spent, Full}
use Rattle.wh_prover.specs.declared.answer.Finder.TheVariants.{Subterm, Poly, Order}
use Rattle.wh_prover.proofs.CountLemmas.{apart_increasing, few_below}
use Rattle.wh_prover.proofs.VersionLemmas.{made_searched, upgraded_searched, some_needs}

weigh_low : (set : List ℕ) → length set ≤ 4096 → weigh set ≤ 12287
weigh_low [] few = omega arith
weigh_low (n ∷ ns) few = omega (arith, few)

-- there are few nodes
tree_short : (d : SystemData) (ps : List PairData) (set : List ℕ) (lines : List w.Node) → HasPairs d ps → IsWhole ps set → IsTree d ps set lines
    → length lines < 2 ^ 32
tree_short d ps set lines pairs whole tree =
    let few = few_below set (length ps) (apart_increasing set whole.increasing) (λ n found. (whole.each n).0 found) in
    let nodes = weigh_low set (omega (arith, few, pairs.few)) in
    omega (arith, nodes, tree.few)

-- within the limits of the format, in both versions

first_fits : (d : SystemData) (ps : List PairData) (ranks : List ℕ) (count : ℕ) (set : List ℕ) (lines : List w.Node) → IsWellMadeSystem d
    → HasPairs d ps → length ranks ≡ d.symbols.sorts → All (λ r. r ≤ 65535) ranks → count ≡ length ps → IsWhole ps set
    → IsTree d ps set lines → All (IsOfVersion 1) lines → IsCert (w.yes 1 ranks count lines)
first_fits d ps ranks count set lines made pairs each low right whole tree all_first =
    record {
      parts = (inl refl, low, omega (arith, right, pairs.few), tree.fit, all_first, tree.counted);
      counts = (omega (arith, each, made.sorts_within), tree_short d ps set lines pairs whole tree, tree.within);
    }

second_fits : (d : SystemData) (ps : List PairData) (ranks : List ℕ) (count : ℕ) (set : List ℕ) (lines : List w.Node) → IsWellMadeSystem d
    → HasPairs d ps → length ranks ≡ d.symbols.sorts → All (λ r. r ≤ 65535) ranks → count ≡ length ps → IsWhole ps set
    → IsTree d ps set lines → IsCert (w.yes 2 ranks count (map (upgraded_node (length d.rules)) lines))
second_fits d ps ranks count set lines made pairs each low right whole tree =
    let rules = length d.rules in
    let few : rules ≤ 65535 = omega (arith, made.rules_within) in
    let short = tree_short d ps set lines pairs whole tree in
    record {
      parts = (
        inr refl,
        low,
        omega (arith, right, pairs.few),
        all_upgraded NodeFits NodeFits rules lines (node_fits rules few) tree.fit,
        all_upgraded (IsMade d) (IsOfVersion 2) rules lines (λ x made. node_of_two rules x) tree.made,
        preorder rules 1 lines tree.counted,
      );
      counts = (
        omega (arith, each, made.sorts_within),
        omega (arith, map_length rules lines, short),
        all_upgraded (NodeWithin (2 ^ 32)) (NodeWithin (2 ^ 32)) rules lines (node_within rules few) tree.within,
      );
    }

-- the proof

pub proof_of_tree : (d : SystemData) (ps : List PairData) (ranks : List ℕ) (count : ℕ) (set : List ℕ) (lines : List w.Node) (c : w.Cert) → IsWellMadeSystem d
    → HasPairs d ps → IsPassing d ranks → length ranks ≡ d.symbols.sorts → All (λ r. r ≤ 65535) ranks → count ≡ length ps → IsWhole ps set
    → IsTree d ps set lines → IsCertificateOf (length d.rules) ranks count lines c → IsProof d ps c
proof_of_tree d ps ranks count set lines c made pairs passing each low right whole tree (first all_first) =
    let (nodes, says, proves, small) = tree.proved in
    record {
      yes = tt;
      fits = first_fits d ps ranks count set lines made pairs each low right whole tree all_first;
      valid = record { rank_count = each; passing = passing; pair_count = right; set = set; whole = whole; nodes = nodes; says = says; proves = proves };
      small = record { set = set; whole = whole; nodes = nodes; says = says; small = small };
      searched = All-weaker (IsMade d) (IsSearched d) (made_searched d) lines tree.made;
      version = inl refl;
    }
proof_of_tree d ps ranks count set lines c made pairs passing each low right whole tree (second not_first) =
    let (nodes, says, proves, small) = tree.proved in
    let listed = all_new d lines nodes says in
    record {
      yes = tt;
      fits = second_fits d ps ranks count set lines made pairs each low right whole tree;
      valid = record { rank_count = each; passing = passing; pair_count = right; set = set; whole = whole; nodes = nodes; says = listed; proves = proves };
      small = record { set = set; whole = whole; nodes = nodes; says = listed; small = small };
      searched = all_upgraded (IsMade d) (IsSearched d) (length d.rules) lines (upgraded_searched d) tree.made;
      version = inr (refl, some_needs d lines tree.made not_first);
    }

-- what ended the walk is why there is no proof
pub no_proof_of_end : (d : SystemData) (ps : List PairData) (tries : ℕ) (cause : Cause) → HasRanks d → IsEnd d ps tries cause → HasNoProof d ps tries cause
no_proof_of_end d ps tries (NoRanks cause) ranks end = absurd end
no_proof_of_end d ps tries (Stuck set) ranks end =
    record {
      ranks = ranks;
      searched = end.0;
      ended = end.1;
      no_projection = end.2;
      no_interpretation = end.3.over_all;
      lists = end.3.lists;
      no_order = end.4;
    }
no_proof_of_end d ps tries (Spent Subterm set list) ranks end = record { ranks = ranks; ended = end.0; spent = end.1 }
no_proof_of_end d ps tries (Spent Poly set list) ranks end =
    record { ranks = ranks; searched = end.0; ended = end.1; no_projection = end.2; spent = end.3.over_all; lists = end.3.lists }
no_proof_of_end d ps tries (Spent Order set list) ranks end =
    record {
      ranks = ranks;
      searched = end.0;
      ended = end.1;
      no_projection = end.2;
      no_interpretation = end.3.over_all;
      lists = end.3.lists;
      spent = end.4;
    }
no_proof_of_end d ps tries (Full visits) ranks end = absurd end

-- where there are no loops, that is the reason
pub reason_without_loops : (d : SystemData) (ps : List PairData) (o : Options) (cause : Cause) → HasNoProof d ps o.tries cause → HasNoLoops d o → IsReason d ps o cause
reason_without_loops d ps o (NoRanks cause) why none = (why, inl none)
reason_without_loops d ps o (Stuck set) why none = (why, none)
reason_without_loops d ps o (Spent Subterm set list) why none = (why, inl none)
reason_without_loops d ps o (Spent Poly set list) why none = (why, inl none)
reason_without_loops d ps o (Spent Order set list) why none = (why, inl none)
reason_without_loops d ps o (Full visits) why none = absurd why

-- where the search for loops is full, it is so but where nothing lets a pair of a set go
pub reason_beside_full : (d : SystemData) (ps : List PairData) (o : Options) (cause : Cause) (list : List Arrival) → HasNoProof d ps o.tries cause → IsFull d o list
    → ((set : List ℕ) → cause ≡ Stuck set → ⊥) → IsReason d ps o cause
reason_beside_full d ps o (NoRanks cause) list why full other = (why, inr (list, full))
reason_beside_full d ps o (Stuck set) list why full other = absurd (other set refl)
reason_beside_full d ps o (Spent Subterm set list) listed why full other = (why, inr (listed, full))
reason_beside_full d ps o (Spent Poly set list) listed why full other = (why, inr (listed, full))
reason_beside_full d ps o (Spent Order set list) listed why full other = (why, inr (listed, full))
reason_beside_full d ps o (Full visits) list why full other = absurd why
