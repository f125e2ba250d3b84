use Rattle.std.proofs.Common.{◌≡◌, ◌<◌, ℕ, List, length, map, sym, ap, subst, ◌∙◌}
use Rattle.std.proofs.lemmas.List.{length-map}
use Rattle.std.proofs.lemmas.Option.{MatchOption-at_none}
use Rattle.wh_terms.specs.Rules.{RewriteRule}
use Rattle.wh_terms.specs.Erase.{rewrite_rule}
use Rattle.wh_system.specs.SystemView.{system_data}
use Rattle.wh_pairs.specs.PairData.{pair_data}
use Rattle.wh_pairs.specs.declared.pair.Pair.{Pair}
use Rattle.wh_pairs.specs.Views.{pairs_data}
use Rattle.wh_pairs.specs.Sets.{IsSetOf}
use Rattle.wh_cert.specs.Said.{said_node, said_yes}
use Rattle.wh_cert_versions.specs.Certificates.{IsCertificateOf}
use Rattle.wh_prover.proofs.ProofLemmas.{no_proof_of_end, proof_of_tree}
use Rattle.wh_prover.proofs.search.prove_under.Goals as goal

pub walk-requires-clause-whole : goal.walk-requires-clause-whole
walk-requires-clause-whole c =
    let pairs = c.args.pairs.now in
    let count : length c.as_slice.result.now ≡ length (pairs_data pairs) = ap (λ (l : List Pair). length l) c.as_slice.ensures ∙ sym (length-map pairs pair_data) in
    subst (λ m. IsSetOf (λ n. n < m) c.in_ok-whole.whole) count c.in_ok-whole.ensures

pub returns : goal.returns
returns c =
    let d = system_data c.args.system.now in
    let pairs = c.args.pairs.now in
    let ps = pairs_data pairs in
    let ranks = c.args.ranks.now in
    let set = c.in_ok-whole.whole in
    let m = length c.as_slice.result.now in
    let lines = map said_node c.walk.new.nodes in
    let count : m ≡ length ps = ap (λ (l : List Pair). length l) c.as_slice.ensures ∙ sym (length-map pairs pair_data) in
    let whole = subst (λ k. IsSetOf (λ n. n < k) set) count c.in_ok-whole.ensures in
    let tree = MatchOption-at_none _ _ c.in_default.is c.in_ok-cause.ensures in
    let certificate = said_yes c.in_ok-certificate.certificate in
    let rules : length c.rules.result.now ≡ length d.rules = sym (length-map c.rules.result.now rewrite_rule) ∙ ap (λ (l : List RewriteRule). length l) c.rules.ensures in
    let made = subst (λ k. IsCertificateOf k c.in_ok-listed.listed m lines certificate) rules c.in_ok-certificate.ensures in
    let same = subst (λ (l : List ℕ). IsCertificateOf (length d.rules) l m lines certificate) c.in_ok-listed.ensures made in
    proof_of_tree d ps ranks m set lines certificate c.is_well_made.ensures c.requires.pairs c.requires.passing c.requires.each c.requires.low count whole tree same

pub returns-in-Some : goal.returns-in-Some
returns-in-Some c =
    let end = rw c.in-Some.is at c.in_ok-cause.ensures in
    no_proof_of_end (system_data c.args.system.now) (pairs_data c.args.pairs.now) c.args.tries c.in-Some.cause
    (c.args.ranks.now, c.requires.each, c.requires.passing) end
