-- The walk over the sets: where it begins, one node further, and where it ends.
use Rattle.std.proofs.Common.{◌≡◌, ℕ, ◌+◌, ◌^◌, ◌<◌, List, [], ◌∷◌, ◌++◌, length, map, reverse, All, sym, ap, subst, ◌∙◌, append_assoc, arith}
use Rattle.std.proofs.lemmas.List.{append-nil, length-append, map-append}
use Rattle.std.proofs.lemmas.List.Elements.{All-nil, All-cons, All-tail, All-append, All-push}
use Rattle.wh_system.specs.Systems.{SystemData}
use Rattle.wh_pairs.specs.PairData.{PairData}
use Rattle.wh_cert.specs.Written as w
use Rattle.wh_cert.specs.Written.{children, Preorder}
use Rattle.wh_cert.specs.Limits.{NodeFits, NodeWithin}
use Rattle.wh_cert.specs.Said.{said_node}
use Rattle.wh_cert.specs.declared.certificate.Node as code
use Rattle.wh_proof.specs.Proves.{Proves, all_proved, one_proved}
use Rattle.wh_proof.specs.Small.{AreSmall, all_small, one_small}
use Rattle.wh_pairs.specs.Sets.{IsWhole}
use Rattle.wh_proof.specs.GoesOn.{AreProvedBy}
use Rattle.wh_prover.specs.Arriving.{Arrives, at_all}
use Rattle.wh_prover.specs.Versions.{IsMade}
use Rattle.wh_prover.specs.Walk.{weigh, weight, Adds, HasWalked, IsTree}
use Rattle.wh_prover.proofs.CountLemmas.{weight_append}
use Rattle.wh_proof.proofs.BlockLemmas.{reverse_push}
use Rattle.wh_proof.proofs.LeftSets.{leaves_count}

-- lists of lines with one more

pub walked_first : (d : SystemData) (ps : List PairData) (set : List ℕ) → IsWhole ps set → HasWalked d ps set (set ∷ []) []
walked_first d ps set whole = record {
  arrive = All-cons (Arrives d ps) set [] (at_all whole) (All-nil (Arrives d ps));
  fit = All-nil NodeFits;
  within = All-nil (NodeWithin (2 ^ 32));
  made = All-nil (IsMade d);
  few = omega arith;
  counted = λ rest counted. counted;
  proved = λ rest proved. proved;
}

pub walked_next : (d : SystemData) (ps : List PairData) (whole set : List ℕ) (sets after : List (List ℕ)) (lines longer : List w.Node)
    → HasWalked d ps whole (set ∷ sets) lines → Adds d ps set sets after lines longer → HasWalked d ps whole after longer
walked_next d ps whole set sets after lines longer walked adds =
    let line = adds.line in
    let goes = adds.goes in
    let left = goes.left in
    let node = goes.node in
    let long : length longer ≡ length lines + 1 = ap length adds.joined ∙ length-append lines (line ∷ []) in
    let weighs : weight after ≡ weight left + weight sets = ap weight goes.after_is ∙ weight_append left sets in
    let split : (rest : List w.Node) → longer ++ rest ≡ lines ++ line ∷ rest = λ rest. ap (λ (l : List w.Node). l ++ rest) adds.joined ∙ append_assoc lines (line ∷ []) rest in
    let count : length after ≡ children line + length sets = ap length goes.after_is ∙ length-append left sets ∙ ap (λ n. n + length sets) (leaves_count d ps set line node left goes.says goes.leaves) in
    record {
      arrive = subst (All (Arrives d ps)) (sym goes.after_is) (All-append (Arrives d ps) left sets adds.arrives (All-tail (Arrives d ps) set sets walked.arrive));
      fit = subst (All NodeFits) (sym adds.joined) (All-push NodeFits lines line walked.fit adds.fits);
      within = subst (All (NodeWithin (2 ^ 32))) (sym adds.joined) (All-push (NodeWithin (2 ^ 32)) lines line walked.within adds.within);
      made = subst (All (IsMade d)) (sym adds.joined) (All-push (IsMade d) lines line walked.made adds.made);
      few = omega (arith, long, weighs, walked.few, adds.lighter);
      counted = λ rest counted. subst (Preorder 1) (sym (split rest)) (walked.counted (line ∷ rest) (subst (λ n. Preorder n rest) count counted));
      proved = λ rest (nodes, say, proves, small). subst (AreProvedBy d ps (whole ∷ [])) (sym (split rest)) (walked.proved (line ∷ rest) (
        node ∷ nodes,
        (goes.says, say),
        one_proved goes.leaves (subst (λ (s : List (List ℕ)). Proves d.symbols d.rules ps s nodes) goes.after_is proves),
        one_small goes.leaves goes.small (subst (λ (s : List (List ℕ)). AreSmall d.symbols d.rules ps s nodes) goes.after_is small),
      ));
    }

pub walked_last : (d : SystemData) (ps : List PairData) (whole : List ℕ) (lines : List w.Node) → HasWalked d ps whole [] lines → IsTree d ps whole lines
walked_last d ps whole lines walked =
    let whole_is : lines ++ [] ≡ lines = append-nil lines in
    record {
      fit = walked.fit;
      within = walked.within;
      made = walked.made;
      few = omega (arith, walked.few);
      counted = subst (Preorder 1) whole_is (walked.counted [] tt);
      proved = subst (AreProvedBy d ps (whole ∷ [])) whole_is (walked.proved [] ([], tt, all_proved, all_small));
    }

-- the stack with a set on top
pub walked_here : (d : SystemData) (ps : List PairData) (whole set : List ℕ) (stack rest : List (List ℕ)) (lines : List w.Node)
    → HasWalked d ps whole (reverse stack) lines → stack ≡ rest ++ set ∷ [] → HasWalked d ps whole (set ∷ reverse rest) lines
walked_here d ps whole set stack rest lines walked top =
    subst (λ (s : List (List ℕ)). HasWalked d ps whole s lines) (ap reverse top ∙ reverse_push rest set) walked

-- a list of nodes with one more says one line more
pub said_push : (nodes longer : List code.Node) (node : code.Node) → longer ≡ nodes ++ node ∷ []
    → map said_node longer ≡ map said_node nodes ++ said_node node ∷ []
said_push nodes longer node is = ap (map said_node) is ∙ map-append said_node nodes (node ∷ [])

-- a node makes what is left lighter
pub adds_lighter : (d : SystemData) (ps : List PairData) (set : List ℕ) (stack rest after : List (List ℕ)) (lines longer : List w.Node)
    → stack ≡ rest ++ set ∷ [] → Adds d ps set (reverse rest) after lines longer → weight after < weight (reverse stack)
adds_lighter d ps set stack rest after lines longer top adds =
    let left = adds.goes.left in
    let now : weight after ≡ weight left + weight (reverse rest) = ap weight adds.goes.after_is ∙ weight_append left (reverse rest) in
    let was : weight (reverse stack) ≡ weigh set + weight (reverse rest) = ap weight (ap reverse top ∙ reverse_push rest set) in
    omega (arith, now, was, adds.lighter)
