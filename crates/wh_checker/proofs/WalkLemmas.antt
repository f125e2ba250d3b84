-- The walk through the nodes: where it begins, one node further, and where it ends.
use Rattle.std.proofs.Common.{◌≡◌, ◌↔◌, ℕ, suc, ◌+◌, ◌<◌, ◌≤◌, List, [], ◌∷◌, ◌++◌, length, map, reverse, drop, get_or, All, Option, Some, None, refl, sym, ap, subst, ◌∙◌, add-one, arith, IsSome}
use Rattle.std.proofs.lemmas.Bool.{false≢true}
use Rattle.std.proofs.lemmas.List.{length-append, drop_more, drop_all}
use Rattle.std.proofs.lemmas.List.Elements.{All-nil, All-cons, All-head, All-tail, All-append}
use Rattle.wh_system.specs.Systems.{SystemData}
use Rattle.wh_pairs.specs.PairData.{PairData}
use Rattle.wh_cert.specs.Written as w
use Rattle.wh_cert.specs.Written.{children, Preorder}
use Rattle.wh_cert.specs.Said.{said_node}
use Rattle.wh_cert.specs.declared.certificate.Node as code
use Rattle.wh_proof.specs.Proves.{all_proved, one_proved}
use Rattle.wh_polycheck.specs.Small.{with_limits}
use Rattle.wh_proof.specs.Small.{all_small, one_small}
use Rattle.wh_checker.specs.Faults.{IsNodeFault, IsFirstNodeFault, at_first, behind_first}
use Rattle.wh_checker.specs.Walk.{HasCome}
use Rattle.wh_proof.specs.GoesOn.{GoesOn, AreProvedBy}
use Rattle.wh_checker.specs.declared.rejected.NodeFault.{NodeFault}
use Rattle.wh_proof.proofs.LeftSets.{leaves_count}
use Rattle.wh_checker.proofs.NodeLemmas.{left_within}
use Rattle.wh_proof.proofs.BlockLemmas.{reverse_push}

abbrev Below : List PairData → List ℕ → Type 0
Below ps = All (λ n. n < length ps)

pub come_first : (d : SystemData) (ps : List PairData) (set : List ℕ) (lines : List w.Node) → Below ps set → Preorder 1 lines
    → HasCome d ps set lines 0 (set ∷ []) lines
come_first d ps set lines within counted = record {
  within = All-cons (Below ps) set [] within (All-nil (Below ps));
  counted = counted;
  proved = λ proved. proved;
  first = λ m f first. first;
}

pub come_next : (d : SystemData) (ps : List PairData) (set : List ℕ) (lines : List w.Node) (k : ℕ) (here : List ℕ)
    (sets after : List (List ℕ)) (line : w.Node) (left : List w.Node)
    → HasCome d ps set lines k (here ∷ sets) (line ∷ left) → GoesOn d ps here line sets after → HasCome d ps set lines (k + 1) after left
come_next d ps set lines k here sets after line left come goes =
    let below = All-head (Below ps) here sets come.within in
    let within = left_within d.symbols d.rules ps (λ n. n < length ps) here goes.node goes.left goes.leaves below in
    let joined : HasCome d ps set lines (suc k) (goes.left ++ sets) left = record {
      within = All-append (Below ps) goes.left sets within (All-tail (Below ps) here sets come.within);
      counted =
          subst (λ n. Preorder n left) (sym (length-append goes.left sets ∙ ap (λ n. n + length sets)
          (leaves_count d ps here line goes.node goes.left goes.says goes.leaves))) come.counted;
      proved =
          λ (nodes, say, proves, small). come.proved (
            goes.node ∷ nodes,
            (goes.says, say),
            one_proved goes.leaves proves,
            one_small goes.leaves goes.small small,
          );
      first = λ m f first. come.first m f (behind_first goes.says goes.leaves goes.small first);
    } in
    subst (λ n. HasCome d ps set lines n after left) (sym (add-one k))
    (subst (λ s. HasCome d ps set lines (suc k) s left) (sym goes.after_is) joined)

pub come_fault : (d : SystemData) (ps : List PairData) (set : List ℕ) (lines : List w.Node) (k : ℕ) (here : List ℕ) (sets : List (List ℕ))
    (line : w.Node) (left : List w.Node) (f : NodeFault)
    → HasCome d ps set lines k (here ∷ sets) (line ∷ left) → IsNodeFault with_limits d ps here line f
    → IsFirstNodeFault with_limits d ps 0 (set ∷ []) lines k f
come_fault d ps set lines k here sets line left f come fault = come.first k f (at_first fault)

pub come_last : (d : SystemData) (ps : List PairData) (set : List ℕ) (lines : List w.Node) (k : ℕ) (sets : List (List ℕ))
    → HasCome d ps set lines k sets [] → AreProvedBy d ps (set ∷ []) lines
come_last d ps set lines k [] come = come.proved ([], tt, all_proved, all_small)
come_last d ps set lines k (here ∷ sets) come = absurd come.counted

-- the walk at a line, where the stack has a set on top
pub come_top : (d : SystemData) (ps : List PairData) (set : List ℕ) (lines : List w.Node) (k : ℕ) (stack rest : List (List ℕ))
    (here : List ℕ) (line : w.Node) (left : List w.Node)
    → HasCome d ps set lines k (reverse stack) (line ∷ left) → stack ≡ rest ++ here ∷ []
    → HasCome d ps set lines k (here ∷ reverse rest) (line ∷ left)
come_top d ps set lines k stack rest here line left come top =
    subst (λ (s : List (List ℕ)). HasCome d ps set lines k s (line ∷ left)) (ap reverse top ∙ reverse_push rest here) come

-- where a line is left, the stack has a set on top
pub come_never : (d : SystemData) (ps : List PairData) (set : List ℕ) (lines : List w.Node) (k : ℕ) (stack : List (List ℕ))
    (o : Option (List ℕ)) (n : ℕ) (line : w.Node) (left : List w.Node) → n ≡ length stack → IsSome o ↔ (0 < n)
    → ((s : List ℕ) → o ≡ Some s → ⊥) → HasCome d ps set lines k (reverse stack) (line ∷ left) → ⊥
come_never d ps set lines k [] o n line left long some not come = come.counted
come_never d ps set lines k (s ∷ stack) None n line left long some not come = false≢true (some.1 (omega arith))
come_never d ps set lines k (s ∷ stack) (Some t) n line left long some not come = not t refl

-- the walk at a node
pub come_line : (d : SystemData) (ps : List PairData) (set : List ℕ) (lines : List w.Node) (k : ℕ) (sets : List (List ℕ))
    (nodes : List code.Node) (node : code.Node) → HasCome d ps set lines k sets (map said_node (drop k nodes)) → k < length nodes
    → node ≡ get_or nodes k node → HasCome d ps set lines k sets (said_node node ∷ map said_node (drop (k + 1) nodes))
come_line d ps set lines k sets nodes node come within is =
    let split : drop k nodes ≡ node ∷ drop (k + 1) nodes = subst (λ (n : code.Node). drop k nodes ≡ n ∷ drop (k + 1) nodes) (sym is)
    (drop_more nodes k node within) in
    subst (λ (l : List w.Node). HasCome d ps set lines k sets l) (ap (map said_node) split) come

-- the walk where no node is left
pub come_over : (d : SystemData) (ps : List PairData) (set : List ℕ) (lines : List w.Node) (k : ℕ) (sets : List (List ℕ))
    (nodes : List code.Node) → HasCome d ps set lines k sets (map said_node (drop k nodes)) → length nodes ≤ k
    → AreProvedBy d ps (set ∷ []) lines
come_over d ps set lines k sets nodes come past =
    come_last d ps set lines k sets (subst (λ (l : List w.Node). HasCome d ps set lines k sets l)
    (ap (map said_node) (drop_all k nodes past)) come)
