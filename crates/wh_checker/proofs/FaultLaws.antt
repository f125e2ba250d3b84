-- A certificate has one first fault at most, but that values may exceed both limits in one node, and none if it is valid. What is found
-- false before a value exceeds a limit is the first false condition.
use Rattle.std.proofs.Common.{◌≡◌, ℕ, suc, List, [], ◌∷◌, ◌++◌, length, refl, sym, ap, subst, ◌∙◌}
use Rattle.wh_terms.specs.Typing.{Symbols}
use Rattle.wh_terms.specs.Rules.{RewriteRule}
use Rattle.wh_step_laws.specs.Ranks.{rank_of}
use Rattle.wh_system.specs.Systems.{SystemData}
use Rattle.wh_system.specs.WellMade.{AreDistinct, IsWellMadeSystem}
use Rattle.wh_pairs.specs.PairData.{PairData}
use Rattle.wh_access.specs.Passing.{Passes}
use Rattle.wh_poly.specs.declared.excess.Excess.{Excess}
use Rattle.wh_poly.specs.declared.excess.Excess.TheVariants as excess
use Rattle.wh_cert.specs.Written as w
use Rattle.wh_cert.specs.Written.{Cert, yes, no}
use Rattle.wh_no.proofs.Verdicts.{fault_one, accepted_or_fault}
use Rattle.wh_polycheck.specs.Small.{Limits, without_limits, with_limits}
use Rattle.wh_proof.specs.Nodes.{Node, Leaves}
use Rattle.wh_proof.specs.Proves.{Proves, one_proved}
use Rattle.wh_proof.specs.Looked.{SaysNode, SayNodes}
use Rattle.wh_proof.specs.Valid.{IsValidCert, IsSmallCert, IsValidYes}
use Rattle.wh_proof.specs.Small.{IsSmallNode, AreSmall, one_small, IsSmallYes}
use Rattle.wh_checker.specs.Faults.{IsNodeFault, IsFirstNodeFault, at_first, behind_first, in_excess, at_node, of_claim, IsFirstYesFault, rank_count, inaccessible, pair_count, in_node, IsFirstFault, AreAlike}
use Rattle.wh_checker.specs.declared.rejected.NodeFault.{NodeFault}
use Rattle.wh_checker.specs.declared.rejected.CheckFault.{CheckFault}
use Rattle.wh_checker.specs.declared.rejected.CheckFault.TheVariants as check
use Rattle.wh_checker.specs.declared.rejected.Rejected.{Rejected}
use Rattle.wh_pairs.proofs.SetLemmas.{set_one}
use Rattle.wh_checker.proofs.RowLaws.{break_one, break_or_passing}
use Rattle.wh_checker.proofs.CoveringLaws.{IsRejection}
use Rattle.wh_proof.proofs.OneNode.{one_node_said}
use Rattle.wh_checker.proofs.NodeLaws.{leaves_one, NodesAlike, one_fault, both_exceed, node_fault_one, leaves_or_fault, node_unlimited}

-- faults that are alike

alike_self : (x : CheckFault) → AreAlike x x
alike_self (check.Rejected r) = refl
alike_self (check.Overflow k) = refl
alike_self (check.TooLarge k) = refl

excesses_alike : (k : ℕ) (e h : Excess) → AreAlike (in_excess k e) (in_excess k h)
excesses_alike k excess.Overflow excess.Overflow = refl
excesses_alike k excess.Overflow excess.TooLarge = refl
excesses_alike k excess.TooLarge excess.Overflow = refl
excesses_alike k excess.TooLarge excess.TooLarge = refl

nodes_alike : (k : ℕ) (f g : NodeFault) → NodesAlike f g → AreAlike (at_node k f) (at_node k g)
nodes_alike k f g (one_fault same) = subst (λ x. AreAlike (at_node k f) (at_node k x)) same (alike_self (at_node k f))
nodes_alike k f g (both_exceed first other) =
    subst (λ x. AreAlike x (at_node k g)) (sym (first.row k))
    (subst (λ x. AreAlike (in_excess k first.excess) x) (sym (other.row k)) (excesses_alike k first.excess other.excess))

-- two readings of one line leave the same sets
left_one : (d : SystemData) (ps : List PairData) (set : List ℕ) (line : w.Node) (node other : Node) (left rest : List (List ℕ))
    → AreDistinct d.fun_names
    → SaysNode d line node → Leaves d.symbols d.rules ps set node left → SaysNode d line other → Leaves d.symbols d.rules ps set other rest
    → left ≡ rest
left_one d ps set line node other left rest apart says leaves also others =
    let same : node ≡ other = one_node_said d line node other apart says also in
    leaves_one d.symbols d.rules ps set other left rest (subst (λ (n : Node). Leaves d.symbols d.rules ps set n left) same leaves) others

-- a fault behind the first node
record IsBehind (limits : Limits) (d : SystemData) (ps : List PairData) (k : ℕ) (set : List ℕ) (sets : List (List ℕ)) (line : w.Node)
    (lines : List w.Node) (m : ℕ) (f : NodeFault) : Type 0 where
  node : Node
  left : List (List ℕ)
  says : SaysNode d line node
  leaves : Leaves d.symbols d.rules ps set node left
  small : IsSmallNode limits d.symbols d.rules ps set node
  rest : IsFirstNodeFault limits d ps (suc k) (left ++ sets) lines m f

-- the first node has a fault, or one behind it
data HereOrBehind (limits : Limits) (d : SystemData) (ps : List PairData) (k : ℕ) (set : List ℕ) (sets : List (List ℕ)) (line : w.Node)
    (lines : List w.Node) (m : ℕ) (f : NodeFault) : Type 0 where
  is_here : m ≡ k → IsNodeFault limits d ps set line f → HereOrBehind limits d ps k set sets line lines m f
  is_behind : IsBehind limits d ps k set sets line lines m f → HereOrBehind limits d ps k set sets line lines m f

here_or_behind : (limits : Limits) (d : SystemData) (ps : List PairData) (k : ℕ) (set : List ℕ) (sets : List (List ℕ)) (line : w.Node)
    (lines : List w.Node) (m : ℕ) (f : NodeFault) → IsFirstNodeFault limits d ps k (set ∷ sets) (line ∷ lines) m f
    → HereOrBehind limits d ps k set sets line lines m f
here_or_behind limits d ps k set sets line lines m f (at_first fault) = is_here refl fault
here_or_behind limits d ps k set sets line lines m f (behind_first {left = left} {node = node} says leaves small rest) =
    is_behind (record { node = node; left = left; says = says; leaves = leaves; small = small; rest = rest })

abbrev AreOne : Limits → SystemData → List PairData → ℕ → ℕ → ℕ → List (List ℕ) → List w.Node → NodeFault → NodeFault → Type 0
AreOne limits d ps k m n sets lines f g =
    IsFirstNodeFault limits d ps k sets lines m f → IsFirstNodeFault limits d ps k sets lines n g → (m ≡ n) × NodesAlike f g

one_step : (limits : Limits) (d : SystemData) (ps : List PairData) (k m n : ℕ) (set : List ℕ) (sets : List (List ℕ)) (line : w.Node)
    (lines : List w.Node) (f g : NodeFault) → AreDistinct d.fun_names
    → ((left : List (List ℕ)) → AreOne limits d ps (suc k) m n (left ++ sets) lines f g)
    → HereOrBehind limits d ps k set sets line lines m f → HereOrBehind limits d ps k set sets line lines n g → (m ≡ n) × NodesAlike f g
one_step limits d ps k m n set sets line lines f g apart later (is_here at fault) (is_here there also) =
    (at ∙ sym there, node_fault_one limits d ps set line f g apart fault also)
one_step limits d ps k m n set sets line lines f g apart later (is_here at fault) (is_behind b) =
    absurd (leaves_or_fault limits d ps set line b.node b.left f apart b.says b.leaves b.small fault)
one_step limits d ps k m n set sets line lines f g apart later (is_behind a) (is_here there also) =
    absurd (leaves_or_fault limits d ps set line a.node a.left g apart a.says a.leaves a.small also)
one_step limits d ps k m n set sets line lines f g apart later (is_behind a) (is_behind b) =
    let same : b.left ≡ a.left = left_one d ps set line b.node a.node b.left a.left apart b.says b.leaves a.says a.leaves in
    later a.left a.rest (subst (λ (l : List (List ℕ)). IsFirstNodeFault limits d ps (suc k) (l ++ sets) lines n g) same b.rest)

walk_one : (limits : Limits) (d : SystemData) (ps : List PairData) (k m n : ℕ) (sets : List (List ℕ)) (lines : List w.Node)
    (f g : NodeFault) → AreDistinct d.fun_names → AreOne limits d ps k m n sets lines f g
walk_one limits d ps k m n [] lines f g apart first other = elim first [ ]
walk_one limits d ps k m n (set ∷ sets) [] f g apart first other = elim first [ ]
walk_one limits d ps k m n (set ∷ sets) (line ∷ lines) f g apart first other =
    one_step limits d ps k m n set sets line lines f g apart (λ left. walk_one limits d ps (suc k) m n (left ++ sets) lines f g apart)
    (here_or_behind limits d ps k set sets line lines m f first) (here_or_behind limits d ps k set sets line lines n g other)

-- with limits, each node is small on its set
abbrev pub AreSmallFor : Limits → Symbols → List RewriteRule → List PairData → List (List ℕ) → List Node → Type 0
AreSmallFor with_limits S rules ps sets nodes = AreSmall S rules ps sets nodes
AreSmallFor without_limits S rules ps sets nodes = Unit {0}

-- so it is of the first node and of the others
small_split : (limits : Limits) (S : Symbols) (rules : List RewriteRule) (ps : List PairData) (set : List ℕ) (left sets : List (List ℕ))
    (node : Node) (nodes : List Node) → Leaves S rules ps set node left → AreSmallFor limits S rules ps (set ∷ sets) (node ∷ nodes)
    → IsSmallNode limits S rules ps set node × AreSmallFor limits S rules ps (left ++ sets) nodes
small_split with_limits S rules ps set left sets node nodes leaves (one_small {left = right} also small rest) =
    let same : right ≡ left = leaves_one S rules ps set node right left also leaves in
    (small, subst (λ (l : List (List ℕ)). AreSmall S rules ps (l ++ sets) nodes) same rest)
small_split without_limits S rules ps set left sets node nodes leaves small = (tt, tt)

proved_or_fault : (limits : Limits) (d : SystemData) (ps : List PairData) (k m : ℕ) (sets : List (List ℕ)) (lines : List w.Node)
    (nodes : List Node) (f : NodeFault) → AreDistinct d.fun_names
    → SayNodes d lines nodes → Proves d.symbols d.rules ps sets nodes → AreSmallFor limits d.symbols d.rules ps sets nodes
    → IsFirstNodeFault limits d ps k sets lines m f → ⊥
proved_or_fault limits d ps k m (set ∷ sets) (line ∷ lines) (node ∷ nodes) f apart say (one_proved {left = left} leaves proves) small
    (at_first fault) =
    leaves_or_fault limits d ps set line node left f apart say.0 leaves
    (small_split limits d.symbols d.rules ps set left sets node nodes leaves small).0 fault
proved_or_fault limits d ps k m (set ∷ sets) (line ∷ lines) (node ∷ nodes) f apart say (one_proved {left = left} leaves proves) small
    (behind_first {left = right} {node = other} says others few rest) =
    let same : right ≡ left = left_one d ps set line other node right left apart says others say.0 leaves in
    proved_or_fault limits d ps (suc k) m (left ++ sets) lines nodes f apart say.1 proves
    (small_split limits d.symbols d.rules ps set left sets node nodes leaves small).1
    (subst (λ (l : List (List ℕ)). IsFirstNodeFault limits d ps (suc k) (l ++ sets) lines m f) same rest)
proved_or_fault limits d ps k m (set ∷ sets) (line ∷ lines) [] f apart say proves small first = absurd say
proved_or_fault limits d ps k m [] lines nodes f apart say proves small first = elim first [ ]
proved_or_fault limits d ps k m (set ∷ sets) [] nodes f apart say proves small first = elim first [ ]

yes_fault_one : (limits : Limits) (d : SystemData) (ps : List PairData) (ranks : List ℕ) (pairs : ℕ) (lines : List w.Node)
    (r s : CheckFault) → AreDistinct d.fun_names
    → IsFirstYesFault limits d ps ranks pairs lines r → IsFirstYesFault limits d ps ranks pairs lines s → AreAlike r s
yes_fault_one limits d ps ranks pairs lines r s apart (rank_count not) (rank_count also) = refl
yes_fault_one limits d ps ranks pairs lines r s apart (rank_count not) (inaccessible count first) = absurd (not count)
yes_fault_one limits d ps ranks pairs lines r s apart (rank_count not) (pair_count count passing other) = absurd (not count)
yes_fault_one limits d ps ranks pairs lines r s apart (rank_count not) (in_node count passing right whole first) = absurd (not count)
yes_fault_one limits d ps ranks pairs lines r s apart (inaccessible count first) (rank_count not) = absurd (not count)
yes_fault_one limits d ps ranks pairs lines r s apart (inaccessible {r = i} {z = y} count first) (inaccessible {r = j} {z = z} also other) =
    let same = break_one (Passes d.symbols (rank_of ranks)) d.rules i j y z first other in
    let rule : i ≡ j = same.0 in let meta : y ≡ z = same.1 in cc (rule, meta)
yes_fault_one limits d ps ranks pairs lines r s apart (inaccessible {r = i} {z = y} count first) (pair_count also passing other) =
    absurd (break_or_passing (Passes d.symbols (rank_of ranks)) d.rules i y first passing)
yes_fault_one limits d ps ranks pairs lines r s apart (inaccessible {r = i} {z = y} count first) (in_node also passing right whole other) =
    absurd (break_or_passing (Passes d.symbols (rank_of ranks)) d.rules i y first passing)
yes_fault_one limits d ps ranks pairs lines r s apart (pair_count count passing other) (rank_count not) = absurd (not count)
yes_fault_one limits d ps ranks pairs lines r s apart (pair_count count passing other) (inaccessible {r = i} {z = y} also first) =
    absurd (break_or_passing (Passes d.symbols (rank_of ranks)) d.rules i y first passing)
yes_fault_one limits d ps ranks pairs lines r s apart (pair_count count passing other) (pair_count also pass not) = refl
yes_fault_one limits d ps ranks pairs lines r s apart (pair_count count passing other) (in_node also pass right whole first) =
    absurd (other right)
yes_fault_one limits d ps ranks pairs lines r s apart (in_node count passing right whole first) (rank_count not) = absurd (not count)
yes_fault_one limits d ps ranks pairs lines r s apart (in_node count passing right whole first) (inaccessible {r = i} {z = y} also break) =
    absurd (break_or_passing (Passes d.symbols (rank_of ranks)) d.rules i y break passing)
yes_fault_one limits d ps ranks pairs lines r s apart (in_node count passing right whole first) (pair_count also pass other) =
    absurd (other right)
yes_fault_one limits d ps ranks pairs lines r s apart (in_node {k = k} {set = set} {f = f} count passing right whole first)
    (in_node {k = m} {set = all} {f = g} also pass true_count also_whole other) =
    let same : all ≡ set = set_one _ all set also_whole whole in
    let one = walk_one limits d ps 0 k m (set ∷ []) lines f g apart first
    (subst (λ (l : List ℕ). IsFirstNodeFault limits d ps 0 (l ∷ []) lines m g) same other) in
    subst (λ n. AreAlike (at_node k f) (at_node n g)) one.0 (nodes_alike k f g one.1)

-- with limits, the nodes of a valid certificate are small
abbrev pub IsSmallFor : Limits → SystemData → List PairData → List w.Node → Type 0
IsSmallFor with_limits d ps lines = IsSmallYes d ps lines
IsSmallFor without_limits d ps lines = Unit {0}

nodes_said_one : (d : SystemData) (lines : List w.Node) (nodes others : List Node) → AreDistinct d.fun_names → SayNodes d lines nodes
    → SayNodes d lines others → nodes ≡ others
nodes_said_one d [] [] [] apart say also = refl
nodes_said_one d (line ∷ lines) (node ∷ nodes) (other ∷ others) apart (here, rest) (also, more) =
    cc (one_node_said d line node other apart here also, nodes_said_one d lines nodes others apart rest more)
nodes_said_one d [] (node ∷ nodes) others apart say also = absurd say
nodes_said_one d [] [] (other ∷ others) apart say also = absurd also
nodes_said_one d (line ∷ lines) [] others apart say also = absurd say
nodes_said_one d (line ∷ lines) (node ∷ nodes) [] apart say also = absurd also

small_nodes : (limits : Limits) (d : SystemData) (ps : List PairData) (ranks : List ℕ) (pairs : ℕ) (lines : List w.Node)
    → AreDistinct d.fun_names → (valid : IsValidYes d ps ranks pairs lines) → IsSmallFor limits d ps lines
    → AreSmallFor limits d.symbols d.rules ps (valid.set ∷ []) valid.nodes
small_nodes with_limits d ps ranks pairs lines apart valid small =
    let sets_same : small.set ≡ valid.set = set_one _ small.set valid.set small.whole valid.whole in
    let nodes_same : small.nodes ≡ valid.nodes = nodes_said_one d lines small.nodes valid.nodes apart small.says valid.says in
    subst (λ (l : List ℕ). AreSmall d.symbols d.rules ps (l ∷ []) valid.nodes) sets_same
    (subst (λ (l : List Node). AreSmall d.symbols d.rules ps (small.set ∷ []) l) nodes_same small.small)
small_nodes without_limits d ps ranks pairs lines apart valid small = tt

valid_or_yes_fault : (limits : Limits) (d : SystemData) (ps : List PairData) (ranks : List ℕ) (pairs : ℕ) (lines : List w.Node)
    (r : CheckFault) → AreDistinct d.fun_names → IsValidYes d ps ranks pairs lines → IsSmallFor limits d ps lines
    → IsFirstYesFault limits d ps ranks pairs lines r → ⊥
valid_or_yes_fault limits d ps ranks pairs lines r apart valid small (rank_count not) = not valid.rank_count
valid_or_yes_fault limits d ps ranks pairs lines r apart valid small (inaccessible {r = i} {z = z} count first) =
    break_or_passing (Passes d.symbols (rank_of ranks)) d.rules i z first valid.passing
valid_or_yes_fault limits d ps ranks pairs lines r apart valid small (pair_count count passing other) = other valid.pair_count
valid_or_yes_fault limits d ps ranks pairs lines r apart valid small (in_node {k = k} {set = set} {f = f} count passing right whole first) =
    let same : set ≡ valid.set = set_one _ set valid.set whole valid.whole in
    proved_or_fault limits d ps 0 k (valid.set ∷ []) lines valid.nodes f apart valid.says valid.proves
    (small_nodes limits d ps ranks pairs lines apart valid small)
    (subst (λ (l : List ℕ). IsFirstNodeFault limits d ps 0 (l ∷ []) lines k f) same first)

pub first_fault_one : (limits : Limits) (d : SystemData) (ps : List PairData) (c : Cert) (f g : CheckFault) → IsWellMadeSystem d
    → IsFirstFault limits d ps c f → IsFirstFault limits d ps c g → AreAlike f g
first_fault_one limits d ps (yes version ranks pairs lines) f g made first other =
    yes_fault_one limits d ps ranks pairs lines f g made.fun_names_distinct first other
first_fault_one limits d ps (no t steps at puts) f g made (e, is, first) (h, also, other) =
    let same : e ≡ h = fault_one d (no t steps at puts) e h made.rules first other in
    subst (λ x. AreAlike x g) (sym is) (subst (λ x. AreAlike (check.Rejected (of_claim e)) x) (sym also) (ap of_claim same))

pub valid_or_fault : (d : SystemData) (ps : List PairData) (c : Cert) (f : CheckFault) → IsWellMadeSystem d → IsValidCert d ps c
    → IsFirstFault without_limits d ps c f → ⊥
valid_or_fault d ps (yes version ranks pairs lines) f made valid first =
    valid_or_yes_fault without_limits d ps ranks pairs lines f made.fun_names_distinct valid tt first
valid_or_fault d ps (no t steps at puts) f made (c, says, valid) (e, is, first) =
    accepted_or_fault d (no t steps at puts) (record { steps = length c.steps }) e made.rules (c, says, valid, refl) first

pub small_or_fault : (d : SystemData) (ps : List PairData) (c : Cert) (f : CheckFault) → IsWellMadeSystem d → IsValidCert d ps c
    → IsSmallCert d ps c → IsFirstFault with_limits d ps c f → ⊥
small_or_fault d ps (yes version ranks pairs lines) f made valid small first =
    valid_or_yes_fault with_limits d ps ranks pairs lines f made.fun_names_distinct valid small first
small_or_fault d ps (no t steps at puts) f made (c, says, valid) small (e, is, first) =
    accepted_or_fault d (no t steps at puts) (record { steps = length c.steps }) e made.rules (c, says, valid, refl) first

-- a false condition that is found before a value exceeds a limit

walk_unlimited : (d : SystemData) (ps : List PairData) (k m : ℕ) (sets : List (List ℕ)) (lines : List w.Node) (f : NodeFault)
    → IsRejection (at_node m f) → IsFirstNodeFault with_limits d ps k sets lines m f → IsFirstNodeFault without_limits d ps k sets lines m f
walk_unlimited d ps k m (set ∷ sets) (line ∷ lines) f is (at_first fault) = at_first (node_unlimited d ps set line k f is fault)
walk_unlimited d ps k m (set ∷ sets) (line ∷ lines) f is (behind_first {left = left} says leaves small rest) =
    behind_first says leaves tt (walk_unlimited d ps (suc k) m (left ++ sets) lines f is rest)
walk_unlimited d ps k m [] lines f is first = elim first [ ]
walk_unlimited d ps k m (set ∷ sets) [] f is first = elim first [ ]

yes_unlimited : (d : SystemData) (ps : List PairData) (ranks : List ℕ) (pairs : ℕ) (lines : List w.Node) (r : CheckFault) → IsRejection r
    → IsFirstYesFault with_limits d ps ranks pairs lines r → IsFirstYesFault without_limits d ps ranks pairs lines r
yes_unlimited d ps ranks pairs lines r is (rank_count not) = rank_count not
yes_unlimited d ps ranks pairs lines r is (inaccessible count first) = inaccessible count first
yes_unlimited d ps ranks pairs lines r is (pair_count count passing other) = pair_count count passing other
yes_unlimited d ps ranks pairs lines r is (in_node {k = k} {set = set} {f = f} count passing right whole first) =
    in_node count passing right whole (walk_unlimited d ps 0 k (set ∷ []) lines f is first)

pub rejected_unlimited : (d : SystemData) (ps : List PairData) (c : Cert) (r : Rejected)
    → IsFirstFault with_limits d ps c (check.Rejected r) → IsFirstFault without_limits d ps c (check.Rejected r)
rejected_unlimited d ps (yes version ranks pairs lines) r first = yes_unlimited d ps ranks pairs lines (check.Rejected r) tt first
rejected_unlimited d ps (no t steps at puts) r first = first
