-- The nodes of a certificate, one after another.
use Rattle.std.proofs.Common.{◌≡◌, ℕ, ◌+◌, ◌<◌, ◌^◌, List, [], ◌∷◌, ◌++◌, length, map, reverse, All, sym, ap, subst, arith}
use Rattle.wh_system.specs.Systems.{SystemData}
use Rattle.wh_system.specs.WellMade.{IsWellMadeSystem}
use Rattle.wh_pairs.specs.PairData.{PairData}
use Rattle.wh_pairs.specs.SystemPairs.{HasPairs}
use Rattle.wh_pairs.proofs.SetLemmas.{all_from_members}
use Rattle.wh_cert.specs.Limits.{IsCert}
use Rattle.wh_cert.specs.Written as w
use Rattle.wh_cert.specs.Written.{Cert, yes, no}
use Rattle.wh_cert.specs.Items.{Item, yes_head, node, end}
use Rattle.wh_polycheck.specs.Small.{with_limits}
use Rattle.wh_intern_pairs.specs.Numberings.{IsNumberingSoFar}
use Rattle.wh_checker.specs.Faults.{IsFirstYesFault, IsFirstFault}
use Rattle.wh_checker.specs.Walk.{HasBegun, HasCome, IsFaultInNodes}
use Rattle.wh_checker.specs.declared.checking.Accepted.TheVariants as answer
use Rattle.wh_checker.specs.declared.checking.AcceptedYes.{AcceptedYes}
use Rattle.wh_checker.specs.declared.rejected.CheckFault.{CheckFault}
use Rattle.wh_checker.proofs.Bounded.{valid_yes-bounded}
use Rattle.wh_checker.proofs.WalkLemmas.{come_first, come_last}
use Rattle.wh_checker.proofs.YesLemmas.{valid_yes, small_yes, node_fault}
use Rattle.wh_checker_walk.specs.Walking.{Leads, CanCome, HasNothing, AtNodes, IsBlamed, IsWhole}
use Rattle.wh_checker_walk.specs.declared.nodes.Nodes.{Nodes}
use Rattle.wh_checker_walk.proofs.LeftItems.{first_yes, more_nodes, no_nodes}

-- behind the ranks and the number of pairs

pub nodes_begun : (d : SystemData) (ps : List PairData) (k : Nodes) (whole : List ℕ) (version : ℕ) (ranks : List ℕ) (count : ℕ)
    → k.next ≡ 0 → k.stack.items ≡ whole ∷ [] → IsNumberingSoFar k.numbered ps → HasBegun d ps ranks count whole
    → Leads HasNothing (yes_head version ranks count) (AtNodes d ps k)
nodes_begun d ps k whole version ranks count none top numbered begun = λ c rest cert e.
    let (lines, is, left) = first_yes version ranks count c rest e in
    let (v, r, p, n, o, preorder) = (subst IsCert is cert).parts in
    let within : All (λ m. m < length ps) whole = all_from_members (λ m. m < length ps) whole (λ m found. (begun.whole.each m).0 found) in
    subst (λ x. AtNodes d ps k x rest) (sym is) (record {
      set = whole;
      begun = begun;
      left = lines;
      rest_is = left;
      count = omega (arith, none);
      come =
          subst (λ m. HasCome d ps whole lines m (reverse k.stack.items) lines) (sym none)
          (subst (λ (s : List (List ℕ)). HasCome d ps whole lines 0 (reverse s) lines) (sym top) (come_first d ps whole lines within preorder));
      numbered = numbered;
    })

pub nodes_unbegun : (d : SystemData) (ps : List PairData) (version : ℕ) (ranks : List ℕ) (count : ℕ) (f : CheckFault)
    → ((lines : List w.Node) → IsFirstYesFault with_limits d ps ranks count lines f)
    → Leads HasNothing (yes_head version ranks count) (IsBlamed d ps f)
nodes_unbegun d ps version ranks count f fault = λ c rest cert e.
    let (lines, is, left) = first_yes version ranks count c rest e in
    subst (λ x. IsFirstFault with_limits d ps x f) (sym is) (fault lines)

-- one node further

-- the walk is at this node
pub record AtNode (d : SystemData) (ps : List PairData) (k : Nodes) (x : w.Node) : Type 0 where
  pub set : List ℕ
  pub lines : List w.Node
  pub left : List w.Node
  pub come : HasCome d ps set lines k.next (reverse k.stack.items) (x ∷ left)
  pub few : k.next + 1 < 2 ^ 32
  pub numbered : IsNumberingSoFar k.numbered ps

-- the lines of a certificate at a node
at_line : (d : SystemData) (ps : List PairData) (k : Nodes) (set : List ℕ) (lines left : List w.Node) (x : w.Node) (rest : List Item)
    → HasCome d ps set lines k.next (reverse k.stack.items) left → node x ∷ rest ≡ map node left ++ end ∷ []
    → (others : List w.Node) × (left ≡ x ∷ others) × (rest ≡ map node others ++ end ∷ [])
    × HasCome d ps set lines k.next (reverse k.stack.items) (x ∷ others)
at_line d ps k set lines left x rest come e =
    let (others, is, tail) = more_nodes x rest left e in
    (others, is, tail, subst (λ l. HasCome d ps set lines k.next (reverse k.stack.items) l) is come)

pub at_node : (d : SystemData) (ps : List PairData) (k : Nodes) (x : w.Node) → CanCome (AtNodes d ps k) (node x) → AtNode d ps k x
at_node d ps k x (yes version ranks pairs lines, rest, cert, stand) =
    let (others, is, tail, come) = at_line d ps k stand.set lines stand.left x rest stand.come stand.rest_is in
    let long = ap (λ (l : List w.Node). length l) is in
    let count = stand.count in
    let few : length lines < 2 ^ 32 = cert.counts.1 in
    record { set = stand.set; lines = lines; left = others; come = come; few = omega (arith, long, count, few); numbered = stand.numbered }
at_node d ps k x (no t steps path puts, rest, cert, stand) = absurd stand

pub nodes_on : (d : SystemData) (ps : List PairData) (k after : Nodes) (x : w.Node) → after.next ≡ k.next + 1
    → IsNumberingSoFar after.numbered ps → ((set : List ℕ) (lines left : List w.Node) → HasCome d ps set lines k.next (reverse k.stack.items) (x ∷ left)
    → HasCome d ps set lines (k.next + 1) (reverse after.stack.items) left) → Leads (AtNodes d ps k) (node x) (AtNodes d ps after)
nodes_on d ps k after x next numbered on = λ c rest cert stand. go c rest stand
  where
    go : (c : Cert) (rest : List Item) → AtNodes d ps k c (node x ∷ rest) → AtNodes d ps after c rest
    go (no t steps path puts) rest stand = absurd stand
    go (yes version ranks pairs lines) rest stand =
        let (others, is, tail, come) = at_line d ps k stand.set lines stand.left x rest stand.come stand.rest_is in
        let long = ap (λ (l : List w.Node). length l) is in
        let count = stand.count in
        record {
          set = stand.set;
          begun = stand.begun;
          left = others;
          rest_is = tail;
          count = omega (arith, long, count, next);
          come =
              subst (λ m. HasCome d ps stand.set lines m (reverse after.stack.items) others) (sym next)
              (on stand.set lines others come);
          numbered = numbered;
        }

pub nodes_fault : (d : SystemData) (ps : List PairData) (k : Nodes) (x : w.Node) (f : CheckFault)
    → ((set : List ℕ) (lines left : List w.Node) → HasCome d ps set lines k.next (reverse k.stack.items) (x ∷ left)
    → IsFaultInNodes d ps set lines f) → Leads (AtNodes d ps k) (node x) (IsBlamed d ps f)
nodes_fault d ps k x f fault = λ c rest cert stand. go c rest stand
  where
    go : (c : Cert) (rest : List Item) → AtNodes d ps k c (node x ∷ rest) → IsFirstFault with_limits d ps c f
    go (no t steps path puts) rest stand = absurd stand
    go (yes version ranks pairs lines) rest stand =
        let (others, is, tail, come) = at_line d ps k stand.set lines stand.left x rest stand.come stand.rest_is in
        node_fault d ps ranks pairs lines stand.set stand.begun f (fault stand.set lines others come)

-- at the end

pub nodes_whole : (d : SystemData) (ps : List PairData) (k : Nodes) (a : AcceptedYes) → IsWellMadeSystem d → HasPairs d ps
    → a.nodes ≡ k.next → Leads (AtNodes d ps k) end (IsWhole d ps (answer.Yes a))
nodes_whole d ps k a made has number = λ c rest cert stand. go c rest stand
  where
    go : (c : Cert) (rest : List Item) → AtNodes d ps k c (end ∷ rest) → IsWhole d ps (answer.Yes a) c rest
    go (no t steps path puts) rest stand = absurd stand
    go (yes version ranks pairs lines) rest stand =
        let (over, tail) = no_nodes rest stand.left stand.rest_is in
        let come = subst (λ l. HasCome d ps stand.set lines k.next (reverse k.stack.items) l) over stand.come in
        let proved = come_last d ps stand.set lines k.next (reverse k.stack.items) come in
        let valid = valid_yes d ps ranks pairs lines stand.set stand.begun proved in
        let long = ap (λ (l : List w.Node). length l) over in
        let count = stand.count in (
          tail,
          record {
            accepted = (valid, omega (arith, long, count, number));
            small = small_yes d ps lines stand.set stand.begun.whole proved;
            meaning = valid_yes-bounded d ps ranks pairs lines made has valid;
          },
        )
