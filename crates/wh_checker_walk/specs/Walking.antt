-- The state of a check that gets a certificate item by item, and what it says of all certificates that go on so (ours).
use Rattle.std.specs.Prelude.{ℕ, ◌≡◌, ◌+◌, List, [], ◌∷◌, ◌++◌, length, map, reverse, Result, Ok, Err}
use Rattle.wh_terms.specs.Erase.{tm}
use Rattle.wh_terms.specs.declared.path.Step as taken
use Rattle.wh_text.specs.RawTree.{RTm}
use Rattle.wh_step.specs.Replay.{Replays}
use Rattle.wh_system.specs.Systems.{SystemData}
use Rattle.wh_system_making.specs.TablesOf.{AreTablesOf}
use Rattle.wh_pairs.specs.PairData.{PairData}
use Rattle.wh_cert.specs.Limits.{IsCert}
use Rattle.wh_cert.specs.Written as w
use Rattle.wh_cert.specs.Written.{Cert, yes, no}
use Rattle.wh_cert.specs.Items.{Item, node, step, at, put, end, items}
use Rattle.wh_polycheck.specs.Small.{with_limits}
use Rattle.wh_intern_pairs.specs.Numberings.{IsNumberingSoFar}
use Rattle.wh_proof.specs.Valid.{IsSmallCert}
use Rattle.wh_no.specs.declared.fault.NoFault.{NoFault}
use Rattle.wh_no.specs.Entry.{entry_puts}
use Rattle.wh_no.specs.Faults.{IsTermFor, Arrive, AreRightTo}
use Rattle.wh_no.specs.Faults as claims
use Rattle.wh_checker.specs.Accepted.{IsAccepted, IsMeant}
use Rattle.wh_checker.specs.Faults.{IsFirstFault}
use Rattle.wh_checker.specs.Walk.{HasBegun, HasCome}
use Rattle.wh_checker.specs.declared.checking.Accepted.{Accepted}
use Rattle.wh_checker.specs.declared.rejected.CheckFault.{CheckFault}
use Rattle.wh_checker_walk.specs.declared.nodes.Nodes.{Nodes}
use Rattle.wh_checker_walk.specs.declared.steps.Steps.{Steps}
use Rattle.wh_checker_walk.specs.declared.puts.Puts.{Puts}

-- a property of a certificate of which these items are left
abbrev pub State : Type 1
State = Cert → List Item → Type 0

-- where P holds before the item, Q holds behind it
abbrev pub Leads : State → Item → State → Type 0
Leads P i Q = (c : Cert) (rest : List Item) → IsCert c → P c (i ∷ rest) → Q c rest

-- where P holds, Q does
abbrev pub Stays : State → State → Type 0
Stays P Q = (c : Cert) (rest : List Item) → IsCert c → P c rest → Q c rest

-- P holds of a certificate in which the item is the next
abbrev pub CanCome : State → Item → Type 0
CanCome P i = (c : Cert) × (rest : List Item) × IsCert c × P c (i ∷ rest)

-- P holds of a certificate
abbrev pub CanStand : State → Type 0
CanStand P = (c : Cert) × (rest : List Item) × IsCert c × P c rest

-- no item has come
abbrev pub HasNothing : State
HasNothing c rest = rest ≡ items c

-- the certificate is accepted: it is valid, no value exceeds a limit, and this is what the answer means
pub record Accepts (d : SystemData) (ps : List PairData) (c : Cert) (a : Accepted) : Type 0 where
  pub accepted : IsAccepted d ps c a
  pub small : IsSmallCert d ps c
  pub meaning : IsMeant d c a

-- the answer of a check: the certificate is accepted, or this is its first fault
abbrev pub Answers : SystemData → List PairData → Cert → Result Accepted CheckFault → Type 0
Answers d ps c (Ok a) = Accepts d ps c a
Answers d ps c (Err f) = IsFirstFault with_limits d ps c f

-- all items have come, and the certificate is accepted
abbrev pub IsWhole : SystemData → List PairData → Accepted → State
IsWhole d ps a c rest = (rest ≡ []) × Accepts d ps c a

-- the fault is the first, whatever comes
abbrev pub IsBlamed : SystemData → List PairData → CheckFault → State
IsBlamed d ps f c rest = IsFirstFault with_limits d ps c f

-- the fault of a NO certificate is the first, whatever comes
abbrev pub IsRefused : SystemData → NoFault → State
IsRefused d f c rest = claims.IsFirstFault d c f

-- the nodes so far had no fault: the sets on the stack are open, and these nodes are left
pub record NodesCome (d : SystemData) (ps : List PairData) (k : Nodes) (ranks : List ℕ) (pairs : ℕ) (lines : List w.Node)
    (rest : List Item) : Type 0 where
  pub set : List ℕ
  pub begun : HasBegun d ps ranks pairs set
  pub left : List w.Node
  pub rest_is : rest ≡ map node left ++ end ∷ []
  pub count : k.next + length left ≡ length lines
  pub come : HasCome d ps set lines k.next (reverse k.stack.items) left
  pub numbered : IsNumberingSoFar k.numbered ps

abbrev pub AtNodes : SystemData → List PairData → Nodes → State
AtNodes d ps k (yes version ranks pairs lines) rest = NodesCome d ps k ranks pairs lines rest
AtNodes d ps k (no raw steps path puts) rest = ⊥

-- the items behind the steps
abbrev pub behind_steps : List ℕ → List w.Put → List Item
behind_steps path puts = at path ∷ (map put puts ++ end ∷ [])

-- the steps so far had no fault, but that those which wait are not gone over: the others lead to the last term, and
-- these steps are left
pub record StepsCome (d : SystemData) (k : Steps) (raw : RTm) (steps : List taken.Step) (path : List ℕ) (puts : List w.Put)
    (rest : List Item) : Type 0 where
  pub tables : AreTablesOf d k.names
  pub term : IsTermFor d raw (tm k.term)
  pub gone : List taken.Step
  pub left : List taken.Step
  pub all : steps ≡ gone ++ (k.waiting.items ++ left)
  pub rest_is : rest ≡ map step left ++ behind_steps path puts
  pub count : k.taken ≡ length gone
  pub leads : Replays d.rules gone (tm k.term) (tm k.last)

abbrev pub AtSteps : SystemData → Steps → State
AtSteps d k (no raw steps path puts) rest = StepsCome d k raw steps path puts rest
AtSteps d k (yes version ranks pairs lines) rest = ⊥

-- the lines so far are right, and these are left
pub record PutsCome (d : SystemData) (k : Puts) (raw : RTm) (steps : List taken.Step) (path : List ℕ) (puts : List w.Put)
    (rest : List Item) : Type 0 where
  pub tables : AreTablesOf d k.steps.value.names
  pub term : IsTermFor d raw (tm k.steps.value.term)
  pub arrive : Arrive d.rules steps (tm k.steps.value.term) (tm k.steps.value.last)
  pub count : k.steps.value.taken ≡ length steps
  pub place : k.at ≡ path
  pub gone : List w.Put
  pub left : List w.Put
  pub all : puts ≡ gone ++ left
  pub rest_is : rest ≡ map put left ++ end ∷ []
  pub entries : length k.entries.items ≡ length gone
  pub right : AreRightTo d puts (length gone) (entry_puts k.entries.items)

abbrev pub AtPuts : SystemData → Puts → State
AtPuts d k (no raw steps path puts) rest = PutsCome d k raw steps path puts rest
AtPuts d k (yes version ranks pairs lines) rest = ⊥
