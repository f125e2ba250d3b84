-- Which items can come next.
use Rattle.std.proofs.Common.{◌≡◌, Box, Global, ℕ, List, [], ◌∷◌, ◌++◌, map, refl, sym, subst}
use Rattle.wh_terms.specs.declared.path.Step as taken
use Rattle.wh_text.specs.declared.raw.RawTerm.{RawTerm}
use Rattle.wh_system.specs.Systems.{SystemData}
use Rattle.wh_pairs.specs.PairData.{PairData}
use Rattle.wh_cert.specs.Written as w
use Rattle.wh_cert.specs.Written.{Cert, yes, no}
use Rattle.wh_cert.specs.Items.{Item, yes_head, node, no_head, step, at, put, end, items}
use Rattle.wh_cert.specs.Said.{said_item}
use Rattle.wh_cert.specs.declared.certificate.Node.{Node}
use Rattle.wh_cert.specs.declared.certificate.Put.{Put}
use Rattle.wh_cert.specs.declared.item.Item as code
use Rattle.wh_cert.specs.declared.item.Item.TheVariants as item
use Rattle.wh_checker_walk.specs.Walking.{CanCome, HasNothing, AtNodes, AtSteps, AtPuts, behind_steps}
use Rattle.wh_checker_walk.specs.declared.nodes.Nodes.{Nodes}
use Rattle.wh_checker_walk.specs.declared.steps.Steps.{Steps}
use Rattle.wh_checker_walk.specs.declared.puts.Puts.{Puts}

-- the first item of a certificate

abbrev IsHead : Item → Type 0
IsHead (yes_head version ranks pairs) = Unit {0}
IsHead (no_head t) = Unit {0}
IsHead _ = ⊥

head_first : (i : Item) (c : Cert) (rest : List Item) → i ∷ rest ≡ items c → IsHead i
head_first i (yes version ranks pairs lines) rest e =
    let f : i ∷ rest ≡ yes_head version ranks pairs ∷ (map node lines ++ end ∷ []) = e in
    let same : i ≡ yes_head version ranks pairs = cc in subst IsHead (sym same) tt
head_first i (no t steps path puts) rest e =
    let f : i ∷ rest ≡ no_head t ∷ (map step steps ++ behind_steps path puts) = e in
    let same : i ≡ no_head t = cc in subst IsHead (sym same) tt

pub no_other_first : (i : code.Item) → ((version : ℕ) (ranks : List ℕ) (pairs : ℕ) → i ≡ item.YesHead version ranks pairs → ⊥)
    → ((t : Box RawTerm Global) → i ≡ item.NoHead t → ⊥) → CanCome HasNothing (said_item i) → ⊥
no_other_first i not_yes not_no (c, rest, cert, e) = go i not_yes not_no (head_first (said_item i) c rest e)
  where
    go : (i : code.Item) → ((version : ℕ) (ranks : List ℕ) (pairs : ℕ) → i ≡ item.YesHead version ranks pairs → ⊥)
        → ((t : Box RawTerm Global) → i ≡ item.NoHead t → ⊥) → IsHead (said_item i) → ⊥
    go (item.YesHead version ranks pairs) not_yes not_no is = not_yes version ranks pairs refl
    go (item.NoHead t) not_yes not_no is = not_no t refl
    go (item.Node x) not_yes not_no is = is
    go (item.Step s) not_yes not_no is = is
    go (item.At path) not_yes not_no is = is
    go (item.Put p) not_yes not_no is = is
    go item.End not_yes not_no is = is

-- at the nodes

abbrev IsOfNodes : Item → Type 0
IsOfNodes (node x) = Unit {0}
IsOfNodes end = Unit {0}
IsOfNodes _ = ⊥

of_nodes : (i : Item) (rest : List Item) (left : List w.Node) → i ∷ rest ≡ map node left ++ end ∷ [] → IsOfNodes i
of_nodes i rest [] e =
    let f : i ∷ rest ≡ end ∷ [] = e in
    let same : i ≡ end = cc in subst IsOfNodes (sym same) tt
of_nodes i rest (x ∷ left) e =
    let f : i ∷ rest ≡ node x ∷ (map node left ++ end ∷ []) = e in
    let same : i ≡ node x = cc in subst IsOfNodes (sym same) tt

pub no_other_node : (d : SystemData) (ps : List PairData) (k : Nodes) (i : code.Item) → ((x : Box Node Global) → i ≡ item.Node x → ⊥)
    → (i ≡ item.End → ⊥) → CanCome (AtNodes d ps k) (said_item i) → ⊥
no_other_node d ps k i not_node not_end (no t steps path puts, rest, cert, stand) = absurd stand
no_other_node d ps k i not_node not_end (yes version ranks pairs lines, rest, cert, stand) =
    go i not_node not_end (of_nodes (said_item i) rest stand.left stand.rest_is)
  where
    go : (i : code.Item) → ((x : Box Node Global) → i ≡ item.Node x → ⊥) → (i ≡ item.End → ⊥) → IsOfNodes (said_item i) → ⊥
    go (item.YesHead version ranks pairs) not_node not_end is = is
    go (item.NoHead t) not_node not_end is = is
    go (item.Node x) not_node not_end is = not_node x refl
    go (item.Step s) not_node not_end is = is
    go (item.At path) not_node not_end is = is
    go (item.Put p) not_node not_end is = is
    go item.End not_node not_end is = not_end refl

-- at the steps

abbrev IsOfSteps : Item → Type 0
IsOfSteps (step s) = Unit {0}
IsOfSteps (at path) = Unit {0}
IsOfSteps _ = ⊥

of_steps : (i : Item) (rest : List Item) (left : List taken.Step) (path : List ℕ) (puts : List w.Put)
    → i ∷ rest ≡ map step left ++ behind_steps path puts → IsOfSteps i
of_steps i rest [] path puts e =
    let f : i ∷ rest ≡ at path ∷ (map put puts ++ end ∷ []) = e in
    let same : i ≡ at path = cc in subst IsOfSteps (sym same) tt
of_steps i rest (s ∷ left) path puts e =
    let f : i ∷ rest ≡ step s ∷ (map step left ++ behind_steps path puts) = e in
    let same : i ≡ step s = cc in subst IsOfSteps (sym same) tt

pub no_other_step : (d : SystemData) (k : Steps) (i : code.Item) → ((s : taken.Step) → i ≡ item.Step s → ⊥)
    → ((path : List ℕ) → i ≡ item.At path → ⊥) → CanCome (AtSteps d k) (said_item i) → ⊥
no_other_step d k i not_step not_at (yes version ranks pairs lines, rest, cert, stand) = absurd stand
no_other_step d k i not_step not_at (no t steps path puts, rest, cert, stand) =
    go i not_step not_at (of_steps (said_item i) rest stand.left path puts stand.rest_is)
  where
    go : (i : code.Item) → ((s : taken.Step) → i ≡ item.Step s → ⊥) → ((path : List ℕ) → i ≡ item.At path → ⊥) → IsOfSteps (said_item i) → ⊥
    go (item.YesHead version ranks pairs) not_step not_at is = is
    go (item.NoHead t) not_step not_at is = is
    go (item.Node x) not_step not_at is = is
    go (item.Step s) not_step not_at is = not_step s refl
    go (item.At path) not_step not_at is = not_at path refl
    go (item.Put p) not_step not_at is = is
    go item.End not_step not_at is = is

-- at what is put for variables

abbrev IsOfPuts : Item → Type 0
IsOfPuts (put p) = Unit {0}
IsOfPuts end = Unit {0}
IsOfPuts _ = ⊥

of_puts : (i : Item) (rest : List Item) (left : List w.Put) → i ∷ rest ≡ map put left ++ end ∷ [] → IsOfPuts i
of_puts i rest [] e =
    let f : i ∷ rest ≡ end ∷ [] = e in
    let same : i ≡ end = cc in subst IsOfPuts (sym same) tt
of_puts i rest (p ∷ left) e =
    let f : i ∷ rest ≡ put p ∷ (map put left ++ end ∷ []) = e in
    let same : i ≡ put p = cc in subst IsOfPuts (sym same) tt

pub no_other_put : (d : SystemData) (k : Puts) (i : code.Item) → ((p : Box Put Global) → i ≡ item.Put p → ⊥)
    → (i ≡ item.End → ⊥) → CanCome (AtPuts d k) (said_item i) → ⊥
no_other_put d k i not_put not_end (yes version ranks pairs lines, rest, cert, stand) = absurd stand
no_other_put d k i not_put not_end (no t steps path puts, rest, cert, stand) =
    go i not_put not_end (of_puts (said_item i) rest stand.left stand.rest_is)
  where
    go : (i : code.Item) → ((p : Box Put Global) → i ≡ item.Put p → ⊥) → (i ≡ item.End → ⊥) → IsOfPuts (said_item i) → ⊥
    go (item.YesHead version ranks pairs) not_put not_end is = is
    go (item.NoHead t) not_put not_end is = is
    go (item.Node x) not_put not_end is = is
    go (item.Step s) not_put not_end is = is
    go (item.At path) not_put not_end is = is
    go (item.Put p) not_put not_end is = not_put p refl
    go item.End not_put not_end is = not_end refl
