-- What the reader of YES certificates keeps, as trees.
use Rattle.std.proofs.Common.{◌≡◌, ℕ, zero, suc, ◌+◌, ◌<◌, ◌==◌, List, [], ◌∷◌, ◌++◌, length, get_or, drop, map, Option, refl, sym, ap, ◌∙◌, arith}
use Rattle.std.proofs.lemmas.Bool.{cond-true, eq-eqb}
use Rattle.std.proofs.lemmas.List.{drop_more}
use Rattle.wh_cert.specs.Written as written
use Rattle.wh_cert.specs.Said.{said_arg, said_node}
use Rattle.wh_cert_lines.specs.OrderLines as orders
use Rattle.wh_cert_lines.specs.PolyLines.{Lines, in_funs, in_marks, in_rules, in_pairs, node_of}
use Rattle.wh_cert_machines.specs.YesMachine.{Behind, of_block, list_ended, dropped, order_dropped, word, on, gives, node_item, front, refused, spelling, word_step}
use Rattle.wh_cert_machines.specs.YesViews.{behind_of, next_block, yes_place}
use Rattle.wh_cert_machines.specs.declared.yes_line.Listed.TheVariants as listed
use Rattle.wh_cert_machines.specs.declared.yes_line.YesBehind.{YesBehind}
use Rattle.wh_cert_machines.specs.declared.yes_line.YesBehind.TheVariants as behind
use Rattle.wh_cert_lines.specs.declared.sections.Section.TheVariants as section
use Rattle.wh_cert_machines.specs.declared.yes_line.YesPlace.{YesPlace}
use Rattle.wh_cert_machines.specs.declared.yes_line.YesPlace.TheVariants as place
use Rattle.wh_cert_machines.specs.declared.yes_line.YesLine.{YesLine}
use Rattle.wh_cert.specs.declared.certificate.Arg.{Arg}
use Rattle.wh_cert.specs.declared.certificate.Node.{Node}

map_add : {X Y : Type 0} (f : X → Y) (xs : List X) (x : X) → map f (xs ++ x ∷ []) ≡ map f xs ++ f x ∷ []
map_add f [] x = refl
map_add f (y ∷ xs) x = ap (λ rest. f y ∷ rest) (map_add f xs x)

pub args_grow : (new old : List Arg) (a : Arg) → new ≡ old ++ a ∷ [] → map said_arg new ≡ map said_arg old ++ said_arg a ∷ []
args_grow new old a e = ap (map said_arg) e ∙ map_add said_arg old a

pub nodes_grow : (new old : List Node) (x : Node) → new ≡ old ++ x ∷ [] → map said_node new ≡ map said_node old ++ said_node x ∷ []
nodes_grow new old x e = ap (map said_node) e ∙ map_add said_node old x

-- the line of a block ends as what it leaves begins
pub block_ended : (left : ℕ) (parts : List (List ℕ)) (xs : List ℕ) → next_block left (parts ++ xs ∷ []) ≡ list_ended (of_block left parts) xs
block_ended zero parts xs = refl
block_ended (suc left) parts xs = refl

-- the line of `drop` ends the node of the lines before it
pub drop_ended : (usable : Option (List ℕ)) (x : Lines) (xs : List ℕ) (node : written.Node) → node ≡ node_of usable x xs → gives (node_item node) front ≡ list_ended (dropped usable x) xs
drop_ended usable (in_funs funs) xs node is = ap (λ (y : written.Node). gives (node_item y) front) is
drop_ended usable (in_marks funs marks) xs node is = ap (λ (y : written.Node). gives (node_item y) front) is
drop_ended usable (in_rules funs marks rules) xs node is = ap (λ (y : written.Node). gives (node_item y) front) is
drop_ended usable (in_pairs funs marks rules pairs) xs node is = ap (λ (y : written.Node). gives (node_item y) front) is

pub order_ended : (x : orders.Lines) (xs : List ℕ) (node : written.Node) → node ≡ orders.node_of x xs → gives (node_item node) front ≡ list_ended (order_dropped x) xs
order_ended (in_funs funs) xs node is = ap (λ (y : written.Node). gives (node_item y) front) is
order_ended (in_marks funs marks) xs node is = ap (λ (y : written.Node). gives (node_item y) front) is
order_ended (in_rules funs marks rules) xs node is = ap (λ (y : written.Node). gives (node_item y) front) is
order_ended (in_pairs funs marks rules pairs) xs node is = ap (λ (y : written.Node). gives (node_item y) front) is

-- what stands behind a word does not depend on the place
behind_same : (o : YesBehind) (l : YesLine) (p : YesPlace) → behind_of o (record { place = p; numbers = l.numbers; parts = l.parts; args = l.args; name = l.name; usable = l.usable; lines = l.lines; order = l.order }) ≡ behind_of o l
behind_same (behind.List listed.Ranks) l p = refl
behind_same (behind.List (listed.Block left)) l p = refl
behind_same (behind.List listed.Drop) l p = refl
behind_same (behind.List listed.Usable) l p = refl
behind_same (behind.List listed.Poly) l p = refl
behind_same (behind.List listed.Order) l p = refl
behind_same behind.Version l p = refl
behind_same behind.Pairs l p = refl
behind_same behind.Done l p = refl
behind_same behind.Alone l p = refl
behind_same behind.Blocks l p = refl
behind_same behind.Subterm l p = refl
behind_same behind.Name l p = refl
behind_same behind.Poly l p = refl
behind_same (behind.Line section.Funs) l p = refl
behind_same (behind.Line section.Marks) l p = refl
behind_same (behind.Line section.Rules) l p = refl
behind_same (behind.Line section.Pairs) l p = refl
behind_same behind.Order l p = refl
behind_same (behind.OrderLine section.Funs) l p = refl
behind_same (behind.OrderLine section.Marks) l p = refl
behind_same (behind.OrderLine section.Rules) l p = refl
behind_same (behind.OrderLine section.Pairs) l p = refl
behind_same behind.Finish l p = refl

-- a byte of a fixed word that goes on behind it

two_left : (x y b : ℕ) (w : List ℕ) (o : Behind) → b ≡ x → word_step (x ∷ y ∷ w) o b ≡ on (word (y ∷ w) o)
two_left x y b w o is = cond-true (b == x) (on (word (y ∷ w) o)) refused (eq-eqb b x is)

word_more : (w : List ℕ) (o : Behind) (at b : ℕ) → at + 1 < length w → b ≡ get_or w at 0 → word_step (drop at w) o b ≡ on (word (drop (at + 1) w) o)
word_more w o at b below is =
    let rest = drop_more w (at + 1) 0 below in
    let x = get_or w at 0 in
    let y = get_or w (at + 1) 0 in
    ap (λ (v : List ℕ). word_step v o b) (drop_more w at 0 (omega (arith, below)) ∙ ap (λ (v : List ℕ). x ∷ v) rest)
    ∙ two_left x y b (drop (at + 1 + 1) w) o is
    ∙ ap (λ (v : List ℕ). on (word v o)) (sym rest)

pub word_goes_on : (o : YesBehind) (l : YesLine) (at b : ℕ) (w : List ℕ) → w ≡ spelling (behind_of o l) → at + 1 < length w → b ≡ get_or w at 0 → on (yes_place (record { place = place.Word o (at + 1); numbers = l.numbers; parts = l.parts; args = l.args; name = l.name; usable = l.usable; lines = l.lines; order = l.order })) ≡ word_step (drop at (spelling (behind_of o l))) (behind_of o l) b
word_goes_on o l at b w spelled below is =
    ap (λ (r : Behind). on (word (drop (at + 1) (spelling r)) r)) (behind_same o l (place.Word o (at + 1)))
    ∙ ap (λ (v : List ℕ). on (word (drop (at + 1) v) (behind_of o l))) (sym spelled)
    ∙ sym (word_more w (behind_of o l) at b below is)
    ∙ ap (λ (v : List ℕ). word_step (drop at v) (behind_of o l) b) spelled
