-- The items that were handed out are those whose last line feed was read.
use Rattle.std.proofs.Common.{◌≡◌, ℕ, zero, suc, ◌+◌, ◌-◌, List, [], ◌∷◌, ◌++◌, length, map, codes, refl, sym, ap, ◌∙◌, subst, arith, append_assoc, append-nil}
use Rattle.std.specs.List.{All}
use Rattle.std.specs.Option.{option_to_list}
use Rattle.std.specs.Fmt.{decimal}
use Rattle.std.proofs.lemmas.List.Elements.{All-head, All-tail}
use Rattle.std.proofs.lemmas.List.{append_cancel_left, length-append, map_push}
use Rattle.wh_terms.specs.Places.{IsPath}
use Rattle.wh_terms.specs.declared.path.Step as taken
use Rattle.wh_text.specs.RawTree.{RTm}
use Rattle.wh_cert.specs.TermLimits.{IsSmall}
use Rattle.wh_cert.specs.Written.{Put, Node, children, Preorder, Cert, yes, no}
use Rattle.wh_cert.specs.Items.{Item, yes_head, node, no_head, step, at, put, end, items}
use Rattle.wh_cert.specs.Text.{put_steps, put_puts, put_numbers, put_nodes}
use Rattle.wh_cert.specs.Limits.{StepFits, PutFits, NodeFits, IsVersion, IsOfVersion, PartsFit}
use Rattle.wh_cert.specs.CertText.{CertText, Begins}
use Rattle.wh_cert_machines.specs.LineMachine as m
use Rattle.wh_cert_machines.specs.LineMachine.{LinePlace, finished, Past, nothing, begun, placed, Standing, unread, stands, stands_yes, wrong, take_byte, run, start}
use Rattle.wh_cert_machines.specs.YesMachine as y
use Rattle.wh_cert_text.specs.ReadEnd.{IsEnd}
use Rattle.wh_cert_text.specs.Handing.{handed}
use Rattle.wh_cert_text.specs.ItemsRead.{put_items, WholeItems, ItemsIn}
use Rattle.wh_cert_text.proofs.LineSound as n
use Rattle.wh_cert_text.proofs.YesSound as s
use Rattle.wh_cert_text.proofs.YesReached as r
use Rattle.wh_cert_text.proofs.Ended.{run_wrong, run_append}
use Rattle.wh_cert_text.proofs.Reached.{Good, StandsGood, reached}
use Rattle.wh_cert_text.proofs.LineComplete.{head_run, step_run, at_path_run, put_run}
use Rattle.wh_cert_text.proofs.YesComplete.{version_run, numbers_run, counted_run, node_run, wants_some}
use Rattle.wh_cert_text.proofs.Whole.{text_run}
use Rattle.wh_cert_text.proofs.ItemsHanded.{no_items, yes_items, items_of, byte_next}

-- what comes behind more bytes

never_wrong : (p q : List ℕ) → (run start (p ++ q) ≡ wrong → ⊥) → run start p ≡ wrong → ⊥
never_wrong p q goes e =
    goes (run_append start p q ∙ ap (λ (x : Standing). run x q) e ∙ run_wrong q)

pub next_items : (p : List ℕ) (b : ℕ) → (run start (p ++ b ∷ []) ≡ wrong → ⊥) → items_of (run start (p ++ b ∷ [])) ≡ items_of (run start p) ++ option_to_list (handed (run start p) b)
next_items p b goes =
    let one : run start (p ++ b ∷ []) ≡ take_byte (run start p) b = run_append start p (b ∷ []) in
    ap items_of one ∙ byte_next p (run start p) b refl (λ e. goes (one ∙ e))

later_items : (p q : List ℕ) → (run start (p ++ q) ≡ wrong → ⊥) → (more : List Item) × (items_of (run start (p ++ q)) ≡ items_of (run start p) ++ more)
later_items p [] goes = ([], ap (λ (v : List ℕ). items_of (run start v)) (append-nil p) ∙ sym (append-nil (items_of (run start p))))
later_items p (b ∷ q) goes =
    let same : (p ++ b ∷ []) ++ q ≡ p ++ b ∷ q = append_assoc p (b ∷ []) q in
    let goes_on : run start ((p ++ b ∷ []) ++ q) ≡ wrong → ⊥ = λ e. goes (ap (run start) (sym same) ∙ e) in
    let rest = later_items (p ++ b ∷ []) q goes_on in (
      option_to_list (handed (run start p) b) ++ rest.0,
      ap (λ (v : List ℕ). items_of (run start v)) (sym same) ∙ rest.1
          ∙ ap (λ (v : List Item). v ++ rest.0) (next_items p b (never_wrong (p ++ b ∷ []) q goes_on))
          ∙ append_assoc (items_of (run start p)) (option_to_list (handed (run start p) b)) rest.0,
    )

end_items : (x : Standing) (c : Cert) → IsEnd x c → items_of x ≡ items c
end_items x (no t steps path puts) e = ap items_of e
end_items x (yes version ranks pairs nodes) e =
    ap items_of e

end_goes : (x : Standing) (c : Cert) → IsEnd x c → x ≡ wrong → ⊥
end_goes x (no t steps path puts) e w = (let both = sym e ∙ w in absurd cc)
end_goes x (yes version ranks pairs nodes) e w = (let both = sym e ∙ w in absurd cc)

-- the items are the front of those of each certificate that goes on so
front_items : (p r : List ℕ) (c : Cert) → CertText (p ++ r) c → (rest : List Item) × (items c ≡ items_of (run start p) ++ rest)
front_items p r c t =
    let ends = text_run (p ++ r) c t in
    let later = later_items p r (end_goes (run start (p ++ r)) c ends) in
    (later.0, sym (end_items (run start (p ++ r)) c ends) ∙ later.1)

-- the bytes begin with the lines of the items

steps_text : (steps : List taken.Step) (xs : List Item) (q : List ℕ) → put_items (map step steps ++ xs) q ≡ put_steps steps (put_items xs q)
steps_text [] xs q = refl
steps_text (x ∷ steps) xs q = ap (λ (v : List ℕ). put_items (step x ∷ []) v) (steps_text steps xs q)

puts_text : (puts : List Put) (xs : List Item) (q : List ℕ) → put_items (map put puts ++ xs) q ≡ put_puts puts (put_items xs q)
puts_text [] xs q = refl
puts_text (x ∷ puts) xs q = ap (λ (v : List ℕ). put_items (put x ∷ []) v) (puts_text puts xs q)

nodes_text : (nodes : List Node) (xs : List Item) (q : List ℕ) → put_items (map node nodes ++ xs) q ≡ put_nodes nodes (put_items xs q)
nodes_text [] xs q = refl
nodes_text (x ∷ nodes) xs q = ap (λ (v : List ℕ). put_items (node x ∷ []) v) (nodes_text nodes xs q)

steps_alone : (steps : List taken.Step) (q : List ℕ) → put_items (map step steps) q ≡ put_steps steps q
steps_alone steps q = ap (λ (v : List Item). put_items v q) (sym (append-nil (map step steps))) ∙ steps_text steps [] q

placed_text : (t : RTm) (steps : List taken.Step) (path : List ℕ) (puts : List Put) (xs : List Item) (q : List ℕ)
    → put_items (no_head t ∷ (map step steps ++ at path ∷ (map put puts ++ xs))) q ≡ n.past_text (placed t steps path puts) (put_items xs q)
placed_text t steps path puts xs q =
    ap (λ (v : List ℕ). put_items (no_head t ∷ []) v)
    (steps_text steps (at path ∷ (map put puts ++ xs)) q ∙ ap (λ (v : List ℕ). put_steps steps (put_items (at path ∷ []) v)) (puts_text puts xs q))

head_text : (version : ℕ) (ranks : List ℕ) (pairs k : ℕ) (nodes : List Node) (xs : List Item) (q : List ℕ)
    → put_items (yes_head version ranks pairs ∷ (map node nodes ++ xs)) q ≡ r.past_text s.third (y.so_far version ranks pairs nodes k) (put_items xs q)
head_text version ranks pairs k nodes xs q =
    ap (λ (v : List ℕ). put_items (yes_head version ranks pairs ∷ []) v) (nodes_text nodes xs q)

no_begun : (k : ℕ) (h : Past) (p : LinePlace) (f : List ℕ → List ℕ) → Good k h p f → (q : List ℕ) × (put_items (no_items h p) q ≡ f [])
no_begun k nothing p f g = (f [], refl)
no_begun k (begun t steps) p f g =
    (g.line [], ap (λ (v : List ℕ). put_items (no_head t ∷ []) v) (steps_alone steps (g.line [])) ∙ g.spelled [])
no_begun k (placed t steps path puts) finished f g =
    ([], placed_text t steps path puts (end ∷ []) [] ∙ ap (n.past_text (placed t steps path puts)) (g.reads []) ∙ g.spelled [])
no_begun k (placed t steps path puts) p f g = (g.line [], placed_text t steps path puts [] (g.line []) ∙ g.spelled [])

yes_begun : (k : ℕ) (h : y.Past) (p : y.Place) (f : List ℕ → List ℕ) (x : s.Stage) → s.stage p ≡ x → r.Good k h p f → (q : List ℕ) × (put_items (yes_items x h p) q ≡ f [])
yes_begun k h p f s.opening e g = (f [], refl)
yes_begun k h p f s.first e g = (f [], refl)
yes_begun k h p f s.second e g = (f [], refl)
yes_begun k (y.so_far version ranks pairs nodes w) y.finished f s.third e g =
    ([], head_text version ranks pairs w nodes (end ∷ []) [] ∙ ap (r.past_text s.third (y.so_far version ranks pairs nodes w)) (g.reads []) ∙ g.spelled [])
yes_begun k (y.so_far version ranks pairs nodes w) p f s.third e g =
    (g.line [], head_text version ranks pairs w nodes [] (g.line []) ∙ ap (λ (v : s.Stage). r.past_text v (y.so_far version ranks pairs nodes w) (g.line [])) (sym e) ∙ g.spelled [])

begun_with : (k : ℕ) (x : Standing) (f : List ℕ → List ℕ) → StandsGood k x f → (q : List ℕ) × (put_items (items_of x) q ≡ f [])
begun_with k unread f g = (f [], refl)
begun_with k (stands h p) f g = no_begun k h p f g
begun_with k (stands_yes h p) f g = yes_begun k h p f (s.stage p) refl g
begun_with k wrong f g = (f [], refl)

begun_items : (p : List ℕ) → (q : List ℕ) × (p ≡ put_items (items_of (run start p)) q)
begun_items p =
    let g = begun_with (length p) (run start p) (λ r. p ++ r) (reached p) in
    (g.0, sym (append-nil p) ∙ sym g.1)

-- the lines of items lead to a place behind these items

pub record Leads (x : Standing) (is : List Item) (all : List Item) : Type 0 where
  pub there : Standing
  pub leads : (q : List ℕ) → run x (put_items is q) ≡ run there q
  pub out : items_of there ≡ all

more_leads : (x u : Standing) (i : Item) (is : List Item) (all : List Item) → ((q : List ℕ) → run x (put_items (i ∷ []) q) ≡ run u q) → Leads u is all → Leads x (i ∷ is) all
more_leads x u i is all one rest =
    record { there = rest.there; leads = λ q. one (put_items is q) ∙ rest.leads q; out = rest.out }

out_same : (x : Standing) (is all other : List Item) → all ≡ other → Leads x is all → Leads x is other
out_same x is all other e h = record { there = h.there; leads = h.leads; out = h.out ∙ e }

-- a list that goes on as another one begins with its first item
first_of : (i j : Item) (is xs ys : List Item) → i ∷ (is ++ xs) ≡ j ∷ ys → (i ≡ j) × (is ++ xs ≡ ys)
first_of i j is xs ys e = (let one : i ≡ j = cc in let rest : is ++ xs ≡ ys = cc in (one, rest))

none_of : (is xs : List Item) → is ++ xs ≡ [] → is ≡ []
none_of [] xs e = refl
none_of (i ∷ is) xs e = absurd cc

-- one more at the end, and what comes behind it
pushed : {X : Type 0} (f : X → Item) (xs : List X) (x : X) (is : List Item) → map f (xs ++ x ∷ []) ++ is ≡ map f xs ++ f x ∷ is
pushed f xs x is = ap (λ (v : List Item). v ++ is) (map_push f xs x) ∙ append_assoc (map f xs) (f x ∷ []) is

puts_lead : (t : RTm) (steps : List taken.Step) (path : List ℕ) (done puts : List Put) (is rest : List Item) → All PutFits puts → is ++ rest ≡ map put puts ++ end ∷ []
    → Leads (stands (placed t steps path done) m.later_line) is (no_head t ∷ (map step steps ++ at path ∷ (map put done ++ is)))
puts_lead t steps path done puts [] rest fits e = record { there = stands (placed t steps path done) m.later_line; leads = λ q. refl; out = refl }
puts_lead t steps path done [] (i ∷ is) rest fits e =
    let f = first_of i end is rest [] e in
    let last : end ∷ [] ≡ i ∷ is = ap (λ (v : Item). v ∷ []) (sym f.0) ∙ ap (λ (v : List Item). i ∷ v) (sym (none_of is rest f.1)) in
    subst (λ (v : List Item). Leads (stands (placed t steps path done) m.later_line) v (no_head t ∷ (map step steps ++ at path ∷ (map put done ++ v)))) last
    (record { there = stands (placed t steps path done) finished; leads = λ q. refl; out = refl })
puts_lead t steps path done (p ∷ puts) (i ∷ is) rest fits e =
    let f = first_of i (put p) is rest (map put puts ++ end ∷ []) e in
    let on = puts_lead t steps path (done ++ p ∷ []) puts is rest (All-tail PutFits p puts fits) f.1 in
    subst (λ (v : Item). Leads (stands (placed t steps path done) m.later_line) (v ∷ is) (no_head t ∷ (map step steps ++ at path ∷ (map put done ++ v ∷ is)))) (sym f.0)
    (more_leads (stands (placed t steps path done) m.later_line) (stands (placed t steps path (done ++ p ∷ [])) m.later_line) (put p) is _
    (λ q. put_run (placed t steps path done) p q (All-head PutFits p puts fits))
    (out_same _ is _ _ (ap (λ (v : List Item). no_head t ∷ (map step steps ++ at path ∷ v)) (pushed put done p is)) on))

steps_lead : (t : RTm) (done steps : List taken.Step) (path : List ℕ) (puts : List Put) (is rest : List Item) → All StepFits steps → IsPath path → All PutFits puts
    → is ++ rest ≡ map step steps ++ at path ∷ (map put puts ++ end ∷ []) → Leads (stands (begun t done) m.line) is (no_head t ∷ (map step done ++ is))
steps_lead t done steps path puts [] rest fits is_path put_fits e =
    record { there = stands (begun t done) m.line; leads = λ q. refl; out = ap (λ (v : List Item). no_head t ∷ v) (sym (append-nil (map step done))) }
steps_lead t done [] path puts (i ∷ is) rest fits is_path put_fits e =
    let f = first_of i (at path) is rest (map put puts ++ end ∷ []) e in
    subst (λ (v : Item). Leads (stands (begun t done) m.line) (v ∷ is) (no_head t ∷ (map step done ++ v ∷ is))) (sym f.0)
    (more_leads (stands (begun t done) m.line) (stands (placed t done path []) m.later_line) (at path) is _
    (λ q. at_path_run (begun t done) [] path q is_path)
    (puts_lead t done path [] puts is rest put_fits f.1))
steps_lead t done (x ∷ steps) path puts (i ∷ is) rest fits is_path put_fits e =
    let f = first_of i (step x) is rest (map step steps ++ at path ∷ (map put puts ++ end ∷ [])) e in
    let on = steps_lead t (done ++ x ∷ []) steps path puts is rest (All-tail StepFits x steps fits) is_path put_fits f.1 in
    subst (λ (v : Item). Leads (stands (begun t done) m.line) (v ∷ is) (no_head t ∷ (map step done ++ v ∷ is))) (sym f.0)
    (more_leads (stands (begun t done) m.line) (stands (begun t (done ++ x ∷ [])) m.line) (step x) is _
    (λ q. step_run (begun t done) x q (All-head StepFits x steps fits))
    (out_same _ is _ _ (ap (λ (v : List Item). no_head t ∷ v) (pushed step done x is)) on))

nodes_lead : (version : ℕ) (ranks : List ℕ) (pairs k : ℕ) (done nodes : List Node) (is rest : List Item) → All NodeFits nodes → All (IsOfVersion version) nodes → Preorder k nodes
    → is ++ rest ≡ map node nodes ++ end ∷ [] → Leads (stands_yes (y.so_far version ranks pairs done k) y.front) is (yes_head version ranks pairs ∷ (map node done ++ is))
nodes_lead version ranks pairs k done nodes [] rest fits v order e =
    record { there = stands_yes (y.so_far version ranks pairs done k) y.front; leads = λ q. refl; out = refl }
nodes_lead version ranks pairs zero done [] (i ∷ is) rest fits v order e =
    let f = first_of i end is rest [] e in
    let last : end ∷ [] ≡ i ∷ is = ap (λ (v : Item). v ∷ []) (sym f.0) ∙ ap (λ (v : List Item). i ∷ v) (sym (none_of is rest f.1)) in
    subst (λ (v : List Item). Leads (stands_yes (y.so_far version ranks pairs done 0) y.front) v (yes_head version ranks pairs ∷ (map node done ++ v))) last
    (record { there = stands_yes (y.so_far version ranks pairs done 0) y.finished; leads = λ q. refl; out = refl })
nodes_lead version ranks pairs (suc k) done [] (i ∷ is) rest fits v order e = absurd order
nodes_lead version ranks pairs zero done (x ∷ nodes) (i ∷ is) rest fits v order e = absurd order
nodes_lead version ranks pairs (suc k) done (x ∷ nodes) (i ∷ is) rest fits v order e =
    let f = first_of i (node x) is rest (map node nodes ++ end ∷ []) e in
    let less : children x + k ≡ children x + (suc k - 1) = omega arith in
    let on = nodes_lead version ranks pairs (children x + k) (done ++ x ∷ []) nodes is rest (All-tail NodeFits x nodes fits) (All-tail (IsOfVersion version) x nodes v) order f.1 in
    let there = subst (λ (j : ℕ). Leads (stands_yes (y.so_far version ranks pairs (done ++ x ∷ []) j) y.front) is (yes_head version ranks pairs ∷ (map node (done ++ x ∷ []) ++ is))) less on in
    subst (λ (v : Item). Leads (stands_yes (y.so_far version ranks pairs done (suc k)) y.front) (v ∷ is) (yes_head version ranks pairs ∷ (map node done ++ v ∷ is))) (sym f.0)
    (more_leads (stands_yes (y.so_far version ranks pairs done (suc k)) y.front) (stands_yes (y.so_far version ranks pairs (done ++ x ∷ []) (children x + (suc k - 1))) y.front) (node x) is _
    (λ q. node_run (y.so_far version ranks pairs done (suc k)) x q (All-head NodeFits x nodes fits) (All-head (IsOfVersion version) x nodes v) (wants_some (suc k) (omega arith)))
    (out_same _ is _ _ (ap (λ (v : List Item). yes_head version ranks pairs ∷ v) (pushed node done x is)) there))

-- the head of a YES certificate
head_leads : (version : ℕ) (ranks : List ℕ) (pairs : ℕ) (q : List ℕ) → IsVersion version → All IsSmall ranks → IsSmall pairs → run start (put_items (yes_head version ranks pairs ∷ []) q) ≡ run (stands_yes (y.so_far version ranks pairs [] 1) y.front) q
head_leads version ranks pairs q is small few =
    version_run version (put_numbers ranks (10 ∷ (codes "pairs " ++ (decimal pairs ++ (10 ∷ q))))) is
    ∙ numbers_run (y.so_far version [] 0 [] 0) y.of_ranks [] ranks (codes "pairs " ++ (decimal pairs ++ (10 ∷ q))) small
    ∙ counted_run (y.so_far version ranks 0 [] 0) y.of_pairs pairs (10 ∷ q) few

front_leads : (c : Cert) (is rest : List Item) → PartsFit c → items c ≡ is ++ rest → Leads start is is
front_leads c [] rest fits e = record { there = start; leads = λ q. refl; out = refl }
front_leads (no t steps path puts) (i ∷ is) rest fits e =
    let f = first_of i (no_head t) is rest (map step steps ++ at path ∷ (map put puts ++ end ∷ [])) (sym e) in
    subst (λ (v : Item). Leads start (v ∷ is) (v ∷ is)) (sym f.0)
    (more_leads start (stands (begun t []) m.line) (no_head t) is _ (λ q. head_run t q fits.0)
    (steps_lead t [] steps path puts is rest fits.1 fits.2 fits.3 f.1))
front_leads (yes version ranks pairs nodes) (i ∷ is) rest fits e =
    let f = first_of i (yes_head version ranks pairs) is rest (map node nodes ++ end ∷ []) (sym e) in
    subst (λ (v : Item). Leads start (v ∷ is) (v ∷ is)) (sym f.0)
    (more_leads start (stands_yes (y.so_far version ranks pairs [] 1) y.front) (yes_head version ranks pairs) is _ (λ q. head_leads version ranks pairs q fits.0 fits.1 fits.2)
    (nodes_lead version ranks pairs 1 [] nodes is rest fits.3 fits.4 fits.5 f.1))

-- no item more stands whole in the bytes

longer_than : (is more : List Item) (i : Item) → is ≡ (is ++ i ∷ []) ++ more → ⊥
longer_than is more i e =
    omega (arith, ap length e, length-append (is ++ i ∷ []) more, length-append is (i ∷ []))

none_more : (p : List ℕ) (c : Cert) (rest more : List Item) (i : Item) (q : List ℕ) → PartsFit c → (run start p ≡ wrong → ⊥)
    → items c ≡ items_of (run start p) ++ rest → rest ≡ i ∷ more → p ≡ put_items (items_of (run start p) ++ i ∷ []) q → ⊥
none_more p c rest more i q fits goes front here lines_in =
    let is = items_of (run start p) in
    let split : items c ≡ (is ++ i ∷ []) ++ more = front ∙ ap (λ (v : List Item). is ++ v) here ∙ sym (append_assoc is (i ∷ []) more) in
    let l = front_leads c (is ++ i ∷ []) more fits split in
    let lines : List ℕ = put_items (is ++ i ∷ []) [] in
    let there : run start lines ≡ l.there = l.leads [] in
    let same : run start (lines ++ q) ≡ run start p = run_append start lines q ∙ ap (λ (x : Standing). run x q) there ∙ sym (l.leads q) ∙ ap (run start) (sym lines_in) in
    let later = later_items lines q (λ e. goes (sym same ∙ e)) in
    longer_than is later.0 i
    (sym (ap items_of same) ∙ later.1 ∙ ap (λ (v : List Item). v ++ later.0) (ap items_of there ∙ l.out))

-- the items that were handed out are those whose last line feed stands in the bytes
pub items_in : (p : List ℕ) → ItemsIn p (items_of (run start p))
items_in p c r t =
    let front = front_items p r c t in
    let goes : run start p ≡ wrong → ⊥ = never_wrong p r (end_goes (run start (p ++ r)) c (text_run (p ++ r) c t)) in
    record {
      rest = front.0;
      front = front.1;
      begun = begun_items p;
      no_more = λ i more q here lines_in. none_more p c front.0 more i q t.fits.parts goes front.1 here lines_in;
    }

-- there is one list of such items

abbrev Longer : List Item → List Item → Type 0
Longer xs ys = (i : Item) × (more : List Item) × (ys ≡ xs ++ i ∷ more)

data Fronts (xs ys : List Item) : Type 0 where
  alike : xs ≡ ys → Fronts xs ys
  shorter : Longer xs ys → Fronts xs ys
  longer : Longer ys xs → Fronts xs ys

fronts_behind : (i : Item) (xs ys : List Item) → Fronts xs ys → Fronts (i ∷ xs) (i ∷ ys)
fronts_behind i xs ys (alike e) = alike (ap (λ (v : List Item). i ∷ v) e)
fronts_behind i xs ys (shorter h) = shorter (h.0, h.1, ap (λ (v : List Item). i ∷ v) h.2)
fronts_behind i xs ys (longer h) = longer (h.0, h.1, ap (λ (v : List Item). i ∷ v) h.2)

fronts : (xs ys rest other : List Item) → xs ++ rest ≡ ys ++ other → Fronts xs ys
fronts [] [] rest other e = alike refl
fronts [] (y ∷ ys) rest other e = shorter (y, ys, refl)
fronts (x ∷ xs) [] rest other e = longer (x, xs, refl)
fronts (x ∷ xs) (z ∷ ys) rest other e =
    let f = first_of x z xs rest (ys ++ other) e in
    subst (λ (v : Item). Fronts (x ∷ xs) (v ∷ ys)) f.0 (fronts_behind x xs ys (fronts xs ys rest other f.1))

put_both : (xs ys : List Item) (q : List ℕ) → put_items (xs ++ ys) q ≡ put_items xs (put_items ys q)
put_both [] ys q = refl
put_both (x ∷ xs) ys q = ap (λ (v : List ℕ). put_items (x ∷ []) v) (put_both xs ys q)

not_longer : (p : List ℕ) (c : Cert) (xs ys : List Item) → WholeItems p c xs → WholeItems p c ys → Longer xs ys → ⊥
not_longer p c xs ys a b h =
    let split : ys ≡ (xs ++ h.0 ∷ []) ++ h.1 = h.2 ∙ sym (append_assoc xs (h.0 ∷ []) h.1) in
    let rest : a.rest ≡ h.0 ∷ (h.1 ++ b.rest) =
    append_cancel_left xs a.rest (h.0 ∷ (h.1 ++ b.rest)) (sym a.front ∙ b.front ∙ ap (λ (v : List Item). v ++ b.rest) h.2 ∙ append_assoc xs (h.0 ∷ h.1) b.rest) in
    a.no_more h.0 (h.1 ++ b.rest) (put_items h.1 b.begun.0) rest
    (b.begun.1 ∙ ap (λ (v : List Item). put_items v b.begun.0) split ∙ put_both (xs ++ h.0 ∷ []) h.1 b.begun.0)

one_front : (p : List ℕ) (c : Cert) (xs ys : List Item) → WholeItems p c xs → WholeItems p c ys → Fronts xs ys → xs ≡ ys
one_front p c xs ys a b (alike e) = e
one_front p c xs ys a b (shorter h) = absurd (not_longer p c xs ys a b h)
one_front p c xs ys a b (longer h) = absurd (not_longer p c ys xs b a h)

pub one_whole : (p : List ℕ) (c : Cert) (xs ys : List Item) → WholeItems p c xs → WholeItems p c ys → xs ≡ ys
one_whole p c xs ys a b = one_front p c xs ys a b (fronts xs ys a.rest b.rest (sym a.front ∙ b.front))

-- one byte more, and the item that it hands out
pub item_next : (p : List ℕ) (b : ℕ) (is : List Item) → Begins (p ++ b ∷ []) → ItemsIn p is → ItemsIn (p ++ b ∷ []) (is ++ option_to_list (handed (run start p) b))
item_next p b is (c, r, t) h =
    let here : CertText (p ++ b ∷ r) c = subst (λ (v : List ℕ). CertText v c) (append_assoc p (b ∷ []) r) t in
    let same : is ≡ items_of (run start p) = one_whole p c is (items_of (run start p)) (h c (b ∷ r) here) (items_in p c (b ∷ r) here) in
    let goes : run start (p ++ b ∷ []) ≡ wrong → ⊥ = never_wrong (p ++ b ∷ []) r (end_goes (run start ((p ++ b ∷ []) ++ r)) c (text_run ((p ++ b ∷ []) ++ r) c t)) in
    subst (ItemsIn (p ++ b ∷ [])) (next_items p b goes ∙ ap (λ (v : List Item). v ++ option_to_list (handed (run start p) b)) (sym same)) (items_in (p ++ b ∷ []))

-- in the whole text they are all
pub all_items : (p : List ℕ) (c : Cert) (is : List Item) → CertText p c → ItemsIn p is → is ≡ items c
all_items p c is t h =
    let whole : CertText (p ++ []) c = subst (λ (v : List ℕ). CertText v c) (sym (append-nil p)) t in
    one_whole p c is (items_of (run start p)) (h c [] whole) (items_in p c [] whole) ∙ end_items (run start p) c (text_run p c t)
