-- Where the bytes of a YES certificate lead: the items so far and the lines since the last item spell them.
use Rattle.std.proofs.Common.{◌≡◌, ℕ, zero, suc, ◌+◌, ◌-◌, ◌*◌, ◌<◌, ◌≤◌, false, nat_lt, List, [], ◌∷◌, ◌++◌, length, codes, Option, Some, None, refl, sym, ap, ◌∙◌, subst, arith, append_assoc, append-nil, length-append}
use Rattle.std.specs.List.{All}
use Rattle.std.proofs.lemmas.Bool.{ltb-true, lt-ltb}
use Rattle.std.proofs.lemmas.List.Elements.{All-nil, All-push, All-weaker}
use Rattle.std.specs.Fmt.{decimal}
use Rattle.wh_hopoly.specs.declared.expression.Move as moved
use Rattle.wh_order_inference.specs.Inferences.{Inference, entries}
use Rattle.wh_order_inference.specs.FilterText.{WrittenFilter, keeps, picks}
use Rattle.wh_cert.specs.TermLimits.{IsSmall}
use Rattle.wh_cert.specs.Written.{Filtering, Node, done, alone, blocks, subterm, interpretations, order, children, Preorder, yes}
use Rattle.wh_cert.specs.Text.{put_numbers, put_nodes, text}
use Rattle.wh_cert.specs.Limits.{NodeFits, IsVersion, IsOfVersion, FilterWithin, UsableWithin, NodeWithin, PartsFit}
use Rattle.wh_cert_machines.specs.YesMachine.{Item, version_item, ranks_item, pairs_item, node_item, end_item, to_version, Place, word, finished, LineStep, on, gives, refused, step, Past, so_far, nothing, gather, version_of, wants}
use Rattle.wh_cert_text.proofs.YesSound.{put_nodes_add, Stage, opening, first, second, third, stage, item_from, item_to, PlaceReads, item_text, GoodNumbers, GoodPlace, PlaceFor, ItemGood, PlaceAfter, LineNext, lead_kept}

-- the nodes so far, with k trees behind them, are one tree
abbrev pub Partial : ℕ → List Node → Type 0
Partial k nodes = (rest : List Node) → Preorder k rest → Preorder 1 (nodes ++ rest)

-- the items of n bytes, in each stage
abbrev pub GoodPast : ℕ → Stage → Past → Type 0
GoodPast n opening (so_far version ranks pairs nodes wanted) = (nodes ≡ []) × (wanted ≡ 0)
GoodPast n first (so_far version ranks pairs nodes wanted) = (nodes ≡ []) × (wanted ≡ 0) × IsVersion version
GoodPast n second (so_far version ranks pairs nodes wanted) = GoodNumbers n ranks × (nodes ≡ []) × (wanted ≡ 0) × IsVersion version
GoodPast n third (so_far version ranks pairs nodes wanted) =
    GoodNumbers n ranks × IsSmall pairs × All NodeFits nodes × All (NodeWithin n) nodes × (2 * (length nodes + wanted) ≤ n + 2) × Partial wanted nodes
    × IsVersion version × All (IsOfVersion version) nodes

-- what the items spell, in each stage
abbrev pub past_text : Stage → Past → List ℕ → List ℕ
past_text opening h r = r
past_text first (so_far version ranks pairs nodes wanted) r = codes "YES " ++ (decimal version ++ r)
past_text second (so_far version ranks pairs nodes wanted) r =
    codes "YES " ++ (decimal version ++ (10 ∷ (codes "ranks" ++ put_numbers ranks (10 ∷ r))))
past_text third (so_far version ranks pairs nodes wanted) r =
    codes "YES " ++ (decimal version ++ (10 ∷ (codes "ranks" ++ put_numbers ranks (10 ∷ (codes "pairs " ++ (decimal pairs ++ (10 ∷ put_nodes nodes r)))))))

-- one more item

gather_text : (n : ℕ) (h : Past) (i : Item) (r : List ℕ) → GoodPast n (item_from i) h → past_text (item_to i) (gather h i) r ≡ past_text (item_from i) h (item_text i r)
gather_text n (so_far version ranks pairs nodes wanted) (version_item new) r g = refl
gather_text n (so_far version ranks pairs nodes wanted) (ranks_item new) r g = refl
gather_text n (so_far version ranks pairs nodes wanted) (pairs_item new) r g =
    ap (λ (xs : List Node). past_text second (so_far version ranks pairs nodes wanted) (codes "pairs " ++ (decimal new ++ (10 ∷ put_nodes xs r)))) g.1
gather_text n (so_far version ranks pairs nodes wanted) (node_item x) r g =
    ap (λ (s : List ℕ). past_text third (so_far version ranks pairs [] wanted) s) (put_nodes_add nodes x r)
gather_text n (so_far version ranks pairs nodes wanted) end_item r g = refl

moves_wider : (n m : ℕ) (lines : List (List moved.Move)) → n ≤ m → All (λ (ms : List moved.Move). length ms ≤ n) lines → All (λ (ms : List moved.Move). length ms ≤ m) lines
moves_wider n m lines le h =
    All-weaker (λ (ms : List moved.Move). length ms ≤ n) (λ (ms : List moved.Move). length ms ≤ m) (λ ms p. omega arith) lines h

filter_wider : (n m : ℕ) (f : WrittenFilter) → n ≤ m → FilterWithin n f → FilterWithin m f
filter_wider n m (keeps prec places) le h = omega arith
filter_wider n m (picks place) le h = tt

filters_wider : (n m : ℕ) (fs : List Filtering) → n ≤ m → All (λ (f : Filtering). FilterWithin n f.filter) fs → All (λ (f : Filtering). FilterWithin m f.filter) fs
filters_wider n m fs le h =
    All-weaker (λ (f : Filtering). FilterWithin n f.filter) (λ (f : Filtering). FilterWithin m f.filter) (λ f p. filter_wider n m f.filter le p) fs h

shown_wider : (n m : ℕ) (is : List Inference) → n ≤ m → All (λ (i : Inference). entries i < n) is → All (λ (i : Inference). entries i < m) is
shown_wider n m is le h =
    All-weaker (λ (i : Inference). entries i < n) (λ (i : Inference). entries i < m) (λ i p. omega (arith, p, le)) is h

usable_wider : (n m : ℕ) (usable : Option (List ℕ)) → n ≤ m → UsableWithin n usable → UsableWithin m usable
usable_wider n m (Some ns) le h = omega arith
usable_wider n m None le h = tt

node_wider : (n m : ℕ) (x : Node) → n ≤ m → NodeWithin n x → NodeWithin m x
node_wider n m done le h = tt
node_wider n m alone le h = tt
node_wider n m (blocks parts) le h =
    All-weaker (λ (block : List ℕ). length block ≤ n) (λ (block : List ℕ). length block ≤ m) (λ block p. omega arith) parts h
node_wider n m (subterm args drop) le h = (omega (arith, h.0), omega (arith, h.1))
node_wider n m (interpretations usable funs marks rules pairs drop) le h =
    (usable_wider n m usable le h.0, omega (arith, h.1), omega (arith, h.2), moves_wider n m rules le h.3, omega (arith, h.4), moves_wider n m pairs le h.5, omega (arith, h.6), omega (arith, h.7))
node_wider n m (order funs marks rules pairs drop) le h =
    (omega (arith, h.0), omega (arith, h.1), filters_wider n m funs le h.2, filters_wider n m marks le h.3, shown_wider n m rules le h.4, omega (arith, h.5), shown_wider n m pairs le h.6, omega (arith, h.7), omega (arith, h.8))

pub nodes_wider : (n m : ℕ) (nodes : List Node) → n ≤ m → All (NodeWithin n) nodes → All (NodeWithin m) nodes
nodes_wider n m nodes le h = All-weaker (NodeWithin n) (NodeWithin m) (λ x p. node_wider n m x le p) nodes h

numbers_wider : (n m : ℕ) (xs : List ℕ) → n ≤ m → GoodNumbers n xs → GoodNumbers m xs
numbers_wider n m xs le g = (g.0, omega (arith, g.1))

-- a node takes the place of the first tree that is wanted
node_first : (k : ℕ) (x : Node) (rest : List Node) → 0 < k → Preorder (children x + (k - 1)) rest → Preorder k (x ∷ rest)
node_first zero x rest some p = absurd (omega arith)
node_first (suc j) x rest some p =
    let less : children x + (suc j - 1) ≡ children x + j = omega arith in
    subst (λ (i : ℕ). Preorder i rest) less p

partial_more : (k : ℕ) (nodes : List Node) (x : Node) → 0 < k → Partial k nodes → Partial (children x + (k - 1)) (nodes ++ x ∷ [])
partial_more k nodes x some p rest q =
    subst (Preorder 1) (sym (append_assoc nodes (x ∷ []) rest)) (p (x ∷ rest) (node_first k x rest some q))

gather_good : (n u m : ℕ) (h : Past) (i : Item) → n + u ≡ m → GoodPast n (item_from i) h → ItemGood (version_of h) (wants h) u i → GoodPast m (item_to i) (gather h i)
gather_good n u m (so_far version ranks pairs nodes wanted) (version_item new) sum g is = (g.0, g.1, is)
gather_good n u m (so_far version ranks pairs nodes wanted) (ranks_item new) sum g is =
    (numbers_wider u m new (omega arith) is, g.0, g.1, g.2)
gather_good n u m (so_far version ranks pairs nodes wanted) (pairs_item new) sum g is =
    subst (λ (xs : List Node). GoodPast m third (so_far version ranks new xs 1)) (sym g.1)
    (numbers_wider n m ranks (omega arith) g.0, is, All-nil NodeFits, All-nil (NodeWithin m), omega arith, (λ rest p. p), g.3, All-nil (IsOfVersion version))
gather_good n u m (so_far version ranks pairs nodes wanted) (node_item x) sum g is =
    let some : 0 < wanted = ltb-true 0 wanted is.0 in
    let wider = nodes_wider n m nodes (omega arith) g.3 in
    (numbers_wider n m ranks (omega arith) g.0, g.1, All-push NodeFits nodes x g.2 is.1, All-push (NodeWithin m) nodes x wider (node_wider u m x (omega arith) is.2), omega (arith, length-append nodes (x ∷ []), g.4, is.3, some), partial_more wanted nodes x some g.5, g.6, All-push (IsOfVersion version) nodes x g.7 is.4)
gather_good n u m (so_far version ranks pairs nodes wanted) end_item sum g is =
    (numbers_wider n m ranks (omega arith) g.0, g.1, g.2, nodes_wider n m nodes (omega arith) g.3, omega (arith, g.4), g.5, g.6, g.7)

-- after n bytes, f of them: the items and what was read since are good, and have read f
pub record Good (n : ℕ) (h : Past) (p : Place) (f : List ℕ → List ℕ) : Type 0 where
  pub before : ℕ
  pub since : ℕ
  pub sum : before + since ≡ n
  pub past : GoodPast before (stage p) h
  pub place : GoodPlace since p
  pub right : PlaceFor (version_of h) (wants h) p
  pub line : List ℕ → List ℕ
  pub reads : PlaceReads p line
  pub spelled : (r : List ℕ) → past_text (stage p) h (line r) ≡ f r

abbrev pub StepGood : ℕ → Past → LineStep → (List ℕ → List ℕ) → Type 0
StepGood n h (on q) f = Good n h q f
StepGood n h (gives i q) f = Good n (gather h i) q f
StepGood n h refused f = Unit {0}

-- behind an item of any kind the place is right
right_after : (h : Past) (i : Item) (q : Place) → PlaceAfter (version_of h) (wants h) i q → PlaceFor (version_of (gather h i)) (wants (gather h i)) q
right_after h (version_item new) q a = a _ _
right_after h (ranks_item new) q a = a _ _
right_after h (pairs_item new) q a = a _ _
right_after h (node_item x) q a = a _ _
right_after (so_far version ranks pairs nodes wanted) end_item q a = a

moved_good : (n : ℕ) (h : Past) (p : Place) (s : LineStep) (b : ℕ) (f : List ℕ → List ℕ) → (g : Good n h p f) → LineNext (version_of h) (wants h) (suc g.since) s (stage p) (λ r. g.line (b ∷ r)) → StepGood (suc n) h s (λ r. f (b ∷ r))
moved_good n h p (on q) b f g next = record {
  before = g.before;
  since = suc g.since;
  sum = omega (arith, g.sum);
  past = subst (λ (s : Stage). GoodPast g.before s h) (sym next.0) g.past;
  place = next.1;
  right = next.2;
  line = λ r. g.line (b ∷ r);
  reads = next.3;
  spelled = λ r. ap (λ (s : Stage). past_text s h (g.line (b ∷ r))) next.0 ∙ g.spelled (b ∷ r);
}
moved_good n h p (gives i q) b f g next =
    let past : GoodPast g.before (item_from i) h = subst (λ (s : Stage). GoodPast g.before s h) (sym next.0) g.past in
    record {
      before = suc n;
      since = 0;
      sum = omega arith;
      past = subst (λ (s : Stage). GoodPast (suc n) s (gather h i)) (sym next.1) (gather_good g.before (suc g.since) (suc n) h i (omega (arith, g.sum)) past next.2);
      place = next.3;
      right = right_after h i q next.4;
      line = next.5.0;
      reads = next.5.1;
      spelled = λ r. ap (λ (s : Stage). past_text s (gather h i) (next.5.0 r)) next.1 ∙ gather_text g.before h i (next.5.0 r) past ∙ ap (past_text (item_from i) h) (next.5.2 r) ∙ ap (λ (s : Stage). past_text s h (g.line (b ∷ r))) next.0 ∙ g.spelled (b ∷ r);
    }
moved_good n h p refused b f g next = tt

pub byte_good : (n : ℕ) (h : Past) (p : Place) (b : ℕ) (f : List ℕ → List ℕ) → Good n h p f → StepGood (suc n) h (step (version_of h) (wants h) p b) (λ r. f (b ∷ r))
byte_good n h p b f g =
    moved_good n h p (step (version_of h) (wants h) p b) b f g (lead_kept (version_of h) (wants h) g.since p b g.place g.right g.line g.reads)

-- behind the first byte
pub begun_good : Good 1 nothing (word (codes "ES ") to_version) (λ r. 89 ∷ r)
begun_good = record {
  before = 0;
  since = 1;
  sum = refl;
  past = (refl, refl);
  place = tt;
  right = tt;
  line = λ r. 89 ∷ r;
  reads = (89 ∷ [], refl, λ r. refl);
  spelled = λ r. refl;
}

pub no_wanted : (k : ℕ) → nat_lt 0 k ≡ false → k ≡ 0
no_wanted zero e = refl
no_wanted (suc k) e =
    let some = lt-ltb 0 (suc k) (omega arith) in
    let both = sym some ∙ e in
    absurd cc

-- behind all: the bytes are the text
pub end_found : (n version : ℕ) (ranks : List ℕ) (pairs : ℕ) (nodes : List Node) (wanted : ℕ) (f : List ℕ → List ℕ) → Good n (so_far version ranks pairs nodes wanted) finished f → PartsFit (yes version ranks pairs nodes) × (wanted ≡ 0) × (text (yes version ranks pairs nodes) ≡ f [])
end_found n version ranks pairs nodes wanted f g =
    let none : wanted ≡ 0 = no_wanted wanted g.right in
    let whole : Preorder 1 (nodes ++ []) = g.past.5 [] (subst (λ (k : ℕ). Preorder k []) (sym none) tt) in
    ((g.past.6, g.past.0.0, g.past.1, g.past.2, g.past.7, subst (Preorder 1) (append-nil nodes) whole), none, ap (past_text third (so_far version ranks pairs nodes wanted)) (g.reads []) ∙ g.spelled [])
