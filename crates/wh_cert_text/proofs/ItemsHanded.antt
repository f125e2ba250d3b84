-- The items that were handed out, where the bytes led; a byte hands out the next one.
use Rattle.std.proofs.Common.{◌≡◌, ℕ, zero, suc, Bool, true, false, cond, ◌==◌, ◌&&◌, nat_lt, List, [], ◌∷◌, ◌++◌, length, map, codes, Option, refl, sym, ap, ◌∙◌, subst, append_assoc, append-nil}
use Rattle.std.specs.Option.{option_to_list}
use Rattle.std.proofs.lemmas.List.{map_push}
use Rattle.wh_text.specs.Chars.{is_digit, is_start, is_part}
use Rattle.wh_cert_letters.specs.Digits.{goes_on}
use Rattle.wh_cert_parts.specs.TypeMachine.{TypeStep, goes, type_ended, no_type, type_step}
use Rattle.wh_cert_parts.specs.TermMachine as t
use Rattle.wh_cert.specs.Written.{Node}
use Rattle.wh_cert.specs.Items.{Item, yes_head, node, no_head, step, at, put, end}
use Rattle.wh_cert_machines.specs.LineMachine as m
use Rattle.wh_cert_machines.specs.LineMachine.{LinePlace, finished, LineStep, on, gives, refused, line_step, Past, nothing, begun, placed, gather, Standing, unread, stands, stands_yes, wrong, standing_after, standing_after_yes, first_byte, take_byte, run, start}
use Rattle.wh_cert_machines.specs.YesMachine as y
use Rattle.wh_cert_lines.specs.OrderLines as ol
use Rattle.wh_cert_lines.specs.PolyLines as l
use Rattle.wh_cert_text.specs.Handing.{no_item, handed_no, handed_yes, handed}
use Rattle.wh_cert_text.proofs.LineSound as n
use Rattle.wh_cert_text.proofs.YesSound as s
use Rattle.wh_cert_text.proofs.YesReached as r
use Rattle.wh_cert_text.proofs.Reached.{reached_at, reached_yes}

-- the end is given where all was read, and only there

abbrev Ends : LineStep → Type 0
Ends (on finished) = ⊥
Ends (gives m.end_item finished) = Unit {0}
Ends (gives m.end_item p) = ⊥
Ends (gives i finished) = ⊥
Ends _ = Unit {0}

ends_if : (b : Bool) (x o : LineStep) → Ends x → Ends o → Ends (cond b x o)
ends_if true x o so other = so
ends_if false x o so other = other

ends_behind : (o : m.Behind) → Ends (m.behind o)
ends_behind m.to_term = tt
ends_behind m.to_rule = tt
ends_behind (m.to_path rule) = tt
ends_behind m.to_at = tt
ends_behind m.to_put = tt
ends_behind m.to_finish = tt

ends_word : (w : List ℕ) (o : m.Behind) → Ends (m.word_on w o)
ends_word [] o = ends_behind o
ends_word (x ∷ w) o = tt

ends_term : (x : t.State) → Ends (m.term_line x)
ends_term (t.at fs k) = tt
ends_term (t.whole u) = tt
ends_term t.failed = tt

ends_put : (k : ℕ) (a : _) (x : t.State) → Ends (m.put_line k a x)
ends_put k a (t.at fs tk) = tt
ends_put k a (t.whole u) = tt
ends_put k a t.failed = tt

ends_type : (k : ℕ) (x : TypeStep) → Ends (m.type_line k x)
ends_type k (goes fs tk) = tt
ends_type k (type_ended a b) = ends_if (b == 32) _ _ tt tt
ends_type k no_type = tt

ends_no : (p : LinePlace) (b : ℕ) → Ends (line_step p b)
ends_no (m.word [] o) b = tt
ends_no (m.word (x ∷ w) o) b = ends_if (b == x) _ _ (ends_word w o) tt
ends_no (m.in_term fs k) b = ends_term (t.step fs k b)
ends_no m.line b = ends_if (b == 115) _ _ tt (ends_if (b == 97) _ _ tt tt)
ends_no m.rule_wanted b = ends_if (is_digit b) _ _ tt (ends_if (b == 98) _ _ tt tt)
ends_no (m.rule_number k) b = ends_if (goes_on k b) _ _ tt (ends_if (b == 32) _ _ tt tt)
ends_no (m.step_path rule path) b = ends_if (b == 48) _ _ tt (ends_if (b == 49) _ _ tt (ends_if (b == 10) _ _ tt tt))
ends_no (m.at_path path) b = ends_if (b == 48) _ _ tt (ends_if (b == 49) _ _ tt (ends_if (b == 10) _ _ tt tt))
ends_no m.later_line b = ends_if (b == 112) _ _ tt (ends_if (b == 101) _ _ tt tt)
ends_no m.put_percent b = ends_if (is_digit b) _ _ tt tt
ends_no (m.put_number k) b = ends_if (goes_on k b) _ _ tt (ends_if (b == 58) _ _ tt tt)
ends_no (m.put_type k fs tk) b = ends_type k (type_step fs tk b)
ends_no (m.put_term k a fs tk) b = ends_put k a (t.step fs tk b)
ends_no finished b = tt

abbrev EndsYes : y.LineStep → Type 0
EndsYes (y.on y.finished) = ⊥
EndsYes (y.gives y.end_item y.finished) = Unit {0}
EndsYes (y.gives y.end_item p) = ⊥
EndsYes (y.gives i y.finished) = ⊥
EndsYes _ = Unit {0}

yes_if : (b : Bool) (x o : y.LineStep) → EndsYes x → EndsYes o → EndsYes (cond b x o)
yes_if true x o so other = so
yes_if false x o so other = other

yes_behind : (o : y.Behind) → EndsYes (y.behind o)
yes_behind y.to_version = tt
yes_behind (y.to_list of) = tt
yes_behind y.to_pairs = tt
yes_behind y.to_done = tt
yes_behind y.to_alone = tt
yes_behind y.to_blocks = tt
yes_behind y.to_subterm = tt
yes_behind (y.to_name args) = tt
yes_behind y.to_poly = tt
yes_behind (y.to_line usable x) = tt
yes_behind y.to_order = tt
yes_behind (y.to_order_line x) = tt
yes_behind y.to_finish = tt

yes_word : (w : List ℕ) (o : y.Behind) → EndsYes (y.word_on w o)
yes_word [] o = yes_behind o
yes_word (x ∷ w) o = tt

yes_ended : (of : y.Listed) (xs : List ℕ) → EndsYes (y.list_ended of xs)
yes_ended y.of_ranks xs = tt
yes_ended (y.of_block zero parts) xs = tt
yes_ended (y.of_block (suc left) parts) xs = tt
yes_ended (y.of_drop args) xs = tt
yes_ended y.of_usable xs = tt
yes_ended (y.of_poly usable funs marks rules pairs) xs = tt
yes_ended (y.of_order funs marks rules pairs) xs = tt

yes_list : (of : y.Listed) (xs : List ℕ) (b : ℕ) → EndsYes (y.list_step of xs b)
yes_list of xs b = yes_if (b == 32) _ _ tt (yes_if (b == 10) _ _ (yes_ended of xs) tt)

yes_count : (k : ℕ) → EndsYes (y.count_ended k)
yes_count zero = tt
yes_count (suc left) = tt

yes_number : (of : y.Counted) (k b : ℕ) → EndsYes (y.number_ended of k b)
yes_number y.of_pairs k b = yes_if (b == 10) _ _ tt tt
yes_number y.of_blocks k b = yes_if (b == 10) _ _ (yes_count k) tt
yes_number (y.of_place args name) k b = yes_if (b == 10) _ _ tt tt
yes_number (y.of_list of xs) k b = yes_list of (xs ++ k ∷ []) b

yes_lines : (usable : Option (List ℕ)) (x : l.LinesStep) → EndsYes (y.lines_led usable x)
yes_lines usable (l.on x k) = tt
yes_lines usable (l.begins x) = tt
yes_lines usable (l.drops x) = tt
yes_lines usable l.refused = tt

yes_order : (x : ol.LinesStep) → EndsYes (y.order_led x)
yes_order (ol.on x k) = tt
yes_order (ol.begins x) = tt
yes_order (ol.drops x) = tt
yes_order ol.refused = tt

ends_yes : (v : ℕ) (w : Bool) (p : y.Place) (b : ℕ) → EndsYes (y.step v w p b)
ends_yes v w (y.word [] o) b = tt
ends_yes v w (y.word (x ∷ r) o) b = yes_if (b == x) _ _ (yes_word r o) tt
ends_yes v w y.version_wanted b = yes_if (b == 49) _ _ tt (yes_if (b == 50) _ _ tt tt)
ends_yes v w (y.listed of xs) b = yes_list of xs b
ends_yes v w (y.number_wanted of) b = yes_if (is_digit b) _ _ tt tt
ends_yes v w (y.number of k) b = yes_if (goes_on k b) _ _ tt (yes_number of k b)
ends_yes v w y.front b =
    yes_if w _ _
    (yes_if (b == 100) _ _ tt (yes_if (b == 97) _ _ tt (yes_if (b == 98) _ _ tt (yes_if (b == 115) _ _ tt (yes_if (b == 112) _ _ (yes_if (v == 1) _ _ tt (yes_if (v == 2) _ _ tt tt)) (yes_if (b == 111) _ _ (yes_if (v == 2) _ _ tt tt) tt))))))
    (yes_if (b == 101) _ _ tt tt)
ends_yes v w (y.arg_front args) b = yes_if (b == 97) _ _ tt (yes_if (b == 100) _ _ tt tt)
ends_yes v w (y.name_wanted args) b = yes_if (is_start b) _ _ tt tt
ends_yes v w (y.letters args xs) b = yes_if (is_part b && nat_lt (length xs) 64) _ _ tt (yes_if (b == 32) _ _ tt tt)
ends_yes v w (y.poly_lines usable x k) b = yes_lines usable (l.lines_step x k b)
ends_yes v w (y.order_lines x k) b = yes_order (ol.lines_step x k b)
ends_yes v w y.finished b = tt

-- the items behind the bytes that led there

abbrev pub closed : LinePlace → List Item
closed finished = end ∷ []
closed _ = []

abbrev pub no_items : Past → LinePlace → List Item
no_items nothing p = []
no_items (begun t steps) p = no_head t ∷ map step steps
no_items (placed t steps path puts) p = no_head t ∷ (map step steps ++ at path ∷ (map put puts ++ closed p))

abbrev pub closed_yes : y.Place → List Item
closed_yes y.finished = end ∷ []
closed_yes _ = []

abbrev pub yes_items : s.Stage → y.Past → y.Place → List Item
yes_items s.third (y.so_far version ranks pairs nodes k) q = yes_head version ranks pairs ∷ (map node nodes ++ closed_yes q)
yes_items _ h q = []

abbrev pub items_of : Standing → List Item
items_of (stands h p) = no_items h p
items_of (stands_yes h q) = yes_items (s.stage q) h q
items_of _ = []

-- one byte of a NO certificate

pub open_from : (p : LinePlace) (b : ℕ) → (line_step p b ≡ refused → ⊥) → closed p ≡ []
open_from finished b h = absurd (h refl)
open_from p b h = refl

open_on : (q : LinePlace) → Ends (on q) → closed q ≡ []
open_on finished h = absurd h
open_on q h = refl

no_same : (h : Past) (p q : LinePlace) → closed p ≡ [] → closed q ≡ [] → no_items h q ≡ no_items h p
no_same nothing p q a b = refl
no_same (begun t steps) p q a b = refl
no_same (placed t steps path puts) p q a b =
    ap (λ (e : List Item). no_head t ∷ (map step steps ++ at path ∷ (map put puts ++ e))) (b ∙ sym a)

-- more behind the place
placed_more : (t : _) (steps : _) (path : List ℕ) (xs ys zs : List Item) → zs ≡ xs ++ ys
    → no_head t ∷ (map step steps ++ at path ∷ zs) ≡ (no_head t ∷ (map step steps ++ at path ∷ xs)) ++ ys
placed_more t steps path xs ys zs e =
    ap (λ (v : List Item). no_head t ∷ (map step steps ++ at path ∷ v)) e
    ∙ ap (λ (v : List Item). no_head t ∷ v) (sym (append_assoc (map step steps) (at path ∷ xs) ys))

no_gives : (h : Past) (p q : LinePlace) (i : m.Item) → n.item_from i ≡ n.past_stage h → closed p ≡ [] → Ends (gives i q)
    → no_items (gather h i) q ≡ no_items h p ++ no_item i ∷ []
no_gives nothing p q (m.head_item u) e a ends = refl
no_gives nothing p q (m.step_item x) e a ends = absurd cc
no_gives nothing p q (m.at_item path) e a ends = absurd cc
no_gives nothing p q (m.put_item x) e a ends = absurd cc
no_gives nothing p q m.end_item e a ends = absurd cc
no_gives (begun t steps) p q (m.head_item u) e a ends = absurd cc
no_gives (begun t steps) p q (m.step_item x) e a ends = ap (λ (v : List Item). no_head t ∷ v) (map_push step steps x)
no_gives (begun t steps) p finished (m.at_item path) e a ends = absurd ends
no_gives (begun t steps) p q (m.at_item path) e a ends = refl
no_gives (begun t steps) p q (m.put_item x) e a ends = absurd cc
no_gives (begun t steps) p q m.end_item e a ends = absurd cc
no_gives (placed t steps path puts) p q (m.head_item u) e a ends = absurd cc
no_gives (placed t steps path puts) p q (m.step_item x) e a ends = absurd cc
no_gives (placed t steps path puts) p q (m.at_item other) e a ends = absurd cc
no_gives (placed t steps path puts) p finished (m.put_item x) e a ends = absurd ends
no_gives (placed t steps path puts) p q (m.put_item x) e a ends =
    placed_more t steps path (map put puts ++ closed p) (put x ∷ []) (map put (puts ++ x ∷ []) ++ [])
    (append-nil (map put (puts ++ x ∷ [])) ∙ map_push put puts x ∙ ap (λ (v : List Item). v ++ put x ∷ []) (sym (append-nil (map put puts)) ∙ ap (λ (v : List Item). map put puts ++ v) (sym a)))
no_gives (placed t steps path puts) p finished m.end_item e a ends =
    placed_more t steps path (map put puts ++ closed p) (end ∷ []) (map put puts ++ end ∷ [])
    (ap (λ (v : List Item). v ++ end ∷ []) (sym (append-nil (map put puts)) ∙ ap (λ (v : List Item). map put puts ++ v) (sym a)))
no_gives (placed t steps path puts) p q m.end_item e a ends = absurd ends

no_step : (k : ℕ) (h : Past) (p : LinePlace) (x : LineStep) (f : List ℕ → List ℕ) → n.stage p ≡ n.past_stage h → n.LineNext k x (n.stage p) f → closed p ≡ [] → Ends x
    → (standing_after h x ≡ wrong → ⊥) → items_of (standing_after h x) ≡ no_items h p ++ option_to_list (handed_no x)
no_step k h p (on q) f e next a ends onward = no_same h p q a (open_on q ends) ∙ sym (append-nil (no_items h p))
no_step k h p (gives i q) f e next a ends onward = no_gives h p q i (next.0 ∙ e) a ends
no_step k h p refused f e next a ends onward = absurd (onward refl)

not_refused : (h : Past) (x : LineStep) → (standing_after h x ≡ wrong → ⊥) → x ≡ refused → ⊥
not_refused h x onward e = onward (ap (standing_after h) e)

no_next : (bytes : List ℕ) (h : Past) (p : LinePlace) (b : ℕ) → run start bytes ≡ stands h p → (take_byte (stands h p) b ≡ wrong → ⊥)
    → items_of (take_byte (stands h p) b) ≡ items_of (stands h p) ++ option_to_list (handed (stands h p) b)
no_next bytes h p b e onward =
    let g = reached_at bytes h p e in
    no_step (suc (length bytes)) h p (line_step p b) (λ r. g.line (b ∷ r)) g.staged (n.lead_kept (length bytes) p b g.place g.line g.reads)
    (open_from p b (not_refused h (line_step p b) onward)) (ends_no p b) onward

-- one byte of a YES certificate

open_yes : (v : ℕ) (w : Bool) (p : y.Place) (b : ℕ) → (y.step v w p b ≡ y.refused → ⊥) → closed_yes p ≡ []
open_yes v w y.finished b h = absurd (h refl)
open_yes v w p b h = refl

yes_on : (q : y.Place) → EndsYes (y.on q) → closed_yes q ≡ []
yes_on y.finished h = absurd h
yes_on q h = refl

yes_same : (x : s.Stage) (h : y.Past) (p q : y.Place) → closed_yes p ≡ [] → closed_yes q ≡ [] → yes_items x h q ≡ yes_items x h p
yes_same s.opening h p q a b = refl
yes_same s.first h p q a b = refl
yes_same s.second h p q a b = refl
yes_same s.third (y.so_far version ranks pairs nodes k) p q a b =
    ap (λ (e : List Item). yes_head version ranks pairs ∷ (map node nodes ++ e)) (b ∙ sym a)

yes_gives : (k : ℕ) (h : y.Past) (p q : y.Place) (i : y.Item) → r.GoodPast k (s.item_from i) h → closed_yes p ≡ [] → EndsYes (y.gives i q)
    → yes_items (s.item_to i) (y.gather h i) q ≡ yes_items (s.item_from i) h p ++ option_to_list (handed_yes h (y.gives i q))
yes_gives k (y.so_far version ranks pairs nodes w) p q (y.version_item v) g a ends = refl
yes_gives k (y.so_far version ranks pairs nodes w) p q (y.ranks_item xs) g a ends = refl
yes_gives k (y.so_far version ranks pairs nodes w) p y.finished (y.pairs_item j) g a ends = absurd ends
yes_gives k (y.so_far version ranks pairs nodes w) p q (y.pairs_item j) g a ends =
    ap (λ (v : List Node). yes_head version ranks j ∷ (map node v ++ [])) g.1
yes_gives k (y.so_far version ranks pairs nodes w) p y.finished (y.node_item x) g a ends = absurd ends
yes_gives k (y.so_far version ranks pairs nodes w) p q (y.node_item x) g a ends =
    ap (λ (v : List Item). yes_head version ranks pairs ∷ v)
    (append-nil (map node (nodes ++ x ∷ [])) ∙ map_push node nodes x ∙ ap (λ (v : List Item). v ++ node x ∷ []) (sym (append-nil (map node nodes)) ∙ ap (λ (v : List Item). map node nodes ++ v) (sym a)))
yes_gives k (y.so_far version ranks pairs nodes w) p y.finished y.end_item g a ends =
    ap (λ (v : List Item). yes_head version ranks pairs ∷ (v ++ end ∷ [])) (sym (append-nil (map node nodes)) ∙ ap (λ (v : List Item). map node nodes ++ v) (sym a))
yes_gives k (y.so_far version ranks pairs nodes w) p q y.end_item g a ends = absurd ends

yes_step : (u : ℕ) (w : Bool) (k j : ℕ) (h : y.Past) (p : y.Place) (x : y.LineStep) (f : List ℕ → List ℕ) → r.GoodPast k (s.stage p) h → s.LineNext u w j x (s.stage p) f → closed_yes p ≡ []
    → EndsYes x → (standing_after_yes h x ≡ wrong → ⊥) → items_of (standing_after_yes h x) ≡ yes_items (s.stage p) h p ++ option_to_list (handed_yes h x)
yes_step u w k j (y.so_far version ranks pairs nodes n) p (y.on q) f g next a ends onward =
    let h = y.so_far version ranks pairs nodes n in
    ap (λ (v : s.Stage). yes_items v h q) next.0 ∙ yes_same (s.stage p) h p q a (yes_on q ends) ∙ sym (append-nil (yes_items (s.stage p) h p))
yes_step u w k j h p (y.gives i q) f g next a ends onward =
    ap (λ (v : s.Stage). yes_items v (y.gather h i) q) next.1
    ∙ yes_gives k h p q i (subst (λ (v : s.Stage). r.GoodPast k v h) (sym next.0) g) a ends
    ∙ ap (λ (v : s.Stage). yes_items v h p ++ option_to_list (handed_yes h (y.gives i q))) next.0
yes_step u w k j h p y.refused f g next a ends onward = absurd (onward refl)

yes_next : (bytes : List ℕ) (h : y.Past) (p : y.Place) (b : ℕ) → run start bytes ≡ stands_yes h p → (take_byte (stands_yes h p) b ≡ wrong → ⊥)
    → items_of (take_byte (stands_yes h p) b) ≡ items_of (stands_yes h p) ++ option_to_list (handed (stands_yes h p) b)
yes_next bytes h p b e onward =
    let g = reached_yes bytes h p e in
    yes_step (y.version_of h) (y.wants h) g.before (suc g.since) h p (y.step (y.version_of h) (y.wants h) p b) (λ r. g.line (b ∷ r)) g.past (s.lead_kept (y.version_of h) (y.wants h) g.since p b g.place g.right g.line g.reads)
    (open_yes (y.version_of h) (y.wants h) p b (λ f. onward (ap (standing_after_yes h) f))) (ends_yes (y.version_of h) (y.wants h) p b) onward

-- the first byte hands out nothing
first_next : (b : Bool) (c : Bool) → items_of (cond b (stands_yes y.nothing (y.word (codes "ES ") y.to_version)) (cond c (stands nothing (m.word (codes "O 1" ++ (10 ∷ codes "term ")) m.to_term)) wrong)) ≡ []
first_next true c = refl
first_next false true = refl
first_next false false = refl

-- a byte hands out the next item
pub byte_next : (bytes : List ℕ) (x : Standing) (b : ℕ) → run start bytes ≡ x → (take_byte x b ≡ wrong → ⊥)
    → items_of (take_byte x b) ≡ items_of x ++ option_to_list (handed x b)
byte_next bytes unread b e onward = first_next (b == 89) (b == 78)
byte_next bytes (stands h p) b e onward = no_next bytes h p b e onward
byte_next bytes (stands_yes h p) b e onward = yes_next bytes h p b e onward
byte_next bytes wrong b e onward = absurd (onward refl)
