-- What the printers of the lines of a node of a path order append, one after another.
use Rattle.std.proofs.Common.{◌≡◌, ℕ, ◌+◌, ◌<◌, ◌≤◌, List, [], ◌∷◌, ◌++◌, length, get_or, drop, map, codes, refl}
use Rattle.wh_text.specs.Pushes.{Pushes}
use Rattle.wh_text.proofs.PrintLemmas.{push_bytes, push_byte, push_then, Leaves}
use Rattle.wh_order_inference.specs.Inferences as m
use Rattle.wh_order_inference.specs.InferenceText.{put_inference}
use Rattle.wh_order_inference.specs.FilterText.{put_filter}
use Rattle.wh_order_inference.specs.Said.{inference}
use Rattle.wh_order_inference.specs.declared.inference.Inference.{Inference}
use Rattle.wh_cert_print.proofs.PrintedLists.{next_left, none_left}
use Rattle.wh_cert.specs.Written.{Filtering, order}
use Rattle.wh_cert.specs.Text.{put_filtering, put_filterings, put_shown, put_all_shown, put_line, put_node}
use Rattle.wh_cert.specs.Said.{said_filter}
use Rattle.wh_cert.specs.declared.order_node.NamedFilter.{NamedFilter}

-- lines of filters

pub filters_next : (word old a b : List ℕ) (whole : List ℕ → List ℕ) (xs : List NamedFilter) (i : ℕ) (x : NamedFilter) → Leaves old a (put_filterings word (map said_filter (drop i xs))) whole → i < length xs → x ≡ get_or xs i x → Pushes a b (put_filtering word (said_filter x)) → Leaves old b (put_filterings word (map said_filter (drop (i + 1) xs))) whole
filters_next word = next_left (λ (x : NamedFilter). put_filtering word (said_filter x)) (λ (xs : List NamedFilter). put_filterings word (map said_filter xs)) (λ x xs r. refl)

pub filters_end : (word old a : List ℕ) (whole : List ℕ → List ℕ) (xs : List NamedFilter) (i : ℕ) → Leaves old a (put_filterings word (map said_filter (drop i xs))) whole → length xs ≤ i → Pushes old a whole
filters_end word = none_left (λ (xs : List NamedFilter). put_filterings word (map said_filter xs)) (λ r. refl)

pub filter_pushes : (word : List ℕ) (g : Filtering) (a b c d e f : List ℕ) → b ≡ a ++ word → c ≡ b ++ g.name → d ≡ c ++ 32 ∷ [] → Pushes d e (put_filter g.filter) → f ≡ e ++ 10 ∷ [] → Pushes a f (put_filtering word g)
filter_pushes word g a b c d e f first name space part ends =
    let p1 = push_then d e f (put_filter g.filter) (λ r. 10 ∷ r) part (push_byte e f 10 ends) in
    let p2 = push_then c d f (λ r. 32 ∷ r) (λ r. put_filter g.filter (10 ∷ r)) (push_byte c d 32 space) p1 in
    let p3 = push_then b c f (λ r. g.name ++ r) (λ r. 32 ∷ put_filter g.filter (10 ∷ r)) (push_bytes b c g.name name) p2 in
    push_then a b f (λ r. word ++ r) (λ r. g.name ++ (32 ∷ put_filter g.filter (10 ∷ r))) (push_bytes a b word first) p3

-- lines of inferences

pub shown_next : (word old a b : List ℕ) (whole : List ℕ → List ℕ) (xs : List Inference) (i : ℕ) (x : Inference) → Leaves old a (put_all_shown word (map inference (drop i xs))) whole → i < length xs → x ≡ get_or xs i x → Pushes a b (put_shown word (inference x)) → Leaves old b (put_all_shown word (map inference (drop (i + 1) xs))) whole
shown_next word = next_left (λ (x : Inference). put_shown word (inference x)) (λ (xs : List Inference). put_all_shown word (map inference xs)) (λ x xs r. refl)

pub shown_end : (word old a : List ℕ) (whole : List ℕ → List ℕ) (xs : List Inference) (i : ℕ) → Leaves old a (put_all_shown word (map inference (drop i xs))) whole → length xs ≤ i → Pushes old a whole
shown_end word = none_left (λ (xs : List Inference). put_all_shown word (map inference xs)) (λ r. refl)

pub shown_pushes : (word : List ℕ) (j : m.Inference) (a b c d : List ℕ) → b ≡ a ++ word → Pushes b c (put_inference j) → d ≡ c ++ 10 ∷ [] → Pushes a d (put_shown word j)
shown_pushes word j a b c d first part ends =
    push_then a b d (λ r. word ++ r) (λ r. put_inference j (10 ∷ r)) (push_bytes a b word first) (push_then b c d (put_inference j) (λ r. 10 ∷ r) part (push_byte c d 10 ends))

-- a node of a path order
pub order_pushes : (funs marks : List Filtering) (rules pairs : List m.Inference) (dropped a b c d e f g h : List ℕ) → b ≡ a ++ (codes "order" ++ (10 ∷ [])) → Pushes b c (put_filterings (codes "fun ") funs) → Pushes c d (put_filterings (codes "mark ") marks) → Pushes d e (put_all_shown (codes "rule ") rules) → Pushes e f (put_all_shown (codes "pair ") pairs) → g ≡ f ++ codes "drop" → Pushes g h (put_line dropped) → Pushes a h (put_node (order funs marks rules pairs dropped))
order_pushes funs marks rules pairs dropped a b c d e f g h word first second third fourth last list =
    let p1 = push_then f g h (λ r. codes "drop" ++ r) (put_line dropped) (push_bytes f g (codes "drop") last) list in
    let p2 = push_then e f h (put_all_shown (codes "pair ") pairs) (λ r. codes "drop" ++ put_line dropped r) fourth p1 in
    let p3 = push_then d e h (put_all_shown (codes "rule ") rules) (λ r. put_all_shown (codes "pair ") pairs (codes "drop" ++ put_line dropped r)) third p2 in
    let p4 = push_then c d h (put_filterings (codes "mark ") marks) (λ r. put_all_shown (codes "rule ") rules (put_all_shown (codes "pair ") pairs (codes "drop" ++ put_line dropped r))) second p3 in
    let p5 = push_then b c h (put_filterings (codes "fun ") funs) (λ r. put_filterings (codes "mark ") marks (put_all_shown (codes "rule ") rules (put_all_shown (codes "pair ") pairs (codes "drop" ++ put_line dropped r)))) first p4 in
    push_then a b h (λ r. codes "order" ++ (10 ∷ r)) (λ r. put_filterings (codes "fun ") funs (put_filterings (codes "mark ") marks (put_all_shown (codes "rule ") rules (put_all_shown (codes "pair ") pairs (codes "drop" ++ put_line dropped r))))) (push_bytes a b (codes "order" ++ (10 ∷ [])) word) p5
