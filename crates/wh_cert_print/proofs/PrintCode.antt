-- What the printers of a certificate append, one after another.
use Rattle.std.proofs.Common.{◌≡◌, ℕ, ◌+◌, ◌<◌, ◌≤◌, List, [], ◌∷◌, ◌++◌, length, get_or, drop, map, codes, refl, sym, ◌∙◌, append-nil}
use Rattle.std.specs.Fmt.{decimal}
use Rattle.wh_terms.specs.declared.path.Step as taken
use Rattle.wh_text.specs.RawTree.{RTm}
use Rattle.wh_text.specs.Spelling.{put_part, put_term}
use Rattle.wh_text.specs.Pushes.{Pushes}
use Rattle.wh_text.proofs.PrintLemmas.{push_bytes, push_byte, push_then, Leaves}
use Rattle.wh_cert_print.proofs.PrintedLists.{next_left, none_left}
use Rattle.wh_cert.specs.Written as w
use Rattle.wh_cert.specs.Text.{put_path, put_rule, put_step, put_steps, put_put, put_puts, put_entry, put_numbers, put_line, put_block, put_blocks, put_arg, put_args, put_node, put_nodes, text}
use Rattle.wh_cert.specs.Said.{said_arg, said_node, said_put}
use Rattle.wh_cert.specs.declared.certificate.Arg.{Arg}
use Rattle.wh_cert.specs.declared.certificate.Node.{Node}
use Rattle.wh_cert.specs.declared.certificate.Put.{Put}

pub steps_next : (old a b : List ℕ) (whole : List ℕ → List ℕ) (xs : List taken.Step) (i : ℕ) (x : taken.Step) → Leaves old a (put_steps (drop i xs)) whole → i < length xs → x ≡ get_or xs i x → Pushes a b (put_step x) → Leaves old b (put_steps (drop (i + 1) xs)) whole
steps_next = next_left put_step put_steps (λ x xs r. refl)

pub steps_end : (old a : List ℕ) (whole : List ℕ → List ℕ) (xs : List taken.Step) (i : ℕ) → Leaves old a (put_steps (drop i xs)) whole → length xs ≤ i → Pushes old a whole
steps_end = none_left put_steps (λ r. refl)

pub puts_next : (old a b : List ℕ) (whole : List ℕ → List ℕ) (xs : List Put) (i : ℕ) (x : Put) → Leaves old a (put_puts (map said_put (drop i xs))) whole → i < length xs → x ≡ get_or xs i x → Pushes a b (put_put (said_put x)) → Leaves old b (put_puts (map said_put (drop (i + 1) xs))) whole
puts_next = next_left (λ (x : Put). put_put (said_put x)) (λ (xs : List Put). put_puts (map said_put xs)) (λ x xs r. refl)

pub puts_end : (old a : List ℕ) (whole : List ℕ → List ℕ) (xs : List Put) (i : ℕ) → Leaves old a (put_puts (map said_put (drop i xs))) whole → length xs ≤ i → Pushes old a whole
puts_end = none_left (λ (xs : List Put). put_puts (map said_put xs)) (λ r. refl)

pub path_next : (old a b : List ℕ) (whole : List ℕ → List ℕ) (xs : List ℕ) (i x : ℕ) → Leaves old a (put_path (drop i xs)) whole → i < length xs → x ≡ get_or xs i x → b ≡ a ++ (48 + x) ∷ [] → Leaves old b (put_path (drop (i + 1) xs)) whole
path_next old a b whole xs i x left below is digit =
    next_left (λ (d : ℕ) (r : List ℕ). (48 + d) ∷ r) put_path (λ d ds r. refl) old a b whole xs i x left below is (push_byte a b (48 + x) digit)

pub path_end : (old a : List ℕ) (whole : List ℕ → List ℕ) (xs : List ℕ) (i : ℕ) → Leaves old a (put_path (drop i xs)) whole → length xs ≤ i → Pushes old a whole
path_end = none_left put_path (λ r. refl)

-- the line of a step
pub step_pushes : (s : taken.Step) (a b c d e f : List ℕ) → b ≡ a ++ codes "step " → Pushes b c (put_rule s.rule) → d ≡ c ++ codes " /" → Pushes d e (put_path s.path) → f ≡ e ++ 10 ∷ [] → Pushes a f (put_step s)
step_pushes s a b c d e f word rule slash path ends =
    let p1 = push_then d e f (put_path s.path) (λ r. 10 ∷ r) path (push_byte e f 10 ends) in
    let p2 = push_then c d f (λ r. codes " /" ++ r) (λ r. put_path s.path (10 ∷ r)) (push_bytes c d (codes " /") slash) p1 in
    let p3 = push_then b c f (put_rule s.rule) (λ r. codes " /" ++ put_path s.path (10 ∷ r)) rule p2 in
    push_then a b f (λ r. codes "step " ++ r) (λ r. put_rule s.rule (codes " /" ++ put_path s.path (10 ∷ r))) (push_bytes a b (codes "step ") word) p3

-- the line of what is put for a variable
pub put_pushes : (p : w.Put) (a b c d e f g h : List ℕ) → b ≡ a ++ codes "put %" → c ≡ b ++ decimal p.number → d ≡ c ++ 58 ∷ [] → Pushes d e (put_part p.kind) → f ≡ e ++ 32 ∷ [] → Pushes f g (put_term p.term) → h ≡ g ++ 10 ∷ [] → Pushes a h (put_put p)
put_pushes p a b c d e f g h word number colon kind space term ends =
    let p1 = push_then f g h (put_term p.term) (λ r. 10 ∷ r) term (push_byte g h 10 ends) in
    let p2 = push_then e f h (λ r. 32 ∷ r) (λ r. put_term p.term (10 ∷ r)) (push_byte e f 32 space) p1 in
    let p3 = push_then d e h (put_part p.kind) (λ r. 32 ∷ put_term p.term (10 ∷ r)) kind p2 in
    let p4 = push_then c d h (λ r. 58 ∷ r) (λ r. put_part p.kind (32 ∷ put_term p.term (10 ∷ r))) (push_byte c d 58 colon) p3 in
    let p5 = push_then b c h (λ r. decimal p.number ++ r) (λ r. 58 ∷ put_part p.kind (32 ∷ put_term p.term (10 ∷ r))) (push_bytes b c (decimal p.number) number) p4 in
    push_then a b h (λ r. codes "put %" ++ r) (λ r. decimal p.number ++ (58 ∷ put_part p.kind (32 ∷ put_term p.term (10 ∷ r)))) (push_bytes a b (codes "put %") word) p5

-- what is pushed with nothing behind it
whole_pushed : (a b : List ℕ) (f : List ℕ → List ℕ) → Pushes a b f → b ≡ a ++ f []
whole_pushed a b f p = sym (append-nil b) ∙ p.behind []

pub no_pushes : (t : RTm) (steps : List taken.Step) (at : List ℕ) (puts : List w.Put) (a b c d e f g h i k : List ℕ) → b ≡ a ++ (codes "NO 1" ++ (10 ∷ codes "term ")) → Pushes b c (put_term t) → d ≡ c ++ 10 ∷ [] → Pushes d e (put_steps steps) → f ≡ e ++ codes "at /" → Pushes f g (put_path at) → h ≡ g ++ 10 ∷ [] → Pushes h i (put_puts puts) → k ≡ i ++ (codes "end" ++ (10 ∷ [])) → k ≡ a ++ text (w.no t steps at puts)
no_pushes t steps at puts a b c d e f g h i k word term ends lines there path stop more last =
    let p1 = push_then h i k (put_puts puts) (λ r. codes "end" ++ (10 ∷ r)) more (push_bytes i k (codes "end" ++ (10 ∷ [])) last) in
    let p2 = push_then g h k (λ r. 10 ∷ r) (λ r. put_puts puts (codes "end" ++ (10 ∷ r))) (push_byte g h 10 stop) p1 in
    let p3 = push_then f g k (put_path at) (λ r. 10 ∷ put_puts puts (codes "end" ++ (10 ∷ r))) path p2 in
    let p4 = push_then e f k (λ r. codes "at /" ++ r) (λ r. put_path at (10 ∷ put_puts puts (codes "end" ++ (10 ∷ r)))) (push_bytes e f (codes "at /") there) p3 in
    let p5 = push_then d e k (put_steps steps) (λ r. codes "at /" ++ put_path at (10 ∷ put_puts puts (codes "end" ++ (10 ∷ r)))) lines p4 in
    let p6 = push_then c d k (λ r. 10 ∷ r) (λ r. put_steps steps (codes "at /" ++ put_path at (10 ∷ put_puts puts (codes "end" ++ (10 ∷ r))))) (push_byte c d 10 ends) p5 in
    let p7 = push_then b c k (put_term t) (λ r. 10 ∷ put_steps steps (codes "at /" ++ put_path at (10 ∷ put_puts puts (codes "end" ++ (10 ∷ r))))) term p6 in
    let p8 = push_then a b k (λ r. codes "NO 1" ++ (10 ∷ (codes "term " ++ r))) (λ r. put_term t (10 ∷ put_steps steps (codes "at /" ++ put_path at (10 ∷ put_puts puts (codes "end" ++ (10 ∷ r)))))) (push_bytes a b (codes "NO 1" ++ (10 ∷ codes "term ")) word) p7 in
    whole_pushed a k (λ r. codes "NO 1" ++ (10 ∷ (codes "term " ++ put_term t (10 ∷ put_steps steps (codes "at /" ++ put_path at (10 ∷ put_puts puts (codes "end" ++ (10 ∷ r)))))))) p8

-- YES certificates

pub entry_pushes : (n : ℕ) (a b c : List ℕ) → b ≡ a ++ 32 ∷ [] → c ≡ b ++ decimal n → Pushes a c (put_entry n)
entry_pushes n a b c space number =
    push_then a b c (λ r. 32 ∷ r) (λ r. decimal n ++ r) (push_byte a b 32 space) (push_bytes b c (decimal n) number)

pub numbers_next : (old a b : List ℕ) (whole : List ℕ → List ℕ) (xs : List ℕ) (i x : ℕ) → Leaves old a (put_numbers (drop i xs)) whole → i < length xs → x ≡ get_or xs i x → Pushes a b (put_entry x) → Leaves old b (put_numbers (drop (i + 1) xs)) whole
numbers_next = next_left put_entry put_numbers (λ x xs r. refl)

pub numbers_end : (old a : List ℕ) (whole : List ℕ → List ℕ) (xs : List ℕ) (i : ℕ) → Leaves old a (put_numbers (drop i xs)) whole → length xs ≤ i → Pushes old a whole
numbers_end = none_left put_numbers (λ r. refl)

pub line_pushes : (xs a b c : List ℕ) → Pushes a b (put_numbers xs) → c ≡ b ++ 10 ∷ [] → Pushes a c (put_line xs)
line_pushes xs a b c list ends = push_then a b c (put_numbers xs) (λ r. 10 ∷ r) list (push_byte b c 10 ends)

pub block_pushes : (xs a b c : List ℕ) → b ≡ a ++ codes "block" → Pushes b c (put_line xs) → Pushes a c (put_block xs)
block_pushes xs a b c word line = push_then a b c (λ r. codes "block" ++ r) (put_line xs) (push_bytes a b (codes "block") word) line

pub blocks_next : (old a b : List ℕ) (whole : List ℕ → List ℕ) (xs : List (List ℕ)) (i : ℕ) (x : List ℕ) → Leaves old a (put_blocks (drop i xs)) whole → i < length xs → x ≡ get_or xs i x → Pushes a b (put_block x) → Leaves old b (put_blocks (drop (i + 1) xs)) whole
blocks_next = next_left put_block put_blocks (λ x xs r. refl)

pub blocks_end : (old a : List ℕ) (whole : List ℕ → List ℕ) (xs : List (List ℕ)) (i : ℕ) → Leaves old a (put_blocks (drop i xs)) whole → length xs ≤ i → Pushes old a whole
blocks_end = none_left put_blocks (λ r. refl)

pub parts_pushes : (parts : List (List ℕ)) (a b c d e : List ℕ) → b ≡ a ++ codes "blocks " → c ≡ b ++ decimal (length parts) → d ≡ c ++ 10 ∷ [] → Pushes d e (put_blocks parts) → Pushes a e (put_node (w.blocks parts))
parts_pushes parts a b c d e word count ends lines =
    let p1 = push_then c d e (λ r. 10 ∷ r) (put_blocks parts) (push_byte c d 10 ends) lines in
    let p2 = push_then b c e (λ r. decimal (length parts) ++ r) (λ r. 10 ∷ put_blocks parts r) (push_bytes b c (decimal (length parts)) count) p1 in
    push_then a b e (λ r. codes "blocks " ++ r) (λ r. decimal (length parts) ++ (10 ∷ put_blocks parts r)) (push_bytes a b (codes "blocks ") word) p2

pub arg_pushes : (x : w.Arg) (a b c d e f : List ℕ) → b ≡ a ++ codes "arg " → c ≡ b ++ x.name → d ≡ c ++ 32 ∷ [] → e ≡ d ++ decimal x.place → f ≡ e ++ 10 ∷ [] → Pushes a f (put_arg x)
arg_pushes x a b c d e f word name space number ends =
    let p1 = push_then d e f (λ r. decimal x.place ++ r) (λ r. 10 ∷ r) (push_bytes d e (decimal x.place) number) (push_byte e f 10 ends) in
    let p2 = push_then c d f (λ r. 32 ∷ r) (λ r. decimal x.place ++ (10 ∷ r)) (push_byte c d 32 space) p1 in
    let p3 = push_then b c f (λ r. x.name ++ r) (λ r. 32 ∷ (decimal x.place ++ (10 ∷ r))) (push_bytes b c x.name name) p2 in
    push_then a b f (λ r. codes "arg " ++ r) (λ r. x.name ++ (32 ∷ (decimal x.place ++ (10 ∷ r)))) (push_bytes a b (codes "arg ") word) p3

pub args_next : (old a b : List ℕ) (whole : List ℕ → List ℕ) (xs : List Arg) (i : ℕ) (x : Arg) → Leaves old a (put_args (map said_arg (drop i xs))) whole → i < length xs → x ≡ get_or xs i x → Pushes a b (put_arg (said_arg x)) → Leaves old b (put_args (map said_arg (drop (i + 1) xs))) whole
args_next = next_left (λ (x : Arg). put_arg (said_arg x)) (λ (xs : List Arg). put_args (map said_arg xs)) (λ x xs r. refl)

pub args_end : (old a : List ℕ) (whole : List ℕ → List ℕ) (xs : List Arg) (i : ℕ) → Leaves old a (put_args (map said_arg (drop i xs))) whole → length xs ≤ i → Pushes old a whole
args_end = none_left (λ (xs : List Arg). put_args (map said_arg xs)) (λ r. refl)

pub subterm_pushes : (args : List w.Arg) (dropped a b c d e : List ℕ) → b ≡ a ++ (codes "subterm" ++ (10 ∷ [])) → Pushes b c (put_args args) → d ≡ c ++ codes "drop" → Pushes d e (put_line dropped) → Pushes a e (put_node (w.subterm args dropped))
subterm_pushes args dropped a b c d e word lines last list =
    let p1 = push_then c d e (λ r. codes "drop" ++ r) (put_line dropped) (push_bytes c d (codes "drop") last) list in
    let p2 = push_then b c e (put_args args) (λ r. codes "drop" ++ put_line dropped r) lines p1 in
    push_then a b e (λ r. codes "subterm" ++ (10 ∷ r)) (λ r. put_args args (codes "drop" ++ put_line dropped r)) (push_bytes a b (codes "subterm" ++ (10 ∷ [])) word) p2

pub done_pushes : (a b : List ℕ) → b ≡ a ++ (codes "done" ++ (10 ∷ [])) → Pushes a b (put_node w.done)
done_pushes a b e = push_bytes a b (codes "done" ++ (10 ∷ [])) e

pub alone_pushes : (a b : List ℕ) → b ≡ a ++ (codes "alone" ++ (10 ∷ [])) → Pushes a b (put_node w.alone)
alone_pushes a b e = push_bytes a b (codes "alone" ++ (10 ∷ [])) e

pub nodes_next : (old a b : List ℕ) (whole : List ℕ → List ℕ) (xs : List Node) (i : ℕ) (x : Node) → Leaves old a (put_nodes (map said_node (drop i xs))) whole → i < length xs → x ≡ get_or xs i x → Pushes a b (put_node (said_node x)) → Leaves old b (put_nodes (map said_node (drop (i + 1) xs))) whole
nodes_next = next_left (λ (x : Node). put_node (said_node x)) (λ (xs : List Node). put_nodes (map said_node xs)) (λ x xs r. refl)

pub nodes_end : (old a : List ℕ) (whole : List ℕ → List ℕ) (xs : List Node) (i : ℕ) → Leaves old a (put_nodes (map said_node (drop i xs))) whole → length xs ≤ i → Pushes old a whole
nodes_end = none_left (λ (xs : List Node). put_nodes (map said_node xs)) (λ r. refl)

pub yes_pushes : (version : ℕ) (ranks : List ℕ) (pairs : ℕ) (nodes : List w.Node) (a b c d e f g h i k : List ℕ) → b ≡ a ++ codes "YES " → c ≡ b ++ decimal version → d ≡ c ++ (10 ∷ codes "ranks") → Pushes d e (put_line ranks) → f ≡ e ++ codes "pairs " → g ≡ f ++ decimal pairs → h ≡ g ++ 10 ∷ [] → Pushes h i (put_nodes nodes) → k ≡ i ++ (codes "end" ++ (10 ∷ [])) → k ≡ a ++ text (w.yes version ranks pairs nodes)
yes_pushes version ranks pairs nodes a b c d e f g h i k word one second list third count ends lines last =
    let p1 = push_then h i k (put_nodes nodes) (λ r. codes "end" ++ (10 ∷ r)) lines (push_bytes i k (codes "end" ++ (10 ∷ [])) last) in
    let p2 = push_then g h k (λ r. 10 ∷ r) (λ r. put_nodes nodes (codes "end" ++ (10 ∷ r))) (push_byte g h 10 ends) p1 in
    let p3 = push_then f g k (λ r. decimal pairs ++ r) (λ r. 10 ∷ put_nodes nodes (codes "end" ++ (10 ∷ r))) (push_bytes f g (decimal pairs) count) p2 in
    let p4 = push_then e f k (λ r. codes "pairs " ++ r) (λ r. decimal pairs ++ (10 ∷ put_nodes nodes (codes "end" ++ (10 ∷ r)))) (push_bytes e f (codes "pairs ") third) p3 in
    let p5 = push_then d e k (put_line ranks) (λ r. codes "pairs " ++ (decimal pairs ++ (10 ∷ put_nodes nodes (codes "end" ++ (10 ∷ r))))) list p4 in
    let p6 = push_then c d k (λ r. 10 ∷ (codes "ranks" ++ r)) (λ r. put_line ranks (codes "pairs " ++ (decimal pairs ++ (10 ∷ put_nodes nodes (codes "end" ++ (10 ∷ r)))))) (push_bytes c d (10 ∷ codes "ranks") second) p5 in
    let p7 = push_then b c k (λ r. decimal version ++ r) (λ r. 10 ∷ (codes "ranks" ++ put_line ranks (codes "pairs " ++ (decimal pairs ++ (10 ∷ put_nodes nodes (codes "end" ++ (10 ∷ r))))))) (push_bytes b c (decimal version) one) p6 in
    let p8 = push_then a b k (λ r. codes "YES " ++ r) (λ r. decimal version ++ (10 ∷ (codes "ranks" ++ put_line ranks (codes "pairs " ++ (decimal pairs ++ (10 ∷ put_nodes nodes (codes "end" ++ (10 ∷ r)))))))) (push_bytes a b (codes "YES ") word) p7 in
    whole_pushed a k (λ r. codes "YES " ++ (decimal version ++ (10 ∷ (codes "ranks" ++ put_line ranks (codes "pairs " ++ (decimal pairs ++ (10 ∷ put_nodes nodes (codes "end" ++ (10 ∷ r))))))))) p8
