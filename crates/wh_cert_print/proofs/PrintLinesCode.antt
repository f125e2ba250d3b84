-- What the printers of the lines of a node of interpretations append, one after another.
use Rattle.std.proofs.Common.{◌≡◌, ℕ, ◌+◌, ◌<◌, ◌≤◌, List, [], ◌∷◌, ◌++◌, length, get_or, drop, map, codes, Option, Some, None, refl}
use Rattle.std.specs.Fmt.{decimal}
use Rattle.wh_hopoly.specs.declared.expression.Move as moved
use Rattle.wh_text.specs.Pushes.{Pushes}
use Rattle.wh_text.proofs.PrintLemmas.{push_bytes, push_byte, push_then, Leaves}
use Rattle.wh_cert.specs.PolyText.{put_poly}
use Rattle.wh_cert_print.proofs.PrintedLists.{next_left, none_left}
use Rattle.wh_cert.specs.Interps as w
use Rattle.wh_cert.specs.Written.{interpretations}
use Rattle.wh_cert.specs.Text.{put_interp, put_interps, put_move, put_moves, put_cover, put_covers, put_line, put_usable, put_node}
use Rattle.wh_cert.specs.Said.{said_interp}
use Rattle.wh_cert.specs.declared.poly_node.Interp.{Interp}

-- lines of interpretations

pub interps_next : (word old a b : List ℕ) (whole : List ℕ → List ℕ) (xs : List Interp) (i : ℕ) (x : Interp) → Leaves old a (put_interps word (map said_interp (drop i xs))) whole → i < length xs → x ≡ get_or xs i x → Pushes a b (put_interp word (said_interp x)) → Leaves old b (put_interps word (map said_interp (drop (i + 1) xs))) whole
interps_next word = next_left (λ (x : Interp). put_interp word (said_interp x)) (λ (xs : List Interp). put_interps word (map said_interp xs)) (λ x xs r. refl)

pub interps_end : (word old a : List ℕ) (whole : List ℕ → List ℕ) (xs : List Interp) (i : ℕ) → Leaves old a (put_interps word (map said_interp (drop i xs))) whole → length xs ≤ i → Pushes old a whole
interps_end word = none_left (λ (xs : List Interp). put_interps word (map said_interp xs)) (λ r. refl)

pub interp_pushes : (word : List ℕ) (i : w.Interp) (a b c d e f : List ℕ) → b ≡ a ++ word → c ≡ b ++ i.name → d ≡ c ++ 32 ∷ [] → Pushes d e (put_poly i.poly) → f ≡ e ++ 10 ∷ [] → Pushes a f (put_interp word i)
interp_pushes word i a b c d e f first name space part ends =
    let p1 = push_then d e f (put_poly i.poly) (λ r. 10 ∷ r) part (push_byte e f 10 ends) in
    let p2 = push_then c d f (λ r. 32 ∷ r) (λ r. put_poly i.poly (10 ∷ r)) (push_byte c d 32 space) p1 in
    let p3 = push_then b c f (λ r. i.name ++ r) (λ r. 32 ∷ put_poly i.poly (10 ∷ r)) (push_bytes b c i.name name) p2 in
    push_then a b f (λ r. word ++ r) (λ r. i.name ++ (32 ∷ put_poly i.poly (10 ∷ r))) (push_bytes a b word first) p3

-- lines of moves

pub covers_next : (word old a b : List ℕ) (whole : List ℕ → List ℕ) (xs : List (List moved.Move)) (i : ℕ) (x : List moved.Move) → Leaves old a (put_covers word (drop i xs)) whole → i < length xs → x ≡ get_or xs i x → Pushes a b (put_cover word x) → Leaves old b (put_covers word (drop (i + 1) xs)) whole
covers_next word = next_left (put_cover word) (put_covers word) (λ x xs r. refl)

pub covers_end : (word old a : List ℕ) (whole : List ℕ → List ℕ) (xs : List (List moved.Move)) (i : ℕ) → Leaves old a (put_covers word (drop i xs)) whole → length xs ≤ i → Pushes old a whole
covers_end word = none_left (put_covers word) (λ r. refl)

pub cover_pushes : (word : List ℕ) (ms : List moved.Move) (a b c d : List ℕ) → b ≡ a ++ word → Pushes b c (put_moves ms) → d ≡ c ++ 10 ∷ [] → Pushes a d (put_cover word ms)
cover_pushes word ms a b c d first list ends =
    push_then a b d (λ r. word ++ r) (λ r. put_moves ms (10 ∷ r)) (push_bytes a b word first) (push_then b c d (put_moves ms) (λ r. 10 ∷ r) list (push_byte c d 10 ends))

pub moves_next : (old a b : List ℕ) (whole : List ℕ → List ℕ) (xs : List moved.Move) (i : ℕ) (x : moved.Move) → Leaves old a (put_moves (drop i xs)) whole → i < length xs → x ≡ get_or xs i x → Pushes a b (put_move x) → Leaves old b (put_moves (drop (i + 1) xs)) whole
moves_next = next_left put_move put_moves (λ x xs r. refl)

pub moves_end : (old a : List ℕ) (whole : List ℕ → List ℕ) (xs : List moved.Move) (i : ℕ) → Leaves old a (put_moves (drop i xs)) whole → length xs ≤ i → Pushes old a whole
moves_end = none_left put_moves (λ r. refl)

pub move_pushes : (m : moved.Move) (a b c d e f g : List ℕ) → b ≡ a ++ 32 ∷ [] → c ≡ b ++ decimal m.from → d ≡ c ++ 62 ∷ [] → e ≡ d ++ decimal m.to → f ≡ e ++ 58 ∷ [] → g ≡ f ++ decimal m.amount → Pushes a g (put_move m)
move_pushes m a b c d e f g space from over to colon amount =
    let p1 = push_then e f g (λ r. 58 ∷ r) (λ r. decimal m.amount ++ r) (push_byte e f 58 colon) (push_bytes f g (decimal m.amount) amount) in
    let p2 = push_then d e g (λ r. decimal m.to ++ r) (λ r. 58 ∷ (decimal m.amount ++ r)) (push_bytes d e (decimal m.to) to) p1 in
    let p3 = push_then c d g (λ r. 62 ∷ r) (λ r. decimal m.to ++ (58 ∷ (decimal m.amount ++ r))) (push_byte c d 62 over) p2 in
    let p4 = push_then b c g (λ r. decimal m.from ++ r) (λ r. 62 ∷ (decimal m.to ++ (58 ∷ (decimal m.amount ++ r)))) (push_bytes b c (decimal m.from) from) p3 in
    push_then a b g (λ r. 32 ∷ r) (λ r. decimal m.from ++ (62 ∷ (decimal m.to ++ (58 ∷ (decimal m.amount ++ r))))) (push_byte a b 32 space) p4

-- a node of interpretations

pub usable_pushes : (ns a b c : List ℕ) → b ≡ a ++ codes "usable" → Pushes b c (put_line ns) → Pushes a c (put_usable (Some ns))
usable_pushes ns a b c word list = push_then a b c (λ r. codes "usable" ++ r) (put_line ns) (push_bytes a b (codes "usable") word) list

pub no_usable_pushes : (a : List ℕ) → Pushes a a (put_usable None)
no_usable_pushes a = record { behind = λ r. refl }

pub interpretations_push : (usable : Option (List ℕ)) (funs marks : List w.Interp) (rules pairs : List (List moved.Move)) (dropped a b c d e f g h i : List ℕ) → b ≡ a ++ (codes "poly" ++ (10 ∷ [])) → Pushes b c (put_usable usable)
    → Pushes c d (put_interps (codes "fun ") funs) → Pushes d e (put_interps (codes "mark ") marks) → Pushes e f (put_covers (codes "rule") rules) → Pushes f g (put_covers (codes "pair") pairs) → h ≡ g ++ codes "drop" → Pushes h i (put_line dropped) → Pushes a i (put_node (interpretations usable funs marks rules pairs dropped))
interpretations_push usable funs marks rules pairs dropped a b c d e f g h i word listed first second third fourth last list =
    let p1 = push_then g h i (λ r. codes "drop" ++ r) (put_line dropped) (push_bytes g h (codes "drop") last) list in
    let p2 = push_then f g i (put_covers (codes "pair") pairs) (λ r. codes "drop" ++ put_line dropped r) fourth p1 in
    let p3 = push_then e f i (put_covers (codes "rule") rules) (λ r. put_covers (codes "pair") pairs (codes "drop" ++ put_line dropped r)) third p2 in
    let p4 = push_then d e i (put_interps (codes "mark ") marks) (λ r. put_covers (codes "rule") rules (put_covers (codes "pair") pairs (codes "drop" ++ put_line dropped r))) second p3 in
    let p5 = push_then c d i (put_interps (codes "fun ") funs) (λ r. put_interps (codes "mark ") marks (put_covers (codes "rule") rules (put_covers (codes "pair") pairs (codes "drop" ++ put_line dropped r)))) first p4 in
    let p6 = push_then b c i (put_usable usable) (λ r. put_interps (codes "fun ") funs (put_interps (codes "mark ") marks (put_covers (codes "rule") rules (put_covers (codes "pair") pairs (codes "drop" ++ put_line dropped r))))) listed p5 in
    push_then a b i (λ r. codes "poly" ++ (10 ∷ r)) (λ r. put_usable usable (put_interps (codes "fun ") funs (put_interps (codes "mark ") marks (put_covers (codes "rule") rules (put_covers (codes "pair") pairs (codes "drop" ++ put_line dropped r)))))) (push_bytes a b (codes "poly" ++ (10 ∷ [])) word) p6
