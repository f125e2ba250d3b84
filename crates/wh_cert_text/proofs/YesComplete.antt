-- The reader of certificates reads each text of a YES certificate.
use Rattle.std.proofs.Common.{◌≡◌, ℕ, zero, suc, ◌+◌, ◌-◌, ◌*◌, ◌<◌, Bool, true, cond, ◌&&◌, ◌==◌, nat_lt, List, [], ◌∷◌, ◌++◌, length, codes, Some, None, refl, sym, ap, ◌∙◌, subst, arith, ⊎_elim, append_assoc, append-nil}
use Rattle.std.specs.List.{All}
use Rattle.std.proofs.lemmas.Bool.{cond-true, lt-ltb, and_from}
use Rattle.std.proofs.lemmas.List.Elements.{All-head, All-tail}
use Rattle.std.specs.Fmt.{decimal}
use Rattle.std.proofs.lemmas.Fmt.{decimal_digit}
use Rattle.wh_text.specs.Chars.{is_digit, is_start, is_part}
use Rattle.wh_cert_letters.specs.Digits.{goes_on}
use Rattle.wh_cert_letters.proofs.NamesAndNumbers.{ReadsNames, name_run, ReadsNumbers, number_run, is_digit_48, goes_on_48}
use Rattle.wh_cert.specs.TermLimits.{IsSmall}
use Rattle.wh_cert.specs.Written.{Arg, Node, done, alone, blocks, subterm, interpretations, order, children, Preorder}
use Rattle.wh_cert.specs.Text.{put_numbers, put_blocks, put_arg, put_args, put_node, put_nodes, put_interps, put_covers, put_filterings, put_all_shown}
use Rattle.wh_cert.specs.Limits.{ArgFits, NodeFits, IsVersion, IsOfVersion}
use Rattle.wh_cert_machines.specs.YesMachine.{Listed, of_ranks, of_block, of_drop, of_usable, of_poly, of_order, Counted, of_pairs, of_blocks, of_place, of_list, to_list, node_item, word, listed, number_wanted, number, front, arg_front, name_wanted, letters, LineStep, on, refused, list_ended, number_ended, front_step, Past, so_far, gather, version_of, wants}
use Rattle.wh_cert_machines.specs.LineMachine.{stands_yes, standing_after_yes, run, start}
use Rattle.wh_cert_text.proofs.LinesComplete.{lines_run}
use Rattle.wh_cert_text.proofs.OrderComplete.{order_run}

-- names and numbers

reads_numbers : (h : Past) (of : Counted) → ReadsNumbers (λ (r : List ℕ). run (stands_yes h (number_wanted of)) r) (λ (n : ℕ) (r : List ℕ). run (stands_yes h (number of n)) r)
reads_numbers h of = record {
  starts = λ d r low. ap (λ (s : LineStep). run (standing_after_yes h s) r) (cond-true (is_digit (48 + d)) (on (number of (48 + d - 48))) refused (is_digit_48 d low)) ∙ ap (λ (n : ℕ). run (stands_yes h (number of n)) r) (omega arith);
  goes = λ n d r some below fits. ap (λ (s : LineStep). run (standing_after_yes h s) r) (cond-true (goes_on n (48 + d)) (on (number of (10 * n + (48 + d - 48)))) (number_ended of n (48 + d)) (goes_on_48 n d some below fits)) ∙ ap (λ (i : ℕ). run (stands_yes h (number of i)) r) (omega arith);
}

pub counted_run : (h : Past) (of : Counted) (n : ℕ) (r : List ℕ) → IsSmall n → run (stands_yes h (number_wanted of)) (decimal n ++ r) ≡ run (stands_yes h (number of n)) r
counted_run h of n r small = number_run _ _ (reads_numbers h of) n r small

reads_names : (h : Past) (args : List Arg) → ReadsNames (λ (r : List ℕ). run (stands_yes h (name_wanted args)) r) (λ (xs r : List ℕ). run (stands_yes h (letters args xs)) r)
reads_names h args = record {
  starts = λ b r is. ap (λ (s : LineStep). run (standing_after_yes h s) r) (cond-true (is_start b) (on (letters args (b ∷ []))) refused is);
  goes = λ xs b r is short. ap (λ (s : LineStep). run (standing_after_yes h s) r) (cond-true (is_part b && nat_lt (length xs) 64) (on (letters args (xs ++ b ∷ []))) (cond (b == 32) (on (number_wanted (of_place args xs))) refused) (and_from (is_part b) (nat_lt (length xs) 64) is (lt-ltb (length xs) 64 short)));
}

-- lists of numbers

-- behind a number a list goes on as behind its word
next_number : (h : Past) (of : Listed) (xs : List ℕ) (n : ℕ) (ys r : List ℕ) → run (stands_yes h (number (of_list of xs) n)) (put_numbers ys (10 ∷ r)) ≡ run (stands_yes h (listed of (xs ++ n ∷ []))) (put_numbers ys (10 ∷ r))
next_number h of xs n [] r = refl
next_number h of xs n (m ∷ ys) r = refl

pub numbers_run : (h : Past) (of : Listed) (xs ys r : List ℕ) → All IsSmall ys → run (stands_yes h (listed of xs)) (put_numbers ys (10 ∷ r)) ≡ run (standing_after_yes h (list_ended of (xs ++ ys))) r
numbers_run h of xs [] r small = ap (λ (zs : List ℕ). run (standing_after_yes h (list_ended of zs)) r) (sym (append-nil xs))
numbers_run h of xs (n ∷ ys) r small =
    counted_run h (of_list of xs) n (put_numbers ys (10 ∷ r)) (All-head IsSmall n ys small)
    ∙ next_number h of xs n ys r
    ∙ numbers_run h of (xs ++ n ∷ []) ys r (All-tail IsSmall n ys small)
    ∙ ap (λ (zs : List ℕ). run (standing_after_yes h (list_ended of zs)) r) (append_assoc xs (n ∷ []) ys)

pub blocks_run : (h : Past) (parts : List (List ℕ)) (b : List ℕ) (bs : List (List ℕ)) (r : List ℕ) → All (All IsSmall) (b ∷ bs) → run (stands_yes h (word (codes "block") (to_list (of_block (length bs) parts)))) (put_blocks (b ∷ bs) r) ≡ run (stands_yes (gather h (node_item (blocks (parts ++ b ∷ bs)))) front) r
blocks_run h parts b [] r small = numbers_run h (of_block 0 parts) [] b r (All-head (All IsSmall) b [] small)
blocks_run h parts b (c ∷ cs) r small =
    numbers_run h (of_block (suc (length cs)) parts) [] b (put_blocks (c ∷ cs) r) (All-head (All IsSmall) b (c ∷ cs) small)
    ∙ blocks_run h (parts ++ b ∷ []) c cs r (All-tail (All IsSmall) b (c ∷ cs) small)
    ∙ ap (λ (zs : List (List ℕ)). run (stands_yes (gather h (node_item (blocks zs))) front) r) (append_assoc parts (b ∷ []) (c ∷ cs))

arg_run : (h : Past) (args : List Arg) (a : Arg) (r : List ℕ) → ArgFits a → run (stands_yes h (arg_front args)) (put_arg a r) ≡ run (stands_yes h (arg_front (args ++ a ∷ []))) r
arg_run h args a r fits =
    name_run _ _ (reads_names h args) a.name (32 ∷ (decimal a.place ++ (10 ∷ r))) fits.name
    ∙ counted_run h (of_place args a.name) a.place (10 ∷ r) fits.place

args_run : (h : Past) (read args : List Arg) (r : List ℕ) → All ArgFits args → run (stands_yes h (arg_front read)) (put_args args r) ≡ run (stands_yes h (arg_front (read ++ args))) r
args_run h read [] r fits = ap (λ (zs : List Arg). run (stands_yes h (arg_front zs)) r) (sym (append-nil read))
args_run h read (a ∷ args) r fits =
    arg_run h read a (put_args args r) (All-head ArgFits a args fits)
    ∙ args_run h (read ++ a ∷ []) args r (All-tail ArgFits a args fits)
    ∙ ap (λ (zs : List Arg). run (stands_yes h (arg_front zs)) r) (append_assoc read (a ∷ []) args)

-- nodes

front_run : (h : Past) (b : ℕ) (r : List ℕ) → wants h ≡ true → run (stands_yes h front) (b ∷ r) ≡ run (standing_after_yes h (front_step (version_of h) true b)) r
front_run h b r e = ap (λ (w : Bool). run (standing_after_yes h (front_step (version_of h) w b)) r) e

pub node_run : (h : Past) (x : Node) (r : List ℕ) → NodeFits x → IsOfVersion (version_of h) x → wants h ≡ true → run (stands_yes h front) (put_node x r) ≡ run (stands_yes (gather h (node_item x)) front) r
node_run h done r fits v e = front_run h 100 (codes "one" ++ (10 ∷ r)) e
node_run h alone r fits v e = front_run h 97 (codes "lone" ++ (10 ∷ r)) e
node_run h (blocks []) r fits v e =
    front_run h 98 (codes "locks " ++ (decimal 0 ++ (10 ∷ r))) e ∙ counted_run h of_blocks 0 (10 ∷ r) (omega arith)
node_run h (blocks (b ∷ bs)) r fits v e =
    front_run h 98 (codes "locks " ++ (decimal (suc (length bs)) ++ (10 ∷ put_blocks (b ∷ bs) r))) e
    ∙ counted_run h of_blocks (suc (length bs)) (10 ∷ put_blocks (b ∷ bs) r) fits.0
    ∙ blocks_run h [] b bs r fits.1
node_run h (subterm args drop) r fits v e =
    front_run h 115 (codes "ubterm" ++ (10 ∷ put_args args (codes "drop" ++ put_numbers drop (10 ∷ r)))) e
    ∙ args_run h [] args (codes "drop" ++ put_numbers drop (10 ∷ r)) fits.0
    ∙ numbers_run h (of_drop args) [] drop r fits.1
node_run h (order funs marks rules pairs drop) r fits v e =
    let lines : List ℕ = codes "rder" ++ (10 ∷ put_filterings (codes "fun ") funs (put_filterings (codes "mark ") marks (put_all_shown (codes "rule ") rules (put_all_shown (codes "pair ") pairs (codes "drop" ++ put_numbers drop (10 ∷ r)))))) in
    front_run h 111 lines e
    ∙ ap (λ (n : ℕ). run (standing_after_yes h (front_step n true 111)) lines) v
    ∙ order_run h funs marks rules pairs (put_numbers drop (10 ∷ r)) fits.0 fits.1 fits.2 fits.3
    ∙ numbers_run h (of_order funs marks rules pairs) [] drop r fits.4
node_run h (interpretations None funs marks rules pairs drop) r fits v e =
    let lines : List ℕ = codes "oly" ++ (10 ∷ put_interps (codes "fun ") funs (put_interps (codes "mark ") marks (put_covers (codes "rule") rules (put_covers (codes "pair") pairs (codes "drop" ++ put_numbers drop (10 ∷ r)))))) in
    front_run h 112 lines e
    ∙ ap (λ (n : ℕ). run (standing_after_yes h (front_step n true 112)) lines) v
    ∙ lines_run h None funs marks rules pairs (put_numbers drop (10 ∷ r)) fits.1 fits.2 fits.3 fits.4
    ∙ numbers_run h (of_poly None funs marks rules pairs) [] drop r fits.5
node_run h (interpretations (Some ns) funs marks rules pairs drop) r fits v e =
    let rest : List ℕ = put_interps (codes "fun ") funs (put_interps (codes "mark ") marks (put_covers (codes "rule") rules (put_covers (codes "pair") pairs (codes "drop" ++ put_numbers drop (10 ∷ r))))) in
    let lines : List ℕ = codes "oly" ++ (10 ∷ (codes "usable" ++ put_numbers ns (10 ∷ rest))) in
    front_run h 112 lines e
    ∙ ap (λ (n : ℕ). run (standing_after_yes h (front_step n true 112)) lines) v
    ∙ numbers_run h of_usable [] ns rest fits.0
    ∙ lines_run h (Some ns) funs marks rules pairs (put_numbers drop (10 ∷ r)) fits.1 fits.2 fits.3 fits.4
    ∙ numbers_run h (of_poly (Some ns) funs marks rules pairs) [] drop r fits.5

pub wants_some : (k : ℕ) → 0 < k → nat_lt 0 k ≡ true
wants_some k some = lt-ltb 0 k some

nodes_run : (version : ℕ) (ranks : List ℕ) (pairs k : ℕ) (read nodes : List Node) (r : List ℕ) → All NodeFits nodes → All (IsOfVersion version) nodes → Preorder k nodes → run (stands_yes (so_far version ranks pairs read k) front) (put_nodes nodes r) ≡ run (stands_yes (so_far version ranks pairs (read ++ nodes) 0) front) r
nodes_run version ranks pairs zero read [] r fits v p =
    ap (λ (zs : List Node). run (stands_yes (so_far version ranks pairs zs 0) front) r) (sym (append-nil read))
nodes_run version ranks pairs zero read (x ∷ nodes) r fits v p = absurd p
nodes_run version ranks pairs (suc k) read [] r fits v p = absurd p
nodes_run version ranks pairs (suc k) read (x ∷ nodes) r fits v p =
    let less : children x + (suc k - 1) ≡ children x + k = omega arith in
    node_run (so_far version ranks pairs read (suc k)) x (put_nodes nodes r) (All-head NodeFits x nodes fits) (All-head (IsOfVersion version) x nodes v) (wants_some (suc k) (omega arith))
    ∙ ap (λ (j : ℕ). run (stands_yes (so_far version ranks pairs (read ++ x ∷ []) j) front) (put_nodes nodes r)) less
    ∙ nodes_run version ranks pairs (children x + k) (read ++ x ∷ []) nodes r (All-tail NodeFits x nodes fits) (All-tail (IsOfVersion version) x nodes v) p
    ∙ ap (λ (zs : List Node). run (stands_yes (so_far version ranks pairs zs 0) front) r) (append_assoc read (x ∷ []) nodes)

-- the version, up to the line of the ranks

digit_run : (v : ℕ) (r : List ℕ) → ((w : List ℕ) → run start (codes "YES " ++ ((48 + v) ∷ w)) ≡ run (stands_yes (so_far v [] 0 [] 0) (word (10 ∷ codes "ranks") (to_list of_ranks))) w) → v < 10
    → run start (codes "YES " ++ (decimal v ++ (10 ∷ (codes "ranks" ++ r)))) ≡ run (stands_yes (so_far v [] 0 [] 0) (listed of_ranks [])) r
digit_run v r leads low =
    ap (λ (ds : List ℕ). run start (codes "YES " ++ (ds ++ (10 ∷ (codes "ranks" ++ r))))) (decimal_digit v low) ∙ leads (10 ∷ (codes "ranks" ++ r))

pub version_run : (version : ℕ) (r : List ℕ) → IsVersion version → run start (codes "YES " ++ (decimal version ++ (10 ∷ (codes "ranks" ++ r)))) ≡ run (stands_yes (so_far version [] 0 [] 0) (listed of_ranks [])) r
version_run version r is =
    let Runs : ℕ → Type 0 = λ v. run start (codes "YES " ++ (decimal v ++ (10 ∷ (codes "ranks" ++ r)))) ≡ run (stands_yes (so_far v [] 0 [] 0) (listed of_ranks [])) r in
    ⊎_elim
    (λ (e : version ≡ 1). subst Runs (sym e) (digit_run 1 r (λ w. refl) (omega arith)))
    (λ (e : version ≡ 2). subst Runs (sym e) (digit_run 2 r (λ w. refl) (omega arith)))
    is

pub yes_run : (version : ℕ) (ranks : List ℕ) (pairs : ℕ) (nodes : List Node) (r : List ℕ) → IsVersion version → All IsSmall ranks → IsSmall pairs → All NodeFits nodes → All (IsOfVersion version) nodes → Preorder 1 nodes → run start (codes "YES " ++ (decimal version ++ (10 ∷ (codes "ranks" ++ put_numbers ranks (10 ∷ (codes "pairs " ++ (decimal pairs ++ (10 ∷ put_nodes nodes r)))))))) ≡ run (stands_yes (so_far version ranks pairs nodes 0) front) r
yes_run version ranks pairs nodes r is small few fits v p =
    version_run version (put_numbers ranks (10 ∷ (codes "pairs " ++ (decimal pairs ++ (10 ∷ put_nodes nodes r))))) is
    ∙ numbers_run (so_far version [] 0 [] 0) of_ranks [] ranks (codes "pairs " ++ (decimal pairs ++ (10 ∷ put_nodes nodes r))) small
    ∙ counted_run (so_far version ranks 0 [] 0) of_pairs pairs (10 ∷ put_nodes nodes r) few
    ∙ nodes_run version ranks pairs 1 [] nodes r fits v p
