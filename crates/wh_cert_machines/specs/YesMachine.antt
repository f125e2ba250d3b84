-- A reader of YES certificates, byte by byte, as a function: what it stands before in the present line or node, and the
-- items that the lines give. It mirrors the code; the laws of wh_cert_text tie it to the text.
use Rattle.std.specs.Prelude.{ℕ, zero, suc, ◌+◌, ◌-◌, ◌*◌, ◌==◌, ◌&&◌, nat_lt, Bool, cond, List, [], ◌∷◌, ◌++◌, length, codes, Option, Some, None}
use Rattle.wh_types.specs.Limits.{longest_name}
use Rattle.wh_text.specs.Chars.{line_feed, space, is_digit, is_start, is_part}
use Rattle.wh_hopoly.specs.declared.expression.Move as moved
use Rattle.wh_cert_letters.specs.Digits.{goes_on}
use Rattle.wh_order_inference.specs.Inferences.{Inference}
use Rattle.wh_cert.specs.Interps.{Interp}
use Rattle.wh_cert.specs.Written.{Arg, Filtering, Node, done, alone, blocks, subterm, interpretations, order, children}
use Rattle.wh_cert_lines.specs.OrderLines as orders
use Rattle.wh_cert_lines.specs.PolyLines as l
use Rattle.wh_cert_lines.specs.PolyLines.{Lines, in_funs, in_marks, in_rules, in_pairs, LinesPlace, lines_front, LinesStep, begins, drops, line_first, line_rest, line_begun, lines_step}

-- what lines give: the version, ranks, the number of pairs, a node, the end
pub data Item : Type 0 where
  version_item : (version : ℕ) → Item
  ranks_item : (ranks : List ℕ) → Item
  pairs_item : (pairs : ℕ) → Item
  node_item : (x : Node) → Item
  end_item : Item

-- a list of numbers: the ranks; a block, with the blocks before it and how many come behind it; the rules that are to
-- be covered; the pairs that are dropped, with the arguments that are looked at, with the rules that are to be covered,
-- where they are listed, interpretations and moves, or with filters and inferences
pub data Listed : Type 0 where
  of_ranks : Listed
  of_block : (left : ℕ) (parts : List (List ℕ)) → Listed
  of_drop : (args : List Arg) → Listed
  of_usable : Listed
  of_poly : (usable : Option (List ℕ)) (funs marks : List Interp) (rules pairs : List (List moved.Move)) → Listed
  of_order : (funs marks : List Filtering) (rules pairs : List Inference) → Listed

-- a number: of pairs; of blocks; of the argument of the symbol with this name; one more of a list
pub data Counted : Type 0 where
  of_pairs of_blocks : Counted
  of_place : (args : List Arg) (name : List ℕ) → Counted
  of_list : (of : Listed) (xs : List ℕ) → Counted

-- what stands behind a fixed word
pub data Behind : Type 0 where
  to_version : Behind
  to_list : (of : Listed) → Behind
  to_pairs to_done to_alone to_blocks to_subterm : Behind
  to_name : (args : List Arg) → Behind
  to_poly : Behind
  to_line : (usable : Option (List ℕ)) (x : Lines) → Behind
  to_order : Behind
  to_order_line : (x : orders.Lines) → Behind
  to_finish : Behind

-- the place: what is left of a fixed word; behind `YES `; numbers of a list, behind the last one; before a number; in a
-- number; the front of a node, or of the end; the front of a line of `arg` or `drop`; behind `arg `; a part of a name;
-- a part of the lines of a node of interpretations, behind the rules that are to be covered, or of a path order; behind
-- all
pub data Place : Type 0 where
  word : (rest : List ℕ) (behind : Behind) → Place
  version_wanted : Place
  listed : (of : Listed) (xs : List ℕ) → Place
  number_wanted : (of : Counted) → Place
  number : (of : Counted) (n : ℕ) → Place
  front : Place
  arg_front name_wanted : (args : List Arg) → Place
  letters : (args : List Arg) (xs : List ℕ) → Place
  poly_lines : (usable : Option (List ℕ)) (x : Lines) (k : LinesPlace) → Place
  order_lines : (x : orders.Lines) (k : orders.LinesPlace) → Place
  finished : Place

-- where a byte leads: on; on, with an item; nowhere
pub data LineStep : Type 0 where
  on : (p : Place) → LineStep
  gives : (i : Item) (p : Place) → LineStep
  refused : LineStep

-- the fixed word whose end leads there; that of `done` without its first byte, behind which no other word goes on.
-- Behind `poly` nothing but `usable` may come in version 2, so both are read as one word; the list is kept beside the
-- lines and goes into the node at its end, so that the reader of lines knows no version.
abbrev pub spelling : Behind → List ℕ
spelling to_version = codes "YES "
spelling (to_list of_ranks) = line_feed ∷ codes "ranks"
spelling (to_list (of_block left parts)) = codes "block"
spelling (to_list (of_drop args)) = codes "drop"
spelling (to_list of_usable) = codes "poly" ++ (line_feed ∷ codes "usable")
spelling (to_list (of_poly usable funs marks rules pairs)) = codes "drop"
spelling (to_list (of_order funs marks rules pairs)) = codes "drop"
spelling to_pairs = codes "pairs "
spelling to_done = codes "one" ++ (line_feed ∷ [])
spelling to_alone = codes "alone" ++ (line_feed ∷ [])
spelling to_blocks = codes "blocks "
spelling to_subterm = codes "subterm" ++ (line_feed ∷ [])
spelling (to_name args) = codes "arg "
spelling to_poly = codes "poly" ++ (line_feed ∷ [])
spelling (to_line usable x) = line_first x ∷ line_rest x
spelling to_order = codes "order" ++ (line_feed ∷ [])
spelling (to_order_line x) = line_first x ∷ line_rest x
spelling to_finish = codes "end" ++ (line_feed ∷ [])

abbrev pub behind : Behind → LineStep
behind to_version = on version_wanted
behind (to_list of) = on (listed of [])
behind to_pairs = on (number_wanted of_pairs)
behind to_done = gives (node_item done) front
behind to_alone = gives (node_item alone) front
behind to_blocks = on (number_wanted of_blocks)
behind to_subterm = on (arg_front [])
behind (to_name args) = on (name_wanted args)
behind to_poly = on (poly_lines None (in_funs []) lines_front)
behind (to_line usable x) = on (poly_lines usable x (line_begun x))
behind to_order = on (order_lines (in_funs []) orders.lines_front)
behind (to_order_line x) = on (order_lines x (orders.line_begun x))
behind to_finish = gives end_item finished

-- a byte of a fixed word was read, and this is left
abbrev pub word_on : List ℕ → Behind → LineStep
word_on [] o = behind o
word_on (x ∷ w) o = on (word (x ∷ w) o)

-- the digit of a version, behind which the line of the ranks comes
abbrev pub version_begun : ℕ → LineStep
version_begun version = gives (version_item version) (word (line_feed ∷ codes "ranks") (to_list of_ranks))

abbrev pub version_step : ℕ → LineStep
version_step b = cond (b == 49) (version_begun 1) (cond (b == 50) (version_begun 2) refused)

-- the front of the line of a block
abbrev pub block_wanted : ℕ → List (List ℕ) → LineStep
block_wanted left parts = on (word (codes "block") (to_list (of_block left parts)))

-- the line of a list has ended
abbrev pub list_ended : Listed → List ℕ → LineStep
list_ended of_ranks xs = gives (ranks_item xs) (word (codes "pairs ") to_pairs)
list_ended (of_block zero parts) xs = gives (node_item (blocks (parts ++ xs ∷ []))) front
list_ended (of_block (suc left) parts) xs = block_wanted left (parts ++ xs ∷ [])
list_ended (of_drop args) xs = gives (node_item (subterm args xs)) front
list_ended of_usable xs = on (poly_lines (Some xs) (in_funs []) lines_front)
list_ended (of_poly usable funs marks rules pairs) xs = gives (node_item (interpretations usable funs marks rules pairs xs)) front
list_ended (of_order funs marks rules pairs) xs = gives (node_item (order funs marks rules pairs xs)) front

-- the line of the number of blocks has ended
abbrev pub count_ended : ℕ → LineStep
count_ended zero = gives (node_item (blocks [])) front
count_ended (suc left) = block_wanted left []

-- behind a number of a list
abbrev pub list_step : Listed → List ℕ → ℕ → LineStep
list_step of xs b = cond (b == space) (on (number_wanted (of_list of xs))) (cond (b == line_feed) (list_ended of xs) refused)

-- a number has ended before the byte
abbrev pub number_ended : Counted → ℕ → ℕ → LineStep
number_ended of_pairs n b = cond (b == line_feed) (gives (pairs_item n) front) refused
number_ended of_blocks n b = cond (b == line_feed) (count_ended n) refused
number_ended (of_place args name) n b =
    cond (b == line_feed) (on (arg_front (args ++ record { name = name; place = n } ∷ []))) refused
number_ended (of_list of xs) n b = list_step of (xs ++ n ∷ []) b

-- the front of a node of interpretations, which lists the rules that are to be covered in version 2
abbrev pub poly_begun : ℕ → LineStep
poly_begun version =
    cond (version == 1) (on (word (codes "oly" ++ (line_feed ∷ [])) to_poly))
    (cond (version == 2) (on (word (codes "oly" ++ (line_feed ∷ codes "usable")) (to_list of_usable))) refused)

-- the front of a node of the version, or of the end where no node is wanted; nodes of path orders stand in version 2
-- alone
abbrev pub front_step : ℕ → Bool → ℕ → LineStep
front_step version wants b =
    cond wants
    (cond (b == 100) (on (word (codes "one" ++ (line_feed ∷ [])) to_done))
    (cond (b == 97) (on (word (codes "lone" ++ (line_feed ∷ [])) to_alone))
    (cond (b == 98) (on (word (codes "locks ") to_blocks))
    (cond (b == 115) (on (word (codes "ubterm" ++ (line_feed ∷ [])) to_subterm))
    (cond (b == 112) (poly_begun version)
    (cond (b == 111) (cond (version == 2) (on (word (codes "rder" ++ (line_feed ∷ [])) to_order)) refused) refused))))))
    (cond (b == 101) (on (word (codes "nd" ++ (line_feed ∷ [])) to_finish)) refused)

-- the next byte of a fixed word
abbrev pub word_step : List ℕ → Behind → ℕ → LineStep
word_step [] o b = refused
word_step (x ∷ w) o b = cond (b == x) (word_on w o) refused

-- the first digit of a number
abbrev pub digit_step : Counted → ℕ → LineStep
digit_step of b = cond (is_digit b) (on (number of (b - 48))) refused

-- in a number
abbrev pub number_step : Counted → ℕ → ℕ → LineStep
number_step of n b = cond (goes_on n b) (on (number of (10 * n + (b - 48)))) (number_ended of n b)

-- the front of a line of `arg` or `drop`
abbrev pub arg_step : List Arg → ℕ → LineStep
arg_step args b =
    cond (b == 97) (on (word (codes "rg ") (to_name args))) (cond (b == 100) (on (word (codes "rop") (to_list (of_drop args)))) refused)

-- the first letter of a name
abbrev pub letter_step : List Arg → ℕ → LineStep
letter_step args b = cond (is_start b) (on (letters args (b ∷ []))) refused

-- in a name
abbrev pub letters_step : List Arg → List ℕ → ℕ → LineStep
letters_step args xs b =
    cond (is_part b && nat_lt (length xs) longest_name) (on (letters args (xs ++ b ∷ [])))
    (cond (b == space) (on (number_wanted (of_place args xs))) refused)

-- behind all lines of a node of interpretations but that of `drop`
abbrev pub dropped : Option (List ℕ) → Lines → Listed
dropped usable (in_funs funs) = of_poly usable funs [] [] []
dropped usable (in_marks funs marks) = of_poly usable funs marks [] []
dropped usable (in_rules funs marks rules) = of_poly usable funs marks rules []
dropped usable (in_pairs funs marks rules pairs) = of_poly usable funs marks rules pairs

-- where a byte leads that was given to the reader of such lines
abbrev pub lines_led : Option (List ℕ) → LinesStep → LineStep
lines_led usable (l.on x k) = on (poly_lines usable x k)
lines_led usable (begins x) = on (word (line_rest x) (to_line usable x))
lines_led usable (drops x) = on (word (codes "rop") (to_list (dropped usable x)))
lines_led usable l.refused = refused

-- the list of dropped pairs, behind all other lines of a node of a path order
abbrev pub order_dropped : orders.Lines → Listed
order_dropped (in_funs funs) = of_order funs [] [] []
order_dropped (in_marks funs marks) = of_order funs marks [] []
order_dropped (in_rules funs marks rules) = of_order funs marks rules []
order_dropped (in_pairs funs marks rules pairs) = of_order funs marks rules pairs

abbrev pub order_led : orders.LinesStep → LineStep
order_led (orders.on x k) = on (order_lines x k)
order_led (begins x) = on (word (line_rest x) (to_order_line x))
order_led (drops x) = on (word (codes "rop") (to_list (order_dropped x)))
order_led orders.refused = refused

-- where a byte leads, with the version and whether a node is wanted
abbrev pub step : ℕ → Bool → Place → ℕ → LineStep
step version wants (word w o) b = word_step w o b
step version wants version_wanted b = version_step b
step version wants (listed of xs) b = list_step of xs b
step version wants (number_wanted of) b = digit_step of b
step version wants (number of n) b = number_step of n b
step version wants front b = front_step version wants b
step version wants (arg_front args) b = arg_step args b
step version wants (name_wanted args) b = letter_step args b
step version wants (letters args xs) b = letters_step args xs b
step version wants (poly_lines usable x k) b = lines_led usable (lines_step x k b)
step version wants (order_lines x k) b = order_led (orders.lines_step x k b)
step version wants finished b = refused

-- the items so far: the version, 0 before it is read, ranks, the number of pairs, nodes; and how many nodes are still
-- wanted
pub data Past : Type 0 where
  so_far : (version : ℕ) (ranks : List ℕ) (pairs : ℕ) (nodes : List Node) (wanted : ℕ) → Past

abbrev pub nothing : Past
nothing = so_far 0 [] 0 [] 0

-- the items and one more; a node wants its children in its place
abbrev pub gather : Past → Item → Past
gather (so_far version ranks pairs nodes wanted) (version_item new) = so_far new ranks pairs nodes wanted
gather (so_far version ranks pairs nodes wanted) (ranks_item new) = so_far version new pairs nodes wanted
gather (so_far version ranks pairs nodes wanted) (pairs_item new) = so_far version ranks new nodes 1
gather (so_far version ranks pairs nodes wanted) (node_item x) = so_far version ranks pairs (nodes ++ x ∷ []) (children x + (wanted - 1))
gather h end_item = h

-- the version
abbrev pub version_of : Past → ℕ
version_of (so_far version ranks pairs nodes wanted) = version

-- some node is wanted
abbrev pub wants : Past → Bool
wants (so_far version ranks pairs nodes wanted) = nat_lt 0 wanted
