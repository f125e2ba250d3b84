-- What the reader of YES certificates has read is spelled: each step keeps what a place has read, and that it is within the
-- limits.
use Rattle.std.proofs.Common.{◌≡◌, ℕ, zero, suc, ◌+◌, ◌-◌, ◌*◌, ◌<◌, ◌≤◌, Bool, true, false, cond, ◌==◌, ◌&&◌, nat_lt, List, [], ◌∷◌, ◌++◌, length, codes, Option, Some, None, refl, sym, ap, ◌∙◌, subst, arith, append_assoc, length-append, inl, inr}
use Rattle.std.specs.List.{All}
use Rattle.std.proofs.lemmas.Bool.{eqb-true, cond_both}
use Rattle.std.proofs.lemmas.List.Elements.{All-nil, All-push, All-weaker}
use Rattle.std.specs.Fmt.{decimal}
use Rattle.std.proofs.lemmas.Fmt.{decimal_digit}
use Rattle.wh_text.specs.Chars.{is_digit, is_start, is_part}
use Rattle.wh_text.specs.Words.{IsWord}
use Rattle.wh_cert_letters.specs.Digits.{goes_on}
use Rattle.wh_cert_letters.proofs.NamesAndNumbers.{first_letter, next_letter, first_digit_spelled, first_digit_small, goes_on_true, next_digit_spelled}
use Rattle.wh_order_inference.specs.Inferences.{Inference}
use Rattle.wh_cert.specs.TermLimits.{IsSmall}
use Rattle.wh_hopoly.specs.declared.expression.Move as moved
use Rattle.wh_cert.specs.Interps.{Interp}
use Rattle.wh_cert.specs.Written.{Arg, Filtering, Node, blocks, interpretations, order, children}
use Rattle.wh_cert.specs.Text.{put_numbers, put_block, put_blocks, put_arg, put_args, put_usable, put_node, put_nodes}
use Rattle.wh_cert.specs.Limits.{ArgFits, UsableFits, NodeFits, IsVersion, IsOfVersion, UsableWithin, NodeWithin}
use Rattle.wh_cert_machines.specs.YesMachine.{Item, version_item, ranks_item, pairs_item, node_item, end_item, Listed, of_ranks, of_block, of_drop, of_usable, of_poly, of_order, Counted, of_pairs, of_blocks, of_place, of_list, Behind, to_version, to_list, to_pairs, to_done, to_alone, to_blocks, to_subterm, to_name, to_poly, to_line, to_order, to_order_line, to_finish, Place, word, version_wanted, listed, number_wanted, number, front, arg_front, name_wanted, letters, poly_lines, order_lines, finished, LineStep, on, gives, refused, spelling, behind, word_on, version_begun, version_step, list_ended, count_ended, list_step, number_ended, poly_begun, front_step, lines_led, order_led, step}
use Rattle.wh_cert_lines.specs.OrderLines as ol
use Rattle.wh_cert_lines.specs.PolyLines as l
use Rattle.wh_cert_lines.specs.PolyLines.{Lines, in_funs, in_marks, in_rules, in_pairs, lines_front, LinesStep, begins, drops, line_first, line_begun, lines_step}
use Rattle.wh_cert_lines.proofs.SectionsLaws.{pairs_good}
use Rattle.wh_cert_lines.proofs.OrderLinesSound as os
use Rattle.wh_cert_lines.proofs.PolyLinesSound.{put_lines, lines_seen, GoodLines, GoodLinesPlace, LinesNext, no_interps, no_covers, lines_wider, begun_good, begun_text, lines_kept}

-- one more at the end of a list

pub put_numbers_add : (xs : List ℕ) (n : ℕ) (r : List ℕ) → put_numbers (xs ++ n ∷ []) r ≡ put_numbers xs (32 ∷ (decimal n ++ r))
put_numbers_add [] n r = refl
put_numbers_add (x ∷ xs) n r = ap (λ (s : List ℕ). 32 ∷ (decimal x ++ s)) (put_numbers_add xs n r)

pub put_blocks_add : (parts : List (List ℕ)) (xs r : List ℕ) → put_blocks (parts ++ xs ∷ []) r ≡ put_blocks parts (put_block xs r)
put_blocks_add [] xs r = refl
put_blocks_add (ys ∷ parts) xs r = ap (put_block ys) (put_blocks_add parts xs r)

pub put_args_add : (args : List Arg) (a : Arg) (r : List ℕ) → put_args (args ++ a ∷ []) r ≡ put_args args (put_arg a r)
put_args_add [] a r = refl
put_args_add (b ∷ args) a r = ap (put_arg b) (put_args_add args a r)

pub put_nodes_add : (nodes : List Node) (x : Node) (r : List ℕ) → put_nodes (nodes ++ x ∷ []) r ≡ put_nodes nodes (put_node x r)
put_nodes_add [] x r = refl
put_nodes_add (y ∷ nodes) x r = ap (put_node y) (put_nodes_add nodes x r)

-- the parts of a certificate come in four stages: the version, the ranks, the number of pairs, the nodes

pub data Stage : Type 0 where
  opening first second third : Stage

abbrev pub listed_stage : Listed → Stage
listed_stage of_ranks = first
listed_stage _ = third

abbrev pub counted_stage : Counted → Stage
counted_stage of_pairs = second
counted_stage (of_list of xs) = listed_stage of
counted_stage _ = third

abbrev pub word_stage : Behind → Stage
word_stage to_version = opening
word_stage (to_list of) = listed_stage of
word_stage to_pairs = second
word_stage _ = third

abbrev pub stage : Place → Stage
stage (word w o) = word_stage o
stage version_wanted = opening
stage (listed of xs) = listed_stage of
stage (number_wanted of) = counted_stage of
stage (number of n) = counted_stage of
stage _ = third

abbrev pub item_from : Item → Stage
item_from (version_item v) = opening
item_from (ranks_item xs) = first
item_from (pairs_item n) = second
item_from _ = third

abbrev pub item_to : Item → Stage
item_to (version_item v) = first
item_to (ranks_item xs) = second
item_to _ = third

-- what was read since the last item, with r behind it

abbrev pub before_list : Listed → List ℕ → List ℕ
before_list of_ranks r = r
before_list (of_block left parts) r = codes "blocks " ++ (decimal (length parts + suc left) ++ (10 ∷ put_blocks parts r))
before_list (of_drop args) r = codes "subterm" ++ (10 ∷ put_args args r)
before_list (of_order funs marks rules pairs) r = codes "order" ++ (10 ∷ os.put_lines (in_pairs funs marks rules pairs) r)
before_list of_usable r = r
before_list (of_poly usable funs marks rules pairs) r = codes "poly" ++ (10 ∷ put_usable usable (put_lines (in_pairs funs marks rules pairs) r))

abbrev pub before_word : Behind → List ℕ → List ℕ
before_word (to_list of) r = before_list of r
before_word (to_name args) r = codes "subterm" ++ (10 ∷ put_args args r)
before_word (to_order_line x) r = codes "order" ++ (10 ∷ os.put_lines x r)
before_word (to_line usable x) r = codes "poly" ++ (10 ∷ put_usable usable (put_lines x r))
before_word to_done r = 100 ∷ r
before_word _ r = r

abbrev pub list_lead : Listed → List ℕ → List ℕ → List ℕ
list_lead of xs r = before_list of (spelling (to_list of) ++ put_numbers xs r)

abbrev pub counted_lead : Counted → List ℕ → List ℕ
counted_lead of_pairs r = codes "pairs " ++ r
counted_lead of_blocks r = codes "blocks " ++ r
counted_lead (of_place args name) r = codes "subterm" ++ (10 ∷ put_args args (codes "arg " ++ (name ++ (32 ∷ r))))
counted_lead (of_list of xs) r = list_lead of xs (32 ∷ r)

abbrev pub lead : Place → List ℕ → List ℕ
lead version_wanted r = codes "YES " ++ r
lead (listed of xs) r = list_lead of xs r
lead (number_wanted of) r = counted_lead of r
lead (number of n) r = counted_lead of (decimal n ++ r)
lead (arg_front args) r = codes "subterm" ++ (10 ∷ put_args args r)
lead (name_wanted args) r = codes "subterm" ++ (10 ∷ put_args args (codes "arg " ++ r))
lead (letters args xs) r = codes "subterm" ++ (10 ∷ put_args args (codes "arg " ++ (xs ++ r)))
lead (order_lines x k) r = codes "order" ++ (10 ∷ os.lines_seen x k r)
lead (poly_lines usable x k) r = codes "poly" ++ (10 ∷ put_usable usable (lines_seen x k r))
lead finished r = codes "end" ++ (10 ∷ r)
lead _ r = r

-- the place has read f since the last item
abbrev pub PlaceReads : Place → (List ℕ → List ℕ) → Type 0
PlaceReads (word w o) f = (v : List ℕ) × (v ++ w ≡ spelling o) × ((r : List ℕ) → before_word o (v ++ r) ≡ f r)
PlaceReads p f = (r : List ℕ) → lead p r ≡ f r

abbrev pub item_text : Item → List ℕ → List ℕ
item_text (version_item v) r = codes "YES " ++ (decimal v ++ r)
item_text (ranks_item xs) r = 10 ∷ (codes "ranks" ++ put_numbers xs (10 ∷ r))
item_text (pairs_item n) r = codes "pairs " ++ (decimal n ++ (10 ∷ r))
item_text (node_item x) r = put_node x r
item_text end_item r = r

-- the limits, where n bytes were read since the last item

abbrev pub GoodNumbers : ℕ → List ℕ → Type 0
GoodNumbers n xs = All IsSmall xs × (length xs ≤ n)

-- the rules that are to be covered, where they are listed
abbrev pub GoodUsable : ℕ → Option (List ℕ) → Type 0
GoodUsable n (Some ns) = GoodNumbers n ns
GoodUsable n None = Unit {0}

-- d: the word of the list's line was read
abbrev pub GoodListed : ℕ → ℕ → Listed → Type 0
GoodListed d n of_ranks = Unit {0}
GoodListed d n (of_block left parts) =
    IsSmall (length parts + suc left) × All (All IsSmall) parts × All (λ block. length block ≤ n) parts × (2 * length parts + d ≤ n)
GoodListed d n (of_drop args) = All ArgFits args × (length args ≤ n) × (1 + d ≤ n)
GoodListed d n of_usable = Unit {0}
GoodListed d n (of_poly usable funs marks rules pairs) = GoodUsable n usable × GoodLines n (in_pairs funs marks rules pairs) × (1 + d ≤ n)
GoodListed d n (of_order funs marks rules pairs) = os.GoodLines n (in_pairs funs marks rules pairs) × (1 + d ≤ n)

abbrev pub GoodArgs : ℕ → List Arg → Type 0
GoodArgs n args = All ArgFits args × (length args ≤ n)

abbrev pub GoodCounted : ℕ → Counted → Type 0
GoodCounted n (of_place args name) = GoodArgs n args × IsWord name
GoodCounted n (of_list of xs) = GoodListed 1 n of × All IsSmall xs × (length xs < n)
GoodCounted n _ = Unit {0}

abbrev pub GoodBehind : ℕ → Behind → Type 0
GoodBehind n (to_list of) = GoodListed 0 n of
GoodBehind n (to_name args) = GoodArgs n args
GoodBehind n (to_line usable x) = GoodUsable n usable × GoodLines n x
GoodBehind n (to_order_line x) = os.GoodLines n x × (0 < n)
GoodBehind n _ = Unit {0}

abbrev pub GoodPlace : ℕ → Place → Type 0
GoodPlace n (word [] o) = ⊥
GoodPlace n (word (x ∷ w) o) = GoodBehind n o
GoodPlace n (listed of xs) = GoodListed 1 n of × GoodNumbers n xs
GoodPlace n (number_wanted of) = GoodCounted n of
GoodPlace n (number of k) = IsSmall k × GoodCounted n of
GoodPlace n (arg_front args) = GoodArgs n args
GoodPlace n (name_wanted args) = GoodArgs n args
GoodPlace n (letters args xs) = GoodArgs n args × IsWord xs
GoodPlace n (poly_lines usable x k) = GoodUsable n usable × GoodLines n x × GoodLinesPlace n x k
GoodPlace n (order_lines x k) = os.GoodLines n x × os.GoodLinesPlace n x k
GoodPlace n _ = Unit {0}

-- the place is right where a node is wanted, or where none is, in a certificate of the version

-- rules are listed in version 2, and in version 1 they are not
abbrev pub UsableFor : ℕ → Option (List ℕ) → Type 0
UsableFor version (Some ns) = version ≡ 2
UsableFor version None = version ≡ 1

abbrev pub ListedFor : ℕ → Bool → Listed → Type 0
ListedFor version wants of_ranks = Unit {0}
ListedFor version wants of_usable = (wants ≡ true) × (version ≡ 2)
ListedFor version wants (of_poly usable funs marks rules pairs) = (wants ≡ true) × UsableFor version usable
ListedFor version wants (of_order funs marks rules pairs) = (wants ≡ true) × (version ≡ 2)
ListedFor version wants _ = wants ≡ true

abbrev pub CountedFor : ℕ → Bool → Counted → Type 0
CountedFor version wants of_pairs = Unit {0}
CountedFor version wants (of_list of xs) = ListedFor version wants of
CountedFor version wants _ = wants ≡ true

abbrev pub BehindFor : ℕ → Bool → Behind → Type 0
BehindFor version wants (to_list of) = ListedFor version wants of
BehindFor version wants to_version = Unit {0}
BehindFor version wants to_pairs = Unit {0}
BehindFor version wants to_poly = (wants ≡ true) × (version ≡ 1)
BehindFor version wants (to_line usable x) = (wants ≡ true) × UsableFor version usable
BehindFor version wants to_order = (wants ≡ true) × (version ≡ 2)
BehindFor version wants (to_order_line x) = (wants ≡ true) × (version ≡ 2)
BehindFor version wants to_finish = wants ≡ false
BehindFor version wants _ = wants ≡ true

abbrev pub PlaceFor : ℕ → Bool → Place → Type 0
PlaceFor version wants (word w o) = BehindFor version wants o
PlaceFor version wants (listed of xs) = ListedFor version wants of
PlaceFor version wants (number_wanted of) = CountedFor version wants of
PlaceFor version wants (number of n) = CountedFor version wants of
PlaceFor version wants version_wanted = Unit {0}
PlaceFor version wants front = Unit {0}
PlaceFor version wants (poly_lines usable x k) = (wants ≡ true) × UsableFor version usable
PlaceFor version wants (order_lines x k) = (wants ≡ true) × (version ≡ 2)
PlaceFor version wants finished = wants ≡ false
PlaceFor version wants _ = wants ≡ true

-- an item after n bytes: within its limits, and given where a node is wanted, or none
abbrev pub ItemGood : ℕ → Bool → ℕ → Item → Type 0
ItemGood version wants n (version_item v) = IsVersion v
ItemGood version wants n (ranks_item xs) = GoodNumbers n xs
ItemGood version wants n (pairs_item k) = IsSmall k
ItemGood version wants n (node_item x) = (wants ≡ true) × NodeFits x × NodeWithin n x × (2 * children x ≤ n) × IsOfVersion version x
ItemGood version wants n end_item = wants ≡ false

-- where the next item is begun
abbrev pub PlaceAfter : ℕ → Bool → Item → Place → Type 0
PlaceAfter version wants end_item p = PlaceFor version wants p
PlaceAfter version wants i p = (v : ℕ) (any : Bool) → PlaceFor v any p

-- after n bytes the step leads on in this stage, or gives an item of it, and has read f since the last item
abbrev pub LineNext : ℕ → Bool → ℕ → LineStep → Stage → (List ℕ → List ℕ) → Type 0
LineNext version wants n (on p) s f = (stage p ≡ s) × GoodPlace n p × PlaceFor version wants p × PlaceReads p f
LineNext version wants n (gives i p) s f = (item_from i ≡ s) × (stage p ≡ item_to i) × ItemGood version wants n i × GoodPlace 0 p × PlaceAfter version wants i p × ((g : List ℕ → List ℕ) × PlaceReads p g × ((r : List ℕ) → item_text i (g r) ≡ f r))
LineNext version wants n refused s f = Unit {0}

if_byte : (version : ℕ) (wants : Bool) (n b c : ℕ) (s o : LineStep) (st : Stage) (f : List ℕ → List ℕ) → LineNext version wants n s st (λ r. f (c ∷ r)) → LineNext version wants n o st (λ r. f (b ∷ r)) → LineNext version wants n (cond (b == c) s o) st (λ r. f (b ∷ r))
if_byte version wants n b c s o st f so other =
    cond_both (b == c) s o (λ t. LineNext version wants n t st (λ r. f (b ∷ r)))
    (λ e. subst (λ (x : ℕ). LineNext version wants n s st (λ r. f (x ∷ r))) (sym (eqb-true b c e)) so)
    (λ e. other)

if_so : (version : ℕ) (wants : Bool) (n : ℕ) (t : Bool) (s o : LineStep) (st : Stage) (f : List ℕ → List ℕ) → (t ≡ true → LineNext version wants n s st f) → (t ≡ false → LineNext version wants n o st f) → LineNext version wants n (cond t s o) st f
if_so version wants n t s o st f so other = cond_both t s o (λ u. LineNext version wants n u st f) so other

reads_same : (p : Place) (f g : List ℕ → List ℕ) → ((r : List ℕ) → f r ≡ g r) → PlaceReads p f → PlaceReads p g
reads_same (word w o) f g same (v, is, reads) = (v, is, λ r. reads r ∙ same r)
reads_same p f g same reads = λ r. reads r ∙ same r

next_same : (version : ℕ) (wants : Bool) (n : ℕ) (s : LineStep) (st : Stage) (f g : List ℕ → List ℕ) → ((r : List ℕ) → f r ≡ g r) → LineNext version wants n s st f → LineNext version wants n s st g
next_same version wants n (on p) st f g same h = (h.0, h.1, h.2, reads_same p f g same h.3)
next_same version wants n (gives i p) st f g same h =
    (h.0, h.1, h.2, h.3, h.4, (h.5.0, h.5.1, λ r. h.5.2 r ∙ same r))
next_same version wants n refused st f g same h = tt

-- one more byte leaves the limits good

within_wider : (n m : ℕ) (parts : List (List ℕ)) → n ≤ m → All (λ (block : List ℕ). length block ≤ n) parts → All (λ (block : List ℕ). length block ≤ m) parts
within_wider n m parts le h =
    All-weaker (λ (block : List ℕ). length block ≤ n) (λ (block : List ℕ). length block ≤ m) (λ block p. omega arith) parts h

pub usable_wider : (n : ℕ) (usable : Option (List ℕ)) → GoodUsable n usable → GoodUsable (suc n) usable
usable_wider n (Some ns) g = (g.0, omega (arith, g.1))
usable_wider n None g = tt

listed_wider : (d n : ℕ) (of : Listed) → GoodListed d n of → GoodListed d (suc n) of
listed_wider d n of_ranks g = tt
listed_wider d n (of_block left parts) g = (g.0, g.1, within_wider n (suc n) parts (omega arith) g.2, omega (arith, g.3))
listed_wider d n (of_drop args) g = (g.0, omega (arith, g.1), omega (arith, g.2))
listed_wider d n of_usable g = tt
listed_wider d n (of_poly usable funs marks rules pairs) g =
    (usable_wider n usable g.0, lines_wider n (suc n) (in_pairs funs marks rules pairs) (omega arith) g.1, omega (arith, g.2))
listed_wider d n (of_order funs marks rules pairs) g =
    (os.lines_wider n (suc n) (in_pairs funs marks rules pairs) (omega arith) g.0, omega (arith, g.1))

-- the word of the list's line ends
listed_begun : (n : ℕ) (of : Listed) → GoodListed 0 n of → GoodListed 1 (suc n) of
listed_begun n of_ranks g = tt
listed_begun n (of_block left parts) g = (g.0, g.1, within_wider n (suc n) parts (omega arith) g.2, omega (arith, g.3))
listed_begun n (of_drop args) g = (g.0, omega (arith, g.1), omega (arith, g.2))
listed_begun n of_usable g = tt
listed_begun n (of_poly usable funs marks rules pairs) g =
    (usable_wider n usable g.0, lines_wider n (suc n) (in_pairs funs marks rules pairs) (omega arith) g.1, omega (arith, g.2))
listed_begun n (of_order funs marks rules pairs) g =
    (os.lines_wider n (suc n) (in_pairs funs marks rules pairs) (omega arith) g.0, omega (arith, g.1))

args_wider : (n : ℕ) (args : List Arg) → GoodArgs n args → GoodArgs (suc n) args
args_wider n args g = (g.0, omega (arith, g.1))

numbers_wider : (n : ℕ) (xs : List ℕ) → GoodNumbers n xs → GoodNumbers (suc n) xs
numbers_wider n xs g = (g.0, omega (arith, g.1))

counted_wider : (n : ℕ) (of : Counted) → GoodCounted n of → GoodCounted (suc n) of
counted_wider n of_pairs g = tt
counted_wider n of_blocks g = tt
counted_wider n (of_place args name) g = (args_wider n args g.0, g.1)
counted_wider n (of_list of xs) g = (listed_wider 1 n of g.0, g.1, omega (arith, g.2))

behind_wider : (n : ℕ) (o : Behind) → GoodBehind n o → GoodBehind (suc n) o
behind_wider n (to_list of) g = listed_wider 0 n of g
behind_wider n (to_name args) g = args_wider n args g
behind_wider n to_poly g = tt
behind_wider n (to_line usable x) g = (usable_wider n usable g.0, lines_wider n (suc n) x (omega arith) g.1)
behind_wider n to_order g = tt
behind_wider n (to_order_line x) g = (os.lines_wider n (suc n) x (omega arith) g.0, omega arith)
behind_wider n to_version g = tt
behind_wider n to_pairs g = tt
behind_wider n to_done g = tt
behind_wider n to_alone g = tt
behind_wider n to_blocks g = tt
behind_wider n to_subterm g = tt
behind_wider n to_finish g = tt

-- fixed words

no_args : All ArgFits []
no_args = All-nil ArgFits

no_numbers : All IsSmall []
no_numbers = All-nil IsSmall

behind_kept : (version : ℕ) (wants : Bool) (n : ℕ) (o : Behind) → GoodBehind n o → BehindFor version wants o → LineNext version wants (suc n) (behind o) (word_stage o) (λ r. before_word o (spelling o ++ r))
behind_kept version wants n to_version g a = (refl, tt, tt, λ r. refl)
behind_kept version wants n (to_list of) g a = (refl, (listed_begun n of g, (no_numbers, omega arith)), a, λ r. refl)
behind_kept version wants n to_pairs g a = (refl, tt, tt, λ r. refl)
behind_kept version wants n to_done g a = (refl, refl, (a, tt, tt, omega arith, tt), tt, (λ v any. tt), ((λ (r : List ℕ). r), (λ r. refl), (λ r. refl)))
behind_kept version wants n to_alone g a = (refl, refl, (a, tt, tt, omega arith, tt), tt, (λ v any. tt), ((λ (r : List ℕ). r), (λ r. refl), (λ r. refl)))
behind_kept version wants n to_blocks g a = (refl, tt, a, λ r. refl)
behind_kept version wants n to_subterm g a = (refl, (no_args, omega arith), a, λ r. refl)
behind_kept version wants n (to_name args) g a = (refl, args_wider n args g, a, λ r. refl)
behind_kept version wants n to_poly g a = (refl, (tt, no_interps (suc n), tt), a, λ r. refl)
behind_kept version wants n (to_line usable x) g a =
    (refl, (usable_wider n usable g.0, lines_wider n (suc n) x (omega arith) g.1, begun_good (suc n) x), a, λ r. ap (λ (s : List ℕ). codes "poly" ++ (10 ∷ put_usable usable s)) (begun_text x r))
behind_kept version wants n to_order g a = (refl, (os.no_filterings (suc n), tt), a, λ r. refl)
behind_kept version wants n (to_order_line x) g a =
    (refl, (os.lines_wider n (suc n) x (omega arith) g.0, os.begun_good (suc n) x (omega arith)), a, λ r. ap (λ (s : List ℕ). codes "order" ++ (10 ∷ s)) (os.begun_text x r))
behind_kept version wants n to_finish g a = (refl, refl, a, tt, a, ((λ (r : List ℕ). codes "end" ++ (10 ∷ r)), (λ r. refl), (λ r. refl)))

word_kept : (version : ℕ) (wants : Bool) (n x : ℕ) (w : List ℕ) (o : Behind) (v : List ℕ) (f : List ℕ → List ℕ) → GoodBehind n o → BehindFor version wants o → v ++ x ∷ w ≡ spelling o → ((r : List ℕ) → before_word o (v ++ r) ≡ f r) → LineNext version wants (suc n) (word_on w o) (word_stage o) (λ r. f (x ∷ r))
word_kept version wants n x [] o v f g a is reads =
    next_same version wants (suc n) (behind o) (word_stage o) (λ r. before_word o (spelling o ++ r)) (λ r. f (x ∷ r))
    (λ r. ap (λ (s : List ℕ). before_word o (s ++ r)) (sym is) ∙ ap (before_word o) (append_assoc v (x ∷ []) r) ∙ reads (x ∷ r))
    (behind_kept version wants n o g a)
word_kept version wants n x (y ∷ w) o v f g a is reads =
    (refl, behind_wider n o g, a, (v ++ x ∷ [], append_assoc v (x ∷ []) (y ∷ w) ∙ is, λ r. ap (before_word o) (append_assoc v (x ∷ []) r) ∙ reads (x ∷ r)))

-- the version

digit_kept : (version : ℕ) (wants : Bool) (n v : ℕ) → v < 10 → IsVersion v → LineNext version wants (suc n) (version_begun v) opening (λ r. codes "YES " ++ ((48 + v) ∷ r))
digit_kept version wants n v low is =
    (refl, refl, is, tt, (λ u any. tt), ((λ (r : List ℕ). r), ([], refl, λ r. refl), (λ r. ap (λ (ds : List ℕ). codes "YES " ++ (ds ++ r)) (decimal_digit v low))))

version_kept : (version : ℕ) (wants : Bool) (n b : ℕ) → LineNext version wants (suc n) (version_step b) opening (λ r. codes "YES " ++ (b ∷ r))
version_kept version wants n b =
    if_byte version wants (suc n) b 49 (version_begun 1) (cond (b == 50) (version_begun 2) refused) opening (λ r. codes "YES " ++ r)
    (digit_kept version wants n 1 (omega arith) (inl refl))
    (if_byte version wants (suc n) b 50 (version_begun 2) refused opening (λ r. codes "YES " ++ r) (digit_kept version wants n 2 (omega arith) (inr refl)) tt)

-- a node of a path order within the limits
pub order_good : (n : ℕ) (funs marks : List Filtering) (rules pairs : List Inference) (xs : List ℕ) → os.GoodLines n (in_pairs funs marks rules pairs) → All IsSmall xs → length xs ≤ n → NodeFits (order funs marks rules pairs xs) × NodeWithin n (order funs marks rules pairs xs)
order_good n funs marks rules pairs xs g small few = (
  (g.0.0, g.1.0, g.2.0, g.3.0, small),
  (g.0.2, g.1.2, g.0.1, g.1.1, g.2.1, g.2.2, g.3.1, g.3.2, few),
)

-- the rules that are to be covered

usable_fits : (n : ℕ) (usable : Option (List ℕ)) → GoodUsable n usable → UsableFits usable
usable_fits n (Some ns) g = g.0
usable_fits n None g = tt

pub usable_within : (n m : ℕ) (usable : Option (List ℕ)) → n ≤ m → GoodUsable n usable → UsableWithin m usable
usable_within n m (Some ns) le g = omega (arith, g.1)
usable_within n m None le g = tt

poly_of_version : (version : ℕ) (usable : Option (List ℕ)) (funs marks : List Interp) (rules pairs : List (List moved.Move)) (xs : List ℕ) → UsableFor version usable → IsOfVersion version (interpretations usable funs marks rules pairs xs)
poly_of_version version (Some ns) funs marks rules pairs xs is = is
poly_of_version version None funs marks rules pairs xs is = is

-- lists

block_small : (left : ℕ) (parts : List (List ℕ)) (xs : List ℕ) → length (parts ++ xs ∷ []) + left ≡ length parts + suc left
block_small left parts xs = omega (arith, length-append parts (xs ∷ []))

list_ended_kept : (version : ℕ) (wants : Bool) (n : ℕ) (of : Listed) (xs : List ℕ) → GoodListed 1 n of → GoodNumbers n xs → ListedFor version wants of → LineNext version wants (suc n) (list_ended of xs) (listed_stage of) (λ r. list_lead of xs (10 ∷ r))
list_ended_kept version wants n of_ranks xs g few a =
    (refl, refl, numbers_wider n xs few, tt, (λ v any. tt), ((λ (r : List ℕ). r), ([], refl, λ r. refl), (λ r. refl)))
list_ended_kept version wants n (of_block zero parts) xs g few a =
    let one : length (parts ++ xs ∷ []) ≡ length parts + 1 = length-append parts (xs ∷ []) in
    let fits : NodeFits (blocks (parts ++ xs ∷ [])) = (subst IsSmall (sym one) g.0, All-push (All IsSmall) parts xs g.1 few.0) in
    let lists : NodeWithin (suc n) (blocks (parts ++ xs ∷ [])) = All-push (λ (block : List ℕ). length block ≤ suc n) parts xs (within_wider n (suc n) parts (omega arith) g.2) (omega (arith, few.1)) in
    (refl, refl, (a, fits, lists, omega (arith, one, g.3), tt), tt, (λ v any. tt), ((λ (r : List ℕ). r), (λ r. refl), (λ r. ap (λ (k : ℕ). codes "blocks " ++ (decimal k ++ (10 ∷ put_blocks (parts ++ xs ∷ []) r))) one ∙ ap (λ (s : List ℕ). codes "blocks " ++ (decimal (length parts + 1) ++ (10 ∷ s))) (put_blocks_add parts xs r))))
list_ended_kept version wants n (of_block (suc left) parts) xs g few a =
    let one : length (parts ++ xs ∷ []) ≡ length parts + 1 = length-append parts (xs ∷ []) in
    let same : length (parts ++ xs ∷ []) + suc left ≡ length parts + suc (suc left) = block_small (suc left) parts xs in
    let lists : All (λ (block : List ℕ). length block ≤ suc n) (parts ++ xs ∷ []) = All-push (λ (block : List ℕ). length block ≤ suc n) parts xs (within_wider n (suc n) parts (omega arith) g.2) (omega (arith, few.1)) in (
      refl,
      (subst IsSmall (sym same) g.0, All-push (All IsSmall) parts xs g.1 few.0, lists, omega (arith, one, g.3)),
      a,
      ([], refl, λ r. ap (λ (k : ℕ). codes "blocks " ++ (decimal k ++ (10 ∷ put_blocks (parts ++ xs ∷ []) r))) same ∙ ap (λ (s : List ℕ). codes "blocks " ++ (decimal (length parts + suc (suc left)) ++ (10 ∷ s))) (put_blocks_add parts xs r)),
    )
list_ended_kept version wants n (of_drop args) xs g few a =
    (refl, refl, (a, (g.0, few.0), (omega (arith, g.1), omega (arith, few.1)), omega (arith, g.2), tt), tt, (λ v any. tt), ((λ (r : List ℕ). r), (λ r. refl), (λ r. refl)))
list_ended_kept version wants n of_usable xs g few a = (refl, (numbers_wider n xs few, no_interps (suc n), tt), a, λ r. refl)
list_ended_kept version wants n (of_poly usable funs marks rules pairs) xs g few a =
    let wide = lines_wider n (suc n) (in_pairs funs marks rules pairs) (omega arith) g.1 in
    let node = interpretations usable funs marks rules pairs xs in
    let fits : NodeFits node = (usable_fits n usable g.0, wide.0.0, wide.1.0, wide.2.0, wide.3.0, few.0) in
    let within : NodeWithin (suc n) node = (usable_within n (suc n) usable (omega arith) g.0, wide.0.1, wide.1.1, wide.2.1, wide.2.2, wide.3.1, wide.3.2, omega (arith, few.1)) in
    (refl, refl, (a.0, fits, within, omega (arith, g.2), poly_of_version version usable funs marks rules pairs xs a.1), tt, (λ v any. tt), ((λ (r : List ℕ). r), (λ r. refl), (λ r. refl)))
list_ended_kept version wants n (of_order funs marks rules pairs) xs g few a =
    let wide = os.lines_wider n (suc n) (in_pairs funs marks rules pairs) (omega arith) g.0 in
    let good = order_good (suc n) funs marks rules pairs xs wide few.0 (omega (arith, few.1)) in
    (refl, refl, (a.0, good.0, good.1, omega (arith, g.1), a.1), tt, (λ v any. tt), ((λ (r : List ℕ). r), (λ r. refl), (λ r. refl)))

list_kept : (version : ℕ) (wants : Bool) (n : ℕ) (of : Listed) (xs : List ℕ) (b : ℕ) → GoodListed 1 n of → GoodNumbers n xs → ListedFor version wants of → LineNext version wants (suc n) (list_step of xs b) (listed_stage of) (λ r. list_lead of xs (b ∷ r))
list_kept version wants n of xs b g few a =
    if_byte version wants (suc n) b 32 (on (number_wanted (of_list of xs))) (cond (b == 10) (list_ended of xs) refused) (listed_stage of) (list_lead of xs)
    (refl, (listed_wider 1 n of g, few.0, omega (arith, few.1)), a, λ r. refl)
    (if_byte version wants (suc n) b 10 (list_ended of xs) refused (listed_stage of) (list_lead of xs) (list_ended_kept version wants n of xs g few a) tt)

-- numbers

-- the count of blocks has been read
count_ended_kept : (version : ℕ) (wants : Bool) (n k : ℕ) → IsSmall k → wants ≡ true → LineNext version wants (suc n) (count_ended k) third (λ r. codes "blocks " ++ (decimal k ++ (10 ∷ r)))
count_ended_kept version wants n zero small a =
    (refl, refl, (a, (omega arith, All-nil (All IsSmall)), All-nil (λ (block : List ℕ). length block ≤ suc n), omega arith, tt), tt, (λ v any. tt), ((λ (r : List ℕ). r), (λ r. refl), (λ r. refl)))
count_ended_kept version wants n (suc left) small a =
    (refl, (omega (arith, small), All-nil (All IsSmall), All-nil (λ (block : List ℕ). length block ≤ suc n), omega arith), a, ([], refl, λ r. ap (λ (k : ℕ). codes "blocks " ++ (decimal k ++ (10 ∷ r))) (omega arith)))

small_more : (xs : List ℕ) (k : ℕ) → All IsSmall xs → IsSmall k → All IsSmall (xs ++ k ∷ [])
small_more xs k all small = All-push IsSmall xs k all small

number_ended_kept : (version : ℕ) (wants : Bool) (n : ℕ) (of : Counted) (k b : ℕ) → IsSmall k → GoodCounted n of → CountedFor version wants of → LineNext version wants (suc n) (number_ended of k b) (counted_stage of) (λ r. counted_lead of (decimal k ++ b ∷ r))
number_ended_kept version wants n of_pairs k b small g a =
    if_byte version wants (suc n) b 10 (gives (pairs_item k) front) refused second (λ r. codes "pairs " ++ (decimal k ++ r))
    (refl, refl, small, tt, (λ v any. tt), ((λ (r : List ℕ). r), (λ r. refl), (λ r. refl))) tt
number_ended_kept version wants n of_blocks k b small g a =
    if_byte version wants (suc n) b 10 (count_ended k) refused third (λ r. codes "blocks " ++ (decimal k ++ r)) (count_ended_kept version wants n k small a) tt
number_ended_kept version wants n (of_place args name) k b small g a =
    let arg : Arg = record { name = name; place = k } in
    if_byte version wants (suc n) b 10 (on (arg_front (args ++ arg ∷ []))) refused third (λ r. counted_lead (of_place args name) (decimal k ++ r))
    (refl, (All-push ArgFits args arg g.0.0 (record { name = g.1; place = small }), omega (arith, length-append args (arg ∷ []), g.0.1)), a, λ r. ap (λ (s : List ℕ). codes "subterm" ++ (10 ∷ s)) (put_args_add args arg r))
    tt
number_ended_kept version wants n (of_list of xs) k b small g a =
    next_same version wants (suc n) (list_step of (xs ++ k ∷ []) b) (listed_stage of) (λ r. list_lead of (xs ++ k ∷ []) (b ∷ r)) (λ r. counted_lead (of_list of xs) (decimal k ++ b ∷ r))
    (λ r. ap (λ (s : List ℕ). before_list of (spelling (to_list of) ++ s)) (put_numbers_add xs k (b ∷ r)))
    (list_kept version wants n of (xs ++ k ∷ []) b g.0 (small_more xs k g.1 small, omega (arith, length-append xs (k ∷ []), g.2)) a)

first_digit_kept : (version : ℕ) (wants : Bool) (n : ℕ) (of : Counted) (b : ℕ) → GoodCounted n of → CountedFor version wants of → LineNext version wants (suc n) (cond (is_digit b) (on (number of (b - 48))) refused) (counted_stage of) (λ r. counted_lead of (b ∷ r))
first_digit_kept version wants n of b g a =
    if_so version wants (suc n) (is_digit b) (on (number of (b - 48))) refused (counted_stage of) (λ r. counted_lead of (b ∷ r))
    (λ e. (refl, (first_digit_small b e, counted_wider n of g), a, λ r. ap (counted_lead of) (first_digit_spelled b r e)))
    (λ e. tt)

digits_kept : (version : ℕ) (wants : Bool) (n : ℕ) (of : Counted) (k b : ℕ) → IsSmall k → GoodCounted n of → CountedFor version wants of → LineNext version wants (suc n) (step version wants (number of k) b) (counted_stage of) (λ r. counted_lead of (decimal k ++ b ∷ r))
digits_kept version wants n of k b small g a =
    if_so version wants (suc n) (goes_on k b) (on (number of (10 * k + (b - 48)))) (number_ended of k b) (counted_stage of) (λ r. counted_lead of (decimal k ++ b ∷ r))
    (λ e. let is = goes_on_true k b e in (refl, (is.fits, counted_wider n of g), a, λ r. ap (counted_lead of) (next_digit_spelled k b r e)))
    (λ e. number_ended_kept version wants n of k b small g a)

-- names

letters_kept : (version : ℕ) (wants : Bool) (n : ℕ) (args : List Arg) (xs : List ℕ) (b : ℕ) → GoodArgs n args → IsWord xs → wants ≡ true → LineNext version wants (suc n) (step version wants (letters args xs) b) third (λ r. lead (letters args xs) (b ∷ r))
letters_kept version wants n args xs b g name a =
    if_so version wants (suc n) (is_part b && nat_lt (length xs) 64) (on (letters args (xs ++ b ∷ []))) (cond (b == 32) (on (number_wanted (of_place args xs))) refused) third (λ r. lead (letters args xs) (b ∷ r))
    (λ e. (refl, (args_wider n args g, next_letter xs b name e), a, λ r. ap (λ (s : List ℕ). codes "subterm" ++ (10 ∷ put_args args (codes "arg " ++ s))) (append_assoc xs (b ∷ []) r)))
    (λ e. if_byte version wants (suc n) b 32 (on (number_wanted (of_place args xs))) refused third (lead (letters args xs)) (refl, (args_wider n args g, name), a, λ r. refl) tt)

-- fronts

poly_kept : (version : ℕ) (wants : Bool) (n : ℕ) → wants ≡ true → LineNext version wants (suc n) (poly_begun version) third (λ r. 112 ∷ r)
poly_kept version wants n a =
    if_so version wants (suc n) (version == 1) (on (word (codes "oly" ++ (10 ∷ [])) to_poly)) _ third (λ r. 112 ∷ r)
    (λ e. (refl, tt, (a, eqb-true version 1 e), (112 ∷ [], refl, λ r. refl)))
    (λ no. if_so version wants (suc n) (version == 2) (on (word (codes "oly" ++ (10 ∷ codes "usable")) (to_list of_usable))) refused third (λ r. 112 ∷ r)
    (λ e. (refl, tt, (a, eqb-true version 2 e), (112 ∷ [], refl, λ r. refl))) (λ e. tt))

order_kept : (version : ℕ) (wants : Bool) (n : ℕ) → wants ≡ true → LineNext version wants (suc n) (cond (version == 2) (on (word (codes "rder" ++ (10 ∷ [])) to_order)) refused) third (λ r. 111 ∷ r)
order_kept version wants n a =
    if_so version wants (suc n) (version == 2) (on (word (codes "rder" ++ (10 ∷ [])) to_order)) refused third (λ r. 111 ∷ r)
    (λ e. (refl, tt, (a, eqb-true version 2 e), (111 ∷ [], refl, λ r. refl))) (λ e. tt)

node_kept : (version : ℕ) (wants : Bool) (n b : ℕ) → wants ≡ true → LineNext version wants (suc n) (front_step version true b) third (λ r. b ∷ r)
node_kept version wants n b a =
    if_byte version wants (suc n) b 100 (on (word (codes "one" ++ (10 ∷ [])) to_done)) _ third (λ r. r) (refl, tt, a, ([], refl, λ r. refl))
    (if_byte version wants (suc n) b 97 (on (word (codes "lone" ++ (10 ∷ [])) to_alone)) _ third (λ r. r) (refl, tt, a, (97 ∷ [], refl, λ r. refl))
    (if_byte version wants (suc n) b 98 (on (word (codes "locks ") to_blocks)) _ third (λ r. r) (refl, tt, a, (98 ∷ [], refl, λ r. refl))
    (if_byte version wants (suc n) b 115 (on (word (codes "ubterm" ++ (10 ∷ [])) to_subterm)) _ third (λ r. r) (refl, tt, a, (115 ∷ [], refl, λ r. refl))
    (if_byte version wants (suc n) b 112 (poly_begun version) _ third (λ r. r) (poly_kept version wants n a)
    (if_byte version wants (suc n) b 111 (cond (version == 2) (on (word (codes "rder" ++ (10 ∷ [])) to_order)) refused) refused third (λ r. r) (order_kept version wants n a) tt)))))

end_kept : (version : ℕ) (wants : Bool) (n b : ℕ) → wants ≡ false → LineNext version wants (suc n) (front_step version false b) third (λ r. b ∷ r)
end_kept version wants n b a =
    if_byte version wants (suc n) b 101 (on (word (codes "nd" ++ (10 ∷ [])) to_finish)) refused third (λ r. r) (refl, tt, a, (101 ∷ [], refl, λ r. refl)) tt

front_kept : (version : ℕ) (wants : Bool) (n b : ℕ) → LineNext version wants (suc n) (front_step version wants b) third (λ r. b ∷ r)
front_kept version true n b = node_kept version true n b refl
front_kept version false n b = end_kept version false n b refl

-- lines of interpretations

in_node : (usable : Option (List ℕ)) (f g : List ℕ → List ℕ) → ((r : List ℕ) → f r ≡ g r) → (r : List ℕ) → codes "poly" ++ (10 ∷ put_usable usable (f r)) ≡ codes "poly" ++ (10 ∷ put_usable usable (g r))
in_node usable f g same r = ap (λ (s : List ℕ). codes "poly" ++ (10 ∷ put_usable usable s)) (same r)

-- a line whose first byte was read
line_kept : (version : ℕ) (wants : Bool) (n : ℕ) (usable : Option (List ℕ)) (x : Lines) (f : List ℕ → List ℕ) → (wants ≡ true) × UsableFor version usable → GoodUsable (suc n) usable → GoodLines (suc n) x → ((r : List ℕ) → put_lines x (line_first x ∷ r) ≡ f r) → LineNext version wants (suc n) (lines_led usable (begins x)) third (λ r. codes "poly" ++ (10 ∷ put_usable usable (f r)))
line_kept version wants n usable (in_funs funs) f a u g same = (refl, (u, g), a, (102 ∷ [], refl, in_node usable (λ r. put_lines (in_funs funs) (102 ∷ r)) f same))
line_kept version wants n usable (in_marks funs marks) f a u g same =
    (refl, (u, g), a, (109 ∷ [], refl, in_node usable (λ r. put_lines (in_marks funs marks) (109 ∷ r)) f same))
line_kept version wants n usable (in_rules funs marks rules) f a u g same =
    (refl, (u, g), a, (114 ∷ [], refl, in_node usable (λ r. put_lines (in_rules funs marks rules) (114 ∷ r)) f same))
line_kept version wants n usable (in_pairs funs marks rules pairs) f a u g same =
    (refl, (u, g), a, (112 ∷ [], refl, in_node usable (λ r. put_lines (in_pairs funs marks rules pairs) (112 ∷ r)) f same))

-- the line of `drop`
drop_kept : (version : ℕ) (wants : Bool) (n : ℕ) (usable : Option (List ℕ)) (x : Lines) (f : List ℕ → List ℕ) → (wants ≡ true) × UsableFor version usable → GoodUsable (suc n) usable → GoodLines (suc n) x → ((r : List ℕ) → put_lines x (100 ∷ r) ≡ f r) → LineNext version wants (suc n) (lines_led usable (drops x)) third (λ r. codes "poly" ++ (10 ∷ put_usable usable (f r)))
drop_kept version wants n usable (in_funs funs) f a u g same =
    (refl, (u, (g, no_interps (suc n), no_covers (suc n), no_covers (suc n)), omega arith), a, (100 ∷ [], refl, in_node usable (λ r. put_lines (in_funs funs) (100 ∷ r)) f same))
drop_kept version wants n usable (in_marks funs marks) f a u g same =
    (refl, (u, (g.0, g.1, no_covers (suc n), no_covers (suc n)), omega arith), a, (100 ∷ [], refl, in_node usable (λ r. put_lines (in_marks funs marks) (100 ∷ r)) f same))
drop_kept version wants n usable (in_rules funs marks rules) f a u g same =
    (refl, (u, (g.0, g.1, g.2, no_covers (suc n)), omega arith), a, (100 ∷ [], refl, in_node usable (λ r. put_lines (in_rules funs marks rules) (100 ∷ r)) f same))
drop_kept version wants n usable (in_pairs funs marks rules pairs) f a u g same =
    (refl, (u, g, omega arith), a, (100 ∷ [], refl, in_node usable (λ r. put_lines (in_pairs funs marks rules pairs) (100 ∷ r)) f same))

led_kept : (version : ℕ) (wants : Bool) (n : ℕ) (usable : Option (List ℕ)) (s : LinesStep) (f : List ℕ → List ℕ) → (wants ≡ true) × UsableFor version usable → GoodUsable (suc n) usable → LinesNext (suc n) s f → LineNext version wants (suc n) (lines_led usable s) third (λ r. codes "poly" ++ (10 ∷ put_usable usable (f r)))
led_kept version wants n usable (l.on x k) f a u h = (refl, (u, h.0, h.1), a, in_node usable (lines_seen x k) f h.2)
led_kept version wants n usable (begins x) f a u h = line_kept version wants n usable x f a u h.0 h.1
led_kept version wants n usable (drops x) f a u h = drop_kept version wants n usable x f a u h.0 h.1
led_kept version wants n usable l.refused f a u h = tt

-- lines of a path order

in_order : (f g : List ℕ → List ℕ) → ((r : List ℕ) → f r ≡ g r) → (r : List ℕ) → codes "order" ++ (10 ∷ f r) ≡ codes "order" ++ (10 ∷ g r)
in_order f g same r = ap (λ (s : List ℕ). codes "order" ++ (10 ∷ s)) (same r)

-- a line whose first byte was read
order_line_kept : (version : ℕ) (wants : Bool) (n : ℕ) (x : ol.Lines) (f : List ℕ → List ℕ) → (wants ≡ true) × (version ≡ 2) → os.GoodLines (suc n) x → ((r : List ℕ) → os.put_lines x (line_first x ∷ r) ≡ f r) → LineNext version wants (suc n) (order_led (begins x)) third (λ r. codes "order" ++ (10 ∷ f r))
order_line_kept version wants n (in_funs funs) f a g same =
    (refl, (g, omega arith), a, (102 ∷ [], refl, in_order (λ r. os.put_lines (in_funs funs) (102 ∷ r)) f same))
order_line_kept version wants n (in_marks funs marks) f a g same =
    (refl, (g, omega arith), a, (109 ∷ [], refl, in_order (λ r. os.put_lines (in_marks funs marks) (109 ∷ r)) f same))
order_line_kept version wants n (in_rules funs marks rules) f a g same =
    (refl, (g, omega arith), a, (114 ∷ [], refl, in_order (λ r. os.put_lines (in_rules funs marks rules) (114 ∷ r)) f same))
order_line_kept version wants n (in_pairs funs marks rules pairs) f a g same =
    (refl, (g, omega arith), a, (112 ∷ [], refl, in_order (λ r. os.put_lines (in_pairs funs marks rules pairs) (112 ∷ r)) f same))

-- the line of `drop`
order_drop_kept : (version : ℕ) (wants : Bool) (n : ℕ) (x : ol.Lines) (f : List ℕ → List ℕ) → (wants ≡ true) × (version ≡ 2) → os.GoodLines (suc n) x → ((r : List ℕ) → os.put_lines x (100 ∷ r) ≡ f r) → LineNext version wants (suc n) (order_led (drops x)) third (λ r. codes "order" ++ (10 ∷ f r))
order_drop_kept version wants n (in_funs funs) f a g same =
    (refl, (pairs_good os.limits (suc n) (in_funs funs) g, omega arith), a, (100 ∷ [], refl, in_order (λ r. os.put_lines (in_funs funs) (100 ∷ r)) f same))
order_drop_kept version wants n (in_marks funs marks) f a g same =
    (refl, (pairs_good os.limits (suc n) (in_marks funs marks) g, omega arith), a, (100 ∷ [], refl, in_order (λ r. os.put_lines (in_marks funs marks) (100 ∷ r)) f same))
order_drop_kept version wants n (in_rules funs marks rules) f a g same =
    (refl, (pairs_good os.limits (suc n) (in_rules funs marks rules) g, omega arith), a, (100 ∷ [], refl, in_order (λ r. os.put_lines (in_rules funs marks rules) (100 ∷ r)) f same))
order_drop_kept version wants n (in_pairs funs marks rules pairs) f a g same =
    (refl, (g, omega arith), a, (100 ∷ [], refl, in_order (λ r. os.put_lines (in_pairs funs marks rules pairs) (100 ∷ r)) f same))

order_led_kept : (version : ℕ) (wants : Bool) (n : ℕ) (s : ol.LinesStep) (f : List ℕ → List ℕ) → (wants ≡ true) × (version ≡ 2) → os.LinesNext (suc n) s f → LineNext version wants (suc n) (order_led s) third (λ r. codes "order" ++ (10 ∷ f r))
order_led_kept version wants n (ol.on x k) f a h = (refl, (h.0, h.1), a, in_order (os.lines_seen x k) f h.2)
order_led_kept version wants n (begins x) f a h = order_line_kept version wants n x f a h.0 h.1
order_led_kept version wants n (drops x) f a h = order_drop_kept version wants n x f a h.0 h.1
order_led_kept version wants n ol.refused f a h = tt

-- each step

pub lead_kept : (version : ℕ) (wants : Bool) (n : ℕ) (p : Place) (b : ℕ) → GoodPlace n p → PlaceFor version wants p → (f : List ℕ → List ℕ) → PlaceReads p f → LineNext version wants (suc n) (step version wants p b) (stage p) (λ r. f (b ∷ r))
lead_kept version wants n (word [] o) b g a f reads = absurd g
lead_kept version wants n (word (x ∷ w) o) b g a f (v, is, reads) =
    if_byte version wants (suc n) b x (word_on w o) refused (word_stage o) f (word_kept version wants n x w o v f g a is reads) tt
lead_kept version wants n version_wanted b g a f reads =
    next_same version wants (suc n) (version_step b) opening (λ r. codes "YES " ++ (b ∷ r)) (λ r. f (b ∷ r)) (λ r. reads (b ∷ r)) (version_kept version wants n b)
lead_kept version wants n (listed of xs) b g a f reads =
    next_same version wants (suc n) (list_step of xs b) (listed_stage of) (λ r. list_lead of xs (b ∷ r)) (λ r. f (b ∷ r)) (λ r. reads (b ∷ r)) (list_kept version wants n of xs b g.0 g.1 a)
lead_kept version wants n (number_wanted of) b g a f reads =
    next_same version wants (suc n) (step version wants (number_wanted of) b) (counted_stage of) (λ r. counted_lead of (b ∷ r)) (λ r. f (b ∷ r)) (λ r. reads (b ∷ r)) (first_digit_kept version wants n of b g a)
lead_kept version wants n (number of k) b g a f reads =
    next_same version wants (suc n) (step version wants (number of k) b) (counted_stage of) (λ r. counted_lead of (decimal k ++ b ∷ r)) (λ r. f (b ∷ r)) (λ r. reads (b ∷ r)) (digits_kept version wants n of k b g.0 g.1 a)
lead_kept version wants n front b g a f reads =
    next_same version wants (suc n) (front_step version wants b) third (λ r. b ∷ r) (λ r. f (b ∷ r)) (λ r. reads (b ∷ r)) (front_kept version wants n b)
lead_kept version wants n (arg_front args) b g a f reads =
    next_same version wants (suc n) (step version wants (arg_front args) b) third (λ r. lead (arg_front args) (b ∷ r)) (λ r. f (b ∷ r)) (λ r. reads (b ∷ r))
    (if_byte version wants (suc n) b 97 (on (word (codes "rg ") (to_name args))) _ third (lead (arg_front args)) (refl, args_wider n args g, a, (97 ∷ [], refl, λ r. refl))
    (if_byte version wants (suc n) b 100 (on (word (codes "rop") (to_list (of_drop args)))) refused third (lead (arg_front args)) (refl, (g.0, omega (arith, g.1), omega arith), a, (100 ∷ [], refl, λ r. refl)) tt))
lead_kept version wants n (name_wanted args) b g a f reads =
    next_same version wants (suc n) (step version wants (name_wanted args) b) third (λ r. lead (name_wanted args) (b ∷ r)) (λ r. f (b ∷ r)) (λ r. reads (b ∷ r))
    (if_so version wants (suc n) (is_start b) (on (letters args (b ∷ []))) refused third (λ r. lead (name_wanted args) (b ∷ r)) (λ e. (refl, (args_wider n args g, first_letter b e), a, λ r. refl)) (λ e. tt))
lead_kept version wants n (letters args xs) b g a f reads =
    next_same version wants (suc n) (step version wants (letters args xs) b) third (λ r. lead (letters args xs) (b ∷ r)) (λ r. f (b ∷ r)) (λ r. reads (b ∷ r)) (letters_kept version wants n args xs b g.0 g.1 a)
lead_kept version wants n (poly_lines usable x k) b g a f reads =
    next_same version wants (suc n) (lines_led usable (lines_step x k b)) third (λ r. lead (poly_lines usable x k) (b ∷ r)) (λ r. f (b ∷ r)) (λ r. reads (b ∷ r))
    (led_kept version wants n usable (lines_step x k b) (λ r. lines_seen x k (b ∷ r)) a (usable_wider n usable g.0) (lines_kept n x k b g.1 g.2))
lead_kept version wants n (order_lines x k) b g a f reads =
    next_same version wants (suc n) (order_led (ol.lines_step x k b)) third (λ r. lead (order_lines x k) (b ∷ r)) (λ r. f (b ∷ r)) (λ r. reads (b ∷ r)) (order_led_kept version wants n (ol.lines_step x k b) (λ r. os.lines_seen x k (b ∷ r)) a (os.lines_kept n x k b g.0 g.1))
lead_kept version wants n finished b g a f reads = tt
