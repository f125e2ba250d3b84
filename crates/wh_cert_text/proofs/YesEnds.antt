-- Every front of a YES certificate that the reader goes along can be ended within the limits: with `done` for each node that is
-- still wanted.
use Rattle.std.proofs.Common.{◌≡◌, ℕ, zero, suc, ◌+◌, ◌-◌, ◌^◌, ◌<◌, ◌≤◌, ◌==◌, true, false, List, [], ◌∷◌, ◌++◌, length, codes, Option, Some, None, refl, sym, ap, ◌∙◌, subst, arith, length-append}
use Rattle.std.specs.List.{All}
use Rattle.std.proofs.lemmas.Bool.{cond-true, eq-eqb, ltb-true}
use Rattle.std.proofs.lemmas.List.Elements.{All-nil, All-push, All-weaker}
use Rattle.wh_poly.specs.Polynomials.{zero_poly}
use Rattle.wh_hopoly.specs.declared.expression.Move as moved
use Rattle.wh_text.specs.Words.{IsWord}
use Rattle.wh_cert_letters.proofs.NamesAndNumbers.{first_letter}
use Rattle.wh_cert_parts.specs.PolyMachine.{goes}
use Rattle.wh_cert_parts.proofs.PolyLaws.{poly_seen, poly_sound}
use Rattle.wh_cert_parts.proofs.PolyRuns.{poly_ends}
use Rattle.wh_order_inference.specs.Inferences.{Inference}
use Rattle.wh_cert.specs.Interps.{Interp}
use Rattle.wh_cert.specs.Limits.{InterpFits, MoveFits, UsableWithin, NodeWithin}
use Rattle.wh_cert_lines.specs.PolyLines.{Lines, in_funs, in_marks, in_rules, in_pairs, LinesPlace, lines_front, name_wanted, name as line_name, in_poly, moves, from_wanted, from, to_wanted, to, amount_wanted, amount, line_begun, add_named, add_shown, add_move}
use Rattle.wh_cert_lines.proofs.PolyLinesSound.{limits, GoodMoves, GoodLines, GoodLinesPlace, no_interps, lines_wider, interp_good, cover_good, begun_good}
use Rattle.wh_cert_lines.specs.OrderLines as ol
use Rattle.wh_cert_lines.proofs.OrderLinesSound as os
use Rattle.wh_cert_lines.proofs.OrderLinesEnds.{line_ends}
use Rattle.wh_cert_text.proofs.OrderComplete.{order_reader}
use Rattle.wh_cert_lines.proofs.SectionsLaws.{TakesNamed, TakesShown, pairs_good}
use Rattle.wh_cert_text.proofs.LinesComplete.{poly_lift}
use Rattle.wh_cert.specs.Written.{Arg, Filtering, Node, done, alone, blocks, subterm, interpretations, order, children, yes}
use Rattle.wh_cert_machines.specs.YesMachine.{node_item, end_item, Listed, of_ranks, of_block, of_drop, of_usable, of_poly, of_order, Counted, of_pairs, of_blocks, of_place, of_list, Behind, to_version, to_list, to_pairs, to_done, to_alone, to_blocks, to_subterm, to_name, to_poly, to_line, to_order, to_order_line, to_finish, Place, word, version_wanted, listed, number_wanted, number, front, arg_front, name_wanted as arg_name_wanted, letters, poly_lines, order_lines, finished, LineStep, on, refused, behind, list_ended, Past, so_far, gather, version_of, wants}
use Rattle.wh_cert_machines.specs.LineMachine.{Standing, stands_yes, standing_after_yes, run}
use Rattle.wh_cert_text.proofs.YesSound.{opening, second, third, listed_stage, counted_stage, word_stage, stage, usable_wider, usable_within, GoodListed, GoodCounted, GoodBehind, GoodPlace, ListedFor, CountedFor, BehindFor, PlaceFor}
use Rattle.wh_cert_text.proofs.YesReached.{GoodPast, Good, no_wanted, nodes_wider}
use Rattle.wh_cert_text.proofs.YesComplete.{node_run, wants_some}
use Rattle.wh_cert_text.proofs.Ended.{ReachesEnd, ends_after}

-- what is wanted leaves room for as many more nodes, and for the lists
abbrev pub Room : ℕ → Past → Type 0
Room more (so_far version ranks pairs nodes wanted) =
    (length ranks ≤ 2 ^ 32) × All (NodeWithin (2 ^ 32)) nodes × (length nodes + wanted + more < 2 ^ 32)

abbrev no_numbers : List ℕ
no_numbers = []

-- an end, where the nodes that are wanted are `done`
front_ends : (k version : ℕ) (ranks : List ℕ) (pairs : ℕ) (nodes : List Node) → Room 0 (so_far version ranks pairs nodes k) → ReachesEnd (2 ^ 32) (stands_yes (so_far version ranks pairs nodes k) front)
front_ends zero version ranks pairs nodes g = record {
  tail = codes "end" ++ (10 ∷ []);
  c = yes version ranks pairs nodes;
  ends = refl;
  within = (g.0, omega (arith, g.2), g.1);
}
front_ends (suc k) version ranks pairs nodes g =
    let h : Past = so_far version ranks pairs nodes (suc k) in
    let less : 0 + (suc k - 1) ≡ k = omega arith in
    ends_after (2 ^ 32) (stands_yes h front) (stands_yes (so_far version ranks pairs (nodes ++ done ∷ []) k) front) (λ r. codes "done" ++ (10 ∷ r))
    (λ r. node_run h done r tt tt (wants_some (suc k) (omega arith)) ∙ ap (λ (j : ℕ). run (stands_yes (so_far version ranks pairs (nodes ++ done ∷ []) j) front) r) less)
    (front_ends k version ranks pairs (nodes ++ done ∷ []) (g.0, All-push (NodeWithin (2 ^ 32)) nodes done g.1 tt, omega (arith, length-append nodes (done ∷ []), g.2)))

-- behind one more node
node_ends : (h : Past) (x : Node) → wants h ≡ true → Room 65535 h → NodeWithin (2 ^ 32) x → children x ≤ 65535 → ReachesEnd (2 ^ 32) (stands_yes (gather h (node_item x)) front)
node_ends (so_far version ranks pairs nodes wanted) x is g within few =
    let some : 0 < wanted = ltb-true 0 wanted is in
    front_ends (children x + (wanted - 1)) version ranks pairs (nodes ++ x ∷ []) (g.0, All-push (NodeWithin (2 ^ 32)) nodes x g.1 within, omega (arith, length-append nodes (x ∷ []), g.2, some, few))

-- in the lines of blocks: the blocks that are left are empty
block_ends : (left : ℕ) (h : Past) (parts : List (List ℕ)) → wants h ≡ true → Room 65535 h → All (λ (block : List ℕ). length block ≤ 2 ^ 32) parts → length parts + suc left ≤ 65535 → ReachesEnd (2 ^ 32) (stands_yes h (word (codes "block") (to_list (of_block left parts))))
block_ends zero h parts is g within few =
    ends_after (2 ^ 32) (stands_yes h (word (codes "block") (to_list (of_block zero parts)))) (stands_yes (gather h (node_item (blocks (parts ++ no_numbers ∷ [])))) front) (λ r. codes "block" ++ (10 ∷ r)) (λ r. refl)
    (node_ends h (blocks (parts ++ no_numbers ∷ [])) is g (All-push (λ (block : List ℕ). length block ≤ 2 ^ 32) parts no_numbers within (omega arith)) (omega (arith, length-append parts (no_numbers ∷ []), few)))
block_ends (suc left) h parts is g within few =
    ends_after (2 ^ 32) (stands_yes h (word (codes "block") (to_list (of_block (suc left) parts)))) (stands_yes h (word (codes "block") (to_list (of_block left (parts ++ no_numbers ∷ []))))) (λ r. codes "block" ++ (10 ∷ r)) (λ r. refl)
    (block_ends left h (parts ++ no_numbers ∷ []) is g (All-push (λ (block : List ℕ). length block ≤ 2 ^ 32) parts no_numbers within (omega arith)) (omega (arith, length-append parts (no_numbers ∷ []), few)))

-- fewer than 2^32 bytes were read, n of them since the last item

room_of : (before n : ℕ) (h : Past) → before + n ≤ 2 ^ 32 → GoodPast before third h → Room 65535 h
room_of before n (so_far version ranks pairs nodes wanted) short g =
    (omega (arith, g.0.1), nodes_wider before (2 ^ 32) nodes (omega arith) g.3, omega (arith, g.4))

-- the number of pairs
pairs_ends : (before n k : ℕ) (h : Past) → before + n < 2 ^ 32 → GoodPast before second h → ReachesEnd (2 ^ 32) (stands_yes h (number of_pairs k))
pairs_ends before n k (so_far version ranks pairs nodes wanted) short g =
    ends_after (2 ^ 32) (stands_yes (so_far version ranks pairs nodes wanted) (number of_pairs k)) (stands_yes (so_far version ranks k nodes 1) front) (λ r. 10 ∷ r) (λ r. refl)
    (subst (λ (xs : List Node). ReachesEnd (2 ^ 32) (stands_yes (so_far version ranks k xs 1) front)) (sym g.1) (front_ends 1 version ranks k [] (omega (arith, g.0.1), All-nil (NodeWithin (2 ^ 32)), omega arith)))

pairs_wanted_ends : (before n : ℕ) (h : Past) → before + n < 2 ^ 32 → GoodPast before second h → ReachesEnd (2 ^ 32) (stands_yes h (number_wanted of_pairs))
pairs_wanted_ends before n h short g =
    ends_after (2 ^ 32) (stands_yes h (number_wanted of_pairs)) (stands_yes h (number of_pairs 0)) (λ r. 48 ∷ r) (λ r. refl) (pairs_ends before n 0 h short g)

-- a node of a path order within the limits
order_within : (funs marks : List Filtering) (rules pairs : List Inference) (xs : List ℕ) → os.GoodLines (2 ^ 32) (in_pairs funs marks rules pairs) → length xs ≤ 2 ^ 32 → NodeWithin (2 ^ 32) (order funs marks rules pairs xs)
order_within funs marks rules pairs xs g few = (g.0.2, g.1.2, g.0.1, g.1.1, g.2.1, g.2.2, g.3.1, g.3.2, few)

-- a node of interpretations within the limits
poly_within : (n : ℕ) (usable : Option (List ℕ)) (funs marks : List Interp) (rules pairs : List (List moved.Move)) (xs : List ℕ) → n ≤ 2 ^ 32 → UsableWithin (2 ^ 32) usable → GoodLines n (in_pairs funs marks rules pairs) → length xs ≤ 2 ^ 32 → NodeWithin (2 ^ 32) (interpretations usable funs marks rules pairs xs)
poly_within n usable funs marks rules pairs xs le room g few =
    let wide = lines_wider n (2 ^ 32) (in_pairs funs marks rules pairs) le g in
    (room, wide.0.1, wide.1.1, wide.2.1, wide.2.2, wide.3.1, wide.3.2, few)

-- behind the lines of interpretations and moves

drop_ends : (before n : ℕ) (h : Past) (usable : Option (List ℕ)) (funs marks : List Interp) (rules pairs : List (List moved.Move)) → UsableWithin (2 ^ 32) usable → before + n ≤ 2 ^ 32 → GoodPast before third h → GoodLines n (in_pairs funs marks rules pairs) → wants h ≡ true → ReachesEnd (2 ^ 32) (stands_yes (gather h (node_item (interpretations usable funs marks rules pairs []))) front)
drop_ends before n h usable funs marks rules pairs room short past g a =
    node_ends h (interpretations usable funs marks rules pairs []) a (room_of before n h short past) (poly_within n usable funs marks rules pairs [] (omega (arith, short)) room g (omega arith)) (omega arith)

lines_end : (before n : ℕ) (h : Past) (usable : Option (List ℕ)) (x : Lines) → UsableWithin (2 ^ 32) usable → before + n ≤ 2 ^ 32 → GoodPast before third h → GoodLines n x → wants h ≡ true → ReachesEnd (2 ^ 32) (stands_yes h (poly_lines usable x lines_front))
lines_end before n h usable (in_funs funs) room short past g a =
    ends_after (2 ^ 32) (stands_yes h (poly_lines usable (in_funs funs) lines_front)) (stands_yes (gather h (node_item (interpretations usable funs [] [] [] []))) front) (λ r. codes "drop" ++ (10 ∷ r)) (λ r. refl)
    (drop_ends before n h usable funs [] [] [] room short past (pairs_good limits n (in_funs funs) g) a)
lines_end before n h usable (in_marks funs marks) room short past g a =
    ends_after (2 ^ 32) (stands_yes h (poly_lines usable (in_marks funs marks) lines_front)) (stands_yes (gather h (node_item (interpretations usable funs marks [] [] []))) front) (λ r. codes "drop" ++ (10 ∷ r)) (λ r. refl)
    (drop_ends before n h usable funs marks [] [] room short past (pairs_good limits n (in_marks funs marks) g) a)
lines_end before n h usable (in_rules funs marks rules) room short past g a =
    ends_after (2 ^ 32) (stands_yes h (poly_lines usable (in_rules funs marks rules) lines_front)) (stands_yes (gather h (node_item (interpretations usable funs marks rules [] []))) front) (λ r. codes "drop" ++ (10 ∷ r)) (λ r. refl)
    (drop_ends before n h usable funs marks rules [] room short past (pairs_good limits n (in_rules funs marks rules) g) a)
lines_end before n h usable (in_pairs funs marks rules pairs) room short past g a =
    ends_after (2 ^ 32) (stands_yes h (poly_lines usable (in_pairs funs marks rules pairs) lines_front)) (stands_yes (gather h (node_item (interpretations usable funs marks rules pairs []))) front) (λ r. codes "drop" ++ (10 ∷ r)) (λ r. refl)
    (drop_ends before n h usable funs marks rules pairs room short past g a)

-- a list's line
list_ended_ends : (before n : ℕ) (h : Past) (of : Listed) (xs : List ℕ) → before + n ≤ 2 ^ 32 → GoodPast before (listed_stage of) h → GoodListed 1 n of → length xs ≤ n → ListedFor (version_of h) (wants h) of → ReachesEnd (2 ^ 32) (standing_after_yes h (list_ended of xs))
list_ended_ends before n (so_far version ranks pairs nodes wanted) of_ranks xs short past g few a =
    let h : Past = so_far version xs pairs nodes wanted in
    ends_after (2 ^ 32) (stands_yes h (word (codes "pairs ") to_pairs)) (stands_yes h (number_wanted of_pairs)) (λ r. codes "pairs " ++ r) (λ r. refl)
    (subst (λ (ys : List Node). ReachesEnd (2 ^ 32) (stands_yes (so_far version xs pairs ys wanted) (number_wanted of_pairs))) (sym past.0)
    (ends_after (2 ^ 32) (stands_yes (so_far version xs pairs [] wanted) (number_wanted of_pairs)) (stands_yes (so_far version xs 0 [] 1) front) (λ r. 48 ∷ 10 ∷ r) (λ r. refl)
    (front_ends 1 version xs 0 [] (omega arith, All-nil (NodeWithin (2 ^ 32)), omega arith))))
list_ended_ends before n h (of_block zero parts) xs short past g few a =
    let wide : All (λ (block : List ℕ). length block ≤ 2 ^ 32) parts = All-weaker (λ (block : List ℕ). length block ≤ n) (λ (block : List ℕ). length block ≤ 2 ^ 32) (λ block p. omega arith) parts g.2 in
    node_ends h (blocks (parts ++ xs ∷ [])) a (room_of before n h short past) (All-push (λ (block : List ℕ). length block ≤ 2 ^ 32) parts xs wide (omega arith)) (omega (arith, length-append parts (xs ∷ []), g.0))
list_ended_ends before n h (of_block (suc left) parts) xs short past g few a =
    let wide : All (λ (block : List ℕ). length block ≤ 2 ^ 32) parts = All-weaker (λ (block : List ℕ). length block ≤ n) (λ (block : List ℕ). length block ≤ 2 ^ 32) (λ block p. omega arith) parts g.2 in
    block_ends left h (parts ++ xs ∷ []) a (room_of before n h short past) (All-push (λ (block : List ℕ). length block ≤ 2 ^ 32) parts xs wide (omega arith)) (omega (arith, length-append parts (xs ∷ []), g.0))
list_ended_ends before n h (of_drop args) xs short past g few a =
    node_ends h (subterm args xs) a (room_of before n h short past) (omega (arith, g.1), omega arith) (omega arith)
list_ended_ends before n h of_usable xs short past g few a =
    lines_end before n h (Some xs) (in_funs []) (omega (arith, few, short)) short past (no_interps n) a.0
list_ended_ends before n h (of_poly usable funs marks rules pairs) xs short past g few a =
    let room = usable_within n (2 ^ 32) usable (omega (arith, short)) g.0 in
    node_ends h (interpretations usable funs marks rules pairs xs) a.0 (room_of before n h short past) (poly_within n usable funs marks rules pairs xs (omega (arith, short)) room g.1 (omega (arith, few, short))) (omega arith)
list_ended_ends before n h (of_order funs marks rules pairs) xs short past g few a =
    let wide = os.lines_wider n (2 ^ 32) (in_pairs funs marks rules pairs) (omega (arith, short)) g.0 in
    node_ends h (order funs marks rules pairs xs) a.0 (room_of before n h short past) (order_within funs marks rules pairs xs wide (omega (arith, few, short))) (omega arith)

list_ends : (before n : ℕ) (h : Past) (of : Listed) (xs : List ℕ) → before + n ≤ 2 ^ 32 → GoodPast before (listed_stage of) h → GoodListed 1 n of → length xs ≤ n → ListedFor (version_of h) (wants h) of → ReachesEnd (2 ^ 32) (stands_yes h (listed of xs))
list_ends before n h of xs short past g few a =
    ends_after (2 ^ 32) (stands_yes h (listed of xs)) (standing_after_yes h (list_ended of xs)) (λ r. 10 ∷ r) (λ r. refl) (list_ended_ends before n h of xs short past g few a)

-- the arguments that are looked at
args_end : (before n : ℕ) (h : Past) (args : List Arg) → before + n < 2 ^ 32 → GoodPast before third h → length args ≤ 2 ^ 32 → wants h ≡ true → ReachesEnd (2 ^ 32) (stands_yes h (arg_front args))
args_end before n h args short past few a =
    ends_after (2 ^ 32) (stands_yes h (arg_front args)) (stands_yes (gather h (node_item (subterm args []))) front) (λ r. codes "drop" ++ (10 ∷ r)) (λ r. refl)
    (node_ends h (subterm args []) a (room_of before n h (omega (arith, short)) past) (few, omega arith) (omega arith))

place_ends : (before n k : ℕ) (h : Past) (args : List Arg) (name : List ℕ) → before + n < 2 ^ 32 → GoodPast before third h → length args ≤ n → wants h ≡ true → ReachesEnd (2 ^ 32) (stands_yes h (number (of_place args name) k))
place_ends before n k h args name short past few a =
    let arg : Arg = record { name = name; place = k } in
    ends_after (2 ^ 32) (stands_yes h (number (of_place args name) k)) (stands_yes h (arg_front (args ++ arg ∷ []))) (λ r. 10 ∷ r) (λ r. refl)
    (args_end before n h (args ++ arg ∷ []) short past (omega (arith, length-append args (arg ∷ []))) a)

letters_end : (before n : ℕ) (h : Past) (args : List Arg) (xs : List ℕ) → before + n < 2 ^ 32 → GoodPast before third h → length args ≤ n → wants h ≡ true → ReachesEnd (2 ^ 32) (stands_yes h (letters args xs))
letters_end before n h args xs short past few a =
    ends_after (2 ^ 32) (stands_yes h (letters args xs)) (stands_yes h (number (of_place args xs) 0)) (λ r. 32 ∷ 48 ∷ r) (λ r. refl) (place_ends before n 0 h args xs short past few a)

name_ends : (before n : ℕ) (h : Past) (args : List Arg) → before + n < 2 ^ 32 → GoodPast before third h → length args ≤ n → wants h ≡ true → ReachesEnd (2 ^ 32) (stands_yes h (arg_name_wanted args))
name_ends before n h args short past few a =
    ends_after (2 ^ 32) (stands_yes h (arg_name_wanted args)) (stands_yes h (letters args (97 ∷ []))) (λ r. 97 ∷ r) (λ r. refl) (letters_end before n h args (97 ∷ []) short past few a)

-- numbers

count_ends : (before n k : ℕ) (h : Past) → before + n < 2 ^ 32 → GoodPast before third h → k ≤ 65535 → wants h ≡ true → ReachesEnd (2 ^ 32) (stands_yes h (number of_blocks k))
count_ends before n zero h short past small a =
    ends_after (2 ^ 32) (stands_yes h (number of_blocks zero)) (stands_yes (gather h (node_item (blocks []))) front) (λ r. 10 ∷ r) (λ r. refl)
    (node_ends h (blocks []) a (room_of before n h (omega (arith, short)) past) (All-nil (λ (block : List ℕ). length block ≤ 2 ^ 32)) (omega arith))
count_ends before n (suc left) h short past small a =
    ends_after (2 ^ 32) (stands_yes h (number of_blocks (suc left))) (stands_yes h (word (codes "block") (to_list (of_block left [])))) (λ r. 10 ∷ r) (λ r. refl)
    (block_ends left h [] a (room_of before n h (omega (arith, short)) past) (All-nil (λ (block : List ℕ). length block ≤ 2 ^ 32)) (omega (arith, small)))

number_ends : (before n k : ℕ) (h : Past) (of : Counted) → before + n < 2 ^ 32 → GoodPast before (counted_stage of) h → k ≤ 65535 → GoodCounted n of → CountedFor (version_of h) (wants h) of → ReachesEnd (2 ^ 32) (stands_yes h (number of k))
number_ends before n k h of_pairs short past small g a = pairs_ends before n k h short past
number_ends before n k h of_blocks short past small g a = count_ends before n k h short past small a
number_ends before n k h (of_place args name) short past small g a = place_ends before n k h args name short past g.0.1 a
number_ends before n k h (of_list of xs) short past small g a =
    ends_after (2 ^ 32) (stands_yes h (number (of_list of xs) k)) (standing_after_yes h (list_ended of (xs ++ k ∷ []))) (λ r. 10 ∷ r) (λ r. refl)
    (list_ended_ends before n h of (xs ++ k ∷ []) (omega (arith, short)) past g.0 (omega (arith, length-append xs (k ∷ []), g.2)) a)

wanted_ends : (before n : ℕ) (h : Past) (of : Counted) → before + n < 2 ^ 32 → GoodPast before (counted_stage of) h → GoodCounted n of → CountedFor (version_of h) (wants h) of → ReachesEnd (2 ^ 32) (stands_yes h (number_wanted of))
wanted_ends before n h of short past g a =
    ends_after (2 ^ 32) (stands_yes h (number_wanted of)) (stands_yes h (number of 0)) (λ r. 48 ∷ r) (λ r. refl) (number_ends before n 0 h of short past (omega arith) g a)

finished_ends : (before n : ℕ) (h : Past) → before + n < 2 ^ 32 → GoodPast before third h → wants h ≡ false → ReachesEnd (2 ^ 32) (stands_yes h finished)
finished_ends before n (so_far version ranks pairs nodes wanted) short past a =
    let none : wanted ≡ 0 = no_wanted wanted a in
    let room = room_of before n (so_far version ranks pairs nodes wanted) (omega (arith, short)) past in
    record { tail = []; c = yes version ranks pairs nodes; ends = ap (λ (k : ℕ). stands_yes (so_far version ranks pairs nodes k) finished) none; within = (room.0, omega (arith, room.2), room.1) }

-- lines of interpretations

-- behind one more line
interp_ends : (before n : ℕ) (h : Past) (usable : Option (List ℕ)) (x : Lines) (i : Interp) → UsableWithin (2 ^ 32) usable → before + n < 2 ^ 32 → GoodPast before third h → GoodLines n x → TakesNamed x → InterpFits i → wants h ≡ true → ReachesEnd (2 ^ 32) (stands_yes h (poly_lines usable (add_named x i) lines_front))
interp_ends before n h usable x i room short past g t fits a =
    lines_end before (suc n) h usable (add_named x i) room (omega (arith, short)) past (interp_good n x i t g fits) a

cover_ends : (before n : ℕ) (h : Past) (usable : Option (List ℕ)) (x : Lines) (ms : List moved.Move) → UsableWithin (2 ^ 32) usable → before + n < 2 ^ 32 → GoodPast before third h → GoodLines n x → TakesShown x → GoodMoves n ms → wants h ≡ true → ReachesEnd (2 ^ 32) (stands_yes h (poly_lines usable (add_shown x ms) lines_front))
cover_ends before n h usable x ms room short past g t few a =
    lines_end before (suc n) h usable (add_shown x ms) room (omega (arith, short)) past (cover_good n x ms t g few) a

poly_name_ends : (before n : ℕ) (h : Past) (usable : Option (List ℕ)) (x : Lines) (xs : List ℕ) → UsableWithin (2 ^ 32) usable → before + n < 2 ^ 32 → GoodPast before third h → GoodLines n x → TakesNamed x → IsWord xs → wants h ≡ true → ReachesEnd (2 ^ 32) (stands_yes h (poly_lines usable x (line_name xs)))
poly_name_ends before n h usable x xs room short past g t is a =
    let i : Interp = record { name = xs; poly = zero_poly } in
    ends_after (2 ^ 32) (stands_yes h (poly_lines usable x (line_name xs))) (stands_yes h (poly_lines usable (add_named x i) lines_front)) (λ r. 32 ∷ 48 ∷ 10 ∷ r) (λ r. refl)
    (interp_ends before n h usable x i room short past g t (record { name = is; poly = tt }) a)

in_poly_ends : (before n : ℕ) (h : Past) (usable : Option (List ℕ)) (x : Lines) (xs : List ℕ) (fs : _) (k : _) → UsableWithin (2 ^ 32) usable → before + n < 2 ^ 32 → GoodPast before third h → GoodLines n x → GoodLinesPlace n x (in_poly xs fs k) → wants h ≡ true → ReachesEnd (2 ^ 32) (stands_yes h (poly_lines usable x (in_poly xs fs k)))
in_poly_ends before n h usable x xs fs k room short past g p a =
    let e = poly_ends fs k in
    let i : Interp = record { name = xs; poly = e.p } in
    let fits = poly_sound (goes fs k) (e.tail (10 ∷ [])) (poly_seen fs k) e.p (10 ∷ []) (p.2, p.3, λ r. refl) (e.ends 10 [] (refl, refl, refl, refl)) in
    ends_after (2 ^ 32) (stands_yes h (poly_lines usable x (in_poly xs fs k))) (stands_yes h (poly_lines usable (add_named x i) lines_front)) (λ r. e.tail (10 ∷ r))
    (λ r. poly_lift h usable x xs (goes fs k) (e.tail (10 ∷ r)) e.p r (e.ends 10 r (refl, refl, refl, refl)))
    (interp_ends before n h usable x i room short past g p.0 (record { name = p.1; poly = fits.0 }) a)

move_ends : (before n : ℕ) (h : Past) (usable : Option (List ℕ)) (x : Lines) (ms : List moved.Move) (i j k : ℕ) → UsableWithin (2 ^ 32) usable → before + n < 2 ^ 32 → GoodPast before third h → GoodLines n x → GoodLinesPlace n x (amount ms i j k) → wants h ≡ true → ReachesEnd (2 ^ 32) (stands_yes h (poly_lines usable (add_shown x (add_move ms i j k)) lines_front))
move_ends before n h usable x ms i j k room short past g p a =
    let m : moved.Move = record { from = i; to = j; amount = k } in
    cover_ends before n h usable x (ms ++ m ∷ []) room short past g p.0 (All-push MoveFits ms m p.1 (record { from = p.3; to = p.4; amount = p.5 }), omega (arith, length-append ms (m ∷ []), p.2)) a

lines_place_ends : (before n : ℕ) (h : Past) (usable : Option (List ℕ)) (x : Lines) (k : LinesPlace) → UsableWithin (2 ^ 32) usable → before + n < 2 ^ 32 → GoodPast before third h → GoodLines n x → GoodLinesPlace n x k → wants h ≡ true → ReachesEnd (2 ^ 32) (stands_yes h (poly_lines usable x k))
lines_place_ends before n h usable x lines_front room short past g p a = lines_end before n h usable x room (omega (arith, short)) past g a
lines_place_ends before n h usable x name_wanted room short past g p a =
    ends_after (2 ^ 32) (stands_yes h (poly_lines usable x name_wanted)) (stands_yes h (poly_lines usable x (line_name (97 ∷ [])))) (λ r. 97 ∷ r) (λ r. refl)
    (poly_name_ends before n h usable x (97 ∷ []) room short past g p (first_letter 97 refl) a)
lines_place_ends before n h usable x (line_name xs) room short past g p a = poly_name_ends before n h usable x xs room short past g p.0 p.1 a
lines_place_ends before n h usable x (in_poly xs fs k) room short past g p a = in_poly_ends before n h usable x xs fs k room short past g p a
lines_place_ends before n h usable x (moves ms) room short past g p a =
    ends_after (2 ^ 32) (stands_yes h (poly_lines usable x (moves ms))) (stands_yes h (poly_lines usable (add_shown x ms) lines_front)) (λ r. 10 ∷ r) (λ r. refl)
    (cover_ends before n h usable x ms room short past g p.0 p.1 a)
lines_place_ends before n h usable x (from_wanted ms) room short past g p a =
    ends_after (2 ^ 32) (stands_yes h (poly_lines usable x (from_wanted ms))) (stands_yes h (poly_lines usable (add_shown x (add_move ms 0 0 1)) lines_front)) (λ r. 48 ∷ 62 ∷ 48 ∷ 58 ∷ 49 ∷ 10 ∷ r) (λ r. refl)
    (move_ends before n h usable x ms 0 0 1 room short past g (p.0, p.1, p.2, omega arith, omega arith, (omega arith, omega arith)) a)
lines_place_ends before n h usable x (from ms i) room short past g p a =
    ends_after (2 ^ 32) (stands_yes h (poly_lines usable x (from ms i))) (stands_yes h (poly_lines usable (add_shown x (add_move ms i 0 1)) lines_front)) (λ r. 62 ∷ 48 ∷ 58 ∷ 49 ∷ 10 ∷ r) (λ r. refl)
    (move_ends before n h usable x ms i 0 1 room short past g (p.0, p.1, p.2, p.3, omega arith, (omega arith, omega arith)) a)
lines_place_ends before n h usable x (to_wanted ms i) room short past g p a =
    ends_after (2 ^ 32) (stands_yes h (poly_lines usable x (to_wanted ms i))) (stands_yes h (poly_lines usable (add_shown x (add_move ms i 0 1)) lines_front)) (λ r. 48 ∷ 58 ∷ 49 ∷ 10 ∷ r) (λ r. refl)
    (move_ends before n h usable x ms i 0 1 room short past g (p.0, p.1, p.2, p.3, omega arith, (omega arith, omega arith)) a)
lines_place_ends before n h usable x (to ms i j) room short past g p a =
    ends_after (2 ^ 32) (stands_yes h (poly_lines usable x (to ms i j))) (stands_yes h (poly_lines usable (add_shown x (add_move ms i j 1)) lines_front)) (λ r. 58 ∷ 49 ∷ 10 ∷ r) (λ r. refl)
    (move_ends before n h usable x ms i j 1 room short past g (p.0, p.1, p.2, p.3, p.4, (omega arith, omega arith)) a)
lines_place_ends before n h usable x (amount_wanted ms i j) room short past g p a =
    ends_after (2 ^ 32) (stands_yes h (poly_lines usable x (amount_wanted ms i j))) (stands_yes h (poly_lines usable (add_shown x (add_move ms i j 1)) lines_front)) (λ r. 49 ∷ 10 ∷ r) (λ r. refl)
    (move_ends before n h usable x ms i j 1 room short past g (p.0, p.1, p.2, p.3, p.4, (omega arith, omega arith)) a)
lines_place_ends before n h usable x (amount ms i j k) room short past g p a =
    ends_after (2 ^ 32) (stands_yes h (poly_lines usable x (amount ms i j k))) (stands_yes h (poly_lines usable (add_shown x (add_move ms i j k)) lines_front)) (λ r. 10 ∷ r) (λ r. refl)
    (move_ends before n h usable x ms i j k room short past g p a)

-- lines of a path order

-- behind all lines the line of `drop` drops nothing
order_drop_ends : (before n : ℕ) (h : Past) (funs marks : List Filtering) (rules pairs : List Inference) → before + n ≤ 2 ^ 32 → GoodPast before third h → os.GoodLines n (in_pairs funs marks rules pairs) → wants h ≡ true → ReachesEnd (2 ^ 32) (stands_yes (gather h (node_item (order funs marks rules pairs []))) front)
order_drop_ends before n h funs marks rules pairs short past g a =
    let wide = os.lines_wider n (2 ^ 32) (in_pairs funs marks rules pairs) (omega (arith, short)) g in
    node_ends h (order funs marks rules pairs []) a (room_of before n h short past) (order_within funs marks rules pairs [] wide (omega arith)) (omega arith)

order_end : (before n : ℕ) (h : Past) (x : ol.Lines) → before + n ≤ 2 ^ 32 → GoodPast before third h → os.GoodLines n x → wants h ≡ true → ReachesEnd (2 ^ 32) (stands_yes h (order_lines x ol.lines_front))
order_end before n h (in_funs funs) short past g a =
    ends_after (2 ^ 32) (stands_yes h (order_lines (in_funs funs) ol.lines_front)) (stands_yes (gather h (node_item (order funs [] [] [] []))) front) (λ r. codes "drop" ++ (10 ∷ r)) (λ r. refl)
    (order_drop_ends before n h funs [] [] [] short past (pairs_good os.limits n (in_funs funs) g) a)
order_end before n h (in_marks funs marks) short past g a =
    ends_after (2 ^ 32) (stands_yes h (order_lines (in_marks funs marks) ol.lines_front)) (stands_yes (gather h (node_item (order funs marks [] [] []))) front) (λ r. codes "drop" ++ (10 ∷ r)) (λ r. refl)
    (order_drop_ends before n h funs marks [] [] short past (pairs_good os.limits n (in_marks funs marks) g) a)
order_end before n h (in_rules funs marks rules) short past g a =
    ends_after (2 ^ 32) (stands_yes h (order_lines (in_rules funs marks rules) ol.lines_front)) (stands_yes (gather h (node_item (order funs marks rules [] []))) front) (λ r. codes "drop" ++ (10 ∷ r)) (λ r. refl)
    (order_drop_ends before n h funs marks rules [] short past (pairs_good os.limits n (in_rules funs marks rules) g) a)
order_end before n h (in_pairs funs marks rules pairs) short past g a =
    ends_after (2 ^ 32) (stands_yes h (order_lines (in_pairs funs marks rules pairs) ol.lines_front)) (stands_yes (gather h (node_item (order funs marks rules pairs []))) front) (λ r. codes "drop" ++ (10 ∷ r)) (λ r. refl)
    (order_drop_ends before n h funs marks rules pairs short past g a)

order_place_ends : (before n : ℕ) (h : Past) (x : ol.Lines) (k : ol.LinesPlace) → before + n < 2 ^ 32 → GoodPast before third h → os.GoodLines n x → os.GoodLinesPlace n x k → wants h ≡ true → ReachesEnd (2 ^ 32) (stands_yes h (order_lines x k))
order_place_ends before n h x k short past g p a =
    let e = line_ends n x k g p in
    ends_after (2 ^ 32) (stands_yes h (order_lines x k)) (stands_yes h (order_lines e.after ol.lines_front)) e.tail (λ r. e.leads Standing (order_reader h) r)
    (order_end before (suc n) h e.after (omega (arith, short)) past e.good a)

-- the version
version_ends : (before : ℕ) (h : Past) → GoodPast before opening h → ReachesEnd (2 ^ 32) (stands_yes h version_wanted)
version_ends before (so_far version ranks pairs nodes wanted) past =
    subst (λ (xs : List Node). ReachesEnd (2 ^ 32) (stands_yes (so_far version ranks pairs xs wanted) version_wanted)) (sym past.0)
    (ends_after (2 ^ 32) (stands_yes (so_far version ranks pairs [] wanted) version_wanted) (stands_yes (so_far 1 [] 0 [] 1) front) (λ r. codes "1" ++ (10 ∷ (codes "ranks" ++ (10 ∷ (codes "pairs 0" ++ (10 ∷ r)))))) (λ r. refl)
    (front_ends 1 1 [] 0 [] (omega arith, All-nil (NodeWithin (2 ^ 32)), omega arith)))

-- fixed words

gather_end : (h : Past) → gather h end_item ≡ h
gather_end (so_far version ranks pairs nodes wanted) = refl

word_run : (h : Past) (x : ℕ) (w : List ℕ) (o : Behind) (r : List ℕ) → run (stands_yes h (word (x ∷ w) o)) ((x ∷ w) ++ r) ≡ run (standing_after_yes h (behind o)) r
word_run h x [] o r =
    ap (λ (s : LineStep). run (standing_after_yes h s) r) (cond-true (x == x) (behind o) refused (eq-eqb x x refl))
word_run h x (y ∷ w) o r =
    ap (λ (s : LineStep). run (standing_after_yes h s) ((y ∷ w) ++ r)) (cond-true (x == x) (on (word (y ∷ w) o)) refused (eq-eqb x x refl))
    ∙ word_run h y w o r

list_begun : (n : ℕ) (of : Listed) → GoodListed 0 n of → GoodListed 1 (suc n) of
list_begun n of_ranks g = tt
list_begun n (of_block left parts) g =
    let wide = All-weaker (λ (block : List ℕ). length block ≤ n) (λ (block : List ℕ). length block ≤ suc n) (λ block p. omega arith) parts g.2 in
    (g.0, g.1, wide, omega (arith, g.3))
list_begun n (of_drop args) g = (g.0, omega (arith, g.1), omega (arith, g.2))
list_begun n of_usable g = tt
list_begun n (of_poly usable funs marks rules pairs) g =
    (usable_wider n usable g.0, lines_wider n (suc n) (in_pairs funs marks rules pairs) (omega arith) g.1, omega (arith, g.2))
list_begun n (of_order funs marks rules pairs) g =
    (os.lines_wider n (suc n) (in_pairs funs marks rules pairs) (omega arith) g.0, omega (arith, g.1))

behind_ends : (before n : ℕ) (h : Past) (o : Behind) → before + n < 2 ^ 32 → GoodPast before (word_stage o) h → GoodBehind n o → BehindFor (version_of h) (wants h) o → ReachesEnd (2 ^ 32) (standing_after_yes h (behind o))
behind_ends before n h to_version short past g a = version_ends before h past
behind_ends before n h (to_list of) short past g a =
    list_ends before (suc n) h of [] (omega (arith, short)) past (list_begun n of g) (omega arith) a
behind_ends before n h to_pairs short past g a = pairs_wanted_ends before n h short past
behind_ends before n h to_done short past g a = node_ends h done a (room_of before n h (omega (arith, short)) past) tt (omega arith)
behind_ends before n h to_alone short past g a = node_ends h alone a (room_of before n h (omega (arith, short)) past) tt (omega arith)
behind_ends before n h to_blocks short past g a = wanted_ends before n h of_blocks short past tt a
behind_ends before n h to_subterm short past g a = args_end before n h [] short past (omega arith) a
behind_ends before n h (to_name args) short past g a = name_ends before n h args short past g.1 a
behind_ends before n h to_poly short past g a = lines_end before n h None (in_funs []) tt (omega (arith, short)) past (no_interps n) a.0
behind_ends before n h (to_line usable x) short past g a =
    let room = usable_within n (2 ^ 32) usable (omega (arith, short)) g.0 in
    lines_place_ends before n h usable x (line_begun x) room short past g.1 (begun_good n x) a.0
behind_ends before n h to_order short past g a = order_end before n h (in_funs []) (omega (arith, short)) past (os.no_filterings n) a.0
behind_ends before n h (to_order_line x) short past g a =
    order_place_ends before n h x (ol.line_begun x) short past g.0 (os.begun_good n x g.1) a.0
behind_ends before n h to_finish short past g a =
    subst (λ (k : Past). ReachesEnd (2 ^ 32) (stands_yes k finished)) (sym (gather_end h)) (finished_ends before n h short past a)

-- the front of a node or of the end
front_place_ends : (before n : ℕ) (h : Past) → before + n < 2 ^ 32 → GoodPast before third h → ReachesEnd (2 ^ 32) (stands_yes h front)
front_place_ends before n (so_far version ranks pairs nodes wanted) short past =
    let room = room_of before n (so_far version ranks pairs nodes wanted) (omega (arith, short)) past in
    front_ends wanted version ranks pairs nodes (room.0, room.1, omega (arith, room.2))

place_end : (before n : ℕ) (h : Past) (p : Place) → before + n < 2 ^ 32 → GoodPast before (stage p) h → GoodPlace n p → PlaceFor (version_of h) (wants h) p → ReachesEnd (2 ^ 32) (stands_yes h p)
place_end before n h (word [] o) short past g a = absurd g
place_end before n h (word (x ∷ w) o) short past g a =
    ends_after (2 ^ 32) (stands_yes h (word (x ∷ w) o)) (standing_after_yes h (behind o)) (λ r. (x ∷ w) ++ r) (λ r. word_run h x w o r) (behind_ends before n h o short past g a)
place_end before n h version_wanted short past g a = version_ends before h past
place_end before n h (listed of xs) short past g a = list_ends before n h of xs (omega (arith, short)) past g.0 g.1.1 a
place_end before n h (number_wanted of) short past g a = wanted_ends before n h of short past g a
place_end before n h (number of k) short past g a = number_ends before n k h of short past g.0 g.1 a
place_end before n h front short past g a = front_place_ends before n h short past
place_end before n h (arg_front args) short past g a = args_end before n h args short past (omega (arith, g.1)) a
place_end before n h (arg_name_wanted args) short past g a = name_ends before n h args short past g.1 a
place_end before n h (letters args xs) short past g a = letters_end before n h args xs short past g.0.1 a
place_end before n h (poly_lines usable x k) short past g a =
    let room = usable_within n (2 ^ 32) usable (omega (arith, short)) g.0 in
    lines_place_ends before n h usable x k room short past g.1 g.2 a.0
place_end before n h (order_lines x k) short past g a = order_place_ends before n h x k short past g.0 g.1 a.0
place_end before n h finished short past g a = finished_ends before n h short past a

pub yes_ends : (n : ℕ) (h : Past) (p : Place) (f : List ℕ → List ℕ) → n < 2 ^ 32 → Good n h p f → ReachesEnd (2 ^ 32) (stands_yes h p)
yes_ends n h p f short g = place_end g.before g.since h p (omega (arith, g.sum)) g.past g.place g.right
