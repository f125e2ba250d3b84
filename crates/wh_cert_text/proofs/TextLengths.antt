-- A text is at least as long as each list that it spells.
use Rattle.std.proofs.Common.{ℕ, ◌≤◌, List, [], ◌∷◌, ◌++◌, length, codes, All, Option, Some, None, subst, sym, arith}
use Rattle.std.specs.Fmt.{decimal}
use Rattle.std.proofs.lemmas.List.Elements.{All-nil, All-cons}
use Rattle.wh_hopoly.specs.declared.expression.Move as moved
use Rattle.wh_order_inference.specs.Inferences.{Inference, infer, Inferences, no_parts, more_parts}
use Rattle.wh_order_inference.specs.InferenceText.{Form, alone as is_alone, with_parts, with_place, form, put_place, put_listed, put_inference, put_parts, put_more}
use Rattle.wh_order_inference.specs.FilterText.{WrittenFilter, keeps, picks, put_places, put_filter}
use Rattle.wh_cert.specs.PolyText.{put_poly}
use Rattle.wh_cert_parts.proofs.PolyTextLengths.{behind, behind_poly, long_poly, poly_within}
use Rattle.wh_cert.specs.Interps.{Interp}
use Rattle.wh_cert.specs.Written.{Arg, Filtering, Node, done, alone, blocks, subterm, interpretations, order, Cert, yes, no}
use Rattle.wh_cert.specs.Text.{put_interp, put_interps, put_moves, put_covers, put_filterings, put_all_shown, put_numbers, put_line, put_blocks, put_args, put_usable, put_node, put_nodes, text}
use Rattle.wh_cert.specs.CertText.{CertText}
use Rattle.wh_cert.specs.PolyCounts.{PolyWithin, PolysWithin, AllPolysWithin}

-- lines

behind_moves : (ms : List moved.Move) (r : List ℕ) → length r ≤ length (put_moves ms r)
behind_moves [] r = omega arith
behind_moves (m ∷ ms) r =
    let rest = put_moves ms r in
    omega (arith, behind (decimal m.from) (62 ∷ (decimal m.to ++ (58 ∷ (decimal m.amount ++ rest)))), behind (decimal m.to) (58 ∷ (decimal m.amount ++ rest)), behind (decimal m.amount) rest, behind_moves ms r)

behind_covers : (word : List ℕ) (mss : List (List moved.Move)) (r : List ℕ) → length r ≤ length (put_covers word mss r)
behind_covers word [] r = omega arith
behind_covers word (ms ∷ mss) r =
    let rest = put_covers word mss r in
    omega (arith, behind word (put_moves ms (10 ∷ rest)), behind_moves ms (10 ∷ rest), behind_covers word mss r)

behind_interp : (word : List ℕ) (i : Interp) (r : List ℕ) → length (put_poly i.poly (10 ∷ r)) ≤ length (put_interp word i r)
behind_interp word i r =
    let rest = put_poly i.poly (10 ∷ r) in
    omega (arith, behind word (i.name ++ (32 ∷ rest)), behind i.name (32 ∷ rest))

behind_interps : (word : List ℕ) (is : List Interp) (r : List ℕ) → length r ≤ length (put_interps word is r)
behind_interps word [] r = omega arith
behind_interps word (i ∷ is) r =
    let rest = put_interps word is r in
    omega (arith, behind_interp word i rest, behind_poly i.poly (10 ∷ rest), behind_interps word is r)

interps_within : (n : ℕ) (word : List ℕ) (is : List Interp) (r : List ℕ) → length (put_interps word is r) ≤ n → All (λ (i : Interp). PolyWithin n i.poly) is
interps_within n word [] r le = All-nil (λ (i : Interp). PolyWithin n i.poly)
interps_within n word (i ∷ is) r le =
    let rest = put_interps word is r in
    let short : length (put_poly i.poly (10 ∷ rest)) ≤ n = omega (arith, le, behind_interp word i rest) in
    All-cons (λ (j : Interp). PolyWithin n j.poly) i is
    (omega (arith, short, long_poly i.poly (10 ∷ rest)), poly_within n i.poly (10 ∷ rest) short)
    (interps_within n word is r (omega (arith, short, behind_poly i.poly (10 ∷ rest))))

behind_numbers : (ns r : List ℕ) → length r ≤ length (put_numbers ns r)
behind_numbers [] r = omega arith
behind_numbers (n ∷ ns) r = omega (arith, behind (decimal n) (put_numbers ns r), behind_numbers ns r)

behind_blocks : (bs : List (List ℕ)) (r : List ℕ) → length r ≤ length (put_blocks bs r)
behind_blocks [] r = omega arith
behind_blocks (b ∷ bs) r =
    let rest = put_blocks bs r in
    omega (arith, behind (codes "block") (put_line b rest), behind_numbers b (10 ∷ rest), behind_blocks bs r)

behind_args : (xs : List Arg) (r : List ℕ) → length r ≤ length (put_args xs r)
behind_args [] r = omega arith
behind_args (a ∷ xs) r =
    let rest = put_args xs r in
    omega (arith, behind (codes "arg ") (a.name ++ (32 ∷ (decimal a.place ++ (10 ∷ rest)))), behind a.name (32 ∷ (decimal a.place ++ (10 ∷ rest))), behind (decimal a.place) (10 ∷ rest), behind_args xs r)

-- filters and inferences

behind_places : (ns r : List ℕ) → length r ≤ length (put_places ns r)
behind_places [] r = omega arith
behind_places (n ∷ ns) r = omega (arith, behind (decimal n) (put_places ns r), behind_places ns r)

behind_filter : (f : WrittenFilter) (r : List ℕ) → length r ≤ length (put_filter f r)
behind_filter (keeps prec places) r =
    omega (arith, behind (codes "keep ") (decimal prec ++ put_places places r), behind (decimal prec) (put_places places r), behind_places places r)
behind_filter (picks place) r = omega (arith, behind (codes "pick ") (decimal place ++ r), behind (decimal place) r)

behind_filterings : (word : List ℕ) (fs : List Filtering) (r : List ℕ) → length r ≤ length (put_filterings word fs r)
behind_filterings word [] r = omega arith
behind_filterings word (f ∷ fs) r =
    let rest = put_filterings word fs r in
    omega (arith, behind word (f.name ++ (32 ∷ put_filter f.filter (10 ∷ rest))), behind f.name (32 ∷ put_filter f.filter (10 ∷ rest)), behind_filter f.filter (10 ∷ rest), behind_filterings word fs r)

behind_place : (f : Form) (n : ℕ) (r : List ℕ) → length r ≤ length (put_place f n r)
behind_place with_place n r = behind (decimal n) r
behind_place is_alone n r = omega arith
behind_place with_parts n r = omega arith

behind_listed : (f : Form) (parts r : List ℕ) → length r ≤ length parts → length r ≤ length (put_listed f parts r)
behind_listed is_alone parts r le = omega arith
behind_listed with_parts parts r le = omega (arith, le)
behind_listed with_place parts r le = omega (arith, le)

mutual
  behind_inference : (i : Inference) (r : List ℕ) → length r ≤ length (put_inference i r)
  behind_inference (infer l n is) r =
      let listed = put_listed (form l) (put_parts is r) r in
      omega (arith, behind_place (form l) n listed, behind_listed (form l) (put_parts is r) r (behind_parts is r))

  behind_parts : (is : Inferences) (r : List ℕ) → length r ≤ length (put_parts is r)
  behind_parts no_parts r = omega arith
  behind_parts (more_parts i is) r = omega (arith, behind_inference i (put_more is r), behind_more is r)

  behind_more : (is : Inferences) (r : List ℕ) → length r ≤ length (put_more is r)
  behind_more no_parts r = omega arith
  behind_more (more_parts i is) r = omega (arith, behind_inference i (put_more is r), behind_more is r)

behind_all_shown : (word : List ℕ) (is : List Inference) (r : List ℕ) → length r ≤ length (put_all_shown word is r)
behind_all_shown word [] r = omega arith
behind_all_shown word (i ∷ is) r =
    let rest = put_all_shown word is r in
    omega (arith, behind word (put_inference i (10 ∷ rest)), behind_inference i (10 ∷ rest), behind_all_shown word is r)

-- nodes

behind_usable : (usable : Option (List ℕ)) (r : List ℕ) → length r ≤ length (put_usable usable r)
behind_usable None r = omega arith
behind_usable (Some ns) r = omega (arith, behind (codes "usable") (put_line ns r), behind_numbers ns (10 ∷ r))

behind_node : (x : Node) (r : List ℕ) → length r ≤ length (put_node x r)
behind_node done r = omega (arith, behind (codes "done") (10 ∷ r))
behind_node alone r = omega (arith, behind (codes "alone") (10 ∷ r))
behind_node (blocks parts) r =
    let rest = put_blocks parts r in
    omega (arith, behind (codes "blocks ") (decimal (length parts) ++ (10 ∷ rest)), behind (decimal (length parts)) (10 ∷ rest), behind_blocks parts r)
behind_node (subterm args dropped) r =
    let rest = put_line dropped r in
    omega (arith, behind (codes "subterm") (10 ∷ put_args args (codes "drop" ++ rest)), behind_args args (codes "drop" ++ rest), behind (codes "drop") rest, behind_numbers dropped (10 ∷ r))
behind_node (order funs marks rules pairs dropped) r =
    let last = codes "drop" ++ put_line dropped r in
    let fourth = put_all_shown (codes "pair ") pairs last in
    let third = put_all_shown (codes "rule ") rules fourth in
    let second = put_filterings (codes "mark ") marks third in
    omega (arith, behind (codes "order") (10 ∷ put_filterings (codes "fun ") funs second), behind_filterings (codes "fun ") funs second, behind_filterings (codes "mark ") marks third, behind_all_shown (codes "rule ") rules fourth, behind_all_shown (codes "pair ") pairs last, behind (codes "drop") (put_line dropped r), behind_numbers dropped (10 ∷ r))
behind_node (interpretations usable funs marks rules pairs dropped) r =
    let last = codes "drop" ++ put_line dropped r in
    let fourth = put_covers (codes "pair") pairs last in
    let third = put_covers (codes "rule") rules fourth in
    let second = put_interps (codes "mark ") marks third in
    let first = put_interps (codes "fun ") funs second in
    omega (arith, behind (codes "poly") (10 ∷ put_usable usable first), behind_usable usable first, behind_interps (codes "fun ") funs second, behind_interps (codes "mark ") marks third, behind_covers (codes "rule") rules fourth, behind_covers (codes "pair") pairs last, behind (codes "drop") (put_line dropped r), behind_numbers dropped (10 ∷ r))

node_within : (n : ℕ) (x : Node) (r : List ℕ) → length (put_node x r) ≤ n → PolysWithin n x
node_within n done r le = tt
node_within n alone r le = tt
node_within n (blocks parts) r le = tt
node_within n (subterm args dropped) r le = tt
node_within n (order funs marks rules pairs dropped) r le = tt
node_within n (interpretations usable funs marks rules pairs dropped) r le =
    let third = put_covers (codes "rule") rules (put_covers (codes "pair") pairs (codes "drop" ++ put_line dropped r)) in
    let second = put_interps (codes "mark ") marks third in
    let first = put_interps (codes "fun ") funs second in
    let short : length first ≤ n = omega (arith, le, behind (codes "poly") (10 ∷ put_usable usable first), behind_usable usable first) in
    (interps_within n (codes "fun ") funs second short, interps_within n (codes "mark ") marks third (omega (arith, short, behind_interps (codes "fun ") funs second)))

nodes_within : (n : ℕ) (xs : List Node) (r : List ℕ) → length (put_nodes xs r) ≤ n → All (PolysWithin n) xs
nodes_within n [] r le = All-nil (PolysWithin n)
nodes_within n (x ∷ xs) r le =
    All-cons (PolysWithin n) x xs (node_within n x (put_nodes xs r) le) (nodes_within n xs r (omega (arith, le, behind_node x (put_nodes xs r))))

cert_within : (n : ℕ) (c : Cert) → length (text c) ≤ n → AllPolysWithin n c
cert_within n (no t steps at puts) le = tt
cert_within n (yes version ranks pairs nodes) le =
    let rest = put_nodes nodes (codes "end" ++ (10 ∷ [])) in
    let second = decimal pairs ++ (10 ∷ rest) in
    let first = put_line ranks (codes "pairs " ++ second) in
    nodes_within n nodes (codes "end" ++ (10 ∷ [])) (omega (arith, le, behind (codes "YES ") (decimal version ++ (10 ∷ (codes "ranks" ++ first))), behind (decimal version) (10 ∷ (codes "ranks" ++ first)), behind (codes "ranks") first, behind_numbers ranks (10 ∷ (codes "pairs " ++ second)), behind (codes "pairs ") second, behind (decimal pairs) (10 ∷ rest)))

-- lists in the polynomials of a certificate are no longer than its text
pub polys_short : (bytes : List ℕ) (c : Cert) → CertText bytes c → AllPolysWithin (length bytes) c
polys_short bytes c t = cert_within (length bytes) c (subst (λ (p : List ℕ). length (text c) ≤ length p) (sym t.spelled) (omega arith))
