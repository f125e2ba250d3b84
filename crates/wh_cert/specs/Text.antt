-- The text of a certificate (ours), of version 1 or 2. In EBNF, LF being a line feed and no other blank standing
-- anywhere:
--
--     certificate = yes | no
--     yes         = "YES 1" LF head node1 "end" LF | "YES 2" LF head node2 "end" LF
--     head        = "ranks" numbers LF "pairs " number LF
--     node1       = "done" LF
--                 | "alone" LF
--                 | "blocks " number LF { "block" numbers LF } { node1 }
--                 | "subterm" LF { "arg " name " " number LF } "drop" numbers LF node1
--                 | "poly" LF { "fun " name " " poly LF } { "mark " name " " poly LF }
--                   { "rule" moves LF } { "pair" moves LF } "drop" numbers LF node1
--     node2       = "done" LF
--                 | "alone" LF
--                 | "blocks " number LF { "block" numbers LF } { node2 }
--                 | "subterm" LF { "arg " name " " number LF } "drop" numbers LF node2
--                 | "order" LF { "fun " name " " filter LF } { "mark " name " " filter LF }
--                   { "rule " inference LF } { "pair " inference LF } "drop" numbers LF node2
--                 | "poly" LF "usable" numbers LF { "fun " name " " poly LF } { "mark " name " " poly LF }
--                   { "rule" moves LF } { "pair" moves LF } "drop" numbers LF node2
--     numbers     = { " " number }
--     moves       = { " " number ">" number ":" amount }
--     poly        = "0" | monomial { "+" monomial }
--     monomial    = amount { "*" factor }
--     factor      = "y" number [ "(" poly { "," poly } ")" ]
--     no          = "NO 1" LF "term " term LF { "step " ( number | "beta" ) " " path LF }
--                   "at " path LF { "put " variable " " term LF } "end" LF
--     path        = "/" { "0" | "1" }
--     term        = head | "(" head " " term { " " term } ")"
--     head        = name | "$" number | variable | "(\$" number ":" type "." term ")"
--     variable    = "%" number ":" type
--     type        = name | "(" type "->" { type "->" } name ")"
--     name        = ( letter | "_" ) { letter | "_" | digit | "'" }
--     number      = "0" | amount
--     amount      = nonzero { digit }
--
-- Letters and digits are those of ASCII, `nonzero` is a digit but 0. Behind `blocks` come as many blocks, and as many
-- nodes, as its number says. How great, how long, how many and how deep all this may be stands in Limits, TermLimits
-- and PolyLimits; filters and inferences stand beside the crate that has them, in FilterText, InferenceText and
-- InferenceLimits. Below, `put_.. r` is the spelling with r behind it.
use Rattle.std.specs.Prelude.{ℕ, ◌+◌, List, [], ◌∷◌, ◌++◌, length, Option, Some, None, codes}
use Rattle.std.specs.Fmt.{decimal}
use Rattle.wh_text.specs.Chars.{line_feed}
use Rattle.wh_terms.specs.declared.path.Step as taken
use Rattle.wh_text.specs.Spelling.{put_part, put_term}
use Rattle.wh_hopoly.specs.declared.expression.Move as moved
use Rattle.wh_order_inference.specs.Inferences.{Inference}
use Rattle.wh_order_inference.specs.InferenceText.{put_inference}
use Rattle.wh_order_inference.specs.FilterText.{put_filter}
use Rattle.wh_cert.specs.PolyText.{put_poly}
use Rattle.wh_cert.specs.Interps.{Interp}
use Rattle.wh_cert.specs.Written.{Put, Arg, Filtering, Node, done, alone, blocks, subterm, interpretations, order, Cert, yes, no}

-- a path behind its `/`: a digit for each entry
abbrev pub put_path : List ℕ → List ℕ → List ℕ
put_path [] r = r
put_path (d ∷ ds) r = (48 + d) ∷ put_path ds r

-- what a step applies: the number of a rule, or beta
abbrev pub put_rule : Option ℕ → List ℕ → List ℕ
put_rule (Some k) r = decimal k ++ r
put_rule None r = codes "beta" ++ r

-- the line of a step
abbrev pub put_step : taken.Step → List ℕ → List ℕ
put_step s r = codes "step " ++ put_rule s.rule (codes " /" ++ put_path s.path (line_feed ∷ r))

abbrev pub put_steps : List taken.Step → List ℕ → List ℕ
put_steps [] r = r
put_steps (s ∷ ss) r = put_step s (put_steps ss r)

-- the line of a term that is put for a variable
abbrev pub put_put : Put → List ℕ → List ℕ
put_put p r = codes "put %" ++ (decimal p.number ++ (codes ":" ++ put_part p.kind (codes " " ++ put_term p.term (line_feed ∷ r))))

abbrev pub put_puts : List Put → List ℕ → List ℕ
put_puts [] r = r
put_puts (p ∷ ps) r = put_put p (put_puts ps r)

-- numbers, a space before each
abbrev pub put_entry : ℕ → List ℕ → List ℕ
put_entry n r = codes " " ++ (decimal n ++ r)

abbrev pub put_numbers : List ℕ → List ℕ → List ℕ
put_numbers [] r = r
put_numbers (n ∷ ns) r = put_entry n (put_numbers ns r)

-- the numbers up to the end of their line
abbrev pub put_line : List ℕ → List ℕ → List ℕ
put_line ns r = put_numbers ns (line_feed ∷ r)

-- the line of a block
abbrev pub put_block : List ℕ → List ℕ → List ℕ
put_block block r = codes "block" ++ put_line block r

abbrev pub put_blocks : List (List ℕ) → List ℕ → List ℕ
put_blocks [] r = r
put_blocks (b ∷ bs) r = put_block b (put_blocks bs r)

-- the line of an argument that is looked at
abbrev pub put_arg : Arg → List ℕ → List ℕ
put_arg a r = codes "arg " ++ (a.name ++ (codes " " ++ (decimal a.place ++ (line_feed ∷ r))))

abbrev pub put_args : List Arg → List ℕ → List ℕ
put_args [] r = r
put_args (a ∷ rest) r = put_arg a (put_args rest r)

-- the line of an interpretation, behind its word
abbrev pub put_interp : List ℕ → Interp → List ℕ → List ℕ
put_interp word i r = word ++ (i.name ++ (codes " " ++ put_poly i.poly (line_feed ∷ r)))

abbrev pub put_interps : List ℕ → List Interp → List ℕ → List ℕ
put_interps word [] r = r
put_interps word (i ∷ is) r = put_interp word i (put_interps word is r)

-- a move: the monomial that gives, the one that gets, and the amount
abbrev pub put_move : moved.Move → List ℕ → List ℕ
put_move m r = codes " " ++ (decimal m.from ++ (codes ">" ++ (decimal m.to ++ (codes ":" ++ (decimal m.amount ++ r)))))

abbrev pub put_moves : List moved.Move → List ℕ → List ℕ
put_moves [] r = r
put_moves (m ∷ ms) r = put_move m (put_moves ms r)

-- the line of moves, behind its word
abbrev pub put_cover : List ℕ → List moved.Move → List ℕ → List ℕ
put_cover word ms r = word ++ put_moves ms (line_feed ∷ r)

abbrev pub put_covers : List ℕ → List (List moved.Move) → List ℕ → List ℕ
put_covers word [] r = r
put_covers word (ms ∷ rest) r = put_cover word ms (put_covers word rest r)

-- the line of a filter, behind its word
abbrev pub put_filtering : List ℕ → Filtering → List ℕ → List ℕ
put_filtering word f r = word ++ (f.name ++ (codes " " ++ put_filter f.filter (line_feed ∷ r)))

abbrev pub put_filterings : List ℕ → List Filtering → List ℕ → List ℕ
put_filterings word [] r = r
put_filterings word (f ∷ fs) r = put_filtering word f (put_filterings word fs r)

-- the line of an inference, behind its word
abbrev pub put_shown : List ℕ → Inference → List ℕ → List ℕ
put_shown word i r = word ++ put_inference i (line_feed ∷ r)

abbrev pub put_all_shown : List ℕ → List Inference → List ℕ → List ℕ
put_all_shown word [] r = r
put_all_shown word (i ∷ is) r = put_shown word i (put_all_shown word is r)

-- the line of the rules that are to be covered, where there is one
abbrev pub put_usable : Option (List ℕ) → List ℕ → List ℕ
put_usable None r = r
put_usable (Some ns) r = codes "usable" ++ put_line ns r

-- the lines of a node, without its children's
abbrev pub put_node : Node → List ℕ → List ℕ
put_node done r = codes "done" ++ (line_feed ∷ r)
put_node alone r = codes "alone" ++ (line_feed ∷ r)
put_node (blocks parts) r = codes "blocks " ++ (decimal (length parts) ++ (line_feed ∷ put_blocks parts r))
put_node (subterm args drop) r = codes "subterm" ++ (line_feed ∷ put_args args (codes "drop" ++ put_line drop r))
put_node (interpretations usable funs marks rules pairs drop) r =
    codes "poly" ++ (line_feed ∷ put_usable usable (put_interps (codes "fun ") funs
    (put_interps (codes "mark ") marks (put_covers (codes "rule") rules
    (put_covers (codes "pair") pairs (codes "drop" ++ put_line drop r))))))
put_node (order funs marks rules pairs drop) r =
    codes "order" ++ (line_feed ∷ put_filterings (codes "fun ") funs
    (put_filterings (codes "mark ") marks (put_all_shown (codes "rule ") rules
    (put_all_shown (codes "pair ") pairs (codes "drop" ++ put_line drop r)))))

abbrev pub put_nodes : List Node → List ℕ → List ℕ
put_nodes [] r = r
put_nodes (x ∷ xs) r = put_node x (put_nodes xs r)

-- the text of a certificate, line by line
abbrev pub text : Cert → List ℕ
text (yes version ranks pairs nodes) =
    codes "YES " ++ (decimal version ++ (line_feed ∷ (codes "ranks" ++ put_line ranks
    (codes "pairs " ++ (decimal pairs ++ (line_feed ∷ put_nodes nodes (codes "end" ++ (line_feed ∷ []))))))))
text (no t steps at puts) =
    codes "NO 1" ++ (line_feed ∷ (codes "term " ++ put_term t
    (line_feed ∷ put_steps steps (codes "at /" ++ put_path at (line_feed ∷ put_puts puts (codes "end" ++ (line_feed ∷ [])))))))
