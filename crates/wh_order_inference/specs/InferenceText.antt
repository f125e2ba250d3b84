-- The text of inferences (ours). In EBNF, no blank standing anywhere:
--
--     inference = "=" | "v"
--               | ( "l" | "m" | "p" | "a" | "b" ) parts
--               | ( "s" | "x" | "z" ) number parts
--     parts     = "(" [ inference { "," inference } ] ")"
--     number    = "0" | nonzero { digit }
--
-- How deep inferences nest, and how great a number is, stands in InferenceLimits. `put_.. r` is the spelling with r
-- behind it.
use Rattle.std.specs.Prelude.{ℕ, List, [], ◌∷◌, ◌++◌, codes}
use Rattle.std.specs.Fmt.{decimal}
use Rattle.wh_order_inference.specs.Inferences.{Letter, same_trees, bodies, arguments, part, lower, first_less, spine_parts, body, variable, meta_part, Inference, infer, Inferences, no_parts, more_parts}

-- what stands behind a letter: nothing; its parts; a place, and then its parts
pub data Form : Type 0 where
  alone with_parts with_place : Form

abbrev pub form : Letter → Form
form same_trees = alone
form variable = alone
form part = with_place
form first_less = with_place
form meta_part = with_place
form _ = with_parts

-- the byte of a letter
abbrev pub sign : Letter → ℕ
sign same_trees = 61
sign bodies = 108
sign arguments = 109
sign part = 115
sign lower = 112
sign first_less = 120
sign spine_parts = 97
sign body = 98
sign variable = 118
sign meta_part = 122

-- the place, where one is written
abbrev pub put_place : Form → ℕ → List ℕ → List ℕ
put_place with_place n r = decimal n ++ r
put_place _ n r = r

-- the parts in parentheses, where they are written; their spelling up to the closing one is given
abbrev pub put_listed : Form → List ℕ → List ℕ → List ℕ
put_listed alone parts r = r
put_listed _ parts r = codes "(" ++ parts

abbrev mutual
  -- the letter, then its place and its parts
  pub put_inference : Inference → List ℕ → List ℕ
  put_inference (infer l n is) r = sign l ∷ put_place (form l) n (put_listed (form l) (put_parts is r) r)

  -- the parts, a comma between each two, and the closing parenthesis
  pub put_parts : Inferences → List ℕ → List ℕ
  put_parts no_parts r = codes ")" ++ r
  put_parts (more_parts i is) r = put_inference i (put_more is r)

  -- further parts, a comma before each, and the closing parenthesis
  pub put_more : Inferences → List ℕ → List ℕ
  put_more no_parts r = codes ")" ++ r
  put_more (more_parts i is) r = codes "," ++ put_inference i (put_more is r)

-- the parts of an inference of this form, where they are written
abbrev pub put_list : Form → Inferences → List ℕ → List ℕ
put_list f is r = put_listed f (put_parts is r) r

-- the text of an inference
abbrev pub of_inference : Inference → List ℕ
of_inference i = put_inference i []
