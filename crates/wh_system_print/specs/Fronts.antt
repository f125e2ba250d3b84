-- A spine without its parentheses (ours).
use Rattle.std.specs.Prelude.{ℕ, List}
use Rattle.wh_text.specs.RawTree.{RTm, spine}
use Rattle.wh_text.specs.Spelling.{put_term, put_parts}

-- the head of a spine and its arguments, each behind a space; what is no spine is its own head
abbrev pub put_front : RTm → List ℕ → List ℕ
put_front (spine h ts at) r = put_term h (put_parts ts r)
put_front t r = put_term t r
