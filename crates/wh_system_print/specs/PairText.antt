-- The text of dependency pairs (ours). `put_.. r` is the spelling with r behind it.
use Rattle.std.specs.Prelude.{ℕ, zero, suc, ◌+◌, ◌-◌, List, [], ◌∷◌, ◌++◌, codes, get_or, length}
use Rattle.std.specs.Fmt.{decimal}
use Rattle.wh_text.specs.Chars.{line_feed}
use Rattle.wh_terms.specs.Tree.{Tm}
use Rattle.wh_text.specs.Spelling.{put_term}
use Rattle.wh_system.specs.Systems.{SystemData}
use Rattle.wh_system.specs.Canonical.{Names, name_at, raw_of}
use Rattle.wh_pairs.specs.PairData.{PairData, Within}

-- the name of a fresh meta-variable: `?` and its number
abbrev pub fresh_name : ℕ → List ℕ
fresh_name k = codes "?" ++ decimal k

-- the names of n fresh meta-variables, from number k on
abbrev pub fresh_names : ℕ → ℕ → List (List ℕ)
fresh_names k zero = []
fresh_names k (suc n) = fresh_name k ∷ fresh_names (k + 1) n

-- the names in a pair: its first meta-variables are those of its rule, the others are fresh
abbrev pub names_of_pair : SystemData → PairData → Names
names_of_pair d p =
    let own = get_or d.meta_names p.rule [] in
    record { sorts = d.sort_names; funs = d.fun_names; metas = own ++ fresh_names 0 (length p.metas - length own) }

-- a marked symbol: its name and `#`
abbrev pub put_marked : Names → ℕ → List ℕ → List ℕ
put_marked n f r = name_at n.funs f ++ (codes "#" ++ r)

-- arguments, each behind a space
abbrev pub put_each : Names → List Tm → List ℕ → List ℕ
put_each n [] r = r
put_each n (t ∷ ts) r = codes " " ++ put_term (raw_of n t) (put_each n ts r)

-- a side: `(f# a1 a2)`, or `f#` without arguments
abbrev pub put_side : Names → ℕ → List Tm → List ℕ → List ℕ
put_side n f [] r = put_marked n f r
put_side n f (t ∷ ts) r = codes "(" ++ put_marked n f (put_each n (t ∷ ts) (codes ")" ++ r))

-- conditions, each behind a space: the name of the meta-variable, `:` and the place
abbrev pub put_conditions : Names → List Within → List ℕ → List ℕ
put_conditions n [] r = r
put_conditions n (c ∷ cs) r = codes " " ++ (name_at n.metas c.meta ++ (codes ":" ++ (decimal c.place ++ put_conditions n cs r)))

-- ` if` and the conditions, where there are any
abbrev pub put_if : Names → List Within → List ℕ → List ℕ
put_if n [] r = r
put_if n (c ∷ cs) r = codes " if" ++ put_conditions n (c ∷ cs) r

-- the line of the pair with the number k
abbrev pub put_pair : SystemData → ℕ → PairData → List ℕ → List ℕ
put_pair d k p r =
    let n = names_of_pair d p in
    codes "pair " ++ (decimal k ++ (codes " rule " ++ (decimal p.rule ++ (codes " " ++
    put_side n p.left_fun p.left (codes " => " ++ put_side n p.right_fun p.right (put_if n p.conditions (line_feed ∷ r)))))))

-- the lines of the pairs from number k on
abbrev pub put_pairs : SystemData → ℕ → List PairData → List ℕ → List ℕ
put_pairs d k [] r = r
put_pairs d k (p ∷ ps) r = put_pair d k p (put_pairs d (k + 1) ps r)

-- the text: their number, and a line for each
abbrev pub pairs_text : SystemData → List PairData → List ℕ
pairs_text d ps = codes "PAIRS " ++ (decimal (length ps) ++ (line_feed ∷ put_pairs d 0 ps []))
