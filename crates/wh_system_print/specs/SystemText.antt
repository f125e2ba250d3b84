-- The canonical text of a system (ours). `put_.. r` is the spelling with r behind it.
use Rattle.std.specs.Prelude.{ℕ, ◌+◌, List, [], ◌∷◌, ◌++◌, codes, get_or}
use Rattle.wh_types.specs.Ty.{Ty}
use Rattle.wh_text.specs.Chars.{line_feed}
use Rattle.wh_terms.specs.Typing.{Declared}
use Rattle.wh_terms.specs.Rules.{RewriteRule}
use Rattle.wh_text.specs.Spelling.{put_type, put_term}
use Rattle.wh_system.specs.Systems.{SystemData}
use Rattle.wh_system.specs.Canonical.{raw_type_of, raw_of}
use Rattle.wh_system.specs.CanonicalView.{names_of_rule}

-- a line `sort NAME;`
abbrev pub put_sort : List ℕ → List ℕ → List ℕ
put_sort name r = codes "sort " ++ (name ++ (codes ";" ++ line_feed ∷ r))

abbrev pub put_sorts : List (List ℕ) → List ℕ → List ℕ
put_sorts [] r = r
put_sorts (name ∷ names) r = put_sort name (put_sorts names r)

-- a line `fun NAME:TYPE;`
abbrev pub put_fun : List (List ℕ) → List ℕ → Ty → List ℕ → List ℕ
put_fun sorts name a r = codes "fun " ++ (name ++ (codes ":" ++ put_type (raw_type_of sorts a) (codes ";" ++ line_feed ∷ r)))

-- the symbols, each name with its type
abbrev pub put_funs : List (List ℕ) → List (List ℕ) → List Ty → List ℕ → List ℕ
put_funs sorts (name ∷ names) (a ∷ kinds) r = put_fun sorts name a (put_funs sorts names kinds r)
put_funs sorts _ _ r = r

-- further types in the brackets of a meta-variable
abbrev pub put_further : List (List ℕ) → List Ty → List ℕ → List ℕ
put_further sorts [] r = r
put_further sorts (a ∷ as_well) r = codes "," ++ put_type (raw_type_of sorts a) (put_further sorts as_well r)

-- the types of the arguments of a meta-variable, in brackets, if there are any
abbrev pub put_brackets : List (List ℕ) → List Ty → List ℕ → List ℕ
put_brackets sorts [] r = r
put_brackets sorts (a ∷ as_well) r = codes "[" ++ put_type (raw_type_of sorts a) (put_further sorts as_well (codes "]" ++ r))

-- a meta-variable: `F:[A,B]C`, or `F:C` without arguments
abbrev pub put_meta : List (List ℕ) → List ℕ → Declared → List ℕ → List ℕ
put_meta sorts name d r = name ++ (codes ":" ++ put_brackets sorts d.args (put_type (raw_type_of sorts d.out) r))

-- further meta-variables, each behind a comma
abbrev pub put_further_metas : List (List ℕ) → List (List ℕ) → List Declared → List ℕ → List ℕ
put_further_metas sorts (name ∷ names) (d ∷ metas) r = codes "," ++ put_meta sorts name d (put_further_metas sorts names metas r)
put_further_metas sorts _ _ r = r

abbrev pub put_metas : List (List ℕ) → List (List ℕ) → List Declared → List ℕ → List ℕ
put_metas sorts (name ∷ names) (d ∷ metas) r = put_meta sorts name d (put_further_metas sorts names metas r)
put_metas sorts _ _ r = r

-- a line `rule {METAS} LEFT => RIGHT;`, of the rule with the number k
abbrev pub put_rule : SystemData → ℕ → RewriteRule → List ℕ → List ℕ
put_rule d k rule r =
    codes "rule {" ++ put_metas d.sort_names (get_or d.meta_names k []) rule.metas
    (codes "} " ++ put_term (raw_of (names_of_rule d k) rule.left)
    (codes " => " ++ put_term (raw_of (names_of_rule d k) rule.right) (codes ";" ++ line_feed ∷ r)))

-- the rules from number k on
abbrev pub put_rules : SystemData → ℕ → List RewriteRule → List ℕ → List ℕ
put_rules d k [] r = r
put_rules d k (rule ∷ rules) r = put_rule d k rule (put_rules d (k + 1) rules r)

-- the text: sorts, symbols and rules, a line each
abbrev pub system_text : SystemData → List ℕ
system_text d = put_sorts d.sort_names (put_funs d.sort_names d.fun_names d.symbols.funs (put_rules d 0 d.rules []))
