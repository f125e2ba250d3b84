-- A worked system: a function is mapped over a list. With it stand its one dependency pair and the proof of that, as a
-- certificate says it.
use Rattle.std.specs.Prelude.{List, [], ◌∷◌, codes}
use Rattle.wh_types.specs.Ty.{Ty, sort, ◌⇒◌}
use Rattle.wh_terms.specs.Tree.{Tm, bound, fun, meta, lam, app, none, more}
use Rattle.wh_terms.specs.Typing.{Symbols, Declared}
use Rattle.wh_terms.specs.Rules.{RewriteRule}
use Rattle.wh_pairs.specs.PairData.{PairData}
use Rattle.wh_system.specs.Systems.{SystemData}
use Rattle.wh_subterm.specs.Projections.{Chosen}
use Rattle.wh_proof.specs.Nodes.{Node, done, subterm}

-- the sorts: 0 nat and 1 list
abbrev pub nat : Ty
nat = sort 0

abbrev pub list : Ty
list = sort 1

-- the symbols: 0 zero, 1 s, 2 nil, 3 cons and 4 map
abbrev pub map_symbols : Symbols
map_symbols = record {
  sorts = 2;
  funs = nat ∷ (nat ⇒ nat) ∷ list ∷ (nat ⇒ list ⇒ list) ∷ ((nat ⇒ nat) ⇒ list ⇒ list) ∷ [];
}

-- a meta-variable with an argument, and one without
abbrev pub function_meta : Declared
function_meta = record { args = nat ∷ []; out = nat }

abbrev pub plain_meta : Ty → Declared
plain_meta a = record { args = []; out = a }

-- the meta-variables 0 F:[nat] nat, 1 X:nat and 2 Y:list
abbrev pub map_metas : List Declared
map_metas = function_meta ∷ plain_meta nat ∷ plain_meta list ∷ []

-- `\x:nat.F[x]`, `cons X Y`, and `map (\x:nat.F[x]) t`
abbrev pub mapped : Tm
mapped = lam nat (meta 0 (more (bound 0) none))

abbrev pub cons_term : Tm
cons_term = app (app (fun 3) (meta 1 none)) (meta 2 none)

abbrev pub map_over : Tm → Tm
map_over t = app (app (fun 4) mapped) t

-- {F:[nat] nat} map (\x:nat.F[x]) nil => nil
abbrev pub map_nil : RewriteRule
map_nil = record { metas = function_meta ∷ []; left = map_over (fun 2); right = fun 2 }

-- {F:[nat] nat, X:nat, Y:list} map (\x:nat.F[x]) (cons X Y) => cons F[X] (map (\x:nat.F[x]) Y)
abbrev pub map_cons : RewriteRule
map_cons = record {
  metas = map_metas;
  left = map_over cons_term;
  right = app (app (fun 3) (meta 0 (more (meta 1 none) none))) (map_over (meta 2 none));
}

-- the system `map` (Kop 2012), with the names of its text
abbrev pub map_system : SystemData
map_system = record {
  sort_names = codes "nat" ∷ codes "list" ∷ [];
  fun_names = codes "zero" ∷ codes "s" ∷ codes "nil" ∷ codes "cons" ∷ codes "map" ∷ [];
  symbols = map_symbols;
  rules = map_nil ∷ map_cons ∷ [];
  meta_names = (codes "F" ∷ []) ∷ (codes "F" ∷ codes "X" ∷ codes "Y" ∷ []) ∷ [];
}

-- the one pair of the system: map# (\x:nat.F[x]) (cons X Y) => map# (\x:nat.F[x]) Y
abbrev pub map_pair : PairData
map_pair = record {
  rule = 1;
  metas = map_metas;
  left_fun = 4;
  left = mapped ∷ cons_term ∷ [];
  right_fun = 4;
  right = mapped ∷ meta 2 none ∷ [];
  conditions = [];
}

-- of `map` the second argument is looked at
abbrev pub map_choice : Chosen
map_choice = record { symbol = 4; argument = 2 }

-- the pair is dropped, since that argument gets smaller; then there is no pair left
abbrev pub map_nodes : List Node
map_nodes = subterm (map_choice ∷ []) (0 ∷ []) ∷ done ∷ []
