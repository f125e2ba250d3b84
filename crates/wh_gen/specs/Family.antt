-- The generated systems (ours): n functions like `map` on lists of numbers, the first by recursion on the list, and
-- each further one by recursion on the list and a call of the one before it.
use Rattle.std.specs.Prelude.{ℕ, zero, suc, ◌≡◌, ◌+◌, ◌<◌, ◌⊎◌, List, [], ◌∷◌, map, codes}
use Rattle.std.specs.List.{flat_map, range_with_len}
use Rattle.std.specs.Fmt.{decimal}
use Rattle.wh_types.specs.Limits.{most_generated}
use Rattle.wh_types.specs.Ty.{Ty, sort, ◌⇒◌}
use Rattle.wh_terms.specs.Tree.{Tm, bound, fun, meta, lam, none, more, spine}
use Rattle.wh_terms.specs.Typing.{Symbols, Declared}
use Rattle.wh_terms.specs.Rules.{RewriteRule}
use Rattle.wh_system.specs.Systems.{SystemData}

-- there is no generated system of n functions (ours)
abbrev pub IsOutOfRange : ℕ → Type 0
IsOutOfRange n = (n ≡ 0) ⊎ (most_generated < n)

-- the names of the sorts
abbrev pub sort_names : List (List ℕ)
sort_names = codes "nat" ∷ codes "list" ∷ []

-- the type `nat`
abbrev pub nat : Ty
nat = sort 0

-- the type `list`
abbrev pub list : Ty
list = sort 1

-- the type of each function: `(nat -> nat) -> list -> list`
abbrev pub map_type : Ty
map_type = (nat ⇒ nat) ⇒ list ⇒ list

-- the name of the function number i: `m`, and i in decimal digits without leading zeros
abbrev pub map_name : ℕ → List ℕ
map_name i = 109 ∷ decimal i

-- the names of the symbols: `zero`, `s`, `nil`, `cons`, then `m0`, `m1` and so on, n of these
abbrev pub fun_names : ℕ → List (List ℕ)
fun_names n = codes "zero" ∷ codes "s" ∷ codes "nil" ∷ codes "cons" ∷ map map_name (range_with_len 0 n)

-- the types of the symbols, in the same order
abbrev pub fun_types : ℕ → List Ty
fun_types n = nat ∷ (nat ⇒ nat) ∷ list ∷ (nat ⇒ list ⇒ list) ∷ map (λ _. map_type) (range_with_len 0 n)

-- what terms are built over: the two sorts and the symbols
abbrev pub gen_symbols : ℕ → Symbols
gen_symbols n = record { sorts = 2; funs = fun_types n }

-- the empty list
abbrev pub nil : Tm
nil = fun 2

-- the list with a head and a tail
abbrev pub cons : Tm → Tm → Tm
cons x xs = spine (fun 3) (x ∷ xs ∷ [])

-- the meta-variable `F : [nat] nat`
abbrev pub f_declared : Declared
f_declared = record { args = nat ∷ []; out = nat }

-- the meta-variable `X : nat`
abbrev pub x_declared : Declared
x_declared = record { args = []; out = nat }

-- the meta-variable `Y : list`
abbrev pub y_declared : Declared
y_declared = record { args = []; out = list }

-- the meta-variables of a first rule
abbrev pub first_metas : List Declared
first_metas = f_declared ∷ []

-- the meta-variables of a second rule
abbrev pub second_metas : List Declared
second_metas = f_declared ∷ x_declared ∷ y_declared ∷ []

-- `F[t]`
abbrev pub image : Tm → Tm
image t = meta 0 (more t none)

-- `\x:nat.F[x]`
abbrev pub mapped : Tm
mapped = lam nat (image (bound 0))

-- `X`
abbrev pub meta_x : Tm
meta_x = meta 1 none

-- `Y`
abbrev pub meta_y : Tm
meta_y = meta 2 none

-- `mi (\x:nat.F[x]) xs`
abbrev pub map_of : ℕ → Tm → Tm
map_of i xs = spine (fun (4 + i)) (mapped ∷ xs ∷ [])

-- `cons F[X] (mi (\x:nat.F[x]) Y)`
abbrev pub mapped_list : ℕ → Tm
mapped_list i = cons (image meta_x) (map_of i meta_y)

-- what a function gives of `cons X Y`: `m0` that list itself, and each further function what the one before it gives of
-- that list
abbrev pub second_right : ℕ → Tm
second_right zero = mapped_list zero
second_right (suc j) = map_of j (mapped_list (suc j))

-- the first rule of the function number i: `mi (\x:nat.F[x]) nil => nil`
abbrev pub first_rule : ℕ → RewriteRule
first_rule i = record { metas = first_metas; left = map_of i nil; right = nil }

-- the second rule of the function number i: `mi (\x:nat.F[x]) (cons X Y)` becomes the right side above
abbrev pub second_rule : ℕ → RewriteRule
second_rule i = record { metas = second_metas; left = map_of i (cons meta_x meta_y); right = second_right i }

-- the two rules of a function, in this order
abbrev pub rules_of : ℕ → List RewriteRule
rules_of i = first_rule i ∷ second_rule i ∷ []

-- the names of the meta-variables of the first rule and of the second
abbrev pub names_of_metas : List (List (List ℕ))
names_of_metas = (codes "F" ∷ []) ∷ (codes "F" ∷ codes "X" ∷ codes "Y" ∷ []) ∷ []

-- the system of n functions: the rules of each, one function after another
abbrev pub gen_data : ℕ → SystemData
gen_data n = record {
  sort_names = sort_names;
  fun_names = fun_names n;
  symbols = gen_symbols n;
  rules = flat_map rules_of (range_with_len 0 n);
  meta_names = flat_map (λ _. names_of_metas) (range_with_len 0 n);
}
