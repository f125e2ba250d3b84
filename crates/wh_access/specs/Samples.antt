-- Small systems on which the definitions of ranks are tested.
use Rattle.std.specs.Prelude.{ℕ, List, [], ◌∷◌}
use Rattle.wh_types.specs.Ty.{sort, ◌⇒◌}
use Rattle.wh_terms.specs.Tree.{Tm, bound, fun, meta, lam, app, none, more}
use Rattle.wh_terms.specs.Typing.{Symbols}
use Rattle.wh_terms.specs.Rules.{RewriteRule}
use Rattle.wh_access.specs.Readings.{Place}

-- a meta-variable without arguments, and one with one
abbrev pub plain : ℕ → Tm
plain z = meta z none

abbrev pub applied : ℕ → Tm → Tm
applied z t = meta z (more t none)

abbrev pub place : ℕ → ℕ → Place
place f i = record { symbol = f; index = i }

-- lists of functions, over the sorts nat and flist, with 0 fnil : flist, 1 fcons : (nat -> nat) -> flist -> flist and
-- 2 apply : flist -> nat -> nat
abbrev pub function_lists : Symbols
function_lists = record { sorts = 2; funs = sort 1 ∷ (((sort 0 ⇒ sort 0) ⇒ (sort 1 ⇒ sort 1)) ∷ ((sort 1 ⇒ (sort 0 ⇒ sort 0)) ∷ [])) }

-- {X} apply fnil X => X
abbrev pub apply_nil : RewriteRule
apply_nil = record { metas = record { args = []; out = sort 0 } ∷ []; left = app (app (fun 2) (fun 0)) (plain 0); right = plain 0 }

-- {F, L, X} apply (fcons (\x.F[x]) L) X => apply L F[X]
abbrev pub apply_cons : RewriteRule
apply_cons = record {
  metas = record { args = sort 0 ∷ []; out = sort 0 } ∷ (record { args = []; out = sort 1 } ∷ (record { args = []; out = sort 0 } ∷ []));
  left = app (app (fun 2) (app (app (fun 1) (lam (sort 0) (applied 0 (bound 0)))) (plain 1))) (plain 2);
  right = app (app (fun 2) (plain 1)) (applied 0 (plain 2));
}

abbrev pub apply_rules : List RewriteRule
apply_rules = apply_nil ∷ (apply_cons ∷ [])

-- lists over the sorts nat and list, with 0 nil : list, 1 cons : nat -> list -> list and
-- 2 map : (nat -> nat) -> list -> list
abbrev pub lists : Symbols
lists = record { sorts = 2; funs = sort 1 ∷ ((sort 0 ⇒ (sort 1 ⇒ sort 1)) ∷ (((sort 0 ⇒ sort 0) ⇒ (sort 1 ⇒ sort 1)) ∷ [])) }

-- {F} map (\x.F[x]) nil => nil
abbrev pub map_nil : RewriteRule
map_nil = record {
  metas = record { args = sort 0 ∷ []; out = sort 0 }
      ∷ [];
  left = app (app (fun 2) (lam (sort 0) (applied 0 (bound 0)))) (fun 0);
  right = fun 0;
}

-- {F, X, Y} map (\x.F[x]) (cons X Y) => cons F[X] (map (\x.F[x]) Y)
abbrev pub map_cons : RewriteRule
map_cons = record {
  metas = record { args = sort 0 ∷ []; out = sort 0 } ∷ (record { args = []; out = sort 0 } ∷ (record { args = []; out = sort 1 } ∷ []));
  left = app (app (fun 2) (lam (sort 0) (applied 0 (bound 0)))) (app (app (fun 1) (plain 1)) (plain 2));
  right = app (app (fun 1) (applied 0 (plain 1))) (app (app (fun 2) (lam (sort 0) (applied 0 (bound 0)))) (plain 2));
}

abbrev pub map_rules : List RewriteRule
map_rules = map_nil ∷ (map_cons ∷ [])

-- untyped terms over the sort o, with 0 lam : (o -> o) -> o and 1 app : o -> o -> o: {F, X} app (lam (\x.F[x])) X =>
-- F[X]
abbrev pub untyped : Symbols
untyped = record { sorts = 1; funs = ((sort 0 ⇒ sort 0) ⇒ sort 0) ∷ ((sort 0 ⇒ (sort 0 ⇒ sort 0)) ∷ []) }

abbrev pub untyped_rules : List RewriteRule
untyped_rules = record {
  metas = record { args = sort 0 ∷ []; out = sort 0 } ∷ (record { args = []; out = sort 0 } ∷ []);
  left = app (app (fun 1) (app (fun 0) (lam (sort 0) (applied 0 (bound 0))))) (plain 1);
  right = applied 0 (plain 1);
} ∷ []

-- ordinals, over the sorts nat and ord, with 0 lim : (nat -> ord) -> ord and 1 rec : ord -> nat -> nat:
-- {F, N} rec (lim (\x.F[x])) N => rec F[N] N
abbrev pub ordinals : Symbols
ordinals = record { sorts = 2; funs = ((sort 0 ⇒ sort 1) ⇒ sort 1) ∷ ((sort 1 ⇒ (sort 0 ⇒ sort 0)) ∷ []) }

abbrev pub ordinal_rules : List RewriteRule
ordinal_rules = record {
  metas = record { args = sort 0 ∷ []; out = sort 1 } ∷ (record { args = []; out = sort 0 } ∷ []);
  left = app (app (fun 1) (app (fun 0) (lam (sort 0) (applied 0 (bound 0))))) (plain 1);
  right = app (app (fun 1) (applied 0 (plain 1))) (plain 1);
} ∷ []

-- f (\x.x Z): the meta-variable stands only in an argument of a bound variable
abbrev pub below_bound : Tm
below_bound = app (fun 0) (lam (sort 0 ⇒ sort 0) (app (bound 0) (plain 0)))

-- f (c Z) Z: the first reading is behind a place, a later one is not
abbrev pub read_twice : Tm
read_twice = app (app (fun 0) (app (fun 1) (plain 0))) (plain 0)
