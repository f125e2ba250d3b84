-- Worked rows: the candidates and pairs of small systems, computed by hand.
use Rattle.std.proofs.Common.{◌≡◌, refl, sym, subst, ⊎_elim, List, [], ◌∷◌}
use Rattle.wh_types.specs.Ty.{Ty, sort, ◌⇒◌}
use Rattle.wh_terms.specs.Tree.{Tm, bound, fun, meta, lam, app, none, more}
use Rattle.wh_terms.specs.Typing.{Symbols, Declared}
use Rattle.wh_terms.specs.Rules.{RewriteRule}
use Rattle.wh_terms.specs.Substitution.{act, acts, cons, up, up_free}
use Rattle.wh_pairs.specs.PairData.{PairData, Within}
use Rattle.wh_pairs.specs.Candidates.{candidates, freed}
use Rattle.wh_pairs.specs.Conditions.{AreAmong}
use Rattle.wh_pairs.specs.Subsumption.{IsSubsumed, IsDropped, ArePairs, none_left, one_dropped, one_kept, for_earlier, for_later}
use Rattle.wh_pairs.proofs.MemberLemmas.{none_there, at_head, head_or_behind}

abbrev nat : Ty
nat = sort 0

abbrev plain : Ty → Declared
plain a = record { args = []; out = a }

abbrev unary : Declared
unary = record { args = nat ∷ []; out = nat }

-- 0 zero : nat, 1 f : nat -> nat, 2 h : (nat -> nat) -> nat; {X:nat} f X => h f; {F:nat -> nat} h F => F zero.
-- The second call of the first rule lacks its argument.
abbrev lacking_symbols : Symbols
lacking_symbols = record { sorts = 1; funs = nat ∷ (nat ⇒ nat) ∷ ((nat ⇒ nat) ⇒ nat) ∷ [] }

abbrev lacking_rules : List RewriteRule
lacking_rules =
    record { metas = plain nat ∷ []; left = app (fun 1) (meta 0 none); right = app (fun 2) (fun 1) }
    ∷ record { metas = plain (nat ⇒ nat) ∷ []; left = app (fun 2) (meta 0 none); right = app (meta 0 none) (fun 0) }
    ∷ []

pub lacking : candidates lacking_symbols lacking_rules ≡
    record { rule = 0; metas = plain nat ∷ []; left_fun = 1; left = meta 0 none ∷ []; right_fun = 2; right = fun 1 ∷ []; conditions = [] }
    ∷ record { rule = 0; metas = plain nat ∷ plain nat ∷ []; left_fun = 1; left = meta 0 none ∷ []; right_fun = 1; right = meta 1 none ∷ []; conditions = [] }
    ∷ []
unfolding act acts cons up up_free freed
lacking = refl

-- 0 s, 1 g : nat -> nat, 2 ap : (nat -> nat) -> nat -> nat, 3 two : nat -> nat -> nat; {X:nat} g (s X) => X;
-- {F:[nat] nat, X:nat} ap (\x:nat.F[x]) X => two F[g X] (g X). The second call has no condition.
abbrev twice_symbols : Symbols
twice_symbols = record { sorts = 1; funs = (nat ⇒ nat) ∷ (nat ⇒ nat) ∷ ((nat ⇒ nat) ⇒ nat ⇒ nat) ∷ (nat ⇒ nat ⇒ nat) ∷ [] }

abbrev argument : Tm
argument = lam nat (meta 0 (more (bound 0) none))

abbrev twice_rules : List RewriteRule
twice_rules =
    record { metas = plain nat ∷ []; left = app (fun 1) (app (fun 0) (meta 0 none)); right = meta 0 none }
    ∷ record {
      metas = unary ∷ plain nat ∷ [];
      left = app (app (fun 2) argument) (meta 1 none);
      right = app (app (fun 3) (meta 0 (more (app (fun 1) (meta 1 none)) none))) (app (fun 1) (meta 1 none));
    }
    ∷ []

abbrev twice_pair : List Within → PairData
twice_pair cs = record {
  rule = 1;
  metas = unary ∷ plain nat ∷ [];
  left_fun = 2;
  left = argument ∷ meta 1 none ∷ [];
  right_fun = 1;
  right = meta 1 none ∷ [];
  conditions = cs;
}

pub twice : candidates twice_symbols twice_rules ≡ twice_pair (record { meta = 0; place = 1 } ∷ []) ∷ twice_pair [] ∷ []
unfolding act acts cons up up_free freed
twice = refl

-- the condition of the first call
abbrev within_f : Within
within_f = record { meta = 0; place = 1 }

-- so the second call subsumes the first
second_subsumes : IsSubsumed (twice_pair (within_f ∷ [])) (twice_pair [])
second_subsumes = record { sides = record { rule = refl; symbol = refl; arguments = refl; types = λ z o. refl }; conditions = λ c at. absurd (none_there c at) }

is_within : AreAmong (within_f ∷ []) [] → ⊥
is_within few = none_there within_f (few within_f (at_head [] within_f))

second_stays : IsDropped (twice_pair (within_f ∷ []) ∷ []) (twice_pair []) [] → ⊥
second_stays (for_earlier {b = b} at s) =
    ⊎_elim (λ is. is_within (subst (λ p. AreAmong p.conditions []) (sym is) s.conditions)) (none_there b) (head_or_behind [] (twice_pair (within_f ∷ [])) b at)
second_stays (for_later {b = b} at s proper) = none_there b at

pub twice_pairs : ArePairs (candidates twice_symbols twice_rules) (twice_pair [] ∷ [])
twice_pairs =
    subst (λ cs. ArePairs cs (twice_pair [] ∷ [])) (sym twice)
    (one_dropped (for_later (at_head [] (twice_pair [])) second_subsumes is_within) (one_kept second_stays none_left))

-- the same with the right side F[g X]: one pair, with a condition
abbrev once_rules : List RewriteRule
once_rules =
    record { metas = plain nat ∷ []; left = app (fun 1) (app (fun 0) (meta 0 none)); right = meta 0 none }
    ∷ record {
      metas = unary ∷ plain nat ∷ [];
      left = app (app (fun 2) argument) (meta 1 none);
      right = meta 0 (more (app (fun 1) (meta 1 none)) none);
    }
    ∷ []

pub once : candidates twice_symbols once_rules ≡ twice_pair (within_f ∷ []) ∷ []
unfolding act acts cons up up_free freed
once = refl

alone_stays : IsDropped [] (twice_pair (within_f ∷ [])) [] → ⊥
alone_stays (for_earlier {b = b} at s) = none_there b at
alone_stays (for_later {b = b} at s proper) = none_there b at

pub once_pairs : ArePairs (candidates twice_symbols once_rules) (twice_pair (within_f ∷ []) ∷ [])
once_pairs = subst (λ cs. ArePairs cs (twice_pair (within_f ∷ []) ∷ [])) (sym once) (one_kept alone_stays none_left)

-- 0 nil : list, 1 cons : nat -> list -> list, 2 map : (nat -> nat) -> list -> list; {F:[nat] nat} map (\x:nat.F[x]) nil => nil;
-- {F:[nat] nat, X:nat, Y:list} map (\x:nat.F[x]) (cons X Y) => cons F[X] (map (\x:nat.F[x]) Y). One call, of the second rule.
abbrev list : Ty
list = sort 1

abbrev mapping_symbols : Symbols
mapping_symbols = record { sorts = 2; funs = list ∷ (nat ⇒ list ⇒ list) ∷ ((nat ⇒ nat) ⇒ list ⇒ list) ∷ [] }

abbrev mapping_rules : List RewriteRule
mapping_rules =
    record { metas = unary ∷ []; left = app (app (fun 2) argument) (fun 0); right = fun 0 }
    ∷ record {
      metas = unary ∷ plain nat ∷ plain list ∷ [];
      left = app (app (fun 2) argument) (app (app (fun 1) (meta 1 none)) (meta 2 none));
      right = app (app (fun 1) (meta 0 (more (meta 1 none) none))) (app (app (fun 2) argument) (meta 2 none));
    }
    ∷ []

pub mapping : candidates mapping_symbols mapping_rules ≡
    record {
      rule = 1;
      metas = unary ∷ plain nat ∷ plain list ∷ [];
      left_fun = 2;
      left = argument ∷ app (app (fun 1) (meta 1 none)) (meta 2 none) ∷ [];
      right_fun = 2;
      right = argument ∷ meta 2 none ∷ [];
      conditions = [];
    }
    ∷ []
unfolding act acts cons up up_free freed
mapping = refl

-- 0 nil : nat, 1 f : nat -> nat -> nat, 2 k : (nat -> nat -> nat) -> nat; {F:[nat,nat] nat, X:nat}
-- f X X => k (\x:nat.\y:nat.F[f y x,k (\z:nat -> nat.f x)]): calls below binders, within arguments, and with a missing argument.
abbrev inner_symbols : Symbols
inner_symbols = record { sorts = 1; funs = nat ∷ (nat ⇒ nat ⇒ nat) ∷ (((nat ⇒ nat) ⇒ nat ⇒ nat) ⇒ nat) ∷ [] }

abbrev inner_metas : List Declared
inner_metas = record { args = nat ∷ nat ∷ []; out = nat } ∷ plain nat ∷ []

abbrev inner_rules : List RewriteRule
inner_rules =
    record {
      metas = inner_metas;
      left = app (app (fun 1) (meta 1 none)) (meta 1 none);
      right = lam nat (lam nat (meta 0 (more (app (app (fun 1) (bound 0)) (bound 1)) (more (app (fun 2) (lam (nat ⇒ nat) (app (fun 1) (bound 2)))) none))));
    }
    ∷ []

pub inner : candidates inner_symbols inner_rules ≡
    record {
      rule = 0;
      metas = record { args = nat ∷ nat ∷ []; out = nat } ∷ plain nat ∷ plain nat ∷ plain nat ∷ [];
      left_fun = 1;
      left = meta 1 none ∷ meta 1 none ∷ [];
      right_fun = 1;
      right = meta 3 none ∷ meta 2 none ∷ [];
      conditions = record { meta = 0; place = 1 } ∷ [];
    }
    ∷ record {
      rule = 0;
      metas = record { args = nat ∷ nat ∷ []; out = nat } ∷ plain nat ∷ plain nat ∷ plain nat ∷ plain (nat ⇒ nat) ∷ plain nat ∷ [];
      left_fun = 1;
      left = meta 1 none ∷ meta 1 none ∷ [];
      right_fun = 1;
      right = meta 2 none ∷ meta 5 none ∷ [];
      conditions = record { meta = 0; place = 2 } ∷ [];
    }
    ∷ []
unfolding act acts cons up up_free freed
inner = refl
