-- Where no inference of a line is bad, its claim holds.
use Rattle.std.proofs.Common.{◌≡◌, ◌≢◌, ℕ, zero, suc, ◌+◌, ◌<◌, ◌≤◌, ◌⊎◌, inl, inr, Bool, true, false, ◌&&◌, cond, List, [], ◌∷◌, length, ◌++◌, refl, ap, ap₂, ◌∙◌, sym, subst, Some, None, Contains, arith, eqb-true}
use Rattle.std.proofs.lemmas.Bool.{ltb-true, ltb-false}
use mathlib.Core.Path.{subst₂}
use Rattle.std.specs.Prelude.{◌==◌, nat_lt}
use Rattle.wh_types.specs.Ty.{Ty, sort}
use Rattle.wh_terms.specs.Tree.{Tm, bound, free, fun, meta, lam, app, Tms, none, more, tms_of, spine, head}
use Rattle.wh_terms.specs.Substitution.{opened}
use Rattle.wh_terms.specs.Sight.{NoFree}
use Rattle.wh_terms.specs.Typing.{Symbols, Declared, Typed}
use Rattle.wh_step_laws.proofs.Listed.{In, in_contains, contains_in}
use Rattle.wh_order_inference.specs.Inferences.{Letter, same_trees, bodies, arguments, part, lower, first_less, spine_parts, body, variable, meta_part, Inference, infer, Inferences, no_parts, more_parts, letter_of}
use Rattle.wh_order_extended.specs.Filtered.{Full, HasOneSort}
use Rattle.wh_order_extended.proofs.LongLaws.{kind_is}
use Rattle.wh_order_path.specs.Heads.{IsOtherHead, arguments_of, list_of, nearest, abstracted, SomeStrict}
use Rattle.wh_order_path.specs.SameTrees.{all_same}
use Rattle.wh_order_path.specs.Order.{Variable, NoneNumbered, OneType, AtLeast, at_least_same, at_least_greater, AllAtLeast, none_at_least, more_at_least, Greater, by_bodies, by_arguments, by_above, Above, by_part, by_lower, by_first_less, by_spine, by_body, by_variable, by_meta, AllAbove, none_above, more_above}
use Rattle.wh_order_path.specs.Verdict.{at_least, greater, above, Task, some_strict, each, pairwise, is_other_head, is_abstracted, typed_tasks, verdict, verdicts, line_verdict}
use Rattle.wh_order_path.proofs.SameTreeLaws.{some_none, both, trees_equal}
use Rattle.wh_order_path.proofs.FreeNumbers.{EachFree, each_fresh, no_free_each}
use Rattle.wh_order_path.proofs.SideLaws.{Side, Sides, side_at, side_arguments, side_head, side_metas, side_opened, side_more, symbol_sort}
use Rattle.wh_order_path.proofs.AskedTasks.{spine_whole, split, first_part, AboveAsks, asks_part, asks_lower, asks_first_less, asks_spine, asks_body, asks_variable, asks_meta, above_asks, GreaterAsks, asks_bodies, asks_arguments, asks_above, typed_asks, AtLeastAsks, asks_same, asks_greater, at_least_asks}

other_head : (t : Tm) → is_other_head t ≡ true → IsOtherHead t
other_head (bound i) e = tt
other_head (free x a) e = tt
other_head (fun f) e = absurd (cc)
other_head (meta z ts) e = tt
other_head (lam a t) e = tt
other_head (app t u) e = absurd (cc)

strict_some : (is : Inferences) → some_strict is ≡ true → SomeStrict is
strict_some no_parts e = absurd (cc)
strict_some (more_parts i is) e = on (letter_of i) refl e (λ e. strict_some is e)
  where
    on : (l : Letter) → letter_of i ≡ l → elim l as (λ l. Bool) [ same_trees ↦ some_strict is | _ ↦ true ] ≡ true → (some_strict is ≡ true → SomeStrict is) → (letter_of i ≢ same_trees) ⊎ SomeStrict is
    on same_trees d e h = inr (h e)
    on bodies d e h = inl (λ c. cc)
    on arguments d e h = inl (λ c. cc)
    on part d e h = inl (λ c. cc)
    on lower d e h = inl (λ c. cc)
    on first_less d e h = inl (λ c. cc)
    on spine_parts d e h = inl (λ c. cc)
    on body d e h = inl (λ c. cc)
    on variable d e h = inl (λ c. cc)
    on meta_part d e h = inl (λ c. cc)

list_whole : (ts : Tms) → tms_of (list_of ts) ≡ ts
list_whole none = refl
list_whole (more t ts) = ap (more t) (list_whole ts)

-- what passes the test is a meta-variable below abstractions over all its arguments
abstracted_is : (z n k : ℕ) (u : Tm) → is_abstracted z n k u ≡ true → (cs : List Ty) × (u ≡ abstracted cs (meta z (nearest n))) × (k + length cs ≡ n)
abstracted_is z n k (lam a u) e = let (cs, d, l) = abstracted_is z n (suc k) u e in (a ∷ cs, ap (lam a) d, omega (arith, l))
abstracted_is z n k (meta y ts) e =
    let (d, arguments_same) = both ((y == z) && (k == n)) (all_same ts (nearest n)) e in
    let (one, count) = both (y == z) (k == n) d in
    ([], ap₂ meta (eqb-true y z one) (trees_equal ts (nearest n) arguments_same), omega (arith, eqb-true k n count))
abstracted_is z n k (bound i) e = absurd (cc)
abstracted_is z n k (free x a) e = absurd (cc)
abstracted_is z n k (fun f) e = absurd (cc)
abstracted_is z n k (app t u) e = absurd (cc)

less_than : (m n : ℕ) → nat_lt m n ≡ true → m < n
less_than m n e = ltb-true m n e

between : (x from next : ℕ) → cond (nat_lt x from) false (nat_lt x next) ≡ true → from ≤ x
between x from next e = on (nat_lt x from) refl e
  where
    on : (b : Bool) → nat_lt x from ≡ b → cond b false (nat_lt x next) ≡ true → from ≤ x
    on true d e = absurd (cc)
    on false d e = ltb-false x from d

-- each variable of the list has a number below n
abbrev NumberedBelow : ℕ → List Variable → Type 0
NumberedBelow n X = (v : Variable) → Contains X v → v.number < n

none_numbered : (n : ℕ) (X : List Variable) → NumberedBelow n X → NoneNumbered n X
none_numbered n [] h = tt
none_numbered n (v ∷ X) h =
    let l = h v (in_contains v (v ∷ X) (inl refl)) in
    (λ e. omega (arith, e, l), none_numbered n X (λ w c. h w (in_contains w (v ∷ X) (inr (contains_in w X c)))))

module _ (F : Symbols) (prec : ℕ → ℕ) (M : List Declared) (one : HasOneSort F) where
  -- the numbers of free variables are below n
  abbrev Below : ℕ → ℕ → Ty → Type 0
  Below n x a = x < n

  -- and the variables numbered from `from` on are those of X
  abbrev Passed : List Variable → ℕ → ℕ → ℕ → Ty → Type 0
  Passed X from n x a = (x < n) × (from ≤ x → Contains X (record { number = x; type_of = a }))

  -- what an inference without a bad one is good for
  record Good (i : Inference) : Type 0 where
    is_at_least : (next : ℕ) (s t : Tm) (a b : Ty) → Side F M (Below next) 0 s a → Side F M (Below next) 0 t b
        → verdict F prec M (record { claim = at_least; next = next; left = s; right = t }) i ≡ None → OneType F prec M s t × AtLeast F prec M s t i
    is_greater : (next : ℕ) (s t : Tm) (a b : Ty) → Side F M (Below next) 0 s a → Side F M (Below next) 0 t b
        → verdict F prec M (record { claim = greater; next = next; left = s; right = t }) i ≡ None → Greater F prec M s t i
    is_above : (from next : ℕ) (X : List Variable) (s t : Tm) (a b : Ty) → NumberedBelow next X → Side F M (Below next) 0 s a → Side F M (Passed X from next) 0 t b
        → verdict F prec M (record { claim = above from; next = next; left = s; right = t }) i ≡ None → Above F prec M s X t i

  abbrev AllGood : Inferences → Type 0
  AllGood no_parts = Unit {0}
  AllGood (more_parts i is) = Good i × AllGood is

  all_above : (from next : ℕ) (X : List Variable) (s : Tm) (a : Ty) → NumberedBelow next X → Side F M (Below next) 0 s a → (ts : List Tm) → Sides F M (Passed X from next) ts
      → (is : Inferences) → AllGood is → verdicts F prec M (each (above from) next s ts) is ≡ None → AllAbove F prec M s X ts is
  all_above from next X s a below p [] r no_parts g e = none_above
  all_above from next X s a below p [] r (more_parts i is) g e = absurd (some_none e)
  all_above from next X s a below p (t ∷ ts) r no_parts g e = absurd (some_none e)
  all_above from next X s a below p (t ∷ ts) r (more_parts i is) g e =
      let (d, l) = first_part F prec M (record { claim = above from; next = next; left = s; right = t }) (each (above from) next s ts) i is e in
      more_above (g.0.is_above from next X s t a r.0.0 below p r.0.1 d) (all_above from next X s a below p ts r.1 is g.1 l)

  all_at_least : (next : ℕ) (ss ts : List Tm) → length ss ≡ length ts → Sides F M (Below next) ss → Sides F M (Below next) ts
      → (is : Inferences) → AllGood is → verdicts F prec M (pairwise next ss ts) is ≡ None → AllAtLeast F prec M ss ts is
  all_at_least next [] [] n p r no_parts g e = none_at_least
  all_at_least next [] [] n p r (more_parts i is) g e = absurd (some_none e)
  all_at_least next [] (t ∷ ts) n p r is g e = absurd (omega arith)
  all_at_least next (s ∷ ss) [] n p r is g e = absurd (omega arith)
  all_at_least next (s ∷ ss) (t ∷ ts) n p r no_parts g e = absurd (some_none e)
  all_at_least next (s ∷ ss) (t ∷ ts) n p r (more_parts i is) g e =
      let (d, l) = first_part F prec M (record { claim = at_least; next = next; left = s; right = t }) (pairwise next ss ts) i is e in
      more_at_least (g.0.is_at_least next s t p.0.0 r.0.0 p.0.1 r.0.1 d).1 (all_at_least next ss ts (omega arith) p.1 r.1 is g.1 l)

  spine_of : (t h : Tm) → head t ≡ h → t ≡ spine h (arguments_of t)
  spine_of t h e = spine_whole t ∙ ap (λ h. spine h (arguments_of t)) e

  -- the first task of some, for the first part
  record FirstPart (k : Task) (ks : List Task) (is : Inferences) : Type 0 where
    first : Inference
    others : Inferences
    parts : is ≡ more_parts first others
    first_good : Good first
    others_good : AllGood others
    first_none : verdict F prec M k first ≡ None
    others_none : verdicts F prec M ks others ≡ None

  first_of_parts : (k : Task) (ks : List Task) (is : Inferences) → AllGood is → verdicts F prec M (k ∷ ks) is ≡ None → FirstPart k ks is
  first_of_parts k ks no_parts g e = absurd (some_none e)
  first_of_parts k ks (more_parts i is) g e =
      let (d, l) = first_part F prec M k ks i is e in
      record { first = i; others = is; parts = refl; first_good = g.0; others_good = g.1; first_none = d; others_none = l }

  no_others : (is : Inferences) → verdicts F prec M [] is ≡ None → is ≡ no_parts
  no_others no_parts e = refl
  no_others (more_parts i is) e = absurd (some_none e)

  only_part : {k : Task} {is : Inferences} (f : FirstPart k [] is) → is ≡ more_parts f.first no_parts
  only_part f = f.parts ∙ ap (more_parts f.first) (no_others f.others f.others_none)

  none_of : (ks ls : List Task) (is : Inferences) → ks ≡ ls → verdicts F prec M ks is ≡ None → verdicts F prec M ls is ≡ None
  none_of ks ls is d e = subst (λ ks. verdicts F prec M ks is ≡ None) d e

  -- a tree that a symbol heads is above another one, where the tasks that the letter asks for are good
  above_asked : (from next : ℕ) (X : List Variable) (s t : Tm) (a b : Ty) (f : ℕ) → head s ≡ fun f → NumberedBelow next X → Side F M (Below next) 0 s a → Side F M (Passed X from next) 0 t b
      → (l : Letter) (n : ℕ) (is : Inferences) (ks : List Task) → AllGood is → AboveAsks F prec M from next s t l n ks → verdicts F prec M ks is ≡ None → Above F prec M s X t (infer l n is)
  above_asked from next X s t a b f d below p r part (suc n) is ks g (asks_part u at k) e =
      let h = first_of_parts (record { claim = at_least; next = next; left = u; right = t }) [] is g (none_of ks (record { claim = at_least; next = next; left = u; right = t } ∷ []) is k e) in
      let (c, q) = side_at F M (Below next) (arguments_of s) n u (side_arguments F M (Below next) 0 s a p) at in
      let (kinds, holds) = h.first_good.is_at_least next u t c b q (side_more F M (Passed X from next) (Below next) (λ x b w. w.0) r) h.first_none in
      subst (λ is. Above F prec M s X t (infer part (suc n) is)) (sym (only_part h)) (by_part f n (arguments_of s) u (spine_of s (fun f) d) at kinds holds)
  above_asked from next X s t a b f d below p r lower zero is ks g (asks_lower h j heads headt less k) e =
      by_lower f j (arguments_of s) (arguments_of t) (spine_of s (fun f) d) (spine_of t (fun j) headt)
      (subst (λ f. prec j < prec f) (symbol_one (sym heads ∙ d)) (less_than (prec j) (prec h) less))
      (all_above from next X s a below p (arguments_of t) (side_arguments F M (Passed X from next) 0 t b r) is g (none_of ks (each (above from) next s (arguments_of t)) is k e))
    where
      symbol_one : {f g : ℕ} → fun f ≡ fun g → f ≡ g
      symbol_one e = cc
  above_asked from next X s t a b f d below p r first_less (suc n) is ks g (asks_first_less h j u v heads headt same_prec front at at' k) e =
      let task : Task = record { claim = greater; next = next; left = u; right = v } in
      let w = first_of_parts task (each (above from) next s (arguments_of t)) is g (none_of ks (task ∷ each (above from) next s (arguments_of t)) is k e) in
      let r' = side_more F M (Passed X from next) (Below next) (λ x b w. w.0) r in
      let (c, q) = side_at F M (Below next) (arguments_of s) n u (side_arguments F M (Below next) 0 s a p) at in
      let (c', q') = side_at F M (Below next) (arguments_of t) n v (side_arguments F M (Below next) 0 t b r') at' in
      subst (λ is. Above F prec M s X t (infer first_less (suc n) is)) (sym w.parts)
      (by_first_less f j n (arguments_of s) (arguments_of t) u v (spine_of s (fun f) d) (spine_of t (fun j) headt) (same_prec ∙ ap prec (symbol_one (sym heads ∙ d)))
      (subst (Typed F M [] t) (symbol_sort F M one (Below next) j t b headt r') r'.typed) front at at'
      (w.first_good.is_greater next u v c c' q q' w.first_none)
      (all_above from next X s a below p (arguments_of t) (side_arguments F M (Passed X from next) 0 t b r) w.others w.others_good w.others_none))
    where
      symbol_one : {f g : ℕ} → fun f ≡ fun g → f ≡ g
      symbol_one e = cc
  above_asked from next X s t a b f d below p r spine_parts zero is ks g (asks_spine u v form other k) e =
      let w = first_of_parts (record { claim = above from; next = next; left = s; right = head t }) (each (above from) next s (arguments_of t)) is g (none_of ks (each (above from) next s (head t ∷ arguments_of t)) is k e) in
      let (c, q) = side_head F M (Passed X from next) 0 t b other r in
      let all = all_above from next X s a below p (arguments_of t) (side_arguments F M (Passed X from next) 0 t b r) w.others w.others_good w.others_none in
      subst (λ is. Above F prec M s X t (infer spine_parts 0 is)) (sym w.parts)
      (spine_at (arguments_of t) refl (w.first_good.is_above from next X s (head t) a c below p q w.first_none) all)
    where
      no_append : (l m : List Tm) (x : Tm) → l ++ x ∷ [] ≡ [] → ⊥
      no_append [] m x e = cc
      no_append (y ∷ l) m x e = cc

      some_argument : arguments_of t ≡ [] → ⊥
      some_argument e = no_append (arguments_of u) [] v (sym (ap arguments_of form) ∙ e)

      spine_at : (ts : List Tm) → arguments_of t ≡ ts → {i : Inference} {is : Inferences} → Above F prec M s X (head t) i → AllAbove F prec M s X (arguments_of t) is → Above F prec M s X t (infer spine_parts 0 (more_parts i is))
      spine_at [] e h all = absurd (some_argument e)
      spine_at (x ∷ ts) e {is = is} h all =
          by_spine (head t) x ts (other_head (head t) other) (spine_whole t ∙ ap (spine (head t)) e) h (subst (λ l. AllAbove F prec M s X l is) e all)
  above_asked from next X s t a b f d below p r body zero is ks g (asks_body c v form k) e =
      let task : Task = record { claim = above from; next = suc next; left = s; right = opened (free next c) v } in
      let w = first_of_parts task [] is g (none_of ks (task ∷ []) is k e) in
      let (k', shape, q) = side_opened F M (Passed X from next) (Passed (new ∷ X) from (suc next)) (λ x b h. (omega (arith, h.0), λ l. in_contains (record { number = x; type_of = b }) (new ∷ X) (inr (contains_in (record { number = x; type_of = b }) X (h.1 l))))) next c v b
      (omega arith, λ l. in_contains new (new ∷ X) (inl refl)) (subst (λ t. Side F M (Passed X from next) 0 t b) form r) in
      subst₂ (λ t is. Above F prec M s X t (infer body 0 is)) (sym form) (sym (only_part w))
      (by_body next (each_fresh next (Below next) (λ x b l e. omega (arith, l, e)) s p.frees)
      (each_fresh next (Passed X from next) (λ x b l e. omega (arith, l.0, e)) v (subst (EachFree (Passed X from next)) form r.frees))
      (none_numbered next X below)
      (w.first_good.is_above from (suc next) (new ∷ X) s (opened (free next c) v) a k' more_below (side_more F M (Below next) (Below (suc next)) (λ x b l. omega (arith, l)) p) q w.first_none))
    where
      new : Variable
      new = record { number = next; type_of = c }

      more_below : NumberedBelow (suc next) (new ∷ X)
      more_below v m = on (contains_in v (new ∷ X) m)
        where
          on : In v (new ∷ X) → v.number < suc next
          on (inl e) = omega (arith, ap (λ v. v.number) e)
          on (inr i) = omega (arith, below v (in_contains v X i))
  above_asked from next X s t a b f d below p r variable zero is ks g (asks_variable x c form low k) e =
      subst₂ (λ t is. Above F prec M s X t (infer variable 0 is)) (sym form) (sym (no_others is (none_of ks [] is k e)))
      (by_variable ((subst (EachFree (Passed X from next)) form r.frees).1 (between x from next low)))
  above_asked from next X s t a b f d below p r meta_part (suc n) is ks g (asks_meta z ts u form at test k) e =
      let (cs, shape, count) = abstracted_is z (length (list_of ts)) 0 u test in
      let len : length cs ≡ length (list_of ts) = omega (arith, count) in
      subst (λ t. Above F prec M s X t (infer meta_part (suc n) is)) (ap (meta z) (list_whole ts) ∙ sym form)
      (by_meta f n (arguments_of s) (list_of ts) u cs (spine_of s (fun f) d) at (shape ∙ ap (λ n. abstracted cs (meta z (nearest n))) (sym len)) len
      (all_above from next X s a below p (list_of ts) (side_metas F M (Passed X from next) z ts b (subst (λ t. Side F M (Passed X from next) 0 t b) form r)) is g (none_of ks (each (above from) next s (list_of ts)) is k e)))
  above_asked from next X s t a b f d below p r same_trees n is ks g h e = elim h [ ]
  above_asked from next X s t a b f d below p r bodies n is ks g h e = elim h [ ]
  above_asked from next X s t a b f d below p r arguments n is ks g h e = elim h [ ]
  above_asked from next X s t a b f d below p r part zero is ks g h e = elim h [ ]
  above_asked from next X s t a b f d below p r lower (suc n) is ks g h e = elim h [ ]
  above_asked from next X s t a b f d below p r first_less zero is ks g h e = elim h [ ]
  above_asked from next X s t a b f d below p r spine_parts (suc n) is ks g h e = elim h [ ]
  above_asked from next X s t a b f d below p r body (suc n) is ks g h e = elim h [ ]
  above_asked from next X s t a b f d below p r variable (suc n) is ks g h e = elim h [ ]
  above_asked from next X s t a b f d below p r meta_part zero is ks g h e = elim h [ ]

  -- a variable that no binder brought in has a number below the next one
  not_passed : (next : ℕ) {n : ℕ} {t : Tm} {b : Ty} → Side F M (Below next) n t b → Side F M (Passed [] next next) n t b
  not_passed next s = side_more F M (Below next) (Passed [] next next) (λ x b l. (l, λ k. absurd (omega (arith, k, l)))) s

  no_member : {v : Variable} → Contains [] v → ⊥
  no_member (k, h, e) = omega arith

  -- a tree is greater than another one, where the tasks that the letter asks for are good
  greater_asked : (next : ℕ) (s t : Tm) (a : Ty) → Side F M (Below next) 0 s a → Side F M (Below next) 0 t a
      → (l : Letter) (n : ℕ) (is : Inferences) (ks : List Task) → AllGood is → GreaterAsks F prec M next s t l n is ks → verdicts F prec M ks is ≡ None → Greater F prec M s t (infer l n is)
  greater_asked next s t a p r l n is ks g (asks_bodies {s = u} {t = v} {a = b} {b = c} same k) e =
      let task : Task = record { claim = greater; next = suc next; left = opened (free next b) u; right = opened (free next c) v } in
      let w = first_of_parts task [] is g (none_of ks (task ∷ []) is k e) in
      let (c1, shape1, q1) = side_opened F M (Below next) (Below (suc next)) (λ x b l. omega (arith, l)) next b u a (omega arith) p in
      let (c2, shape2, q2) = side_opened F M (Below next) (Below (suc next)) (λ x b l. omega (arith, l)) next c v a (omega arith) r in
      subst₂ (λ c is. Greater F prec M (lam b u) (lam c v) (infer bodies 0 is)) same (sym (only_part w))
      (by_bodies next (each_fresh next (Below next) (λ x b l e. omega (arith, l, e)) u p.frees) (each_fresh next (Below next) (λ x b l e. omega (arith, l, e)) v r.frees)
      (record { kind = a; left = p.typed; right = subst (λ c. Typed F M [] (lam c v) a) (sym same) r.typed })
      (subst (λ c. Greater F prec M (opened (free next b) u) (opened (free next c) v) w.first) (sym same) (w.first_good.is_greater (suc next) (opened (free next b) u) (opened (free next c) v) c1 c2 q1 q2 w.first_none)))
  greater_asked next s t a p r l n is ks g (asks_arguments {s = h} {u = u} {t = j} {v = v} other heads len strict k) e =
      by_arguments (head h) (arguments_of (app h u)) (arguments_of (app j v)) (other_head (head h) other) (spine_whole (app h u)) (spine_of (app j v) (head h) (sym heads))
      (record { kind = a; left = p.typed; right = r.typed })
      (all_at_least next (arguments_of (app h u)) (arguments_of (app j v)) len (side_arguments F M (Below next) 0 (app h u) a p) (side_arguments F M (Below next) 0 (app j v) a r) is g (none_of ks (pairwise next (arguments_of (app h u)) (arguments_of (app j v))) is k e))
      (strict_some is strict)
  greater_asked next s t a p r l n is ks g (asks_above asked) e =
      let ((f, d), h) = above_asks F prec M next next s t l n ks asked in
      let sort_of : a ≡ sort 0 = symbol_sort F M one (Below next) f s a d p in
      by_above f (arguments_of s) (spine_of s (fun f) d) (subst (Typed F M [] s) sort_of p.typed) (subst (Typed F M [] t) sort_of r.typed)
      (above_asked next next [] s t a a f d (λ v m. absurd (no_member m)) p (not_passed next r) l n is ks g h e)

  typed_asked : (next : ℕ) (s t : Tm) (a b : Ty) → Side F M (Below next) 0 s a → Side F M (Below next) 0 t b
      → (l : Letter) (n : ℕ) (is : Inferences) (ks : List Task) → AllGood is → typed_tasks F prec M next s t l n is ≡ Some ks → verdicts F prec M ks is ≡ None → OneType F prec M s t × Greater F prec M s t (infer l n is)
  typed_asked next s t a b p r l n is ks g asked e =
      let (kinds, h) = typed_asks F prec M next s t l n is ks asked in
      let same : b ≡ a = sym (kind_is r.typed) ∙ sym kinds ∙ kind_is p.typed in
      let r' : Side F M (Below next) 0 t a = subst (Side F M (Below next) 0 t) same r in
      (record { kind = a; left = p.typed; right = r'.typed }, greater_asked next s t a p r' l n is ks g h e)

  at_least_asked : (next : ℕ) (s t : Tm) (a b : Ty) → Side F M (Below next) 0 s a → Side F M (Below next) 0 t b
      → (l : Letter) (n : ℕ) (is : Inferences) (ks : List Task) → AllGood is → AtLeastAsks F prec M next s t l n is ks → verdicts F prec M ks is ≡ None → OneType F prec M s t × AtLeast F prec M s t (infer l n is)
  at_least_asked next s t a b p r l n is ks g (asks_same same k) e = (
    record { kind = a; left = p.typed; right = subst (λ t. Typed F M [] t a) same p.typed },
    subst (λ is. AtLeast F prec M s t (infer same_trees 0 is)) (sym (no_others is (none_of ks [] is k e))) (at_least_same same),
  )
  at_least_asked next s t a b p r l n is ks g (asks_greater asked) e =
      let (kinds, h) = typed_asked next s t a b p r l n is ks g asked e in
      (kinds, at_least_greater h)

  good_from_parts : (l : Letter) (n : ℕ) (is : Inferences) → AllGood is → Good (infer l n is)
  good_from_parts l n is g = record {
    is_at_least = λ next s t a b p r e.
        let (ks, asked, no_bad) = split F prec M (record { claim = at_least; next = next; left = s; right = t }) l n is e in
        at_least_asked next s t a b p r l n is ks g (at_least_asks F prec M next s t l n is ks asked) no_bad;
    is_greater = λ next s t a b p r e.
        let (ks, asked, no_bad) = split F prec M (record { claim = greater; next = next; left = s; right = t }) l n is e in
        (typed_asked next s t a b p r l n is ks g asked no_bad).1;
    is_above = λ from next X s t a b below p r e.
        let (ks, asked, no_bad) = split F prec M (record { claim = above from; next = next; left = s; right = t }) l n is e in
        let ((f, d), h) = above_asks F prec M from next s t l n ks asked in
        above_asked from next X s t a b f d below p r l n is ks g h no_bad;
  }

  mutual
    good : (i : Inference) → Good i
    good (infer l n is) = good_from_parts l n is (all_good is)

    all_good : (is : Inferences) → AllGood is
    all_good no_parts = tt
    all_good (more_parts i is) = (good i, all_good is)

  closed_side : (t : Tm) (a : Ty) → Typed F M [] t a → NoFree t → Full F 0 t → Side F M (Below 0) 0 t a
  closed_side t a p n f = record { typed = p; frees = no_free_each (Below 0) t n; full = f }

  -- the law of a line
  pub line_holds : (s t : Tm) (a b : Ty) (i : Inference) → Typed F M [] s a → Typed F M [] t b → NoFree s → NoFree t → Full F 0 s → Full F 0 t
      → line_verdict F prec M s t i ≡ None → AtLeast F prec M s t i
  line_holds s t a b i p q n m f g e = ((good i).is_at_least 0 s t a b (closed_side s a p n f) (closed_side t b q m g) e).1
