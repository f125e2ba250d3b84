-- Which tree a raw term stands for, as a relation: all that sides are is proved by induction on it.
use Rattle.std.proofs.Common.{◌≡◌, ℕ, List, ◌∷◌, Option, Some, None, option_map, refl, sym, subst}
use Rattle.wh_types.specs.Ty.{Ty}
use Rattle.wh_terms.specs.Tree.{Tm, bound, free, fun, meta, lam, app, Tms, none as no_tms, more as more_tms}
use Rattle.wh_text.specs.RawTree.{RTy, Binder, named_binder, numbered_binder, RTm, named, numbered, free_variable, meta as raw_meta, lam as raw_lam, spine, RTms, none, more}
use Rattle.wh_system_parts.specs.Naming.{number_of, type_meant, Scope, binder_number, or_else, both, meant, all_meant, applied_meant}
use Rattle.wh_system_parts.proofs.OptionParts.{some_same, none_some, both_parts, map_part}

mutual
  pub data Stands (s : Scope) : List Binder → RTm → Tm → Type 0 where
    by_binder : {bs : List Binder} {n : List ℕ} {at i : ℕ} → binder_number bs (named_binder n) ≡ Some i → Stands s bs (named n at) (bound i)
    by_meta : {bs : List Binder} {n : List ℕ} {at z : ℕ} → binder_number bs (named_binder n) ≡ None → number_of s.metas n ≡ Some z → Stands s bs (named n at) (meta z no_tms)
    by_fun : {bs : List Binder} {n : List ℕ} {at f : ℕ} → binder_number bs (named_binder n) ≡ None → number_of s.metas n ≡ None → number_of s.funs n ≡ Some f → Stands s bs (named n at) (fun f)
    by_number : {bs : List Binder} {k at i : ℕ} → binder_number bs (numbered_binder k) ≡ Some i → Stands s bs (numbered k at) (bound i)
    by_variable : {bs : List Binder} {k at : ℕ} {a : RTy} {b : Ty} → Stands s bs (free_variable k a at) (free k b)
    by_application : {bs : List Binder} {n : List ℕ} {at z : ℕ} {ts : RTms} {us : Tms} → number_of s.metas n ≡ Some z → AllStand s bs ts us → Stands s bs (raw_meta n ts at) (meta z us)
    by_lam : {bs : List Binder} {x : Binder} {a : RTy} {b : Ty} {t : RTm} {u : Tm} {at : ℕ} → Stands s (x ∷ bs) t u → Stands s bs (raw_lam x a t at) (lam b u)
    by_spine : {bs : List Binder} {h : RTm} {ts : RTms} {u v : Tm} {at : ℕ} → Stands s bs h u → SpineStands s bs u ts v → Stands s bs (spine h ts at) v

  pub data AllStand (s : Scope) : List Binder → RTms → Tms → Type 0 where
    no_more : {bs : List Binder} → AllStand s bs none no_tms
    and_more : {bs : List Binder} {t : RTm} {ts : RTms} {u : Tm} {us : Tms} → Stands s bs t u → AllStand s bs ts us → AllStand s bs (more t ts) (more_tms u us)

  -- the tree, applied to what the raw terms stand for, is the other tree
  pub data SpineStands (s : Scope) : List Binder → Tm → RTms → Tm → Type 0 where
    at_end : {bs : List Binder} {u v : Tm} → u ≡ v → SpineStands s bs u none v
    applied : {bs : List Binder} {u v w : Tm} {t : RTm} {ts : RTms} → Stands s bs t w → SpineStands s bs (app u w) ts v → SpineStands s bs u (more t ts) v

named_stands : (s : Scope) (bs : List Binder) (n : List ℕ) (at : ℕ) (u : Tm) (x y z : Option ℕ) → binder_number bs (named_binder n) ≡ x → number_of s.metas n ≡ y → number_of s.funs n ≡ z
    → or_else (option_map bound x) (or_else (option_map (λ z. meta z no_tms) y) (option_map fun z)) ≡ Some u → Stands s bs (named n at) u
named_stands s bs n at u (Some i) y z ex ey ez e = subst (Stands s bs (named n at)) (some_same e) (by_binder ex)
named_stands s bs n at u None (Some z) f ex ey ez e = subst (Stands s bs (named n at)) (some_same e) (by_meta ex ey)
named_stands s bs n at u None None (Some f) ex ey ez e = subst (Stands s bs (named n at)) (some_same e) (by_fun ex ey ez)
named_stands s bs n at u None None None ex ey ez e = absurd (none_some e)

mutual
  pub stands : (s : Scope) (bs : List Binder) (t : RTm) (u : Tm) → meant s bs t ≡ Some u → Stands s bs t u
  stands s bs (named n at) u e = named_stands s bs n at u (binder_number bs (named_binder n)) (number_of s.metas n) (number_of s.funs n) refl refl refl e
  stands s bs (numbered k at) u e =
      let i = map_part bound (binder_number bs (numbered_binder k)) u e in
      subst (Stands s bs (numbered k at)) i.2 (by_number i.1)
  stands s bs (free_variable k a at) u e =
      let b = map_part (free k) (type_meant s.sorts a) u e in
      subst (Stands s bs (free_variable k a at)) b.2 by_variable
  stands s bs (raw_meta n ts at) u e =
      let parts = both_parts meta (number_of s.metas n) (all_meant s bs ts) u e in
      subst (Stands s bs (raw_meta n ts at)) parts.4 (by_application parts.2 (all_stand s bs ts parts.1 parts.3))
  stands s bs (raw_lam x a t at) u e =
      let parts = both_parts lam (type_meant s.sorts a) (meant s (x ∷ bs) t) u e in
      subst (Stands s bs (raw_lam x a t at)) parts.4 (by_lam (stands s (x ∷ bs) t parts.1 parts.3))
  stands s bs (spine h ts at) v e =
      let parts = spine_stands s bs ts (meant s bs h) v e in
      by_spine (stands s bs h parts.0 parts.1) parts.2

  pub all_stand : (s : Scope) (bs : List Binder) (ts : RTms) (us : Tms) → all_meant s bs ts ≡ Some us → AllStand s bs ts us
  all_stand s bs none us e = subst (AllStand s bs none) (some_same e) no_more
  all_stand s bs (more t ts) us e =
      let parts = both_parts more_tms (meant s bs t) (all_meant s bs ts) us e in
      subst (AllStand s bs (more t ts)) parts.4 (and_more (stands s bs t parts.0 parts.2) (all_stand s bs ts parts.1 parts.3))

  pub spine_stands : (s : Scope) (bs : List Binder) (ts : RTms) (o : Option Tm) (v : Tm) → applied_meant s bs o ts ≡ Some v → (u : Tm) × (o ≡ Some u) × SpineStands s bs u ts v
  spine_stands s bs none o v e = (v, e, at_end refl)
  spine_stands s bs (more t ts) o v e =
      let rest = spine_stands s bs ts (both app o (meant s bs t)) v e in
      let parts = both_parts app o (meant s bs t) rest.0 rest.1 in
      (parts.0, parts.2, applied (stands s bs t parts.1 parts.3) (subst (λ w. SpineStands s bs w ts v) (sym parts.4) rest.2))
