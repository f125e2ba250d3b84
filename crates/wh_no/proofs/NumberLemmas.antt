-- The numbers of the free variables of the term that a raw term stands for are those of the raw term.
use Rattle.std.proofs.Common.{◌≡◌, ℕ, suc, ◌≤◌, List, [], ◌∷◌, Option, Some, None, option_map, refl, subst, arith}
use Rattle.wh_types.specs.Ty.{Ty}
use Rattle.wh_terms.specs.Tree.{Tm, bound, free, fun, meta, app, lam, none as no_tms}
use Rattle.wh_terms.proofs.TypingLaws.{some_one}
use Rattle.wh_text.specs.RawTree.{Binder, named_binder, numbered_binder, RTm, named, numbered, free_variable, meta as raw_meta, lam as raw_lam, spine, RTms, none, more}
use Rattle.wh_system_parts.specs.Naming.{Scope, number_of, binder_number, type_meant, or_else, both, meant, applied_meant}
use Rattle.wh_cert.specs.TermLimits.{TermFits, TermsFit}
use Rattle.wh_no.specs.Unused.{first_unused}

-- the number above those of the free variables of what may be there is at most 65,536
abbrev IsLow : Option Tm → Type 0
IsLow o = (t : Tm) → o ≡ Some t → first_unused t ≤ 65536

pub no_some : {A : Type 0} {a : A} → None ≡ Some a → ⊥
no_some e = absurd (cc)

low : (t : Tm) → first_unused t ≤ 65536 → IsLow (Some t)
low t h u e = subst (λ v. first_unused v ≤ 65536) (some_one e) h

low_nothing : IsLow None
low_nothing t e = absurd (no_some e)

low_bound : (o : Option ℕ) → IsLow (option_map bound o)
low_bound None = low_nothing
low_bound (Some i) = low (bound i) (omega arith)

low_fun : (o : Option ℕ) → IsLow (option_map fun o)
low_fun None = low_nothing
low_fun (Some f) = low (fun f) (omega arith)

low_meta : (o : Option ℕ) → IsLow (option_map (λ z. meta z no_tms) o)
low_meta None = low_nothing
low_meta (Some z) = low (meta z no_tms) (omega arith)

low_free : (k : ℕ) (o : Option Ty) → k ≤ 65535 → IsLow (option_map (free k) o)
low_free k None h = low_nothing
low_free k (Some a) h = low (free k a) (omega arith)

low_or : (o q : Option Tm) → IsLow o → IsLow q → IsLow (or_else o q)
low_or None q h k = k
low_or (Some t) q h k = h

low_lam : (o : Option Ty) (q : Option Tm) → IsLow q → IsLow (both lam o q)
low_lam None q h = low_nothing
low_lam (Some a) None h = low_nothing
low_lam (Some a) (Some t) h = low (lam a t) (h t refl)

low_app : (o q : Option Tm) → IsLow o → IsLow q → IsLow (both app o q)
low_app None q h k = low_nothing
low_app (Some t) None h k = low_nothing
low_app (Some t) (Some u) h k = low (app t u) (omega (arith, h t refl, k u refl))

mutual
  meant_low : (s : Scope) (binders : List Binder) (k : ℕ) (u : RTm) → TermFits k u → IsLow (meant s binders u)
  meant_low s binders k (named n at) h =
      low_or (option_map bound (binder_number binders (named_binder n))) (or_else (option_map (λ z. meta z no_tms) (number_of s.metas n)) (option_map fun (number_of s.funs n)))
      (low_bound (binder_number binders (named_binder n))) (low_or (option_map (λ z. meta z no_tms) (number_of s.metas n)) (option_map fun (number_of s.funs n)) (low_meta (number_of s.metas n)) (low_fun (number_of s.funs n)))
  meant_low s binders k (numbered n at) h = low_bound (binder_number binders (numbered_binder n))
  meant_low s binders k (free_variable n a at) h = low_free n (type_meant s.sorts a) h.0
  meant_low s binders k (raw_meta n ts at) h = absurd h
  meant_low s binders k (raw_lam (named_binder x) a t at) h = absurd h
  meant_low s binders k (raw_lam (numbered_binder n) a t at) h = low_lam (type_meant s.sorts a) (meant s (numbered_binder n ∷ binders) t) (meant_low s (numbered_binder n ∷ binders) (suc k) t h.3)
  meant_low s binders k (spine g ts at) h = applied_low s binders (suc k) (meant s binders g) ts (meant_low s binders (suc k) g h.2) h.5

  applied_low : (s : Scope) (binders : List Binder) (k : ℕ) (o : Option Tm) (ts : RTms) → IsLow o → TermsFit k ts → IsLow (applied_meant s binders o ts)
  applied_low s binders k o none l h = l
  applied_low s binders k o (more t ts) l h = applied_low s binders k (both app o (meant s binders t)) ts (low_app o (meant s binders t) l (meant_low s binders k t h.0)) h.1

pub unused_low : (s : Scope) (u : RTm) (t : Tm) → TermFits 0 u → meant s [] u ≡ Some t → first_unused t ≤ 65536
unused_low s u t h e = meant_low s [] 0 u h t e
