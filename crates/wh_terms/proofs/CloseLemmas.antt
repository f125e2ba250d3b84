-- Closing: the variable is gone, and opening gives the term back.
use Rattle.std.proofs.Common.{◌≡◌, ℕ, zero, suc, Bool, true, false, refl, ap, ◌∙◌, arith, add-one}
use Rattle.std.specs.Prelude.{if◌then◌else◌, ◌==◌, ◌&&◌}
use Rattle.wh_types.specs.Ty.{Ty, same_ty}
use Rattle.wh_terms.specs.Tree.{Tm, bound, free, fun, meta, lam, app, Tms, none, more}
use Rattle.wh_terms.specs.Substitution.{rename, renames, up, up_free, up_renaming, act, acts, cons, opened}
use Rattle.wh_terms.specs.Sight.{Lacks, AllLack}
use Rattle.wh_terms.specs.Under.{ups_free, raised, moved, closing}
use Rattle.wh_terms.proofs.TypeTests.{variable-same, variable-equal, variable-other}
use Rattle.wh_terms.proofs.ActLaws.{act_same, act-act, act-id}
use Rattle.wh_terms.proofs.UnderLemmas.{ups_free_at, raised_bound, raised_free}

pub closing_here : (k x : ℕ) (a : Ty) (y : ℕ) (b : Ty) → y ≡ x → b ≡ a → ups_free k (closing x a) y b ≡ bound k
unfolding closing
closing_here k x a y b e f =
    ups_free_at k (closing x a) y b ∙ ap (λ t. raised k (if t then bound 0 else free y b)) (variable-same x a y b e f)
    ∙ raised_bound k 0 ∙ ap bound (omega arith)

pub closing_other : (k x : ℕ) (a : Ty) (y : ℕ) (b : Ty) → (y ≡ x → b ≡ a → ⊥) → ups_free k (closing x a) y b ≡ free y b
unfolding closing
closing_other k x a y b h =
    ups_free_at k (closing x a) y b ∙ ap (λ t. raised k (if t then bound 0 else free y b)) (variable-other x a y b h)
    ∙ raised_free k y b

mutual
  unfolding rename renames

  lacks-rename : (x : ℕ) (a : Ty) (ρ : ℕ → ℕ) (t : Tm) → Lacks x a t → Lacks x a (rename ρ t)
  lacks-rename x a ρ (bound i) l = tt
  lacks-rename x a ρ (free y b) l = l
  lacks-rename x a ρ (fun f) l = tt
  lacks-rename x a ρ (meta z ts) l = all_lack-renames x a ρ ts l
  lacks-rename x a ρ (lam b t) l = lacks-rename x a (up_renaming ρ) t l
  lacks-rename x a ρ (app t u) l = (lacks-rename x a ρ t l.0, lacks-rename x a ρ u l.1)

  all_lack-renames : (x : ℕ) (a : Ty) (ρ : ℕ → ℕ) (ts : Tms) → AllLack x a ts → AllLack x a (renames ρ ts)
  all_lack-renames x a ρ none l = tt
  all_lack-renames x a ρ (more t ts) l = (lacks-rename x a ρ t l.0, all_lack-renames x a ρ ts l.1)

lacks-up : (x : ℕ) (a : Ty) (σ : ℕ → Tm) → ((i : ℕ) → Lacks x a (σ i)) → (i : ℕ) → Lacks x a (up σ i)
unfolding up
lacks-up x a σ h zero = tt
lacks-up x a σ h (suc i) = lacks-rename x a suc (σ i) (h i)

mutual
  unfolding act acts up_free

  -- what no tree that comes in has, the result has not
  pub lacks-act : (x : ℕ) (a : Ty) (σ : ℕ → Tm) (φ : ℕ → Ty → Tm) (t : Tm) → ((i : ℕ) → Lacks x a (σ i)) → ((y : ℕ) (b : Ty) → Lacks x a (φ y b))
      → Lacks x a (act σ φ t)
  lacks-act x a σ φ (bound i) h k = h i
  lacks-act x a σ φ (free y b) h k = k y b
  lacks-act x a σ φ (fun f) h k = tt
  lacks-act x a σ φ (meta z ts) h k = all_lack-acts x a σ φ ts h k
  lacks-act x a σ φ (lam b t) h k = lacks-act x a (up σ) (up_free φ) t (lacks-up x a σ h) (λ y c. lacks-rename x a suc (φ y c) (k y c))
  lacks-act x a σ φ (app t u) h k = (lacks-act x a σ φ t h k, lacks-act x a σ φ u h k)

  pub all_lack-acts : (x : ℕ) (a : Ty) (σ : ℕ → Tm) (φ : ℕ → Ty → Tm) (ts : Tms) → ((i : ℕ) → Lacks x a (σ i)) → ((y : ℕ) (b : Ty) → Lacks x a (φ y b))
      → AllLack x a (acts σ φ ts)
  all_lack-acts x a σ φ none h k = tt
  all_lack-acts x a σ φ (more t ts) h k = (lacks-act x a σ φ t h k, all_lack-acts x a σ φ ts h k)

moved-lacks : (x : ℕ) (a : Ty) (i : ℕ) → Lacks x a (moved 1 i)
unfolding moved
moved-lacks x a i = tt

closing-lacks : (x : ℕ) (a : Ty) (y : ℕ) (b : Ty) → Lacks x a (closing x a y b)
unfolding closing
closing-lacks x a y b = go ((y == x) && same_ty b a) refl
  where
    go : (t : Bool) → ((y == x) && same_ty b a) ≡ t → Lacks x a (if t then bound 0 else free y b)
    go true e = tt
    go false e = λ p q. absurd (let same = variable-same x a y b p q in cc)

pub closed_lacks : (x : ℕ) (a : Ty) (r t : Tm) → r ≡ act (moved 1) (closing x a) t → Lacks x a r
closed_lacks x a r t is = rw is (lacks-act x a (moved 1) (closing x a) t (moved-lacks x a) (closing-lacks x a))

back-bound : (u : Tm) (i : ℕ) → act (cons u bound) free (moved 1 i) ≡ bound i
unfolding act moved cons
back-bound u i = rw add-one

back-free : (x : ℕ) (a : Ty) (y : ℕ) (b : Ty) → act (cons (free x a) bound) free (closing x a y b) ≡ free y b
unfolding act closing cons
back-free x a y b = go ((y == x) && same_ty b a) refl
  where
    go : (t : Bool) → ((y == x) && same_ty b a) ≡ t → act (cons (free x a) bound) free (if t then bound 0 else free y b) ≡ free y b
    go true e = let both = variable-equal x a y b e in cc
    go false e = refl

pub closed_back : (x : ℕ) (a : Ty) (r t : Tm) → r ≡ act (moved 1) (closing x a) t → opened (free x a) r ≡ t
unfolding opened
closed_back x a r t is =
    ap (act (cons (free x a) bound) free) is
    ∙ act-act (moved 1) (closing x a) (cons (free x a) bound) free t
    ∙ act_same (back-bound (free x a)) (back-free x a) t ∙ act-id t
