-- Bodies with a renaming put into them, and bodies that fit typed trees.
use Rattle.std.proofs.Common.{◌≡◌, List, ℕ, zero, suc, ap, ap₂, refl, ◌∙◌, sym}
use Rattle.std.proofs.Math.Path.{fun_ext}
use Rattle.wh_types.specs.Ty.{Ty}
use Rattle.wh_terms.specs.Tree.{Tm, Tms, bound, free}
use Rattle.wh_terms.specs.Substitution.{rename, up_renaming, up, act}
use Rattle.wh_terms.specs.Value.{Body}
use Rattle.wh_terms.specs.Typing.{Symbols, Declared, Typed, typed_bound, typed_free, typed_fun, typed_meta, typed_lam, typed_app, AllTyped, typed_none, typed_more}
use Rattle.wh_terms.proofs.ValueForm.{FitsBodies, AllFitBodies}
use Rattle.wh_terms.proofs.ValueTyping.{typed_count}
use Rattle.wh_order_extended.specs.Kinds.{AreCounted}
use Rattle.wh_terms.proofs.ActLaws.{rename-is-act}
use Rattle.wh_terms.proofs.ValueForm.{shifted, acted, up_many, up_times}
use Rattle.wh_terms.proofs.ValueLaws.{up_free_many-free}

pub up_many-renaming : (n : ℕ) (r : ℕ → ℕ) (i : ℕ) → up_many n (λ i. bound (r i)) i ≡ bound (up_times n r i)
unfolding up_many up_times up up_renaming rename
up_many-renaming zero r i = refl
up_many-renaming (suc n) r i = ap (λ σ. up_many n σ i) (fun_ext (λ j. one j)) ∙ up_many-renaming n (λ j. up_renaming r j) i
  where
    one : (j : ℕ) → up (λ i. bound (r i)) j ≡ bound (up_renaming r j)
    one zero = refl
    one (suc j) = refl

-- bodies moved below a binder are bodies with a renaming in them
pub acted_suc : (g : ℕ → Body) (z : ℕ) → acted (λ i. bound (suc i)) free g z ≡ shifted g z
acted_suc g z =
    let put : Tm → Body = λ b. record { arity = (g z).arity; tree = b } in
    ap put (ap₂ (λ σ φ. act σ φ (g z).tree) (fun_ext (λ i. up_many-renaming (g z).arity suc i)) (fun_ext (λ x. fun_ext (λ a. up_free_many-free (g z).arity x a)))
    ∙ sym (rename-is-act (up_times (g z).arity suc) (g z).tree))

mutual
  pub typed_fits : {F : Symbols} {M : List Declared} {Γ : List Ty} {t : Tm} {a : Ty} (g : ℕ → Body) → AreCounted M g → Typed F M Γ t a → FitsBodies g t
  typed_fits g c (typed_bound e) = tt
  typed_fits g c (typed_free p) = tt
  typed_fits g c (typed_fun e) = tt
  typed_fits g c (typed_meta {z = z} {d = d} e ts o) = (c z d e ∙ sym (typed_count ts), all_typed_fit g c ts)
  typed_fits g c (typed_lam p t) = typed_fits g c t
  typed_fits g c (typed_app t u) = (typed_fits g c t, typed_fits g c u)

  pub all_typed_fit : {F : Symbols} {M : List Declared} {Γ : List Ty} {ts : Tms} {cs : List Ty} (g : ℕ → Body) → AreCounted M g → AllTyped F M Γ ts cs → AllFitBodies g ts
  all_typed_fit g c typed_none = tt
  all_typed_fit g c (typed_more t ts) = (typed_fits g c t, all_typed_fit g c ts)
