-- Typing of terms and meta-terms over a signature: `Typed` for meta-terms below binders, `WellTyped` for terms.
use Rattle.std.specs.Prelude.{ℕ, ◌≡◌, List, [], ◌∷◌, Some, slice_get}
use Rattle.wh_types.specs.Ty.{Ty, ◌⇒◌, SortsBelow}
use Rattle.wh_terms.specs.Tree.{Tm, bound, free, fun, meta, lam, app, Tms, none, more}

-- what terms are built over: the number of sorts, and the type of each symbol
pub record Symbols : Type 0 where
  pub sorts : ℕ
  pub funs : List Ty

-- a declared meta-variable: the types of its arguments, and the type of its applications
pub record Declared : Type 0 where
  pub args : List Ty
  pub out : Ty

-- `Typed S M Γ t a`: over the symbols S and the meta-variables M the tree t has the type a, where its loose variables
-- have the types Γ, the nearest first. Each sort in the tree is a sort of S (Kop 2012).
mutual
  pub data Typed : Symbols → List Declared → List Ty → Tm → Ty → Type 0 where
    typed_bound : {S : Symbols} {M : List Declared} {Γ : List Ty} {i : ℕ} {a : Ty} → slice_get Γ i ≡ Some a → Typed S M Γ (bound i) a
    typed_free : {S : Symbols} {M : List Declared} {Γ : List Ty} {x : ℕ} {a : Ty} → SortsBelow S.sorts a → Typed S M Γ (free x a) a
    typed_fun : {S : Symbols} {M : List Declared} {Γ : List Ty} {f : ℕ} {a : Ty} → slice_get S.funs f ≡ Some a → Typed S M Γ (fun f) a
    typed_meta : {S : Symbols} {M : List Declared} {Γ : List Ty} {z : ℕ} {ts : Tms} {d : Declared} {a : Ty} → slice_get M z ≡ Some d
        → AllTyped S M Γ ts d.args → a ≡ d.out → Typed S M Γ (meta z ts) a
    typed_lam : {S : Symbols} {M : List Declared} {Γ : List Ty} {a b : Ty} {t : Tm} → SortsBelow S.sorts a → Typed S M (a ∷ Γ) t b
        → Typed S M Γ (lam a t) (a ⇒ b)
    typed_app : {S : Symbols} {M : List Declared} {Γ : List Ty} {a b : Ty} {t u : Tm} → Typed S M Γ t (a ⇒ b) → Typed S M Γ u a
        → Typed S M Γ (app t u) b

  pub data AllTyped : Symbols → List Declared → List Ty → Tms → List Ty → Type 0 where
    typed_none : {S : Symbols} {M : List Declared} {Γ : List Ty} → AllTyped S M Γ none []
    typed_more : {S : Symbols} {M : List Declared} {Γ : List Ty} {t : Tm} {ts : Tms} {a : Ty} {bs : List Ty} → Typed S M Γ t a
        → AllTyped S M Γ ts bs → AllTyped S M Γ (more t ts) (a ∷ bs)

-- a well-typed term of the symbols S: it has a type, no loose variable and no meta-variable
abbrev pub WellTyped : Symbols → Tm → Type 0
WellTyped S t = (a : Ty) × Typed S [] [] t a
