-- A start beside a part of a term: what is met in the places of the start's variables.
use Rattle.std.specs.Prelude.{ℕ, ◌≡◌, ◌≤◌, ◌⊎◌, List, [], ◌∷◌, ◌++◌, Option, Some, None, All, AllPairs, slice_get}
use Rattle.wh_types.specs.Limits.{most_metas}
use Rattle.wh_types.specs.Ty.{Ty}
use Rattle.wh_types.specs.Erase.{ty}
use Rattle.wh_terms.specs.Tree.{Tm, bound, free, fun, meta, lam, app}
use Rattle.wh_terms.specs.Typing.{Symbols, Typed, WellTyped}
use Rattle.wh_terms.specs.Erase.{tm}
use Rattle.wh_terms.specs.Substitution.{act}
use Rattle.wh_terms.specs.declared.subst.SubstEntry.{SubstEntry}
use Rattle.wh_no.specs.Claim.{Put, put_for}
use Rattle.wh_no.specs.Unused.{first_unused}
use Rattle.wh_no.specs.Valid.{IsPutOver, IsBelow, HoldsInstance}
use Rattle.wh_terms.specs.Sight.{LooseBelow}
use Rattle.wh_loop_starts.specs.Space.{InSpace}
use Rattle.wh_loop_starts.specs.Found.{IsPutFor}
use Rattle.wh_loop_starts.specs.declared.meets.Met.{Met}

-- a symbol with arguments (ours)
abbrev pub IsHeaded : Tm → Type 0
IsHeaded (fun f) = Unit {0}
IsHeaded (app t u) = IsHeaded t
IsHeaded _ = ⊥

-- the two terms are one symbol, with equally many arguments (ours)
abbrev pub SameHead : Tm → Tm → Type 0
SameHead (fun f) (fun g) = f ≡ g
SameHead (app t u) (app v w) = SameHead t v
SameHead _ _ = ⊥

-- the free variable with the number x and the type a stands in the tree (ours)
abbrev pub Holds : ℕ → Ty → Tm → Type 0
Holds x a (free y b) = (y ≡ x) × (b ≡ a)
Holds x a (lam b t) = Holds x a t
Holds x a (app t u) = Holds x a t ⊎ Holds x a u
Holds x a _ = ⊥

-- the type of each free variable in the tree is the one that belongs to its number (ours)
abbrev pub HasKinds : (ℕ → Ty) → Tm → Type 0
HasKinds kinds (free x a) = a ≡ kinds x
HasKinds kinds (lam a t) = HasKinds kinds t
HasKinds kinds (app t u) = HasKinds kinds t × HasKinds kinds u
HasKinds kinds _ = Unit {0}

-- what the search for instances knows of the term whose instances it looks for (ours)
pub record IsReady (S : Symbols) (t : Tm) : Type 0 where
  pub typed : WellTyped S t
  pub headed : IsHeaded t
  pub kinds : ℕ → Ty
  pub has_kinds : HasKinds kinds t
  pub low : first_unused t ≤ most_metas

-- the tree with these trees for its free variables, by their numbers; below a binder nothing is moved (ours)
abbrev pub filled : (ℕ → Tm) → Tm → Tm
filled φ (bound i) = bound i
filled φ (free x a) = φ x
filled φ (fun f) = fun f
filled φ (meta z ts) = meta z ts
filled φ (lam a t) = lam a (filled φ t)
filled φ (app t u) = app (filled φ t) (filled φ u)

-- the table has this at the number x
abbrev pub IsAt : List (Option Met) → ℕ → Met → Type 0
IsAt table x m = slice_get table x ≡ Some (Some m)

-- the trees are those that the table has, where it has one
abbrev pub Agrees : List (Option Met) → (ℕ → Tm) → Type 0
Agrees table φ = (x : ℕ) (m : Met) → IsAt table x m → φ x ≡ tm m.value.now

-- `new` goes on from `old`, and has just what makes the tree t the part w (ours)
abbrev pub IsMeeting : Tm → Tm → List (Option Met) → List (Option Met) → Type 0
IsMeeting t w old new = (φ : ℕ → Tm) → (Agrees new φ → Agrees old φ × (w ≡ filled φ t)) × (Agrees old φ → w ≡ filled φ t → Agrees new φ)

-- nothing that agrees with the table makes the tree t the part w (ours)
abbrev pub HasNoMeeting : Tm → Tm → List (Option Met) → Type 0
HasNoMeeting t w old = (φ : ℕ → Tm) → Agrees old φ → w ≡ filled φ t → ⊥

-- what is new in the table is of a variable of the tree t (ours)
abbrev pub IsFrom : Tm → List (Option Met) → List (Option Met) → Type 0
IsFrom t old new = (x : ℕ) (m : Met) → IsAt new x m → IsAt old x m ⊎ Holds x (ty m.kind.now) t

-- the part has the type of its variable
abbrev pub IsTypedMet : Symbols → Met → Type 0
IsTypedMet S m = Typed S [] [] (tm m.value.now) (ty m.kind.now)

-- the answer is the entry for the variable of that number, or nothing where the part has not its type (ours)
abbrev pub TellsEntry : Symbols → ℕ → Met → Option SubstEntry → Type 0
TellsEntry S x m None = IsTypedMet S m → ⊥
TellsEntry S x m (Some e) = IsTypedMet S m × (e.number ≡ x) × (ty e.kind ≡ ty m.kind.now) × (tm e.value ≡ tm m.value.now)

-- the puts `new` are `old` and one for the variable of the number x, if something stands in its place (ours)
abbrev pub IsPushed : Symbols → ℕ → Option Met → List Put → List Put → Type 0
IsPushed S x None old new = new ≡ old
IsPushed S x (Some m) old new = (p : Put) × IsTypedMet S m × (p.number ≡ x) × (p.kind ≡ ty m.kind.now) × (p.value ≡ tm m.value.now)
    × (new ≡ old ++ p ∷ [])

-- what stands in the place of a variable has not its type (ours)
abbrev pub IsUntyped : Symbols → Option Met → Type 0
IsUntyped S None = ⊥
IsUntyped S (Some m) = IsTypedMet S m → ⊥

-- the put is one of the table, and it is typed (ours)
abbrev pub IsOfTable : Symbols → List (Option Met) → Put → Type 0
IsOfTable S table p = (m : Met) × IsAt table p.number m × IsTypedMet S m × (p.kind ≡ ty m.kind.now) × (p.value ≡ tm m.value.now)

-- all puts are of the table, with increasing numbers, and all of the table is put (ours)
pub record ArePutsOf (S : Symbols) (table : List (Option Met)) (puts : List Put) : Type 0 where
  pub of_table : All (IsOfTable S table) puts
  pub increasing : AllPairs IsBelow puts
  pub each : (x : ℕ) (m : Met) → IsAt table x m → put_for puts x (ty m.kind.now) ≡ tm m.value.now

-- something in the table has not the type of its variable (ours)
abbrev pub HasUntyped : Symbols → List (Option Met) → Type 0
HasUntyped S table = (x : ℕ) × (m : Met) × IsAt table x m × (IsTypedMet S m → ⊥)

-- the puts make the tree t the part w (ours)
pub record AreInstance (S : Symbols) (t w : Tm) (puts : List Put) : Type 0 where
  pub typed : All (IsPutOver S) puts
  pub increasing : AllPairs IsBelow puts
  pub for_variables : All (IsPutFor t) puts
  pub same : w ≡ act bound (put_for puts) t

-- no puts do
abbrev pub IsNoInstance : Symbols → Tm → Tm → Type 0
IsNoInstance S t w = (puts : List Put) → All (IsPutOver S) puts → AllPairs IsBelow puts → w ≡ act bound (put_for puts) t → ⊥

-- there is no instance of t in u at the place (ours)
abbrev pub HasNoneAt : Symbols → Tm → Tm → List ℕ → Type 0
HasNoneAt S t u at = (puts : List Put) → All (IsPutOver S) puts → AllPairs IsBelow puts → HoldsInstance t puts at u → ⊥

-- there is no instance of t in u at the place, nor at a place below it (ours)
abbrev pub HasNoneFrom : Symbols → Tm → Tm → List ℕ → Type 0
HasNoneFrom S t u at = (rest : List ℕ) → HasNoneAt S t u (at ++ rest)

-- there is no instance of t in u at a place below this one (ours)
abbrev pub HasNoneBelow : Symbols → Tm → Tm → List ℕ → Type 0
HasNoneBelow S t u at = (d : ℕ) (rest : List ℕ) → HasNoneAt S t u (at ++ d ∷ rest)

-- the tree is small, and has no loose variable: a term to search (ours)
pub record IsSearchable (t : Tm) : Type 0 where
  pub small : InSpace t
  pub shut : LooseBelow 0 t
