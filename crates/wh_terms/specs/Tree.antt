-- Terms and meta-terms as nameless trees without pointers: what all definitions speak of.
use Rattle.std.specs.Prelude.{ℕ, ◌+◌, List, [], ◌∷◌}
use Rattle.wh_types.specs.Ty.{Ty}

-- a meta-term (Kop 2012; Fuhs and Kop 2019; the nameless form is de Bruijn's)
--   bound i    the variable of the i-th binder around it, counted outward from 0
--   free x a   a free variable, told apart by its number and its type
--   fun f      a symbol
--   meta z ts  a meta-variable with its arguments; a tree without these is a term
--   lam a t    an abstraction over a variable of type a
--   app t u    an application
mutual
  pub data Tm : Type 0 where
    bound : (i : ℕ) → Tm
    free : (x : ℕ) (a : Ty) → Tm
    fun : (f : ℕ) → Tm
    meta : (z : ℕ) (ts : Tms) → Tm
    lam : (a : Ty) (t : Tm) → Tm
    app : (t u : Tm) → Tm

  pub data Tms : Type 0 where
    none : Tms
    more : (t : Tm) (ts : Tms) → Tms

-- the trees of a list, one after another
abbrev pub tms_of : List Tm → Tms
tms_of [] = none
tms_of (t ∷ ts) = more t (tms_of ts)

-- how many there are
abbrev pub count : Tms → ℕ
count none = 0
count (more t ts) = 1 + count ts

-- a spine: a head with its arguments, applied from the left
abbrev pub spine : Tm → List Tm → Tm
spine h [] = h
spine h (t ∷ ts) = spine (app h t) ts

-- the head of the spine that a tree is
abbrev pub head : Tm → Tm
head (app t u) = head t
head t = t

-- how many arguments the spine that a tree is has
abbrev pub argument_count : Tm → ℕ
argument_count (app t u) = argument_count t + 1
argument_count _ = 0
