-- Raw trees without pointers, with the offsets where their parts stand.
use Rattle.std.specs.Prelude.{ℕ, List}

-- a type as it is written: the types of its arguments, the name of the sort that it gives, and the offset of that name
mutual
  pub data RTy : Type 0 where
    raw_type : (args : RTys) (sort : List ℕ) (at : ℕ) → RTy

  pub data RTys : Type 0 where
    no_types : RTys
    more_types : (a : RTy) (as_well : RTys) → RTys

-- the binder of an abstraction: a name, or `$` with a number
pub data Binder : Type 0 where
  named_binder : (name : List ℕ) → Binder
  numbered_binder : (n : ℕ) → Binder

-- a term as it is written; the last number of each is the offset where it stands
mutual
  pub data RTm : Type 0 where
    named : (name : List ℕ) (at : ℕ) → RTm
    numbered : (n : ℕ) (at : ℕ) → RTm
    free_variable : (n : ℕ) (a : RTy) (at : ℕ) → RTm
    meta : (name : List ℕ) (ts : RTms) (at : ℕ) → RTm
    lam : (x : Binder) (a : RTy) (t : RTm) (at : ℕ) → RTm
    spine : (h : RTm) (ts : RTms) (at : ℕ) → RTm

  pub data RTms : Type 0 where
    none : RTms
    more : (t : RTm) (ts : RTms) → RTms
