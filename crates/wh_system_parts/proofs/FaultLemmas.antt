-- How the first faults of lists of tests go together.
use Rattle.std.proofs.Common.{◌≡◌, Bool, true, false, List, [], ◌∷◌, ◌++◌, Option, Some, None, refl, ap, sym, ◌∙◌, arith}
use Rattle.wh_system_parts.specs.declared.fault.SystemFault.{SystemFault}
use Rattle.wh_system_parts.specs.Faults.{Test, first_of, first_fault}
use Rattle.wh_system_parts.specs.Naming.{or_else}
use Rattle.wh_system_parts.specs.Tests.{test}

-- of two lists, one after the other: that of the first, or else that of the second

first_of-or : (b : Bool) (f : SystemFault) (a c : Option SystemFault) → first_of b f (or_else a c) ≡ or_else (first_of b f a) c
first_of-or true f a c = refl
first_of-or false f a c = refl

pub first_fault_append : (xs ys : List Test) → first_fault (xs ++ ys) ≡ or_else (first_fault xs) (first_fault ys)
first_fault_append [] ys = refl
first_fault_append (x ∷ xs) ys = ap (first_of x.fails x.fault) (first_fault_append xs ys) ∙ first_of-or x.fails x.fault (first_fault xs) (first_fault ys)

pub fault_in_first : (xs ys : List Test) (f : SystemFault) → first_fault xs ≡ Some f → first_fault (xs ++ ys) ≡ Some f
fault_in_first xs ys f e = first_fault_append xs ys ∙ ap (λ a. or_else a (first_fault ys)) e

-- where none of the first list fails, what the second gives
pub fault_after : (xs ys : List Test) → first_fault xs ≡ None → first_fault (xs ++ ys) ≡ first_fault ys
fault_after xs ys e = first_fault_append xs ys ∙ ap (λ a. or_else a (first_fault ys)) e

pub fault_in_second : (xs ys : List Test) (f : SystemFault) → first_fault xs ≡ None → first_fault ys ≡ Some f → first_fault (xs ++ ys) ≡ Some f
fault_in_second xs ys f passed e = fault_after xs ys passed ∙ e

pub no_fault_in_both : (xs ys : List Test) → first_fault xs ≡ None → first_fault ys ≡ None → first_fault (xs ++ ys) ≡ None
no_fault_in_both xs ys passed e = fault_after xs ys passed ∙ e

-- and back: where none of both fails, none of either fails

or_else-none : (a b : Option SystemFault) → or_else a b ≡ None → (a ≡ None) × (b ≡ None)
or_else-none None b e = (refl, e)
or_else-none (Some x) b e = absurd (grind arith)

pub no_fault_in_parts : (xs ys : List Test) → first_fault (xs ++ ys) ≡ None → (first_fault xs ≡ None) × (first_fault ys ≡ None)
no_fault_in_parts xs ys e = or_else-none (first_fault xs) (first_fault ys) (sym (first_fault_append xs ys) ∙ e)

pub no_fault_in_first : (xs ys : List Test) → first_fault (xs ++ ys) ≡ None → first_fault xs ≡ None
no_fault_in_first xs ys e = (no_fault_in_parts xs ys e).0

pub no_fault_in_second : (xs ys : List Test) → first_fault (xs ++ ys) ≡ None → first_fault ys ≡ None
no_fault_in_second xs ys e = (no_fault_in_parts xs ys e).1

-- a test before others

pub fault_at_test : (b : Bool) (f : SystemFault) (ts : List Test) → b ≡ true → first_fault (test b f ∷ ts) ≡ Some f
fault_at_test b f ts e = ap (λ c. first_of c f (first_fault ts)) e

pub past_test : (b : Bool) (f : SystemFault) (ts : List Test) → b ≡ false → first_fault (test b f ∷ ts) ≡ first_fault ts
past_test b f ts e = ap (λ c. first_of c f (first_fault ts)) e

first_of-none : (b : Bool) (f : SystemFault) (a : Option SystemFault) → first_of b f a ≡ None → (b ≡ false) × (a ≡ None)
first_of-none true f a e = absurd (grind arith)
first_of-none false f a e = (refl, e)

pub no_fault_at_test : (b : Bool) (f : SystemFault) (ts : List Test) → first_fault (test b f ∷ ts) ≡ None → (b ≡ false) × (first_fault ts ≡ None)
no_fault_at_test b f ts e = first_of-none b f (first_fault ts) e
