-- Results that are passed on: their values, and the limits that are exceeded.
use Rattle.std.specs.Prelude.{◌≡◌, Result, Ok, Err, IfOk, OnOk, IsErrAnd}
use Rattle.std.proofs.Common.{sym, subst}
use Rattle.wh_types.specs.Outcome.{IfBecause}
use Rattle.wh_types.specs.declared.want.Or.{Or}
use Rattle.wh_types.specs.declared.want.Or.TheVariants.{NoMemory, Because}

-- a weaker fact of a value
pub ok_so : {T E : Type 0} (r : Result T E) (P Q : T → Type 0) → ((x : T) → P x → Q x) → IfOk r P → IfOk r Q
ok_so (Ok x) P Q f h = f x h
ok_so (Err e) P Q f h = tt

-- of what stands once it is done
pub done_so : {T E : Type 0} (r : Result T E) (P Q : Type 0) → (P → Q) → OnOk r P → OnOk r Q
done_so (Ok x) P Q f h = f h
done_so (Err e) P Q f h = tt

-- and of a cause
pub because_so : {T E : Type 0} (r : Result T (Or E)) (P Q : E → Type 0) → ((e : E) → P e → Q e) → IfBecause r P → IfBecause r Q
because_so (Ok x) P Q f h = tt
because_so (Err NoMemory) P Q f h = tt
because_so (Err (Because e)) P Q f h = f e h

-- the cause of the callee's result s in a result of another type
pub passed_on : {T U E : Type 0} (s : Result U (Or E)) (r : Result T (Or E)) (e : Or E) (P Q : E → Type 0) → IsErrAnd r (λ x. x ≡ e) → IfBecause {T = U} {E = E} (Err e) P
    → ((x : E) → P x → Q x) → IfBecause r Q
passed_on s (Ok x) e P Q same h f = tt
passed_on s (Err NoMemory) e P Q same h f = tt
passed_on s (Err (Because x)) NoMemory P Q same h f = absurd (cc)
passed_on s (Err (Because x)) (Because y) P Q same h f = f x (subst P (sym (because_one same)) h)
  where
    because_one : Because x ≡ Because y → x ≡ y
    because_one e = cc
