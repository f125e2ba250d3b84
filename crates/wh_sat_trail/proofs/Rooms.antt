use Rattle.std.proofs.Common.{◌≡◌, List, Vec, Global, Result, Ok, Err, length, vec_len, rules, arith}
use Rattle.std.specs.Result.{IsOk, is_ok}
use Rattle.std.specs.Bool.{if◌then◌else◌}

pub length-items : {X : Type 0} (v : Vec X Global) → vec_len v ≡ length v.items
length-items v = search rules

-- what a push with room leaves
pub if_ok : {X E : Type 0} (r : Result (Unit {0}) E) (n a b : List X) → IsOk r → n ≡ (if is_ok r then a else b) → n ≡ a
if_ok (Ok x) n a b o e = e
if_ok (Err x) n a b o e = absurd (grind (arith, o))
