-- What a test that came out true shows.
use Rattle.std.proofs.Common.{Bool, true, false, IsTrue}
use Rattle.std.specs.Bool.{OnTrue}

pub on_true : (b : Bool) (P : Type 0) → OnTrue b P → IsTrue b → P
on_true true P p e = p
on_true false P p e = cc
