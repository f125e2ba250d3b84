use Rattle.std.proofs.Common.{◌≡◌, ◌++◌, map}
use Rattle.std.specs.List.{range_with_len}
use Rattle.wh_system_parts.specs.Erase.{rfun}
use Rattle.wh_gen.specs.RawFamily.{raw_base, raw_map_fun}
use Rattle.wh_gen.proofs.declarations.funs.Given as goal

abbrev pub invariant-loop-number : goal.invariant-loop-number
invariant-loop-number l = map rfun l.funs ≡ raw_base ++ map raw_map_fun (range_with_len 0 l.number)
