use Rattle.std.proofs.Common.{◌≡◌, drop}
use Rattle.wh_io.specs.Memory.{file_named}
use Rattle.wh_io.proofs.memory_shelf.bytes_of.Given as goal

abbrev pub invariant-loop-file : goal.invariant-loop-file
invariant-loop-file l = file_named (drop l.file-index l.files) l.name ≡ file_named l.files l.name
