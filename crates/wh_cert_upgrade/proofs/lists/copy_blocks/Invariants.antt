use Rattle.std.proofs.Common.{◌≡◌, take}
use Rattle.wh_cert_upgrade.proofs.lists.copy_blocks.Given as goal

abbrev pub invariant-loop-block : goal.invariant-loop-block
invariant-loop-block l = l.copies ≡ take l.block-index l.blocks
