use Rattle.std.proofs.Common.{refl}
use Rattle.wh_text.specs.declared.raw.RawTerm.{Spine}
use Rattle.wh_read.proofs.HeldLaws.{spine_longer}
use Rattle.wh_read.proofs.terms.longer.Goals as goal

pub returns : goal.returns
returns c = spine_longer (Spine c.args.head c.push.new.self c.args.at) c.args.head c.args.args c.push.new.self c.args.atom c.args.at refl c.in_ok-push.ensures.ok
