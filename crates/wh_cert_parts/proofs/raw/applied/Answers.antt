use Rattle.std.proofs.Common.{refl}
use Rattle.wh_text.specs.declared.raw.RawTerm.{Spine}
use Rattle.wh_text.proofs.RawLemmas.{rtm_of_spine}
use Rattle.wh_cert_parts.proofs.raw.applied.Goals as goal

pub returns : goal.returns
returns c = rtm_of_spine (Spine c.args.head c.args.args 0) c.args.head c.args.args 0 refl
