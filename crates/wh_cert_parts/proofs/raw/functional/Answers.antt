use Rattle.wh_cert_parts.proofs.RawLaws.{functional_type}
use Rattle.wh_cert_parts.proofs.raw.functional.Goals as goal

pub returns : goal.returns
returns c = functional_type c.args.args c.args.sort
