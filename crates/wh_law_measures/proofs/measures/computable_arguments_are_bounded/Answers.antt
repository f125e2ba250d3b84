-- Computable terms are typed and bounded.
use Rattle.wh_types.specs.Ty.{arguments}
use Rattle.std.specs.Prelude.{take}
use Rattle.wh_law_measures.proofs.Certificates.{list_typed, list_bounded}
use Rattle.wh_law_measures.proofs.measures.computable_arguments_are_bounded.Goals as goal

pub returns : goal.returns
returns k S rules rank c kind need made known at needed all = record {
  typed = record {
    kind = kind;
    need = need;
    known = at;
    needed = needed;
    typed = list_typed S rules rank (take need (arguments kind)) c.arguments all;
  };
  bounded = list_bounded S rules rank (take need (arguments kind)) c.arguments made known all;
}
