-- An abstraction with values for its variables is an abstraction, and an application is an application.
use Rattle.std.proofs.Common.{ap, ◌∙◌}
use Rattle.wh_types.specs.Erase.{ty}
use Rattle.wh_terms.specs.Tree.{bound}
use Rattle.wh_terms.specs.Erase.{tm}
use Rattle.wh_terms.specs.Substitution.{act}
use Rattle.wh_no.specs.Claim.{put_for}
use Rattle.wh_no.specs.Entry.{entry_puts}
use Rattle.wh_terms.proofs.OtherTrees.{no_lam, no_app}
use Rattle.wh_no.proofs.InstanceLemmas.{filled_lam, filled_app}
use Rattle.wh_no.proofs.instance.+instance.Goals as goal

pub returns-in_default : goal.returns-in_default
returns-in_default t c =
    let φ = put_for (entry_puts c.args.entries.now) in
    (λ f. absurd (cc), λ e. absurd (no_lam c.args.part.now c.in_default.not-Lam _ _ (e ∙ ap (λ u. act bound φ (tm u)) c.in-Lam.is ∙ filled_lam c.args.entries.now (ty c.in-Lam.kind) (tm c.in-Lam.body.value) c.requires.shut)))

pub returns-in_default-part : goal.returns-in_default-part
returns-in_default-part t c =
    let φ = put_for (entry_puts c.args.entries.now) in
    (λ f. absurd (cc), λ e. absurd (no_app c.args.part.now c.in_default-part.not-App _ _ (e ∙ ap (λ u. act bound φ (tm u)) c.in-App.is ∙ filled_app φ (tm c.in-App.f.value) (tm c.in-App.x.value))))
