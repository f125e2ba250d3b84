use Rattle.std.proofs.Common.{ap, ◌∙◌}
use Rattle.wh_text.specs.Erase.{rtm}
use Rattle.wh_cert_upgrade.proofs.SameParts.{meta_copied, spine_copied}
use Rattle.wh_cert_upgrade.proofs.terms.+copy_term.Goals as goal

pub copy_term-returns-in_ok-copy_terms-in-Meta : goal.copy_term-returns-in_ok-copy_terms-in-Meta
copy_term-returns-in_ok-copy_terms-in-Meta t c =
    meta_copied c.args.term.now c.in-Meta.name c.in_ok-name-in-Meta.name c.in-Meta.args c.in_ok-copy_terms-in-Meta.field-0 c.in-Meta.at
    c.in-Meta.is c.in_ok-name-in-Meta.ensures c.in_ok-copy_terms-in-Meta.ensures

pub copy_term-returns-in_ok-copy_terms-in-Spine : goal.copy_term-returns-in_ok-copy_terms-in-Spine
copy_term-returns-in_ok-copy_terms-in-Spine t c =
    spine_copied c.args.term.now c.in-Spine.head c.in_ok-head-in-Spine.head c.in-Spine.args c.in_ok-copy_terms-in-Spine.field-0 c.in-Spine.at
    c.in-Spine.is (ap rtm c.in_ok-head-in-Spine.ensures.ok ∙ c.in_ok-copy_term-in-Spine.ensures ∙ ap rtm c.deref-in-Spine.ensures) c.in_ok-copy_terms-in-Spine.ensures
