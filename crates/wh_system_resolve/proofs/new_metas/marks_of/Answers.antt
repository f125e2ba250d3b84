use Rattle.std.proofs.Common.{◌≡◌, List, false, length, Bool, replicate, ap, ◌∙◌, subst}
use Rattle.std.proofs.lemmas.List.{length-replicate}
use Rattle.wh_terms.specs.Erase.{tm}
use Rattle.wh_system_resolve.specs.Marks.{Marks, occurs_in}
use Rattle.wh_system_resolve.proofs.MarkLemmas.{fresh_marks}
use Rattle.wh_system_resolve.proofs.new_metas.marks_of.Goals as goal

pub returns : goal.returns
returns c =
    let t = tm c.args.left.now in
    let k = c.args.metas in
    let clean = c.in_ok-marks.marks.items in
    let new = c.mark_term.new.marks in
    let is : clean ≡ replicate k false = c.in_ok-marks.ensures.items_if_clones_equal (λ y e. e) in
    let one : c.in_ok-marks.marks.len ≡ k = c.in_ok-marks.ensures.len in
    let same : length c.deref_mut.result.now ≡ length clean = ap length c.deref_mut.ensures.value in
    let whole : length clean ≡ k = ap length is ∙ length-replicate k false in
    let two : length new ≡ length clean = c.mark_term.auto.marks ∙ same in
    let marked : Marks clean new (λ z. occurs_in z t) = subst (λ (l : List Bool). Marks l new (λ z. occurs_in z t)) c.deref_mut.ensures.value c.mark_term.ensures in
    fresh_marks t clean new k c.in_ok-marks.marks.len is one whole two marked
