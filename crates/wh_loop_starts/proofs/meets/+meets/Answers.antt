-- A start meets a part where its parts meet those of the part.
use Rattle.std.proofs.Common.{◌≡◌, MatchBool, ap, sym, subst, subst₂, ◌∙◌}
use Rattle.wh_types.specs.Erase.{ty}
use Rattle.wh_terms.specs.Erase.{tm}
use Rattle.wh_terms.specs.Tree.{Tm, lam, app}
use Rattle.wh_loop_starts.specs.Meets.{IsMeeting, HasNoMeeting}
use Rattle.wh_loop_starts.proofs.MeetLemmas.{meeting_lam, no_meeting_lam, meeting_app, no_meeting_app}
use Rattle.wh_loop_starts.proofs.Outcomes.{test_more}
use Rattle.wh_loop_starts.proofs.meets.+meets.Goals as goal

pub returns-in-Free-clause-told : goal.returns-in-Free-clause-told
returns-in-Free-clause-told t c =
    let w = tm c.args.part.now in
    let old = c.args.table.now.items in
    let new = c.meets_variable.new.table.items in
    subst (λ (s : Tm). MatchBool c.meets_variable.result (IsMeeting s w old new) (HasNoMeeting s w old)) (sym (ap tm c.in-Free.is)) c.meets_variable.ensures.told

pub returns-then-same_type-clause-told : goal.returns-then-same_type-clause-told
returns-then-same_type-clause-told t c =
    let old = c.args.table.now.items in
    let new = c.meets.new.table.items in
    let a = ty c.in-Lam.kind in
    let s = tm c.in-Lam.body.value in
    let w = tm c.in-Lam-part.other_body.value in
    let same : ty c.in-Lam-part.other ≡ a = c.same_type.ensures.0 c.if-same_type.true in
    let start = ap tm c.in-Lam.is in
    let part = ap tm c.in-Lam-part.is ∙ ap (λ b. lam b w) same in
    let told = subst₂ (λ (u v : Tm). MatchBool c.meets.result (IsMeeting u v old new) (HasNoMeeting u v old)) (ap tm c.deref.ensures) (ap tm c.deref-then-same_type.ensures) c.meets.ensures.told in
    subst₂ (λ (u v : Tm). MatchBool c.meets.result (IsMeeting u v old new) (HasNoMeeting u v old)) (sym start) (sym part)
    (test_more c.meets.result (IsMeeting s w old new) (IsMeeting (lam a s) (lam a w) old new) (HasNoMeeting s w old) (HasNoMeeting (lam a s) (lam a w) old) told
    (meeting_lam a s w old new) (no_meeting_lam a a s w old))

pub returns-then-meets-clause-told : goal.returns-then-meets-clause-told
returns-then-meets-clause-told t c =
    let old = c.args.table.now.items in
    let mid = c.meets-in-App-part.new.table.items in
    let new = c.meets-then-meets.new.table.items in
    let f = tm c.in-App.f.value in
    let x = tm c.in-App.x.value in
    let g = tm c.in-App-part.g.value in
    let y = tm c.in-App-part.y.value in
    let start = ap tm c.in-App.is in
    let part = ap tm c.in-App-part.is in
    let front = subst₂ (λ (u v : Tm). IsMeeting u v old mid) (ap tm c.deref-in-App-part.ensures) (ap tm c.deref-in-App-part-2.ensures) c.if-meets.ensures.told in
    let told = subst₂ (λ (u v : Tm). MatchBool c.meets-then-meets.result (IsMeeting u v mid new) (HasNoMeeting u v mid)) (ap tm c.deref-then-meets.ensures) (ap tm c.deref-then-meets-2.ensures) c.meets-then-meets.ensures.told in
    subst₂ (λ (u v : Tm). MatchBool c.meets-then-meets.result (IsMeeting u v old new) (HasNoMeeting u v old)) (sym start) (sym part)
    (test_more c.meets-then-meets.result (IsMeeting x y mid new) (IsMeeting (app f x) (app g y) old new) (HasNoMeeting x y mid) (HasNoMeeting (app f x) (app g y) old) told
    (meeting_app f x g y old mid new front) (no_meeting_app f x g y old mid front))
