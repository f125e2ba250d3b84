-- The type and the term that the names stand for, and the term has that type.
use Rattle.std.proofs.Common.{[], refl, ap, sym, ◌∙◌, option_map, subst, MatchOption, MatchBool}
use Rattle.wh_types.specs.Erase.{ty}
use Rattle.wh_terms.specs.Tree.{Tm}
use Rattle.wh_terms.specs.Erase.{tm}
use Rattle.wh_terms.specs.Typing.{Typed}
use Rattle.wh_text.specs.Erase.{rtm}
use Rattle.wh_cert.specs.Said.{said_put}
use Rattle.wh_system_making.specs.Resolve.{Means}
use Rattle.wh_system.specs.SystemView.{system_data}
use Rattle.wh_no.proofs.PutLemmas.{put_said}
use Rattle.wh_no.proofs.puts.typed_put.Goals as goal

pub returns : goal.returns
returns c =
    let d = system_data c.args.system.now in
    let raw = rtm c.args.put.now.term in
    let v = tm c.in-Some-2.value in
    let kind = sym c.in_ok-kind.ensures ∙ ap (option_map ty) c.in-Some.is in
    let value = subst (λ o. MatchOption o ((t : Tm) → Means d raw t → ⊥) (λ t. Means d raw (tm t))) c.in-Some-2.is c.in_ok-value.ensures in
    let typed = subst (λ yes. MatchBool yes (Typed d.symbols [] [] v (ty c.in-Some.kind)) (Typed d.symbols [] [] v (ty c.in-Some.kind) → ⊥)) c.if-not-branch.false c.in_ok-has_type.ensures in
    put_said d (said_put c.args.put.now) c.args.put.now.number (ty c.in-Some.kind) v c.is_well_made.ensures.sorts_named refl kind value typed
