use Rattle.std.proofs.Common.{subst, ◌∙◌}
use Rattle.std.proofs.lemmas.List.{take_all}
use Rattle.std.specs.Prelude.{All, List}
use Rattle.wh_terms.specs.Entries.{Lists}
use Rattle.wh_terms.specs.declared.subst.MetaBody.{MetaBody}
use Rattle.wh_terms.proofs.BodyLemmas.{IsForAnother, bodies_found, listed_here, not_listed}
use Rattle.wh_terms.proofs.bodies.body_for.Goals as goal

pub returns-then-body-meta : goal.returns-then-body-meta
returns-then-body-meta c =
    let items : List MetaBody = c.as_slice-body-items.result.now in (
      subst (λ bs. Lists bs c.args.meta) c.as_slice-body-items.ensures
          (listed_here items c.loop-body.body-index c.body-item.result c.args.meta c.loop-body-test.true c.body-item.is c.if-body-meta.true),
      c.loop-body.invariant.same
          ∙ bodies_found items c.loop-body.body-index c.body-item.result c.args.meta c.loop-body-test.true c.body-item.is c.if-body-meta.true,
    )

pub returns : goal.returns
returns c =
    let items : List MetaBody = c.as_slice-body-items.result.now in
    let all : All (IsForAnother c.args.meta) items =
    subst (All (IsForAnother c.args.meta)) (take_all c.loop-body.body-index items c.loop-body-test.false) c.loop-body.invariant.others
    in not_listed c.args.by.now c.args.meta (subst (All (IsForAnother c.args.meta)) c.as_slice-body-items.ensures all)
