use Rattle.std.proofs.Common.{◌≡◌, ◌++◌, length, take, drop, ap, ap₂, sym, ◌∙◌, arith, get_or}
use Rattle.std.proofs.lemmas.List.{length-map}
use Rattle.wh_types.specs.Ty.{sort, arguments}
use Rattle.wh_types.specs.Erase.{ty, tys}
use Rattle.wh_terms.specs.Erase.{tm}
use Rattle.wh_terms.specs.Kinds.{kinds_of}
use Rattle.wh_pairs_calls.specs.Views.{trees}
use Rattle.wh_pairs_making.proofs.CandidateLemmas.{missing_next, missing_all, tys_get, kinds-scope}
use Rattle.wh_pairs_making.proofs.candidate.fresh_kinds.Goals as goal

pub loop-place-preserved : goal.loop-place-preserved
loop-place-preserved c = (
  missing_next (arguments (ty c.index-as_slice-call.result)) (kinds_of c.args.call.now.binders.items) c.in_ok-given.given c.loop-place.place c.loop-place.kinds.items c.push.new.self.items c.argument.result
      (omega arith) c.argument.ensures c.loop-place.invariant.0 c.in_ok-push.ensures.items,
  omega arith,
)

pub returns : goal.returns
returns c =
    let call = c.args.call.now in
    let funs = c.args.signature.now.funs in
    let g : c.in_ok-given.given ≡ length (trees call.arguments.items) = omega (arith, c.in_ok-given.ensures, c.len.ensures, length-map call.arguments.items (λ t. tm t.now)) in
    let at : ty c.index-as_slice-call.result ≡ get_or (tys funs) call.symbol (sort 0) =
    tys_get c.as_slice-2.result.now call.symbol c.index-as_slice-call.result (omega (arith, c.requires.known, ap length c.as_slice-2.ensures, length-map funs ty)) c.index-as_slice-call.is
    ∙ ap (λ xs. get_or (tys xs) call.symbol (sort 0)) c.as_slice-2.ensures in
    c.loop-place.invariant.0
    ∙ ap₂ (λ bs kinds. bs ++ kinds) (sym (kinds-scope call.binders.items))
    (missing_all (arguments (ty c.index-as_slice-call.result)) c.in_ok-given.given c.loop-place.place call.need (omega arith) (omega arith) c.loop-place.invariant.1
    ∙ ap₂ (λ n a. drop n (take call.need (arguments a))) g at)
