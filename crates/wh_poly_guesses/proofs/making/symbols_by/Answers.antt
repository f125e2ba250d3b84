use Rattle.std.proofs.Common.{◌++◌, ◌∷◌, [], map, ap, ap₂, sym, ◌∙◌}
use Rattle.wh_types.specs.Erase.{ty, tys}
use Rattle.wh_types.specs.Ty.{arguments}
use Rattle.wh_poly_guesses.specs.Reads.{IsReadBy, list_of}
use Rattle.wh_poly_space.proofs.PushLemmas.{map_push, each_push}
use Rattle.wh_poly_space.proofs.CountLemmas.{pushed_one}
use Rattle.wh_poly_guesses.proofs.ReadLemmas.{read_as, taken_map}
use Rattle.wh_poly_guesses.proofs.making.symbols_by.Goals as goal

pub loop-i-preserved : goal.loop-i-preserved
loop-i-preserved c =
    let at = list_of (map (λ l. l.items) c.args.lists.now) in
    let symbols = c.loop-i.symbols.items in
    let scope = ap tys c.deref.ensures.value ∙ c.in_ok-scope.ensures ∙ ap arguments (sym c.in_ok-copy.ensures) in
    record {
      count = pushed_one symbols c.push.new.self.items c.loop-i.i _ c.in_ok-push.ensures.items c.loop-i.invariant.count;
      kinds = map_push (λ s. ty s.kind) symbols c.push.new.self.items _ c.in_ok-push.ensures.items
          ∙ ap₂ (λ l k. l ++ k ∷ []) c.loop-i.invariant.kinds c.in_ok-copy.ensures
          ∙ sym (taken_map ty c.args.kinds.now c.loop-i.i c.index-kinds-i.result c.loop-i-test.true c.index-kinds-i.is);
      read = each_push (λ f s. IsReadBy (at f) s) symbols c.push.new.self.items _ c.in_ok-push.ensures.items c.loop-i.invariant.read
          (read_as _ _ _ _ _ c.in_ok-poly.ensures scope (c.list_at.ensures ∙ ap at (sym c.loop-i.invariant.count)));
    }
