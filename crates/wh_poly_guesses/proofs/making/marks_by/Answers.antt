use Rattle.std.proofs.Common.{◌≡◌, ◌+◌, ◌++◌, ◌∷◌, [], length, map, get_or, ap, sym, ◌∙◌, arith}
use Rattle.std.proofs.lemmas.List.{take_more}
use Rattle.wh_types.specs.Erase.{tys}
use Rattle.wh_system.specs.SystemView.{system_data}
use Rattle.wh_poly_guesses.specs.Reads.{IsMarkBy, list_of}
use Rattle.wh_poly_space.proofs.PushLemmas.{map_push, each_push}
use Rattle.wh_poly_space.proofs.CountLemmas.{pushed_one}
use Rattle.wh_poly_guesses.proofs.ReadLemmas.{read_as}
use Rattle.wh_poly_guesses.proofs.making.marks_by.Goals as goal

pub loop-i-preserved : goal.loop-i-preserved
loop-i-preserved c =
    let d = system_data c.args.system.now in
    let at = list_of (map (λ l. l.items) c.args.lists.now) in
    let numbers = c.args.numbers.now in
    let marks = c.loop-i.marks.items in
    let i = c.loop-i.i in
    let first = c.args.first in
    let f = get_or numbers i 0 in
    let scope = ap tys c.deref.ensures.value ∙ c.in_ok-scope.ensures in
    let place : first + i ≡ first + length marks = omega (arith, c.loop-i.invariant.count) in
    record {
      count = pushed_one marks c.push.new.self.items i _ c.in_ok-push.ensures.items c.loop-i.invariant.count;
      symbols = map_push (λ m. m.symbol) marks c.push.new.self.items _ c.in_ok-push.ensures.items
          ∙ ap (λ l. l ++ f ∷ []) c.loop-i.invariant.symbols ∙ sym (take_more numbers i 0 c.loop-i-test.true);
      read = each_push (λ i m. IsMarkBy d.symbols d.rules (at (first + i)) m) marks c.push.new.self.items _ c.in_ok-push.ensures.items c.loop-i.invariant.read
          (read_as _ _ _ _ _ c.in_ok-poly.ensures scope (c.list_at.ensures ∙ ap at place));
    }
