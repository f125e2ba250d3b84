use Rattle.std.proofs.Common.{◌∙◌, ◌≡◌, ◌+◌, ◌≤◌, length, take, Ok, sym, ap, subst, length-append, arith}
use Rattle.std.proofs.lemmas.List.{length-take-le, take_all}
use Rattle.wh_io.specs.Pieces.{Advances, GivesPiece}
use Rattle.wh_io.specs.declared.next.Next.{Next}
use Rattle.wh_io.proofs.Fronts.{longer_front}
use Rattle.wh_io.proofs.read.read_whole.Goals as goal

pub loop-buffer-preserved : goal.loop-buffer-preserved
loop-buffer-preserved g c =
    let inv = c.loop-buffer.invariant in
    let count = c.in-Bytes.count in
    let into = c.next.new.into in
    let given = c.loop-buffer.pieces.given in
    let moved = subst (λ (next : Next). Advances c.loop-buffer.pieces c.next.new.self (length c.deref_mut.result.now) (Ok next)) c.in-Bytes.is (c.in_ok-count.ensures.moves inv.running) in
    let now : c.next.new.self.given ≡ given + count = ap (λ pieces. pieces.given) moved.3 in
    let joined = c.in_ok-append-in-Bytes.ensures.ok in
    record {
      limit = ap (λ pieces. pieces.limit) moved.3 ∙ inv.limit;
      counted = omega (arith, now, inv.counted, simp length-append at (ap length joined), length-take-le count into (omega (arith, moved.1)));
      short = omega (arith, now, moved.2, inv.limit);
      running = ap (λ pieces. pieces.ended) moved.3 ∙ inv.running;
      front = λ file told.
          let piece = subst (λ (next : Next). GivesPiece file c.loop-buffer.pieces.limit given into (Ok next)) c.in-Bytes.is (c.in_ok-count.ensures.piece inv.running file (inv.kept c.args.name.now ∙ told)) in
          joined ∙ longer_front file c.loop-buffer.bytes into given count (inv.front file told) piece.0 ∙ ap (λ k. take k file) (sym now);
      kept = λ other. c.next.ensures.kept other ∙ inv.kept other;
      same = c.in_ok-count.ensures.cause inv.running ∙ inv.same;
      later = λ other. omega (arith, inv.later other, c.next.ensures.later other);
      piece = omega arith;
    }

pub returns-in-End-clause-whole : goal.returns-in-End-clause-whole
returns-in-End-clause-whole g c = λ file told.
    let inv = c.loop-buffer.invariant in
    let given = c.loop-buffer.pieces.given in
    let ended : length file ≤ given = subst (λ (next : Next). GivesPiece file c.loop-buffer.pieces.limit given c.next.new.into (Ok next)) c.in-End.is (c.in_ok-count.ensures.piece inv.running file (inv.kept c.args.name.now ∙ told)) in
    (inv.front file told ∙ take_all given file ended, omega (arith, ended, inv.short))
