use Rattle.std.proofs.Common.{◌≡◌, ◌-◌, ◌++◌, length, take, drop, sym, ap, ◌∙◌, subst, arith, append_assoc}
use Rattle.std.proofs.Math.Seq.{take-add}
use Rattle.std.proofs.lemmas.List.{length-append, length-drop, length-take-le, take_all}
use Rattle.wh_cert_text.specs.Gathering.{HasRead}
use Rattle.wh_cert_text.proofs.reading.Reading.take_all.Goals as goal

pub loop-at-preserved : goal.loop-at-preserved
loop-at-preserved c =
    let piece = c.args.piece.now in
    let at = c.loop-at.at in
    let rest = take (length piece - at) (drop at piece) in
    let whole : rest ≡ drop at piece = take_all (length piece - at) (drop at piece) (omega (arith, length-drop at piece)) in
    let long : length rest ≡ length piece - at = ap length whole ∙ length-drop at piece in (
      omega (arith, c.in_ok-at.ensures.count.1, long, c.loop-at.invariant.0),
      λ bytes has short.
          subst (HasRead c.take.new.self)
          (append_assoc bytes (take at piece) (take c.in_ok-at.field-0 rest)
          ∙ ap (λ v. bytes ++ v) (ap (λ v. take at piece ++ take c.in_ok-at.field-0 v) whole ∙ sym (take-add at c.in_ok-at.field-0 piece)))
          (c.in_ok-at.ensures.read (bytes ++ take at piece) (c.loop-at.invariant.1 bytes has short)
          (omega (arith, length-append bytes (take at piece), length-take-le at piece c.loop-at.invariant.0, long, short, c.loop-at.invariant.0))),
    )
