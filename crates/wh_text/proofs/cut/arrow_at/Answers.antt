use Rattle.std.proofs.Common.{◌+◌, sym, subst, inl, inr}
use Rattle.wh_text.specs.Pieces.{StandsAt}
use Rattle.wh_text.proofs.CutLemmas.{arrow_stands, arrow_fault, no_head}
use Rattle.wh_text.proofs.cut.arrow_at.Goals as goal
use Rattle.wh_text.proofs.cut.arrow_at.Goals.{else-at-bytes-via-then-at-bytes+else-bytes-at-eq62, else-at-bytes-via-else-at-bytes}

pub returns-then-bytes-at-eq62 : goal.returns-then-bytes-at-eq62
returns-then-bytes-at-eq62 c =
    subst (StandsAt c.args.bytes.now c.args.at) (sym c.token_of.ensures) (arrow_stands c.args.bytes.now c.args.at c.if-at-bytes.true c.requires.first c.if-bytes-at-eq62.true)

pub returns : goal.returns
returns c =
    let text = c.args.bytes.now in
    elim c.else-at-bytes.branch [
      | else-at-bytes-via-then-at-bytes+else-bytes-at-eq62 w ↦ arrow_fault text c.args.at c.requires.room c.requires.first (no_head text (c.args.at + 1) (inr w.if-bytes-at-eq62.false))
      | else-at-bytes-via-else-at-bytes w ↦ arrow_fault text c.args.at c.requires.room c.requires.first (no_head text (c.args.at + 1) (inl w.if-at-bytes.false))
    ]
