use Rattle.std.proofs.lemmas.Bool.{false≢true}
use Rattle.std.proofs.Common.{◌≡◌, sym, true, false, None}
use Rattle.wh_top_words.specs.Kept.{SetsNoBounds}
use Rattle.wh_top_words.proofs.Keeping.{last_tells, one_tells, none_where}
use Rattle.wh_top_words.proofs.kept.Kept.sets_no_bounds.Goals as goal
use Rattle.wh_top_words.proofs.kept.Kept.sets_no_bounds.Goals.{then-is_none, else-is_none}

pub returns-then-is_none-2 : goal.returns-then-is_none-2
returns-then-is_none-2 c =
    let two : (c.args.self.now.tries ≡ None) × (c.args.self.now.depth ≡ None) = elim c.if-is_none.branch [
      | then-is_none w ↦
          let both : w.is_none-then-is_none.result ≡ true = cc in
          (none_where _ _ c.is_none.ensures w.if-is_none.true, none_where _ _ w.is_none-then-is_none.ensures both)
      | else-is_none w ↦ let e : true ≡ false = cc in absurd (false≢true (sym e))
    ] in
    last_tells (SetsNoBounds c.args.self.now) c.args.self.now.visited _ c.is_none-then-is_none-2.ensures
    (λ none. record { tries = two.0; depth = two.1; visited = none }) (λ no. no.visited)

pub returns-else-is_none-2 : goal.returns-else-is_none-2
returns-else-is_none-2 c = elim c.if-is_none.branch [
  | then-is_none w ↦
      let one : w.is_none-then-is_none.result ≡ false = cc in
      one_tells (SetsNoBounds c.args.self.now) c.args.self.now.depth _ _ c.if-is_none-2.false w.is_none-then-is_none.ensures one (λ no. no.depth)
  | else-is_none w ↦
      one_tells (SetsNoBounds c.args.self.now) c.args.self.now.tries _ _ c.if-is_none-2.false c.is_none.ensures w.if-is_none.false (λ no. no.tries)
]
