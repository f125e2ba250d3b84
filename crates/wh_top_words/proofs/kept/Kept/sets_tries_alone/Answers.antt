use Rattle.std.proofs.lemmas.Bool.{false≢true}
use Rattle.std.proofs.Common.{◌≡◌, sym, true, false, None}
use Rattle.wh_top_words.specs.Kept.{SetsTriesAlone}
use Rattle.wh_top_words.proofs.Keeping.{last_tells, one_tells, none_where}
use Rattle.wh_top_words.proofs.kept.Kept.sets_tries_alone.Goals as goal
use Rattle.wh_top_words.proofs.kept.Kept.sets_tries_alone.Goals.{then-is_none, else-is_none}

pub returns-then-is_none-2 : goal.returns-then-is_none-2
returns-then-is_none-2 c =
    let two : (c.args.self.now.depth ≡ None) × (c.args.self.now.visited ≡ None) = elim c.if-is_none.branch [
      | then-is_none w ↦
          let both : w.is_none-then-is_none.result ≡ true = cc in
          (none_where _ _ c.is_none.ensures w.if-is_none.true, none_where _ _ w.is_none-then-is_none.ensures both)
      | else-is_none w ↦ let e : true ≡ false = cc in absurd (false≢true (sym e))
    ] in
    last_tells (SetsTriesAlone c.args.self.now) c.args.self.now.steps _ c.is_none-then-is_none-2.ensures
    (λ none. record { depth = two.0; visited = two.1; steps = none }) (λ no. no.steps)

pub returns-else-is_none-2 : goal.returns-else-is_none-2
returns-else-is_none-2 c = elim c.if-is_none.branch [
  | then-is_none w ↦
      let one : w.is_none-then-is_none.result ≡ false = cc in
      one_tells (SetsTriesAlone c.args.self.now) c.args.self.now.visited _ _ c.if-is_none-2.false w.is_none-then-is_none.ensures one (λ no. no.visited)
  | else-is_none w ↦
      one_tells (SetsTriesAlone c.args.self.now) c.args.self.now.depth _ _ c.if-is_none-2.false c.is_none.ensures w.if-is_none.false (λ no. no.depth)
]
