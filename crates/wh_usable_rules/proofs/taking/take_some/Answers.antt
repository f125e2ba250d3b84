use Rattle.std.proofs.Common.{◌+◌, ◌<◌, Bool, List, length, sym, subst, arith}
use Rattle.wh_terms.specs.Erase.{rewrite_rule, rewrite_rules}
use Rattle.wh_pairs.proofs.ByPlace.{read_map}
use Rattle.wh_usable_rules.specs.Taken.{IsPass}
use Rattle.wh_usable_rules.proofs.Takings.{fewer_open, pass_first, pass_left, pass_taken, takes_one}
use Rattle.wh_usable_rules.proofs.taking.take_some.Goals.{then-not-says+then-calls_head, else-not-says, else-not-says-via-then-not-says+else-calls_head, else-not-says-via-else-not-says}
use Rattle.wh_usable_rules.proofs.taking.take_some.Goals as goal

pub loop-number-init : goal.loop-number-init
loop-number-init c = pass_first (rewrite_rules c.args.rules.now) c.args.called.now c.args.taken.now

pub loop-number-preserved : goal.loop-number-preserved
loop-number-preserved c =
    let rules = c.args.rules.now in
    let rs = rewrite_rules rules in
    let i = c.loop-number.number in
    let r = rewrite_rule c.index-rules-number.result in
    let at = read_map rewrite_rule rules i c.index-rules-number.result c.loop-number-test.true c.index-rules-number.is in
    let c0 : List Bool = c.args.called.now in
    let t0 : List Bool = c.args.taken.now in
    let c1 : List Bool = c.loop-number.called in
    let t1 : List Bool = c.loop-number.taken in
    let IsNext : List Bool → List Bool → Bool → Type 0 = λ called taken some. IsPass rs c0 t0 called taken (i + 1) some in
    elim c.if-not-says.branch [
      | then-not-says+then-calls_head w ↦
          let (g, heads, says) = w.calls_head.ensures.0 w.if-calls_head.true in
          let c2 : List Bool = w.call_symbols.new.called in
          let t2 : List Bool = w.enter.new.table in
          let within : i < length t1 = omega (arith, c.requires, c.loop-number.auto.taken, c.loop-number-test.true) in
          let less = fewer_open t1 t2 i within (λ said. cc (w.if-not-says.true, c.says.ensures.1 said)) w.enter.ensures in
          let next = pass_taken rs c0 t0 c1 t1 c2 t2 i c.loop-number.some c.loop-number.invariant
          (takes_one rs c1 t1 c2 t2 i g r at heads says w.enter.ensures w.call_symbols.ensures) less in
          subst (λ (l : List Bool). IsNext l c.if-not-says.taken c.if-not-says.some) (sym w.called-is)
          (subst (λ (l : List Bool). IsNext c2 l c.if-not-says.some) (sym w.taken-is)
          (subst (λ (b : Bool). IsNext c2 t2 b) (sym w.some-is) next))
      | else-not-says w ↦
          let next = pass_left rs c0 t0 c1 t1 i c.loop-number.some r at (λ f heads says. elim w.else-not-says.branch [
            | else-not-says-via-then-not-says+else-calls_head v ↦ absurd (cc (v.if-calls_head.false, v.calls_head.ensures.1 (f, heads, says)))
            | else-not-says-via-else-not-says v ↦ c.says.ensures.0 v.if-not-says.false
          ]) c.loop-number.invariant in
          subst (λ (l : List Bool). IsNext l c.if-not-says.taken c.if-not-says.some) (sym w.called-is)
          (subst (λ (l : List Bool). IsNext c1 l c.if-not-says.some) (sym w.taken-is)
          (subst (λ (b : Bool). IsNext c1 t1 b) (sym w.some-is) next))
    ]
