use Rattle.std.proofs.Common.{◌≡◌, option_map, ap, ◌∙◌, arith, rules, [], ◌∷◌, ◌++◌, length}
use Rattle.std.proofs.lemmas.List.{length-append}
use Rattle.wh_text.specs.Erase.{rtm, rtms, rty, rbinder}
use Rattle.wh_text.specs.RawTree.{lam}
use Rattle.wh_system_parts.specs.Erase.{rparts}
use Rattle.wh_read.specs.Held as held
use Rattle.wh_read.specs.Reader as r
use Rattle.wh_read.proofs.HeldLaws.{state_along, state_at, term_under, ended_there}
use Rattle.wh_read.proofs.terms.+term_ended.Goals as goal

pub term_ended-requires : goal.term_ended-requires
term_ended-requires t c =
    let popped : c.args.rule.value.frames.items ≡ c.pop.new.self.items ++ c.in-Some-Body.field-0 ∷ [] = search rules in
    (omega (arith, c.decreases, ap length popped, length-append c.pop.new.self.items (c.in-Some-Body.field-0 ∷ [])), tt)

pub returns-in_ok-new-in-Some-Body : goal.returns-in_ok-new-in-Some-Body
returns-in_ok-new-in-Some-Body t c =
    let parts = rparts c.args.parts.now in
    let there = c.deref_mut.result.now in
    let same : there ≡ c.args.rule.value = search rules in
    let u = held.open_rule there in
    let w = held.frames_in r.no_frames c.pop.new.self.items in
    let x = rbinder c.in-Some-Body.x in
    let a = rty c.in-Some-Body.a.value in
    state_along c.term_ended.result _ _ _
    (ap (λ b. r.term_ended parts (r.with_frames u w) w (lam x a (rtm b) c.in-Some-Body.at) (held.letter c.args.letter)) c.in_ok-new-in-Some-Body.ensures.ok
    ∙ term_under parts u there.frames.items c.pop.new.self.items c.in-Some-Body.field-0 _ (rtm c.args.term) (held.letter c.args.letter) c.in-Some-Body.ensures.items c.in-Some-Body.field-0-is
    ∙ ended_there (rparts c.args.parts.now) there c.args.rule.value (rtm c.args.term) (held.letter c.args.letter) same)
    c.term_ended.ensures

pub returns-in-Some-Paren : goal.returns-in-Some-Paren
returns-in-Some-Paren t c =
    let there = c.deref_mut.result.now in
    let same : there ≡ c.args.rule.value = search rules in
    let u = held.open_rule there in
    let w = held.frames_in r.no_frames c.pop.new.self.items in
    state_at c.paren_ended.result (rparts c.args.parts.now)
    (λ parts. r.term_ended parts (r.with_frames u w) (r.paren (option_map rtm c.in-Some-Paren.before) w) (rtm c.args.term) (held.letter c.args.letter)) _
    (term_under (rparts c.args.parts.now) u there.frames.items c.pop.new.self.items c.in-Some-Paren.field-0 _ (rtm c.args.term) (held.letter c.args.letter) c.in-Some-Paren.ensures.items c.in-Some-Paren.field-0-is
    ∙ ended_there (rparts c.args.parts.now) there c.args.rule.value (rtm c.args.term) (held.letter c.args.letter) same)
    c.paren_ended.ensures

pub returns-in-Some-Bracket : goal.returns-in-Some-Bracket
returns-in-Some-Bracket t c =
    let there = c.deref_mut.result.now in
    let same : there ≡ c.args.rule.value = search rules in
    let u = held.open_rule there in
    let w = held.frames_in r.no_frames c.pop.new.self.items in
    let x = c.in-Some-Bracket.name in
    state_at c.argument_ended.result (rparts c.args.parts.now)
    (λ parts. r.term_ended parts (r.with_frames u w) (r.bracket x.name x.at (rtms c.in-Some-Bracket.args) (option_map rtm c.in-Some-Bracket.before) w) (rtm c.args.term) (held.letter c.args.letter)) _
    (term_under (rparts c.args.parts.now) u there.frames.items c.pop.new.self.items c.in-Some-Bracket.field-0 _ (rtm c.args.term) (held.letter c.args.letter) c.in-Some-Bracket.ensures.items c.in-Some-Bracket.field-0-is
    ∙ ended_there (rparts c.args.parts.now) there c.args.rule.value (rtm c.args.term) (held.letter c.args.letter) same)
    c.argument_ended.ensures
