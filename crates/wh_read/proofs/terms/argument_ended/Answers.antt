use Rattle.std.proofs.Common.{None, option_map, ap, sym, ◌∙◌}
use Rattle.wh_text.specs.RawTree.{meta}
use Rattle.wh_text.specs.Erase.{rtm, rtms}
use Rattle.wh_text.proofs.RawLemmas.{rtm_meta}
use Rattle.wh_read.specs.Held as held
use Rattle.wh_read.specs.Reader as r
use Rattle.wh_read.proofs.HeldLaws.{terms_grow}
use Rattle.wh_read.proofs.terms.argument_ended.Goals as goal

pub returns-in_ok-behind-in-Comma : goal.returns-in_ok-behind-in-Comma
returns-in_ok-behind-in-Comma c =
    let u = held.rule c.args.rule in
    let x = c.args.name in
    let before = option_map rtm c.args.before in
    let args = rtms c.args.args in
    λ parts. ap (r.inside parts) c.in_ok-behind-in-Comma.ensures
    ∙ ap (λ ts. r.inside parts (r.want_atom (r.with_frames u (r.bracket x.name x.at ts before u.frames)) None)) (terms_grow c.args.args c.push.new.self c.args.term c.in_ok-push.ensures.ok)
    ∙ sym (ap (λ l. r.term_ended parts u (r.bracket x.name x.at args before u.frames) (rtm c.args.term) (held.letter l)) c.in-Comma.is)

pub returns-in_ok-behind-in-CloseBracket : goal.returns-in_ok-behind-in-CloseBracket
returns-in_ok-behind-in-CloseBracket c =
    let u = held.rule c.args.rule in
    let x = c.args.name in
    let before = option_map rtm c.args.before in
    let args = rtms c.args.args in
    λ parts. ap (r.inside parts) c.in_ok-behind-in-CloseBracket.ensures
    ∙ ap (λ t. r.inside parts (r.want_atom u (r.next before t))) (rtm_meta x.name c.push.new.self x.at ∙ ap (λ ts. meta x.name ts x.at) (terms_grow c.args.args c.push.new.self c.args.term c.in_ok-push.ensures.ok))
    ∙ sym (ap (λ l. r.term_ended parts u (r.bracket x.name x.at args before u.frames) (rtm c.args.term) (held.letter l)) c.in-CloseBracket.is)
