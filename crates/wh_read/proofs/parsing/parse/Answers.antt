use Rattle.wh_text.specs.declared.token.TokenKind.TheVariants.{Name}
use Rattle.wh_text.specs.declared.token.Token.{Token}
use Rattle.wh_system_parts.specs.Erase.{rparts}
use Rattle.wh_system_parts.specs.declared.parts.Parts.{Parts}
use Rattle.wh_read.specs.declared.place.Place.{Place}
use Rattle.wh_read.specs.Spelled.{placed}
use Rattle.wh_read.specs.Parsing.{Parses}
use Rattle.wh_read.specs.SyntaxFaults.{letters, HasSyntaxFault}
use Rattle.wh_text.specs.Erase.{token as cut_token}
use Rattle.wh_read.specs.Held as held
use Rattle.wh_read.specs.Reader as r
use Rattle.wh_read.proofs.CutTokens.{stands_there}
use Rattle.wh_read.proofs.Steps.{one_more, stops_there, reads_parts, ends_there, fault_up}
use Rattle.std.proofs.Common.{◌≡◌, get_or, length, refl, sym, ◌∙◌, true≢false, arith}
use Rattle.wh_read.proofs.parsing.parse.Goals as goal

-- what an index past the tokens gives
abbrev none : Token
none = record { kind = Name; from = 0; to = 0 }

pub read_token-requires-clause-ordered : goal.read_token-requires-clause-ordered
read_token-requires-clause-ordered c = (stands_there c.args.text.now c.args.tokens.now c.loop-token.token-index none c.requires.cut c.loop-token-test.true).ordered

pub read_token-requires-clause-within : goal.read_token-requires-clause-within
read_token-requires-clause-within c = (stands_there c.args.text.now c.args.tokens.now c.loop-token.token-index none c.requires.cut c.loop-token-test.true).within

pub read_token-requires-clause-word : goal.read_token-requires-clause-word
read_token-requires-clause-word c = (stands_there c.args.text.now c.args.tokens.now c.loop-token.token-index none c.requires.cut c.loop-token-test.true).word

pub returns-in_err-place : goal.returns-in_err-place
returns-in_err-place c =
    let text = c.args.text.now in
    let ts = c.args.tokens.now in
    let i = c.loop-token.token-index in
    let p = rparts c.loop-token.parts in
    let q = held.place c.loop-token.place in
    fault_up Place Parts c.from_residual.result c.in_err-place.field-0.0
    (λ (parts : Parts). Parses (letters text ts) (rparts parts))
    (λ fault. r.step (r.inside p q) (placed (cut_token text (get_or ts i none))) ≡ held.stopped fault)
    (λ fault. held.fault_offset fault ≡ (get_or ts i none).from)
    (HasSyntaxFault (letters text ts) (length text))
    c.from_residual.ensures.1
    (λ fault. stops_there text ts i none p q fault c.loop-token-test.true c.loop-token.invariant)
    c.in_err-place.ensures.stops c.in_err-place.ensures.stops_at

pub loop-token-preserved : goal.loop-token-preserved
loop-token-preserved c =
    one_more c.args.text.now c.args.tokens.now c.loop-token.token-index none _ _ c.loop-token-test.true c.loop-token.invariant c.in_ok-place.ensures.goes_on

pub returns-then-ended : goal.returns-then-ended
returns-then-ended c =
    reads_parts c.args.text.now c.args.tokens.now c.loop-token.token-index (rparts c.loop-token.parts) (held.place c.loop-token.place) (omega (arith, c.loop-token-test.false)) c.loop-token.invariant (c.ended.ensures.0 c.if-ended.true)

pub returns-else-ended : goal.returns-else-ended
returns-else-ended c =
    ends_there c.args.text.now c.args.tokens.now c.loop-token.token-index (rparts c.loop-token.parts) (held.place c.loop-token.place) (length c.args.text.now) (omega (arith, c.loop-token-test.false)) c.loop-token.invariant (λ h. true≢false (sym (c.ended.ensures.1 h) ∙ c.if-ended.false)) refl
