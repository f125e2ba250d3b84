use Rattle.std.proofs.Common.{◌∙◌}
use Rattle.wh_text.specs.RawTree.{named}
use Rattle.wh_system_parts.specs.Erase.{rparts}
use Rattle.wh_read.specs.Held as held
use Rattle.wh_read.specs.Reader as r
use Rattle.wh_read.proofs.HeldLaws.{state_along, no_application, atom_after}
use Rattle.wh_read.proofs.terms.behind_name.Goals as goal

pub returns-in_ok-behind-in_default : goal.returns-in_ok-behind-in_default
returns-in_ok-behind-in_default c =
    let parts = rparts c.args.parts.now in
    let u = held.rule c.args.rule in
    let before = held.spine_of c.args.rule in
    let behind = c.in_ok-behind-in_default.behind in
    let l = c.args.letter in
    state_along c.at_atom.result (rparts c.at_atom.new.parts) (r.at_atom parts (held.rule behind) (held.spine_of behind) (held.letter l) c.args.at) _
    (atom_after parts (held.rule behind) u (held.spine_of behind) (r.next before (named c.args.name.name c.args.name.at)) (held.letter l) c.args.at c.in_ok-behind-in_default.ensures
    ∙ no_application parts u before c.args.name.name c.args.name.at l c.args.at c.in_default.not-OpenBracket)
    c.at_atom.ensures
