-- The parts of a system text as trees: what a value of the program stands for, without pointers.
use Rattle.std.specs.Prelude.{map}
use Rattle.wh_text.specs.Erase.{rty, rtys, rtm}
use Rattle.wh_system_parts.specs.Parts.{RName, RFun, RMeta, RRule, RParts}
use Rattle.wh_system_parts.specs.declared.parts.RawName.{RawName}
use Rattle.wh_system_parts.specs.declared.parts.RawFun.{RawFun}
use Rattle.wh_system_parts.specs.declared.parts.RawMeta.{RawMeta}
use Rattle.wh_system_parts.specs.declared.parts.RawRule.{RawRule}
use Rattle.wh_system_parts.specs.declared.parts.Parts as code

abbrev pub rname : RawName → RName
rname n = record { name = n.name; at = n.at }

abbrev pub rfun : RawFun → RFun
rfun f = record { name = rname f.name; kind = rty f.kind }

abbrev pub rmeta : RawMeta → RMeta
rmeta m = record { name = rname m.name; args = rtys m.args; out = rty m.result }

abbrev pub rrule : RawRule → RRule
rrule r = record { metas = map rmeta r.metas; left = rtm r.left; right = rtm r.right; at = r.at }

abbrev pub rparts : code.Parts → RParts
rparts p = record { sorts = map rname p.sorts; funs = map rfun p.funs; rules = map rrule p.rules }
