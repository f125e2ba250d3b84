-- Raw trees and parts without their offsets (ours): each offset is 0.
use Rattle.std.specs.Prelude.{map}
use Rattle.wh_text.specs.RawTree.{RTy, raw_type, RTys, no_types, more_types, RTm, named, numbered, free_variable, meta, lam, spine, RTms, none, more}
use Rattle.wh_system_parts.specs.Parts.{RName, RFun, RMeta, RRule, RParts}

abbrev mutual
  pub unplaced_type : RTy → RTy
  unplaced_type (raw_type args s at) = raw_type (unplaced_types args) s 0

  pub unplaced_types : RTys → RTys
  unplaced_types no_types = no_types
  unplaced_types (more_types a as_well) = more_types (unplaced_type a) (unplaced_types as_well)

abbrev mutual
  pub unplaced_term : RTm → RTm
  unplaced_term (named n at) = named n 0
  unplaced_term (numbered k at) = numbered k 0
  unplaced_term (free_variable k a at) = free_variable k (unplaced_type a) 0
  unplaced_term (meta n ts at) = meta n (unplaced_terms ts) 0
  unplaced_term (lam x a t at) = lam x (unplaced_type a) (unplaced_term t) 0
  unplaced_term (spine h ts at) = spine (unplaced_term h) (unplaced_terms ts) 0

  pub unplaced_terms : RTms → RTms
  unplaced_terms none = none
  unplaced_terms (more t ts) = more (unplaced_term t) (unplaced_terms ts)

abbrev pub unplaced_name : RName → RName
unplaced_name n = record { name = n.name; at = 0 }

abbrev pub unplaced_fun : RFun → RFun
unplaced_fun f = record { name = unplaced_name f.name; kind = unplaced_type f.kind }

abbrev pub unplaced_meta : RMeta → RMeta
unplaced_meta m = record { name = unplaced_name m.name; args = unplaced_types m.args; out = unplaced_type m.out }

abbrev pub unplaced_rule : RRule → RRule
unplaced_rule r = record { metas = map unplaced_meta r.metas; left = unplaced_term r.left; right = unplaced_term r.right; at = 0 }

abbrev pub unplaced : RParts → RParts
unplaced p = record { sorts = map unplaced_name p.sorts; funs = map unplaced_fun p.funs; rules = map unplaced_rule p.rules }
