-- The canonical parts of a system (ours): what its canonical text says. All offsets are 0.
use Rattle.std.specs.Prelude.{ℕ, List, [], ◌∷◌, map}
use Rattle.wh_types.specs.Ty.{Ty}
use Rattle.wh_terms.specs.Typing.{Declared}
use Rattle.wh_terms.specs.Rules.{RewriteRule}
use Rattle.wh_text.specs.RawTree.{RTys, no_types, more_types}
use Rattle.wh_system_parts.specs.Parts.{RName, RFun, RMeta, RRule, RParts}
use Rattle.wh_system.specs.Systems.{SystemData}
use Rattle.wh_system.specs.Canonical.{Names, raw_type_of, raw_of}

abbrev pub raw_name : List ℕ → RName
raw_name n = record { name = n; at = 0 }

-- each type in canonical form
abbrev pub raw_types_of : List (List ℕ) → List Ty → RTys
raw_types_of sorts [] = no_types
raw_types_of sorts (a ∷ as_well) = more_types (raw_type_of sorts a) (raw_types_of sorts as_well)

-- each symbol with its name and its type
abbrev pub raw_funs_of : List (List ℕ) → List (List ℕ) → List Ty → List RFun
raw_funs_of sorts (n ∷ ns) (a ∷ as_well) = record { name = raw_name n; kind = raw_type_of sorts a } ∷ raw_funs_of sorts ns as_well
raw_funs_of sorts _ _ = []

-- each meta-variable with its name and its types
abbrev pub raw_metas_of : List (List ℕ) → List (List ℕ) → List Declared → List RMeta
raw_metas_of sorts (n ∷ ns) (d ∷ ds) = record { name = raw_name n; args = raw_types_of sorts d.args; out = raw_type_of sorts d.out }
    ∷ raw_metas_of sorts ns ds
raw_metas_of sorts _ _ = []

-- a rule, whose meta-variables have these names
abbrev pub raw_rule_of : SystemData → List (List ℕ) → RewriteRule → RRule
raw_rule_of d metas r =
    let n : Names = record { sorts = d.sort_names; funs = d.fun_names; metas = metas } in
    record { metas = raw_metas_of d.sort_names metas r.metas; left = raw_of n r.left; right = raw_of n r.right; at = 0 }

abbrev pub raw_rules_of : SystemData → List (List (List ℕ)) → List RewriteRule → List RRule
raw_rules_of d (metas ∷ others) (r ∷ rs) = raw_rule_of d metas r ∷ raw_rules_of d others rs
raw_rules_of d _ _ = []

abbrev pub canonical : SystemData → RParts
canonical d = record {
  sorts = map raw_name d.sort_names;
  funs = raw_funs_of d.sort_names d.fun_names d.symbols.funs;
  rules = raw_rules_of d d.meta_names d.rules;
}
