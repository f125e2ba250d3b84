-- The generated systems as a text says them (ours): raw trees and parts, with all places 0. These are the canonical
-- parts of `gen_data`.
use Rattle.std.specs.Prelude.{ℕ, zero, suc, List, [], ◌∷◌, ◌++◌, map, codes}
use Rattle.std.specs.List.{flat_map, range_with_len}
use Rattle.wh_text.specs.RawTree.{RTy, raw_type, RTys, no_types, more_types, numbered_binder, RTm, named, numbered, meta, lam, spine, RTms, none, more}
use Rattle.wh_system_parts.specs.Parts.{RFun, RMeta, RRule, RParts}
use Rattle.wh_system_making.specs.CanonicalParts.{raw_name}
use Rattle.wh_gen.specs.Family.{sort_names, map_name}

-- types

-- `nat`
abbrev pub raw_nat : RTy
raw_nat = raw_type no_types (codes "nat") 0

-- `list`
abbrev pub raw_list : RTy
raw_list = raw_type no_types (codes "list") 0

-- `nat -> nat`
abbrev pub raw_step : RTy
raw_step = raw_type (more_types raw_nat no_types) (codes "nat") 0

-- from the type and `list` to `list`
abbrev pub raw_onto_lists : RTy → RTy
raw_onto_lists a = raw_type (more_types a (more_types raw_list no_types)) (codes "list") 0

-- terms

-- a plain name: a symbol, or a meta-variable without arguments
abbrev pub raw_plain : List ℕ → RTm
raw_plain name = named name 0

-- `F[t]`
abbrev pub raw_image : RTm → RTm
raw_image t = meta (codes "F") (more t none) 0

-- `\x:nat.F[x]`, with a number for its binder
abbrev pub raw_mapped : RTm
raw_mapped = lam (numbered_binder 0) raw_nat (raw_image (numbered 0 0)) 0

-- a symbol with its arguments
abbrev pub raw_call : List ℕ → RTms → RTm
raw_call name ts = spine (raw_plain name) ts 0

-- the function of that name of `\x:nat.F[x]` and a list
abbrev pub raw_map_of : List ℕ → RTm → RTm
raw_map_of name xs = raw_call name (more raw_mapped (more xs none))

-- the list with a head and a tail
abbrev pub raw_cons : RTm → RTm → RTm
raw_cons x xs = raw_call (codes "cons") (more x (more xs none))

-- `X`
abbrev pub raw_x : RTm
raw_x = raw_plain (codes "X")

-- `Y`
abbrev pub raw_y : RTm
raw_y = raw_plain (codes "Y")

-- `F[X]`
abbrev pub raw_mapped_head : RTm
raw_mapped_head = raw_image raw_x

-- what the function of that name gives of `Y`
abbrev pub raw_mapped_tail : List ℕ → RTm
raw_mapped_tail name = raw_map_of name raw_y

-- that list with `F[X]` before it
abbrev pub raw_mapped_list : List ℕ → RTm
raw_mapped_list name = raw_cons raw_mapped_head (raw_mapped_tail name)

-- what a function gives of `cons X Y`
abbrev pub raw_second_right : ℕ → RTm
raw_second_right zero = raw_mapped_list (map_name zero)
raw_second_right (suc j) = raw_map_of (map_name j) (raw_mapped_list (map_name (suc j)))

-- the left side of a first rule
abbrev pub raw_first_left : List ℕ → RTm
raw_first_left name = raw_map_of name (raw_plain (codes "nil"))

-- `cons X Y`
abbrev pub raw_any_list : RTm
raw_any_list = raw_cons raw_x raw_y

-- the left side of a second rule
abbrev pub raw_second_left : List ℕ → RTm
raw_second_left name = raw_map_of name raw_any_list

-- declarations and rules

-- a declared symbol
abbrev pub raw_fun : List ℕ → RTy → RFun
raw_fun name kind = record { name = raw_name name; kind = kind }

-- a declared meta-variable
abbrev pub raw_meta : List ℕ → RTys → RTy → RMeta
raw_meta name args out = record { name = raw_name name; args = args; out = out }

-- `F : [nat] nat`
abbrev pub raw_f : RMeta
raw_f = raw_meta (codes "F") (more_types raw_nat no_types) raw_nat

-- `X : nat`
abbrev pub raw_x_meta : RMeta
raw_x_meta = raw_meta (codes "X") no_types raw_nat

-- `Y : list`
abbrev pub raw_y_meta : RMeta
raw_y_meta = raw_meta (codes "Y") no_types raw_list

-- the first rule of the function number i
abbrev pub raw_first_rule : ℕ → RRule
raw_first_rule i = record {
  metas = raw_f ∷ [];
  left = raw_first_left (map_name i);
  right = raw_plain (codes "nil");
  at = 0;
}

-- the second rule of the function number i
abbrev pub raw_second_rule : ℕ → RRule
raw_second_rule i = record {
  metas = raw_f ∷ raw_x_meta ∷ raw_y_meta ∷ [];
  left = raw_second_left (map_name i);
  right = raw_second_right i;
  at = 0;
}

-- the symbols before the functions
abbrev pub raw_base : List RFun
raw_base = raw_fun (codes "zero") raw_nat ∷ raw_fun (codes "s") raw_step ∷ raw_fun (codes "nil") raw_list
    ∷ raw_fun (codes "cons") (raw_onto_lists raw_nat) ∷ []

-- the function number i
abbrev pub raw_map_fun : ℕ → RFun
raw_map_fun i = raw_fun (map_name i) (raw_onto_lists raw_step)

-- the rules of the function number i
abbrev pub raw_rules_of_map : ℕ → List RRule
raw_rules_of_map i = raw_first_rule i ∷ raw_second_rule i ∷ []

-- the rules of the functions with numbers below n
abbrev pub raw_rules : ℕ → List RRule
raw_rules n = flat_map raw_rules_of_map (range_with_len 0 n)

-- the parts of the system of n functions
abbrev pub raw_family : ℕ → RParts
raw_family n = record {
  sorts = map raw_name sort_names;
  funs = raw_base ++ map raw_map_fun (range_with_len 0 n);
  rules = raw_rules n;
}
