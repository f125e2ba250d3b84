-- A worked system that needs interpretations: the second rule counts a number down, but puts the identity around what
-- is left of it. With it stand its two dependency pairs and the proof of them, as a certificate says it.
use Rattle.std.specs.Prelude.{ℕ, List, [], ◌∷◌, codes}
use Rattle.wh_types.specs.Ty.{Ty, ◌⇒◌}
use Rattle.wh_terms.specs.Tree.{Tm, fun, meta, app, none}
use Rattle.wh_terms.specs.Typing.{Symbols, Declared}
use Rattle.wh_terms.specs.Rules.{RewriteRule}
use Rattle.wh_pairs.specs.PairData.{PairData}
use Rattle.wh_system.specs.Systems.{SystemData}
use Rattle.wh_poly.specs.Polynomials.{Polynomial, zero_poly, plus, no_factors, times, no_arguments}
use Rattle.wh_reduction_pairs.specs.TaskData.{TaskData, task_over}
use Rattle.wh_reduction_pairs.specs.ReductionPair.{Evidence}
use Rattle.wh_hopoly.specs.Moves.{Transfer}
use Rattle.wh_polycheck.specs.Readings.{ReadingsData}
use Rattle.wh_proof.specs.Nodes.{Node, done, alone, blocks, poly}
use Rattle.wh_proof_nodes.specs.MapSystem.{nat, plain_meta}

-- each symbol is a function of a number
abbrev pub unary : Ty
unary = nat ⇒ nat

-- the symbols: 0 s, 1 i and 2 t, over the one sort nat
abbrev pub identity_symbols : Symbols
identity_symbols = record { sorts = 1; funs = unary ∷ unary ∷ unary ∷ [] }

-- the one meta-variable of each rule: 0 X:nat
abbrev pub identity_metas : List Declared
identity_metas = plain_meta nat ∷ []

-- `X`, `s X` and `i X`
abbrev pub number : Tm
number = meta 0 none

abbrev pub next_number : Tm
next_number = app (fun 0) number

abbrev pub same_number : Tm
same_number = app (fun 1) number

-- {X:nat} i X => X
abbrev pub identity_rule : RewriteRule
identity_rule = record { metas = identity_metas; left = same_number; right = number }

-- {X:nat} t (s X) => t (i X)
abbrev pub count_rule : RewriteRule
count_rule = record { metas = identity_metas; left = app (fun 2) next_number; right = app (fun 2) same_number }

-- the system, with the names of its text (ours)
abbrev pub identity_system : SystemData
identity_system = record {
  sort_names = codes "nat" ∷ [];
  fun_names = codes "s" ∷ codes "i" ∷ codes "t" ∷ [];
  symbols = identity_symbols;
  rules = identity_rule ∷ count_rule ∷ [];
  meta_names = (codes "X" ∷ []) ∷ (codes "X" ∷ []) ∷ [];
}

-- the pair 0 of the system: t# (s X) => t# (i X)
abbrev pub count_pair : PairData
count_pair = record {
  rule = 1;
  metas = identity_metas;
  left_fun = 2;
  left = next_number ∷ [];
  right_fun = 2;
  right = same_number ∷ [];
  conditions = [];
}

-- the pair 1 of the system: t# (s X) => i# X
abbrev pub call_pair : PairData
call_pair = record {
  rule = 1;
  metas = identity_metas;
  left_fun = 2;
  left = next_number ∷ [];
  right_fun = 1;
  right = number ∷ [];
  conditions = [];
}

abbrev pub identity_pairs : List PairData
identity_pairs = count_pair ∷ call_pair ∷ []

-- the polynomials 1*y0 and 1 + 1*y0
abbrev pub itself : Polynomial
itself = plus 1 (times 0 no_arguments no_factors) zero_poly

abbrev pub one_more : Polynomial
one_more = plus 1 no_factors itself

-- s is read as 1 + 1*y0, i as 1*y0 and t as 0, and the marked t as 1*y0
abbrev pub readings : ReadingsData
readings = record {
  symbols = record { kind = unary; polynomial = one_more } ∷ record { kind = unary; polynomial = itself }
      ∷ record { kind = unary; polynomial = zero_poly } ∷ [];
  marks = record { symbol = 2; polynomial = itself } ∷ [];
}

-- a unit of the given monomial goes to the first one of the right side
abbrev pub unit_from : ℕ → Transfer
unit_from i = record { from = i; to = 0; amount = 1 }

-- the first rule keeps X, and the sides of the second one are 0; of the pair's left side 1 + 1*X the constant is left
-- over, so that it is dropped
abbrev pub count_moves : Evidence (List Transfer)
count_moves = record {
  of_rules = (unit_from 0 ∷ []) ∷ [] ∷ [];
  of_pairs = (unit_from 1 ∷ []) ∷ [];
  drop = 0 ∷ [];
}

-- the set of the first pair alone, and both rules
abbrev pub count_task : TaskData
count_task = task_over identity_symbols identity_system.rules identity_pairs (0 ∷ []) (0 ∷ 1 ∷ [])

-- each pair is a block; the first one shrinks, so that no pair is left of its block, and the second one may not follow
-- itself
abbrev pub identity_nodes : List Node
identity_nodes =
    blocks ((0 ∷ []) ∷ (1 ∷ []) ∷ []) ∷ poly count_task.covered readings count_moves ∷ done ∷ alone ∷ []

-- the moves of a node that lists the rule of i alone, which is all that the first pair calls
abbrev pub listed_moves : Evidence (List Transfer)
listed_moves = record {
  of_rules = (unit_from 0 ∷ []) ∷ [];
  of_pairs = (unit_from 1 ∷ []) ∷ [];
  drop = 0 ∷ [];
}

abbrev pub listed_task : TaskData
listed_task = task_over identity_symbols identity_system.rules identity_pairs (0 ∷ []) (0 ∷ [])

abbrev pub listed_nodes : List Node
listed_nodes =
    blocks ((0 ∷ []) ∷ (1 ∷ []) ∷ []) ∷ poly listed_task.covered readings listed_moves ∷ done ∷ alone ∷ []
