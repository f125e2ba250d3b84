-- The calls in the right side of a rule: where a defined symbol stands, and with which arguments.
use Rattle.std.specs.Prelude.{ℕ, ◌+◌, List, [], ◌∷◌, ◌++◌, Option, Some, None}
use Rattle.wh_types.specs.Ty.{Ty}
use Rattle.wh_terms.specs.Tree.{Tm, fun, meta, lam, app, Tms, none, more}
use Rattle.wh_terms.specs.Rules.{RewriteRule}
use Rattle.wh_system.specs.Needs.{need_of}
use Rattle.wh_pairs.specs.PairData.{Within}
use Rattle.wh_pairs.specs.Conditions.{with_condition}

-- a defined symbol as the head of a spine (Fuhs and Kop 2019, the candidate terms of a right side)
pub record Call : Type 0 where
  -- the arguments of meta-variables that it stands within, in increasing order
  pub conditions : List Within
  -- the types of the binders around it, the innermost first
  pub binders : List Ty
  pub symbol : ℕ
  -- how many arguments the rules of the symbol have
  pub need : ℕ
  -- all arguments of the spine; their loose variables are those of the binders
  pub arguments : List Tm

-- a call of the symbol, where it has rules
abbrev pub call_where_defined : Option ℕ → List Within → List Ty → ℕ → List Tm → List Call
call_where_defined None cs Γ f qs = []
call_where_defined (Some e) cs Γ f qs = record { conditions = cs; binders = Γ; symbol = f; need = e; arguments = qs } ∷ []

-- the calls in a part of a right side that stands within the arguments cs, below binders of the types Γ, and before the
-- arguments qs: a spine first as a whole, then the inside of its head, then its arguments from left to right (Fuhs and
-- Kop 2019; the order is ours)
abbrev mutual
  pub calls : List RewriteRule → List Within → List Ty → Tm → List Tm → List Call
  calls rules cs Γ (app t u) qs = calls rules cs Γ t (u ∷ qs) ++ calls rules cs Γ u []
  calls rules cs Γ (lam a t) qs = calls rules cs (a ∷ Γ) t []
  calls rules cs Γ (meta z ts) qs = calls_within rules cs Γ z 1 ts
  calls rules cs Γ (fun f) qs = call_where_defined (need_of rules f) cs Γ f qs
  calls rules cs Γ _ qs = []

  -- the calls in arguments of the meta-variable z, of which the first is its i-th, counted from 1
  pub calls_within : List RewriteRule → List Within → List Ty → ℕ → ℕ → Tms → List Call
  calls_within rules cs Γ z i none = []
  calls_within rules cs Γ z i (more t ts) =
      calls rules (with_condition (record { meta = z; place = i }) cs) Γ t [] ++ calls_within rules cs Γ z (i + 1) ts

-- the calls in the right side of a rule
abbrev pub calls_of : List RewriteRule → RewriteRule → List Call
calls_of rules r = calls rules [] [] r.right []
