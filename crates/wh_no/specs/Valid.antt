-- `IsValid`: when the claim of a NO certificate is valid. Its term leads to one that holds an instance of it: a loop.
-- What is put for a variable need not fit, and the variable need not stand in the term: neither matters for what a NO
-- means.
use Rattle.std.specs.Prelude.{ℕ, ◌<◌, ◌≡◌, List, [], length, Some, All, AllPairs}
use Rattle.wh_types.specs.Ty.{SortsBelow}
use Rattle.wh_terms.specs.Tree.{Tm, bound}
use Rattle.wh_terms.specs.Typing.{Symbols, Typed, WellTyped}
use Rattle.wh_terms.specs.Measures.{Fits}
use Rattle.wh_terms.specs.Places.{opened_part_at}
use Rattle.wh_terms.specs.Substitution.{act}
use Rattle.wh_terms.specs.Rules.{RewriteRule}
use Rattle.wh_step.specs.Replay.{Replays}
use Rattle.wh_no.specs.Claim.{Put, Claim, put_for}
use Rattle.wh_no.specs.Unused.{first_unused}

-- the put is a well-typed term of the type of its variable, whose sorts are sorts of the symbols S (ours)
pub record IsPutOver (S : Symbols) (p : Put) : Type 0 where
  pub sorts_are_there : SortsBelow S.sorts p.kind
  pub typed : Typed S [] [] p.value p.kind

-- the number of one put is below that of another, whatever their types: so two variables of one number can't both be
-- put (ours)
abbrev pub IsBelow : Put → Put → Type 0
IsBelow p q = p.number < q.number

-- what stands at the place in the tree u, with each passed binder opened by a variable whose number is above those of
-- the term t, the outermost first, is t with these puts (ours)
abbrev pub HoldsInstance : Tm → List Put → List ℕ → Tm → Type 0
HoldsInstance t puts at u = opened_part_at (first_unused t) at u ≡ Some (act bound (put_for puts) t)

-- the claim is valid over the symbols S and these rules: its term leads to a term that holds an instance of it (a loop,
-- Kop 2012; the form is ours)
pub record IsValid (S : Symbols) (rules : List RewriteRule) (c : Claim) : Type 0 where
  -- the term is well typed: it has no loose variable and no meta-variable
  pub typed : WellTyped S c.term
  -- the term fits
  pub fits : Fits c.term
  -- there is at least one step
  pub some_step : 0 < length c.steps
  -- the steps follow each other to a last term, and each result fits
  pub last : Tm
  pub replays : Replays rules c.steps c.term last
  -- each put is typed, and the numbers increase
  pub puts : All (IsPutOver S) c.puts
  pub increasing : AllPairs IsBelow c.puts
  -- the last term holds the term with these puts
  pub instance : HoldsInstance c.term c.puts c.at last
