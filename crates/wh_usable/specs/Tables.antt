-- Tables that say of symbols whether all their rules are listed.
use Rattle.std.specs.Prelude.{ℕ, ◌≡◌, ◌≤◌, ◌↔◌, Bool, true, false, List, length, Some, slice_get}
use Rattle.wh_terms.specs.Rules.{RewriteRule}
use Rattle.wh_terms.specs.Tree.{Tm, fun, head}
use Rattle.wh_usable.specs.Closed.{ListsRulesOf}

-- the table says of each of its symbols whether all its rules are listed, and other symbols have no rules
pub record IsTableOf (rules : List RewriteRule) (listed : List ℕ) (table : List Bool) : Type 0 where
  pub said : (f : ℕ) (b : Bool) → slice_get table f ≡ Some b → (b ≡ true) ↔ ListsRulesOf rules listed f
  pub others : (f : ℕ) → length table ≤ f → ListsRulesOf rules listed f

-- the table says no of the symbol that heads the tree, and of others what it said before
pub record IsCleared (before : List Bool) (t : Tm) (after : List Bool) : Type 0 where
  pub same_length : length after ≡ length before
  pub head_symbol : (f : ℕ) (b : Bool) → head t ≡ fun f → slice_get after f ≡ Some b → b ≡ false
  pub others : (f : ℕ) → (head t ≡ fun f → ⊥) → slice_get after f ≡ slice_get before f
