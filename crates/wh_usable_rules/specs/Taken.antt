-- Rules that are taken, one after another, as what they call is called.
use Rattle.std.specs.Prelude.{ℕ, ◌≡◌, ◌+◌, ◌<◌, ◌≤◌, ◌⊎◌, Bool, true, false, if◌then◌else◌, List, [], ◌∷◌, length, Some, slice_get}
use Rattle.wh_terms.specs.Tree.{fun, head}
use Rattle.wh_terms.specs.Rules.{RewriteRule}
use Rattle.wh_usable.specs.Closed.{HasSymbol}
use Rattle.wh_usable_rules.specs.Tables.{Says}
use Rattle.wh_usable_rules.specs.Called.{Reaches}

-- the rule is one of a symbol that is called, and what its right side calls is called
pub record IsFollowed (rules : List RewriteRule) (called : List Bool) (n : ℕ) : Type 0 where
  pub rule : RewriteRule
  pub there : slice_get rules n ≡ Some rule
  pub symbol : ℕ
  pub heads : head rule.left ≡ fun symbol
  pub is_called : Says called symbol
  pub calls : (f : ℕ) → HasSymbol f rule.right → f < length called → Says called f

-- more symbols are called and more rules are taken than before, each as it has to be
pub record Takes (rules : List RewriteRule) (called taken now_called now_taken : List Bool) : Type 0 where
  pub called_length : length now_called ≡ length called
  pub taken_length : length now_taken ≡ length taken
  pub called_kept : (f : ℕ) → Says called f → Says now_called f
  pub called_only : (f : ℕ) → Says now_called f → Reaches rules (Says called) f
  pub taken_kept : (n : ℕ) → Says taken n → Says now_taken n
  pub taken_only : (n : ℕ) → Says now_taken n → Says taken n ⊎ IsFollowed rules now_called n

-- the rules before a place are taken if they are of symbols that are called
abbrev pub AreTakenBefore : List RewriteRule → List Bool → List Bool → ℕ → Type 0
AreTakenBefore rules called taken i =
    (n : ℕ) (r : RewriteRule) (f : ℕ) → n < i → slice_get rules n ≡ Some r → head r.left ≡ fun f → Says called f → Says taken n

-- all rules of symbols that are called are taken
pub record AreTaken (rules : List RewriteRule) (called taken now_called now_taken : List Bool) : Type 0 where
  pub takes : Takes rules called taken now_called now_taken
  pub all : AreTakenBefore rules now_called now_taken (length rules)

-- how many are not taken
abbrev pub open_in : List Bool → ℕ
open_in [] = 0
open_in (b ∷ taken) = (if b then 0 else 1) + open_in taken

-- the rules before a place were looked at once, and some more were taken, or none and all that have to be are taken
pub record IsPass (rules : List RewriteRule) (called taken now_called now_taken : List Bool) (i : ℕ) (some : Bool) : Type 0 where
  pub takes : Takes rules called taken now_called now_taken
  pub no_more : open_in now_taken ≤ open_in taken
  pub fewer : some ≡ true → open_in now_taken < open_in taken
  pub ended : some ≡ false → AreTakenBefore rules now_called now_taken i
