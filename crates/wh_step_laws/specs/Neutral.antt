-- Neutral terms: those that no argument can turn into a step at the root.
use Rattle.wh_terms.specs.Tree.{Tm, free, lam, app}

-- the head is a free variable or an abstraction
abbrev pub HasNeutralHead : Tm → Type 0
HasNeutralHead (free x a) = Unit {0}
HasNeutralHead (lam a t) = Unit {0}
HasNeutralHead (app t u) = HasNeutralHead t
HasNeutralHead _ = ⊥

-- a free variable with arguments or none, or an abstraction with at least one argument (Girard 1972; Kop 2012)
abbrev pub IsNeutral : Tm → Type 0
IsNeutral (free x a) = Unit {0}
IsNeutral (app t u) = HasNeutralHead t
IsNeutral _ = ⊥
