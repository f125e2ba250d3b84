-- The limits of the format on numbers, types and terms (ours). In all trees the places are 0.
use Rattle.std.specs.Prelude.{ℕ, suc, ◌≡◌, ◌<◌, ◌≤◌}
use Rattle.wh_types.specs.Limits.{greatest_number, most_arguments, deepest_certificate_term, deepest_certificate_type, most_certificate_arguments}
use Rattle.wh_text.specs.RawTree.{RTy, raw_type, RTys, no_types, more_types, named_binder, numbered_binder, RTm, named, numbered, free_variable, meta, lam, spine, RTms, none, more}
use Rattle.wh_text.specs.Words.{IsWord}

-- a number is at most 65,535
abbrev pub IsSmall : ℕ → Type 0
IsSmall n = n ≤ greatest_number

-- how many types, and how many terms
abbrev pub type_count : RTys → ℕ
type_count no_types = 0
type_count (more_types a rest) = suc (type_count rest)

abbrev pub term_count : RTms → ℕ
term_count none = 0
term_count (more t ts) = suc (term_count ts)

-- a type inside k open parentheses: each type in it has at most 64 arguments, and 18 parentheses are open at most
abbrev mutual
  pub TypeFits : ℕ → RTy → Type 0
  TypeFits k (raw_type args sort at) = IsWord sort × (at ≡ 0) × (type_count args ≤ most_certificate_arguments) × ArgumentsFit k args

  pub ArgumentsFit : ℕ → RTys → Type 0
  ArgumentsFit k no_types = Unit {0}
  ArgumentsFit k (more_types a rest) = (k < deepest_certificate_type) × TypeFits (suc k) a × ArgumentsFit k rest

-- what may stand at the head of a spine: anything but a spine
abbrev pub IsHead : RTm → Type 0
IsHead (spine h ts at) = ⊥
IsHead _ = Unit {0}

-- a term inside k open parentheses: without meta-variables and with numbered binders, each number at most 65,535, each
-- spine with 1 to 32 arguments, and 200 parentheses open at most
abbrev mutual
  pub TermFits : ℕ → RTm → Type 0
  TermFits k (named x at) = IsWord x × (at ≡ 0)
  TermFits k (numbered n at) = (n ≤ greatest_number) × (at ≡ 0)
  TermFits k (free_variable n a at) = (n ≤ greatest_number) × TypeFits 0 a × (at ≡ 0)
  TermFits k (meta z ts at) = ⊥
  TermFits k (lam (named_binder x) a t at) = ⊥
  TermFits k (lam (numbered_binder n) a t at) =
      (k < deepest_certificate_term) × (n ≤ greatest_number) × TypeFits 0 a × TermFits (suc k) t × (at ≡ 0)
  TermFits k (spine h ts at) =
      (k < deepest_certificate_term) × IsHead h × TermFits (suc k) h × (0 < term_count ts) × (term_count ts ≤ most_arguments)
      × TermsFit (suc k) ts × (at ≡ 0)

  pub TermsFit : ℕ → RTms → Type 0
  TermsFit k none = Unit {0}
  TermsFit k (more t ts) = TermFits k t × TermsFit k ts
