-- Raw trees as a canonical text may have them (ours): names are names, numbers are at most 65,535, and what nests stays
-- within the limits.
use Rattle.std.specs.Prelude.{ℕ, ◌+◌, ◌<◌, ◌≤◌}
use Rattle.wh_types.specs.Limits.{greatest_number, deepest_term, deepest_type}
use Rattle.wh_text.specs.Words.{IsName}
use Rattle.wh_text.specs.RawTree.{RTy, raw_type, RTys, no_types, more_types, named_binder, numbered_binder, RTm, named, numbered, free_variable, meta, lam, spine, RTms, none, more}

-- within j open parentheses of types: a type by itself, and as a part of something else, where a functional type opens
-- a parenthesis
abbrev mutual
  pub IsSpelledType : ℕ → RTy → Type 0
  IsSpelledType j (raw_type args sort at) = AreSpelledParts j args × IsName sort

  pub IsSpelledPart : ℕ → RTy → Type 0
  IsSpelledPart j (raw_type no_types sort at) = IsName sort
  IsSpelledPart j (raw_type (more_types a rest) sort at) = (j < deepest_type) × IsSpelledPart (j + 1) a × AreSpelledParts (j + 1) rest × IsName sort

  -- each of the types is a spelled part
  pub AreSpelledParts : ℕ → RTys → Type 0
  AreSpelledParts j no_types = Unit {0}
  AreSpelledParts j (more_types a rest) = IsSpelledPart j a × AreSpelledParts j rest

-- the term is no spine
abbrev pub IsNoSpine : RTm → Type 0
IsNoSpine (spine h ts at) = ⊥
IsNoSpine t = Unit {0}

-- within k levels of terms: a spine has arguments and no spine as its head, a meta-application has arguments, and the
-- binder of an abstraction is a number; an abstraction takes a level for its parenthesis and one for itself
abbrev mutual
  pub IsSpelledTerm : ℕ → RTm → Type 0
  IsSpelledTerm k (named n at) = IsName n
  IsSpelledTerm k (numbered n at) = n ≤ greatest_number
  IsSpelledTerm k (free_variable n a at) = (n ≤ greatest_number) × IsSpelledPart 0 a
  IsSpelledTerm k (meta n none at) = ⊥
  IsSpelledTerm k (meta n (more t ts) at) = (k < deepest_term) × IsName n × IsSpelledTerm (k + 1) t × AreSpelledTerms (k + 1) ts
  IsSpelledTerm k (lam (named_binder n) a t at) = ⊥
  IsSpelledTerm k (lam (numbered_binder n) a t at) = (k + 1 < deepest_term) × (n ≤ greatest_number) × IsSpelledPart 0 a × IsSpelledTerm (k + 2) t
  IsSpelledTerm k (spine h none at) = ⊥
  IsSpelledTerm k (spine h (more t ts) at) = (k < deepest_term) × IsNoSpine h × IsSpelledTerm (k + 1) h × IsSpelledTerm (k + 1) t
      × AreSpelledTerms (k + 1) ts

  -- each of the terms is a spelled one
  pub AreSpelledTerms : ℕ → RTms → Type 0
  AreSpelledTerms k none = Unit {0}
  AreSpelledTerms k (more t ts) = IsSpelledTerm k t × AreSpelledTerms k ts
