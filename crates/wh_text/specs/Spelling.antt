-- The canonical spelling of raw trees (ours). `put_..  r` is the spelling with r behind it.
use Rattle.std.specs.Prelude.{ℕ, List, [], ◌∷◌, ◌++◌, codes}
use Rattle.std.specs.Fmt.{decimal}
use Rattle.wh_text.specs.RawTree.{RTy, raw_type, RTys, no_types, more_types, Binder, named_binder, numbered_binder, RTm, named, numbered, free_variable, meta, lam, spine, RTms, none, more}

-- a type: its arguments joined by `->` without spaces, a functional one in parentheses, then the sort;
-- as a part of something else a functional type stands in parentheses
abbrev mutual
  pub put_type : RTy → List ℕ → List ℕ
  put_type (raw_type args sort at) r = put_arguments args (sort ++ r)

  pub put_part : RTy → List ℕ → List ℕ
  put_part (raw_type no_types sort at) r = sort ++ r
  put_part (raw_type (more_types a rest) sort at) r =
      codes "(" ++ put_part a (codes "->" ++ put_arguments rest (sort ++ (codes ")" ++ r)))

  pub put_arguments : RTys → List ℕ → List ℕ
  put_arguments no_types r = r
  put_arguments (more_types a rest) r = put_part a (codes "->" ++ put_arguments rest r)

abbrev pub put_binder : Binder → List ℕ → List ℕ
put_binder (named_binder name) r = name ++ r
put_binder (numbered_binder n) r = codes "$" ++ (decimal n ++ r)

-- a term: `$d` and `%k:T` with their numbers, a meta-application as its name with arguments in brackets, an abstraction
-- and a spine with arguments in parentheses, parts of a spine parted by single spaces
abbrev mutual
  pub put_term : RTm → List ℕ → List ℕ
  put_term (named name at) r = name ++ r
  put_term (numbered n at) r = codes "$" ++ (decimal n ++ r)
  put_term (free_variable n a at) r = codes "%" ++ (decimal n ++ (codes ":" ++ put_part a r))
  put_term (meta name none at) r = name ++ r
  put_term (meta name (more t ts) at) r = name ++ (codes "[" ++ put_term t (put_listed ts (codes "]" ++ r)))
  put_term (lam x a t at) r = codes "(\\" ++ put_binder x (codes ":" ++ put_part a (codes "." ++ put_term t (codes ")" ++ r)))
  put_term (spine h ts at) r = codes "(" ++ put_term h (put_parts ts (codes ")" ++ r))

  -- further arguments of a meta-application
  pub put_listed : RTms → List ℕ → List ℕ
  put_listed none r = r
  put_listed (more t ts) r = codes "," ++ put_term t (put_listed ts r)

  -- arguments of a spine
  pub put_parts : RTms → List ℕ → List ℕ
  put_parts none r = r
  put_parts (more t ts) r = codes " " ++ put_term t (put_parts ts r)

abbrev pub spelled : RTm → List ℕ
spelled t = put_term t []

-- terms of which each has a sign before it: the sign c the first, the sign d the others
abbrev pub put_each : ℕ → ℕ → RTms → List ℕ → List ℕ
put_each c d none r = r
put_each c d (more t ts) r = c ∷ put_term t (put_each d d ts r)

-- the arguments of a meta-variable in brackets, and nothing where there are none
abbrev pub put_bracketed : RTms → List ℕ → List ℕ
put_bracketed none r = r
put_bracketed ts r = put_each 91 44 ts (codes "]" ++ r)
