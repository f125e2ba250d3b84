-- What stands behind a spelling is joined to it.
use Rattle.std.proofs.Common.{◌≡◌, ℕ, List, ◌∷◌, ◌++◌, refl, ap, sym, ◌∙◌, append_assoc}
use Rattle.std.specs.Fmt.{decimal}
use Rattle.wh_text.specs.RawTree.{RTy, raw_type, RTys, no_types, more_types, Binder, named_binder, numbered_binder, RTm, named, numbered, free_variable, meta, lam, spine, RTms, none, more}
use Rattle.wh_text.specs.Spelling.{put_part, put_arguments, put_binder, put_term, put_listed, put_parts}

mutual
  part-append : (a : RTy) (r s : List ℕ) → put_part a (r ++ s) ≡ put_part a r ++ s
  part-append (raw_type no_types sort at) r s = sym (append_assoc sort r s)
  part-append (raw_type (more_types a rest) sort at) r s =
      ap (λ (z : List ℕ). 40 ∷ z)
      (ap (λ (z : List ℕ). put_part a (45 ∷ 62 ∷ put_arguments rest z)) (sym (append_assoc sort (41 ∷ r) s))
      ∙ ap (λ (z : List ℕ). put_part a (45 ∷ 62 ∷ z)) (arguments-append rest (sort ++ (41 ∷ r)) s)
      ∙ part-append a (45 ∷ 62 ∷ put_arguments rest (sort ++ (41 ∷ r))) s)

  arguments-append : (rest : RTys) (r s : List ℕ) → put_arguments rest (r ++ s) ≡ put_arguments rest r ++ s
  arguments-append no_types r s = refl
  arguments-append (more_types a rest) r s =
      ap (λ (z : List ℕ). put_part a (45 ∷ 62 ∷ z)) (arguments-append rest r s) ∙ part-append a (45 ∷ 62 ∷ put_arguments rest r) s

binder-append : (x : Binder) (r s : List ℕ) → put_binder x (r ++ s) ≡ put_binder x r ++ s
binder-append (named_binder name) r s = sym (append_assoc name r s)
binder-append (numbered_binder n) r s = ap (λ (z : List ℕ). 36 ∷ z) (sym (append_assoc (decimal n) r s))

mutual
  pub term-append : (t : RTm) (r s : List ℕ) → put_term t (r ++ s) ≡ put_term t r ++ s
  term-append (named name at) r s = sym (append_assoc name r s)
  term-append (numbered n at) r s = ap (λ (z : List ℕ). 36 ∷ z) (sym (append_assoc (decimal n) r s))
  term-append (free_variable n a at) r s =
      ap (λ (z : List ℕ). 37 ∷ z) (ap (λ (z : List ℕ). decimal n ++ (58 ∷ z)) (part-append a r s) ∙ sym (append_assoc (decimal n) (58 ∷ put_part a r) s))
  term-append (meta name none at) r s = sym (append_assoc name r s)
  term-append (meta name (more t ts) at) r s =
      ap (λ (z : List ℕ). name ++ (91 ∷ put_term t z)) (listed-append ts (93 ∷ r) s)
      ∙ ap (λ (z : List ℕ). name ++ (91 ∷ z)) (term-append t (put_listed ts (93 ∷ r)) s)
      ∙ sym (append_assoc name (91 ∷ put_term t (put_listed ts (93 ∷ r))) s)
  term-append (lam x a t at) r s =
      ap (λ (z : List ℕ). 40 ∷ 92 ∷ z)
      (ap (λ (z : List ℕ). put_binder x (58 ∷ put_part a (46 ∷ z))) (term-append t (41 ∷ r) s)
      ∙ ap (λ (z : List ℕ). put_binder x (58 ∷ z)) (part-append a (46 ∷ put_term t (41 ∷ r)) s)
      ∙ binder-append x (58 ∷ put_part a (46 ∷ put_term t (41 ∷ r))) s)
  term-append (spine h ts at) r s =
      ap (λ (z : List ℕ). 40 ∷ z)
      (ap (put_term h) (parts-append ts (41 ∷ r) s) ∙ term-append h (put_parts ts (41 ∷ r)) s)

  listed-append : (ts : RTms) (r s : List ℕ) → put_listed ts (r ++ s) ≡ put_listed ts r ++ s
  listed-append none r s = refl
  listed-append (more t ts) r s =
      ap (λ (z : List ℕ). 44 ∷ z) (ap (put_term t) (listed-append ts r s) ∙ term-append t (put_listed ts r) s)

  parts-append : (ts : RTms) (r s : List ℕ) → put_parts ts (r ++ s) ≡ put_parts ts r ++ s
  parts-append none r s = refl
  parts-append (more t ts) r s =
      ap (λ (z : List ℕ). 32 ∷ z) (ap (put_term t) (parts-append ts r s) ∙ term-append t (put_parts ts r) s)
