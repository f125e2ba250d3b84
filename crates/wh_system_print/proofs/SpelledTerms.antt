-- The canonical spelling of a term is cut into tokens that spell one atom, and that says the term.
use Rattle.std.proofs.Common.{◌≡◌, ℕ, ◌+◌, ◌<◌, ◌≤◌, List, ◌∷◌, length, refl, sym, ap, ◌∙◌, subst, arith}
use Rattle.std.specs.Fmt.{decimal}
use Rattle.wh_text.specs.Words.{IsName}
use Rattle.wh_text.specs.RawTree.{RTy, named_binder, numbered_binder, RTm, named, numbered, free_variable, meta, lam, spine, RTms, none, more}
use Rattle.wh_text.specs.Spelling as S
use Rattle.wh_read.specs.Written.{WTerm, lambda, atoms, WAtom, plain_name, number, typed_variable, applied, term_in, WAtoms, no_atoms, more_atoms, WTerms, no_terms, more_terms}
use Rattle.wh_read.specs.Spelled as W
use Rattle.wh_read.specs.Nesting.{TermFits, AtomFits, AtomsFit, TermsFit}
use Rattle.wh_read.specs.Raw.{said_term, said_atom, said_atoms, said_terms, spined}
use Rattle.wh_system_making.specs.Unplaced.{unplaced_type, unplaced_term, unplaced_terms}
use Rattle.wh_system_print.specs.Sound.{IsSpelledPart, IsNoSpine, IsSpelledTerm, AreSpelledTerms}
use Rattle.wh_system_print.specs.Cutting.{Cutting, NoPart}
use Rattle.wh_system_print.proofs.Pieces.{cutting_then, any_then, cutting_any, nothing_cut, sign_cut, space_cut, name_cut, dollar_cut, percent_cut}
use Rattle.wh_system_print.proofs.SpelledTypes.{PartWritten, part_written}

-- within k levels, the atom that is written for t at the place
pub record AtomWritten (k : ℕ) (t : RTm) (at : ℕ) : Type 0 where
  pub end : ℕ
  pub written : WAtom
  pub fits : AtomFits k written
  pub says : unplaced_term (said_atom written) ≡ unplaced_term t
  pub cut : Cutting NoPart at end (S.put_term t) (W.put_atom written)

-- further arguments of a meta-application, each behind a comma
record ListedWritten (k : ℕ) (ts : RTms) (at : ℕ) : Type 0 where
  pub end : ℕ
  pub written : WTerms
  pub fits : TermsFit k written
  pub says : unplaced_terms (said_terms written) ≡ unplaced_terms ts
  pub cut : Cutting NoPart at end (S.put_listed ts) (W.put_terms written)

-- arguments of a spine, each behind a space
record PartsWritten (k : ℕ) (ts : RTms) (at : ℕ) : Type 0 where
  pub end : ℕ
  pub written : WAtoms
  pub fits : AtomsFit k written
  pub says : unplaced_terms (said_atoms written) ≡ unplaced_terms ts
  pub cut : Cutting NoPart at end (S.put_parts ts) (W.put_atoms written)

-- a whole side
pub record TermWritten (t : RTm) (at : ℕ) : Type 0 where
  pub end : ℕ
  pub written : WTerm
  pub fits : TermFits 0 written
  pub says : unplaced_term (said_term written) ≡ unplaced_term t
  pub cut : Cutting NoPart at end (S.put_term t) (W.put_term written)

-- commas and spaces go on no name and no number

listed_stops : (ts : RTms) (r : List ℕ) → NoPart r → NoPart (S.put_listed ts r)
listed_stops none r good = good
listed_stops (more t ts) r good = refl

parts_stop : (ts : RTms) (r : List ℕ) → NoPart r → NoPart (S.put_parts ts r)
parts_stop none r good = good
parts_stop (more t ts) r good = refl

-- leaves

plain_written : (k : ℕ) (n : List ℕ) (i : ℕ) → IsName n → (at : ℕ) → AtomWritten k (named n i) at
plain_written k n i is at =
    record { end = at + length n; written = plain_name n at; fits = tt; says = refl; cut = name_cut n at is }

numbered_written : (k n i : ℕ) → n ≤ 65535 → (at : ℕ) → AtomWritten k (numbered n i) at
numbered_written k n i small at =
    record { end = at + 1 + length (decimal n); written = number n at; fits = tt; says = refl; cut = dollar_cut n at small }

variable_written : (k n : ℕ) (a : RTy) (i : ℕ) → n ≤ 65535 → IsSpelledPart 0 a → (at : ℕ) → AtomWritten k (free_variable n a i) at
variable_written k n a i small is at =
    let colon_at : ℕ = at + 1 + length (decimal n) in
    let p = part_written 0 a is (colon_at + 1) in
    let behind = any_then (sign_cut 58 colon_at refl) p.cut in
    record {
      end = p.end;
      written = typed_variable n at colon_at p.written;
      fits = p.fits;
      says = ap (λ (b : RTy). free_variable n b 0) p.says;
      cut = cutting_then (percent_cut n at small) behind (λ r good. refl);
    }

-- a meta-application with its brackets
applied_written : (k : ℕ) (n : List ℕ) (t : RTm) (ts : RTms) (i at : ℕ) → k < 400 → IsName n
    → (u : AtomWritten (k + 1) t (at + length n + 1)) → ListedWritten (k + 1) ts u.end → AtomWritten k (meta n (more t ts) i) at
applied_written k n t ts i at room is u us =
    let closes = cutting_then us.cut (sign_cut 93 us.end refl) (λ r good. refl) in
    let listed = cutting_then u.cut closes (λ r good. listed_stops ts (93 ∷ r) refl) in
    let behind = any_then (sign_cut 91 (at + length n) refl) listed in
    record {
      end = us.end + 1;
      written = applied n at (at + length n) (atoms u.written no_atoms) us.written us.end;
      fits = (room, (u.fits, tt), us.fits);
      says = ap (λ (x : RTm). meta n (more x (unplaced_terms (said_terms us.written))) 0) u.says ∙ ap (λ (xs : RTms). meta n (more (unplaced_term t) xs) 0) us.says;
      cut = cutting_any (cutting_then (name_cut n at is) behind (λ r good. refl));
    }

-- the abstraction in its parentheses, where its body is written
lambda_written : (k n : ℕ) (a : RTy) (t : RTm) (i at : ℕ) → k + 1 < 400 → n ≤ 65535
    → (p : PartWritten 0 a (at + 1 + 1 + 1 + length (decimal n) + 1)) → AtomWritten (k + 2) t (p.end + 1) → AtomWritten k (lam (numbered_binder n) a t i) at
lambda_written k n a t i at room small p u =
    let colon_at : ℕ = at + 1 + 1 + 1 + length (decimal n) in
    let levels : k + 2 ≡ k + 1 + 1 = omega arith in
    let closes = cutting_then u.cut (sign_cut 41 u.end refl) (λ r good. refl) in
    let body = any_then (sign_cut 46 p.end refl) closes in
    let typed = any_then (sign_cut 58 colon_at refl) (cutting_then p.cut body (λ r good. refl)) in
    let bound = cutting_then (dollar_cut n (at + 1 + 1) small) typed (λ r good. refl) in
    let opens = any_then (sign_cut 40 at refl) (any_then (sign_cut 92 (at + 1) refl) bound) in
    record {
      end = u.end + 1;
      written = term_in at (lambda (at + 1) (numbered_binder n) (at + 1 + 1) colon_at p.written p.end (atoms u.written no_atoms)) u.end;
      fits = (omega arith, (room, p.fits, (subst (λ (m : ℕ). AtomFits m u.written) levels u.fits, tt)));
      says = ap (λ (b : RTy). lam (numbered_binder n) b (unplaced_term (said_atom u.written)) 0) p.says ∙ ap (λ (x : RTm). lam (numbered_binder n) (unplaced_type a) x 0) u.says;
      cut = cutting_any opens;
    }

-- spines

unplaced_keeps_no_spine : (t : RTm) → IsNoSpine t → IsNoSpine (unplaced_term t)
unplaced_keeps_no_spine (spine h ts i) is = is
unplaced_keeps_no_spine (named n i) is = tt
unplaced_keeps_no_spine (numbered n i) is = tt
unplaced_keeps_no_spine (free_variable n a i) is = tt
unplaced_keeps_no_spine (meta n ts i) is = tt
unplaced_keeps_no_spine (lam x a t i) is = tt

-- arguments behind what is no spine make a spine
unplaced_term-spined : (h : RTm) (u : RTm) (us : RTms) → IsNoSpine (unplaced_term h)
    → unplaced_term (spined h (more u us)) ≡ spine (unplaced_term h) (more (unplaced_term u) (unplaced_terms us)) 0
unplaced_term-spined (spine h ts i) u us is = absurd is
unplaced_term-spined (named n i) u us is = refl
unplaced_term-spined (numbered n i) u us is = refl
unplaced_term-spined (free_variable n a i) u us is = refl
unplaced_term-spined (meta n ts i) u us is = refl
unplaced_term-spined (lam x a t i) u us is = refl

spine_written : (k : ℕ) (h t : RTm) (ts : RTms) (i at : ℕ) → k < 400 → IsNoSpine h
    → (g : AtomWritten (k + 1) h (at + 1)) → (u : AtomWritten (k + 1) t (g.end + 1)) → PartsWritten (k + 1) ts u.end → AtomWritten k (spine h (more t ts) i) at
spine_written k h t ts i at room is g u us =
    let closes = cutting_then us.cut (sign_cut 41 us.end refl) (λ r good. refl) in
    let parts = cutting_then u.cut closes (λ r good. parts_stop ts (41 ∷ r) refl) in
    let behind = cutting_then g.cut (any_then (space_cut g.end) parts) (λ r good. refl) in
    let no_spine : IsNoSpine (unplaced_term (said_atom g.written)) = subst IsNoSpine (sym g.says) (unplaced_keeps_no_spine h is) in
    record {
      end = us.end + 1;
      written = term_in at (atoms g.written (more_atoms u.written us.written)) us.end;
      fits = (room, (g.fits, (u.fits, us.fits)));
      says = unplaced_term-spined (said_atom g.written) (said_atom u.written) (said_atoms us.written) no_spine
          ∙ ap (λ (x : RTm). spine x (more (unplaced_term (said_atom u.written)) (unplaced_terms (said_atoms us.written))) 0) g.says
          ∙ ap (λ (x : RTm). spine (unplaced_term h) (more x (unplaced_terms (said_atoms us.written))) 0) u.says
          ∙ ap (λ (xs : RTms). spine (unplaced_term h) (more (unplaced_term t) xs) 0) us.says;
      cut = cutting_any (any_then (sign_cut 40 at refl) behind);
    }

-- lists

listed_more : (k : ℕ) (t : RTm) (ts : RTms) (at : ℕ) → (u : AtomWritten k t (at + 1)) → ListedWritten k ts u.end → ListedWritten k (more t ts) at
listed_more k t ts at u us =
    let behind = cutting_then u.cut us.cut (λ r good. listed_stops ts r good) in
    record {
      end = us.end;
      written = more_terms at (atoms u.written no_atoms) us.written;
      fits = ((u.fits, tt), us.fits);
      says = ap (λ (x : RTm). more x (unplaced_terms (said_terms us.written))) u.says ∙ ap (more (unplaced_term t)) us.says;
      cut = any_then (sign_cut 44 at refl) behind;
    }

parts_more : (k : ℕ) (t : RTm) (ts : RTms) (at : ℕ) → (u : AtomWritten k t (at + 1)) → PartsWritten k ts u.end → PartsWritten k (more t ts) at
parts_more k t ts at u us =
    let behind = cutting_then u.cut us.cut (λ r good. parts_stop ts r good) in
    record {
      end = us.end;
      written = more_atoms u.written us.written;
      fits = (u.fits, us.fits);
      says = ap (λ (x : RTm). more x (unplaced_terms (said_atoms us.written))) u.says ∙ ap (more (unplaced_term t)) us.says;
      cut = any_then (space_cut at) behind;
    }

mutual
  pub atom_written : (k : ℕ) (t : RTm) → IsSpelledTerm k t → (at : ℕ) → AtomWritten k t at
  atom_written k (named n i) is at = plain_written k n i is at
  atom_written k (numbered n i) is at = numbered_written k n i is at
  atom_written k (free_variable n a i) is at = variable_written k n a i is.0 is.1 at
  atom_written k (meta n none i) is at = absurd is
  atom_written k (meta n (more t ts) i) is at =
      let u = atom_written (k + 1) t is.2 (at + length n + 1) in
      applied_written k n t ts i at is.0 is.1 u (listed_written (k + 1) ts is.3 u.end)
  atom_written k (lam (named_binder n) a t i) is at = absurd is
  atom_written k (lam (numbered_binder n) a t i) is at =
      let p = part_written 0 a is.2 (at + 1 + 1 + 1 + length (decimal n) + 1) in
      lambda_written k n a t i at is.0 is.1 p (atom_written (k + 2) t is.3 (p.end + 1))
  atom_written k (spine h none i) is at = absurd is
  atom_written k (spine h (more t ts) i) is at =
      let g = atom_written (k + 1) h is.2 (at + 1) in
      let u = atom_written (k + 1) t is.3 (g.end + 1) in
      spine_written k h t ts i at is.0 is.1 g u (parts_written (k + 1) ts is.4 u.end)

  listed_written : (k : ℕ) (ts : RTms) → AreSpelledTerms k ts → (at : ℕ) → ListedWritten k ts at
  listed_written k none are at =
      record { end = at; written = no_terms; fits = tt; says = refl; cut = nothing_cut NoPart at }
  listed_written k (more t ts) are at =
      let u = atom_written k t are.0 (at + 1) in
      listed_more k t ts at u (listed_written k ts are.1 u.end)

  parts_written : (k : ℕ) (ts : RTms) → AreSpelledTerms k ts → (at : ℕ) → PartsWritten k ts at
  parts_written k none are at =
      record { end = at; written = no_atoms; fits = tt; says = refl; cut = nothing_cut NoPart at }
  parts_written k (more t ts) are at =
      let u = atom_written k t are.0 (at + 1) in
      parts_more k t ts at u (parts_written k ts are.1 u.end)

-- a canonical side is one atom
pub term_written : (t : RTm) → IsSpelledTerm 0 t → (at : ℕ) → TermWritten t at
term_written t is at =
    let u = atom_written 0 t is at in
    record { end = u.end; written = atoms u.written no_atoms; fits = (u.fits, tt); says = u.says; cut = u.cut }
