-- Canonical terms are spelled as a text may have them.
use Rattle.std.proofs.Common.{ℕ, ◌+◌, ◌*◌, ◌<◌, ◌≤◌, [], All, arith}
use Rattle.wh_terms.specs.Tree.{Tm, bound, free, fun, meta, lam, app, Tms, none as no_tms, more as more_tms}
use Rattle.wh_terms.specs.Sight.{NoFree, AllNoFree}
use Rattle.wh_terms.specs.Measures.{risen, height, heights}
use Rattle.wh_text.specs.Words.{IsName}
use Rattle.wh_text.specs.RawTree.{RTm, named, numbered, free_variable, meta as raw_meta, lam as raw_lam, spine, RTms, none, more}
use Rattle.wh_system.specs.Canonical.{Names, and_last, with_argument, raw_below, each_raw_below, IsNamedBelow, AreNamedBelow}
use Rattle.wh_system.specs.Nesting.{TypesNestWithin, AllTypesNestWithin}
use Rattle.wh_system_print.specs.Sound.{IsSpelledTerm, AreSpelledTerms}
use Rattle.wh_system_print.proofs.CanonicalTypes.{part_spelled}

-- all names are names
pub record AreNames (n : Names) : Type 0 where
  pub sorts : All IsName n.sorts
  pub funs : All IsName n.funs
  pub metas : All IsName n.metas

-- what may get arguments within k levels: a spine keeps its own parentheses, all else goes into new ones
abbrev IsFunction : ℕ → RTm → Type 0
IsFunction k (spine h ts at) = IsSpelledTerm k (spine h ts at)
IsFunction k h = IsSpelledTerm (k + 1) h

-- one argument more
last-spelled : (k : ℕ) (ts : RTms) (u : RTm) → AreSpelledTerms k ts → IsSpelledTerm k u → AreSpelledTerms k (and_last ts u)
last-spelled k none u all here = (here, tt)
last-spelled k (more t ts) u all here = (all.0, last-spelled k ts u all.1 here)

with-spelled : (k : ℕ) (h u : RTm) → k < 400 → IsFunction k h → IsSpelledTerm (k + 1) u → IsSpelledTerm k (with_argument h u)
with-spelled k (named n at) u low head here = (low, tt, head, here, tt)
with-spelled k (numbered n at) u low head here = (low, tt, head, here, tt)
with-spelled k (free_variable n a at) u low head here = (low, tt, head, here, tt)
with-spelled k (raw_meta n ts at) u low head here = (low, tt, head, here, tt)
with-spelled k (raw_lam x a t at) u low head here = (low, tt, head, here, tt)
with-spelled k (spine h none at) u low head here = absurd head
with-spelled k (spine h (more t ts) at) u low head here = (low, head.1, head.2, head.3, last-spelled (k + 1) ts u head.4 here)

-- with an argument a tree is a spine
with-function : (k : ℕ) (h u : RTm) → IsSpelledTerm k (with_argument h u) → IsFunction k (with_argument h u)
with-function k (named n at) u spelled = spelled
with-function k (numbered n at) u spelled = spelled
with-function k (free_variable n a at) u spelled = spelled
with-function k (raw_meta n ts at) u spelled = spelled
with-function k (raw_lam x a t at) u spelled = spelled
with-function k (spine h ts at) u spelled = spelled

-- below d binders, of which each is one of the k levels, the tree takes two levels for each of its height
mutual
  pub term_spelled : (n : Names) → AreNames n → (t : Tm) (d k : ℕ) → d ≤ k → k + 2 * height t ≤ 400 → NoFree t → IsNamedBelow n d t → TypesNestWithin 16 t
      → IsSpelledTerm k (raw_below n d t)
  term_spelled n names (bound i) d k passed low closed all shallow = omega arith
  term_spelled n names (free x a) d k passed low closed all shallow = absurd closed
  term_spelled n names (fun f) d k passed low closed all shallow = names.funs f [] all
  term_spelled n names (meta z no_tms) d k passed low closed all shallow = names.metas z [] all.0
  term_spelled n names (meta z (more_tms t ts)) d k passed low closed all shallow = (
    omega arith,
    names.metas z [] all.0,
    term_spelled n names t d (k + 1) (omega arith) (omega arith) closed.0 all.1.0 shallow.0,
    terms_spelled n names ts d (k + 1) (omega arith) (omega arith) closed.1 all.1.1 shallow.1,
  )
  term_spelled n names (lam a t) d k passed low closed all shallow = (
    omega arith,
    omega arith,
    part_spelled n.sorts names.sorts a 0 all.0 (omega (arith, shallow.0)),
    term_spelled n names t (d + 1) (k + 2) (omega arith) (omega arith) closed all.1 shallow.1,
  )
  term_spelled n names (app t u) d k passed low closed all shallow =
      with-spelled k (raw_below n d t) (raw_below n d u) (omega arith)
      (function-spelled n names t d k passed (omega arith) closed.0 all.0 shallow.0)
      (term_spelled n names u d (k + 1) (omega arith) (omega arith) closed.1 all.1 shallow.1)

  terms_spelled : (n : Names) → AreNames n → (ts : Tms) (d k : ℕ) → d ≤ k → k + 2 * heights ts ≤ 400 → AllNoFree ts → AreNamedBelow n d ts → AllTypesNestWithin 16 ts
      → AreSpelledTerms k (each_raw_below n d ts)
  terms_spelled n names no_tms d k passed low closed all shallow = tt
  terms_spelled n names (more_tms t ts) d k passed low closed all shallow =
      (term_spelled n names t d k passed (omega arith) closed.0 all.0 shallow.0, terms_spelled n names ts d k passed (omega arith) closed.1 all.1 shallow.1)

  function-spelled : (n : Names) → AreNames n → (t : Tm) (d k : ℕ) → d ≤ k → k + 2 * risen t (height t) ≤ 400 → NoFree t → IsNamedBelow n d t → TypesNestWithin 16 t
      → IsFunction k (raw_below n d t)
  function-spelled n names (bound i) d k passed low closed all shallow = omega arith
  function-spelled n names (free x a) d k passed low closed all shallow = absurd closed
  function-spelled n names (fun f) d k passed low closed all shallow = names.funs f [] all
  function-spelled n names (meta z no_tms) d k passed low closed all shallow = names.metas z [] all.0
  function-spelled n names (meta z (more_tms t ts)) d k passed low closed all shallow = (
    omega arith,
    names.metas z [] all.0,
    term_spelled n names t d (k + 1 + 1) (omega arith) (omega arith) closed.0 all.1.0 shallow.0,
    terms_spelled n names ts d (k + 1 + 1) (omega arith) (omega arith) closed.1 all.1.1 shallow.1,
  )
  function-spelled n names (lam a t) d k passed low closed all shallow = (
    omega arith,
    omega arith,
    part_spelled n.sorts names.sorts a 0 all.0 (omega (arith, shallow.0)),
    term_spelled n names t (d + 1) (k + 1 + 2) (omega arith) (omega arith) closed all.1 shallow.1,
  )
  function-spelled n names (app t u) d k passed low closed all shallow =
      with-function k (raw_below n d t) (raw_below n d u)
      (with-spelled k (raw_below n d t) (raw_below n d u) (omega arith)
      (function-spelled n names t d k passed (omega arith) closed.0 all.0 shallow.0)
      (term_spelled n names u d (k + 1) (omega arith) (omega arith) closed.1 all.1 shallow.1))
