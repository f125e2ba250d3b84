-- The lines of sorts and symbols and the declarations of meta-variables are cut into what is written there.
use Rattle.std.proofs.Common.{◌≡◌, ℕ, ◌+◌, List, [], ◌∷◌, length, map, All, refl, ap, ap₂}
use Rattle.std.proofs.lemmas.List.Elements.{All-head, All-tail}
use Rattle.wh_types.specs.Ty.{Ty}
use Rattle.wh_terms.specs.Typing.{Declared}
use Rattle.wh_text.specs.Words.{IsName}
use Rattle.wh_text.specs.RawTree.{RTy, RTys, more_types as more_rtys}
use Rattle.wh_system_parts.specs.Parts.{RFun, RMeta}
use Rattle.wh_system.specs.Canonical.{raw_type_of}
use Rattle.wh_system_making.specs.CanonicalParts.{raw_name, raw_types_of, raw_funs_of, raw_metas_of}
use Rattle.wh_system_making.specs.Unplaced.{unplaced_types, unplaced_name, unplaced_fun, unplaced_meta}
use Rattle.wh_system_print.specs.SystemText as T
use Rattle.wh_read.specs.Written.{WType, WTypes, no_types, more_types, WBrackets, no_brackets, brackets, WMeta, WMetas, no_metas, more_metas, WDeclared, nothing, declares, WSort, WFun}
use Rattle.wh_read.specs.Spelled as W
use Rattle.wh_read.specs.Nesting.{TypeFits, TypesFit, BracketsFit, MetaFits, MetasFit, DeclaredFits, Each}
use Rattle.wh_read.specs.Raw.{said_types, said_brackets, said_meta, said_metas, said_declared, said_sort, said_fun}
use Rattle.wh_system_print.specs.Sound.{IsSpelledType}
use Rattle.wh_system_print.specs.Cutting.{Cutting, Any, NoPart}
use Rattle.wh_system_print.proofs.Pieces.{cutting_then, any_then, nothing_cut, sign_cut, space_cut, line_feed_cut, name_cut, sort_cut, fun_cut}
use Rattle.wh_system_print.proofs.SpelledTypes.{TypeWritten, type_written}

-- the canonical type is spelled as a text may have it
abbrev pub IsSpelledOver : List (List ℕ) → Ty → Type 0
IsSpelledOver sorts a = IsSpelledType 0 (raw_type_of sorts a)

-- and so are all types of the declaration
pub record IsSpelledDeclaration (sorts : List (List ℕ)) (d : Declared) : Type 0 where
  pub args : All (IsSpelledOver sorts) d.args
  pub out : IsSpelledOver sorts d.out

-- the sorts

-- the lines that are written for sorts with these names
pub record SortsWritten (names : List (List ℕ)) (at : ℕ) : Type 0 where
  pub end : ℕ
  pub written : List WSort
  pub says : map unplaced_name (map said_sort written) ≡ map unplaced_name (map raw_name names)
  pub cut : Cutting Any at end (T.put_sorts names) (W.put_all W.put_sort written)

written-sort : List ℕ → ℕ → WSort
written-sort n at = record { at = at; name = n; name_at = at + 4 + 1; end_at = at + 4 + 1 + length n }

sort_line : (n : List ℕ) → IsName n → (at : ℕ) → Cutting Any at (at + 4 + 1 + length n + 1 + 1) (T.put_sort n) (W.put_sort (written-sort n at))
unfolding written-sort
sort_line n is at =
    cutting_then (sort_cut at)
    (any_then (space_cut (at + 4))
    (cutting_then (name_cut n (at + 4 + 1) is)
    (any_then (sign_cut 59 (at + 4 + 1 + length n) refl) (line_feed_cut (at + 4 + 1 + length n + 1)))
    (λ r good. refl)))
    (λ r good. refl)

pub sorts_written : (names : List (List ℕ)) → All IsName names → (at : ℕ) → SortsWritten names at
unfolding written-sort
sorts_written [] all at = record { end = at; written = []; says = refl; cut = nothing_cut Any at }
sorts_written (n ∷ names) all at =
    let rest = sorts_written names (All-tail IsName n names all) (at + 4 + 1 + length n + 1 + 1) in
    record {
      end = rest.end;
      written = written-sort n at ∷ rest.written;
      says = ap (λ xs. raw_name n ∷ xs) rest.says;
      cut = any_then (sort_line n (All-head IsName n names all) at) rest.cut;
    }

-- the symbols

-- the lines that are written for symbols with these names and types
pub record FunsWritten (sorts names : List (List ℕ)) (kinds : List Ty) (at : ℕ) : Type 0 where
  pub end : ℕ
  pub written : List WFun
  pub fits : Each (λ f. TypeFits 0 f.kind) written
  pub says : map unplaced_fun (map said_fun written) ≡ map unplaced_fun (raw_funs_of sorts names kinds)
  pub cut : Cutting Any at end (T.put_funs sorts names kinds) (W.put_all W.put_fun written)

written-fun : List ℕ → ℕ → WType → ℕ → WFun
written-fun n at kind end = record { at = at; name = n; name_at = at + 3 + 1; colon_at = at + 3 + 1 + length n; kind = kind; end_at = end }

fun_line : (sorts : List (List ℕ)) (n : List ℕ) → IsName n → (a : Ty) (at : ℕ) (kind : TypeWritten 0 (raw_type_of sorts a) (at + 3 + 1 + length n + 1))
    → Cutting Any at (kind.end + 1 + 1) (T.put_fun sorts n a) (W.put_fun (written-fun n at kind.written kind.end))
unfolding written-fun
fun_line sorts n is a at kind =
    cutting_then (fun_cut at)
    (any_then (space_cut (at + 3))
    (cutting_then (name_cut n (at + 3 + 1) is)
    (any_then (sign_cut 58 (at + 3 + 1 + length n) refl)
    (cutting_then kind.cut
    (any_then (sign_cut 59 kind.end refl) (line_feed_cut (kind.end + 1)))
    (λ r good. refl)))
    (λ r good. refl)))
    (λ r good. refl)

pub funs_written : (sorts names : List (List ℕ)) (kinds : List Ty) → All IsName names → All (IsSpelledOver sorts) kinds → (at : ℕ) → FunsWritten sorts names kinds at
unfolding written-fun
funs_written sorts [] kinds all spelled at = record { end = at; written = []; fits = tt; says = refl; cut = nothing_cut Any at }
funs_written sorts (n ∷ names) [] all spelled at = record { end = at; written = []; fits = tt; says = refl; cut = nothing_cut Any at }
funs_written sorts (n ∷ names) (a ∷ kinds) all spelled at =
    let kind = type_written 0 (raw_type_of sorts a) (All-head (IsSpelledOver sorts) a kinds spelled) (at + 3 + 1 + length n + 1) in
    let rest = funs_written sorts names kinds (All-tail IsName n names all) (All-tail (IsSpelledOver sorts) a kinds spelled) (kind.end + 1 + 1) in
    record {
      end = rest.end;
      written = written-fun n at kind.written kind.end ∷ rest.written;
      fits = (kind.fits, rest.fits);
      says = ap₂ (λ b fs. named n b ∷ fs) kind.says rest.says;
      cut = any_then (fun_line sorts n (All-head IsName n names all) a at kind) rest.cut;
    }
  where
    named : List ℕ → RTy → RFun
    named n kind = record { name = raw_name n; kind = kind }

-- the types in brackets

-- what is written for further types, each behind a comma
record FurtherWritten (sorts : List (List ℕ)) (kinds : List Ty) (at : ℕ) : Type 0 where
  end : ℕ
  written : WTypes
  fits : TypesFit written
  says : unplaced_types (said_types written) ≡ unplaced_types (raw_types_of sorts kinds)
  cut : Cutting NoPart at end (T.put_further sorts kinds) (W.put_types written)

-- a comma goes on no name
further-starts : (sorts : List (List ℕ)) (kinds : List Ty) (r : List ℕ) → NoPart r → NoPart (T.put_further sorts kinds r)
further-starts sorts [] r stops = stops
further-starts sorts (a ∷ kinds) r stops = refl

further_written : (sorts : List (List ℕ)) (kinds : List Ty) → All (IsSpelledOver sorts) kinds → (at : ℕ) → FurtherWritten sorts kinds at
further_written sorts [] spelled at = record { end = at; written = no_types; fits = tt; says = refl; cut = nothing_cut NoPart at }
further_written sorts (a ∷ kinds) spelled at =
    let kind = type_written 0 (raw_type_of sorts a) (All-head (IsSpelledOver sorts) a kinds spelled) (at + 1) in
    let rest = further_written sorts kinds (All-tail (IsSpelledOver sorts) a kinds spelled) kind.end in
    record {
      end = rest.end;
      written = more_types at kind.written rest.written;
      fits = (kind.fits, rest.fits);
      says = ap₂ more_rtys kind.says rest.says;
      cut = any_then (sign_cut 44 at refl) (cutting_then kind.cut rest.cut (λ r good. further-starts sorts kinds r good));
    }

-- what is written for types in brackets, and nothing where there are none
record BracketsWritten (sorts : List (List ℕ)) (kinds : List Ty) (at : ℕ) : Type 0 where
  end : ℕ
  written : WBrackets
  fits : BracketsFit written
  says : unplaced_types (said_brackets written) ≡ unplaced_types (raw_types_of sorts kinds)
  cut : Cutting Any at end (T.put_brackets sorts kinds) (W.put_brackets written)

brackets_written : (sorts : List (List ℕ)) (kinds : List Ty) → All (IsSpelledOver sorts) kinds → (at : ℕ) → BracketsWritten sorts kinds at
brackets_written sorts [] spelled at = record { end = at; written = no_brackets; fits = tt; says = refl; cut = nothing_cut Any at }
brackets_written sorts (a ∷ kinds) spelled at =
    let kind = type_written 0 (raw_type_of sorts a) (All-head (IsSpelledOver sorts) a kinds spelled) (at + 1) in
    let rest = further_written sorts kinds (All-tail (IsSpelledOver sorts) a kinds spelled) kind.end in
    record {
      end = rest.end + 1;
      written = brackets at kind.written rest.written rest.end;
      fits = (kind.fits, rest.fits);
      says = ap₂ more_rtys kind.says rest.says;
      cut =
          any_then (sign_cut 91 at refl)
          (cutting_then kind.cut (cutting_then rest.cut (sign_cut 93 rest.end refl) (λ r good. refl)) (λ r good. further-starts sorts kinds (93 ∷ r) refl));
    }

-- the meta-variables

abbrev raw_meta_of : List (List ℕ) → List ℕ → Declared → RMeta
raw_meta_of sorts n d = record { name = raw_name n; args = raw_types_of sorts d.args; out = raw_type_of sorts d.out }

-- what is written for one
record MetaWritten (sorts : List (List ℕ)) (n : List ℕ) (d : Declared) (at : ℕ) : Type 0 where
  end : ℕ
  written : WMeta
  fits : MetaFits written
  says : unplaced_meta (said_meta written) ≡ unplaced_meta (raw_meta_of sorts n d)
  cut : Cutting NoPart at end (T.put_meta sorts n d) (W.put_meta written)

meta_written : (sorts : List (List ℕ)) (n : List ℕ) → IsName n → (d : Declared) → IsSpelledDeclaration sorts d → (at : ℕ) → MetaWritten sorts n d at
meta_written sorts n is d spelled at =
    let args = brackets_written sorts d.args spelled.args (at + length n + 1) in
    let out = type_written 0 (raw_type_of sorts d.out) spelled.out args.end in
    record {
      end = out.end;
      written = record { name = n; at = at; colon_at = at + length n; args = args.written; result = out.written };
      fits = (args.fits, out.fits);
      says = ap₂ named args.says out.says;
      cut = cutting_then (name_cut n at is) (any_then (sign_cut 58 (at + length n) refl) (any_then args.cut out.cut)) (λ r good. refl);
    }
  where
    named : RTys → RTy → RMeta
    named args out = record { name = raw_name n; args = args; out = out }

-- what is written for further ones, each behind a comma
record MetasWritten (sorts names : List (List ℕ)) (ds : List Declared) (at : ℕ) : Type 0 where
  end : ℕ
  written : WMetas
  fits : MetasFit written
  says : map unplaced_meta (said_metas written) ≡ map unplaced_meta (raw_metas_of sorts names ds)
  cut : Cutting NoPart at end (T.put_further_metas sorts names ds) (W.put_metas written)

-- a comma goes on no name
metas-start : (sorts names : List (List ℕ)) (ds : List Declared) (r : List ℕ) → NoPart r → NoPart (T.put_further_metas sorts names ds r)
metas-start sorts [] ds r stops = stops
metas-start sorts (n ∷ names) [] r stops = stops
metas-start sorts (n ∷ names) (d ∷ ds) r stops = refl

metas_written : (sorts names : List (List ℕ)) (ds : List Declared) → All IsName names → All (IsSpelledDeclaration sorts) ds → (at : ℕ) → MetasWritten sorts names ds at
metas_written sorts [] ds all spelled at = record { end = at; written = no_metas; fits = tt; says = refl; cut = nothing_cut NoPart at }
metas_written sorts (n ∷ names) [] all spelled at = record { end = at; written = no_metas; fits = tt; says = refl; cut = nothing_cut NoPart at }
metas_written sorts (n ∷ names) (d ∷ ds) all spelled at =
    let first = meta_written sorts n (All-head IsName n names all) d (All-head (IsSpelledDeclaration sorts) d ds spelled) (at + 1) in
    let rest = metas_written sorts names ds (All-tail IsName n names all) (All-tail (IsSpelledDeclaration sorts) d ds spelled) first.end in
    record {
      end = rest.end;
      written = more_metas at first.written rest.written;
      fits = (first.fits, rest.fits);
      says = ap₂ (λ m ms. m ∷ ms) first.says rest.says;
      cut = any_then (sign_cut 44 at refl) (cutting_then first.cut rest.cut (λ r good. metas-start sorts names ds r good));
    }

-- what is written between the braces of a rule
pub record DeclaredWritten (sorts names : List (List ℕ)) (ds : List Declared) (at : ℕ) : Type 0 where
  pub end : ℕ
  pub written : WDeclared
  pub fits : DeclaredFits written
  pub says : map unplaced_meta (said_declared written) ≡ map unplaced_meta (raw_metas_of sorts names ds)
  pub cut : Cutting NoPart at end (T.put_metas sorts names ds) (W.put_declared written)

pub declared_written : (sorts names : List (List ℕ)) (ds : List Declared) → All IsName names → All (IsSpelledDeclaration sorts) ds → (at : ℕ) → DeclaredWritten sorts names ds at
declared_written sorts [] ds all spelled at = record { end = at; written = nothing; fits = tt; says = refl; cut = nothing_cut NoPart at }
declared_written sorts (n ∷ names) [] all spelled at = record { end = at; written = nothing; fits = tt; says = refl; cut = nothing_cut NoPart at }
declared_written sorts (n ∷ names) (d ∷ ds) all spelled at =
    let first = meta_written sorts n (All-head IsName n names all) d (All-head (IsSpelledDeclaration sorts) d ds spelled) at in
    let rest = metas_written sorts names ds (All-tail IsName n names all) (All-tail (IsSpelledDeclaration sorts) d ds spelled) first.end in
    record {
      end = rest.end;
      written = declares first.written rest.written;
      fits = (first.fits, rest.fits);
      says = ap₂ (λ m ms. m ∷ ms) first.says rest.says;
      cut = cutting_then first.cut rest.cut (λ r good. metas-start sorts names ds r good);
    }
