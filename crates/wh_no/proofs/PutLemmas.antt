-- Lines that say what is put for variables.
use Rattle.std.proofs.Common.{◌≡◌, ℕ, zero, suc, ◌+◌, ◌-◌, ◌<◌, ◌≤◌, List, [], ◌∷◌, ◌++◌, length, map, take, get_or, Bool, true, false, IsTrue, MatchBool, ◌↔◌, Option, Some, None, option_map, AllPairs, refl, ap, sym, ◌∙◌, subst, arith, add-one, ⊎_elim}
use Rattle.std.specs.Prelude.{slice_get, option_and_then}
use Rattle.std.specs.Str.{bytes_eq}
use Rattle.std.proofs.Math.Seq.{take-suc}
use Rattle.std.proofs.lemmas.List.{length-take-le}
use Rattle.std.proofs.lemmas.List.Elements.{All-append, All-cons, All-nil}
use Rattle.std.proofs.lemmas.List.Quantifiers.{all_pairs_push, position-Some}
use Rattle.std.proofs.lemmas.Option.{slice_get-map, slice_get_read, slice_get_within, slice_get-get_or, get_or_from_slice_get}
use Rattle.std.proofs.lemmas.Bool.{cases_lt}
use Rattle.wh_types.specs.Ty.{Ty, sort, ◌⇒◌, SortsBelow}
use Rattle.wh_terms.specs.Tree.{Tm, fun}
use Rattle.wh_terms.specs.Typing.{Symbols, Typed}
use Rattle.wh_types.specs.declared.simple_type.SimpleType.{SimpleType}
use Rattle.wh_terms.specs.Erase.{declared_metas}
use Rattle.wh_terms.specs.Scope.{TellsType}
use Rattle.wh_terms.specs.declared.rule.MetaDecl.{MetaDecl}
use Rattle.wh_terms.proofs.TypingLaws.{some_one, typed_one}
use Rattle.wh_text.specs.RawTree.{RTy, raw_type, RTys, no_types, more_types}
use Rattle.wh_system_parts.specs.Naming.{number_of, type_meant, arrows_meant}
use Rattle.wh_system.specs.Systems.{SystemData}
use Rattle.wh_system_making.specs.Resolve.{Means}
use Rattle.wh_cert.specs.declared.certificate.Put as code
use Rattle.wh_cert.specs.Written as written
use Rattle.wh_cert.specs.Said.{said_put}
use Rattle.wh_no.specs.Claim.{Put}
use Rattle.wh_no.specs.Valid.{IsPutOver, IsBelow}
use Rattle.wh_no.specs.Meaning.{SaysPut, SayPuts}
use Rattle.wh_no.specs.Faults.{AreRight, IsAbove, IsRightLine}

-- the sorts of a type that a raw type stands for

no_some : {A : Type 0} {a : A} → None ≡ Some a → ⊥
no_some e = absurd (cc)

number_below : (names : List (List ℕ)) (name : List ℕ) (k : ℕ) → number_of names name ≡ Some k → k < length names
number_below [] name k e = absurd (cc)
number_below (n ∷ names) name k e = (position-Some (λ other. bytes_eq other name) (n ∷ names) k n e).0

sort_below : (names : List (List ℕ)) (o : Option ℕ) (a : Ty) → ((k : ℕ) → o ≡ Some k → k < length names) → option_map sort o ≡ Some a → SortsBelow (length names) a
sort_below names None a h e = absurd (no_some e)
sort_below names (Some k) a h e = subst (SortsBelow (length names)) (some_one e) (h k refl)

arrow_below : (n : ℕ) (o q : Option Ty) (a : Ty) → ((b : Ty) → o ≡ Some b → SortsBelow n b) → ((c : Ty) → q ≡ Some c → SortsBelow n c) → option_and_then (λ b. option_map (λ c. b ⇒ c) q) o ≡ Some a → SortsBelow n a
arrow_below n None q a h k e = absurd (no_some e)
arrow_below n (Some b) None a h k e = absurd (no_some e)
arrow_below n (Some b) (Some c) a h k e = subst (SortsBelow n) (some_one e) (h b refl, k c refl)

mutual
  type_below : (names : List (List ℕ)) (raw : RTy) (a : Ty) → type_meant names raw ≡ Some a → SortsBelow (length names) a
  type_below names (raw_type args s at) a e = arrows_below names args (option_map sort (number_of names s)) (λ b f. sort_below names (number_of names s) b (number_below names s) f) a e

  arrows_below : (names : List (List ℕ)) (args : RTys) (o : Option Ty) → ((b : Ty) → o ≡ Some b → SortsBelow (length names) b) → (a : Ty) → arrows_meant names args o ≡ Some a → SortsBelow (length names) a
  arrows_below names no_types o h a e = h a e
  arrows_below names (more_types b rest) o h a e =
      arrow_below (length names) (type_meant names b) (arrows_meant names rest o) a (type_below names b) (arrows_below names rest o h) e

-- one line

pub put_said : (d : SystemData) (line : written.Put) (n : ℕ) (a : Ty) (v : Tm) → length d.sort_names ≡ d.symbols.sorts → n ≡ line.number → type_meant d.sort_names line.kind ≡ Some a → Means d line.term v → Typed d.symbols [] [] v a
    → SaysPut d line (record { number = n; kind = a; value = v }) × IsPutOver d.symbols (record { number = n; kind = a; value = v })
put_said d line n a v counted number kind value typed =
    (record { number = number; kind = kind; value = value }, record { sorts_are_there = subst (λ k. SortsBelow k a) counted (type_below d.sort_names line.kind a kind); typed = typed })

pub put_ill_typed : (d : SystemData) (line : written.Put) (a : Ty) (v : Tm) → type_meant d.sort_names line.kind ≡ Some a → Means d line.term v → (Typed d.symbols [] [] v a → ⊥)
    → (p : Put) → SaysPut d line p → IsPutOver d.symbols p → ⊥
put_ill_typed d line a v kind value ill p says over =
    let same_value = some_one (sym says.value.named ∙ value.named) in
    let same_kind = some_one (sym says.kind ∙ kind) in
    ill (subst (λ b. Typed d.symbols [] [] v b) same_kind (subst (λ u. Typed d.symbols [] [] u p.kind) same_value over.typed))

-- what is told over no meta-variables
pub told_over : (S R : Symbols) (metas : List MetaDecl) (t : Tm) (o : Option SimpleType) → S ≡ R → metas ≡ [] → TellsType S (declared_metas metas) [] t o → TellsType R [] [] t o
told_over S R metas t o same none told = subst (λ ms. TellsType R (declared_metas ms) [] t o) none (subst (λ Q. TellsType Q (declared_metas metas) [] t o) same told)

-- the answer on a type that was found
pub typed_same : (S : Symbols) (t : Tm) (a b : Ty) (yes : Bool) → Typed S [] [] t b → IsTrue yes ↔ (b ≡ a) → MatchBool yes (Typed S [] [] t a) (Typed S [] [] t a → ⊥)
typed_same S t a b true p h = subst (λ c. Typed S [] [] t c) (h.0 refl) p
typed_same S t a b false p h = λ q. absurd (let e : false ≡ true = h.1 (typed_one p q) in cc)

-- lines one after another

says-snoc : (d : SystemData) (lines : List written.Put) (puts : List Put) (line : written.Put) (p : Put) → SayPuts d lines puts → SaysPut d line p → SayPuts d (lines ++ line ∷ []) (puts ++ p ∷ [])
says-snoc d [] [] line p h s = (s, tt)
says-snoc d [] (q ∷ puts) line p h s = absurd h
says-snoc d (l ∷ lines) [] line p h s = absurd h
says-snoc d (l ∷ lines) (q ∷ puts) line p h s = (h.0, says-snoc d lines puts line p h.1 s)

pub says_length : (d : SystemData) (lines : List written.Put) (puts : List Put) → SayPuts d lines puts → length lines ≡ length puts
says_length d [] [] h = refl
says_length d [] (q ∷ puts) h = absurd h
says_length d (l ∷ lines) [] h = absurd h
says_length d (l ∷ lines) (q ∷ puts) h = ap suc (says_length d lines puts h.1)

pub says_at : (d : SystemData) (lines : List written.Put) (puts : List Put) (k : ℕ) (q : Put) → SayPuts d lines puts → slice_get puts k ≡ Some q → (line : written.Put) × (slice_get lines k ≡ Some line) × SaysPut d line q
says_at d [] [] k q h e = absurd (cc)
says_at d [] (p ∷ puts) k q h e = absurd h
says_at d (l ∷ lines) [] k q h e = absurd h
says_at d (l ∷ lines) (p ∷ puts) zero q h e = (l, refl, subst (SaysPut d l) (some_one e) h.0)
says_at d (l ∷ lines) (p ∷ puts) (suc k) q h e = says_at d lines puts k q h.1 e

pub taken_at : {A : Type 0} (xs : List A) (i k : ℕ) (x : A) → slice_get (take i xs) k ≡ Some x → slice_get xs k ≡ Some x
taken_at [] zero k x e = e
taken_at [] (suc i) k x e = e
taken_at (y ∷ ys) zero k x e = absurd (cc)
taken_at (y ∷ ys) (suc i) zero x e = e
taken_at (y ∷ ys) (suc i) (suc k) x e = taken_at ys i k x e

-- the number n is above the last of these
abbrev pub IsAboveLast : List Put → ℕ → Type 0
IsAboveLast puts n = (k : ℕ) (q : Put) → k + 1 ≡ length puts → slice_get puts k ≡ Some q → q.number < n

all_below : (puts : List Put) (p : Put) → AllPairs IsBelow puts → IsAboveLast puts p.number → (k : ℕ) (d : Put) → k < length puts → IsBelow (get_or puts k d) p
all_below puts p rising last k d within =
    let n = length puts - 1 in
    let highest : (get_or puts n d).number < p.number = last n (get_or puts n d) (omega arith) (slice_get-get_or puts n d (omega arith)) in
    ⊎_elim
    (λ before. let below : (get_or puts k d).number < (get_or puts n d).number = rising k n d before (omega arith) in omega arith)
    (λ there. let same : k ≡ n = omega arith in subst (λ i. (get_or puts i d).number < p.number) (sym same) highest)
    (cases_lt k n)

pub line_here : (puts : List code.Put) (i : ℕ) (put : code.Put) → i < length puts → put ≡ get_or puts i put → slice_get (map said_put puts) i ≡ Some (said_put put)
line_here puts i put within is = slice_get-map said_put puts i ∙ ap (option_map said_put) (slice_get_read puts (length puts) i put refl within is)

pub right_next : (d : SystemData) (lines : List written.Put) (i : ℕ) (line : written.Put) (puts : List Put) (p : Put) → slice_get lines i ≡ Some line → AreRight d (take i lines) puts
    → SaysPut d line p → IsPutOver d.symbols p → IsAboveLast puts line.number → AreRight d (take (i + 1) lines) (puts ++ p ∷ [])
right_next d lines i line puts p here right says over last = record {
  says = subst (λ ls. SayPuts d ls (puts ++ p ∷ [])) (sym longer) (says-snoc d (take i lines) puts line p right.says says);
  over = All-append (IsPutOver d.symbols) puts (p ∷ []) right.over (All-cons (IsPutOver d.symbols) p [] over (All-nil (IsPutOver d.symbols)));
  increasing = all_pairs_push IsBelow puts p right.increasing (all_below puts p right.increasing (subst (IsAboveLast puts) (sym says.number) last));
}
  where
    longer : take (i + 1) lines ≡ take i lines ++ line ∷ []
    longer =
        ap (λ n. take n lines) (add-one i) ∙ take-suc lines i line (slice_get_within lines i line here) ∙ ap (λ l. take i lines ++ l ∷ []) (get_or_from_slice_get lines i line line here)

-- the lines so far, as many as the puts
so_far : (d : SystemData) (lines : List written.Put) (i : ℕ) (puts : List Put) → i ≤ length lines → SayPuts d (take i lines) puts → length puts ≡ i
so_far d lines i puts within says = sym (says_length d (take i lines) puts says) ∙ length-take-le i lines within

pub above_line : (d : SystemData) (lines : List written.Put) (i : ℕ) (line : written.Put) (puts : List Put) → i < length lines → SayPuts d (take i lines) puts → IsAbove lines i line → IsAboveLast puts line.number
above_line d lines i line puts within says above k q e at =
    let counted : length puts ≡ i = so_far d lines i puts (omega arith) says in
    let (before, here, said) = says_at d (take i lines) puts k q says at in
    subst (λ n. n < line.number) (sym said.number) (above k before (e ∙ counted) (taken_at lines i k before here))

pub line_above : (d : SystemData) (lines : List written.Put) (i : ℕ) (line : written.Put) (puts : List Put) → i < length lines → SayPuts d (take i lines) puts → IsAboveLast puts line.number → IsAbove lines i line
line_above d lines i line puts within says last j before e at =
    let counted : length puts ≡ i = so_far d lines i puts (omega arith) says in
    let q = get_or puts j (record { number = 0; kind = sort 0; value = fun 0 }) in
    let there : slice_get puts j ≡ Some q = slice_get-get_or puts j (record { number = 0; kind = sort 0; value = fun 0 }) (omega arith) in
    let (other, here, said) = says_at d (take i lines) puts j q says there in
    let same = some_one (sym (taken_at lines i j other here) ∙ at) in
    subst (λ l. l.number < line.number) same (subst (λ n. n < line.number) said.number (last j q (omega arith) there))

pub right_line : (d : SystemData) (lines : List written.Put) (i : ℕ) (line : written.Put) (puts : List Put) (p : Put) → slice_get lines i ≡ Some line → SayPuts d (take i lines) puts
    → SaysPut d line p → IsPutOver d.symbols p → IsAboveLast puts line.number → IsRightLine d lines i
right_line d lines i line puts p here says said over last =
    record { line = line; here = here; put = p; says = said; over = over; above = line_above d lines i line puts (slice_get_within lines i line here) says last }

-- a line that is not right

pub bad_number : (d : SystemData) (lines : List written.Put) (i : ℕ) (line : written.Put) (puts : List Put) → slice_get lines i ≡ Some line → SayPuts d (take i lines) puts
    → (IsAboveLast puts line.number → ⊥) → IsRightLine d lines i → ⊥
bad_number d lines i line puts here says low right =
    low (subst (λ l. IsAboveLast puts l.number) (some_one (sym right.here ∙ here)) (above_line d lines i right.line puts (slice_get_within lines i line here) says right.above))

pub bad_meaning : (d : SystemData) (lines : List written.Put) (i : ℕ) (line : written.Put) → slice_get lines i ≡ Some line → ((p : Put) → SaysPut d line p → IsPutOver d.symbols p → ⊥) → IsRightLine d lines i → ⊥
bad_meaning d lines i line here ill right = ill right.put (subst (λ l. SaysPut d l right.put) (some_one (sym right.here ∙ here)) right.says) right.over
