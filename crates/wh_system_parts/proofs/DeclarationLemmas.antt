-- Declarations, one after another.
use Rattle.std.proofs.Common.{◌≡◌, ℕ, zero, suc, ◌+◌, ◌<◌, ◌≤◌, ◌||◌, Bool, true, false, List, [], ◌∷◌, ◌++◌, map, length, drop, get_or, Some, None, slice_get, slice_index, nat_lt, unwrap_or, refl, ap, sym, ◌∙◌, append_assoc, append-nil, length-append, arith}
use Rattle.std.proofs.lemmas.Bool.{lt-ltb, le-ltb}
use Rattle.std.proofs.lemmas.List.{drop_more, drop_all, map-append}
use Rattle.wh_types.specs.Ty.{sort}
use Rattle.wh_types.specs.Erase.{ty, tys}
use Rattle.wh_types.specs.declared.simple_type.SimpleType.{SimpleType}
use Rattle.wh_system_parts.specs.declared.fault.SystemFault.{SystemFault}
use Rattle.wh_system_parts.specs.declared.fault.SystemFault.TheVariants.{TooMany, Twice}
use Rattle.wh_system_parts.specs.declared.parts.RawName.{RawName}
use Rattle.wh_system_parts.specs.declared.parts.RawFun.{RawFun}
use Rattle.wh_system_parts.specs.Parts.{RFun}
use Rattle.wh_system_parts.specs.Erase.{rname, rfun}
use Rattle.wh_system_parts.specs.Faults.{first_fault}
use Rattle.wh_system_parts.specs.Naming.{is_declared, type_meant}
use Rattle.wh_system_parts.specs.Declarations.{tests_of_fun}
use Rattle.wh_system_parts.specs.RuleTests.{type_of_raw}
use Rattle.wh_system_parts.specs.Tests.{count_test, names_tests, fun_tests}
use Rattle.wh_system_parts.proofs.FaultLemmas.{fault_at_test, past_test, fault_after, fault_in_first}

-- how many there are

get-map : {X : Type 0} (f : X → ℕ) (xs : List X) (n : ℕ) (x : X) → slice_get xs n ≡ Some x → get_or (map f xs) n 0 ≡ f x
get-map f [] n x e = absurd (cc)
get-map f (y ∷ xs) zero x e = let is : y ≡ x = cc in ap f is
get-map f (y ∷ xs) (suc n) x e = get-map f xs n x e

within-get : {X : Type 0} (xs : List X) (n : ℕ) (x : X) → slice_get xs n ≡ Some x → n < length xs
within-get [] n x e = absurd (cc)
within-get (y ∷ xs) zero x e = omega arith
within-get (y ∷ xs) (suc n) x e = omega (arith, within-get xs n x e)

map-map : {X Y : Type 0} (h : X → Y) (g : Y → ℕ) (xs : List X) → map g (map h xs) ≡ map (λ x. g (h x)) xs
map-map h g [] = refl
map-map h g (x ∷ xs) = ap (λ ys. g (h x) ∷ ys) (map-map h g xs)

map_length-numbers : {X : Type 0} (f : X → ℕ) (xs : List X) → length (map f xs) ≡ length xs
map_length-numbers f [] = refl
map_length-numbers f (x ∷ xs) = ap suc (map_length-numbers f xs)

pub count_over : {X Y : Type 0} (h : X → Y) (g : Y → ℕ) (n : ℕ) (xs : List X) (x : X) → slice_get xs n ≡ Some x
    → first_fault (count_test n (map g (map h xs))) ≡ Some (TooMany (g (h x)))
count_over {X} h g n xs x e =
    let one = map-map h g xs in
    let f = λ (y : X). g (h y) in
    ap (λ ps. first_fault (count_test n ps)) one
    ∙ fault_at_test (nat_lt n (length (map f xs))) (TooMany (slice_index (map f xs) n)) [] (ap (nat_lt n) (map_length-numbers f xs) ∙ lt-ltb n (length xs) (within-get xs n x e))
    ∙ ap (λ a. Some (TooMany a)) (get-map f xs n x e)

pub count_under : {X Y : Type 0} (h : X → Y) (g : Y → ℕ) (n : ℕ) (xs : List X) → length xs ≤ n → first_fault (count_test n (map g (map h xs))) ≡ None
count_under {X} h g n xs few =
    let f = λ (y : X). g (h y) in
    ap (λ ps. first_fault (count_test n ps)) (map-map h g xs)
    ∙ past_test (nat_lt n (length (map f xs))) (TooMany (slice_index (map f xs) n)) [] (ap (nat_lt n) (map_length-numbers f xs) ∙ le-ltb n (length xs) few)

-- a list of declarations, from one on

pub map_next : {X Y : Type 0} (f : X → Y) (xs : List X) (i : ℕ) (x : X) → i < length xs → x ≡ get_or xs i x → map f (drop i xs) ≡ f x ∷ map f (drop (i + 1) xs)
map_next f xs i x within e = ap (map f) (drop_more xs i x within) ∙ ap (λ y. f y ∷ map f (drop (i + 1) xs)) (sym e)

pub map_end : {X Y : Type 0} (f : X → Y) (xs : List X) (i : ℕ) → length xs ≤ i → map f (drop i xs) ≡ []
map_end f xs i past = ap (map f) (drop_all i xs past)

-- a value that joins what came before it
pub list_next : {X Y : Type 0} (f : X → Y) (xs : List X) (i : ℕ) (x : X) (all before after : List Y) → i < length xs → x ≡ get_or xs i x
    → all ≡ before ++ map f (drop i xs) → after ≡ before ++ f x ∷ [] → all ≡ after ++ map f (drop (i + 1) xs)
list_next f xs i x all before after within e same joined =
    same ∙ ap (λ ys. before ++ ys) (map_next f xs i x within e) ∙ sym (append_assoc before (f x ∷ []) (map f (drop (i + 1) xs)))
    ∙ ap (λ ys. ys ++ map f (drop (i + 1) xs)) (sym joined)

pub list_done : {X Y : Type 0} (f : X → Y) (xs : List X) (i : ℕ) (all before : List Y) → length xs ≤ i → all ≡ before ++ map f (drop i xs) → before ≡ all
list_done f xs i all before past same = sym (same ∙ ap (λ ys. before ++ ys) (map_end f xs i past) ∙ append-nil before)

-- the sorts

or-false : (b : Bool) → (b || false) ≡ b
or-false true = refl
or-false false = refl

pub sort_next : (xs : List RawName) (i : ℕ) (n : RawName) (table after : List (List ℕ)) → i < length xs → n ≡ get_or xs i n → is_declared table n.name ≡ false
    → after ≡ table ++ n.name ∷ []
    → first_fault (names_tests [] table (map rname (drop i xs))) ≡ first_fault (names_tests [] after (map rname (drop (i + 1) xs)))
sort_next xs i n table after within e new joined =
    let rest = map rname (drop (i + 1) xs) in
    ap (λ ns. first_fault (names_tests [] table ns)) (map_next rname xs i n within e)
    ∙ past_test (is_declared table n.name || is_declared [] n.name) (Twice n.at) (names_tests [] (table ++ n.name ∷ []) rest) (or-false (is_declared table n.name) ∙ new)
    ∙ ap (λ t. first_fault (names_tests [] t rest)) (sym joined)

pub sort_again : (xs : List RawName) (i : ℕ) (n : RawName) (table : List (List ℕ)) → i < length xs → n ≡ get_or xs i n → is_declared table n.name ≡ true
    → first_fault (names_tests [] table (map rname (drop i xs))) ≡ Some (Twice n.at)
sort_again xs i n table within e known =
    let rest = map rname (drop (i + 1) xs) in
    ap (λ ns. first_fault (names_tests [] table ns)) (map_next rname xs i n within e)
    ∙ fault_at_test (is_declared table n.name || is_declared [] n.name) (Twice n.at) (names_tests [] (table ++ n.name ∷ []) rest) (or-false (is_declared table n.name) ∙ known)

-- the symbols

fun-split : (S before : List (List ℕ)) (f : RFun) (rest : List RFun)
    → first_fault (fun_tests S before (f ∷ rest)) ≡ first_fault (tests_of_fun S before f ++ fun_tests S (before ++ f.name.name ∷ []) rest)
fun-split S before f rest = refl

pub fun_next : (S : List (List ℕ)) (xs : List RawFun) (i : ℕ) (f : RawFun) (table after : List (List ℕ)) → i < length xs → f ≡ get_or xs i f
    → first_fault (tests_of_fun S table (rfun f)) ≡ None → after ≡ table ++ f.name.name ∷ []
    → first_fault (fun_tests S table (map rfun (drop i xs))) ≡ first_fault (fun_tests S after (map rfun (drop (i + 1) xs)))
fun_next S xs i f table after within e passed joined =
    let rest = map rfun (drop (i + 1) xs) in
    ap (λ fs. first_fault (fun_tests S table fs)) (map_next rfun xs i f within e)
    ∙ fun-split S table (rfun f) rest
    ∙ fault_after (tests_of_fun S table (rfun f)) (fun_tests S (table ++ f.name.name ∷ []) rest) passed
    ∙ ap (λ t. first_fault (fun_tests S t rest)) (sym joined)

pub fun_fails : (S : List (List ℕ)) (xs : List RawFun) (i : ℕ) (f : RawFun) (table : List (List ℕ)) (fault : SystemFault) → i < length xs → f ≡ get_or xs i f
    → first_fault (tests_of_fun S table (rfun f)) ≡ Some fault → first_fault (fun_tests S table (map rfun (drop i xs))) ≡ Some fault
fun_fails S xs i f table fault within e failed =
    let rest = map rfun (drop (i + 1) xs) in
    ap (λ fs. first_fault (fun_tests S table fs)) (map_next rfun xs i f within e)
    ∙ fun-split S table (rfun f) rest
    ∙ fault_in_first (tests_of_fun S table (rfun f)) (fun_tests S (table ++ f.name.name ∷ []) rest) fault failed

pub kind_joined : (S : List (List ℕ)) (a : _) (kinds after : List SimpleType) (r : SimpleType) → type_meant S a ≡ Some (ty r) → after ≡ kinds ++ r ∷ []
    → tys after ≡ tys kinds ++ type_of_raw S a ∷ []
kind_joined S a kinds after r is joined =
    ap tys joined ∙ map-append ty kinds (r ∷ []) ∙ ap (λ o. tys kinds ++ unwrap_or o (sort 0) ∷ []) (sym is)

pub map_fused : {X Y Z : Type 0} (h : X → Y) (g : Y → Z) (xs : List X) → map g (map h xs) ≡ map (λ x. g (h x)) xs
map_fused h g [] = refl
map_fused h g (x ∷ xs) = ap (λ ys. g (h x) ∷ ys) (map_fused h g xs)

pub length_joined : {X : Type 0} (xs ys : List X) (x : X) (i : ℕ) → ys ≡ xs ++ x ∷ [] → length xs ≡ i → length ys ≡ i + 1
length_joined xs ys x i joined long = omega (arith, ap length joined, length-append xs (x ∷ []))
