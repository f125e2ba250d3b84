-- The types of starts and of right sides are small enough for a certificate.
use Rattle.std.proofs.Common.{◌≡◌, ℕ, ◌+◌, ◌≤◌, List, [], ◌∷◌, length, Some, sym, subst, arith}
use Rattle.std.specs.Prelude.{slice_get, All, max}
use Rattle.std.proofs.lemmas.List.Elements.{All-head, All-tail, All-contains}
use Rattle.wh_types.specs.Ty.{Ty, sort, ◌⇒◌, arguments}
use Rattle.wh_terms.specs.Tree.{Tm, bound, free, fun, meta, lam, app, Tms, none, more}
use Rattle.wh_terms.specs.Typing.{Symbols, Declared, Typed, typed_bound, typed_free, typed_fun, typed_meta, typed_lam, typed_app, AllTyped, typed_none, typed_more}
use Rattle.wh_terms.specs.Rules.{RewriteRule}
use Rattle.wh_system.specs.Systems.{SystemData}
use Rattle.wh_system.specs.Nesting.{type_nesting, part_nesting, TypesNestWithin, AllTypesNestWithin}
use Rattle.wh_system.specs.WellMade.{ArgumentsWithin, TypesWithin, AllTypesWithin, IsTypeOver, IsDeclarationOver, IsWellMadeSystem}
use Rattle.wh_loop_starts.specs.Starts.{function_type, meta_type, freed, freed_spine}
use Rattle.wh_loop_starts.proofs.StartLemmas.{meta_type_at, contains_at, rule_made}
use Rattle.wh_loop_starts.proofs.TypesKept.{TypesHave, AllTypesHave, RightTypesHave}

-- how deep the arguments of a type stand in one another
abbrev pub depth : Ty → ℕ
depth (sort s) = 0
depth (a ⇒ b) = max (1 + depth a) (depth b)

mutual
  depth_part : (a : Ty) → depth a ≤ part_nesting a
  depth_part (sort s) = omega arith
  depth_part (a ⇒ b) = let h = depth_part a in let k = depth_whole b in omega arith

  depth_whole : (a : Ty) → depth a ≤ 1 + type_nesting a
  depth_whole (sort s) = omega arith
  depth_whole (a ⇒ b) = let h = depth_part a in let k = depth_whole b in omega arith

-- a type that fits into a certificate
pub record IsSmallType (a : Ty) : Type 0 where
  pub narrow : ArgumentsWithin 64 a
  pub shallow : depth a ≤ 18

arguments_more : (a : Ty) → ArgumentsWithin 32 a → ArgumentsWithin 64 a
arguments_more (sort s) h = tt
arguments_more (a ⇒ b) h = (omega (arith, h.0), arguments_more a h.1, arguments_more b h.2)

few_arguments : (a : Ty) → ArgumentsWithin 32 a → length (arguments a) ≤ 32
few_arguments (sort s) h = omega arith
few_arguments (a ⇒ b) h = omega (arith, h.0)

side_type : (a : Ty) → ArgumentsWithin 32 a → part_nesting a ≤ 16 → IsSmallType a
side_type a h k = record { narrow = arguments_more a h; shallow = omega (arith, depth_part a) }

-- the types of functions of few small arguments

function_arguments : (cs : List Ty) (a : Ty) → length (arguments (function_type cs a)) ≡ length cs + length (arguments a)
function_arguments [] a = omega arith
function_arguments (c ∷ cs) a = omega (arith, function_arguments cs a)

function_narrow : (n : ℕ) (cs : List Ty) (a : Ty) → length cs ≤ 32 → All (IsTypeOver n) cs → IsTypeOver n a → ArgumentsWithin 64 (function_type cs a)
function_narrow n [] a l h k = arguments_more a k.narrow
function_narrow n (c ∷ cs) a l h k =
    let count = function_arguments cs a in
    let few = few_arguments a k.narrow in
    (omega arith, arguments_more c (All-head (IsTypeOver n) c cs h).narrow, function_narrow n cs a (omega arith) (All-tail (IsTypeOver n) c cs h) k)

function_shallow : (n : ℕ) (cs : List Ty) (a : Ty) → All (IsTypeOver n) cs → IsTypeOver n a → depth (function_type cs a) ≤ 18
function_shallow n [] a h k = omega (arith, depth_whole a, k.shallow)
function_shallow n (c ∷ cs) a h k =
    omega (arith, depth_whole c, (All-head (IsTypeOver n) c cs h).shallow, function_shallow n cs a (All-tail (IsTypeOver n) c cs h) k)

abbrev SmallMetas : List Declared → Type 0
SmallMetas M = (z : ℕ) (d : Declared) → slice_get M z ≡ Some d → IsSmallType (meta_type M z)

small_metas : (n : ℕ) (M : List Declared) → All (IsDeclarationOver n) M → SmallMetas M
small_metas n M h z d e =
    let over = All-contains (IsDeclarationOver n) M d h (contains_at M z d e) in
    subst IsSmallType (sym (meta_type_at M z d e)) (record { narrow = function_narrow n d.args d.out over.narrow over.args over.out; shallow = function_shallow n d.args d.out over.args over.out })

-- sides

mutual
  side_types : (t : Tm) → TypesWithin 32 t → TypesNestWithin 16 t → TypesHave IsSmallType t
  side_types (bound i) h k = tt
  side_types (free x a) h k = side_type a h k
  side_types (fun f) h k = tt
  side_types (meta z ts) h k = all_side_types ts h k
  side_types (lam a t) h k = (side_type a h.0 k.0, side_types t h.1 k.1)
  side_types (app t u) h k = (side_types t h.0 k.0, side_types u h.1 k.1)

  all_side_types : (ts : Tms) → AllTypesWithin 32 ts → AllTypesNestWithin 16 ts → AllTypesHave IsSmallType ts
  all_side_types none h k = tt
  all_side_types (more t ts) h k = (side_types t h.0 k.0, all_side_types ts h.1 k.1)

mutual
  freed_types : {S : Symbols} {M : List Declared} {Γ : List Ty} {t : Tm} {a : Ty} → SmallMetas M → Typed S M Γ t a → TypesHave IsSmallType t → TypesHave IsSmallType (freed M t)
  freed_types m (typed_bound e) h = tt
  freed_types m (typed_free p) h = h
  freed_types m (typed_fun e) h = tt
  freed_types {M = M} m (typed_meta {z = z} {d = d} e us o) h = spine_types m (free z (meta_type M z)) us (m z d e) h
  freed_types m (typed_lam p t) h = (h.0, freed_types m t h.1)
  freed_types m (typed_app t u) h = (freed_types m t h.0, freed_types m u h.1)

  spine_types : {S : Symbols} {M : List Declared} {Γ : List Ty} {ts : Tms} {cs : List Ty} → SmallMetas M → (f : Tm) → AllTyped S M Γ ts cs → TypesHave IsSmallType f → AllTypesHave IsSmallType ts → TypesHave IsSmallType (freed_spine M f ts)
  spine_types m f typed_none k h = k
  spine_types {M = M} m f (typed_more {t = t} q ts) k h = spine_types m (app f (freed M t)) ts (k, freed_types m q h.0) h.1

pub right_types : (d : SystemData) → IsWellMadeSystem d → RightTypesHave IsSmallType d.rules
right_types d made r c =
    let broad = All-contains (λ q. TypesWithin 32 q.left × TypesWithin 32 q.right) d.rules r made.side_types c in
    let deep = All-contains (λ q. TypesNestWithin 16 q.left × TypesNestWithin 16 q.right) d.rules r made.side_types_shallow c in
    side_types r.right broad.1 deep.1

pub start_types : (d : SystemData) (n : ℕ) (r : RewriteRule) → IsWellMadeSystem d → slice_get d.rules n ≡ Some r → TypesHave IsSmallType (freed r.metas r.left)
start_types d n r made at =
    let c = contains_at d.rules n r at in
    let broad = All-contains (λ q. TypesWithin 32 q.left × TypesWithin 32 q.right) d.rules r made.side_types c in
    let deep = All-contains (λ q. TypesNestWithin 16 q.left × TypesNestWithin 16 q.right) d.rules r made.side_types_shallow c in
    let metas = small_metas d.symbols.sorts r.metas (All-contains (λ q. All (IsDeclarationOver d.symbols.sorts) q.metas) d.rules r made.meta_types c) in
    let (a, left, right) = (rule_made d n r made at).typed in
    freed_types metas left (side_types r.left broad.0 deep.0)
