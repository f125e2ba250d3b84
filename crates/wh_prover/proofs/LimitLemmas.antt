-- The limits of certificates hold of what the search makes.
use Rattle.std.proofs.Common.{◌≡◌, ℕ, suc, ◌^◌, ◌<◌, ◌≤◌, List, [], ◌∷◌, length, map, Some, get_or, slice_get, Contains, All, refl, sym, ap, subst, ◌∙◌, arith}
use Rattle.std.proofs.lemmas.Option.{slice_get-get_or}
use Rattle.std.proofs.lemmas.List.{length-map}
use Rattle.std.proofs.lemmas.List.Elements.{All-contains, All-get_or, All-weaker}
use Rattle.wh_types.specs.Ty.{sort}
use Rattle.wh_system.specs.Systems.{SystemData}
use Rattle.wh_system.specs.WellMade.{IsWellMadeSystem, IsTypeOver}
use Rattle.wh_pairs.specs.PairData.{PairData, IsIncreasing}
use Rattle.wh_pairs.proofs.ByPlace.{place_of, contains_at, unmap, remap}
use Rattle.wh_pairs.proofs.KnownLemmas.{takes_arguments}
use Rattle.wh_graph.specs.Components.{AreComponents}
use Rattle.wh_subterm.specs.Projections.{Chosen}
use Rattle.wh_subterm.specs.SubtermRows.{IsPlace, IsProjection, chosen, chosen_symbols}
use Rattle.wh_subterm.specs.declared.projection.Choice.{Choice}
use Rattle.wh_cert.specs.TermLimits.{IsSmall}
use Rattle.wh_cert.specs.Written as w
use Rattle.wh_cert.specs.Limits.{ArgFits, NodeFits, NodeWithin}
use Rattle.wh_proof.specs.Looked.{SayChoices}
use Rattle.wh_pairs.proofs.SetLemmas.{all_from_members}
use Rattle.wh_prover.proofs.CountLemmas.{Apart, apart_increasing, few_below, few_components}
use Rattle.wh_poly_guesses.proofs.LimitLemmas.{wide}

-- blocks

pub blocks_fit : (E : ℕ → ℕ → Type 0) (k : ℕ) (set : List ℕ) (parts : List (List ℕ)) → k ≤ 4096 → IsIncreasing set → ((n : ℕ) → Contains set n → n < k)
    → All IsIncreasing parts → AreComponents E set parts → NodeFits (w.blocks parts)
blocks_fit E k set parts few up below parts_up are = (
  omega (arith, few, few_components E set parts parts_up are, few_below set k (apart_increasing set up) below),
  all_from_members (All IsSmall) parts (λ part found. all_from_members IsSmall part (λ n has.
      let at = place_of parts part found in
      let stands = place_of part n has in
      let less = below n (are.partition.within at.0 n (stands.0, (part, at.1, stands.1))) in
      omega (arith, few, less))),
)

pub blocks_within : (E : ℕ → ℕ → Type 0) (k : ℕ) (set : List ℕ) (parts : List (List ℕ)) → k ≤ 4096 → ((n : ℕ) → Contains set n → n < k)
    → All IsIncreasing parts → AreComponents E set parts → NodeWithin (2 ^ 32) (w.blocks parts)
blocks_within E k set parts few below parts_up are =
    all_from_members (λ (block : List ℕ). length block ≤ 2 ^ 32) parts (λ part found.
    let at = place_of parts part found in
    let long = few_below part k (apart_increasing part (All-contains IsIncreasing parts part parts_up found)) (λ n has.
    let stands = place_of part n has in
    below n (are.partition.within at.0 n (stands.0, (part, at.1, stands.1)))) in
    omega (arith, long, few))

-- choices

-- a chosen symbol has a name
pub place_named : (d : SystemData) (c : Chosen) → IsWellMadeSystem d → IsPlace d.rules c → c.symbol < length d.fun_names
place_named d c made (need, is, above, within) =
    let takes = takes_arguments d made c.symbol need is in omega (arith, takes.known, made.symbols_named)

-- a chosen argument is one of 32
pub place_low : (d : SystemData) (c : Chosen) → IsWellMadeSystem d → IsPlace d.rules c → c.argument ≤ 65535
place_low d c made (need, is, above, within) =
    let takes = takes_arguments d made c.symbol need is in
    let over = All-get_or (IsTypeOver d.symbols.sorts) d.symbols.funs c.symbol (sort 0) takes.known made.symbol_types in
    omega (arith, takes.enough, within, wide (get_or d.symbols.funs c.symbol (sort 0)) over.narrow)

-- the lines of choices are as many
pub as_many_said : (d : SystemData) (lines : List w.Arg) (args : List Chosen) → SayChoices d lines args → length lines ≡ length args
as_many_said d [] [] says = refl
as_many_said d (line ∷ lines) (c ∷ args) says = ap suc (as_many_said d lines args says.1)
as_many_said d [] (c ∷ args) says = absurd says
as_many_said d (line ∷ lines) [] says = absurd says

pub few_choices : (d : SystemData) (ps : List PairData) (set : List ℕ) (args : List Chosen) (drop : List ℕ) → IsWellMadeSystem d
    → IsProjection d.rules ps set args drop → length args ≤ 1024
few_choices d ps set args drop made is =
    let named : (f : ℕ) → Contains (chosen_symbols args) f → f < length d.fun_names = λ f found.
    let at = place_of (chosen_symbols args) f found in
    let c = unmap (λ c. c.symbol) args at.0 f at.1 in
    subst (λ g. g < length d.fun_names) c.2 (place_named d c.0 made (All-contains (IsPlace d.rules) args c.0 is.places (contains_at args at.0 c.0 c.1))) in
    let few = few_below (chosen_symbols args) (length d.fun_names) (apart_increasing (chosen_symbols args) is.marked.in_order) named in
    omega (arith, few, length-map args (λ (c : Chosen). c.symbol), made.symbols_named, made.symbols_within)

pub apart_once : (drop : List ℕ) → ((i j n : ℕ) → slice_get drop i ≡ Some n → slice_get drop j ≡ Some n → i ≡ j) → Apart drop
apart_once drop once i j d less within e =
    let same = once i j (get_or drop i d) (slice_get-get_or drop i d (omega arith)) (slice_get-get_or drop j d within ∙ ap Some (sym e)) in
    omega (arith, same, less)

pub subterm_fits : (k : ℕ) (set : List ℕ) (lines : List w.Arg) (drop : List ℕ) → k ≤ 4096 → ((n : ℕ) → Contains set n → n < k)
    → All (Contains set) drop → All ArgFits lines → NodeFits (w.subterm lines drop)
subterm_fits k set lines drop few below within fit = (
  fit,
  all_from_members IsSmall drop (λ n has. let less = below n (All-contains (Contains set) drop n within has) in omega (arith, few, less)),
)

pub subterm_within : (d : SystemData) (ps : List PairData) (k : ℕ) (set : List ℕ) (lines : List w.Arg) (args : List Chosen) (drop : List ℕ)
    → IsWellMadeSystem d → k ≤ 4096 → ((n : ℕ) → Contains set n → n < k) → SayChoices d lines args → IsProjection d.rules ps set args drop
    → NodeWithin (2 ^ 32) (w.subterm lines drop)
subterm_within d ps k set lines args drop made few below says is = (
  omega (arith, as_many_said d lines args says, few_choices d ps set args drop made is),
  omega (arith, few, few_below drop k (apart_once drop is.once) (λ n has. below n (All-contains (Contains set) drop n is.within has))),
)

-- the same of the choices of the program

all_chosen : (P : Chosen → Type 0) (args : List Choice) → All P (map chosen args) → All (λ c. P (chosen c)) args
all_chosen P args all =
    all_from_members (λ c. P (chosen c)) args (λ c found.
    let at = place_of args c found in
    All-contains P (map chosen args) (chosen c) all (contains_at (map chosen args) at.0 (chosen c) (remap chosen args at.0 c at.1)))

pub choices_named : (d : SystemData) (args : List Choice) → IsWellMadeSystem d → All (IsPlace d.rules) (map chosen args)
    → All (λ c. c.symbol < length d.fun_names) args
choices_named d args made places =
    all_chosen (λ c. c.symbol < length d.fun_names) args
    (All-weaker (IsPlace d.rules) (λ c. c.symbol < length d.fun_names) (λ c place. place_named d c made place) (map chosen args) places)

pub choices_low : (d : SystemData) (args : List Choice) → IsWellMadeSystem d → All (IsPlace d.rules) (map chosen args)
    → All (λ c. c.argument ≤ 65535) args
choices_low d args made places =
    all_chosen (λ c. c.argument ≤ 65535) args
    (All-weaker (IsPlace d.rules) (λ c. c.argument ≤ 65535) (λ c place. place_low d c made place) (map chosen args) places)
