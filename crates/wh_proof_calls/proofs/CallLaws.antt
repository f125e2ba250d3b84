-- Marked calls of computable terms: that they are typed, that they step as calls do, and that a call of a right side is
-- computable where those are to which the calls before it lead.
use Rattle.std.proofs.Common.{◌≡◌, ℕ, zero, suc, ◌-◌, ◌≤◌, ◌<◌, List, [], ◌∷◌, ◌++◌, ◌⊎◌, inl, inr, Contains, Some, slice_get, get_or, length, map, take, drop, refl, ap, ap₂, sym, ◌∙◌, subst, subst₂, arith, append-nil}
use Rattle.std.proofs.lemmas.Bool.{cases_lt}
use Rattle.std.proofs.lemmas.List.{take_at, drop_at, take_all, drop_all, take-append-drop, drop-append-le, length-take, length-take-le, length-drop, length-map}
use Rattle.std.proofs.lemmas.Option.{get_or_from_slice_get}
use Rattle.wh_types.specs.Ty.{Ty, sort, arguments, result_sort, SortsBelow}
use Rattle.wh_terms.specs.Tree.{Tm, fun, spine, head, tms_of}
use Rattle.wh_terms.specs.Typing.{Symbols, Typed, typed_fun, AllTyped}
use Rattle.wh_terms.specs.Value.{Body, Values}
use Rattle.wh_terms.specs.TypedBodies.{TypedBodies}
use Rattle.wh_terms.specs.Rules.{RewriteRule}
use Rattle.wh_terms.specs.StepOver.{StepOver}
use Rattle.wh_terms.proofs.ValueForm.{value, FitsBodies}
use Rattle.wh_step.proofs.RawStep.{RawStep}
use Rattle.wh_step_laws.specs.Ends.{StepsIn, step_here, step_there}
use Rattle.wh_step_laws.specs.Ranks.{rank_of}
use Rattle.wh_step_laws.specs.RootRelations.{IsRoot}
use Rattle.wh_step_laws.specs.Computable.{Computable, ComputableList}
use Rattle.wh_step_laws.proofs.Fundamental.{PutsComputable}
use Rattle.wh_step_laws.proofs.Symbols.{list_ends, list_step}
use Rattle.wh_step_laws.proofs.Spines.{spine-append}
use Rattle.wh_step_laws.proofs.SystemSteps.{instances_root}
use Rattle.wh_step_laws.proofs.SystemComputable.{computable-typed}
use Rattle.wh_system.specs.Needs.{need_of}
use Rattle.wh_pairs.specs.PairData.{PairData}
use Rattle.wh_system.specs.Systems.{SystemData}
use Rattle.wh_system.specs.WellMade.{IsWellMadeSystem}
use Rattle.wh_access.proofs.FindLemmas.{sorts_known}
use Rattle.wh_pairs.specs.Spines.{spine_arguments, symbol_of}
use Rattle.wh_pairs.specs.Calls.{Call, calls_of}
use Rattle.wh_pairs.specs.Candidates.{candidates, missing_types}
use Rattle.wh_pairs.specs.Subsumption.{ArePairs}
use Rattle.wh_pairs.proofs.KnownLemmas.{takes_arguments, defined_call}
use Rattle.wh_proof_calls.specs.MarkedCalls.{MarkedCall, IsTypedCall, CallStep}
use Rattle.wh_proof_calls.proofs.Puts.{inst, IsComputableCall}
use Rattle.wh_order_extended.specs.Kinds.{arrows}
use Rattle.wh_order_extended.proofs.TypeLists.{arrows-arguments, arguments-arrows, result-arrows, arrows-append, after_arguments, known_after, typed_spine, computable-spine, spine-computable, list-append, list-length, list-typed}
use Rattle.wh_proof_calls.proofs.Served.{call_served}

-- computable terms of a system
abbrev pub ComputableIn : SystemData → List ℕ → Ty → Tm → Type 0
ComputableIn d ranks = Computable d.symbols (rank_of ranks) (RawStep d.rules)

abbrev pub ComputableListIn : SystemData → List ℕ → List Ty → List Tm → Type 0
ComputableListIn d ranks = ComputableList d.symbols (rank_of ranks) (RawStep d.rules)

-- a member of two lists steps in one of them
pub steps_in-append : {A : Type 0} {R : A → A → Type 0} (l m n : List A) → StepsIn R (l ++ m) n
    → ((k : List A) × StepsIn R l k × (n ≡ k ++ m)) ⊎ ((k : List A) × StepsIn R m k × (n ≡ l ++ k))
steps_in-append [] m n s = inr (n, s, refl)
steps_in-append (a ∷ l) m n (step_here {b = b} r) = inl (b ∷ l, step_here r, refl)
steps_in-append {A = A} {R = R} (a ∷ l) m n (step_there {m = o} s) = more (steps_in-append l m o s)
  where
    more : ((k : List A) × StepsIn R l k × (o ≡ k ++ m)) ⊎ ((k : List A) × StepsIn R m k × (o ≡ l ++ k))
        → ((k : List A) × StepsIn R (a ∷ l) k × (a ∷ o ≡ k ++ m)) ⊎ ((k : List A) × StepsIn R m k × (a ∷ o ≡ a ∷ l ++ k))
    more (inl (k, s, e)) = inl (a ∷ k, step_there s, ap (◌∷◌ a) e)
    more (inr (k, s, e)) = inr (k, s, ap (◌∷◌ a) e)

-- front parts of one length of one list are equal, and so are the rests
pub fronts_one : {A : Type 0} (l m k n : List A) → length l ≡ length k → l ++ m ≡ k ++ n → (l ≡ k) × (m ≡ n)
fronts_one l m k n same e = (
  sym (take_at l m (length l) refl) ∙ ap (take (length l)) e ∙ take_at k n (length l) (sym same),
  sym (drop_at l m (length l) refl) ∙ ap (drop (length l)) e ∙ drop_at k n (length l) (sym same),
)

-- the call with computable arguments, as many as its rules need, is a computable term
abbrev pub IsCallComputable : Symbols → List RewriteRule → (ℕ → ℕ) → (Tm → Tm → Type 0) → MarkedCall → Type 0
IsCallComputable S rules rank R c =
    (a : Ty) (n : ℕ) → slice_get S.funs c.symbol ≡ Some a → need_of rules c.symbol ≡ Some n
    → ComputableList S rank R (take n (arguments a)) c.arguments
    → Computable S rank R (after_arguments n a) (spine (fun c.symbol) c.arguments)

-- all calls that the call leads to are computable
abbrev pub LeadsToComputable : Symbols → List RewriteRule → (ℕ → ℕ) → (Tm → Tm → Type 0) → (PairData → Type 0) → MarkedCall → Type 0
LeadsToComputable S rules rank R P c = (d : MarkedCall) → CallStep S rules R P c d → IsCallComputable S rules rank R d

pub typed_call : (S : Symbols) (rules : List RewriteRule) (rank : ℕ → ℕ) (R : Tm → Tm → Type 0) (c : MarkedCall) (a : Ty) (n : ℕ)
    → slice_get S.funs c.symbol ≡ Some a → need_of rules c.symbol ≡ Some n
    → ComputableList S rank R (take n (arguments a)) c.arguments → IsTypedCall S rules c
typed_call S rules rank R c a n known needed h =
    record { kind = a; need = n; known = known; needed = needed; typed = list-typed S rank R (take n (arguments a)) c.arguments h }

-- a step of an argument leads from a call to a call
pub step_leads : {S : Symbols} {R : Tm → Tm → Type 0} → IsRoot S R
    → (rules : List RewriteRule) (rank : ℕ → ℕ) (P : PairData → Type 0) (f : ℕ) (ss ts : List Tm) (a : Ty) (n : ℕ)
    → slice_get S.funs f ≡ Some a → need_of rules f ≡ Some n
    → ComputableList S rank (StepOver R) (take n (arguments a)) ss → StepsIn (StepOver R) ss ts
    → CallStep S rules (StepOver R) P (record { symbol = f; arguments = ss }) (record { symbol = f; arguments = ts })
step_leads {S = S} {R = R} root rules rank P f ss ts a n known needed h s = record {
  from_typed = typed_call S rules rank (StepOver R) (record { symbol = f; arguments = ss }) a n known needed h;
  to_typed =
      typed_call S rules rank (StepOver R) (record { symbol = f; arguments = ts }) a n known needed
      (list_step root rank (take n (arguments a)) h s);
  leads = inl (record { symbol = refl; arguments = s });
}

-- the first m of two lists are the first m of one, and what these lack of the other
take-append : {A : Type 0} (m : ℕ) (l k : List A) → take m (l ++ k) ≡ take m l ++ drop (length l) (take m (l ++ k))
take-append zero l k = sym (drop_all (length l) [] (omega arith))
take-append (suc m) [] k = refl
take-append (suc m) (a ∷ l) k = ap (◌∷◌ a) (take-append m l k)

-- where one is no longer than m, the other is what it lacks, and what is left
lacks-rest : {A : Type 0} (m : ℕ) (l k : List A) → length l ≤ m → k ≡ drop (length l) (take m (l ++ k)) ++ drop m (l ++ k)
lacks-rest m [] k h = sym (take-append-drop m k)
lacks-rest zero (a ∷ l) k h = absurd (omega arith)
lacks-rest (suc m) (a ∷ l) k h = lacks-rest m l k (omega arith)

-- where it has m members, it lacks none
lacks_none : {A : Type 0} (m : ℕ) (l k : List A) → m ≤ length l → drop (length l) (take m (l ++ k)) ≡ []
lacks_none m l k h =
    drop_all (length l) (take m (l ++ k)) (omega (arith, h, length-take m (l ++ k)))

list-take : (S : Symbols) (rank : ℕ → ℕ) (R : Tm → Tm → Type 0) (n : ℕ) (cs : List Ty) (ts : List Tm) → ComputableList S rank R cs ts
    → ComputableList S rank R (take n cs) (take n ts)
list-take S rank R zero cs ts h = tt
list-take S rank R (suc n) [] [] h = tt
list-take S rank R (suc n) [] (t ∷ ts) h = absurd h
list-take S rank R (suc n) (c ∷ cs) [] h = absurd h
list-take S rank R (suc n) (c ∷ cs) (t ∷ ts) h = (h.0, h.1, list-take S rank R n cs ts h.2)

list-drop : (S : Symbols) (rank : ℕ → ℕ) (R : Tm → Tm → Type 0) (n : ℕ) (cs : List Ty) (ts : List Tm) → ComputableList S rank R cs ts
    → ComputableList S rank R (drop n cs) (drop n ts)
list-drop S rank R zero cs ts h = h
list-drop S rank R (suc n) [] [] h = tt
list-drop S rank R (suc n) [] (t ∷ ts) h = absurd h
list-drop S rank R (suc n) (c ∷ cs) [] h = absurd h
list-drop S rank R (suc n) (c ∷ cs) (t ∷ ts) h = list-drop S rank R n cs ts h.2

-- the type of a symbol after as many arguments as its rules need, where it takes cs to b: either the rest of cs is left,
-- or the last of these arguments are among those of b
after-all : (n : ℕ) (cs : List Ty) (b : Ty) → n ≤ length cs → after_arguments n (arrows cs b) ≡ arrows (drop n cs) b
after-all n cs b h =
    ap₂ (λ l s. arrows l (sort s)) (ap (drop n) (arguments-arrows cs b) ∙ drop-append-le n cs (arguments b) h) (result-arrows cs b)
    ∙ arrows-append (drop n cs) (arguments b) (sort (result_sort b)) ∙ ap (arrows (drop n cs)) (sym (arrows-arguments b))

after-lacks : (n : ℕ) (cs : List Ty) (b : Ty) → length cs ≤ n
    → b ≡ arrows (drop (length cs) (take n (cs ++ arguments b))) (after_arguments n (arrows cs b))
after-lacks n cs b h =
    let ds : List Ty = drop (length cs) (take n (cs ++ arguments b)) in
    arrows-arguments b
    ∙ ap₂ (λ l s. arrows l (sort s)) (lacks-rest n cs (arguments b) h ∙ ap (λ l. ds ++ drop n l) (sym (arguments-arrows cs b)))
    (sym (result-arrows cs b))
    ∙ arrows-append ds (drop n (arguments (arrows cs b))) (sort (result_sort (arrows cs b)))

-- Calls of a right side, where the left side is a call that leads to computable calls alone.
module _ (d : SystemData) (made : IsWellMadeSystem d) (ranks : List ℕ)
    (ps : List PairData) (pairs : ArePairs (candidates d.symbols d.rules) ps)
    (r : RewriteRule) (listed : Contains d.rules r)
    (g : ℕ → Body) (fits : FitsBodies g r.left) (fit : FitsBodies g r.right) (bodies : TypedBodies d.symbols r.metas [] [] g r.left)
    (from : MarkedCall) (typed : IsTypedCall d.symbols d.rules from)
    (symbol : from.symbol ≡ symbol_of (head r.left)) (list : from.arguments ≡ map (value g) (spine_arguments r.left))
    (later : LeadsToComputable d.symbols d.rules (rank_of ranks) (RawStep d.rules) (Contains ps) from) where
  -- A call with computable terms for its loose variables, and computable arguments.
  module _ (c : Call) (at : Contains (calls_of d.rules r) c)
      (τ : ℕ → Tm) (puts : PutsComputable d.symbols (rank_of ranks) (RawStep d.rules) c.binders τ)
      (cs : List Ty) (b : Ty) (known : slice_get d.symbols.funs c.symbol ≡ Some (arrows cs b))
      (h : ComputableListIn d ranks cs (map (inst g τ) c.arguments)) where
    abbrev given : List Tm
    given = map (inst g τ) c.arguments

    abbrev lacked : List Ty
    lacked = drop (length cs) (take c.need (cs ++ arguments b))

    abbrev completed_call : List Tm → MarkedCall
    completed_call ws = record { symbol = c.symbol; arguments = take c.need given ++ ws }

    here : get_or d.symbols.funs c.symbol (sort 0) ≡ arrows cs b
    here = get_or_from_slice_get d.symbols.funs c.symbol (arrows cs b) (sort 0) known

    needed : need_of d.rules c.symbol ≡ Some c.need
    needed = defined_call d.rules r c at

    counted : length cs ≡ length c.arguments
    counted = sym (list-length d.symbols (rank_of ranks) (RawStep d.rules) cs given h) ∙ length-map c.arguments (inst g τ)

    lacks : (ws : List Tm) → ComputableListIn d ranks lacked ws → length ws ≡ c.need - length c.arguments
    lacks ws k =
        let enough : c.need ≤ length (cs ++ arguments b) =
        subst (λ l. c.need ≤ length l) (ap arguments here ∙ arguments-arrows cs b) (takes_arguments d made c.symbol c.need needed).enough in
        list-length d.symbols (rank_of ranks) (RawStep d.rules) lacked ws k ∙ length-drop (length cs) (take c.need (cs ++ arguments b))
        ∙ ap₂ (λ m n. m - n) (length-take-le c.need (cs ++ arguments b) enough) counted

    all_arguments : (ws : List Tm) → ComputableListIn d ranks lacked ws
        → ComputableListIn d ranks (take c.need (arguments (arrows cs b))) (completed_call ws).arguments
    all_arguments ws k =
        subst (λ l. ComputableListIn d ranks l (take c.need given ++ ws))
        (sym (take-append c.need cs (arguments b)) ∙ ap (take c.need) (sym (arguments-arrows cs b)))
        (list-append d.symbols (rank_of ranks) (RawStep d.rules) (take c.need cs) lacked (take c.need given) ws
        (list-take d.symbols (rank_of ranks) (RawStep d.rules) c.need cs given h) k)

    -- a pair leads to it, completed by computable terms for what it lacks
    completed_leads : (ws : List Tm) → ComputableListIn d ranks lacked ws
        → CallStep d.symbols d.rules (RawStep d.rules) (Contains ps) from (completed_call ws)
    completed_leads ws k =
        let S = d.symbols in
        let rank = rank_of ranks in
        let R = RawStep d.rules in
        let kinds : List Ty = take c.need (arguments (arrows cs b)) in
        let missing : lacked ≡ missing_types S c =
        ap₂ (λ n l. drop n (take c.need l)) counted (sym (arguments-arrows cs b) ∙ ap arguments (sym here)) in
        let (p, there, f, p_typed, left_fun, left, right_fun, right) =
        call_served d made ps pairs r listed c at g fits fit bodies τ (λ i a e. computable-typed S rank R a (τ i) (puts i a e)) ws
        (subst (AllTyped S [] [] (tms_of ws)) missing (list-typed S rank R lacked ws k)) (lacks ws k) in
        record {
          from_typed = typed;
          to_typed = typed_call S d.rules rank R (completed_call ws) (arrows cs b) c.need known needed (all_arguments ws k);
          leads = inr (
            p,
            there,
            record {
              leads = record {
                bodies = f;
                typed_bodies = p_typed;
                left_symbol = symbol ∙ sym left_fun;
                left = subst (λ l. Values f (tms_of p.left) (tms_of l)) (sym list) left;
                right_symbol = sym right_fun;
                right = right;
              };
              minimal = list_ends (instances_root S d.rules made.rules) rank kinds (completed_call ws).arguments (all_arguments ws k);
            },
          );
        }

    completed : (ws : List Tm) → ComputableListIn d ranks lacked ws
        → ComputableIn d ranks (after_arguments c.need (arrows cs b)) (spine (fun c.symbol) (take c.need given ++ ws))
    completed ws k = later (completed_call ws) (completed_leads ws k) (arrows cs b) c.need known needed (all_arguments ws k)

    -- the call with all arguments that its symbol needs, and perhaps more
    call_all : c.need ≤ length cs → ComputableIn d ranks b (spine (fun c.symbol) given)
    call_all many =
        let S = d.symbols in
        let rank = rank_of ranks in
        let R = RawStep d.rules in
        let front : List Tm = take c.need given in
        let none : ComputableListIn d ranks lacked [] =
        subst (λ l. ComputableListIn d ranks l []) (sym (lacks_none c.need cs (arguments b) many)) tt in
        let whole : ComputableIn d ranks (arrows (drop c.need cs) b) (spine (fun c.symbol) front) =
        subst₂ (λ a l. ComputableIn d ranks a (spine (fun c.symbol) l)) (after-all c.need cs b many) (append-nil front)
        (completed [] none) in
        let joined : spine (spine (fun c.symbol) front) (drop c.need given) ≡ spine (fun c.symbol) given =
        sym (spine-append (fun c.symbol) front (drop c.need given)) ∙ ap (spine (fun c.symbol)) (take-append-drop c.need given) in
        subst (ComputableIn d ranks b) joined
        (computable-spine S rank R (drop c.need cs) b (spine (fun c.symbol) front) (drop c.need given) whole
        (list-drop S rank R c.need cs given h))

    -- the call that lacks arguments, or none
    call_lacks : length cs ≤ c.need → ComputableIn d ranks b (spine (fun c.symbol) given)
    call_lacks few =
        let S = d.symbols in
        let t : Tm = spine (fun c.symbol) given in
        let left : Ty = after_arguments c.need (arrows cs b) in
        let same : b ≡ arrows lacked left = after-lacks c.need cs b few in
        let count : length given ≡ length cs = list-length S (rank_of ranks) (RawStep d.rules) cs given h in
        let typed : Typed S [] [] t b =
        typed_spine (fun c.symbol) given cs (typed_fun known) (list-typed S (rank_of ranks) (RawStep d.rules) cs given h) in
        let sorts : SortsBelow S.sorts b = known_after S.sorts cs b (sorts_known d made c.symbol (arrows cs b) known) in
        let front : take c.need given ≡ given = take_all c.need given (omega (arith, count, few)) in
        subst (λ b. ComputableIn d ranks b t) (sym same)
        (spine-computable (instances_root S d.rules made.rules) (rank_of ranks) lacked left t (subst (SortsBelow S.sorts) same sorts)
        (subst (Typed S [] [] t) same typed)
        (λ ws k. let joined = ap (λ l. spine (fun c.symbol) (l ++ ws)) front ∙ spine-append (fun c.symbol) given ws in
        subst (ComputableIn d ranks left) joined (completed ws k)))

    call_value : ComputableIn d ranks b (spine (fun c.symbol) given)
    call_value = by_count (cases_lt (length cs) c.need)
      where
        by_count : (length cs < c.need) ⊎ (c.need ≤ length cs) → ComputableIn d ranks b (spine (fun c.symbol) given)
        by_count (inl few) = call_lacks (omega arith)
        by_count (inr many) = call_all many

  pub right_call : (c : Call) → Contains (calls_of d.rules r) c → IsComputableCall d.symbols (rank_of ranks) (RawStep d.rules) g c
  right_call c at τ puts cs b known h = call_value c at τ puts cs b known h
