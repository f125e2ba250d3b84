-- Where calls lead to no endless sequence of calls, the symbols are computable.
use Rattle.std.proofs.Common.{◌≡◌, ℕ, ◌+◌, ◌≤◌, List, [], ◌++◌, ◌⊎◌, inl, inr, Contains, Option, Some, None, slice_get, get_or, length, map, take, drop, refl, ap, sym, ◌∙◌, subst, subst₂, arith}
use Rattle.std.proofs.lemmas.List.{take-append-drop, length-take-le}
use Rattle.std.proofs.lemmas.Option.{get_or_from_slice_get, same_Some}
use Rattle.wh_types.specs.Ty.{Ty, sort, arguments, result_sort, SortsBelow}
use Rattle.wh_terms.specs.Tree.{Tm, fun, spine, head, argument_count, tms_of}
use Rattle.wh_terms.specs.Typing.{Typed, typed_fun, AllTyped}
use Rattle.wh_terms.specs.StepOver.{StepOver}
use Rattle.wh_terms.proofs.TypingLaws.{some_one}
use Rattle.wh_terms.proofs.ValueForm.{value}
use Rattle.wh_terms.proofs.ValueTyping.{head-value, spine_bodies}
use Rattle.wh_step.proofs.Instances.{Instance, instance_of, spine_left}
use Rattle.wh_step.proofs.RawStep.{RawStep}
use Rattle.wh_step_laws.specs.Ends.{Ends, ends, StepsIn}
use Rattle.wh_step_laws.specs.Ranks.{rank_of, PlaceHas, IsAccessibleIn}
use Rattle.wh_step_laws.specs.Spines.{ArgumentStep, FrontStep}
use Rattle.wh_step_laws.proofs.EndsLaws.{ends-list}
use Rattle.wh_step_laws.proofs.Fundamental.{ComputableSymbols}
use Rattle.wh_step_laws.proofs.Symbols.{sort_computable, list_at, list_ends, list_step, HasNoRoot, still_computable}
use Rattle.wh_step_laws.proofs.Spines.{spine_one, spine-append, symbol_step}
use Rattle.wh_step_laws.proofs.SystemSteps.{instance_headed, instances_root}
use Rattle.wh_step_laws.proofs.SystemComputable.{known_type}
use Rattle.wh_system.specs.Needs.{need_of}
use Rattle.wh_pairs.specs.PairData.{PairData}
use Rattle.wh_system.specs.Systems.{SystemData}
use Rattle.wh_system.specs.WellMade.{IsWellMadeSystem}
use Rattle.wh_access.specs.Passing.{IsPassing}
use Rattle.wh_access.proofs.FindLemmas.{sorts_known}
use Rattle.wh_pairs.specs.Spines.{spine_arguments, symbol_of}
use Rattle.wh_pairs.specs.Candidates.{candidates}
use Rattle.wh_pairs.specs.Subsumption.{ArePairs}
use Rattle.wh_pairs.proofs.KnownLemmas.{takes_arguments}
use Rattle.wh_proof_calls.specs.MarkedCalls.{MarkedCall, CallStep, CallsEnd}
use Rattle.wh_order_extended.specs.Kinds.{arrows}
use Rattle.wh_proof_calls.proofs.SpineLaws.{count-spine, head-symbol_spine, symbol-spine, value-symbol_spine}
use Rattle.wh_order_extended.proofs.TypeLists.{arrows-arguments, after_arguments, arrows-split, typed_spine, computable-spine, spine-computable, list-append, list-length, list-typed}
use Rattle.wh_proof_calls.proofs.NeedLaws.{rule_need, no_need-heads_no_rule}
use Rattle.wh_proof_calls.proofs.CallLaws.{ComputableIn, ComputableListIn, steps_in-append, fronts_one, IsCallComputable, LeadsToComputable, typed_call, step_leads, right_call}
use Rattle.wh_proof_calls.proofs.ReadBodies.{bodies_computable}
use Rattle.wh_proof_calls.proofs.RightSides.{StillSymbols, rule_right_computable}

-- a symbol without rules is computable
pub still_symbol : (d : SystemData) → IsWellMadeSystem d → (rank : ℕ → ℕ) → StillSymbols d.symbols d.rules rank (RawStep d.rules)
still_symbol d made rank f a none known =
    still_computable (instances_root d.symbols d.rules made.rules) rank (sorts_known d made) f a known no_root
  where
    no_root : HasNoRoot (Instance d.rules) f
    no_root t u i e =
        let h = instance_headed d.symbols d.rules made.rules t u i in
        no_need-heads_no_rule d.rules f none h.rule h.listed (h.left ∙ sym h.here ∙ e)

-- how many arguments an instance of a rule has
need-instance : (d : SystemData) → IsWellMadeSystem d → (f n : ℕ) (us : List Tm) (w : Tm) → need_of d.rules f ≡ Some n
    → Instance d.rules (spine (fun f) us) w → length us ≡ n
need-instance d made f n us w needed i =
    let h = instance_headed d.symbols d.rules made.rules (spine (fun f) us) w i in
    let left : head h.rule.left ≡ fun f = h.left ∙ sym h.here ∙ head-symbol_spine f us in
    let same : n ≡ argument_count h.rule.left =
    same_Some n (argument_count h.rule.left) (sym needed ∙ rule_need d.rules made.rules.even h.rule h.listed f left) in
    let count : argument_count (spine (fun f) us) ≡ 0 + length us = count-spine (fun f) us in
    omega (arith, count, h.count, same)

-- a symbol takes as many arguments as its rules need
need-taken : (d : SystemData) → IsWellMadeSystem d → (f n : ℕ) (a : Ty) → slice_get d.symbols.funs f ≡ Some a → need_of d.rules f ≡ Some n
    → length (take n (arguments a)) ≡ n
need-taken d made f n a known needed =
    let here : get_or d.symbols.funs f (sort 0) ≡ a = get_or_from_slice_get d.symbols.funs f a (sort 0) known in
    length-take-le n (arguments a) (subst (λ a. n ≤ length (arguments a)) here (takes_arguments d made f n needed).enough)

-- a system that is passing under ranks, and its pairs
module _ (d : SystemData) (made : IsWellMadeSystem d) (ranks : List ℕ) (passing : IsPassing d ranks)
    (ps : List PairData) (pairs : ArePairs (candidates d.symbols d.rules) ps) where
  -- computable terms, and lists of these
  abbrev Good : Ty → Tm → Type 0
  Good = ComputableIn d ranks

  abbrev AllGood : List Ty → List Tm → Type 0
  AllGood = ComputableListIn d ranks

  abbrev CallComputable : MarkedCall → Type 0
  CallComputable = IsCallComputable d.symbols d.rules (rank_of ranks) (RawStep d.rules)

  abbrev LeadsTo : MarkedCall → Type 0
  LeadsTo = LeadsToComputable d.symbols d.rules (rank_of ranks) (RawStep d.rules) (Contains ps)

  list_typed : (cs : List Ty) (ts : List Tm) → AllGood cs ts → AllTyped d.symbols [] [] (tms_of ts) cs
  list_typed cs ts h = list-typed d.symbols (rank_of ranks) (RawStep d.rules) cs ts h

  spine_computable : (cs : List Ty) (b : Ty) (t : Tm) (ts : List Tm) → Good (arrows cs b) t → AllGood cs ts → Good b (spine t ts)
  spine_computable cs b t ts c h = computable-spine d.symbols (rank_of ranks) (RawStep d.rules) cs b t ts c h

  -- a symbol with the arguments that its rules need is typed
  front_typed : (f n : ℕ) (a : Ty) → slice_get d.symbols.funs f ≡ Some a → (ss : List Tm) → AllGood (take n (arguments a)) ss
      → Typed d.symbols [] [] (spine (fun f) ss) (after_arguments n a)
  front_typed f n a known ss list =
      typed_spine (fun f) ss (take n (arguments a)) (subst (Typed d.symbols [] [] (fun f)) (arrows-split n a) (typed_fun known))
      (list_typed (take n (arguments a)) ss list)

  -- A call that leads to computable calls alone.
  module _ (f n : ℕ) (a : Ty) (known : slice_get d.symbols.funs f ≡ Some a) (needed : need_of d.rules f ≡ Some n)
      (ss : List Tm) (list : AllGood (take n (arguments a)) ss) (later : LeadsTo (record { symbol = f; arguments = ss })) where
    -- the value of a right side, where the left side has the call for its value
    right_computable : (t w : Tm) → t ≡ spine (fun f) ss → Instance d.rules t w → Good (after_arguments n a) w
    right_computable t w e (instance_of r g c fits fit left right) =
        let S = d.symbols in
        let m = made.rules.each r c in
        let call : MarkedCall = record { symbol = f; arguments = ss } in
        let args : List Tm = spine_arguments r.left in
        let whole : value g r.left ≡ spine (fun f) ss = sym left ∙ e in
        let of_left : head (value g r.left) ≡ fun m.headed.0 = head-value 0 g r.left (spine_left S r m) m.headed.0 m.headed.1 in
        let headed : head r.left ≡ fun f = m.headed.1 ∙ sym of_left ∙ ap head whole ∙ head-symbol_spine f ss in
        let mapped : value g r.left ≡ spine (fun f) (map (value g) args) =
        ap (value g) (sym (symbol-spine f r.left headed)) ∙ value-symbol_spine g f args in
        let same : ss ≡ map (value g) args = (spine_one f f ss (map (value g) args) (sym whole ∙ mapped)).1 in
        let typed : Typed S [] [] (value g r.left) (after_arguments n a) =
        subst (λ v. Typed S [] [] v (after_arguments n a)) (sym whole) (front_typed f n a known ss list) in
        let (one, bodies) = spine_bodies 0 g r.left (spine_left S r m) fits m.typed.1 typed in
        let values : AllGood (take n (arguments a)) (map (value g) args) = subst (AllGood (take n (arguments a))) same list in
        let done : Good m.typed.0 (value g r.right) =
        rule_right_computable made.rules (rank_of ranks) (sorts_known d made) (still_symbol d made (rank_of ranks)) r m.typed.0 g
        (bodies_computable d made ranks passing r c g fits bodies (take n (arguments a)) values) m.typed.2
        (right_call d made ranks ps pairs r c g fits fit bodies call
        (typed_call S d.rules (rank_of ranks) (RawStep d.rules) call a n known needed list) (ap symbol_of (sym headed)) same later) in
        subst₂ Good one (sym right) done

    -- The call with further arguments, of a sort: by induction on these.
    rest_computable : (ws : List Tm) → AllGood (drop n (arguments a)) ws → Ends (StepsIn (RawStep d.rules)) ws
        → Good (sort (result_sort a)) (spine (fun f) (ss ++ ws))
    rest_computable ws h (ends k) =
        sort_computable d.symbols (rank_of ranks) (RawStep d.rules) (result_sort a) (spine (fun f) (ss ++ ws)) typed
        (λ v r. reduct v (λ us m. rest_computable us (stepped (drop n (arguments a)) h m) (k us m)) (symbol_step f (ss ++ ws) r)) argument
      where
        stepped : {ts us : List Tm} (cs : List Ty) → AllGood cs ts → StepsIn (RawStep d.rules) ts us → AllGood cs us
        stepped cs c m = list_step (instances_root d.symbols d.rules made.rules) (rank_of ranks) cs c m

        all : AllGood (arguments a) (ss ++ ws)
        all =
            subst (λ l. AllGood l (ss ++ ws)) (take-append-drop n (arguments a))
            (list-append d.symbols (rank_of ranks) (RawStep d.rules) (take n (arguments a)) (drop n (arguments a)) ss ws list h)

        typed : Typed d.symbols [] [] (spine (fun f) (ss ++ ws)) (sort (result_sort a))
        typed =
            typed_spine (fun f) (ss ++ ws) (arguments a) (subst (Typed d.symbols [] [] (fun f)) (arrows-arguments a) (typed_fun known))
            (list_typed (arguments a) (ss ++ ws) all)

        -- what the call steps to, with the further arguments
        further : (us : List Tm) (w v : Tm) → AllGood (drop n (arguments a)) us → Good (after_arguments n a) w → v ≡ spine w us
            → Good (sort (result_sort a)) v
        further us w v p c e =
            subst (Good (sort (result_sort a))) (sym e) (spine_computable (drop n (arguments a)) (sort (result_sort a)) w us c p)

        member : (us : List Tm) (v : Tm) → v ≡ spine (fun f) us
            → ((us : List Tm) → StepsIn (RawStep d.rules) ws us → Good (sort (result_sort a)) (spine (fun f) (ss ++ us)))
            → ((k : List Tm) × StepsIn (RawStep d.rules) ss k × (us ≡ k ++ ws)) ⊎ ((k : List Tm) × StepsIn (RawStep d.rules) ws k × (us ≡ ss ++ k))
            → Good (sort (result_sort a)) v
        member us v e again (inl (ts, m, i)) =
            let leads =
            step_leads (instances_root d.symbols d.rules made.rules) d.rules (rank_of ranks) (Contains ps) f ss ts a n known needed list m
            in
            further ws (spine (fun f) ts) v h
            (later (record { symbol = f; arguments = ts }) leads a n known needed (stepped (take n (arguments a)) list m))
            (e ∙ ap (spine (fun f)) i ∙ spine-append (fun f) ts ws)
        member us v e again (inr (ts, m, i)) = subst (Good (sort (result_sort a))) (sym (e ∙ ap (spine (fun f)) i)) (again ts m)

        reduct : (v : Tm) → ((us : List Tm) → StepsIn (RawStep d.rules) ws us → Good (sort (result_sort a)) (spine (fun f) (ss ++ us)))
            → ArgumentStep (RawStep d.rules) (fun f) (ss ++ ws) v ⊎ FrontStep (Instance d.rules) (fun f) (ss ++ ws) v
            → Good (sort (result_sort a)) v
        reduct v again (inl (us, m, e)) = member us v e again (steps_in-append ss ws us m)
        reduct v again (inr (us, vs, w, e, i, is)) =
            let count : length ss ≡ n =
            list-length d.symbols (rank_of ranks) (RawStep d.rules) (take n (arguments a)) ss list ∙ need-taken d made f n a known needed in
            let (front, rest) = fronts_one ss ws us vs (count ∙ sym (need-instance d made f n us w needed i)) e in
            further ws w v h (right_computable (spine (fun f) us) w (ap (spine (fun f)) (sym front)) i) (is ∙ ap (spine w) (sym rest))

        argument : (g i : ℕ) (b : Ty) (us : List Tm) (u : Tm) → spine (fun f) (ss ++ ws) ≡ spine (fun g) us → PlaceHas d.symbols g i b
            → IsAccessibleIn (rank_of ranks) (result_sort a) b → slice_get us i ≡ Some u → Good b u
        argument g i b us u e (c, q, o) acc at =
            let (same, members) = spine_one f g (ss ++ ws) us e in
            let one : a ≡ c = some_one (sym known ∙ ap (slice_get d.symbols.funs) same ∙ q) in
            list_at d.symbols (rank_of ranks) (RawStep d.rules) (arguments a) (ss ++ ws) i b u all
            (ap (λ c. slice_get (arguments c) i) one ∙ o) (ap (λ l. slice_get l i) members ∙ at)

  -- a call that leads to computable calls alone is computable
  call_from_later : (c : MarkedCall) → LeadsTo c → CallComputable c
  call_from_later c later a n known needed list =
      let root = instances_root d.symbols d.rules made.rules in
      let rest : List Ty = drop n (arguments a) in
      let typed : Typed d.symbols [] [] (spine (fun c.symbol) c.arguments) (after_arguments n a) =
      front_typed c.symbol n a known c.arguments list in
      spine-computable root (rank_of ranks) rest (sort (result_sort a)) (spine (fun c.symbol) c.arguments)
      (known_type (sorts_known d made) typed) typed
      (λ ws h. subst (Good (sort (result_sort a))) (spine-append (fun c.symbol) c.arguments ws)
      (rest_computable c.symbol n a known needed c.arguments list later ws h (ends-list ws (list_ends root (rank_of ranks) rest ws h))))

  -- a call that leads to no endless sequence of calls is computable
  call_computable : (c : MarkedCall) → Ends (CallStep d.symbols d.rules (RawStep d.rules) (Contains ps)) c → CallComputable c
  call_computable c (ends h) = call_from_later c (λ to s. call_computable to (h to s))

  -- a symbol with rules is computable
  ruled_symbol : CallsEnd d.symbols d.rules (RawStep d.rules) (Contains ps) → (f n : ℕ) (a : Ty) → slice_get d.symbols.funs f ≡ Some a
      → need_of d.rules f ≡ Some n → Good a (fun f)
  ruled_symbol end f n a known needed =
      let root = instances_root d.symbols d.rules made.rules in
      let front : List Ty = take n (arguments a) in
      let split : a ≡ arrows front (after_arguments n a) = arrows-split n a in
      let sorts : SortsBelow d.symbols.sorts (arrows front (after_arguments n a)) =
      subst (SortsBelow d.symbols.sorts) split (sorts_known d made f a known) in
      subst (λ b. Good b (fun f)) (sym split)
      (spine-computable root (rank_of ranks) front (after_arguments n a) (fun f) sorts
      (subst (Typed d.symbols [] [] (fun f)) split (typed_fun known))
      (λ ss h. let c : MarkedCall = record { symbol = f; arguments = ss } in
      call_computable c (end c (list_ends root (rank_of ranks) front ss h)) a n known needed h))

-- where the calls of the pairs end, the symbols are computable
pub symbols_computable : (d : SystemData) → IsWellMadeSystem d → (ranks : List ℕ) → IsPassing d ranks → (ps : List PairData)
    → ArePairs (candidates d.symbols d.rules) ps
    → CallsEnd d.symbols d.rules (StepOver (Instance d.rules)) (Contains ps)
    → ComputableSymbols d.symbols (rank_of ranks) (StepOver (Instance d.rules))
symbols_computable d made ranks passing ps pairs end f a known = by_need (need_of d.rules f) refl
  where
    by_need : (o : Option ℕ) → need_of d.rules f ≡ o → ComputableIn d ranks a (fun f)
    by_need None e = still_symbol d made (rank_of ranks) f a e known
    by_need (Some n) e = ruled_symbol d made ranks passing ps pairs end f n a known e
