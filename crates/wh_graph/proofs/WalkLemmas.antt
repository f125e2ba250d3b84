-- A walk in depth, step by step.
use Rattle.std.proofs.Common.{◌≡◌, ℕ, zero, suc, ◌+◌, ◌<◌, ◌≤◌, ◌⊎◌, inl, inr, Bool, true, false, List, [], ◌∷◌, ◌++◌, length, Option, Some, slice_get, Contains, ap, sym, subst, ◌∙◌, arith}
use Rattle.std.proofs.Math.ListN.{set, replicate}
use Rattle.std.proofs.lemmas.Bool.{cases_eq}
use Rattle.std.proofs.lemmas.List.{length-set}
use Rattle.std.proofs.lemmas.List.Elements.{Contains-append_left, Contains-push, Contains-push_cases}
use Rattle.std.proofs.lemmas.Option.{slice_get_within}
use Rattle.wh_graph.specs.Walks.{Path, stay, go, Walked, IsLeavingOrder}
use Rattle.wh_pairs.proofs.ByPlace.{contains_at, place_of}
use Rattle.wh_graph.proofs.PushLemmas.{push_old, push_new, push_cases, set_here, set_there, same_marks}

pub path_join : {E : ℕ → ℕ → Type 0} {a b c : ℕ} → Path E a b → Path E b c → Path E a c
path_join stay q = q
path_join (go e p) q = go e (path_join p q)

-- marks of what was seen

pub seen_stays : (seen : List Bool) (w x : ℕ) → slice_get seen w ≡ Some false → slice_get seen x ≡ Some true → slice_get (set seen w true) x ≡ Some true
seen_stays seen w x unseen here = elim (cases_eq w x) [
  | inl same ↦ let both : ◌≡◌ {A = Option Bool} (Some false) (Some true) = sym unseen ∙ ap (slice_get seen) same ∙ here in cc
  | inr other ↦ set_there seen w x true other ∙ here
]

seen_now : (seen : List Bool) (w x : ℕ) → slice_get (set seen w true) x ≡ Some true → (slice_get seen x ≡ Some true) ⊎ (w ≡ x)
seen_now seen w x here = elim (cases_eq w x) [
  | inl same ↦ inr same
  | inr other ↦ inl (sym (set_there seen w x true other) ∙ here)
]

-- a new vertex joins the stack
pub walked_push : (E : ℕ → ℕ → Type 0) (n : ℕ) (seen : List Bool) (stack left : List ℕ) (w : ℕ) → Walked E n seen stack left → slice_get seen w ≡ Some false
    → ((k u : ℕ) → slice_get stack k ≡ Some u → Path E u w) → Walked E n (set seen w true) (stack ++ w ∷ []) left
walked_push E n seen stack left w walked unseen paths =
    let now : slice_get (set seen w true) w ≡ Some true = set_here seen w true (slice_get_within seen w false unseen) in
    record {
      size = length-set seen w true ∙ walked.size;
      seen_are = λ x here. elim (seen_now seen w x here) [
        | inl before ↦ elim (walked.seen_are x before) [
          | inl gone ↦ inl gone
          | inr there ↦ inr (Contains-append_left stack (w ∷ []) x there)
        ]
        | inr same ↦ inr (subst (Contains (stack ++ w ∷ [])) same (Contains-push stack w))
      ];
      left_seen = λ x gone. seen_stays seen w x unseen (walked.left_seen x gone);
      stack_seen = λ x there. elim (Contains-push_cases stack w x there) [
        | inl before ↦ seen_stays seen w x unseen (walked.stack_seen x before)
        | inr same ↦ subst (λ y. slice_get (set seen w true) y ≡ Some true) same now
      ];
      path = λ j k u x le at_j at_k. elim (push_cases stack w k x at_k) [
        | inl old_k ↦ elim (push_cases stack w j u at_j) [
          | inl old_j ↦ walked.path j k u x le old_j old_k
          | inr new_j ↦ let within = slice_get_within stack k x old_k in absurd (omega (arith, new_j.0))
        ]
        | inr new_k ↦ elim (push_cases stack w j u at_j) [
          | inl old_j ↦ subst (Path E u) (sym new_k.1) (paths j u old_j)
          | inr new_j ↦ subst (Path E u) (new_j.1 ∙ sym new_k.1) stay
        ]
      ];
      apart = λ x gone there. elim (Contains-push_cases stack w x there) [
        | inl before ↦ walked.apart x gone before
        | inr same ↦ let both : ◌≡◌ {A = Option Bool} (Some false) (Some true) = sym unseen ∙ ap (slice_get seen) same ∙ walked.left_seen x gone in cc
      ];
      once_on_stack = λ j k x at_j at_k. elim (push_cases stack w j x at_j) [
        | inl old_j ↦ elim (push_cases stack w k x at_k) [
          | inl old_k ↦ walked.once_on_stack j k x old_j old_k
          | inr new_k ↦
              let both : ◌≡◌ {A = Option Bool} (Some false) (Some true) = sym unseen ∙ ap (slice_get seen) (sym new_k.1) ∙ walked.stack_seen x (contains_at stack j x old_j) in cc
        ]
        | inr new_j ↦ elim (push_cases stack w k x at_k) [
          | inl old_k ↦
              let both : ◌≡◌ {A = Option Bool} (Some false) (Some true) = sym unseen ∙ ap (slice_get seen) (sym new_j.1) ∙ walked.stack_seen x (contains_at stack k x old_k) in cc
          | inr new_k ↦ new_j.0 ∙ sym new_k.0
        ]
      ];
      once_left = walked.once_left;
      closed = λ u x gone edge. seen_stays seen w x unseen (walked.closed u x gone edge);
      ordered = walked.ordered;
    }

-- the top of the stack is left, when all that follows it was seen
pub walked_leave : (E : ℕ → ℕ → Type 0) (n : ℕ) (seen : List Bool) (rest : List ℕ) (v : ℕ) (left : List ℕ) → Walked E n seen (rest ++ v ∷ []) left
    → ((w : ℕ) → E v w → slice_get seen w ≡ Some true) → Walked E n seen rest (left ++ v ∷ [])
walked_leave E n seen rest v left walked followers =
    let on_top : Contains (rest ++ v ∷ []) v = Contains-push rest v in
    let missing : Contains left v → ⊥ = λ gone. walked.apart v gone on_top in
    let sees : (u w : ℕ) → Contains (left ++ v ∷ []) u → E u w → slice_get seen w ≡ Some true = λ u w gone edge. elim (Contains-push_cases left v u gone) [
      | inl before ↦ walked.closed u w before edge
      | inr same ↦ followers w (subst (λ x. E x w) (sym same) edge)
    ] in
    record {
      size = walked.size;
      seen_are = λ x here. elim (walked.seen_are x here) [
        | inl gone ↦ inl (Contains-append_left left (v ∷ []) x gone)
        | inr there ↦ elim (Contains-push_cases rest v x there) [
          | inl before ↦ inr before
          | inr same ↦ inl (subst (Contains (left ++ v ∷ [])) same (Contains-push left v))
        ]
      ];
      left_seen = λ x gone. elim (Contains-push_cases left v x gone) [
        | inl before ↦ walked.left_seen x before
        | inr same ↦ walked.stack_seen x (subst (Contains (rest ++ v ∷ [])) same on_top)
      ];
      stack_seen = λ x there. walked.stack_seen x (Contains-append_left rest (v ∷ []) x there);
      path = λ j k u w le at_j at_k. walked.path j k u w le (push_old rest v j u at_j) (push_old rest v k w at_k);
      apart = λ x gone there. elim (Contains-push_cases left v x gone) [
        | inl before ↦ walked.apart x before (Contains-append_left rest (v ∷ []) x there)
        | inr same ↦
            let at = place_of rest x there in
            let within = slice_get_within rest at.0 x at.1 in
            let one = walked.once_on_stack at.0 (length rest) x (push_old rest v at.0 x at.1) (push_new rest v ∙ ap Some same) in
            omega arith
      ];
      once_on_stack = λ j k w at_j at_k. walked.once_on_stack j k w (push_old rest v j w at_j) (push_old rest v k w at_k);
      once_left = λ j k w at_j at_k. elim (push_cases left v j w at_j) [
        | inl old_j ↦ elim (push_cases left v k w at_k) [
          | inl old_k ↦ walked.once_left j k w old_j old_k
          | inr new_k ↦ absurd (missing (subst (Contains left) new_k.1 (contains_at left j w old_j)))
        ]
        | inr new_j ↦ elim (push_cases left v k w at_k) [
          | inl old_k ↦ absurd (missing (subst (Contains left) new_j.1 (contains_at left k w old_k)))
          | inr new_k ↦ new_j.0 ∙ sym new_k.0
        ]
      ];
      closed = sees;
      ordered = λ i j y u w at_i le at_j edge. elim (push_cases left v i y at_i) [
        | inl old_i ↦ elim (push_cases left v j u at_j) [
          | inl old_j ↦ elim (walked.ordered i j y u w old_i le old_j edge) [
            | inl (k, below, at) ↦ inl (k, below, push_old left v k w at)
            | inr path ↦ inr path
          ]
          | inr new_j ↦ let within = slice_get_within left i y old_i in absurd (omega (arith, new_j.0))
        ]
        | inr new_i ↦ elim (walked.seen_are w (sees u w (contains_at (left ++ v ∷ []) j u at_j) edge)) [
          | inl gone ↦
              let at = place_of left w gone in
              let within = slice_get_within left at.0 w at.1 in
              inl (at.0, omega (arith, new_i.0), push_old left v at.0 w at.1)
          | inr there ↦
              let at = place_of (rest ++ v ∷ []) w there in
              let top = push_new rest v in
              let within : at.0 ≤ length rest = elim (push_cases rest v at.0 w at.1) [
                | inl old ↦ let below = slice_get_within rest at.0 w old in omega arith
                | inr new ↦ omega (arith, new.0)
              ] in
              inr (subst (Path E w) (sym new_i.1) (walked.path at.0 (length rest) w v within at.1 top))
        ]
      ];
    }

-- before the walk, and after it

pub walked_none : (E : ℕ → ℕ → Type 0) (n m : ℕ) → m ≡ n → length (replicate m false) ≡ m → Walked E n (replicate m false) [] []
walked_none E n m size long = record {
  size = long ∙ size;
  seen_are = λ w here. let both : false ≡ true = same_marks m false w true here in cc;
  left_seen = λ w (k, within, at). absurd (omega arith);
  stack_seen = λ w (k, within, at). absurd (omega arith);
  path = λ j k u w le at_j at_k. cc;
  apart = λ w (k, within, at) there. omega arith;
  once_on_stack = λ j k w at_j at_k. cc;
  once_left = λ j k w at_j at_k. cc;
  closed = λ u w (k, within, at) edge. absurd (omega arith);
  ordered = λ i j y u w at_i le at_j edge. cc;
}

pub walked_all : (E : ℕ → ℕ → Type 0) (n : ℕ) (seen : List Bool) (left : List ℕ) → Walked E n seen [] left → ((v : ℕ) → v < n → slice_get seen v ≡ Some true) → IsLeavingOrder E n left
walked_all E n seen left walked all = record {
  within = λ v gone. let below = slice_get_within seen v true (walked.left_seen v gone) in omega (arith, walked.size);
  whole = λ v below. elim (walked.seen_are v (all v below)) [
    | inl gone ↦ gone
    | inr (k, within, at) ↦ absurd (omega arith)
  ];
  once = walked.once_left;
  ordered = walked.ordered;
}

-- how many are not seen yet

abbrev pub unseen : List Bool → ℕ
unseen [] = 0
unseen (true ∷ marks) = unseen marks
unseen (false ∷ marks) = 1 + unseen marks

pub one_less_unseen : (marks : List Bool) (w : ℕ) → slice_get marks w ≡ Some false → unseen (set marks w true) + 1 ≡ unseen marks
one_less_unseen [] w at = cc
one_less_unseen (true ∷ marks) zero at = cc
one_less_unseen (false ∷ marks) zero at = omega arith
one_less_unseen (true ∷ marks) (suc w) at = one_less_unseen marks w at
one_less_unseen (false ∷ marks) (suc w) at = let less = one_less_unseen marks w at in omega arith

-- each vertex on the stack leads to the top
pub path_to_top : (E : ℕ → ℕ → Type 0) (n : ℕ) (seen : List Bool) (rest : List ℕ) (v : ℕ) (left : List ℕ) → Walked E n seen (rest ++ v ∷ []) left → (k u : ℕ) → slice_get (rest ++ v ∷ []) k ≡ Some u → Path E u v
path_to_top E n seen rest v left walked k u at =
    let within : k ≤ length rest = elim (push_cases rest v k u at) [
      | inl old ↦ let below = slice_get_within rest k u old in omega arith
      | inr new ↦ omega (arith, new.0)
    ] in
    walked.path k (length rest) u v within at (push_new rest v)
