use Rattle.std.proofs.Common.{◌≡◌, ℕ, ◌+◌, ◌<◌, zero, suc, Result, Ok, Err, List, [], ◌∷◌, ◌++◌, length, get_or, take, drop, sym, subst, inl, inr, arith}
use Rattle.std.specs.Bool.{if◌then◌else◌}
use Rattle.std.specs.Result.{is_ok}
use Rattle.std.proofs.lemmas.List.{length_push, get_or_append_left, take-append-le, take-append-drop, take_at, take-take}
use Rattle.std.proofs.lemmas.Bool.{cases_eq}
use Rattle.wh_sat_trail.specs.declared.literal.Literal.{Literal}
use Rattle.wh_sat_trail.specs.declared.watch.Stop.{Stop}
use Rattle.wh_sat_trail.specs.declared.look.Look.TheVariants as look
use Rattle.wh_sat_trail.specs.Assignment.{Holds, Open}
use Rattle.wh_sat_trail.specs.Look.{Looks}
use Rattle.wh_sat_trail.specs.Settled.{IsMet, Settled, ground_of}
use Rattle.wh_sat_trail.specs.Watch.{Ordered, no_stop}
use Rattle.wh_sat_trail.proofs.Assigning.{stays}
use Rattle.wh_sat_trail.proofs.Looking.{cases_literal, open_not_false, true_not_false}

pub met_longer : (t u c : List Literal) → IsMet t c → IsMet (t ++ u) c
met_longer t u c m none = m (λ i d w h. none i d w (stays t u _ _ h))

pub met_part : (n : ℕ) (t c : List Literal) → IsMet (take n t) c → IsMet t c
met_part n t c m = subst (λ x. IsMet x c) (take-append-drop n t) (met_longer (take n t) (drop n t) c m)

pub met_ground : (stops : List Stop) (t c : List Literal) → IsMet (ground_of stops t) c → IsMet t c
met_ground [] t c m = m
met_ground (s ∷ stops) t c m = met_part s.mark t c m

-- a clause with a true literal is neither false nor forces one
pub met_quiet : (t c : List Literal) → IsMet t c → Looks t c look.Quiet
met_quiet t c m = (
  λ r. m (λ i d w h. true_not_false _ (get_or c i d).positive h (r i d w)),
  λ l k. m (λ i d w h. elim (cases_literal (get_or c i d) l) [
    | inl same ↦ open_not_false _ (get_or c i d).positive (subst (Open t) (sym same) k.free) h
    | inr other ↦ true_not_false _ (get_or c i d).positive h (k.others i d w other)
  ]),
)

pub met_at : (t c : List Literal) (n : ℕ) (d : Literal) → n < length c → Holds t (get_or c n d) → IsMet t c
met_at t c n d w h none = none n d w h

pub settled_none : (clauses : List (List Literal)) (ground : List Literal) (short : List ℕ) → Settled clauses ground short 0
settled_none clauses ground short = record { within = omega arith; known = λ i w. absurd (omega (arith, w)); met = λ i w. absurd (omega (arith, w)) }

-- another list of literals before the first level, under which the same clauses are true
pub settled_under : (clauses : List (List Literal)) (ground after : List Literal) (short : List ℕ) (settled : ℕ)
    → ((c : List Literal) → IsMet ground c → IsMet after c) → Settled clauses ground short settled → Settled clauses after short settled
settled_under clauses ground after short settled f s = record { within = s.within; known = s.known; met = λ i w. f (get_or clauses (get_or short i 0) []) (s.met i w) }

-- one short clause more
pub settled_step : (clauses : List (List Literal)) (ground : List Literal) (short : List ℕ) (settled : ℕ) → settled < length short → get_or short settled 0 < length clauses
    → IsMet ground (get_or clauses (get_or short settled 0) []) → Settled clauses ground short settled → Settled clauses ground short (settled + 1)
settled_step clauses ground short settled w v m s = record {
  within = omega (arith, w);
  known = λ i u. elim (cases_eq i settled) [
    | inl same ↦ subst (λ j. get_or short j 0 < length clauses) (sym same) v
    | inr other ↦ s.known i (omega (arith, other, u))
  ];
  met = λ i u. elim (cases_eq i settled) [
    | inl same ↦ subst (λ j. IsMet ground (get_or clauses (get_or short j 0) [])) (sym same) m
    | inr other ↦ s.met i (omega (arith, other, u))
  ];
}

-- a literal becomes true
pub settled_push : (clauses : List (List Literal)) (t : List Literal) (stops : List Stop) (head : ℕ) (short : List ℕ) (settled : ℕ) (l : Literal) → Ordered stops head (length t)
    → Settled clauses (ground_of stops t) short settled → Settled clauses (ground_of stops (t ++ l ∷ [])) short settled
settled_push clauses t [] head short settled l o s = settled_under clauses t (t ++ l ∷ []) short settled (met_longer t (l ∷ [])) s
settled_push clauses t (x ∷ stops) head short settled l o s =
    let w : x.mark < length t = o.marks_in 0 (omega arith) in
    subst (λ g. Settled clauses g short settled) (sym (take-append-le x.mark t (l ∷ []) (omega (arith, w)))) s

-- a level begins
pub settled_decide : (clauses : List (List Literal)) (t : List Literal) (stops : List Stop) (head : ℕ) (short : List ℕ) (settled : ℕ) (l : Literal) (at : Stop) → at.mark ≡ length t → Ordered stops head (length t)
    → Settled clauses (ground_of stops t) short settled → Settled clauses (ground_of (stops ++ at ∷ []) (t ++ l ∷ [])) short settled
settled_decide clauses t [] head short settled l at e o s = subst (λ g. Settled clauses g short settled) (sym (take_at t (l ∷ []) at.mark (sym e))) s
settled_decide clauses t (x ∷ stops) head short settled l at e o s =
    let w : x.mark < length t = o.marks_in 0 (omega arith) in
    subst (λ g. Settled clauses g short settled) (sym (take-append-le x.mark t (l ∷ []) (omega (arith, w)))) s

-- some levels end, but their literals stay
pub settled_fewer : (clauses : List (List Literal)) (t : List Literal) (stops : List Stop) (short : List ℕ) (settled level : ℕ)
    → Settled clauses (ground_of stops t) short settled → Settled clauses (ground_of (take level stops) t) short settled
settled_fewer clauses t [] short settled zero s = s
settled_fewer clauses t [] short settled (suc level) s = s
settled_fewer clauses t (x ∷ stops) short settled zero s = settled_under clauses (take x.mark t) t short settled (met_part x.mark t) s
settled_fewer clauses t (x ∷ stops) short settled (suc level) s = s

-- some levels end, and their literals go
pub settled_back : (clauses : List (List Literal)) (t : List Literal) (stops : List Stop) (head : ℕ) (short : List ℕ) (settled level : ℕ) → level < length stops → Ordered stops head (length t)
    → Settled clauses (ground_of stops t) short settled → Settled clauses (ground_of (take level stops) (take (get_or stops level no_stop).mark t)) short settled
settled_back clauses t [] head short settled level w o s = absurd (omega (arith, w))
settled_back clauses t (x ∷ stops) head short settled zero w o s = s
settled_back clauses t (x ∷ stops) head short settled (suc level) w o s =
    let v : x.mark < (get_or (x ∷ stops) (suc level) no_stop).mark = o.marks 0 (suc level) (omega arith) w in
    subst (λ g. Settled clauses g short settled) (sym (take-take x.mark (get_or (x ∷ stops) (suc level) no_stop).mark t (omega (arith, v)))) s

-- a clause joins
pub settled_join : (clauses : List (List Literal)) (ground : List Literal) (short : List ℕ) (settled : ℕ) (c : List Literal)
    → Settled clauses ground short settled → Settled (clauses ++ c ∷ []) ground short settled
settled_join clauses ground short settled c s = record {
  within = s.within;
  known = λ i w. omega (arith, length_push clauses c, s.known i w);
  met = λ i w. subst (IsMet ground) (sym (get_or_append_left clauses (c ∷ []) [] (get_or short i 0) (s.known i w))) (s.met i w);
}

-- a number joins the short clauses
pub settled_short : (clauses : List (List Literal)) (ground : List Literal) (short : List ℕ) (settled n : ℕ)
    → Settled clauses ground short settled → Settled clauses ground (short ++ n ∷ []) settled
settled_short clauses ground short settled n s =
    let at : (i : ℕ) → i < settled → get_or (short ++ n ∷ []) i 0 ≡ get_or short i 0 = λ i w. get_or_append_left short (n ∷ []) 0 i (omega (arith, w, s.within)) in
    record {
      within = omega (arith, length_push short n, s.within);
      known = λ i w. subst (λ k. k < length clauses) (sym (at i w)) (s.known i w);
      met = λ i w. subst (λ k. IsMet ground (get_or clauses k [])) (sym (at i w)) (s.met i w);
    }

-- a push on the short clauses, with memory or without
pub settled_try : {E : Type 0} (clauses : List (List Literal)) (ground : List Literal) (short after : List ℕ) (settled n : ℕ) (r : Result (Unit {0}) E) → after ≡ (if is_ok r then short ++ n ∷ [] else short)
    → Settled clauses ground short settled → Settled clauses ground after settled
settled_try clauses ground short after settled n (Ok x) e s = subst (λ xs. Settled clauses ground xs settled) (sym e) (settled_short clauses ground short settled n s)
settled_try clauses ground short after settled n (Err x) e s = subst (λ xs. Settled clauses ground xs settled) (sym e) s
