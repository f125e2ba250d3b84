-- What the searches by a climb, by a formula and by guesses find, as one answer.
use Rattle.std.proofs.Common.{◌≡◌, ◌↔◌, ◌+◌, ◌*◌, ◌<◌, ◌≤◌, ℕ, Bool, true, false, IsTrue, sym, ◌∙◌, List, length, Option, Some, None, Result, Ok, Err, IfOk, subst}
use Rattle.wh_system.specs.Systems.{SystemData}
use Rattle.wh_pairs.specs.PairData.{PairData}
use Rattle.wh_cert.specs.Said.{said_node}
use Rattle.wh_cert.specs.declared.certificate.Node.{Node}
use Rattle.wh_sat.specs.declared.solving.Search.{Search}
use Rattle.wh_sat.specs.declared.solving.Search.TheVariants as search
use Rattle.wh_reduction_pairs.specs.TaskData.{TaskData, whole_task}
use Rattle.wh_usable_rules.specs.Least.{IsLeastClosed}
use Rattle.wh_proof.specs.Looked.{poly_task}
use Rattle.wh_poly_guesses.specs.Found.{IsInterpretation}
use Rattle.wh_sat_trail.specs.declared.literal.Literal.{Literal}
use Rattle.wh_poly_blocking.specs.Answers.{IsAnswer}
use Rattle.wh_poly_flat.specs.Flat.{IsFlat}
use Rattle.wh_find_flat.specs.Answers.{IsFlatAnswer}
use Rattle.wh_interpreting.specs.Interpreted.{HasNone, Interprets, IsInterpreted}
use Rattle.wh_interpreting.specs.Lists.{IsAsked, IsListFor, ListsEnd, given_up, most_covered, none, not_asked, not_flat, too_long}

-- a node without a list
pub without_list : (d : SystemData) (ps : List PairData) (set : List ℕ) (node : Node) → IsInterpretation d ps set (said_node node)
    → Interprets d ps set (said_node node)
without_list d ps set node is = record { usable = None; list = tt; is = is }

-- one that lists rules
pub with_list : (d : SystemData) (ps : List PairData) (set listed : List ℕ) (most : ℕ) (found : Search Node) (node : Node)
    → IsAsked d ps set listed → IsFlatAnswer d ps set (Some listed) most found → found ≡ search.Found node
    → Interprets d ps set (said_node node)
with_list d ps set listed most found node asked answer is =
    record { usable = Some listed; list = (asked.least.usable, asked.least.fewer); is = subst (IsFlatAnswer d ps set (Some listed) most) is answer }

-- how the search over a list ends without one
pub ends_none : (d : SystemData) (ps : List PairData) (set listed : List ℕ) (budget most : ℕ) (found : Search Node)
    → IsAsked d ps set listed → IsFlatAnswer d ps set (Some listed) most found → found ≡ search.Nothing → ListsEnd d ps set budget
ends_none d ps set listed budget most found asked answer is =
    none listed asked (subst (IsFlatAnswer d ps set (Some listed) most) is answer)

pub ends_given_up : (d : SystemData) (ps : List PairData) (set listed : List ℕ) (budget most : ℕ) (found : Search Node) (list : List (List Literal))
    → IsAsked d ps set listed → IsFlatAnswer d ps set (Some listed) most found → found ≡ search.Spent list
    → most ≤ budget → budget < 10 * (most + 1) → ListsEnd d ps set budget
ends_given_up d ps set listed budget most found list asked answer is less share =
    given_up listed most list asked (subst (IsFlatAnswer d ps set (Some listed) most) is answer) less share

-- the answer of the wider search
pub by_search : (d : SystemData) (ps : List PairData) (set : List ℕ) (budget : ℕ) (found : Search Node) → ListsEnd d ps set budget
    → IsAnswer d ps set budget found → IsInterpreted d ps set budget found
by_search d ps set budget (search.Found node) lists is = without_list d ps set node is
by_search d ps set budget search.Nothing lists is = record { over_all = is; lists = lists }
by_search d ps set budget (search.Spent list) lists is = record { over_all = is; lists = lists }

pub by_search_if : {E : Type 0} (d : SystemData) (ps : List PairData) (set : List ℕ) (budget : ℕ) (r : Result (Search Node) E)
    → ListsEnd d ps set budget → IfOk r (IsAnswer d ps set budget) → IfOk r (IsInterpreted d ps set budget)
by_search_if d ps set budget (Ok found) lists is = by_search d ps set budget found lists is
by_search_if d ps set budget (Err e) lists is = tt

-- that of the formula over all rules
pub found_by_formula : (d : SystemData) (ps : List PairData) (set : List ℕ) (budget : ℕ) (found : Search Node) (node : Node)
    → IsFlatAnswer d ps set None budget found → found ≡ search.Found node → Interprets d ps set (said_node node)
found_by_formula d ps set budget found node answer is = without_list d ps set node (subst (IsFlatAnswer d ps set None budget) is answer)

pub none_by_formula : (d : SystemData) (ps : List PairData) (set : List ℕ) (budget : ℕ) (found : Search Node) → ListsEnd d ps set budget
    → IsFlatAnswer d ps set None budget found → found ≡ search.Nothing → HasNone d ps set budget
none_by_formula d ps set budget found lists answer is =
    record { over_all = subst (IsFlatAnswer d ps set None budget) is answer; lists = lists }

-- why no formula over a list is made

false_not_true : false ≡ true → ⊥
false_not_true e = cc

pub too_long_list : (d : SystemData) (ps : List PairData) (set listed : List ℕ) → IsLeastClosed (whole_task d.symbols d.rules ps set) listed
    → most_covered < length listed + length set → IsListFor d ps set None
too_long_list d ps set listed least long = too_long listed least long

pub not_flat_list : (d : SystemData) (ps : List PairData) (set listed : List ℕ) (flat : Bool) → IsLeastClosed (whole_task d.symbols d.rules ps set) listed
    → (IsTrue flat ↔ IsFlat (poly_task d ps set (Some listed))) → flat ≡ false → IsListFor d ps set None
not_flat_list d ps set listed flat least is false_is = not_flat listed least (λ f. false_not_true (sym false_is ∙ is.1 f))

pub none_asked : (d : SystemData) (ps : List PairData) (set : List ℕ) (budget : ℕ) (usable : Option (List ℕ)) → IsListFor d ps set usable
    → usable ≡ None → ListsEnd d ps set budget
none_asked d ps set budget usable is none_is = not_asked (subst (IsListFor d ps set) none_is is)

-- whether a set is flat, one way

pub small_if : {E : Type 0} (T : TaskData) (r : Result Bool E) → IfOk r (λ flat. IsTrue flat ↔ IsFlat T) → IfOk r (λ flat. IsTrue flat → IsFlat T)
small_if T (Ok flat) is = is.0
small_if T (Err e) is = tt
