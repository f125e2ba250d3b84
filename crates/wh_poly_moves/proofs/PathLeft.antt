-- A walk along a path, in which each giver gets free what the one before it takes over.
use Rattle.std.proofs.Common.{◌≡◌, ℕ, ◌-◌, ◌<◌, ◌≤◌, Some, None, MatchOption, List, length, get_or, refl, ap, sym, subst, ◌∙◌, arith}
use Rattle.std.proofs.lemmas.List.{get_or-set_same, get_or-set_other}
use Rattle.wh_poly.specs.declared.polynomial.Monomial.{Monomial}
use Rattle.wh_hopoly.specs.Erase.{transfers}
use Rattle.wh_hopoly.specs.Moves.{Transfer}
use Rattle.wh_poly_moves.specs.declared.flow.Flow.{Flow}
use Rattle.wh_poly_moves.specs.declared.search.Link.{Link}
use Rattle.wh_poly_moves.specs.declared.search.Step.{Step}
use Rattle.wh_poly_moves.specs.declared.search.Path.{Path}
use Rattle.wh_poly_moves.specs.Flows.{IsFlow, CanGive, AreKeptBut, HasGiven, IsRerouted, WantsAlike, move_at}
use Rattle.wh_poly_moves.specs.Paths.{target, link, IsLink, IsStep, IsPath}
use Rattle.wh_poly_moves.proofs.Moves.{transfers_long}
use Rattle.wh_poly_moves.proofs.FlowSteps.{can_give_from}
use Rattle.wh_poly_moves.proofs.SearchSteps.{weaker}

pub record PathLeft (left right : List Monomial) (start now : Flow) (ss : List Step) (root at giver : ℕ) : Type 0 where
  pub flow : IsFlow left right now
  pub want : now.want.items ≡ start.want.items
  pub here : at < length ss
  pub gives : CanGive left right giver (target ss at)
  pub free : 0 < get_or now.free.items giver 0
  pub linked : (p : ℕ) → p ≤ at → IsStep left right (transfers now.moves.items) ss p
  pub apart : (p q : ℕ) → p < length ss → q < length ss → target ss p ≡ target ss q → p ≡ q
  pub root_is : target ss 0 ≡ root

pub path_at_start : (left right : List Monomial) (flow : Flow) (root : ℕ) (path : Path) → IsFlow left right flow → IsPath left right flow root path
    → PathLeft left right flow flow path.steps.items root path.at path.giver
path_at_start left right flow root path f p = record {
  flow = f;
  want = refl;
  here = p.here;
  gives = p.giver.gives;
  free = p.giver.free;
  linked = λ q h. p.steps.linked q (let l = p.here in omega (arith, l, h));
  apart = p.steps.apart;
  root_is = p.root_is;
}

-- the link at which the walk stands
pub link_at : (left right : List Monomial) (start now : Flow) (ss : List Step) (root at giver : ℕ) (l : Link) → PathLeft left right start now ss root at giver
    → link ss at ≡ Some l → IsLink left right (transfers now.moves.items) ss at l
link_at left right start now ss root at giver l w e =
    subst (λ o. MatchOption o (at ≡ 0) (IsLink left right (transfers now.moves.items) ss at)) e (w.linked at (omega arith))

pub link_here : (left right : List Monomial) (start now : Flow) (ss : List Step) (root at giver : ℕ) (l : Link) → PathLeft left right start now ss root at giver
    → link ss at ≡ Some l → l.through < length now.moves.items
link_here left right start now ss root at giver l w e =
    let h = (link_at left right start now ss root at giver l w e).here in let k = transfers_long now.moves.items in omega (arith, h, k)

pub giver_in : (left right : List Monomial) (start now : Flow) (ss : List Step) (root at giver : ℕ) → PathLeft left right start now ss root at giver
    → giver < length left × (giver < length now.free.items)
giver_in left right start now ss root at giver w = let h = can_give_from left right giver (target ss at) w.gives in let l = w.flow.free_long in (h, omega (arith, h, l))

-- links that are not the one that was used stay
link_stays : (left right : List Monomial) (old new : List Transfer) (ss : List Step) (used p : ℕ) (l : Link) → AreKeptBut (λ e. e ≡ used) old new
    → (l.through ≡ used → ⊥) → IsLink left right old ss p l → IsLink left right new ss p l
link_stays left right old new ss used p l k other i = record {
  here = let a = k.long in let b = i.here in omega (arith, a, b);
  brings = k.to l.through i.here ∙ i.brings;
  some = let a = k.amount l.through i.here other in let b = i.some in omega (arith, a, b);
  before = i.before;
  gives = subst (λ i. CanGive left right i (target ss l.towards)) (sym (k.from l.through i.here)) i.gives;
}

pub path_steps_back : (left right : List Monomial) (start now next : Flow) (ss : List Step) (root at giver first : ℕ) (l : Link) → PathLeft left right start now ss root at giver
    → link ss at ≡ Some l → IsRerouted now l.through giver first next → PathLeft left right start next ss root l.towards first
path_steps_back left right start now next ss root at giver first l w e r =
    let i = link_at left right start now ss root at giver l w e in record {
      flow = r.flow left right w.flow (subst (CanGive left right giver) (sym i.brings) w.gives);
      want = r.want ∙ w.want;
      here = let a = i.before in let b = w.here in omega (arith, a, b);
      gives = subst (λ i. CanGive left right i (target ss l.towards)) (sym r.first_is) i.gives;
      free = r.free w.free i.some;
      linked = λ p h. weaker (link ss p) (λ z. z) (λ k ke ki. link_stays left right (transfers now.moves.items) (transfers next.moves.items) ss l.through p k r.kept
          (λ same. let a = i.before in let b = w.here in
          let z : p ≡ at = w.apart p at (omega (arith, a, b, h)) w.here (sym ki.brings ∙ ap (λ e. (move_at (transfers now.moves.items) e).to) same ∙ i.brings) in omega (arith, z, a, h)) ki)
          (w.linked p (let a = i.before in omega (arith, a, h)));
      apart = w.apart;
      root_is = w.root_is;
    }

-- the walk ends at the root
pub root_given : (left right : List Monomial) (start now : Flow) (ss : List Step) (root at giver : ℕ) → PathLeft left right start now ss root at giver
    → link ss at ≡ None → CanGive left right giver root
root_given left right start now ss root at giver w e =
    let z : at ≡ 0 = subst (λ o. MatchOption o (at ≡ 0) (IsLink left right (transfers now.moves.items) ss at)) e (w.linked at (omega arith)) in
    subst (CanGive left right giver) (ap (target ss) z ∙ w.root_is) w.gives

-- what is wanted then
pub wants_less : (start now next : Flow) (giver root amount : ℕ) → now.want.items ≡ start.want.items → HasGiven now giver root amount next → root < length now.want.items
    → 0 < amount → amount ≤ get_or now.want.items root 0
    → WantsAlike root start next × (get_or next.want.items root 0 < get_or start.want.items root 0)
wants_less start now next giver root amount e g h some l = (
  λ j other. ap (λ xs. get_or xs j 0) g.want ∙ get_or-set_other now.want.items root j _ 0 other ∙ ap (λ xs. get_or xs j 0) e,
  let a = ap (λ xs. get_or xs root 0) g.want in let b = get_or-set_same now.want.items root (get_or now.want.items root 0 - amount) 0 h in let c = ap (λ xs. get_or xs root 0) e in omega (arith, a, b, c, some, l),
)
