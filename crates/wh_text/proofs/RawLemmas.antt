-- What stands for a raw value whose parts are a list.
use Rattle.std.proofs.Common.{◌≡◌, ℕ, List, refl, sym, ap, ◌∙◌}
use mathlib.Core.Former.{Count}
use Rattle.wh_text.specs.RawTree.{raw_type, RTys, more_types, meta, spine, RTms, more}
use Rattle.wh_text.specs.Erase.{rty, rtys, type_row, rtm, rtms, term_row}
use Rattle.wh_text.specs.declared.raw.RawType.{RawType, RawType', out-RawType, outs-RawType', Row_of-RawType, end_of-RawType, more_of-RawType, items-the_row-RawType, items_shown-the_row-RawType-0, items_hidden-the_row-RawType-0, roll-RawType}
use Rattle.wh_text.specs.declared.raw.RawTerm.{RawTerm, Meta, Meta', Spine, Spine', Row_of-RawTerm, end_of-RawTerm, more_of-RawTerm, items-the_row-RawTerm, items_hidden-the_row-RawTerm-0}

term_row-items : (n : _) (r : Row_of-RawTerm n) → term_row r ≡ rtms (items-the_row-RawTerm n r)
term_row-items n end_of-RawTerm = refl
term_row-items n (more_of-RawTerm t rest) = ap (λ (ts : RTms). more (rtm t) ts) (term_row-items _ rest)

abbrev term_row_of : RawTerm → (n : Count) × Row_of-RawTerm n
term_row_of (Meta' _ _ r _) = (_, r)
term_row_of (Spine' _ _ _ r _) = (_, r)
term_row_of _ = (_, end_of-RawTerm)

pub rtm_meta : (z : List ℕ) (ts : List RawTerm) (at : ℕ) → rtm (Meta z ts at) ≡ meta z (rtms ts) at
rtm_meta z ts at =
    ap (λ (us : RTms). meta z us at) (term_row-items _ (term_row_of (Meta z ts at)).1 ∙ ap rtms (items_hidden-the_row-RawTerm-0 ts))

pub rtm_of_meta : (t : RawTerm) (z : List ℕ) (ts : List RawTerm) (at : ℕ) → t ≡ Meta z ts at → rtm t ≡ meta z (rtms ts) at
rtm_of_meta t z ts at e = ap rtm e ∙ rtm_meta z ts at

pub rtm_of_spine : (t : RawTerm) (h : _) (ts : List RawTerm) (at : ℕ) → t ≡ Spine h ts at → rtm t ≡ spine (rtm h.value) (rtms ts) at
rtm_of_spine t h ts at e =
    ap rtm e ∙ ap (λ (us : RTms). spine (rtm h.value) us at) (term_row-items _ (term_row_of (Spine h ts at)).1 ∙ ap rtms (items_hidden-the_row-RawTerm-0 ts))

type_row-items : (n : _) (r : Row_of-RawType n) → type_row r ≡ rtys (items-the_row-RawType n r)
type_row-items n end_of-RawType = refl
type_row-items n (more_of-RawType a rest) = ap (λ (more : RTys). more_types (rty a) more) (type_row-items _ rest)

pub rty_parts : (a : RawType) → rty a ≡ raw_type (rtys (out-RawType a).args) (out-RawType a).sort (out-RawType a).at
rty_parts (RawType' shape all sort at) =
    rw (outs-RawType' shape all sort at) (ap (λ (ts : RTys). raw_type ts sort at) (type_row-items _ all ∙ ap rtys (sym (items_shown-the_row-RawType-0 shape all))))

abbrev type_row_of : RawType → (n : Count) × Row_of-RawType n
type_row_of (RawType' _ all _ _) = (_, all)

-- the tree of a type that is made of its parts
pub rty_made : (args : List RawType) (sort : List ℕ) (at : ℕ) → rty (roll-RawType (record { args = args; sort = sort; at = at })) ≡ raw_type (rtys args) sort at
unfolding roll-RawType denote.Hole.Carrier.roll
rty_made args sort at =
    ap (λ (ts : RTys). raw_type ts sort at)
    (type_row-items _ (type_row_of (roll-RawType (record { args = args; sort = sort; at = at }))).1 ∙ ap rtys (items_hidden-the_row-RawType-0 args))
