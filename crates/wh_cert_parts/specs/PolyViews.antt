-- The states of the reader of polynomials that the values of its code stand for.
use Rattle.std.specs.Prelude.{ℕ, List, [], ◌∷◌}
use Rattle.wh_poly.specs.Erase.{poly, atoms, polys}
use Rattle.wh_cert_parts.specs.PolyMachine as m
use Rattle.wh_cert_parts.specs.declared.poly_reader.PolyPlace.{PolyPlace}
use Rattle.wh_cert_parts.specs.declared.poly_reader.PolyPlace.TheVariants.{Wanted, Zero, Added, Coefficient, Factor, Variable, Head, Closed}
use Rattle.wh_cert_parts.specs.declared.poly_reader.Part.{Part}
use Rattle.wh_cert_parts.specs.declared.poly_reader.PolyFrame.{PolyFrame}
use Rattle.wh_cert_parts.specs.declared.poly_reader.PolyText.{PolyText}
use Rattle.wh_cert_parts.specs.declared.poly_reader.PolyStep.{PolyStep}
use Rattle.wh_cert_parts.specs.declared.poly_reader.PolyStep.TheVariants.{On, Ended, Wrong}

-- a parenthesis inside others
abbrev pub opened : PolyFrame → m.PolyStack → m.PolyStack
opened f fs = m.inside (poly f.part.sum) f.part.coefficient (atoms f.part.atoms) f.head (polys f.args) fs

-- the open parentheses of the list, from the outermost on, inside those given
abbrev pub opened_in : m.PolyStack → List PolyFrame → m.PolyStack
opened_in fs [] = fs
opened_in fs (f ∷ rest) = opened_in (opened f fs) rest

abbrev pub poly_stack : List PolyFrame → m.PolyStack
poly_stack = opened_in m.outside

abbrev pub place_of : PolyPlace → Part → m.PolyPlace
place_of Wanted p = m.poly_wanted
place_of Zero p = m.nought
place_of Added p = m.added (poly p.sum)
place_of (Coefficient n) p = m.coefficient (poly p.sum) n
place_of Factor p = m.factor_wanted (poly p.sum) p.coefficient (atoms p.atoms)
place_of Variable p = m.head_wanted (poly p.sum) p.coefficient (atoms p.atoms)
place_of (Head n) p = m.head (poly p.sum) p.coefficient (atoms p.atoms) n
place_of Closed p = m.closed_poly (poly p.sum) p.coefficient (atoms p.atoms)

abbrev pub poly_place : PolyText → m.PolyPlace
poly_place t = place_of t.place t.part

-- a step at this byte that left the text so
abbrev pub poly_went : PolyText → ℕ → PolyStep → m.PolyStep
poly_went t b On = m.goes (poly_stack t.stack.items) (poly_place t)
poly_went t b (Ended p) = m.poly_ended (poly p) b
poly_went t b Wrong = m.no_poly

-- where the byte leads behind a coefficient or a factor of the text, which it ends
abbrev pub behind_part_of : PolyText → ℕ → m.PolyStep
behind_part_of t b = m.behind_part (poly_stack t.stack.items) (poly t.part.sum) t.part.coefficient (atoms t.part.atoms) b

-- where the byte leads behind the number of a variable of the text, which it ends
abbrev pub behind_head_of : PolyText → ℕ → ℕ → m.PolyStep
behind_head_of t x b = m.head_ended (poly_stack t.stack.items) (poly t.part.sum) t.part.coefficient (atoms t.part.atoms) x b
