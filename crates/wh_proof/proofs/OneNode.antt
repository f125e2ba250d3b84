-- The lines of a node say one node alone.
use Rattle.std.proofs.Common.{◌≡◌, List, refl, sym, ap, ap₂, ◌∙◌}
use Rattle.wh_system.specs.Systems.{SystemData}
use Rattle.wh_system.specs.WellMade.{AreDistinct}
use Rattle.wh_cert.specs.Written as w
use Rattle.wh_proof.specs.Nodes.{Node, done, alone, blocks, subterm, poly, order}
use Rattle.wh_cert.specs.Interps.{Interp}
use Rattle.wh_polycheck.specs.Readings.{ReadingsData}
use Rattle.wh_order_node.specs.Filterings.{FilteringData}
use Rattle.wh_proof.specs.Looked.{SayReadings, SayFilterings, SaysNode}
use Rattle.wh_proof.proofs.ChoiceLemmas.{one_list_said}
use Rattle.wh_proof.proofs.InterpretationLemmas.{one_interpretations_said, one_marks_said}
use Rattle.wh_proof.proofs.FilterLemmas.{one_filters_said, one_mark_filters_said}

pub one_readings_said : (d : SystemData) (funs marks : List Interp) (a b : ReadingsData) → AreDistinct d.fun_names
    → SayReadings d funs marks a → SayReadings d funs marks b → a ≡ b
one_readings_said d funs marks a b apart p q =
    let symbols : a.symbols ≡ b.symbols = one_interpretations_said d.fun_names d.symbols.funs funs a.symbols b.symbols p.0 q.0 in
    let same : a.marks ≡ b.marks = one_marks_said d marks a.marks b.marks apart p.1 q.1 in
    ap₂ (λ s m. record { symbols = s; marks = m }) symbols same

pub one_filterings_said : (d : SystemData) (funs marks : List w.Filtering) (a b : FilteringData) → AreDistinct d.fun_names
    → SayFilterings d funs marks a → SayFilterings d funs marks b → a ≡ b
one_filterings_said d funs marks a b apart p q =
    let symbols : a.symbols ≡ b.symbols = one_filters_said d.fun_names funs a.symbols b.symbols p.0 q.0 in
    let same : a.marks ≡ b.marks = one_mark_filters_said d marks a.marks b.marks apart p.1 q.1 in
    ap₂ (λ s m. record { symbols = s; marks = m }) symbols same

pub one_node_said : (d : SystemData) (line : w.Node) (a b : Node) → AreDistinct d.fun_names → SaysNode d line a → SaysNode d line b → a ≡ b
one_node_said d w.done done done apart p q = refl
one_node_said d w.done done alone apart p q = absurd q
one_node_said d w.done done (blocks pb) apart p q = absurd q
one_node_said d w.done done (subterm argsb dropb) apart p q = absurd q
one_node_said d w.done done (poly cb rb eb) apart p q = absurd q
one_node_said d w.done done (order db eb) apart p q = absurd q
one_node_said d w.done alone b apart p q = absurd p
one_node_said d w.done (blocks pa) b apart p q = absurd p
one_node_said d w.done (subterm argsa dropa) b apart p q = absurd p
one_node_said d w.done (poly ca ra ea) b apart p q = absurd p
one_node_said d w.done (order da ea) b apart p q = absurd p
one_node_said d w.alone alone alone apart p q = refl
one_node_said d w.alone alone done apart p q = absurd q
one_node_said d w.alone alone (blocks pb) apart p q = absurd q
one_node_said d w.alone alone (subterm argsb dropb) apart p q = absurd q
one_node_said d w.alone alone (poly cb rb eb) apart p q = absurd q
one_node_said d w.alone alone (order db eb) apart p q = absurd q
one_node_said d w.alone done b apart p q = absurd p
one_node_said d w.alone (blocks pa) b apart p q = absurd p
one_node_said d w.alone (subterm argsa dropa) b apart p q = absurd p
one_node_said d w.alone (poly ca ra ea) b apart p q = absurd p
one_node_said d w.alone (order da ea) b apart p q = absurd p
one_node_said d (w.blocks listed) (blocks pa) (blocks pb) apart p q = ap blocks (sym p ∙ q)
one_node_said d (w.blocks listed) (blocks pa) done apart p q = absurd q
one_node_said d (w.blocks listed) (blocks pa) alone apart p q = absurd q
one_node_said d (w.blocks listed) (blocks pa) (subterm argsb dropb) apart p q = absurd q
one_node_said d (w.blocks listed) (blocks pa) (poly cb rb eb) apart p q = absurd q
one_node_said d (w.blocks listed) (blocks pa) (order db eb) apart p q = absurd q
one_node_said d (w.blocks listed) done b apart p q = absurd p
one_node_said d (w.blocks listed) alone b apart p q = absurd p
one_node_said d (w.blocks listed) (subterm argsa dropa) b apart p q = absurd p
one_node_said d (w.blocks listed) (poly ca ra ea) b apart p q = absurd p
one_node_said d (w.blocks listed) (order da ea) b apart p q = absurd p
one_node_said d (w.subterm lines listed) (subterm argsa dropa) (subterm argsb dropb) apart p q = cc (one_list_said d lines argsa argsb apart p.0 q.0, sym p.1 ∙ q.1)
one_node_said d (w.subterm lines listed) (subterm argsa dropa) done apart p q = absurd q
one_node_said d (w.subterm lines listed) (subterm argsa dropa) alone apart p q = absurd q
one_node_said d (w.subterm lines listed) (subterm argsa dropa) (blocks pb) apart p q = absurd q
one_node_said d (w.subterm lines listed) (subterm argsa dropa) (poly cb rb eb) apart p q = absurd q
one_node_said d (w.subterm lines listed) (subterm argsa dropa) (order db eb) apart p q = absurd q
one_node_said d (w.subterm lines listed) done b apart p q = absurd p
one_node_said d (w.subterm lines listed) alone b apart p q = absurd p
one_node_said d (w.subterm lines listed) (blocks pa) b apart p q = absurd p
one_node_said d (w.subterm lines listed) (poly ca ra ea) b apart p q = absurd p
one_node_said d (w.subterm lines listed) (order da ea) b apart p q = absurd p
one_node_said d (w.interpretations usable funs marks rules pairs listed) (poly ca ra ea) (poly cb rb eb) apart p q =
    let covered : ca ≡ cb = p.0 ∙ sym q.0 in
    let readings = one_readings_said d funs marks ra rb apart p.1 q.1 in
    let moves : ea ≡ eb = p.2 ∙ sym q.2 in
    cc (covered, readings, moves)
one_node_said d (w.interpretations usable funs marks rules pairs listed) (poly ca ra ea) done apart p q = absurd q
one_node_said d (w.interpretations usable funs marks rules pairs listed) (poly ca ra ea) alone apart p q = absurd q
one_node_said d (w.interpretations usable funs marks rules pairs listed) (poly ca ra ea) (blocks pb) apart p q = absurd q
one_node_said d (w.interpretations usable funs marks rules pairs listed) (poly ca ra ea) (subterm argsb dropb) apart p q = absurd q
one_node_said d (w.interpretations usable funs marks rules pairs listed) (poly ca ra ea) (order db eb) apart p q = absurd q
one_node_said d (w.interpretations usable funs marks rules pairs listed) done b apart p q = absurd p
one_node_said d (w.interpretations usable funs marks rules pairs listed) alone b apart p q = absurd p
one_node_said d (w.interpretations usable funs marks rules pairs listed) (blocks pa) b apart p q = absurd p
one_node_said d (w.interpretations usable funs marks rules pairs listed) (subterm argsa dropa) b apart p q = absurd p
one_node_said d (w.interpretations usable funs marks rules pairs listed) (order da ea) b apart p q = absurd p
one_node_said d (w.order funs marks rules pairs listed) (order da ea) (order db eb) apart p q =
    let filters = one_filterings_said d funs marks da db apart p.0 q.0 in
    let lines : ea ≡ eb = p.1 ∙ sym q.1 in
    ap₂ order filters lines
one_node_said d (w.order funs marks rules pairs listed) (order da ea) done apart p q = absurd q
one_node_said d (w.order funs marks rules pairs listed) (order da ea) alone apart p q = absurd q
one_node_said d (w.order funs marks rules pairs listed) (order da ea) (blocks pb) apart p q = absurd q
one_node_said d (w.order funs marks rules pairs listed) (order da ea) (subterm argsb dropb) apart p q = absurd q
one_node_said d (w.order funs marks rules pairs listed) (order da ea) (poly cb rb eb) apart p q = absurd q
one_node_said d (w.order funs marks rules pairs listed) done b apart p q = absurd p
one_node_said d (w.order funs marks rules pairs listed) alone b apart p q = absurd p
one_node_said d (w.order funs marks rules pairs listed) (blocks pa) b apart p q = absurd p
one_node_said d (w.order funs marks rules pairs listed) (subterm argsa dropa) b apart p q = absurd p
one_node_said d (w.order funs marks rules pairs listed) (poly ca ra ea) b apart p q = absurd p
