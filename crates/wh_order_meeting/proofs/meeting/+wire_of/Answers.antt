use Rattle.std.proofs.Common.{Some, subst}
use Rattle.wh_order_meeting.specs.Meeting.{IsBuilt}
use Rattle.wh_order_meeting.proofs.MeetingLemmas.{always_built, never_built, bit_built, no_bit_built, both_built, either_built}
use Rattle.wh_order_meeting.proofs.meeting.+wire_of.Goals as goal

pub returns-in-Always : goal.returns-in-Always
returns-in-Always t c = always_built c.args.places.now c.args.demand.now c.args.circuit.now c.always.new.circuit c.always.result c.in-Always.is c.always.ensures

pub returns-in-Never : goal.returns-in-Never
returns-in-Never t c = never_built c.args.places.now c.args.demand.now c.args.circuit.now c.never.new.circuit c.never.result c.in-Never.is c.never.ensures

pub returns-in-Bit : goal.returns-in-Bit
returns-in-Bit t c = bit_built c.args.places.now c.args.demand.now c.args.circuit.now c.in-Bit.bit c.wire_in.result c.in-Bit.is c.wire_in.ensures.own c.wire_in.ensures.at

pub returns-in-NoBit : goal.returns-in-NoBit
returns-in-NoBit t c = no_bit_built c.args.places.now c.args.demand.now c.args.circuit.now c.in-NoBit.bit c.wire_in-in-NoBit.result c.in-NoBit.is c.wire_in-in-NoBit.ensures.own c.wire_in-in-NoBit.ensures.at

pub returns-in-Some-2 : goal.returns-in-Some-2
returns-in-Some-2 t c =
    let n = c.args.places.now in
    let a = c.args.circuit.now in
    let b = c.wire_of.new.circuit in
    let e = c.wire_of-in-Some.new.circuit in
    let l = c.in-Some.first in
    let m = c.in-Some-2.second in
    let first = subst (IsBuilt n c.deref.result.now a b) c.in-Some.is c.in_ok-wire_of-in-Both.ensures in
    let second = subst (IsBuilt n c.deref-in-Some.result.now b e) c.in-Some-2.is c.in_ok-wire_of-in-Some.ensures in
    both_built n c.args.demand.now c.in-Both.left c.in-Both.right a b e c.both.new.circuit l m c.both.result c.in-Both.is
    (subst (λ d. IsBuilt n d a b (Some l)) c.deref.ensures first)
    (subst (λ d. IsBuilt n d b e (Some m)) c.deref-in-Some.ensures second) c.both.ensures

pub returns-in-Some-4 : goal.returns-in-Some-4
returns-in-Some-4 t c =
    let n = c.args.places.now in
    let a = c.args.circuit.now in
    let b = c.wire_of-in-Either.new.circuit in
    let e = c.wire_of-in-Some-3.new.circuit in
    let l = c.in-Some-3.first in
    let m = c.in-Some-4.second in
    let first = subst (IsBuilt n c.deref-in-Either.result.now a b) c.in-Some-3.is c.in_ok-wire_of-in-Either.ensures in
    let second = subst (IsBuilt n c.deref-in-Some-3.result.now b e) c.in-Some-4.is c.in_ok-wire_of-in-Some-3.ensures in
    either_built n c.args.demand.now c.in-Either.left c.in-Either.right a b e c.either.new.circuit l m c.either.result c.in-Either.is
    (subst (λ d. IsBuilt n d a b (Some l)) c.deref-in-Either.ensures first)
    (subst (λ d. IsBuilt n d b e (Some m)) c.deref-in-Some-3.ensures second) c.either.ensures
