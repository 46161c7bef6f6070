use Rattle.std.proofs.Common.{◌+◌, ◌<◌, length, sym, subst, rules, arith}
use Rattle.std.proofs.lemmas.List.{length-map}
use Rattle.ti_layout.specs.inside.Merging.{TurnIs}
use Rattle.ti_layout.specs.Values.{content_of, entries_of}
use Rattle.ti_layout.proofs.Walked.{item_read}
use Rattle.ti_layout.proofs.Fronts.{Merges, takes_first, takes_second, takes_both}
use Rattle.ti_layout.proofs.merging.merge.Goals as goal

pub loop-turn-preserved-in-First : goal.loop-turn-preserved-in-First
loop-turn-preserved-in-First c =
    let fs = entries_of c.args.first.now in
    let ss = entries_of c.args.second.now in
    let i = c.loop-turn.at_first in
    let j = c.loop-turn.at_second in
    let x = c.index-first-at_first.result in
    let turn = subst (TurnIs fs i ss j) c.in-First.is c.in-Some.ensures in
    let within : i < length c.args.first.now = rw length-map at turn.0 in
    subst (λ os. Merges fs ss os (i + 1) j) (sym c.in_ok-push_copy-in-First.ensures)
    (takes_first fs ss _ i j c.requires.first c.requires.second c.loop-turn.invariant (x.0, content_of x.1) turn.0
    (item_read _ _ x within c.index-first-at_first.is) turn.1)

pub loop-turn-preserved-in-Second : goal.loop-turn-preserved-in-Second
loop-turn-preserved-in-Second c =
    let fs = entries_of c.args.first.now in
    let ss = entries_of c.args.second.now in
    let i = c.loop-turn.at_first in
    let j = c.loop-turn.at_second in
    let x = c.index-second-at_second.result in
    let turn = subst (TurnIs fs i ss j) c.in-Second.is c.in-Some.ensures in
    let within : j < length c.args.second.now = rw length-map at turn.0 in
    subst (λ os. Merges fs ss os i (j + 1)) (sym c.in_ok-push_copy-in-Second.ensures)
    (takes_second fs ss _ i j c.requires.first c.requires.second c.loop-turn.invariant (x.0, content_of x.1) turn.0
    (item_read _ _ x within c.index-second-at_second.is) turn.1)

pub loop-turn-preserved : goal.loop-turn-preserved
loop-turn-preserved c =
    let fs = entries_of c.args.first.now in
    let ss = entries_of c.args.second.now in
    let i = c.loop-turn.at_first in
    let j = c.loop-turn.at_second in
    let x = c.index-first-at_first-in-Both.result in
    let turn = subst (TurnIs fs i ss j) c.in-Both.is c.in-Some.ensures in
    let within : i < length c.args.first.now = rw length-map at turn.0 in
    subst (λ os. Merges fs ss os (i + 1) (j + 1)) (sym c.in_ok-push_copy-in-Both.ensures)
    (takes_both fs ss _ i j c.requires.first c.requires.second c.loop-turn.invariant (x.0, content_of x.1) turn.0
    (item_read _ _ x within c.index-first-at_first-in-Both.is) turn.1 turn.2)

pub bounds-first-at_first : goal.bounds-first-at_first
bounds-first-at_first c =
    let turn = subst (TurnIs (entries_of c.args.first.now) c.loop-turn.at_first (entries_of c.args.second.now) c.loop-turn.at_second) c.in-First.is
    c.in-Some.ensures in
    rw length-map at turn.0

pub bounds-second-at_second : goal.bounds-second-at_second
bounds-second-at_second c =
    let turn = subst (TurnIs (entries_of c.args.first.now) c.loop-turn.at_first (entries_of c.args.second.now) c.loop-turn.at_second) c.in-Second.is
    c.in-Some.ensures in
    rw length-map at turn.0

pub bounds-first-at_first-in-Both : goal.bounds-first-at_first-in-Both
bounds-first-at_first-in-Both c =
    let turn = subst (TurnIs (entries_of c.args.first.now) c.loop-turn.at_first (entries_of c.args.second.now) c.loop-turn.at_second) c.in-Both.is
    c.in-Some.ensures in
    rw length-map at turn.0

pub offset_bounds-first-at_first : goal.offset_bounds-first-at_first
offset_bounds-first-at_first c = let b = bounds-first-at_first c in search rules

pub offset_bounds-second-at_second : goal.offset_bounds-second-at_second
offset_bounds-second-at_second c = let b = bounds-second-at_second c in search rules

pub offset_bounds-first-at_first-in-Both : goal.offset_bounds-first-at_first-in-Both
offset_bounds-first-at_first-in-Both c = let b = bounds-first-at_first-in-Both c in search rules

pub overflow_add-at_first : goal.overflow_add-at_first
overflow_add-at_first c =
    let turn = subst (TurnIs (entries_of c.args.first.now) c.loop-turn.at_first (entries_of c.args.second.now) c.loop-turn.at_second) c.in-First.is
    c.in-Some.ensures in
    let within : c.loop-turn.at_first < length c.args.first.now = rw length-map at turn.0 in
    search rules

pub overflow_add-at_second : goal.overflow_add-at_second
overflow_add-at_second c =
    let turn = subst (TurnIs (entries_of c.args.first.now) c.loop-turn.at_first (entries_of c.args.second.now) c.loop-turn.at_second) c.in-Second.is
    c.in-Some.ensures in
    let within : c.loop-turn.at_second < length c.args.second.now = rw length-map at turn.0 in
    search rules

pub overflow_add-at_first-in-Both : goal.overflow_add-at_first-in-Both
overflow_add-at_first-in-Both c =
    let turn = subst (TurnIs (entries_of c.args.first.now) c.loop-turn.at_first (entries_of c.args.second.now) c.loop-turn.at_second) c.in-Both.is
    c.in-Some.ensures in
    let within : c.loop-turn.at_first < length c.args.first.now = rw length-map at turn.0 in
    search rules

pub overflow_add-at_second-in-Both : goal.overflow_add-at_second-in-Both
overflow_add-at_second-in-Both c =
    let turn = subst (TurnIs (entries_of c.args.first.now) c.loop-turn.at_first (entries_of c.args.second.now) c.loop-turn.at_second) c.in-Both.is
    c.in-Some.ensures in
    let within : c.loop-turn.at_second < length c.args.second.now = rw length-map at turn.1 in
    search rules

pub loop-turn-smaller-in-First : goal.loop-turn-smaller-in-First
loop-turn-smaller-in-First c =
    let turn = subst (TurnIs (entries_of c.args.first.now) c.loop-turn.at_first (entries_of c.args.second.now) c.loop-turn.at_second) c.in-First.is
    c.in-Some.ensures in
    let within : c.loop-turn.at_first < length c.args.first.now = rw length-map at turn.0 in
    omega arith

pub loop-turn-smaller-in-Second : goal.loop-turn-smaller-in-Second
loop-turn-smaller-in-Second c =
    let turn = subst (TurnIs (entries_of c.args.first.now) c.loop-turn.at_first (entries_of c.args.second.now) c.loop-turn.at_second) c.in-Second.is
    c.in-Some.ensures in
    let within : c.loop-turn.at_second < length c.args.second.now = rw length-map at turn.0 in
    omega arith

pub loop-turn-smaller : goal.loop-turn-smaller
loop-turn-smaller c =
    let turn = subst (TurnIs (entries_of c.args.first.now) c.loop-turn.at_first (entries_of c.args.second.now) c.loop-turn.at_second) c.in-Both.is
    c.in-Some.ensures in
    let within : c.loop-turn.at_first < length c.args.first.now = rw length-map at turn.0 in
    let within_second : c.loop-turn.at_second < length c.args.second.now = rw length-map at turn.1 in
    omega arith
