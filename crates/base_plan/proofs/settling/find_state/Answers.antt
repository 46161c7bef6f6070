use Rattle.std.proofs.Common.{sym, arith}
use Rattle.std.proofs.lemmas.Bool.{MatchBool-at_true, MatchBool-at_false}
use Rattle.ti_source.specs.Reading.{reading_of}
use Rattle.base_meaning.proofs.UseLawProofs.{never_broken}
use Rattle.base_slots.specs.Slots.{blocks_of}
use Rattle.base_plan.proofs.BlockFaults.{no_expansion, unresolved_state, no_work}
use Rattle.base_plan.proofs.settling.find_state.Goals as goal
use Rattle.base_plan.proofs.settling.find_state.Goals.{then-is_wrong-via-then-is_wrong, then-is_wrong-via-else-is_wrong+then-has_error}

pub returns-then-is_wrong-clause-table : goal.returns-then-is_wrong-clause-table
returns-then-is_wrong-clause-table g c =
    let bs = blocks_of c.args.known.now.slots.now in
    let b = reading_of c.args.slot.now.block in
    elim c.then-is_wrong.branch [
      | then-is_wrong-via-then-is_wrong w ↦ no_expansion bs g.at b c.requires.1.0 (MatchBool-at_true _ _ w.if-is_wrong.true c.requires.1.1.0)
      | then-is_wrong-via-else-is_wrong+then-has_error w ↦ never_broken bs b (rw w.deref.ensures.value at (sym w.if-has_error.ensures))
    ]

pub returns-then-is_wrong-clause-state : goal.returns-then-is_wrong-clause-state
returns-then-is_wrong-clause-state g c =
    unresolved_state (blocks_of c.args.known.now.slots.now) (reading_of c.args.slot.now.block) (returns-then-is_wrong-clause-table g c)

pub returns-then-is_wrong-clause-work : goal.returns-then-is_wrong-clause-work
returns-then-is_wrong-clause-work g c =
    let none = no_work (blocks_of c.args.known.now.slots.now) (reading_of c.args.slot.now.block) (returns-then-is_wrong-clause-table g c) in
    omega (arith, none)

pub compile-requires : goal.compile-requires
compile-requires g c =
    let whole = rw c.deref.ensures.value at (sym c.if-has_error.ensures) in
    (c.requires.0, (c.requires.1.0, (whole, (MatchBool-at_false _ _ c.if-is_wrong.false c.requires.1.1.0, c.requires.1.1.1))))
