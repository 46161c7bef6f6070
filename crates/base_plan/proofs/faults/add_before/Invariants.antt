use Rattle.std.proofs.Common.{◌≡◌, ◌++◌, ◌≤◌, false, filter, length, map, drop}
use Rattle.ti_source.specs.Reading.{fault_of}
use Rattle.base_meaning.specs.Faults.{faults_before, faults_from, is_kept, local_fault}
use Rattle.base_slots.specs.Settled.{fault_at}
use Rattle.base_plan.proofs.faults.add_before.Given as goal

abbrev pub ghost-add_local : goal.ghost-add_local
ghost-add_local g a = g.at

-- what was added and what is to be added are what is to be added in all, and the rest is the same
abbrev pub invariant-loop-place : goal.invariant-loop-place
invariant-loop-place g l =
    (map (fault_at g.at) l.faults.items ++ map (local_fault g.at) (faults_before l.ordinal (filter (is_kept false) (map fault_of (drop l.place l.locals))))
    ≡ map (fault_at g.at) l.fn.faults.items ++ map (local_fault g.at) (faults_before l.ordinal (filter (is_kept false) (map fault_of (drop l.next l.locals)))))
    × (faults_from l.ordinal (filter (is_kept false) (map fault_of (drop l.place l.locals)))
    ≡ faults_from l.ordinal (filter (is_kept false) (map fault_of (drop l.next l.locals))))
    × (l.place ≤ length l.locals)
