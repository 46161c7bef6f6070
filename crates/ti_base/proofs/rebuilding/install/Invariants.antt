use Rattle.std.proofs.Common.{◌≡◌, All, length, drop}
use Rattle.ti_text.specs.Lists.{Has}
use Rattle.base_slots.specs.Slots.{ids_of}
use Rattle.ti_base.specs.inside.Database.{settled_all}
use Rattle.ti_base.proofs.rebuilding.install.Given as goal

-- what was done and what is to be done is all that the plan says
abbrev pub invariant-loop-index : goal.invariant-loop-index
invariant-loop-index l =
    (l.plan.ids ≡ l.fn.plan.ids) × (l.plan.rebuilt ≡ l.fn.plan.rebuilt) × (l.plan.work ≡ l.fn.plan.work)
    × (length l.plan.settled.items ≡ length l.plan.ids.items)
    × All (Has (ids_of l.slots)) l.plan.ids.items
    × (settled_all l.slots (drop l.index l.plan.ids.items) (drop l.index l.plan.settled.items)
    ≡ settled_all l.fn.slots l.fn.plan.ids.items l.fn.plan.settled.items)
