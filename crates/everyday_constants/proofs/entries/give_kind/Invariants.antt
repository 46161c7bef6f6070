use Rattle.std.proofs.Common.{◌≡◌, ◌≢◌}
use Rattle.ti_caps.specs.Tables.{Capability}
use Rattle.ti_layout.specs.Values.{contents}
use Rattle.ti_layout.specs.View.{view_contents}
use Rattle.everyday_constants.proofs.Holding.{GivenBelow}
use Rattle.everyday_constants.proofs.entries.give_kind.Given as goal

-- those below the index have what they are given, and other kinds what they had
abbrev pub invariant-loop-index : goal.invariant-loop-index
invariant-loop-index l = record {
  given : GivenBelow (view_contents l.entry) l.kind l.index l.table;
  others : (c : Capability) → c.kind ≢ l.kind → contents l.table c ≡ contents l.fn.table c;
}
