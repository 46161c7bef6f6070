use Rattle.std.proofs.Common.{sym}
use Rattle.ti_layout.proofs.Counting.{narrow_none, narrow_more, extended_wanted, legacy_wanted}
use Rattle.ti_layout.proofs.writing.format_wanted.Goals as goal

pub loop-entry-init : goal.loop-entry-init
loop-entry-init c = narrow_none _

pub loop-entry-preserved : goal.loop-entry-preserved
loop-entry-preserved c = narrow_more _ c.requires _ _ c.loop-entry-test.true c.entry-item.is (sym c.if-is_wide.ensures) c.loop-entry.invariant

pub returns-then-is_wide : goal.returns-then-is_wide
returns-then-is_wide c = sym (extended_wanted _ c.requires _ _ c.loop-entry-test.true c.entry-item.is (sym c.if-is_wide.ensures))

pub returns : goal.returns
returns c = sym (legacy_wanted _ c.requires _ c.loop-entry-test.false c.loop-entry.invariant)
