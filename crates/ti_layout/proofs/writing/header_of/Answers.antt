use Rattle.std.proofs.Common.{◌+◌, ap, sym, subst, ◌∙◌, refl, arith, min, ◌-◌, ◌^◌}
use Rattle.ti_layout.specs.Values.{content_of}
use Rattle.ti_layout.proofs.Counting.{HeaderSoFar, counts_begun, flag_counted, number_counted, text_counted, none_counted, counted_all}
use Rattle.ti_layout.proofs.writing.header_of.Goals.{in-True, in-Number, in-Text, in-Cancelled}
use Rattle.ti_layout.proofs.writing.header_of.Goals as goal

pub loop-entry-init : goal.loop-entry-init
loop-entry-init c = record { format_is = refl; names_are = omega arith; counts = counts_begun _ }

pub loop-entry-preserved : goal.loop-entry-preserved
loop-entry-preserved c =
    let i = c.loop-entry.invariant in
    elim c.match-entry.branch [
      | in-True w ↦ subst (HeaderSoFar _ _ _ _) (sym w.header-is) (record {
        format_is = i.format_is;
        names_are = i.names_are;
        counts = flag_counted _ c.requires.sorted _ _ _ _ _ _ c.loop-entry-test.true c.entry-item.is i.counts _ _ refl c.index-count.ensures.value w.in-True.is;
      })
      | in-Number w ↦ subst (HeaderSoFar _ _ _ _) (sym w.header-is) (record {
        format_is = i.format_is;
        names_are = i.names_are;
        counts = number_counted _ c.requires.sorted _ _ _ _ _ _ c.loop-entry-test.true c.entry-item.is i.counts _ _ refl c.index-count.ensures.value _
            w.in-Number.is;
      })
      | in-Text w ↦ subst (HeaderSoFar _ _ _ _) (sym w.header-is) (record {
        format_is = i.format_is;
        names_are = i.names_are;
        counts = text_counted _ c.requires.sorted _ _ _ _ _ _ c.loop-entry-test.true c.entry-item.is i.counts _ _ refl c.index-count.ensures.value _ _ _
            (ap content_of w.in-Text.is)
            (w.saturating_add.ensures ∙ ap (λ n. min (c.loop-entry.header.strings + n) (2 ^ 64 - 1)) w.len.ensures) w.saturating_add-in-Text.ensures;
      })
      | in-Cancelled w ↦ subst (HeaderSoFar _ _ _ _) (sym w.header-is) (record {
        format_is = i.format_is;
        names_are = i.names_are;
        counts = none_counted _ c.requires.sorted _ _ _ _ _ _ c.loop-entry-test.true c.entry-item.is i.counts w.in-Cancelled.is;
      })
    ]

pub returns : goal.returns
returns c = let i = c.loop-entry.invariant in counted_all _ c.requires.sorted _ _ _ c.loop-entry-test.false _ i.format_is i.names_are i.counts
