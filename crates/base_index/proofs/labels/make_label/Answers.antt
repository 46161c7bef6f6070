use Rattle.std.proofs.Common.{length, arith}
use Rattle.base_index.specs.inside.Labels.{IsGap}
use Rattle.base_index.proofs.Labelling.{AreSpaced, gap_below, gap_fits, spaced_labelled}
use Rattle.base_index.proofs.labels.make_label.Goals as goal

pub overflow_add-low : goal.overflow_add-low
overflow_add-low c =
    let gap : IsGap c.args.ids.now c.args.labels.now.items c.args.position c.gap_at-low.result.0 c.gap_at-low.result.1 =
    rw c.deref.ensures.value at c.gap_at-low.ensures in
    let below = gap_below c.args.ids.now c.args.labels.now.items c.args.position c.gap_at-low.result.0 c.gap_at-low.result.1 c.requires.labelled gap in
    omega arith

pub returns-then-low-high-clause-fits : goal.returns-then-low-high-clause-fits
returns-then-low-high-clause-fits c =
    let gap : IsGap c.args.ids.now c.args.labels.now.items c.args.position c.gap_at-low.result.0 c.gap_at-low.result.1 =
    rw c.deref.ensures.value at c.gap_at-low.ensures in
    gap_fits c.args.ids.now c.args.labels.now.items c.args.position c.gap_at-low.result.0 c.gap_at-low.result.1 c.label_within.result c.requires.labelled
    gap c.requires.within c.label_within.ensures.above c.label_within.ensures.below

pub gap_at-low-requires-2-clause-labelled : goal.gap_at-low-requires-2-clause-labelled
gap_at-low-requires-2-clause-labelled c =
    let spaced : AreSpaced c.args.ids.now c.relabel.new.labels.items 4294967296 (length c.args.ids.now) =
    record { spaced = λ i id l e. c.relabel.ensures.spaced i id e } in
    rw c.deref-2.ensures.value (spaced_labelled c.args.ids.now c.relabel.new.labels.items spaced c.requires.few)

pub returns-clause-labelled : goal.returns-clause-labelled
returns-clause-labelled c =
    let spaced : AreSpaced c.args.ids.now c.relabel.new.labels.items 4294967296 (length c.args.ids.now) =
    record { spaced = λ i id l e. c.relabel.ensures.spaced i id e } in
    spaced_labelled c.args.ids.now c.relabel.new.labels.items spaced c.requires.few

pub returns-clause-fits : goal.returns-clause-fits
returns-clause-fits c =
    let spaced : AreSpaced c.args.ids.now c.relabel.new.labels.items 4294967296 (length c.args.ids.now) =
    record { spaced = λ i id l e. c.relabel.ensures.spaced i id e } in
    let labelled = spaced_labelled c.args.ids.now c.relabel.new.labels.items spaced c.requires.few in
    let gap : IsGap c.args.ids.now c.relabel.new.labels.items c.args.position c.gap_at-low-2.result.0 c.gap_at-low-2.result.1 =
    rw c.deref-2.ensures.value at c.gap_at-low-2.ensures in
    gap_fits c.args.ids.now c.relabel.new.labels.items c.args.position c.gap_at-low-2.result.0 c.gap_at-low-2.result.1 c.label_within-2.result labelled gap
    c.requires.within c.label_within-2.ensures.above c.label_within-2.ensures.below
