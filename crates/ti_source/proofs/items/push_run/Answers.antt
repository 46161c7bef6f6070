use Rattle.std.proofs.Common.{◌<◌, List, length, subst, sym, ◌∙◌, arith}
use Rattle.std.proofs.lemmas.Bool.{eqb-false}
use Rattle.ti_source.specs.Folding.{PlacedByte}
use Rattle.ti_source.specs.Items.{item_piece}
use Rattle.ti_source.specs.inside.Items.{ReadsSoFar}
use Rattle.ti_source.proofs.ItemLemmas.{so_far-run}
use Rattle.ti_source.proofs.items.push_run.Goals as goal

pub returns-clause-reads : goal.returns-clause-reads
returns-clause-reads c = λ start line reads.
    let text = c.args.text.now.items in
    let taken = c.take_run-run.ensures in
    let some : 0 < length text = omega (arith, eqb-false _ _ (sym c.is_empty.ensures ∙ c.if-is_empty.false), c.args.text.now.ok.0) in
    let from_run = subst (λ (s : List PlacedByte). ReadsSoFar start c.args.escape c.args.before s (item_piece text line)) taken.whole reads in
    rw c.in_ok-extend_from_slice.ensures.items (so_far-run start line taken.line c.take_run-run.new.self text taken.passes_run some from_run)
