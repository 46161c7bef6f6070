use Rattle.std.proofs.Common.{arith, subst, sym}
use Rattle.ti_source.specs.Reading.{Reading}
use Rattle.ti_source.specs.Parsing.{Parses}
use Rattle.ti_source.specs.Sound.{IsWellRead}
use Rattle.ti_source.proofs.FoldLemmas.{length-after_field}
use Rattle.ti_source.proofs.ReadingLaws.{parsed_by_parts}
use Rattle.ti_source.proofs.parsing.parse_sharing.Goals as goal

pub read_items-requires : goal.read_items-requires
read_items-requires c =
    rw c.in_ok-field.ensures.rest (omega (arith, length-after_field c.new-source.result, c.new-source.ensures.len))

pub returns-clause-computed : goal.returns-clause-computed
returns-clause-computed c =
    parsed_by_parts c.args.block.now _ _ _ _ _ c.new-source.ensures.value c.in_ok-field.ensures.field c.in_ok-field.ensures.rest c.in_ok-parsed.ensures
    c.in_ok-read_items.ensures

pub returns-clause-reading : goal.returns-clause-reading
returns-clause-reading c =
    let P : Reading → Type 0 = λ r. Parses c.args.block.now r in
    subst P (sym (returns-clause-computed c)) (c.one_reading.ensures.each c.args.block.now)

pub returns-clause-sound : goal.returns-clause-sound
returns-clause-sound c =
    let P : Reading → Type 0 = λ r. IsWellRead c.args.block.now r in
    subst P (sym (returns-clause-computed c)) (c.each_is_well_read.ensures c.args.block.now c.requires)
