use Rattle.std.proofs.Common.{◌<◌, ◌&&◌, List, nat_le, nat_lt, subst, sym, take}
use Rattle.std.specs.Prelude.{All}
use Rattle.std.proofs.lemmas.List.Elements.{All-filter, All-take}
use Rattle.ti_source.specs.Folding.{PlacedByte}
use Rattle.source_edits.proofs.pieces.bytes_in.Goals as goal

pub returns-clause-offsets : goal.returns-clause-offsets
returns-clause-offsets c all =
    let part = c.args.part in
    let text = c.args.text.now in
    let at = c.loop-byte.byte-index in
    subst (λ (l : List PlacedByte). All (λ (x : PlacedByte). x.1 < 9223372036854775808) l) (sym c.loop-byte.invariant)
    (All-filter (λ (x : PlacedByte). nat_le part.start x.1 && nat_lt x.1 part.end) (λ (x : PlacedByte). x.1 < 9223372036854775808) (take at text)
    (All-take (λ (x : PlacedByte). x.1 < 9223372036854775808) at text all))
