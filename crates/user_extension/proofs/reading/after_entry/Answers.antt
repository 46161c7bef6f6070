use Rattle.std.proofs.Common.{◌≡◌, arith}
use Rattle.ti_layout.specs.Reading.{entry_end}
use Rattle.user_extension.proofs.After.{after_is, by_header}
use Rattle.user_extension.proofs.reading.after_entry.Goals as goal

pub returns : goal.returns
returns c =
    let s = c.size-end.ensures in
    let h = by_header c.args.bytes.now c.read.result c.read.ensures in
    let size : c.size-end.result ≡ entry_end c.args.bytes.now = omega (arith, s, h, c.requires.whole) in
    after_is c.args.bytes.now c.min.result c.size-end.result size c.min.ensures
