use Rattle.std.proofs.Common.{◌+◌, ◌<◌, ◌^◌, false, length}
use Rattle.ti_source.specs.inside.Folding.{bytes_on_lines, without_comments, without_breaks}
use Rattle.ti_source.specs.inside.Folding.{SkipsWhiteSpace}
use Rattle.ti_source.proofs.folding.Folded.skip_white_space.Given as goal

abbrev pub invariant-loop-byte : goal.invariant-loop-byte
invariant-loop-byte l =
    let f = l.self-inside in
    record {
      skips : SkipsWhiteSpace l.fn.self (without_breaks f.joining (without_comments false f.before (bytes_on_lines (f.newlines + 1) f.rest.now)));
      fits : f.newlines + length f.rest.now < 2 ^ 64;
    }

abbrev pub decreases-loop-byte : goal.decreases-loop-byte
decreases-loop-byte l = length l.self-inside.rest.now
