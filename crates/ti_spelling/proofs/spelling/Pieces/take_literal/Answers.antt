use Rattle.std.proofs.Common.{◌<◌, ◌≤◌, length, arith}
use Rattle.ti_spelling.specs.inside.Spelling.{left_of}
use Rattle.ti_spelling.proofs.PieceLemmas.{takes_literals, with_no_front}
use Rattle.ti_spelling.proofs.spelling.Pieces.take_literal.Goals as goal

pub returns-then-len-eq0-clause-taken : goal.returns-then-len-eq0-clause-taken
returns-then-len-eq0-clause-taken c = with_no_front (left_of c.args.self.now)

pub returns : goal.returns
returns c =
    let text = c.args.self.now.rest.now in
    let len = c.literal_len-len.result in
    let within : len ≤ length text = c.literal_len-len.ensures.len in
    let some : 0 < len = omega (arith, c.if-len-eq0.false) in
    record {
      taken = rw (c.split_at.ensures.front, c.split_at.ensures.back)
          (takes_literals len c.args.self.now.before text some within c.literal_len-len.ensures.literal);
      len = omega (arith, c.split_at.ensures.back_len);
    }
