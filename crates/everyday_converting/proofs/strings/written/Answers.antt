-- each step writes one piece
use Rattle.std.proofs.Common.{◌≡◌, ◌<◌, ◌++◌, Some, arith, drop, get_or, length}
use Rattle.everyday_converting.specs.Pieces.{piece_at}
use Rattle.everyday_converting.specs.Strings.{piece_text}
use Rattle.everyday_converting.proofs.Writing.{writes_on}
use Rattle.everyday_converting.proofs.strings.written.Goals as goal

pub loop-rest-preserved : goal.loop-rest-preserved
loop-rest-preserved c =
    let is : c.push_piece.new.out.items ≡ c.loop-rest.out.items
    ++ piece_text c.args.caret c.loop-rest.state c.in-Some.placed.piece (get_or c.loop-rest.rest.now 0 0) (drop 1 c.loop-rest.rest.now) =
    rw (← c.byte_at-byte.ensures, ← c.after-others.ensures) c.in_ok-push_piece.ensures in
    let some : 0 < length c.loop-rest.rest.now = grind arith in
    let found : piece_at c.args.parameters c.loop-rest.rest.now ≡ Some c.in-Some.placed = cc in
    rw (c.after-rest.ensures, c.after-others.ensures, c.saturating_sub.ensures, c.after-state.ensures, c.byte_at-byte.ensures)
    (writes_on c.args.caret c.args.parameters c.loop-rest.state c.in-Some.placed c.loop-rest.out.items c.push_piece.new.out.items c.loop-rest.rest.now _
    some found is c.loop-rest.invariant)
