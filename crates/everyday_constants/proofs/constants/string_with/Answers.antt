-- each step writes one piece
use Rattle.std.proofs.Common.{◌≡◌, ◌<◌, ◌++◌, arith, length}
use Rattle.everyday_constants.specs.Constants.{constant_at, text_by, with_characters}
use Rattle.everyday_constants.proofs.Pieces.{writes_on}
use Rattle.everyday_constants.proofs.constants.string_with.Goals as goal

pub loop-rest-preserved : goal.loop-rest-preserved
loop-rest-preserved c =
    let rest = c.loop-rest.rest.now in
    let is : c.push_piece.new.out.items ≡ c.loop-rest.out.items ++ text_by (constant_at rest) rest =
    rw (← c.constant_at-constant.ensures) c.in_ok-push_piece.ensures in
    let some : 0 < length rest = grind arith in
    rw (c.after-rest.ensures, c.after-others.ensures, c.saturating_sub.ensures, c.size_by-size.ensures, c.constant_at-constant.ensures)
    (writes_on c.loop-rest.out.items c.push_piece.new.out.items rest (with_characters c.args.text.now) some is c.loop-rest.invariant)
