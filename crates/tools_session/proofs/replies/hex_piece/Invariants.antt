use Rattle.std.proofs.Common.{◌≡◌, ◌*◌, take}
use Rattle.std.specs.List.{flat_map}
use Rattle.arrayvec.specs.ArrayVec.{array_vec_len}
use Rattle.tools_session.specs.Script.{hex_of}
use Rattle.tools_session.proofs.replies.hex_piece.Given as goal

-- the bytes before the next are spelled
abbrev pub invariant-loop-byte : goal.invariant-loop-byte
invariant-loop-byte l = record {
  spelled : l.text.items ≡ flat_map hex_of (take l.byte-index l.piece);
  count : array_vec_len l.text ≡ 2 * l.byte-index;
}
