use Rattle.std.proofs.Common.{◌≡◌, ◌+◌, ◌*◌, ◌≤◌, drop}
use Rattle.source_format.specs.Layout.{columns}
use Rattle.source_kept_lines.proofs.writing.columns.Given as goal

-- the columns so far, and those of the rest, are those of the text
abbrev pub invariant-loop-byte : goal.invariant-loop-byte
invariant-loop-byte l = record {
  so : l.columns + columns (drop l.byte-index l.text) ≡ columns l.text;
  bound : l.columns ≤ 8 * l.byte-index;
}
