use Rattle.std.proofs.Common.{subst, sym}
use Rattle.std.specs.Str.{IsUtf8}
use Rattle.std.proofs.lemmas.Bool.{false≢true}
use Rattle.std.proofs.lemmas.Str.{IsUtf8-from_ascii}
use Rattle.source_edits.specs.Shown.{shown}
use Rattle.source_edits.proofs.Printing.{ascii_shown}
use Rattle.source_edits.proofs.texts.shown.Goals as goal

-- it is ASCII
pub unreachable-requires : goal.unreachable-requires
unreachable-requires c =
    let items = c.in_ok-all.ensures in
    absurd (false≢true (c.in-Err.ensures.succeeds (subst IsUtf8 (sym items) (IsUtf8-from_ascii (shown c.args.bytes.now) (ascii_shown c.args.bytes.now)))))
