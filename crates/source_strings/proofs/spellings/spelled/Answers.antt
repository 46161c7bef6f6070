use Rattle.std.proofs.Common.{map, subst, sym}
use Rattle.std.specs.Str.{IsUtf8}
use Rattle.std.proofs.lemmas.Bool.{false≢true}
use Rattle.std.proofs.lemmas.Str.{IsUtf8-from_ascii}
use Rattle.source_strings.specs.Spelled.{printed}
use Rattle.source_strings.proofs.Printing.{ascii_printed}
use Rattle.source_strings.proofs.spellings.spelled.Goals as goal

-- it is ASCII
pub unreachable-requires : goal.unreachable-requires
unreachable-requires c =
    let items = c.in_ok-shown.ensures in
    absurd (false≢true (c.in-Err.ensures.succeeds
    (subst IsUtf8 (sym items) (IsUtf8-from_ascii (map printed c.deref.result.now) (ascii_printed c.deref.result.now)))))
