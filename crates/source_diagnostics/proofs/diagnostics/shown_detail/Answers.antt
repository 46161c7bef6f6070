use Rattle.std.proofs.Common.{◌++◌, List, ℕ, ap, subst, sym, ◌∙◌}
use Rattle.std.specs.Str.{IsUtf8}
use Rattle.std.proofs.lemmas.Bool.{false≢true}
use Rattle.std.proofs.lemmas.Str.{IsUtf8-from_ascii}
use Rattle.base_meaning.specs.Report.{shown_detail}
use Rattle.source_diagnostics.proofs.ShownDetails.{ascii_detail}
use Rattle.source_diagnostics.proofs.diagnostics.shown_detail.Goals as goal

-- it is ASCII
pub unreachable-requires : goal.unreachable-requires
unreachable-requires c =
    let detail = c.args.detail.now in
    let items = c.in_ok-write_detail.ensures ∙ ap (λ (front : List ℕ). front ++ shown_detail detail) c.new-shown.ensures.items in
    absurd (false≢true (c.in-Err.ensures.succeeds (subst IsUtf8 (sym items) (IsUtf8-from_ascii (shown_detail detail) (ascii_detail detail)))))
