-- the file is refused for what its entry is refused for
use Rattle.std.proofs.Common.{List, ℕ, inr, Err, subst}
use Rattle.tools_devices.specs.Searching.{Opens, file_bytes_max}
use Rattle.tools_devices.specs.declared.tool_error.ToolError.{ToolError}
use Rattle.tools_devices.specs.declared.tool_error.ToolError.TheVariants.{BadEntry}
use Rattle.user_extension.specs.declared.fault.ExtensionError.TheVariants.{Entry}
use Rattle.everyday_infocmp.proofs.entries.view_of.Goals as goal

pub returns-in-Err-BadEntry-clause-err : goal.returns-in-Err-BadEntry-clause-err
returns-in-Err-BadEntry-clause-err c =
    let at : Opens file_bytes_max c.args.file.now.bytes.items (Err (BadEntry c.in-Err-BadEntry.why)) =
    subst (λ (e : ToolError). Opens file_bytes_max c.args.file.now.bytes.items (Err e)) c.in-Err-BadEntry.field-0-is
    (subst (λ (bytes : List ℕ). Opens file_bytes_max bytes (Err c.in-Err-BadEntry.field-0)) c.as_slice.ensures.value c.in-Err-BadEntry.ensures) in
    inr (Entry c.in-Err-BadEntry.why, at, c.bad_entry.ensures)
