use Rattle.std.proofs.Common.{◌≡◌, List, ℕ, ap, sym, ◌∙◌, ◌++◌}
use Rattle.lsp_frames.proofs.HoldsFrame.{none_waits, waits_header}
use Rattle.lsp_frames.specs.Inputs.{InputSeen}
use Rattle.lsp_frames.proofs.frames.holds_frame.Goals as goal

pub returns-in-Ok : goal.returns-in-Ok
returns-in-Ok c =
    let read = c.in-Ok.ensures.read in
    let given = ap (λ (s : InputSeen). s.ahead) c.new-input.ensures in
    let whole : c.args.bytes.now ≡ read.0 ++ c.ahead.result.now =
    sym given ∙ (read.2.uses.bytes ∙ ap (λ (t : List ℕ). read.0 ++ t) (sym c.ahead.ensures)) in
    waits_header c.args.bytes.now c.ahead.result.now read.0 c.in-Ok.len read.1 whole

pub returns-in-Err-Broken : goal.returns-in-Err-Broken
returns-in-Err-Broken c =
    let given = ap (λ (s : InputSeen). s.ahead) c.new-input.ensures in
    let stops = rw c.in-Err-Broken.field-0-is at c.in-Err-Broken.ensures.stops in
    let none = none_waits c.new-input.result.bytes.now c.read_header.new.input.bytes.now stops in
    rw given at none
