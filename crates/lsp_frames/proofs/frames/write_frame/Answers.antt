use Rattle.std.proofs.Common.{◌≡◌, ℕ, List, Result, Ok, Err, IfErr, OnOk, subst, sym, ◌∙◌}
use Rattle.tools_devices.specs.Counted.{Observed}
use Rattle.tools_devices.specs.Writing.{TakesAll, TakesFront}
use Rattle.lsp_frames.specs.Frames.{framed}
use Rattle.lsp_frames.specs.Transfers.{WritingEnds}
use Rattle.lsp_frames.specs.declared.frames.FrameError.{FrameError}
use Rattle.lsp_frames.specs.declared.frames.FrameError.TheVariants.{Broken}
use Rattle.lsp_frames.proofs.frames.write_frame.Goals as goal

ends : (before now : Observed) (bytes wanted : List ℕ) (result : Result Unit FrameError) → wanted ≡ bytes
    → OnOk result (TakesAll before now wanted) → IfErr result (λ fault. (fault ≡ Broken) × TakesFront before now wanted)
    → WritingEnds before now bytes result
ends before now bytes wanted (Ok x) is written cut = subst (λ (t : List ℕ). TakesAll before now t) is written
ends before now bytes wanted (Err fault) is written cut =
    subst (λ (f : FrameError). WritingEnds before now bytes (Err f)) (sym cut.0) (subst (λ (t : List ℕ). TakesFront before now t) is cut.1)

pub returns : goal.returns
returns g c =
    ends _ _ (framed c.args.body.now) c.deref.result.now c.write_flushed.result (c.deref.ensures.value ∙ c.in_ok-bytes.ensures)
    c.write_flushed.ensures.written c.write_flushed.ensures.cut
