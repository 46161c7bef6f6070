use Rattle.std.proofs.Common.{◌≡◌, ◌+◌, ◌<◌, ◌≤◌, List, ℕ, ap, ◌∙◌, arith, slice_range}
use Rattle.std.proofs.lemmas.Grind.{common_steps}
use Rattle.tools_devices.specs.Counted.{device_of, failures_of}
use Rattle.lsp_frames.proofs.Used.{ReadsSome-ahead}
use Rattle.lsp_frames.proofs.buffered.Buffered.take.Goals as goal

pub returns : goal.returns
returns g c =
    let s = c.args.self.now in
    let n = c.min-count.result in
    let within : s.from + n ≤ s.to = grind (arith, common_steps, c.min-count.ensures, c.requires.some) in
    let some : 0 < n = grind (arith, common_steps, c.min-count.ensures, c.requires.some, c.requires.room) in
    let copied : c.copy_from_slice.new.self ≡ slice_range s.buffer.items s.from (s.from + n) =
    c.copy_from_slice.ensures.after ∙ ap (λ (b : List ℕ). slice_range b s.from (s.from + n)) c.deref.ensures.value in
    ReadsSome-ahead s.buffer.items c.args.piece.now c.copy_from_slice.new.self s.from s.to n (g.R.Read.remaining (device_of s.device))
    (failures_of s.device) s.log.pieces within s.within some copied
