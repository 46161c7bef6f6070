use Rattle.lsp_frames.proofs.Used.{ReadsSome-filled}
use Rattle.lsp_frames.specs.Buffers.{buffered_seen}
use Rattle.lsp_frames.proofs.input.BufferedInput.read_some.Goals as goal
use Rattle.lsp_frames.proofs.input.BufferedInput.read_some.Goals.{then-self+in_ok-fill, else-self}

pub returns-clause-read : goal.returns-clause-read
returns-clause-read g c =
    let remaining = g.R.Read.remaining in
    elim c.if-self.branch [
      | then-self+in_ok-fill w ↦
          ReadsSome-filled (buffered_seen remaining c.args.self.now) (buffered_seen remaining c.if-self.self) (buffered_seen remaining c.take.new.self) _ _
          (rw w.self-is w.in_ok-fill.ensures.filled) c.take.ensures
      | else-self w ↦ rw w.self-is at c.take.ensures
    ]
