use Rattle.lsp_frames.proofs.HeaderLines.{FirstLength-kept}
use Rattle.lsp_frames.proofs.frames.first_value.Goals as goal

pub returns-in-Some : goal.returns-in-Some
returns-in-Some c = λ lines h. let k = rw c.in-Some.is at h in FirstLength-kept lines c.args.line.now c.in-Some.value.items k
