use Rattle.std.proofs.Common.{◌≡◌, ◌++◌, drop, map}
use Rattle.serde_json.specs.View.{view}
use Rattle.lsp_server.specs.Serving.{frames_text}
use Rattle.lsp_server.specs.inside.Turns.{HaveNoFloats}
use Rattle.lsp_server.proofs.serving.frames_of.Given as goal

-- the frames so far, and those of the answers that are left
abbrev pub invariant-loop-answer : goal.invariant-loop-answer
invariant-loop-answer l =
    HaveNoFloats (map view l.answers)
    → HaveNoFloats (map view (drop l.answer-index l.answers))
    × (l.bytes.items ++ frames_text (map view (drop l.answer-index l.answers)) ≡ frames_text (map view l.answers))
