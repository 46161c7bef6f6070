use Rattle.std.specs.Prelude.{◌++◌, ◌∷◌, []}
use Rattle.lsp_frames.proofs.log.Log.with.Given as goal

-- the list that is picked: the one before, and the piece
abbrev pub ghosts-after : goal.ghosts-after
ghosts-after a = record { pieces = a._earlier.now.pieces ++ a._piece.now ∷ [] }
