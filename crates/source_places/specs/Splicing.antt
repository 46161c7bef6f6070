-- A text with a part of it exchanged (Language Server Protocol 3.17,
-- "TextDocumentContentChangeEvent").
use Rattle.std.specs.Prelude.{ℕ, List, ◌++◌, drop, max, take}

-- the text with its bytes from `start` to before `end` exchanged; an end before the start is the
-- start
abbrev pub spliced : List ℕ → ℕ → ℕ → List ℕ → List ℕ
spliced text start end new = take start text ++ new ++ drop (max start end) text
