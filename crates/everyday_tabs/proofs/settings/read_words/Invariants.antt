use Rattle.std.proofs.Common.{◌≡◌, drop, map, string_bytes}
use Rattle.everyday_tabs.specs.Words.{asked_after, asked_by, settings_of}
use Rattle.everyday_tabs.proofs.settings.read_words.Given as goal

-- the rest of the words decides
abbrev pub invariant-loop-word : goal.invariant-loop-word
invariant-loop-word l = asked_after (settings_of l.settings) (map string_bytes (drop l.word-index l.words)) ≡ asked_by (map string_bytes l.words)
