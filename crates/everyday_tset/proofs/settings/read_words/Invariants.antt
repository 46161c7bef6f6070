use Rattle.std.proofs.Common.{◌≡◌, length, map, string_bytes}
use Rattle.everyday_tset.specs.Settings.{asked_after, asked_by, settings_of}
use Rattle.everyday_tset.proofs.settings.read_words.Given as goal

-- the rest of the words decides
abbrev pub invariant-loop-word : goal.invariant-loop-word
invariant-loop-word l = asked_after (settings_of l.settings) (map string_bytes l.rest) ≡ asked_by (map string_bytes l.words)

abbrev pub decreases-loop-word : goal.decreases-loop-word
decreases-loop-word l = length l.rest
