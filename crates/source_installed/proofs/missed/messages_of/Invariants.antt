use Rattle.std.proofs.Common.{◌≡◌, map, take}
use Rattle.std.specs.String.{string_bytes}
use Rattle.source_installed.specs.Missed.{missing_message}
use Rattle.source_installed.proofs.missed.messages_of.Given as goal

-- the messages so far
abbrev pub invariant-loop-name : goal.invariant-loop-name
invariant-loop-name l = map string_bytes l.messages.items ≡ map missing_message (map string_bytes (take l.name-index l.names))
