use Rattle.std.proofs.Common.{◌≡◌, map, take}
use Rattle.std.specs.String.{string_bytes}
use Rattle.source_settings.specs.Published.{message_on}
use Rattle.source_settings.proofs.own.messages_on.Given as goal

-- those on the names so far
abbrev pub invariant-loop-name : goal.invariant-loop-name
invariant-loop-name l = map string_bytes l.messages.items ≡ map message_on (map string_bytes (take l.name-index l.names))
