use Rattle.std.proofs.Common.{◌≡◌, drop, map}
use Rattle.std.specs.List.{list_any}
use Rattle.std.specs.Str.{bytes_eq}
use Rattle.std.specs.String.{string_bytes}
use Rattle.source_settings.proofs.own.is_one_of.Given as goal

-- it is one of these if it is one of the rest
abbrev pub invariant-loop-message : goal.invariant-loop-message
invariant-loop-message l =
    list_any (λ message. bytes_eq message l.text) (map string_bytes l.messages)
    ≡ list_any (λ message. bytes_eq message l.text) (map string_bytes (drop l.message-index l.messages))
