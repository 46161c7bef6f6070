use Rattle.std.proofs.lemmas.Str.{IsUtf8-from_ascii}
use Rattle.everyday_sources.proofs.Taking.{ascii_name}
use Rattle.everyday_sources.proofs.used.look_up.Goals as goal

-- a lookup name is ASCII, and so is text
pub unreachable-requires : goal.unreachable-requires
unreachable-requires g c =
    let name = c.args.name.now in
    let lookup = c.is_lookup_name.ensures.rule.0 c.if-not-is_lookup_name.false in
    c.in_default.ensures.cases.0 (IsUtf8-from_ascii name (ascii_name name lookup.bytes))
