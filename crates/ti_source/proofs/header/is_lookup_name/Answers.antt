use Rattle.std.proofs.Common.{◌≡◌, rules}
use Rattle.std.proofs.lemmas.Bool.Decides.{Decides-at}
use Rattle.ti_source.specs.Header.{is_lookup_name}
use Rattle.ti_source.proofs.HeaderLemmas.{lookup_name_decides}
use Rattle.ti_source.proofs.header.is_lookup_name.Goals as goal

pub returns-then-ne-2-clause-rule : goal.returns-then-ne-2-clause-rule
returns-then-ne-2-clause-rule c =
    let tested : c.has_name_bytes.result ≡ is_lookup_name c.args.name.now = search rules in
    Decides-at _ _ tested (lookup_name_decides c.args.name.now)
