use Rattle.std.proofs.Common.{sym, subst}
use Rattle.ti_source.specs.Header.{ReadsNames}
use Rattle.ti_source.proofs.HeaderLemmas.{each_header}
use Rattle.ti_source.proofs.header.lookup_names.Goals as goal

pub returns : goal.returns
returns c = subst (ReadsNames c.args.field.now) (sym c.in_ok-names.ensures) (each_header c.args.field.now)
