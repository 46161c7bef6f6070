use Rattle.std.proofs.Common.{map, pos, sym, arith}
use Rattle.std.proofs.lemmas.List.{get_or_past, length-map}
use Rattle.ti_param.specs.Meaning.{argument_of, number}
use Rattle.ti_param.proofs.machine.given_at.Goals as goal

pub returns-else-place-lt-PARAMETERS_MAX : goal.returns-else-place-lt-PARAMETERS_MAX
returns-else-place-lt-PARAMETERS_MAX c =
    sym (get_or_past (map argument_of c.args.given.now) c.args.place (number (pos 0)) (omega (arith, length-map c.args.given.now argument_of)))
