use Rattle.std.proofs.Common.{◌≡◌, false, true, rules}
use Rattle.std.specs.Prelude.{bytes_eq}
use Rattle.ti_layout.specs.View.{names_of}
use Rattle.everyday_toe.specs.Seeing.{first_name, of_alias, of_entry, of_fault}
use Rattle.everyday_toe.proofs.seeing.see.Goals as goal

pub returns-then-eq : goal.returns-then-eq
returns-then-eq c =
    let same : bytes_eq (first_name (names_of c.in-Ok.view)) c.args.name.now ≡ true = search rules in
    of_entry c.in-Ok.ensures same c.in_ok-make_row-in-Ok.ensures

pub returns-else-eq : goal.returns-else-eq
returns-else-eq c =
    let other : bytes_eq (first_name (names_of c.in-Ok.view)) c.args.name.now ≡ false = search rules in
    of_alias c.in-Ok.ensures other

pub returns-in-Err : goal.returns-in-Err
returns-in-Err c = of_fault c.in-Err.ensures
