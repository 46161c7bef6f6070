-- past the end there is no row
use Rattle.std.proofs.Common.{◌≡◌, ◌≤◌, None, arith, length, sym}
use Rattle.std.specs.Prelude.{slice_get}
use Rattle.std.proofs.lemmas.List.{append-nil}
use Rattle.std.proofs.lemmas.Option.{slice_get_past}
use Rattle.everyday_toe.proofs.ordering.push_at.Goals as goal

pub returns-in-None : goal.returns-in-None
returns-in-None c =
    let past : length c.args.rows.now ≤ c.args.number = omega (arith, c.in-None.ensures) in
    let none : slice_get c.args.rows.now c.args.number ≡ None = slice_get_past c.args.rows.now c.args.number past in
    rw none (sym (append-nil c.args.found.now.items))
