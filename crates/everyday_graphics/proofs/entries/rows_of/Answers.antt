use Rattle.std.proofs.Common.{◌≡◌, ◌<◌, Some, ap, arith, length, ◌∙◌, slice_get}
use Rattle.std.proofs.lemmas.List.{map-append}
use Rattle.std.proofs.lemmas.Option.{slice_get_within}
use Rattle.ti_layout.specs.Values.{content_seen}
use Rattle.user_extension.specs.UserDefined.{Row, row_of, rows_of}
use Rattle.user_extension.specs.View.{read_rows}
use Rattle.everyday_graphics.proofs.Rows.{given-at, not-absent, one-more, row-there}
use Rattle.everyday_graphics.proofs.entries.rows_of.Goals as goal
use Rattle.everyday_graphics.proofs.entries.rows_of.Goals.{in-Some+in_ok-push, in_default}

pub loop-place-preserved : goal.loop-place-preserved
loop-place-preserved c given is = elim c.match-value.branch [
  | in-Some+in_ok-push w ↦
      let place = c.loop-place.place in
      let row : Row = (w.name-name.result.now, content_seen w.in-Some.value) in
      let at = given-at given (read_rows c.args.extension.now) place row.0 (Some row.1) is (omega arith) w.name-name.ensures.name w.in-Some.ensures.value in
      let there : slice_get given place ≡ Some row = row-there given place row.0 row.1 at in
      let within : place < length given = slice_get_within given place row there in
      one-more given (rows_of c.loop-place.rows.items) (rows_of c.match-value.rows.items) place row (c.loop-place.invariant given is) there within
      (ap (λ v. rows_of v.items) w.rows-is ∙ ap rows_of w.in_ok-push.ensures.items ∙ map-append row_of c.loop-place.rows.items _)
  | in_default w ↦
      absurd (not-absent given (read_rows c.args.extension.now) c.loop-place.place is (omega arith) w.in_default.ensures.value)
]
