use Rattle.std.proofs.Common.{◌<◌, ◌∙◌, sym, ap, subst, Option, Some, None, Vec, Global, length, get_or}
use Rattle.user_values.specs.Tables.{TableSeen}
use Rattle.std.proofs.lemmas.Option.{slice_get-get_or}
use Rattle.user_values.specs.inside.Walking.{DropsUnused}
use Rattle.user_values.proofs.Walking.{one_dropped}
use Rattle.user_values.proofs.walk.drop_unused.Goals as goal
use Rattle.user_values.proofs.walk.drop_unused.Goals.{in-Some+then-last-at+in-None-1, in-Some+then-last-at+in-Some+in-None-1, in-Some+then-last-at+in-Some+in-Some-index_mut-2, in-Some+else-last-at, in_default}

pub loop-edge-preserved : goal.loop-edge-preserved
loop-edge-preserved c =
    let last = c.args.last.now in
    let old = c.args.tables.now.items in
    let row = c.args.row.now in
    let place = c.loop-edge.edge-index in
    let now = c.loop-edge.tables.items in
    let Right : Vec (Option TableSeen) Global → Type 0 = λ ts. DropsUnused last c.args.made old ts.items in
    elim c.match-edge.branch [
      | in-Some+then-last-at+in-None-1 w ↦
          let within : w.in-Some.at < length last = c.requires.within place w.in-Some.at (slice_get-get_or row place None c.loop-edge-test.true ∙ ap (λ o. Some o) w.in-Some.is) in
          subst Right (sym w.tables-is) (one_dropped last c.args.made old now w.in-Some.at (get_or last w.in-Some.at 0) c.loop-edge.invariant
          (slice_get-get_or last w.in-Some.at 0 within) w.if-last-at.true)
      | in-Some+then-last-at+in-Some+in-None-1 w ↦
          let within : w.in-Some.at < length last = c.requires.within place w.in-Some.at (slice_get-get_or row place None c.loop-edge-test.true ∙ ap (λ o. Some o) w.in-Some.is) in
          subst Right (sym w.tables-is) (one_dropped last c.args.made old now w.in-Some.at (get_or last w.in-Some.at 0) c.loop-edge.invariant
          (slice_get-get_or last w.in-Some.at 0 within) w.if-last-at.true)
      | in-Some+then-last-at+in-Some+in-Some-index_mut-2 w ↦
          let within : w.in-Some.at < length last = c.requires.within place w.in-Some.at (slice_get-get_or row place None c.loop-edge-test.true ∙ ap (λ o. Some o) w.in-Some.is) in
          subst Right (sym w.tables-is) (one_dropped last c.args.made old now w.in-Some.at (get_or last w.in-Some.at 0) c.loop-edge.invariant
          (slice_get-get_or last w.in-Some.at 0 within) w.if-last-at.true)
      | in-Some+else-last-at w ↦ subst Right (sym w.tables-is) c.loop-edge.invariant
      | in_default w ↦ subst Right (sym w.tables-is) c.loop-edge.invariant
    ]
