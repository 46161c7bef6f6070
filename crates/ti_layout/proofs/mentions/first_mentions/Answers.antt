use Rattle.std.proofs.Common.{◌≡◌, ◌-◌, ◌<◌, suc, length, slice_index_or, subst, arith}
use Rattle.std.proofs.lemmas.List.{length-map}
use Rattle.ti_layout.specs.inside.Mentions.{Decides}
use Rattle.ti_layout.specs.Values.{Mention, Agrees, content_of, entries_of}
use Rattle.ti_layout.proofs.FirstMentions.{gathers_on, gathers_more}
use Rattle.ti_layout.proofs.Walked.{item_read}
use Rattle.ti_layout.proofs.mentions.first_mentions.Goals as goal
use Rattle.ti_layout.proofs.mentions.first_mentions.Goals.{then-position-gt0+in_ok-push_copy, else-position-gt0}

pub bounds-mentions-position : goal.bounds-mentions-position
bounds-mentions-position c =
    let p = slice_index_or c.first_positions-positions.result c.loop-position.position-index 0 in
    let at : p ≡ suc (p - 1) = omega (arith, c.if-position-gt0.true) in
    rw length-map at (c.first_positions-positions.ensures.first c.loop-position.position-index (p - 1) at).0

pub loop-position-preserved : goal.loop-position-preserved
loop-position-preserved c =
    let ms = c.args.mentions.now in
    let es = entries_of ms in
    let rank = c.loop-position.position-index in
    let positions = c.first_positions-positions in
    let p = slice_index_or positions.result rank 0 in
    elim c.if-position-gt0.branch [
      | then-position-gt0+in_ok-push_copy w ↦
          let x = w.index-mentions-position.result in
          let e : Mention = (x.0, content_of x.1) in
          let at : p ≡ suc (p - 1) = omega (arith, w.if-position-gt0.true) in
          let found = positions.ensures.first rank (p - 1) at in
          let within : p - 1 < length ms = rw length-map at found.0 in
          let read = item_read _ _ x within w.index-mentions-position.is in
          rw (w.entries-is, w.in_ok-push_copy.ensures)
          (gathers_more es (entries_of c.loop-position.entries.items) rank c.loop-position.invariant positions.result positions.ensures e
          (subst (λ (y : Mention). Agrees y.0 y.1) read (c.requires.agree (p - 1) e found.0)) (subst (Decides es rank) read (found.1 e)))
      | else-position-gt0 w ↦
          let at : p ≡ 0 = omega (arith, w.if-position-gt0.false) in
          rw w.entries-is (gathers_on es (entries_of c.loop-position.entries.items) rank c.loop-position.invariant positions.result positions.ensures at)
    ]
