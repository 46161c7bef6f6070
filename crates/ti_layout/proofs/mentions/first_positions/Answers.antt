use Rattle.std.proofs.Common.{set, ◌++◌, ◌∷◌, [], take, refl, sym, subst, arith}
use Rattle.ti_layout.specs.inside.Mentions.{AreMentionPositions}
use Rattle.ti_layout.specs.Values.{Mention, content_of, entries_of, rank_of}
use Rattle.ti_layout.proofs.FirstMentions.{positions_of_none, positions_unchanged, positions_more, entries_front, entries_count, rank_within}
use Rattle.ti_layout.proofs.mentions.first_positions.Goals as goal
use Rattle.ti_layout.proofs.mentions.first_positions.Goals.{then-positions-rank-eq0, else-positions-rank-eq0}

pub loop-index-init : goal.loop-index-init
loop-index-init c = positions_of_none 497 refl

pub loop-index-preserved : goal.loop-index-preserved
loop-index-preserved c =
    let ms = c.args.mentions.now in
    let i = c.loop-index.index in
    let x = c.index-mentions-index.result in
    let e : Mention = (x.0, content_of x.1) in
    let known = c.loop-index.invariant in
    let front = entries_front ms i x c.loop-index-test.true (sym c.index-mentions-index.is) in
    let es = entries_of (take i ms) in
    let positions = c.loop-index.positions in
    let rank = c.rank-rank.ensures.value in
    rw front (elim c.if-positions-rank-eq0.branch [
      | then-positions-rank-eq0 w ↦
          let free = rw rank at w.if-positions-rank-eq0.true in
          let count = entries_count ms i (omega (arith, c.loop-index-test.true)) in
          let more = positions_more es e positions known c.rank-rank.ensures.valid (rank_within x.0 c.rank-rank.ensures.valid) free in
          rw (w.positions-is, rank) (subst (λ n. AreMentionPositions (es ++ e ∷ []) (set positions (rank_of x.0) n)) (omega (arith, count)) more)
      | else-positions-rank-eq0 w ↦ rw w.positions-is (positions_unchanged es e positions known (λ free. w.if-positions-rank-eq0.false (rw rank free)))
    ])
