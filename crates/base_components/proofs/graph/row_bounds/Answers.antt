use Rattle.std.proofs.Common.{◌≡◌, ◌<◌, suc, ◌+◌, inl, inr, refl, arith, length, get_or}
use Rattle.std.proofs.lemmas.Option.{slice_get-get_or}
use Rattle.base_components.proofs.Rows.{EndsAt, row_read}
use Rattle.base_components.proofs.graph.row_bounds.Goals as goal
use Rattle.base_components.proofs.graph.row_bounds.Goals.{then-next-starts, else-next-starts}

pub returns : goal.returns
returns c =
    let starts = c.args.starts.now in
    let one : c.args.node + 1 ≡ suc c.args.node = omega arith in
    let ends : EndsAt c.args.targets.now starts c.args.node c.if-next-starts.end =
    elim c.if-next-starts.branch [
      | then-next-starts w ↦
          let less : suc c.args.node < length starts = omega arith in
          rw (w.end-is, one) (inl (slice_get-get_or starts (suc c.args.node) 0 less))
      | else-next-starts w ↦ rw w.end-is (inr (omega arith, refl))
    ] in
    row_read c.args.targets.now starts c.args.node (get_or starts c.args.node 0) c.if-next-starts.end c.requires.starts
    (slice_get-get_or starts c.args.node 0 c.requires.within) ends
