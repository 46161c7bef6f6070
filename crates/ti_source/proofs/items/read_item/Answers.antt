use Rattle.std.proofs.lemmas.Result.{IfOk-weaker}
use Rattle.ti_source.proofs.ItemLemmas.{so_far-start, so_far-white, takes-whole}
use Rattle.ti_source.proofs.items.read_item.Goals as goal

pub returns-in-Some : goal.returns-in-Some
returns-in-Some c =
    let start = c.args.source.now in
    let read = so_far-white start c.skip_white_space.ensures (so_far-start start) in
    takes-whole start _ _ _ _ read c.in-Some.ensures.taken

pub returns : goal.returns
returns c =
    let start = c.args.source.now in
    let read = so_far-white start c.skip_white_space.ensures (so_far-start start) in
    IfOk-weaker c.read_runs.result _ _ (λ item ends. ends start (rw c.in_default.ensures.none read)) c.read_runs.ensures
