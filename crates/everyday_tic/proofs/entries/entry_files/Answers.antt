use Rattle.std.proofs.Common.{◌≡◌, ◌+◌, ◌==◌, not, length, ap, arith}
use Rattle.std.specs.Option.{option_map}
use Rattle.tools_devices.specs.Placing.{entries}
use Rattle.everyday_tic.specs.Entries.{block_files}
use Rattle.everyday_tic.specs.inside.States.{others_seen, over, states_of}
use Rattle.tools_sources.proofs.Filing.{one_more_block}
use Rattle.everyday_tic.proofs.Filing.{files_more, one_more_counted}
use Rattle.everyday_tic.proofs.entries.entry_files.Goals as goal

pub loop-at-preserved : goal.loop-at-preserved
loop-at-preserved c =
    let o = c.args.options.now in
    let db = c.args.database.now.texts in
    let states = over (states_of c.args.database.now.rule db (option_map (λ c. c.now) c.args.compiled)) (others_seen c.args.others.now) in
    let files = block_files o.directory.now (option_map (λ e. e.now) o.entries) db states in
    let at = c.loop-at.at in
    let filed = c.in_ok-add_block.ensures in
    let counted = files_more c.loop-at.files.items c.add_block.new.files.items (files at) filed in
    let more : c.len.result ≡ c.len-before.result + length (files at) = omega (arith, counted, c.loop-at.files.ok.0, c.add_block.new.files.ok.0) in
    record {
      files = one_more_block files (entries c.loop-at.files.items) (entries c.add_block.new.files.items) at c.loop-at.invariant.files filed;
      entries = one_more_counted (λ k. not (length (files k) == 0)) c.loop-at.entries (c.loop-at.entries + c.added-entries.result) at
          c.loop-at.invariant.entries (ap (λ n. c.loop-at.entries + n) (c.added-entries.ensures.value (length (files at)) more));
      few = omega arith;
    }
