-- each step adds the entry of one file
use Rattle.std.proofs.Common.{◌≡◌, ◌++◌, [], ◌∷◌, map, true, rules}
use Rattle.user_listing.specs.Entries.{extended_seen}
use Rattle.everyday_infocmp.proofs.Files.{all-entries, here-bad, memory-bad, more-bad, more-entries, pushed-shown}
use Rattle.everyday_infocmp.proofs.entries.extended_entries.Goals as goal

pub returns-in-Err-clause-err : goal.returns-in-Err-clause-err
returns-in-Err-clause-err c =
    here-bad true c.args.files.now c.loop-file.file-index c.file-item.result c.loop-file-test.true c.file-item.is c.in-Err.failure c.in-Err.ensures.err
    c.loop-file.invariant.bad

pub loop-file-preserved : goal.loop-file-preserved
loop-file-preserved c =
    let pushed : map (λ e. extended_seen e) c.push.new.self.items ≡ map (λ e. extended_seen e) c.loop-file.entries.items ++ extended_seen c.in-Ok.entry ∷ [] =
    pushed-shown (λ e. extended_seen e) c.push.result _ _ c.in-Ok.entry c.push.ensures.items (search rules) in
    record {
      rest = λ later are. rw pushed (more-entries true c.args.files.now c.loop-file.file-index c.file-item.result c.loop-file-test.true c.file-item.is
          (extended_seen c.in-Ok.entry) (map (λ e. extended_seen e) c.loop-file.entries.items) c.in-Ok.ensures.ok c.loop-file.invariant.rest later are);
      bad = more-bad true c.args.files.now c.loop-file.file-index c.file-item.result c.loop-file-test.true c.file-item.is
          (extended_seen c.in-Ok.entry) c.in-Ok.ensures.ok c.loop-file.invariant.bad;
    }

pub returns-clause-ok : goal.returns-clause-ok
returns-clause-ok c =
    all-entries true c.args.files.now c.loop-file.file-index (map (λ e. extended_seen e) c.loop-file.entries.items) c.loop-file-test.false
    c.loop-file.invariant.rest

pub returns-then-is_err-clause-err : goal.returns-then-is_err-clause-err
returns-then-is_err-clause-err c = memory-bad true c.args.files.now
