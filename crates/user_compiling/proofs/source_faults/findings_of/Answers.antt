use Rattle.std.proofs.Common.{map, sym, arith}
use Rattle.user_compiling.specs.Entries.{state_seen}
use Rattle.user_compiling.proofs.Lines.{slice_get-map_item}
use Rattle.user_compiling.proofs.Findings.{one_more_found}
use Rattle.user_compiling.proofs.source_faults.findings_of.Goals as goal

pub loop-at-preserved : goal.loop-at-preserved
loop-at-preserved c =
    let i = c.loop-at.invariant in
    let compiled = c.args.compiled.now in
    let there = slice_get-map_item state_seen compiled c.loop-at.at c.index-compiled-at.result c.loop-at-test.true c.index-compiled-at.is in
    record {
      as_many = (let n = i.as_many in omega (arith, c.in_ok-push.ensures.len, n));
      first = one_more_found c.args.database.now.texts (map state_seen compiled) c.loop-at.findings.items c.push.new.self.items c.in_ok-of.field-0 c.loop-at.at
          (state_seen c.index-compiled-at.result) i.first c.in_ok-push.ensures.items (sym i.as_many) there c.in_ok-of.ensures;
    }
