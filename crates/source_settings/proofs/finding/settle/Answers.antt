use Rattle.std.proofs.Common.{◌≡◌, ◌+◌, ◌++◌, ◌∙◌, List, ℕ, Some, None, ap, codes, arith, rules, string_bytes, sym}
use Rattle.std.proofs.lemmas.Result.{IfOk-weaker}
use Rattle.tools_devices.specs.Tree.{FindsFile}
use Rattle.source_settings.specs.Finding.{directory_of, file_above, whole_size}
use Rattle.source_settings.proofs.Nearest.{none-more, settled-at, up-more}
use Rattle.source_settings.proofs.finding.settle.Goals as goal

pub returns-in-Ok-Some-clause-settled : goal.returns-in-Ok-Some-clause-settled
returns-in-Ok-Some-clause-settled g c =
    let files = g.T.Tree.files c.args.tree.now in
    let source = c.args.source.now in
    let count = c.loop-passed._passed in
    let at : string_bytes c.in_ok-path.path ≡ file_above count source =
    rw (c.as_str.ensures.value, c.loop-passed.invariant.above) at c.in_ok-path.ensures in
    let there : FindsFile (file_above count source) whole_size files (Some c.in-Ok-Some.bytes.items) =
    rw (c.as_str-in-loop-passed.ensures.value, at, c.loop-passed.invariant.kept, c.in-Ok-Some.field-0-is) at c.in-Ok-Some.ensures.found in
    let counted : g.T.Tree.failures c.read.new.self ≡ g.T.Tree.failures c.loop-passed.tree + 0 = search rules in
    let same : g.T.Tree.failures c.read.new.self ≡ g.T.Tree.failures c.args.tree.now = omega (arith, counted, c.loop-passed.invariant.counted) in
    IfOk-weaker c.settled_by.result _ _
    (λ settled by_it. settled-at files source _ c.in-Ok-Some.bytes.items count _ _ settled (omega arith) c.loop-passed.invariant.none
    (c.as_str-in-Ok-Some.ensures.value ∙ at) there same (rw c.as_slice.ensures.value at by_it))
    c.settled_by.ensures

pub loop-passed-preserved : goal.loop-passed-preserved
loop-passed-preserved g c =
    let files = g.T.Tree.files c.args.tree.now in
    let source = c.args.source.now in
    let count = c.loop-passed._passed in
    let at : string_bytes c.in_ok-path.path ≡ file_above count source =
    rw (c.as_str.ensures.value, c.loop-passed.invariant.above) at c.in_ok-path.ensures in
    let there : FindsFile (file_above count source) whole_size files None =
    rw (c.as_str-in-loop-passed.ensures.value, at, c.loop-passed.invariant.kept, c.in-Ok-None.field-0-is) at c.in-Ok-None.ensures.found in
    let counted : g.T.Tree.failures c.read.new.self ≡ g.T.Tree.failures c.loop-passed.tree + 0 = search rules in
    record {
      above =
          c.in_ok-push_str-in-Ok-None.ensures.bytes ∙ ap (λ (front : List ℕ). front ++ codes "../") c.loop-passed.invariant.above
          ∙ sym (up-more (directory_of source) count);
      none = none-more files source count c.loop-passed.invariant.none there;
      kept = c.read.ensures.kept ∙ c.loop-passed.invariant.kept;
      counted = omega (arith, counted, c.loop-passed.invariant.counted);
    }
