use Rattle.std.proofs.Common.{◌≡◌, ◌∙◌, ◌+◌, ◌-◌, ◌<◌, ◌≤◌, ◌++◌, ℕ, List, [], Option, ap, ap₂, arith, get_or, length, map, subst, sym}
use Rattle.std.proofs.lemmas.List.{get_or_read}
use Rattle.std.proofs.lemmas.Option.{get_or_from_slice_get}
use Rattle.std.specs.Option.{option_map_or}
use Rattle.base_meaning.specs.Report.{lines_before}
use Rattle.ti_text.specs.Limits.{block_bytes_max}
use Rattle.tools_sources.specs.Sources.{first_line}
use Rattle.source_diagnostics.specs.Marking.{text_at}
use Rattle.source_diagnostics.proofs.FaultLines.{length_starts, start_read}
use Rattle.source_document.specs.Documents.{held}
use Rattle.source_remarks.specs.Hints.{hint_seen, shown_after, source_marks}
use Rattle.source_remarks.proofs.AfterUses.{text_there}
use Rattle.source_remarks.proofs.Stepping.{one_more_block}
use Rattle.source_remarks.proofs.sources.block_hints.Goals as goal

pub index-requires : goal.index-requires
index-requires c =
    let n = length c.database-database.result.now in
    let starts = length_starts c.database-database.result.now c.in_ok-starts.starts.items n c.in_ok-starts.ensures.starts in
    omega (arith, starts, c.in_ok-starts.starts.ok.0, c.len-at-end.ensures, c.loop-at-test.true)

pub lines_before-requires-clause-before : goal.lines_before-requires-clause-before
lines_before-requires-clause-before c =
    let n = length c.database-database.result.now in
    let starts = length_starts c.database-database.result.now c.in_ok-starts.starts.items n c.in_ok-starts.ensures.starts in
    let within : c.loop-at.at < length c.in_ok-starts.starts.items = omega (arith, starts, c.len-at-end.ensures, c.loop-at-test.true) in
    let is = get_or_read c.in_ok-starts.starts.items c.loop-at.at c.index.result.now within c.index.ensures 0 in
    omega (arith, is, c.in_ok-starts.ensures.small c.loop-at.at 0 within)

pub push_block-requires-clause-short : goal.push_block-requires-clause-short
push_block-requires-clause-short c =
    let texts = c.database-database.result.now in
    let document = c.args.document.now in
    let text = c.text-text.result.now in
    let at = c.loop-at.at in
    let same : texts ≡ held document = c.database-database.ensures in
    let within : at < length (held document) = omega (arith, c.len-at-end.ensures, c.loop-at-test.true, ap length same) in
    let there : get_or (held document) at text ≡ text =
    ap (λ (ts : List (List ℕ)). get_or ts at text) (sym same) ∙ get_or_from_slice_get texts at text text c.text-text.ensures in
    let here : text_at texts at ≡ text = text_there texts at text c.text-text.ensures in
    subst (λ (t : List ℕ). length t ≤ block_bytes_max) (sym here)
    (subst (λ (t : List ℕ). length t ≤ block_bytes_max) there ((c.held_blocks_fit.ensures document).1 at text within).0)

pub loop-at-preserved : goal.loop-at-preserved
loop-at-preserved c =
    let texts = c.database-database.result.now in
    let document = c.args.document.now in
    let text = c.text-text.result.now in
    let at = c.loop-at.at in
    let start = c.index.result.now in
    let n = length texts in
    let same : texts ≡ held document = c.database-database.ensures in
    let starts = length_starts texts c.in_ok-starts.starts.items n c.in_ok-starts.ensures.starts in
    let below : at < n = omega (arith, c.len-at-end.ensures, c.loop-at-test.true) in
    let within : at < length c.in_ok-starts.starts.items = omega (arith, starts, below) in
    let is = get_or_read c.in_ok-starts.starts.items at start within c.index.ensures start in
    let lines : start ≡ lines_before (held document) at =
    start_read texts c.in_ok-starts.starts.items n at start c.in_ok-starts.ensures.starts below is ∙ ap (λ (ts : List (List ℕ)). lines_before ts at) same in
    let first : c.first_line-first.result ≡ first_line document = c.first_line-first.ensures.number ∙ ap first_line c.text.ensures in
    let line : c.lines_before.result ≡ first_line document - 1 + lines_before (held document) at =
    c.lines_before.ensures.lines ∙ ap₂ (λ (f s : ℕ). f - 1 + s) first lines in
    let there : text ≡ text_at (held document) at =
    sym (ap (λ (ts : List (List ℕ)). text_at ts at) (sym same) ∙ ap (λ (o : Option (List ℕ)). option_map_or (λ t. t) o []) c.text-text.ensures) in
    let before = map hint_seen c.loop-at.all.items in
    let here : text_at texts at ≡ text = text_there texts at text c.text-text.ensures in
    one_more_block c.args.user_defined (held document) (first_line document) at c.lines_before.result text before (map hint_seen c.push_block.new.all.items) line
    there c.loop-at.invariant
    (c.in_ok-push_block.ensures
    ∙ ap (λ (t : List ℕ). before ++ map (shown_after c.lines_before.result t) (source_marks c.args.user_defined texts at)) here
    ∙ ap (λ (ts : List (List ℕ)). before ++ map (shown_after c.lines_before.result text) (source_marks c.args.user_defined ts at)) same)
