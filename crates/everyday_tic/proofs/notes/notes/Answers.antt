use Rattle.std.proofs.Common.{◌≡◌, ◌+◌, ◌<◌, ℕ, List, ap, arith, get_or, length, ◌∙◌}
use Rattle.std.specs.Option.{option_map}
use Rattle.base_meaning.specs.Report.{lines_before}
use Rattle.ti_base.proofs.Counting.{length_starts, start_read}
use Rattle.std.proofs.lemmas.List.{get_or_default}
use Rattle.tools_sources.proofs.Filing.{one_more_block}
use Rattle.everyday_tic.specs.Notes.{note_if}
use Rattle.everyday_tic.specs.inside.States.{others_seen, over, states_of}
use Rattle.everyday_tic.proofs.notes.notes.Goals as goal

pub line_at-line-requires-clause-within : goal.line_at-line-requires-clause-within
line_at-line-requires-clause-within c =
    let db = c.args.database.now.texts in
    let starts = length_starts db c.in_ok-starts.starts.items (length db) c.in_ok-starts.ensures.starts in
    omega (arith, starts, ap length c.deref.ensures.value, c.requires.within)

pub loop-at-preserved : goal.loop-at-preserved
loop-at-preserved c =
    let db = c.args.database.now.texts in
    let at = c.loop-at.at in
    let starts = c.in_ok-starts.starts.items in
    let states = states_of c.args.database.now.rule db (option_map (λ c. c.now) c.args.compiled) in
    let drawn = over states (others_seen c.args.others.now) in
    let within : at < length db = omega (arith, c.requires.within) in
    let many = length_starts db starts (length db) c.in_ok-starts.ensures.starts in
    let there : at < length starts = omega (arith, many, within) in
    let start : get_or starts at 0 ≡ lines_before db at =
    start_read db starts (length db) at (get_or starts at 0) c.in_ok-starts.ensures.starts within (get_or_default starts at 0 (get_or starts at 0) there) in
    let line : c.line_at-line.result ≡ c.args.first_line + lines_before db at =
    c.line_at-line.ensures ∙ ap (λ (xs : List ℕ). c.args.first_line + get_or xs at 0) c.deref.ensures.value ∙ ap (λ (n : ℕ). c.args.first_line + n) start in
    one_more_block (note_if c.args.file.now c.args.first_line db states drawn) c.loop-at.lines.items c.write_note_if.new.out.items at c.loop-at.invariant
    (c.in_ok-write_note_if.ensures c.args.first_line line)
