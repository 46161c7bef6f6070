use Rattle.std.proofs.Common.{◌≡◌, ◌+◌, ◌<◌, ◌≤◌, ℕ, length, arith, subst}
use Rattle.std.specs.Prelude.{IfOk}
use Rattle.base_meaning.specs.Report.{lines_before}
use Rattle.ti_base.proofs.Counting.{length_starts, start_read}
use Rattle.everyday_tic.specs.Outcomes.{made_of, refusal}
use Rattle.everyday_tic.specs.declared.options.TicOutcome.{TicOutcome}
use Rattle.everyday_tic.proofs.compiling.refused_at.Goals as goal

pub index-requires : goal.index-requires
index-requires c =
    let db = c.args.database.now.texts in
    let starts = length_starts db c.in_ok-starts.starts.items (length db) c.in_ok-starts.ensures.starts in
    omega (arith, starts, c.in_ok-starts.starts.ok.0, c.requires.within)

pub overflow_add-line : goal.overflow_add-line
overflow_add-line c =
    let db = c.args.database.now.texts in
    let starts = length_starts db c.in_ok-starts.starts.items (length db) c.in_ok-starts.ensures.starts in
    let there : c.args.at < length c.in_ok-starts.starts.items = omega (arith, starts, c.requires.within) in
    let small : c.index.result.now ≤ 68719476736 = rw (← c.index.ensures) at (c.in_ok-starts.ensures.small c.args.at c.index.result.now there) in
    let first = c.requires.first in
    omega (arith, small, first)

pub returns : goal.returns
returns c =
    let db = c.args.database.now.texts in
    let start : c.index.result.now ≡ lines_before db c.args.at =
    start_read db c.in_ok-starts.starts.items (length db) c.args.at c.index.result.now c.in_ok-starts.ensures.starts c.requires.within c.index.ensures in
    subst (λ (n : ℕ). IfOk c.refused.result
    (λ (outcome : TicOutcome). made_of outcome ≡ refusal c.args.file.now (c.args.first_line + n) c.args.sentence.now c.args.word.now)) start c.refused.ensures
