use Rattle.std.proofs.Common.{◌≡◌, ℕ, Bool, false, ◌++◌, ◌+◌, ◌&&◌, ap, drop, length, map, refl, sym, ◌∙◌, arith}
use Rattle.ti_text.specs.Lines.{line_count}
use Rattle.source_blocks.proofs.Outlines.{text_is, text_short}
use Rattle.source_names.specs.NameEdits.{rename_seen}
use Rattle.source_names.specs.Renaming.{can_be_renamed, edits_from, rename_edit_seen}
use Rattle.source_names.proofs.Seeking.{can_next, edits_next}
use Rattle.source_names.proofs.renaming.all_edits.Goals as goal

pub returns-then-not-branch : goal.returns-then-not-branch
returns-then-not-branch c =
    let blocks = c.args.database.now in
    let rename = rename_seen c.args.rename in
    let at = c.loop-at.at in
    let whole = can_next rename blocks at c.in_ok-push_edits_at.field-0 _ (omega arith) c.loop-at.invariant.can c.in_ok-push_edits_at.ensures.all in
    let none : can_be_renamed rename 0 blocks ≡ false =
    sym whole ∙ ap (λ (b : Bool). b && can_be_renamed rename (at + 1) (drop (at + 1) blocks)) c.if-not-branch.true in
    rw none refl

pub overflow_add-line : goal.overflow_add-line
overflow_add-line c =
    let blocks = c.args.database.now in
    let is = text_is blocks c.loop-at.at c.text.result.now c.text.ensures in
    let short = text_short c.args.first blocks c.loop-at.at c.requires (omega arith) in
    let few = c.requires.few in
    let room = c.loop-at.invariant.room in
    omega (arith, short, c.count_lines.ensures.within, ap length is, few, room)

pub loop-at-preserved : goal.loop-at-preserved
loop-at-preserved c =
    let blocks = c.args.database.now in
    let rename = rename_seen c.args.rename in
    let at = c.loop-at.at in
    let is = text_is blocks at c.text.result.now c.text.ensures in
    let short = text_short c.args.first blocks at c.requires (omega arith) in
    let lines = c.count_lines.ensures.lines ∙ ap line_count (sym is) in
    let whole = can_next rename blocks at c.in_ok-push_edits_at.field-0 _ (omega arith) c.loop-at.invariant.can c.in_ok-push_edits_at.ensures.all in
    record {
      can = sym (ap (λ (b : Bool). b && can_be_renamed rename (at + 1) (drop (at + 1) blocks)) c.if-not-branch.false) ∙ whole;
      so = ap (λ (n : ℕ). map rename_edit_seen c.push_edits_at.new.edits.items ++ edits_from rename (at + 1) (c.loop-at.line + n) (drop (at + 1) blocks)) lines
          ∙ edits_next rename blocks (map rename_edit_seen c.loop-at.edits.items) (map rename_edit_seen c.push_edits_at.new.edits.items) c.loop-at.line at _
          (omega arith) c.loop-at.invariant.so (c.in_ok-push_edits_at.ensures.edits c.if-not-branch.false);
      room = omega (arith, short, c.count_lines.ensures.within, ap length is, c.loop-at.invariant.room);
    }
