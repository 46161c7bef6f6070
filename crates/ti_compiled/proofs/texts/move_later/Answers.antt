use Rattle.std.proofs.Common.{◌≡◌, ◌+◌, ◌*◌, ℕ, List, length, ap, ◌∙◌, subst}
use Rattle.ti_layout.specs.declared.layout.Format.TheVariants.{Legacy}
use Rattle.ti_layout.specs.Layout.{number_bytes}
use Rattle.ti_layout.specs.Reading.{word_at}
use Rattle.ti_compiled.specs.inside.Bytes.{Replaces}
use Rattle.ti_compiled.proofs.Moving.{moved_end, moved_over, moved_past}
use Rattle.ti_compiled.proofs.texts.move_later.Goals as goal
use Rattle.ti_compiled.proofs.texts.move_later.Goals.{then-offset-ne-ABSENT_WORD, else-offset-ne-ABSENT_WORD}

as_word : (old new : List ℕ) (at n : ℕ) (part : List ℕ) → part ≡ number_bytes Legacy n → Replaces old new at (length part) (λ _. part)
    → Replaces old new at 2 (λ _. number_bytes Legacy n)
as_word old new at n part e h = subst (λ x. Replaces old new at (length x) (λ _. x)) e h

pub loop-at-preserved : goal.loop-at-preserved
loop-at-preserved c =
    let a = c.args in
    let low = c.loop-at.auto.at in
    let read : c.word-offset.result ≡ word_at (a.begin + 2 * c.loop-at.at) c.loop-at.bytes.items =
    c.word-offset.ensures.value ∙ ap (word_at (a.begin + 2 * c.loop-at.at)) c.deref.ensures.value in
    elim c.if-offset-ne-ABSENT_WORD.branch [
      | then-offset-ne-ABSENT_WORD w ↦ record {
        len = rw w.bytes-is (w.overwrite.ensures.len ∙ c.loop-at.invariant.len);
        so_far = rw w.bytes-is (moved_over a.bytes.now.items a.begin a.from a.to a.removed a.added c.loop-at.bytes.items c.loop-at.at c.word-offset.result
            low c.loop-at-test.true c.loop-at.invariant.so_far read
            _ w.saturating_sub-moved.result w.if-offset-ne-ABSENT_WORD.true w.saturating_sub-moved.ensures
            (as_word _ _ _ _ _ w.word_bytes.ensures w.overwrite.ensures.part));
      }
      | else-offset-ne-ABSENT_WORD w ↦ record {
        len = rw w.bytes-is c.loop-at.invariant.len;
        so_far = rw w.bytes-is (moved_past a.bytes.now.items a.begin a.from a.to a.removed a.added c.loop-at.bytes.items c.loop-at.at c.word-offset.result
            low c.loop-at-test.true c.loop-at.invariant.so_far read w.if-offset-ne-ABSENT_WORD.false);
      }
    ]

pub returns-clause-moved : goal.returns-clause-moved
returns-clause-moved c =
    let a = c.args in
    moved_end a.bytes.now.items a.begin a.from a.to a.removed a.added c.loop-at.bytes.items c.loop-at.at c.loop-at.auto.at c.loop-at-test.false
    c.loop-at.invariant.so_far
