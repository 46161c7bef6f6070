use Rattle.std.proofs.Common.{◌*◌, ap, ◌∙◌, arith}
use Rattle.ti_layout.specs.Reading.{word_at}
use Rattle.ti_layout.proofs.Search.{first_byte-found, first_byte-none}
use Rattle.ti_layout.proofs.ViewLemmas.{text_past, text_plain, text_void}
use Rattle.ti_layout.proofs.view.View.text.Goals as goal

pub returns-then-index-self : goal.returns-then-index-self
returns-then-index-self c =
    let v = c.args.self.now in
    text_past v.format v.flags.now _ v.offsets.now v.strings.now c.args.cap c.requires (omega arith)

pub returns-then-offset-ge-NEGATIVE_WORD : goal.returns-then-offset-ge-NEGATIVE_WORD
returns-then-offset-ge-NEGATIVE_WORD c =
    let v = c.args.self.now in
    let word = c.word-offset.ensures.value ∙ ap (λ i. word_at (2 * i) v.offsets.now) c.index-2.ensures.value in
    text_void v.format v.flags.now _ v.offsets.now v.strings.now c.args.cap c.requires _ (omega arith) word (omega arith)

pub returns-in-Some : goal.returns-in-Some
returns-in-Some c =
    let v = c.args.self.now in
    let word = c.word-offset.ensures.value ∙ ap (λ i. word_at (2 * i) v.offsets.now) c.index-2.ensures.value in
    text_plain v.format v.flags.now _ v.offsets.now v.strings.now c.args.cap c.requires _ _ (omega arith) word (omega arith)
    (first_byte-found 0 _ c.in-Some.len c.in-Some.ensures)

pub returns-in-None : goal.returns-in-None
returns-in-None c =
    let v = c.args.self.now in
    let word = c.word-offset.ensures.value ∙ ap (λ i. word_at (2 * i) v.offsets.now) c.index-2.ensures.value in
    text_plain v.format v.flags.now _ v.offsets.now v.strings.now c.args.cap c.requires _ _ (omega arith) word (omega arith)
    (first_byte-none 0 _ c.in-None.ensures)
