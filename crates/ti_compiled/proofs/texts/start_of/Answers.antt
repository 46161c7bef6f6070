use Rattle.std.proofs.Common.{◌≡◌, ◌≢◌, ◌≤◌, ℕ, List, [], ◌++◌, length, sym, ap, ◌∙◌, append-nil, arith}
use Rattle.ti_caps.specs.declared.capability.Kind.TheVariants.{Text}
use Rattle.ti_layout.specs.Image.{texts_below, text_piece, of_kind, written_count}
use Rattle.ti_layout.proofs.Texts.{texts-more}
use Rattle.ti_compiled.specs.inside.Image.{names_in, contents_in}
use Rattle.ti_compiled.proofs.TextPlaces.{offset_of, offset_found, offset_tells, texts_within, strings_exact, texts_past}
use Rattle.ti_compiled.proofs.texts.start_of.Goals as goal

pub word-offset-requires : goal.word-offset-requires
word-offset-requires c =
    let w = texts_within c.args.bytes.now c.requires.image c.args.header.now c.requires.sizes in
    let e = c.offsets_offset-begin.ensures in
    let t = c.loop-at-test.true in
    omega arith

pub returns-then-offset-ne-ABSENT_WORD : goal.returns-then-offset-ne-ABSENT_WORD
returns-then-offset-ne-ABSENT_WORD c =
    let b = c.args.bytes.now in
    let e = offset_found c.args.bytes.now c.requires.image c.args.header.now c.requires.sizes c.offsets_offset-begin.result c.loop-at.at
    c.word-offset.result c.offsets_offset-begin.ensures c.loop-at-test.true c.word-offset.ensures.value in
    let there : offset_of (contents_in b) c.loop-at.at ≢ 65535 = λ h. c.if-offset-ne-ABSENT_WORD.true (e ∙ h) in
    e ∙ ((offset_tells (names_in b) (contents_in b) c.requires.image.imaged c.loop-at.at).there there).1 ∙ c.loop-at.invariant

pub loop-at-preserved : goal.loop-at-preserved
loop-at-preserved c =
    let b = c.args.bytes.now in
    let d = contents_in b in
    let at = c.loop-at.at in
    let found = offset_found c.args.bytes.now c.requires.image c.args.header.now c.requires.sizes c.offsets_offset-begin.result at c.word-offset.result
    c.offsets_offset-begin.ensures c.loop-at-test.true c.word-offset.ensures.value in
    let none : text_piece (of_kind d Text at) ≡ [] =
    ((offset_tells (names_in b) d c.requires.image.imaged at).absent (sym found ∙ c.if-offset-ne-ABSENT_WORD.false)).1 in
    ap (λ (t : List ℕ). length t) (texts-more d at ∙ ap (λ t. texts_below d at ++ t) none ∙ append-nil (texts_below d at)) ∙ c.loop-at.invariant

pub returns : goal.returns
returns c =
    let b = c.args.bytes.now in
    let d = contents_in b in
    let T = c.requires.sizes.texts in
    let end : written_count d Text ≤ c.loop-at.at = omega arith in
    strings_exact b c.requires.image c.args.header.now c.requires.sizes
    ∙ sym (ap (λ (t : List ℕ). length t) (texts_past (names_in b) d c.requires.image.imaged c.loop-at.at end)) ∙ c.loop-at.invariant
