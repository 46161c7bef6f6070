-- the row with the key of the word has it, or no row has it
use Rattle.std.proofs.Common.{◌∙◌, Ok, Err, arith, inl, inr}
use Rattle.std.proofs.lemmas.Bool.{cases_lt}
use Rattle.std.proofs.lemmas.List.Sorted.{searched}
use Rattle.ti_names.specs.inside.Index.{key_of, texts_of}
use Rattle.ti_names.proofs.Search.{keys_do_not_fall, is_in_row, is_nowhere}
use Rattle.ti_names.proofs.index.last_place.Goals as goal

pub returns-in-Ok : goal.returns-in-Ok
returns-in-Ok c =
    let words = texts_of c.args.words.now in
    let at = searched c.args.keys.now (key_of c.args.word.now) (Ok c.in-Ok.row) (rw (← c.key_of.ensures) c.in-Ok.ensures.position)
    (keys_do_not_fall words c.args.keys.now c.args.places.now c.requires) in
    c.place_in_row.ensures ∙ is_in_row words c.args.keys.now c.args.places.now c.requires c.args.word.now c.in-Ok.row at.0 at.1

pub returns-in-Err : goal.returns-in-Err
returns-in-Err c =
    let words = texts_of c.args.words.now in
    let at = searched c.args.keys.now (key_of c.args.word.now) (Err c.in-Err.field-0) (rw (← c.key_of.ensures) c.in-Err.ensures.position)
    (keys_do_not_fall words c.args.keys.now c.args.places.now c.requires) in
    is_nowhere words c.args.keys.now c.args.places.now c.requires c.args.word.now (λ row l same. elim (cases_lt row c.in-Err.field-0) [
      | inl below ↦ let less = at.1 row below in absurd (omega (arith, less, same))
      | inr above ↦ let more = at.2 row above l in absurd (omega (arith, more, same))
    ])
