use Rattle.std.proofs.Common.{◌≡◌, ℕ, ◌<◌, List, ◌∷◌, [], ◌++◌, ◌∙◌, ◌+◌, Some, map, take, length, slice_get, sym, ap}
use Rattle.std.specs.Option.{option_map}
use Rattle.std.proofs.lemmas.List.{map-append}
use Rattle.std.proofs.lemmas.Option.{get_or_from_slice_get, same_Some, slice_get_within, slice_get-map}
use Rattle.ti_text.proofs.Lists.{take_item}
use Rattle.ti_source.specs.Reading.{Reading}
use Rattle.ti_source.specs.Parsing.{reading_of_text}
use Rattle.base_meaning.specs.Owner.{readings}
use Rattle.user_items.specs.Reading.{user_reading_of}
use Rattle.user_items.specs.Parsing.{user_reading_of_text}
use Rattle.user_values.proofs.values.read_all.Goals as goal

-- what a database says of a block is what reading its text gives
known : {X : Type 0} (part : Reading → X) (texts : List (List ℕ)) (at : ℕ) (text : List ℕ) (x : X) → slice_get texts at ≡ Some text
    → option_map part (slice_get (readings texts) at) ≡ Some x → x ≡ part (reading_of_text text)
known part texts at text x stands e =
    same_Some x (part (reading_of_text text))
    (sym e ∙ ap (option_map part) (slice_get-map reading_of_text texts at ∙ ap (option_map reading_of_text) stands))

pub known_user_items-requires-clause-items : goal.known_user_items-requires-clause-items
known_user_items-requires-clause-items c =
    known (λ (block : Reading). block.items) c.args.database.now.texts c.loop-at.at c.text.result.now _ c.text.ensures c.items.ensures

pub known_user_items-requires-clause-faults : goal.known_user_items-requires-clause-faults
known_user_items-requires-clause-faults c =
    known (λ (block : Reading). block.faults) c.args.database.now.texts c.loop-at.at c.text.result.now _ c.text.ensures c.local_faults.ensures

pub loop-at-preserved : goal.loop-at-preserved
loop-at-preserved c =
    let db = c.args.database.now.texts in
    let at = c.loop-at.at in
    let text = c.text.result.now in
    let within : at < length db = slice_get_within db at text c.text.ensures in
    let more : take (at + 1) db ≡ take at db ++ text ∷ [] = take_item db at text within (sym (get_or_from_slice_get db at text text c.text.ensures)) in
    ap (map user_reading_of) c.in_ok-push.ensures.items ∙ map-append user_reading_of c.loop-at.reads.items (c.in_ok-read.read ∷ [])
    ∙ ap (λ xs. xs ++ user_reading_of c.in_ok-read.read ∷ []) c.loop-at.invariant
    ∙ ap (λ r. map user_reading_of_text (take at db) ++ r ∷ []) c.in_ok-read.ensures
    ∙ sym (ap (map user_reading_of_text) more ∙ map-append user_reading_of_text (take at db) (text ∷ []))
