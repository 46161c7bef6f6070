-- a row's value is that at its place
use Rattle.std.proofs.Common.{◌∙◌, ◌<◌, [], None, ap, ap₂, length, sym, rules}
use Rattle.std.specs.Prelude.{option_map}
use Rattle.std.proofs.lemmas.List.Sums.{fold_more}
use Rattle.std.proofs.lemmas.Option.{same_Some, slice_get-get_or}
use Rattle.user_extension.specs.Reading.{ReadRow}
use Rattle.user_extension.specs.View.{read_rows}
use Rattle.everyday_toe.specs.Sums.{given_added}
use Rattle.everyday_toe.proofs.sums.add_extension.Goals as goal

pub loop-place-preserved : goal.loop-place-preserved
loop-place-preserved c =
    let rows = read_rows c.args.extension.now in
    let place = c.loop-place.place in
    let none : ReadRow = ([], None) in
    let within : place < length rows = search rules in
    let value = same_Some _ _ (c.value.ensures.value ∙ ap (option_map (λ (row : ReadRow). row.1)) (slice_get-get_or rows place none within)) in
    c.add_given-sum.ensures ∙ ap₂ given_added c.loop-place.invariant value
    ∙ sym (fold_more (λ sum row. given_added sum row.1) c.args.total rows place none within)
