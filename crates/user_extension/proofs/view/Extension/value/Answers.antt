use Rattle.std.proofs.Common.{Some, ap, sym, ◌∙◌, arith}
use Rattle.std.specs.Option.{option_map}
use Rattle.user_extension.specs.Reading.{ReadRow, value_in}
use Rattle.user_extension.specs.View.{parts_of}
use Rattle.user_extension.proofs.Rows.{rows_long, row_stands}
use Rattle.user_extension.proofs.Values.{lent_sound, value_sound}
use Rattle.user_extension.proofs.view.Extension.value.Goals as goal

pub value_at-requires : goal.value_at-requires
value_at-requires c = let e = c.args.self.now in let l = rows_long e.format (parts_of e) in omega (arith, l, c.requires)

pub returns-clause-value : goal.returns-clause-value
returns-clause-value c =
    let e = c.args.self.now in
    let l = rows_long e.format (parts_of e) in
    let stands = row_stands e.format (parts_of e) c.args.place (omega (arith, l, c.requires)) in
    ap (λ v. Some v) c.value_at.ensures ∙ sym (ap (option_map (λ (r : ReadRow). r.1)) stands)

pub returns-clause-sound : goal.returns-clause-sound
returns-clause-sound c =
    let e = c.args.self.now in
    lent_sound c.value_at.result (value_in e.format (parts_of e) c.args.place) c.value_at.ensures (value_sound e.format (parts_of e) c.args.place)
