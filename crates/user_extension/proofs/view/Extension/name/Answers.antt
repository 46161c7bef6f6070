use Rattle.std.proofs.Common.{List, ℕ, Some, ap, sym, subst, ◌∙◌, arith}
use Rattle.std.specs.Prelude.{IsTrue}
use Rattle.std.specs.Option.{option_map}
use Rattle.user_items.specs.Names.{is_user_defined_name}
use Rattle.user_extension.specs.Reading.{ReadRow, name_in}
use Rattle.user_extension.specs.View.{parts_of}
use Rattle.user_extension.proofs.Rows.{rows_long, row_stands}
use Rattle.user_extension.proofs.view.Extension.name.Goals as goal

pub name_at-requires : goal.name_at-requires
name_at-requires c = let e = c.args.self.now in let l = rows_long e.format (parts_of e) in omega (arith, l, c.requires)

pub returns-clause-name : goal.returns-clause-name
returns-clause-name c =
    let e = c.args.self.now in
    let l = rows_long e.format (parts_of e) in
    let stands = row_stands e.format (parts_of e) c.args.place (omega (arith, l, c.requires)) in
    ap (λ n. Some n) (c.name_at.ensures ∙ ap (λ (t : List ℕ). name_in e.names.now t c.args.place) e.rest) ∙ sym (ap (option_map (λ (r : ReadRow). r.0)) stands)

pub returns-clause-user_defined : goal.returns-clause-user_defined
returns-clause-user_defined c =
    let e = c.args.self.now in
    let l = rows_long e.format (parts_of e) in
    subst (λ n. IsTrue (is_user_defined_name n)) (sym c.name_at.ensures) (e.user_defined c.args.place (omega (arith, l, c.requires)))
