use Rattle.std.proofs.Common.{◌≡◌, true, false, refl, sym, subst, length, inl, inr}
use Rattle.std.proofs.lemmas.Bool.{cases_lt}
use Rattle.std.proofs.lemmas.List.{length-map}
use Rattle.ti_layout.specs.Sizes as layout
use Rattle.ti_layout.specs.Values.{contents}
use Rattle.user_extension.specs.UserDefined.{rows_of, row_of}
use Rattle.user_extension.specs.Extension.{entry, entry_limit}
use Rattle.user_extension.proofs.Entry.{fits_when, fits_then}
use Rattle.user_extension.proofs.writing.plan.Goals as goal

pub returns-then-fits-clause-fits : goal.returns-then-fits-clause-fits
returns-then-fits-clause-fits c =
    let names = c.args.names.now in
    let t = contents c.args.table.now in
    let header = subst (λ w. layout.HasSizesIn w names t c.header_in-header.result) c.format_wanted.ensures c.header_in-header.ensures in
    fits_when names t (rows_of c.args.rows.now) c.header_in-header.result c.sizes_of-sizes.result _
    (sym (length-map c.args.rows.now (λ u. row_of u))) header c.sizes_of-sizes.ensures (c.if-fits.ensures.0 refl)

pub returns-else-fits-clause-too_large : goal.returns-else-fits-clause-too_large
returns-else-fits-clause-too_large c =
    let names = c.args.names.now in
    let t = contents c.args.table.now in
    let rows = rows_of c.args.rows.now in
    let header = subst (λ w. layout.HasSizesIn w names t c.header_in-header.result) c.format_wanted.ensures c.header_in-header.ensures in
    elim (cases_lt (entry_limit t rows) (length (entry names t rows))) [
      | inl large ↦ large
      | inr small ↦
          let never : false ≡ true = c.if-fits.ensures.1 (fits_then names t rows c.header_in-header.result c.sizes_of-sizes.result _
          (sym (length-map c.args.rows.now (λ u. row_of u))) header c.sizes_of-sizes.ensures small) in
          absurd cc
    ]
