use Rattle.std.proofs.Common.{◌<◌, arith, ap, ◌∙◌, length}
use Rattle.std.proofs.lemmas.List.{length-map}
use Rattle.ti_layout.specs.Image.{image_in}
use Rattle.ti_layout.specs.Values.{contents}
use Rattle.user_extension.specs.UserDefined.{rows_of, row_of}
use Rattle.user_extension.specs.Extension.{extension}
use Rattle.user_extension.proofs.Entry.{extension_small, image_small, made, made_alone, none, some}
use Rattle.user_extension.proofs.writing.entry_bytes.Goals.{then-not-is_empty+in_ok-push_fill+in_ok-push_extension, else-not-is_empty}
use Rattle.user_extension.proofs.writing.entry_bytes.Goals as goal

pub write_in-requires-clause-small : goal.write_in-requires-clause-small
write_in-requires-clause-small c =
    let small = image_small c.args.names.now (contents c.args.table.now) (rows_of c.args.rows.now) c.requires.small in
    let e = ap (λ f. length (image_in f c.args.names.now (contents c.args.table.now))) c.requires.header.format in
    omega (arith, e, small)

pub push_extension-requires-clause-small : goal.push_extension-requires-clause-small
push_extension-requires-clause-small c =
    let rows = rows_of c.args.rows.now in
    let many : 0 < length rows =
    let n = some (length c.args.rows.now) c.if-not-is_empty.ensures in omega (arith, n, length-map c.args.rows.now (λ u. row_of u)) in
    let small = extension_small c.args.names.now (contents c.args.table.now) rows many c.requires.small in
    let e = ap (λ f. length (extension f rows)) c.requires.header.format in
    omega (arith, e, small)

pub returns : goal.returns
returns c =
    let rows = rows_of c.args.rows.now in
    elim c.if-not-is_empty.branch [
      | then-not-is_empty+in_ok-push_fill+in_ok-push_extension w ↦
          let many : 0 < length rows =
          let n = some (length c.args.rows.now) w.if-not-is_empty.ensures in omega (arith, n, length-map c.args.rows.now (λ u. row_of u)) in
          ap (λ im. im.items) w.image-is
          ∙ made c.args.names.now (contents c.args.table.now) rows c.args.header.now.format _ _ _ _ many c.requires.header.format c.in_ok-image.ensures
          (w.len-odd.ensures ∙ c.in_ok-image.image.ok.0) w.in_ok-push_fill.ensures w.in_ok-push_extension.ensures
      | else-not-is_empty w ↦
          ap (λ im. im.items) w.image-is
          ∙ made_alone c.args.names.now (contents c.args.table.now) rows _ _ (length-map c.args.rows.now (λ u. row_of u)
          ∙ none (length c.args.rows.now) w.if-not-is_empty.ensures) c.requires.header.format c.in_ok-image.ensures
    ]
