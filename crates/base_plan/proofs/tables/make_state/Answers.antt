use Rattle.std.proofs.Common.{ℕ, ◌∙◌, ◌<◌, ◌≤◌, inl, inr, List, length, refl, ap, subst, sym}
use Rattle.std.specs.Result.{is_ok}
use Rattle.std.proofs.lemmas.Bool.{cases_lt, false≢true}
use Rattle.ti_source.specs.Reading.{reading_of}
use Rattle.ti_layout.specs.Image.{image, image_limit}
use Rattle.ti_layout.specs.Values.{contents}
use Rattle.ti_compiled.specs.Image.{bytes_of}
use Rattle.base_meaning.specs.Compiled.{image_of}
use Rattle.base_meaning.proofs.Imaging.{image_says, limit_says}
use Rattle.base_plan.proofs.BlockValues.{within, over}
use Rattle.base_plan.proofs.tables.make_state.Goals as goal

pub returns-in-Ok-clause-state : goal.returns-in-Ok-clause-state
returns-in-Ok-clause-state c = λ mentions says.
    let field = c.args.slot.now.block.field.items in
    let t = contents c.args.table in
    let small : length (image field t) ≤ image_limit t =
    elim (cases_lt (image_limit t) (length (image field t))) [
      | inl large ↦ absurd (false≢true (sym (ap is_ok (c.in-Ok.ensures.too_large.1 large))))
      | inr fits ↦ fits
    ]
    in
    within (reading_of c.args.slot.now.block) mentions (bytes_of c.in-Ok.image) (c.in-Ok.ensures.image ∙ image_says field t mentions says)
    (subst (λ n. length (bytes_of c.in-Ok.image) ≤ n) (limit_says t mentions says)
    (subst (λ (i : List ℕ). length i ≤ image_limit t) (sym c.in-Ok.ensures.image) small))

pub returns-in-Err-TooLarge-clause-state : goal.returns-in-Err-TooLarge-clause-state
returns-in-Err-TooLarge-clause-state c = λ mentions says.
    let large = c.in-Err-TooLarge.ensures.too_large.0 (rw c.in-Err-TooLarge.field-0-is refl) in
    let size = image_says c.args.slot.now.block.field.items (contents c.args.table) mentions says in
    let limit = limit_says (contents c.args.table) mentions says in
    over (reading_of c.args.slot.now.block) mentions (subst (λ n. n < length (image_of (reading_of c.args.slot.now.block) mentions)) limit
    (subst (λ i. image_limit (contents c.args.table) < length i) size large))
