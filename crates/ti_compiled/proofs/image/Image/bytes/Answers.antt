use Rattle.std.proofs.Common.{◌≤◌, List, ℕ, length, sym, ap, ◌∙◌, subst}
use Rattle.ti_layout.specs.Image.{image_limit}
use Rattle.ti_compiled.specs.Image.{NamedTable, bytes_of, held_by}
use Rattle.ti_compiled.specs.inside.Image.{contents_in}
use Rattle.ti_compiled.proofs.Seen.{seen_bytes, seen_says}
use Rattle.ti_compiled.proofs.image.Image.bytes.Goals as goal

pub returns-clause-image : goal.returns-clause-image
returns-clause-image c = c.as_slice.ensures.value ∙ sym (seen_bytes _ c.self.invariant) ∙ ap bytes_of c.self.view_is

pub returns-clause-within : goal.returns-clause-within
returns-clause-within c =
    let bytes = c.self.inside.bytes.items in
    let limits = ap image_limit (sym (seen_says bytes c.self.invariant)) ∙ ap (λ (i : NamedTable). image_limit (held_by i)) c.self.view_is in
    let small : length bytes ≤ image_limit (contents_in bytes) =
    subst (λ (b : List ℕ). length b ≤ image_limit (contents_in bytes)) (sym c.self.invariant.whole) c.self.invariant.imaged.within in
    subst (λ n. length c.as_slice.result.now ≤ n) limits (subst (λ (b : List ℕ). length b ≤ image_limit (contents_in bytes))
    (sym c.as_slice.ensures.value) small)
