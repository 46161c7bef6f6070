use Rattle.std.proofs.Common.{sym, subst}
use Rattle.ti_layout.specs.Image.{ImageFits}
use Rattle.ti_layout.specs.Values.{Contents}
use Rattle.ti_compiled.specs.Image.{NamedTable, held_by}
use Rattle.ti_compiled.specs.inside.Image.{names_in}
use Rattle.ti_compiled.proofs.Seen.{seen_says}
use Rattle.ti_compiled.proofs.image.Image.is_within_limit.Goals as goal

pub returns : goal.returns
returns c =
    let bytes = c.self.inside.bytes.items in
    subst (λ (i : NamedTable). ImageFits i.names (held_by i)) c.self.view_is
    (subst (λ (f : Contents). ImageFits (names_in bytes) f) (sym (seen_says bytes c.self.invariant)) c.self.invariant.imaged.within)
