use Rattle.std.proofs.Common.{List, ap, length, ◌∙◌}
use Rattle.std.specs.Prelude.{ℕ, nat_lt}
use Rattle.ti_printing.proofs.Cuts.{padded_computed}
use Rattle.source_strings.specs.Explained.{has_padding, silent}
use Rattle.source_strings.proofs.explaining.has_padding.Goals as goal

pub returns-in-Ok : goal.returns-in-Ok
unfolding has_padding
returns-in-Ok c =
    let text = c.args.text.now in
    c.is_shorter.ensures
    ∙ ap (λ (sent : List ℕ). nat_lt (length sent) (length text))
    (c.as_slice.ensures.value ∙ padded_computed text 1 silent c.in-Ok.sent.items c.in-Ok.ensures.ok)
