use Rattle.std.proofs.Common.{◌≡◌, ℕ, Option, Some, None, refl, ◌∙◌, unwrap_or}
use Rattle.ti_layout.specs.Image.{number_value}
use Rattle.ti_compiled.specs.inside.Changes.{number_content}
use Rattle.ti_compiled.proofs.NumberChange.{number_put}
use Rattle.ti_compiled.proofs.numbers.numbers_with.Goals as goal

value_of : (n : Option ℕ) → unwrap_or n 4294967295 ≡ number_value 4294967295 (number_content n)
value_of None = refl
value_of (Some n) = refl

pub returns : goal.returns
returns c =
    number_put c.args.bytes.now c.requires.image c.args.old.now c.requires.old c.args.index c.requires.index c.args.number c.read_numbers-values.result
    c.unwrap_or.result c.read_numbers-values.ensures (c.unwrap_or.ensures ∙ value_of c.args.number)
