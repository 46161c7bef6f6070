use Rattle.std.proofs.Common.{ap, ◌∙◌, List, ℕ, eqb}
use Rattle.std.specs.List.{before_first}
use Rattle.ti_layout.proofs.Search.{first_byte-found, first_byte-none}
use Rattle.ti_layout.proofs.ViewLemmas.{rest_of}
use Rattle.user_extension.proofs.texts.text.Goals as goal

pub returns-in-Some : goal.returns-in-Some
returns-in-Some c =
    first_byte-found 0 _ c.in-Some.len c.in-Some.ensures ∙ ap (λ (xs : List ℕ). before_first (λ b. eqb b 0) xs) (rest_of c.args.offset c.args.table.now)

pub returns-in-None : goal.returns-in-None
returns-in-None c =
    first_byte-none 0 _ c.in-None.ensures ∙ ap (λ (xs : List ℕ). before_first (λ b. eqb b 0) xs) (rest_of c.args.offset c.args.table.now)
