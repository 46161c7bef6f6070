-- A source that is read by the rule `Leftmost`, as a database shows it.
use Rattle.std.proofs.Common.{◌≡◌, ℕ, List, ◌∙◌, ap}
use Rattle.ti_source.specs.declared.parsing.Rule.{Rule}
use Rattle.ti_source.specs.declared.parsing.Rule.TheVariants.{Leftmost}
use Rattle.ti_base.specs.RuledTexts.{RuledTexts}

abbrev pub leftmost : List (List ℕ) → RuledTexts
leftmost texts = record { rule = Leftmost; texts = texts }

pub is_leftmost : (source : RuledTexts) (texts : List (List ℕ)) → source.rule ≡ Leftmost → source.texts ≡ texts → source ≡ leftmost texts
is_leftmost source texts e f = ap (λ (r : Rule). record source { rule = r }) e ∙ ap leftmost f
