-- A source as a database shows it (own): the rule by which its blocks are read, and their texts in
-- the order of the list.
use Rattle.std.specs.Prelude.{ℕ, List}
use Rattle.ti_source.specs.declared.parsing.Rule.{Rule}

-- a source that is read by a rule
pub record RuledTexts : Type 0 where
  pub rule : Rule
  pub texts : List (List ℕ)
