-- Laws of line graphics.
use Rattle.std.specs.Prelude.{◌≡◌, ℕ, Bool, List, codes}
use Rattle.ti_caps.specs.Tables.{name_of}
use Rattle.ti_source.specs.declared.parsing.Rule.{Rule}
use Rattle.base_meaning.specs.Compiled.{EntryState}
use Rattle.everyday_graphics.specs.Entries.{AreWrittenStates}
use Rattle.everyday_graphics.specs.Graphics.{acsc, rmacs, smacs}

-- the three capabilities have these names
pub record GraphicsAreNamed : Type 0 where
  pub smacs : name_of smacs ≡ codes "smacs"
  pub rmacs : name_of rmacs ≡ codes "rmacs"
  pub acsc : name_of acsc ≡ codes "acsc"

-- of the blocks of a list only one thing is written
abbrev pub WrittenStatesAreDetermined : Type 0
WrittenStatesAreDetermined =
    (rule : Rule) (user_defined draws : Bool) (texts : List (List ℕ)) (states others : List EntryState)
    → AreWrittenStates rule user_defined draws texts states → AreWrittenStates rule user_defined draws texts others → states ≡ others
