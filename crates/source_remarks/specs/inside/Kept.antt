-- What is kept of a block.
use Rattle.std.specs.Prelude.{◌≡◌, ℕ, Bool, List}
use Rattle.source_hints.specs.Following.{says_after_use}
use Rattle.source_remarks.specs.Hints.{block_marks}
use Rattle.source_remarks.specs.declared.marks.HintMark.{HintMark}

-- the hints on the text of a block, and whether an item of it says a capability after a use
pub record IsKeptOf (user_defined : Bool) (text : List ℕ) (marks : List HintMark) (follows : Bool) : Type 0 where
  pub are_marks : marks ≡ block_marks user_defined text
  pub says : follows ≡ says_after_use text
