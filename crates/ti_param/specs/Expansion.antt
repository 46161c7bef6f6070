-- What an expansion gives, by the tree of its format and the tree's meaning: terminfo(5),
-- "Parameterized Strings".
use Rattle.std.specs.Prelude.{◌≡◌, ℕ, List, ℤ, Ok, Err}
use Rattle.ti_formats.specs.Formats.{FormatTree, IsTree}
use Rattle.ti_param.specs.Meaning.{FormatArgument, MachineState, start, meaning}

-- the format has a tree, which runs to this output and these static variables
pub record Expands (format : List ℕ) (parameters : List FormatArgument) (before : List ℤ) (output : List ℕ) (after : List ℤ) : Type 0 where
  pub tree : FormatTree
  pub is_tree : IsTree format tree
  pub final : MachineState
  pub runs : meaning tree (start parameters before) ≡ Ok final
  pub output_is : output ≡ final.output
  pub statics_are : after ≡ final.statics

-- the format has a tree, which runs until the code at the place finds the stack full
pub record Overflows (format : List ℕ) (parameters : List FormatArgument) (before : List ℤ) (place : ℕ) : Type 0 where
  pub tree : FormatTree
  pub is_tree : IsTree format tree
  pub runs : meaning tree (start parameters before) ≡ Err place
