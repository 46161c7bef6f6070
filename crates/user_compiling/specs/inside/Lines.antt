-- The line of a fault on the line of a number.
use Rattle.std.specs.Prelude.{ℕ, List}
use Rattle.base_meaning.specs.Report.{fault_line}
use Rattle.user_compiling.specs.Faults.{ExtendedSourceFault, of_profile, bad_user_defined}
use Rattle.user_compiling.specs.Report.{bad_line}

abbrev pub line_with_number : ℕ → ExtendedSourceFault → List ℕ
line_with_number number (of_profile f) = fault_line number f.code f.detail
line_with_number number (bad_user_defined block line name) = bad_line number name
