-- How infocmp compares entries (infocmp(1)).
use Rattle.std.specs.Prelude.{Option, Some, None}
use Rattle.ti_list.specs.declared.layout.Mode.{Mode}
use Rattle.ti_list.specs.declared.layout.Mode.TheVariants as rows
use Rattle.tools_commands.specs.declared.jobs.InfocmpMode.{InfocmpMode}
use Rattle.tools_commands.specs.declared.jobs.InfocmpMode.TheVariants as mode

-- how a mode compares entries, if it does
abbrev pub comparison_mode : InfocmpMode → Option Mode
comparison_mode mode.Differ = Some rows.Differ
comparison_mode mode.Common = Some rows.Common
comparison_mode mode.Neither = Some rows.Neither
comparison_mode _ = None
