-- The jobs of the program, as plain data (own).
use Rattle.std.specs.Prelude.{ℕ, Bool, List, Option}
use Rattle.clap.specs.Walk.{Text}
use Rattle.ti_list.specs.declared.layout.Layout.{Layout}
use Rattle.tools_commands.specs.declared.jobs.InfocmpMode.{InfocmpMode}

-- a job of infocmp: the mode, the names, the layout, the only place for the first name, and that
-- for the others
pub record InfocmpTask : Type 0 where
  pub mode : InfocmpMode
  pub names : List Text
  pub layout : Layout
  pub first_dir : Option Text
  pub other_dir : Option Text

-- a job
pub data Task : Type 0 where
  task_tic : Bool → Option Text → Option Text → Task
  task_tput : Bool → Option Text → ℕ → List Text → Task
  task_session : Task
  task_infocmp : InfocmpTask → Task
