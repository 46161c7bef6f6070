-- The sections that an extension's header cuts (own).
use Rattle.std.specs.Prelude.{◌≡◌, ℕ, ◌<◌, ◌≤◌, List, length}
use Rattle.ti_layout.specs.declared.layout.Format.{Format}
use Rattle.ti_layout.specs.declared.layout.Format.TheVariants.{Legacy}
use Rattle.ti_layout.specs.Layout.{first_negative}
use Rattle.user_extension.specs.declared.checks.Sections.{Sections}
use Rattle.user_extension.specs.Reading.{Parts, header_size, name_count, parts_in, table_end, table_size}

-- the sections as bytes
abbrev pub parts_cut : Sections → Parts
parts_cut s = record { flags = s.flags.now; numbers = s.numbers.now; values = s.values.now; names = s.names.now; table = s.table.now }

-- the bytes are as long as their header says, and are cut into these sections
pub record IsCut (format : Format) (rest : List ℕ) (s : Sections) : Type 0 where
  pub long : header_size ≤ length rest
  pub few_names : name_count rest < first_negative Legacy
  pub table_fits : table_size rest < first_negative Legacy
  pub whole : table_end format rest ≤ length rest
  pub cut : parts_cut s ≡ parts_in format rest
