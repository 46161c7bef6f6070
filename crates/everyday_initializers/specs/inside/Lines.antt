-- An entry in memory, and its lines by their tables, as plain data (own).
use Rattle.std.specs.Prelude.{ℕ, List}
use Rattle.ti_layout.specs.View.{names_of, view_contents}
use Rattle.user_extension.specs.View.{read_rows}
use Rattle.everyday_initializers.specs.Initializers.{flag_at, name_line, number_at, string_at, text_at}
use Rattle.everyday_initializers.specs.Rows as spec
use Rattle.everyday_initializers.specs.inside.Marks.{marks_seen}
use Rattle.everyday_initializers.specs.declared.lines.Line.{Line}
use Rattle.everyday_initializers.specs.declared.lines.Line.TheVariants as line
use Rattle.everyday_initializers.specs.declared.rows.Described.{Described}

-- an entry
abbrev pub described_seen : Described → spec.Described
described_seen d = record {
  names = names_of d.view;
  contents = view_contents d.view;
  rows = read_rows d.extension;
  marks = marks_seen d.marks;
  extra = marks_seen d.extra;
}

-- the line at an index
abbrev pub line_of : spec.Described → Line → ℕ → List ℕ
line_of d line.String index = string_at d index
line_of d line.Flag index = flag_at d index
line_of d line.Number index = number_at d index
line_of d line.Text index = text_at d index
line_of d (line.Name kind) index = name_line d kind index
