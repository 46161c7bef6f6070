-- What is told of the faults and hints of a text (own).
use Rattle.std.specs.Prelude.{ℕ, ◌-◌, List, [], flat_map, map}
use Rattle.source_plain.specs.Reading.{plain_source}
use Rattle.source_types.specs.declared.severities.Severity.{Severity}
use Rattle.source_diagnostics.specs.declared.capabilities.Capabilities.{Capabilities}
use Rattle.source_remarks.specs.Hints.{hints_of_source}
use Rattle.source_remarks.specs.Remarks.{label_of_remark, message_of, range_of, remarks_by}
use Rattle.source_settings.specs.Published.{SeenPublished, as_it_is}
use Rattle.source_places.specs.LineTexts.{line_of}
use Rattle.source_places.specs.Position.{offset_of}
use Rattle.everyday_forms.specs.Forms.{told_text}
use Rattle.everyday_forms.specs.Told.{ToldSeen}
use Rattle.everyday_forms.specs.declared.told.Form.{Form}
use Rattle.everyday_forms.specs.declared.told.Form.TheVariants.{Lines}
use Rattle.everyday_lint.specs.Words.{sentence_of, title_of}

-- the offset of a column in a line: a column is in UTF-16 units, an offset in bytes
abbrev pub byte_offset : List ℕ → ℕ → ℕ
byte_offset line column = offset_of line (record { line = 0; column = column })

-- what is told of a fault or a hint of a text, if what is faulty begins on this line
abbrev pub told_on : (file line : List ℕ) → SeenPublished → ToldSeen
told_on file line published = let remark = published.remark in record {
  file = file;
  range = range_of remark;
  line = line;
  offset = byte_offset line (range_of remark).start.column;
  size = byte_offset line (range_of remark).end.column - byte_offset line (range_of remark).start.column;
  severity = published.severity;
  code = label_of_remark remark;
  title = title_of remark;
  sentence = sentence_of remark (message_of remark);
  message = message_of remark;
}

-- what is told of a fault or a hint of a text
abbrev pub told_of : (file text : List ℕ) → SeenPublished → ToldSeen
told_of file text published = told_on file (line_of text (range_of published.remark).start.line) published

-- what is told of all, one after another
abbrev pub told_of_all : Form → (file text : List ℕ) → List SeenPublished → List ℕ
told_of_all form file text all = flat_map (λ published. told_text form (told_of file text published)) all

-- how bad each is
abbrev pub severities_of : List SeenPublished → List Severity
severities_of all = map (λ (published : SeenPublished). published.severity) all

-- the hints on a source alone, each on a line
abbrev pub hint_lines : Capabilities → (file source : List ℕ) → List ℕ
hint_lines capabilities file source = told_of_all Lines file (plain_source source) (map as_it_is (remarks_by [] (hints_of_source capabilities source)))
