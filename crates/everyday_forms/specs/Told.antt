-- One thing that is told of a source, as plain data (own).
use Rattle.std.specs.Prelude.{ℕ, List}
use Rattle.source_types.specs.declared.places.Range.{Range}
use Rattle.source_types.specs.declared.severities.Severity.{Severity}
use Rattle.everyday_forms.specs.declared.told.Told.{Told}

-- the file, what is faulty as an editor counts it, its line, where in the line it begins and how many
-- bytes of it it is, how bad it is, and the words of each form
pub record ToldSeen : Type 0 where
  pub file : List ℕ
  pub range : Range
  pub line : List ℕ
  pub offset : ℕ
  pub size : ℕ
  pub severity : Severity
  pub code : List ℕ
  pub title : List ℕ
  pub sentence : List ℕ
  pub message : List ℕ

-- a thing that borrows its words, as plain data
abbrev pub told_seen : Told → ToldSeen
told_seen told = record {
  file = told.file.now;
  range = told.range;
  line = told.line.now;
  offset = told.offset;
  size = told.size;
  severity = told.severity;
  code = told.code.now;
  title = told.title.now;
  sentence = told.sentence.now;
  message = told.message.now;
}
