-- What is told in a form (own).
use Rattle.std.specs.Prelude.{ℕ, List}
use Rattle.everyday_forms.specs.Gcc.{gcc_text, line_text}
use Rattle.everyday_forms.specs.Github.{github_text}
use Rattle.everyday_forms.specs.Json.{array_of, json_text}
use Rattle.everyday_forms.specs.Told.{ToldSeen}
use Rattle.everyday_forms.specs.declared.told.Form.{Form}
use Rattle.everyday_forms.specs.declared.told.Form.TheVariants.{Gcc, Lines, Github, Json}

-- one thing in a form
abbrev pub told_text : Form → ToldSeen → List ℕ
told_text (Gcc color) told = gcc_text color told
told_text Lines told = line_text told
told_text Github told = github_text told
told_text Json told = json_text told

-- the whole output, by all that was told
abbrev pub whole : Form → List ℕ → List ℕ
whole (Gcc color) told = told
whole Lines told = told
whole Github told = told
whole Json told = array_of told
