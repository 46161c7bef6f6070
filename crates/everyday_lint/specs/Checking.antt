-- What is found out about a source (own): the faults and hints of the language server, once the fixes
-- that are certain are made, if fixes are made. What is told of is the text that is read of the source:
-- without a byte order mark in front, and without the CR of lines that end in CR LF.
use Rattle.std.specs.Prelude.{◌≡◌, ℕ, List, [], if◌then◌else◌}
use Rattle.source_plain.specs.Reading.{plain_source, without_mark}
use Rattle.source_document.specs.Diagnostics.{diagnostics_by}
use Rattle.source_remarks.specs.Remarks.{remarks_of}
use Rattle.source_settings.specs.Published.{SeenPublished, published}
use Rattle.source_settings.specs.Settings.{SeenSettings}
use Rattle.everyday_lint.specs.Fixing.{made}
use Rattle.everyday_lint.specs.Offers.{OfferSeen, offers_of}
use Rattle.everyday_lint.specs.Telling.{severities_of, told_of_all}
use Rattle.everyday_lint.specs.declared.checking.Linted.{Linted}
use Rattle.everyday_lint.specs.declared.options.LintOptions.{LintOptions}

-- the fixes of a text that are certain, if fixes are made: those of its diagnostics
abbrev pub offers_in : LintOptions → List ℕ → List OfferSeen
offers_in options text = if options.fix then offers_of options.capabilities text (diagnostics_by options.capabilities text) else []

-- those of a source that are made, in its lines as they are
abbrev pub made_in : LintOptions → List ℕ → List OfferSeen
made_in options source = made (without_mark source) 0 (offers_in options (plain_source source))

-- what is published of the remarks on a source, by what is settled
abbrev pub published_in : LintOptions → SeenSettings → List ℕ → List SeenPublished
published_in options settings source = published settings (plain_source source) (remarks_of options.capabilities source)

-- what is found out about a source of a file, of which this was told before: what is told are its
-- faults, with its hints among them, as they are published
pub record IsLintedSource (options : LintOptions) (settings : SeenSettings) (file source before : List ℕ) (linted : Linted) : Type 0 where
  pub fixes : linted.fixes.items ≡ before
  pub told : linted.told.items ≡ told_of_all options.form file (plain_source source) (published_in options settings source)
  pub severities : linted.severities.items ≡ severities_of (published_in options settings source)
