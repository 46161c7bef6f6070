-- Where writing stops.
use Rattle.std.proofs.Common.{◌≡◌, ℕ, Bool, List, Option, Result, Ok, Err, inl, inr, refl, sym, subst}
use Rattle.tools_devices.specs.Counted.{Observed}
use Rattle.tools_devices.specs.Tree.{Files, Writes}
use Rattle.tools_devices.specs.Writing.{TakesAll}
use Rattle.tools_devices.proofs.Written.{TakesAll-then}
use Rattle.everyday_tic.specs.Outcomes.{Made}
use Rattle.everyday_tic.specs.Writing.{WritesOut, summary_if}
use Rattle.everyday_tic.specs.declared.writing.TicStop.{TicStop}
use Rattle.everyday_tic.specs.declared.writing.TicStop.TheVariants.{Report, File, Memory}
use Rattle.everyday_tic.specs.inside.Stops.{Filed, Said, SaidIfMade}

-- what is said by one who cannot run out of memory
pub said_if_made : (said now : Observed) (bytes : List ℕ) (result : Result Unit TicStop) → Said said now bytes result → SaidIfMade said now bytes result
said_if_made said now bytes (Ok done) all = all
said_if_made said now bytes (Err Report) front = front
said_if_made said now bytes (Err (File path)) none = none
said_if_made said now bytes (Err Memory) none = absurd none

module _ (summarizes : Bool) (directory : List ℕ) (made : Made) (before : Option Files) (said : Observed) where
  -- the report could not be said
  pub stops_at_report : (now : Observed) (stop : TicStop) → Said said now made.report (Err stop)
      → WritesOut summarizes directory made before before said now (Err stop)
  stops_at_report now Report front = inl (refl, front)
  stops_at_report now (File path) none = absurd none
  stops_at_report now Memory none = absurd none

  -- a file could not be written
  pub stops_at_file : (after : Option Files) (now : Observed) (stop : TicStop) → TakesAll said now made.report → Filed made.files before after (Err stop)
      → WritesOut summarizes directory made before after said now (Err stop)
  stops_at_file after now Report all (count, up_to, place) = absurd place
  stops_at_file after now (File path) all (count, up_to, place) = (all, count, place.0, up_to, place.1)
  stops_at_file after now Memory all (count, up_to, place) = (all, inl (count, up_to))

  -- the line of `-s` could not be said
  pub stops_at_summary : (after : Option Files) (between now : Observed) (stop : TicStop) → TakesAll said between made.report → Writes made.files before after
      → SaidIfMade between now (summary_if summarizes made.entries directory) (Err stop)
      → WritesOut summarizes directory made before after said now (Err stop)
  stops_at_summary after between now Report all files front = inr (files, between, all, front)
  stops_at_summary after between now (File path) all files none = absurd none
  stops_at_summary after between now Memory all files same = (subst (λ (o : Observed). TakesAll said o made.report) (sym same) all, inr files)

  -- all was written
  pub writes_all : (after : Option Files) (between now : Observed) (status : ℕ) → status ≡ made.status → TakesAll said between made.report
      → Writes made.files before after
      → TakesAll between now (summary_if summarizes made.entries directory)
      → WritesOut summarizes directory made before after said now (Ok status)
  writes_all after between now status is report files line =
      (is, files, TakesAll-then said between now made.report (summary_if summarizes made.entries directory) report line)
