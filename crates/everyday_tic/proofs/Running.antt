-- What a run does, by what comes of its source and what is written of that.
use Rattle.std.proofs.Common.{◌≡◌, ℕ, Bool, List, Option, Result, inr, subst}
use Rattle.tools_devices.specs.Counted.{Observed}
use Rattle.tools_devices.specs.Tree.{Files}
use Rattle.everyday_tic.specs.Outcomes.{Asked, ComesOfPlain, Made}
use Rattle.everyday_tic.specs.Writing.{Runs, WritesOut, says_summary}
use Rattle.everyday_tic.specs.declared.writing.TicStop.{TicStop}
use Rattle.source_plain.specs.Reading.{plain_source}

pub ran : (asked : Asked) (summarizes says : Bool) (directories : List (List ℕ)) (file source : List ℕ) (before mid after : Option Files) (failures between : ℕ)
    (said now : Observed) (result : Result ℕ TicStop) (made : Made) → says ≡ says_summary asked summarizes → mid ≡ before
    → ComesOfPlain asked before directories file (plain_source source) failures between made → WritesOut says asked.directory made mid after said now result
    → Runs asked summarizes directories file source before after failures said now result
ran asked summarizes says directories file source before mid after failures between said now result made is kept comes writes =
    inr (
      made,
      between,
      comes,
      subst (λ (files : Option Files). WritesOut (says_summary asked summarizes) asked.directory made files after said now result) kept
          (subst (λ (b : Bool). WritesOut b asked.directory made mid after said now result) is writes),
    )
