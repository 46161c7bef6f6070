use Rattle.std.proofs.Common.{◌≡◌, ◌∙◌, ◌+◌, suc, take, arith, sym}
use Rattle.std.proofs.lemmas.Grind.{common_steps}
use Rattle.std.proofs.lemmas.Str.Pattern.{rfind_char}
use Rattle.std.specs.List.{slice_range}
use Rattle.source_settings.proofs.Directories.{directory_to, no_directory}
use Rattle.source_settings.proofs.finding.directory_of.Goals as goal

pub returns-in-Some : goal.returns-in-Some
returns-in-Some c =
    let path = c.args.path.now in
    let found = rw c.in-Some.is at (rfind_char 47 path c.rfind.result c.rfind.ensures.cases (omega arith)) in
    let front : slice_range path 0 (c.in-Some.at + 1) ≡ take (suc c.in-Some.at) path = grind (arith, common_steps) in
    c.range.ensures.value ∙ front ∙ sym (directory_to path c.in-Some.at found.0 found.1 found.2)

pub returns-in-None : goal.returns-in-None
returns-in-None c =
    let path = c.args.path.now in
    let found = rw c.in-None.is at (rfind_char 47 path c.rfind.result c.rfind.ensures.cases (omega arith)) in
    sym (no_directory path found)
