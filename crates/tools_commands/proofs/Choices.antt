-- The modes that are named, looked at one after another.
use Rattle.std.proofs.Common.{◌≡◌, Bool, true, false, List, codes, refl}
use Rattle.clap.specs.Walk.{Row}
use Rattle.tools_commands.specs.InfocmpWords.{choice_from, choice_with, modes_named}
use Rattle.tools_commands.specs.Matches.{is_on}
use Rattle.tools_commands.specs.declared.listing.ModeChoice.{ModeChoice}
use Rattle.tools_commands.specs.declared.listing.ModeChoice.TheVariants as choice
use Rattle.tools_commands.specs.declared.jobs.InfocmpMode.TheVariants as mode

-- the choice after each option in turn
abbrev looked_at : Bool → Bool → Bool → Bool → Bool → ModeChoice
looked_at list differ common neither relative =
    choice_with (choice_with (choice_with (choice_with (choice_with choice.Nothing
    list mode.List) differ mode.Differ) common mode.Common) neither mode.Neither) relative mode.Relative

by_case : (rows : List Row) (list differ common neither relative : Bool) → is_on (codes "list") rows ≡ list → is_on (codes "differ") rows ≡ differ
    → is_on (codes "common") rows ≡ common → is_on (codes "neither") rows ≡ neither → is_on (codes "relative") rows ≡ relative
    → looked_at list differ common neither relative ≡ choice_from (modes_named rows)
by_case rows true true true true true e1 e2 e3 e4 e5 = rw (e1, e2) refl
by_case rows true true true true false e1 e2 e3 e4 e5 = rw (e1, e2) refl
by_case rows true true true false true e1 e2 e3 e4 e5 = rw (e1, e2) refl
by_case rows true true true false false e1 e2 e3 e4 e5 = rw (e1, e2) refl
by_case rows true true false true true e1 e2 e3 e4 e5 = rw (e1, e2) refl
by_case rows true true false true false e1 e2 e3 e4 e5 = rw (e1, e2) refl
by_case rows true true false false true e1 e2 e3 e4 e5 = rw (e1, e2) refl
by_case rows true true false false false e1 e2 e3 e4 e5 = rw (e1, e2) refl
by_case rows true false true true true e1 e2 e3 e4 e5 = rw (e1, e2, e3) refl
by_case rows true false true true false e1 e2 e3 e4 e5 = rw (e1, e2, e3) refl
by_case rows true false true false true e1 e2 e3 e4 e5 = rw (e1, e2, e3) refl
by_case rows true false true false false e1 e2 e3 e4 e5 = rw (e1, e2, e3) refl
by_case rows true false false true true e1 e2 e3 e4 e5 = rw (e1, e2, e3, e4) refl
by_case rows true false false true false e1 e2 e3 e4 e5 = rw (e1, e2, e3, e4) refl
by_case rows true false false false true e1 e2 e3 e4 e5 = rw (e1, e2, e3, e4, e5) refl
by_case rows true false false false false e1 e2 e3 e4 e5 = rw (e1, e2, e3, e4, e5) refl
by_case rows false true true true true e1 e2 e3 e4 e5 = rw (e1, e2, e3) refl
by_case rows false true true true false e1 e2 e3 e4 e5 = rw (e1, e2, e3) refl
by_case rows false true true false true e1 e2 e3 e4 e5 = rw (e1, e2, e3) refl
by_case rows false true true false false e1 e2 e3 e4 e5 = rw (e1, e2, e3) refl
by_case rows false true false true true e1 e2 e3 e4 e5 = rw (e1, e2, e3, e4) refl
by_case rows false true false true false e1 e2 e3 e4 e5 = rw (e1, e2, e3, e4) refl
by_case rows false true false false true e1 e2 e3 e4 e5 = rw (e1, e2, e3, e4, e5) refl
by_case rows false true false false false e1 e2 e3 e4 e5 = rw (e1, e2, e3, e4, e5) refl
by_case rows false false true true true e1 e2 e3 e4 e5 = rw (e1, e2, e3, e4) refl
by_case rows false false true true false e1 e2 e3 e4 e5 = rw (e1, e2, e3, e4) refl
by_case rows false false true false true e1 e2 e3 e4 e5 = rw (e1, e2, e3, e4, e5) refl
by_case rows false false true false false e1 e2 e3 e4 e5 = rw (e1, e2, e3, e4, e5) refl
by_case rows false false false true true e1 e2 e3 e4 e5 = rw (e1, e2, e3, e4, e5) refl
by_case rows false false false true false e1 e2 e3 e4 e5 = rw (e1, e2, e3, e4, e5) refl
by_case rows false false false false true e1 e2 e3 e4 e5 = rw (e1, e2, e3, e4, e5) refl
by_case rows false false false false false e1 e2 e3 e4 e5 = rw (e1, e2, e3, e4, e5) refl

pub choice-named : (rows : List Row) → looked_at (is_on (codes "list") rows) (is_on (codes "differ") rows) (is_on (codes "common") rows)
    (is_on (codes "neither") rows) (is_on (codes "relative") rows) ≡ choice_from (modes_named rows)
choice-named rows = by_case rows _ _ _ _ _ refl refl refl refl refl
