use Rattle.std.proofs.Common.{◌≡◌, ◌≤◌, ◌++◌, drop, map}
use Rattle.std.specs.Prelude.{slice_range}
use Rattle.everyday_tabs.specs.Words.{options_after, options_of}
use Rattle.everyday_tabs.proofs.options.options_of.Given as goal

-- the options before, and then those of the rest after the letters of one that may go on
abbrev pub invariant-loop-at : goal.invariant-loop-at
invariant-loop-at l = record {
  within : l.start ≤ l.at;
  are : map (λ o. o.now) l.options.items ++ options_after (slice_range l.letters l.start l.at) (drop l.at l.letters) ≡ options_of l.letters;
}
