use Rattle.std.proofs.Common.{◌≡◌, ◌++◌, drop}
use Rattle.everyday_tabs.specs.Lists.{kept_after, trimmed}
use Rattle.everyday_tabs.proofs.lists.trimmed.Given as goal

-- what is kept of the signs before, and then of the rest
abbrev pub invariant-loop-sign : goal.invariant-loop-sign
invariant-loop-sign l = l.list.items ++ kept_after l.before (drop l.sign-index l.word) ≡ trimmed l.word
