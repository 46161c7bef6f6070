use Rattle.std.proofs.Common.{◌≡◌, ◌++◌, replicate}
use Rattle.ti_text.specs.Ascii as ascii
use Rattle.everyday_initializers.proofs.lines.push_blanks.Given as goal

-- what was there, and the blanks before
abbrev pub invariant-loop-blank : goal.invariant-loop-blank
invariant-loop-blank l = l.out.items ≡ l.initial.out.items ++ replicate l.blank ascii.space
