use Rattle.std.proofs.Common.{◌≡◌, ◌&&◌, ◌||◌, drop, not}
use Rattle.ti_text.specs.Ascii as ascii
use Rattle.everyday_tic.specs.Termcap.{first_line, has, is_termcap}
use Rattle.everyday_tic.proofs.termcap.is_termcap.Given as goal

-- what was found so far, and what the rest of the first line has
abbrev pub invariant-loop-byte : goal.invariant-loop-byte
invariant-loop-byte l =
    ((l.has_colon || has ascii.colon (first_line (drop l.byte-index l.text))) && not (has ascii.comma (first_line (drop l.byte-index l.text))))
    ≡ is_termcap l.text
