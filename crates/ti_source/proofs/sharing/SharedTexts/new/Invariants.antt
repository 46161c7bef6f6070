use Rattle.std.proofs.Common.{◌≡◌, None, All, length}
use Rattle.ti_source.proofs.sharing.SharedTexts.new.Given as goal

abbrev pub invariant-loop-place : goal.invariant-loop-place
invariant-loop-place l = (length l.last.items ≡ l._place) × All (λ kept. kept ≡ None) l.last.items
