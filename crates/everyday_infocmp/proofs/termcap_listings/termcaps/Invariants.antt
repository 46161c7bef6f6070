use Rattle.std.proofs.Common.{ℕ, List, ◌++◌, drop, map}
use Rattle.ti_layout.specs.View.{entry_seen}
use Rattle.everyday_infocmp.specs.TermcapListings.{AreTermcaps, lines_in}
use Rattle.everyday_infocmp.proofs.termcap_listings.termcaps.Given as goal

-- before what is written of the entries that are left
abbrev pub invariant-loop-view : goal.invariant-loop-view
invariant-loop-view l = (later : List ℕ) → AreTermcaps l.limited l.all (lines_in l.joined l.layout) (map (λ view. entry_seen view) (drop l.view-index l.views)) later
    → AreTermcaps l.limited l.all (lines_in l.joined l.layout) (map (λ view. entry_seen view) l.views) (l.text.items ++ later)
