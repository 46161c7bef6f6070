use Rattle.std.proofs.Common.{◌≡◌, ◌++◌, map, drop}
use Rattle.ti_layout.specs.View.{entry_seen}
use Rattle.ti_tools.specs.Listings.{listings_text}
use Rattle.ti_tools.proofs.listings.listings_text.Given as goal

abbrev pub invariant-loop-view : goal.invariant-loop-view
invariant-loop-view l = l.text.items ++ listings_text (map (λ view. entry_seen view) (drop l.view-index l.others)) l.layout
    ≡ listings_text (map (λ view. entry_seen view) l.views) l.layout
