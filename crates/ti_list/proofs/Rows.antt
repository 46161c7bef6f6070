-- The rows of a comparison, one capability after the other.
use Rattle.std.proofs.Common.{◌≡◌, ℕ, ◌+◌, ◌≤◌, List, ◌++◌, length, drop, slice_get, Option, Some, refl, sym, ◌∙◌, ap, append_assoc, append-nil}
use Rattle.std.proofs.lemmas.List.{drop_all}
use Rattle.ti_caps.specs.Tables.{Capability}
use Rattle.ti_layout.specs.Values.{Content, Contents}
use Rattle.ti_list.specs.declared.layout.Mode.{Mode}
use Rattle.ti_list.specs.Comparison.{row, rows}
use Rattle.ti_list.proofs.Steps.{drop_at}

-- the row of a capability, and then the rows after it
rows-at : (mode : Mode) (one other : Contents) (caps : List Capability) (place : ℕ) (c : Capability) → slice_get caps place ≡ Some c
    → rows mode one other (drop place caps) ≡ row mode c (one c) (other c) ++ rows mode one other (drop (place + 1) caps)
rows-at mode one other caps place c at = rw (drop_at caps place c at) refl

-- after the row of a capability was written, what is still to come is as it was
pub rows-step : (mode : Mode) (one other : Contents) (caps : List Capability) (place : ℕ) (c : Capability) (x y : Option Content) (before after all : List ℕ)
    → slice_get caps place ≡ Some c → x ≡ one c → y ≡ other c → after ≡ before ++ row mode c x y
    → before ++ rows mode one other (drop place caps) ≡ all → after ++ rows mode one other (drop (place + 1) caps) ≡ all
rows-step mode one other caps place c x y before after all at of_one of_other writes invariant =
    rw (writes, append_assoc, of_one, of_other) (ap (λ (end : List ℕ). before ++ end) (sym (rows-at mode one other caps place c at)) ∙ invariant)

-- after the last capability there are no rows
pub rows-end : (mode : Mode) (one other : Contents) (caps : List Capability) (place : ℕ) (before heading all : List ℕ) → length caps ≤ place
    → before ++ rows mode one other (drop place caps) ≡ (all ++ heading) ++ rows mode one other caps → before ≡ all ++ (heading ++ rows mode one other caps)
rows-end mode one other caps place before heading all past invariant =
    sym (append-nil before) ∙ ap (λ (cs : List Capability). before ++ rows mode one other cs) (sym (drop_all place caps past)) ∙ invariant
    ∙ append_assoc all heading _
