-- The rows of user-defined names, one after the other, and those of the tables by their names.
use Rattle.std.proofs.Common.{◌≡◌, ℕ, ◌+◌, List, ◌++◌, length, drop, slice_get, Option, Some, None, refl, sym, ◌∙◌, ap, append-nil, ◌≤◌}
use Rattle.std.specs.List.{flat_map}
use Rattle.ti_caps.specs.Tables.{Capability, name_of}
use Rattle.ti_caps.specs.declared.capability.Kind.{Kind}
use Rattle.ti_layout.specs.Values.{Content, Contents}
use Rattle.ti_list.specs.declared.layout.Mode.{Mode}
use Rattle.ti_list.specs.declared.layout.Mode.TheVariants.{Differ, Common, Neither}
use Rattle.ti_list.specs.Comparison.{row, rows}
use Rattle.ti_list.proofs.Rows.{rows-step}
use Rattle.std.proofs.lemmas.List.{drop_all}
use Rattle.user_extension.specs.Reading.{said}
use Rattle.user_listing.specs.Comparison.{named_row}
use Rattle.user_listing.specs.Entries.{Extended}
use Rattle.user_listing.specs.Names.{of_kind}

-- the rows of these names
abbrev pub rows_of_names : Mode → Kind → Extended → Extended → List (List ℕ) → List ℕ
rows_of_names mode kind one other names =
    flat_map (λ (name : List ℕ). named_row mode kind name (of_kind kind (said one.rows name)) (of_kind kind (said other.rows name))) names

-- the row of a capability is that of its name
pub row-named : (mode : Mode) (c : Capability) (one other : Option Content) → named_row mode c.kind (name_of c) one other ≡ row mode c one other
row-named Differ c one other = refl
row-named Common c None other = refl
row-named Common c (Some one) other = refl
row-named Neither c None None = refl
row-named Neither c None (Some other) = refl
row-named Neither c (Some one) other = refl

-- after the row of a capability was written by its name, what is still to come is as it was
pub table-row : (mode : Mode) (one other : Contents) (caps : List Capability) (place : ℕ) (c : Capability) (kind : Kind) (name : List ℕ)
    (x y : Option Content) (before after all : List ℕ)
    → slice_get caps place ≡ Some c → kind ≡ c.kind → name ≡ name_of c → x ≡ one c → y ≡ other c → after ≡ before ++ named_row mode kind name x y
    → before ++ rows mode one other (drop place caps) ≡ all → after ++ rows mode one other (drop (place + 1) caps) ≡ all
table-row mode one other caps place c kind name x y before after all at of_kind of_name of_one of_other writes invariant =
    let same : named_row mode kind name x y ≡ row mode c x y = ap (λ (k : Kind). named_row mode k name x y) of_kind
    ∙ ap (λ (n : List ℕ). named_row mode c.kind n x y) of_name ∙ row-named mode c x y in
    rows-step mode one other caps place c x y before after all at of_one of_other (writes ∙ ap (λ (t : List ℕ). before ++ t) same) invariant

-- after the last capability there are no rows
pub table-rows-end : (mode : Mode) (one other : Contents) (caps : List Capability) (place : ℕ) (before all : List ℕ) → length caps ≤ place
    → before ++ rows mode one other (drop place caps) ≡ all → before ≡ all
table-rows-end mode one other caps place before all past invariant =
    sym (append-nil before) ∙ ap (λ (cs : List Capability). before ++ rows mode one other cs) (sym (drop_all place caps past)) ∙ invariant
