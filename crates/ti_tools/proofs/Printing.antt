-- What is printed of entries in turn, and in each mode.
use Rattle.std.proofs.Common.{◌≡◌, ◌≢◌, Some, None, ℕ, ◌+◌, ◌<◌, ◌≤◌, List, [], ◌∷◌, ◌++◌, length, map, drop}
use Rattle.std.proofs.Common.{get_or, refl, sym, ◌∙◌, ap, append_assoc, append-nil, add-one}
use Rattle.std.proofs.Math.Seq.{drop-cons}
use Rattle.std.proofs.lemmas.List.{drop_all}
use Rattle.std.specs.List.{flat_map}
use Rattle.ti_list.specs.declared.layout.Layout.{Layout}
use Rattle.ti_list.specs.declared.layout.Mode.{Mode}
use Rattle.ti_list.specs.declared.layout.Mode.TheVariants as rows
use Rattle.ti_list.specs.Comparison.{comparison}
use Rattle.ti_list.specs.RelativeSource.{entries_shown, relative}
use Rattle.ti_layout.specs.View.{Entry, entry_seen}
use Rattle.ti_layout.specs.declared.view.View.{View}
use Rattle.tools_commands.specs.declared.jobs.InfocmpMode.{InfocmpMode}
use Rattle.tools_commands.specs.declared.jobs.InfocmpMode.TheVariants as mode
use Rattle.ti_tools.specs.declared.listings.InfocmpOptions.{InfocmpOptions}
use Rattle.ti_tools.specs.Listings.{infocmp_result, listings_text, printed_listing}
use Rattle.ti_tools.specs.inside.Listings.{comparison_mode}

-- after the text of one was written, what is still to come is as it was
pub in_turn : {X : Type 0} → {Y : Type 0} → (shown : X → Y) (text_of : Y → List ℕ) (xs : List X) (place : ℕ) (x : X) (before piece after all : List ℕ)
    → place < length xs
    → x ≡ get_or xs place x → piece ≡ text_of (shown x) → after ≡ before ++ piece
    → before ++ flat_map text_of (map shown (drop place xs)) ≡ all
    → after ++ flat_map text_of (map shown (drop (place + 1) xs)) ≡ all
in_turn {X} shown text_of xs place x before piece after all within is spells writes invariant =
    let one : drop place xs ≡ x ∷ drop (place + 1) xs = drop-cons xs place x within ∙ rw (← is, add-one) refl in
    rw (writes, spells, append_assoc) (ap (λ (ys : List X). before ++ flat_map text_of (map shown ys)) (sym one) ∙ invariant)

-- after the text of the last was written, all is there
pub all_in_turn : {X : Type 0} → {Y : Type 0} → (shown : X → Y) (text_of : Y → List ℕ) (xs : List X) (place : ℕ) (before all : List ℕ) → length xs ≤ place
    → before ++ flat_map text_of (map shown (drop place xs)) ≡ all
    → before ≡ all
all_in_turn {X} shown text_of xs place before all past invariant =
    let none : drop place xs ≡ [] = drop_all place xs past in
    sym (append-nil before) ∙ ap (λ (ys : List X). before ++ flat_map text_of (map shown ys)) (sym none) ∙ invariant

-- a mode that compares prints the comparisons
pub printed-compared : (how : InfocmpMode) (compared : Mode) (first : Entry) (others : List Entry) (layout : Layout) → comparison_mode how ≡ Some compared
    → printed_listing how first others layout ≡ flat_map (λ other. comparison first other compared layout.order) others
printed-compared mode.List compared first others layout is = absurd (cc)
printed-compared mode.Differ compared first others layout is = let same : rows.Differ ≡ compared = cc in rw (← same) refl
printed-compared mode.Common compared first others layout is = let same : rows.Common ≡ compared = cc in rw (← same) refl
printed-compared mode.Neither compared first others layout is = let same : rows.Neither ≡ compared = cc in rw (← same) refl
printed-compared mode.Relative compared first others layout is = absurd (cc)

-- and of the others, listing and relative, the relative one prints the relative source
pub printed-related : (how : InfocmpMode) (first : Entry) (others : List Entry) (layout : Layout) → how ≢ mode.List → comparison_mode how ≡ None
    → printed_listing how first others layout ≡ relative first others layout
printed-related mode.List first others layout not is = absurd (not refl)
printed-related mode.Differ first others layout not is = absurd (cc)
printed-related mode.Common first others layout not is = absurd (cc)
printed-related mode.Neither first others layout not is = absurd (cc)
printed-related mode.Relative first others layout not is = refl

-- what infocmp prints: a listing of any entries
pub listing_printed : (entries : List Entry) (options : InfocmpOptions) → options.mode ≡ mode.List
    → infocmp_result entries options ≡ Some (listings_text entries options.layout)
listing_printed [] options is = rw is refl
listing_printed (first ∷ []) options is = rw is refl
listing_printed (first ∷ other ∷ others) options is = rw is refl

-- in any mode, what it takes several entries for
pub several_printed : (first : View) (others : List View) (options : InfocmpOptions) → others ≢ []
    → infocmp_result (entries_shown (first ∷ others)) options ≡ Some (printed_listing options.mode (entry_seen first) (entries_shown others) options.layout)
several_printed first [] options not = absurd (not refl)
several_printed first (other ∷ others) options not = refl
