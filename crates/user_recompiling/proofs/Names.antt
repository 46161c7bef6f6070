-- The listing of an entry has no more user-defined names than the source of which the entry is.
use Rattle.std.proofs.Common.{◌≡◌, ℕ, true, List, [], ◌∷◌, ◌++◌, map, ap, sym, ◌∙◌, refl, subst, arith, append-nil}
use Rattle.std.specs.List.{AllByRecursion, flat_map}
use Rattle.std.proofs.lemmas.List.Elements.{recursion_from_All}
use Rattle.user_items.specs.Verdicts.{says}
use Rattle.user_items.specs.Reading.{ReadUserItem}
use Rattle.user_items.specs.Parsing.{user_reading_of_text}
use Rattle.user_extension.specs.UserDefined.{Row}
use Rattle.user_listing.specs.Listing.{extended_listing}
use Rattle.user_values.specs.Limit.{has_name, name_said, names_of}
use Rattle.user_values.proofs.Counting.{Names, count_of_all, names_there, no_more_names}
use Rattle.user_relisting.specs.ReadingBack.{ListingsAreRead}
use Rattle.user_recompiling.specs.Entries.{ListingsHaveNoMoreNames}
use Rattle.user_recompiling.proofs.EntryLaws.{AreKnown, shown-from}
use Rattle.user_recompiling.specs.Shown.{IsAmong, ShownHaveNoMoreNames}

names-said : (items : List ReadUserItem) → names_of items ≡ flat_map name_said (map (λ (item : ReadUserItem). item.said) items)
names-said [] = refl
names-said (item ∷ items) = ap (λ (ns : Names). name_said item.said ++ ns) (names-said items)

rows-named : (rows : List Row) → flat_map name_said (map (λ (row : Row). says row.0 row.1) rows) ≡ map (λ (row : Row). row.0) rows
rows-named [] = refl
rows-named (row ∷ rows) = ap (λ (ns : Names). row.0 ∷ ns) (rows-named rows)

names-among : (names : Names) (rows : List Row) → AllByRecursion (IsAmong names) rows
    → AllByRecursion (λ (name : List ℕ). has_name names name ≡ true) (map (λ (row : Row). row.0) rows)
names-among names [] all = tt
names-among names (row ∷ rows) all = (all.0, names-among names rows all.1)

pub shown_no_more : ListingsAreRead → ShownHaveNoMoreNames
shown_no_more read bytes shown layout texts from =
    let text = extended_listing shown layout in
    let can = from.is.can in
    let names = names_there texts in
    let items = (user_reading_of_text text).items in
    let says_rows = (read shown can.names can.rows layout can.listable can.holds can.are_rows can.of_source).says in
    let listed : names_there (text ∷ []) ≡ map (λ (row : Row). row.0) can.rows =
    append-nil (names_of items) ∙ names-said items ∙ ap (flat_map name_said) says_rows ∙ rows-named can.rows in
    let among = names-among names can.rows (recursion_from_All (IsAmong names) can.rows from.names) in
    let fewer = no_more_names (names_there (text ∷ [])) names
    (subst (λ (ns : Names). AllByRecursion (λ (name : List ℕ). has_name names name ≡ true) ns) (sym listed) among) in
    let a = count_of_all (text ∷ []) in
    let b = count_of_all texts in
    omega (arith, a, b, fewer)

pub no_more : AreKnown → ListingsAreRead → ListingsHaveNoMoreNames
no_more known read bytes shown layout made = shown_no_more read bytes shown layout made.texts (shown-from known bytes shown made)
