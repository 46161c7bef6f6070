-- How an entry is written with characters.
use Rattle.std.proofs.Common.{◌≡◌, ◌≢◌, ℕ, ◌+◌, ◌<◌, ◌≤◌, List, [], ◌∷◌, ◌++◌, length, take, get_or, Option, Some, None, option_map, slice_get, refl, sym, ap, ◌∙◌, subst, arith, append-nil}
use Rattle.std.specs.List.{flat_map}
use Rattle.std.proofs.lemmas.Grind.{flat_map-append}
use Rattle.std.proofs.lemmas.List.{take_more}
use Rattle.std.proofs.lemmas.Option.{same_Some, slice_get-get_or}
use Rattle.ti_text.specs.Limits.{names_max}
use Rattle.ti_text.specs.Texts.{HasNoNul}
use Rattle.ti_caps.specs.Tables.{Capability, IsCapability}
use Rattle.ti_layout.specs.Laws.{ShowSame, without_cancel}
use Rattle.ti_layout.specs.Reading.{EntriesHaveOneReading, Reads}
use Rattle.ti_layout.specs.Values.{Content, Contents}
use Rattle.user_extension.specs.Extension.{Fits, IsTooLarge, entry, entry_limit}
use Rattle.user_extension.specs.Reading.{EndsWell, FailsToRead, ReadRow, rows_after}
use Rattle.user_extension.specs.UserDefined.{Row}
use Rattle.user_extension.specs.declared.fault.ExtensionError.{ExtensionError}
use Rattle.user_extension.specs.declared.fault.ExtensionError.TheVariants.{BadExtension, Entry}
use Rattle.user_compiling.proofs.Imaging.{entries_are_of_values, limits_are_of_values}
use Rattle.everyday_constants.specs.Entries.{CanBeWritten, IsWithCharacters, is_kept, is_written, contents_with, content_with, present_row, present_rows}
use Rattle.everyday_constants.specs.Laws.{OneWithCharacters}

-- ---- rows

pub row-there : (row : ReadRow) (name : List ℕ) (value : Option Content) (found : Option ReadRow) → found ≡ Some row
    → Some name ≡ option_map (λ (r : ReadRow). r.0) found → Some value ≡ option_map (λ (r : ReadRow). r.1) found → row ≡ (name, value)
row-there row name value found is named has =
    let one : name ≡ row.0 = same_Some name row.0 (named ∙ ap (option_map (λ (r : ReadRow). r.0)) is) in
    let other : value ≡ row.1 = same_Some value row.1 (has ∙ ap (option_map (λ (r : ReadRow). r.1)) is) in
    ap (λ (n : List ℕ). (n, row.1)) (sym one) ∙ ap (λ (v : Option Content). (name, v)) (sym other)

pub one-more : (all : List ReadRow) (rows next : List Row) (place : ℕ) → rows ≡ present_rows (take place all) → place < length all
    → ((row : ReadRow) → slice_get all place ≡ Some row → next ≡ rows ++ present_row row) → next ≡ present_rows (take (place + 1) all)
one-more all rows next place so_far low more =
    let default : ReadRow = ([], None) in
    let row = get_or all place default in
    more row (slice_get-get_or all place default low) ∙ ap (λ (rs : List Row). rs ++ present_row row) so_far
    ∙ ap (λ (rs : List Row). present_rows (take place all) ++ rs) (sym (append-nil (present_row row)))
    ∙ sym (flat_map-append present_row (take place all) (row ∷ [])) ∙ ap present_rows (sym (take_more all place default low))

-- ---- the entry

-- a table with characters shows what the entry has with them
pub shows : (table held : Contents) → ((c : Capability) → IsCapability c → table c ≡ content_with (held c)) → ShowSame table (contents_with held)
shows table held gives c valid = ap without_cancel (gives c valid)

pub some-names : (bytes names : List ℕ) (held : Contents) → Reads bytes names held → names ≢ []
some-names bytes names held r none =
    let some = r.sound.some_names in
    let is = ap length (sym r.named ∙ none) in
    absurd (omega (arith, some, is))

pub no-nul : (bytes names : List ℕ) (held : Contents) → Reads bytes names held → HasNoNul names
no-nul bytes names held r = subst HasNoNul (sym r.named) r.sound.no_nul

-- one that is within its limit
pub within : (bytes names made : List ℕ) (table held : Contents) (rows : List Row) → Reads bytes names held → EndsWell bytes → rows ≡ present_rows (rows_after bytes)
    → ShowSame table (contents_with held) → made ≡ entry names table rows → length names ≤ names_max → length made ≤ entry_limit table rows
    → IsWithCharacters bytes made
within bytes names made table held rows reads ends are same is short low =
    let u = contents_with held in
    let entries : entry names table rows ≡ entry names u rows = entries_are_of_values names table u rows same in
    let limits : entry_limit table rows ≡ entry_limit u rows = limits_are_of_values table u rows same in
    let fits : Fits names u rows = subst (λ (n : ℕ). length (entry names u rows) ≤ n) limits
    (subst (λ (bs : List ℕ). length bs ≤ entry_limit table rows) (is ∙ entries) low) in
    subst (IsWithCharacters bytes) (sym (is ∙ entries ∙ ap (entry names u) are))
    (is_written names held (record {
      reads = reads;
      ends_well = ends;
      short = short;
      fits = subst (Fits names u) are fits;
    }))

-- one that is not
pub over : EntriesHaveOneReading → (bytes names : List ℕ) (table held : Contents) (rows : List Row) → Reads bytes names held
    → rows ≡ present_rows (rows_after bytes) → ShowSame table (contents_with held) → IsTooLarge names table rows → IsWithCharacters bytes bytes
over one bytes names table held rows reads are same large = is_kept (λ n c can.
    let u = contents_with held in
    let read = one.0 bytes names n held c reads can.reads in
    let entries : entry names table rows ≡ entry names u rows = entries_are_of_values names table u rows same in
    let limits : entry_limit table rows ≡ entry_limit u rows = limits_are_of_values table u rows same in
    let all : length (entry names u rows) ≤ entry_limit u rows = subst (Fits names u) (sym are)
    (subst (λ (t : Contents). Fits names (contents_with t) (present_rows (rows_after bytes))) (sym read.1)
    (subst (λ (m : List ℕ). Fits m (contents_with c) (present_rows (rows_after bytes))) (sym read.0) can.fits)) in
    let past : entry_limit table rows < length (entry names table rows) = large in
    let size = ap length entries in
    omega (arith, all, past, size, limits))

pub too-long : EntriesHaveOneReading → (bytes names : List ℕ) (held : Contents) → Reads bytes names held → names_max < length names → IsWithCharacters bytes bytes
too-long one bytes names held reads long = is_kept (λ n c can.
    let read = one.0 bytes names n held c reads can.reads in
    let size = ap length read.0 in
    let short = can.short in
    omega (arith, long, size, short))

-- bytes that are refused
pub refused : EntriesHaveOneReading → (bytes : List ℕ) (error : ExtensionError) → FailsToRead bytes error → IsWithCharacters bytes bytes
refused one bytes (Entry e) fails = is_kept (λ n c can. one.2 bytes n c e can.reads fails)
refused one bytes BadExtension fails = is_kept (λ n c can. fails.1 can.ends_well)

-- ---- in one way

pub one_with : EntriesHaveOneReading → OneWithCharacters
one_with law bytes _ _ (is_written n c a) (is_written m d b) =
    let same = law.0 bytes n m c d a.reads b.reads in
    let rows = present_rows (rows_after bytes) in
    ap (λ (f : List ℕ). entry f (contents_with c) rows) same.0 ∙ ap (λ (t : Contents). entry m (contents_with t) rows) same.1
one_with law bytes _ _ (is_written n c a) (is_kept none) = absurd (none n c a)
one_with law bytes _ _ (is_kept none) (is_written m d b) = absurd (none m d b)
one_with law bytes _ _ (is_kept none) (is_kept other) = refl
