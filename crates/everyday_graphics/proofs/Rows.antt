-- What is read of the entry of a block that has its user-defined capabilities.
use Rattle.std.proofs.Common.{◌≡◌, ◌≢◌, ◌+◌, ◌<◌, ℕ, false, List, [], ◌∷◌, ◌++◌, All, length, take, get_or, refl, sym, ap, ◌∙◌, subst, arith}
use Rattle.std.proofs.Common.{Option, None, Some, option_map, slice_get}
use Rattle.std.proofs.lemmas.List.{length-map, take_more}
use Rattle.std.proofs.lemmas.Option.{get_or_from_slice_get, none-some, same_Some, slice_get-get_or, slice_get-map, slice_get_within}
use Rattle.ti_caps.specs.Tables.{Capability, IsCapability}
use Rattle.ti_source.specs.Cutting.{OneBlock}
use Rattle.ti_source.specs.declared.parsing.Rule.{Rule}
use Rattle.ti_source.specs.Parsing.{reading_of_text}
use Rattle.ti_source.specs.Reading.{Reading}
use Rattle.ti_source.specs.Sound.{EachIsWellRead}
use Rattle.ti_layout.specs.Laws.{without_cancel}
use Rattle.ti_layout.specs.Reading.{EntriesHaveOneReading, Reads}
use Rattle.ti_layout.specs.Values.{AgreesIfSome, Content, content_true, content_number, content_text, content_cancelled, Contents, Mention, contents}
use Rattle.base_meaning.specs.Expansion.{expansion, is_broken, values}
use Rattle.base_meaning.specs.Readings.{reading_by, readings_by}
use Rattle.base_meaning.specs.ValueTables.{IsTableOfMentions}
use Rattle.base_meaning.proofs.Imaging.{sound_of_expansion}
use Rattle.base_meaning.proofs.Ruling.{read_by}
use Rattle.user_extension.specs.Laws.{EntriesAreRead, as_read}
use Rattle.user_extension.specs.Reading.{EndsWell, FailsToRead, ReadRow, rows_after}
use Rattle.user_extension.specs.UserDefined.{Row}
use Rattle.user_extension.specs.declared.fault.ExtensionError.{ExtensionError}
use Rattle.user_extension.specs.declared.fault.ExtensionError.TheVariants.{BadExtension, Entry}
use Rattle.user_compiling.specs.ReadBack.{RowsAreUserDefined}
use Rattle.user_compiling.proofs.ReadBack.{IsWritten}

-- ---- rows one after another

-- a row that was given, as it is read
abbrev shown : Row → ReadRow
shown u = (u.0, Some u.1)

-- the row at a place is the one that was given there
pub record IsGivenAt (given : List Row) (place : ℕ) (name : List ℕ) (value : Option Content) : Type 0 where
  pub row : Row
  pub there : slice_get given place ≡ Some row
  pub named : name ≡ row.0
  pub has : value ≡ Some row.1

pub given-at : (given : List Row) (read : List ReadRow) (place : ℕ) (name : List ℕ) (value : Option Content) → read ≡ as_read given → place < length read
    → Some name ≡ option_map (λ (row : ReadRow). row.0) (slice_get read place) → Some value ≡ option_map (λ (row : ReadRow). row.1) (slice_get read place)
    → IsGivenAt given place name value
given-at given read place name value is low named has = by_row (slice_get given place) refl
  where
    there : slice_get read place ≡ option_map shown (slice_get given place)
    there = ap (λ (rows : List ReadRow). slice_get rows place) is ∙ slice_get-map shown given place

    within : place < length given
    within = omega (arith, low, ap length is, length-map given shown)

    by_row : (o : Option Row) → slice_get given place ≡ o → IsGivenAt given place name value
    by_row None e = absurd (none-some (get_or given place ([], content_true)) (sym e ∙ slice_get-get_or given place ([], content_true) within))
    by_row (Some row) e =
        let here : slice_get read place ≡ Some (shown row) = there ∙ ap (option_map shown) e in
        record {
          row = row;
          there = e;
          named = same_Some name row.0 (named ∙ ap (option_map (λ (r : ReadRow). r.0)) here);
          has = same_Some value (Some row.1) (has ∙ ap (option_map (λ (r : ReadRow). r.1)) here);
        }

-- a row that was given has a value
pub not-absent : (given : List Row) (read : List ReadRow) (place : ℕ) → read ≡ as_read given → place < length read
    → Some None ≡ option_map (λ (row : ReadRow). row.1) (slice_get read place) → ⊥
not-absent given read place is low has =
    let default : ReadRow = ([], None) in
    let row = get_or read place default in
    let named : Some row.0 ≡ option_map (λ (r : ReadRow). r.0) (slice_get read place) =
    sym (ap (option_map (λ (r : ReadRow). r.0)) (slice_get-get_or read place default low)) in
    let at = given-at given read place row.0 None is low named has in
    none-some at.row.1 at.has

pub row-there : (given : List Row) (place : ℕ) (name : List ℕ) (content : Content) → IsGivenAt given place name (Some content)
    → slice_get given place ≡ Some (name, content)
row-there given place name content at =
    at.there ∙ ap (λ (n : List ℕ). Some (n, at.row.1)) (sym at.named) ∙ ap (λ (x : Content). Some (name, x)) (sym (same_Some content at.row.1 at.has))

-- after it the rows are those up to the next place
pub one-more : (given rows next : List Row) (place : ℕ) (u : Row) → rows ≡ take place given → slice_get given place ≡ Some u → place < length given
    → next ≡ rows ++ u ∷ [] → next ≡ take (place + 1) given
one-more given rows next place u so_far there within is =
    is ∙ ap (λ (xs : List Row). xs ++ u ∷ []) so_far
    ∙ ap (λ (x : Row). take place given ++ x ∷ []) (sym (get_or_from_slice_get given place u u there)) ∙ sym (take_more given place u within)

-- ---- the entry of a block

-- each text of a list of blocks is one
pub block-at : (texts : List (List ℕ)) (at : ℕ) (text : List ℕ) → All OneBlock texts → slice_get texts at ≡ Some text → OneBlock text
block-at texts at text blocks stands =
    subst OneBlock (get_or_from_slice_get texts at text text stands) (blocks at text (slice_get_within texts at text stands))

-- the table of a block that has an entry says what its mentions say
pub tells : (rule : Rule) (texts : List (List ℕ)) (at : ℕ) (text bytes : List ℕ) (t : Contents) → slice_get texts at ≡ Some text
    → (h : IsWritten rule texts text bytes)
    → ((block : Reading) → slice_get (readings_by rule texts) at ≡ Some block
    → (ms : List Mention) × (expansion (readings_by rule texts) block ≡ Some ms) × IsTableOfMentions t ms)
    → IsTableOfMentions t h.mentions
tells rule texts at text bytes t stands h has =
    let found = has (reading_by rule text) (slice_get-map (reading_by rule) texts at ∙ ap (option_map (reading_by rule)) stands) in
    subst (IsTableOfMentions t) (same_Some found.0 h.mentions (sym found.1 ∙ h.expands)) found.2

pub some-long : (w : List ℕ) → w ≢ [] → 0 < length w
some-long [] some = absurd (some refl)
some-long (x ∷ w) some = omega arith

uncancelled-agrees : (c : Capability) (o : Option Content) → AgreesIfSome c o → AgreesIfSome c (without_cancel o)
uncancelled-agrees c None agrees = tt
uncancelled-agrees c (Some content_true) agrees = agrees
uncancelled-agrees c (Some (content_number n)) agrees = agrees
uncancelled-agrees c (Some (content_text t)) agrees = agrees
uncancelled-agrees c (Some content_cancelled) agrees = tt

-- its entry is read, with just its user-defined capabilities
pub record IsReadWith (bytes : List ℕ) (rows : List Row) : Type 0 where
  pub names : List ℕ
  pub contents : Contents
  pub reads : Reads bytes names contents
  pub ends_well : EndsWell bytes
  pub are_rows : rows_after bytes ≡ as_read rows

-- a block that resolves has no error of its own
pub whole : (rule : Rule) (texts : List (List ℕ)) (text : List ℕ) (ms : List Mention)
    → expansion (readings_by rule texts) (reading_by rule text) ≡ Some ms → is_broken (reading_of_text text) ≡ false
whole rule texts text ms e =
    sym (ap is_broken (read_by rule text)) ∙ sound_of_expansion (readings_by rule texts) (reading_by rule text) ms e

pub read-with : EachIsWellRead → EntriesAreRead → RowsAreUserDefined → (rule : Rule) (texts : List (List ℕ)) (at : ℕ) (text bytes : List ℕ) (table : List Mention)
    → All OneBlock texts → OneBlock text → slice_get texts at ≡ Some text → (h : IsWritten rule texts text bytes)
    → ((c : Capability) → AgreesIfSome c (contents table c)) → IsTableOfMentions (contents table) h.mentions → IsReadWith bytes h.rows
read-with well read user_defined rule texts at text bytes table blocks one stands h agree is_table =
    let block = reading_of_text text in
    let named = (well text one).named (whole rule texts text h.mentions h.expands) in
    let user = user_defined rule texts at text h.user_mentions h.rows blocks stands h.user_expands h.are_rows in
    let agrees : (c : Capability) → IsCapability c → AgreesIfSome c (values h.mentions c) =
    λ c valid. uncancelled-agrees c (contents h.mentions c) (subst (AgreesIfSome c) (is_table c valid) (agree c)) in
    let back = read block.field (values h.mentions) h.rows (some-long block.field named.some) named.short named.no_nul agrees user h.within in
    subst (λ (b : List ℕ). IsReadWith b h.rows) h.is
    (record { names = block.field; contents = back.0; reads = back.1; ends_well = back.3; are_rows = back.4 })

-- it is not refused
pub not-refused : EntriesHaveOneReading → (bytes : List ℕ) (rows : List Row) (error : ExtensionError) → IsReadWith bytes rows → FailsToRead bytes error → ⊥
not-refused one bytes rows (Entry e) is fails = one.2 bytes is.names is.contents e is.reads fails
not-refused one bytes rows BadExtension is fails = fails.1 is.ends_well
