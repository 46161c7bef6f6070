-- Compiled entries with user-defined capabilities can be listed, and their listings become them.
use Rattle.std.proofs.Common.{◌≡◌, ◌≢◌, ℕ, zero, suc, ◌<◌, ◌≤◌, List, [], ◌∷◌, map, length, Some, option_map, option_and_then, slice_get, refl, ap, sym, ◌∙◌}
use Rattle.std.proofs.Common.{true, subst, arith}
use Rattle.std.specs.List.{All, Contains}
use Rattle.std.proofs.lemmas.List.Elements.{All-nil, All-cons, All-map, All-weaker, All-contains, All-contains_itself}
use Rattle.std.proofs.lemmas.List.Elements.{All-from_recursion, recursion_from_All}
use Rattle.std.proofs.lemmas.Option.{slice_get-map}
use Rattle.ti_caps.specs.NameOrder.{EachKindIsInOrder}
use Rattle.ti_caps.specs.Tables.{Capability, IsCapability}
use Rattle.ti_spelling.specs.Spelling.{ValuesAreSound}
use Rattle.ti_source.specs.Cutting.{OneBlock}
use Rattle.ti_source.specs.declared.parsing.Rule.{Rule}
use Rattle.ti_source.specs.Parsing.{reading_of_text, HasReading}
use Rattle.ti_source.specs.Sound.{EachIsWellRead}
use Rattle.ti_layout.specs.Values.{Content, content_true, content_number, content_text, content_cancelled, Contents, Mention, contents}
use Rattle.ti_layout.specs.Reading.{Reads, EntriesHaveOneReading}
use Rattle.ti_layout.specs.Laws.{without_cancel, ShowSame}
use Rattle.base_meaning.specs.Compiled.{written}
use Rattle.base_meaning.specs.Expansion.{values, expansion}
use Rattle.base_meaning.specs.Readings.{reading_by, readings_by}
use Rattle.ti_list.specs.declared.layout.Layout.{Layout}
use Rattle.ti_list.specs.Items.{IsListable}
use Rattle.tools_relisting.specs.Relisting.{CanHave}
use Rattle.tools_relisting.proofs.Compiling.{uncancelled-twice}
use Rattle.tools_relisting.proofs.EntryLaws.{IsText, texts-both}
use Rattle.tools_relisting.proofs.Fitting.{said-has, uncancelled-has, agrees-has}
use Rattle.tools_relisting.proofs.Heading.{first-lookup}
use Rattle.tools_relisting.proofs.Relating.{All-at}
use Rattle.tools_relisting.proofs.Standing.{single-cut}
use Rattle.user_items.specs.Laws.{BlocksHaveOneUserReading}
use Rattle.user_items.specs.Names.{is_user_defined_name}
use Rattle.user_extension.specs.UserDefined.{IsValue, Row}
use Rattle.user_extension.specs.Extension.{entry, entry_limit}
use Rattle.user_extension.specs.Reading.{ReadRow, rows_after, said}
use Rattle.user_extension.specs.Laws.{as_read, EntriesAreRead}
use Rattle.user_listing.specs.Entries.{Extended}
use Rattle.user_listing.specs.Listing.{extended_listing}
use Rattle.user_listing.specs.RelativeSource.{extended_relative}
use Rattle.user_values.specs.Expansion.{UserMention, first_said, expansion_by}
use Rattle.user_compiling.specs.Rows.{AreRowsOf}
use Rattle.user_compiling.specs.Entries.{IsStateBy, does_resolve, HasStateBy}
use Rattle.user_compiling.specs.ReadBack.{RowsAreUserDefined, StatesOfBlocksAreDetermined}
use Rattle.user_compiling.proofs.Imaging.{entries_are_of_values, limits_are_of_values}
use Rattle.user_compiling.proofs.Mentioned.{rows-have, user-mentions-have}
use Rattle.user_compiling.proofs.ReadBack.{has-entry, rows-say}
use Rattle.user_compiling.proofs.RowLists.{rows_alike}
use Rattle.user_compiling.proofs.States.{state_written}
use Rattle.user_relisting.specs.Items.{IsWritable, ItemsAreBlocks, ItemsAreReadByTheProfile}
use Rattle.user_relisting.specs.ReadingBack.{AreWritable, CanBeListed, CanBeUsed, IsListedIn, IsWritableIfSome, Listed, entries_of}
use Rattle.user_relisting.specs.ReadingBack.{ListingsSayTheEntry, ListingsSayTheTables, RelativesSayTheEntryInASource, RelativesSayTheTablesInASource}
use Rattle.user_relisting.proofs.Compiling.{listing-read}
use Rattle.user_relisting.proofs.Listed.{laid_out}
use Rattle.user_relisting.proofs.Related.{relative_laid_out, relative-plain}
use Rattle.user_relisting.proofs.Telling.{can-use, has-listing, writable}
use Rattle.user_recompiling.specs.Entries.{IsEntry, IsUsedEntry, CompilesTo, ShownEntry, listings, with_others, OwnTheirNames}
use Rattle.user_recompiling.specs.Entries.{Relisting, RelistingAnywhere, Relistings, RelativeSource}
use Rattle.user_recompiling.specs.Shown.{IsShown, IsShownFrom, IsUsedShown, ShownComeBack, ShownRelativeSource}
use Rattle.user_recompiling.proofs.Blocks.{good-block}
use Rattle.user_recompiling.proofs.SourceNames.{rows-among}
use Rattle.user_recompiling.proofs.UserBytes.{ContentBytes, GivesBytes, user-bytes}

-- the laws of the layers below
pub record AreKnown : Type 0 where
  pub sound : ValuesAreSound
  pub computed : HasReading
  pub well_read : EachIsWellRead
  pub one : EntriesHaveOneReading
  pub user_reading : BlocksHaveOneUserReading
  pub read : EntriesAreRead
  pub user_defined : RowsAreUserDefined
  pub determined : StatesOfBlocksAreDetermined
  pub ordered : EachKindIsInOrder
  pub stand : ItemsAreBlocks
  pub plain : ItemsAreReadByTheProfile

-- ---- user-defined capabilities of bytes

value-writable : (x : Content) → IsValue x → ContentBytes x → IsWritable x
value-writable content_true value bytes = tt
value-writable (content_number n) value bytes = value
value-writable (content_text t) value bytes = (bytes, value)
value-writable content_cancelled value bytes = absurd value

rows-writable : (rows : List Row) → All (λ (u : Row). IsValue u.1) rows → All GivesBytes rows → All (λ (row : Row). IsWritable row.1) rows
rows-writable rows values given =
    All-weaker (Contains rows) (λ (row : Row). IsWritable row.1)
    (λ row here. value-writable row.1 (All-contains (λ (u : Row). IsValue u.1) rows row values here) (All-contains GivesBytes rows row given here)) rows
    (All-contains_itself rows)

-- what is given to the names of a block of bytes is of bytes
rows-bytes : AreKnown → (rule : Rule) (texts : List (List ℕ)) (at : ℕ) (text : List ℕ) (ms : List UserMention) (rows : List Row) → All IsText texts
    → slice_get texts at ≡ Some text → expansion_by rule texts text ≡ Some ms → AreRowsOf (first_said ms) rows → All GivesBytes rows
rows-bytes known rule texts at text ms rows are stands e of_block =
    let each : (k : ℕ) (t : List ℕ) → slice_get texts k ≡ Some t → IsText t = λ k t here. All-at IsText texts k t are here in
    rows-have GivesBytes ms rows of_block
    (user-mentions-have GivesBytes rule texts (λ k t here. user-bytes known.sound known.user_reading t (each k t here).1) (suc (length texts)) text ms
    (user-bytes known.sound known.user_reading text (each at text stands).1) e)

-- ---- an entry

some-long : (w : List ℕ) → w ≢ [] → 0 < length w
some-long [] some = absurd (some refl)
some-long (x ∷ w) some = omega arith

pub shown-from : AreKnown → (bytes : List ℕ) (shown : Extended) → (made : IsEntry bytes shown) → IsShownFrom bytes shown made.texts
shown-from known bytes shown made =
    let h = has-entry made.rule made.texts made.text (written bytes) bytes made.is refl in
    let block = reading_of_text made.text in
    let texts = texts-both made.texts made.blocks made.of_bytes in
    let good = good-block known.sound known.computed known.well_read made.rule made.texts made.text h.mentions texts
    (All-at IsText made.texts made.at made.text texts made.stands) h.expands in
    let holds : (c : Capability) → CanHave c (values h.mentions c) =
    λ c. uncancelled-has c (contents h.mentions c) (said-has h.mentions c good.fit) in
    let user = known.user_defined made.rule made.texts made.at made.text h.user_mentions h.rows made.blocks made.stands h.user_expands h.are_rows in
    let read = known.read block.field (values h.mentions) h.rows (some-long block.field good.some) good.listable.short good.no_nul
    (λ c valid. agrees-has c (values h.mentions c) (holds c)) user h.within in
    let reads : Reads bytes block.field read.0 = subst (λ b. Reads b block.field read.0) h.is read.1 in
    let same = known.one.0 bytes shown.entry.names block.field shown.entry.contents read.0 made.reads reads in
    let are_rows : shown.rows ≡ as_read h.rows = made.rows ∙ ap rows_after (sym h.is) ∙ read.4 in
    let tells : (c : Capability) → IsCapability c → shown.entry.contents c ≡ without_cancel (values h.mentions c) =
    λ c valid. ap (λ (table : Contents). table c) same.1 ∙ read.2 c valid in
    let alike : ShowSame shown.entry.contents (values h.mentions) =
    λ c valid. ap without_cancel (tells c valid) ∙ uncancelled-twice (values h.mentions c) in
    let limit : entry_limit shown.entry.contents h.rows ≡ entry_limit (values h.mentions) h.rows =
    limits_are_of_values shown.entry.contents (values h.mentions) h.rows alike in
    let value : (name : List ℕ) → without_cancel (first_said h.user_mentions name) ≡ without_cancel (said shown.rows name) =
    λ name. sym (ap without_cancel (ap (λ rows. said rows name) are_rows ∙ rows-say (first_said h.user_mentions) h.rows h.are_rows name)
    ∙ uncancelled-twice (first_said h.user_mentions name)) in
    record {
      is = record {
        can = record {
          names = block.names;
          rows = h.rows;
          listable = subst (λ f. IsListable f block.names) (sym same.0) good.listable;
          holds = λ c valid. subst (CanHave c) (sym (tells c valid)) (uncancelled-has c (values h.mentions c) (holds c));
          are_rows = are_rows;
          of_source = record {
            user_defined = user;
            writable = rows-writable h.rows user.values
                (rows-bytes known made.rule made.texts made.at made.text h.user_mentions h.rows texts made.stands h.user_expands h.are_rows);
          };
        };
        rows = rows_alike (first_said h.user_mentions) (said shown.rows) h.rows value h.are_rows;
        is = ap (λ f. entry f shown.entry.contents h.rows) same.0
            ∙ entries_are_of_values block.field shown.entry.contents (values h.mentions) h.rows alike ∙ h.is;
        within = subst (λ (n : ℕ). length bytes ≤ n) (sym limit)
            (subst (λ (b : List ℕ). length b ≤ entry_limit (values h.mentions) h.rows) h.is h.within);
      };
      names = rows-among made.rule made.texts made.at made.text h.user_mentions h.rows made.stands h.user_expands h.are_rows;
    }

is-shown : AreKnown → (bytes : List ℕ) (shown : Extended) → IsEntry bytes shown → IsShown bytes shown
is-shown known bytes shown made = (shown-from known bytes shown made).is

-- a block that says what is shown, under its names field, becomes the entry
becomes : (rule : Rule) (texts : List (List ℕ)) (text bytes : List ℕ) (shown : Extended) → (is : IsShown bytes shown)
    → (ms : List Mention) (us : List UserMention) → expansion (readings_by rule texts) (reading_by rule text) ≡ Some ms
    → expansion_by rule texts text ≡ Some us → (reading_of_text text).field ≡ shown.entry.names
    → ShowSame (contents ms) shown.entry.contents → ((name : List ℕ) → without_cancel (said shown.rows name) ≡ without_cancel (first_said us name))
    → HasStateBy rule texts text (written bytes)
becomes rule texts text bytes shown is ms us expands user_expands field alike value =
    let rows = is.can.rows in
    let block = reading_of_text text in
    let made : entry block.field (contents ms) rows ≡ bytes =
    ap (λ f. entry f (contents ms) rows) field ∙ entries_are_of_values shown.entry.names (contents ms) shown.entry.contents rows alike ∙ is.is in
    let limit : entry_limit (contents ms) rows ≡ entry_limit shown.entry.contents rows =
    limits_are_of_values (contents ms) shown.entry.contents rows alike in
    record {
      mentions = ms;
      user_mentions = us;
      rows = rows;
      expands = expands;
      user_expands = user_expands;
      are_rows = rows_alike (said shown.rows) (first_said us) rows value is.rows;
      is = state_written block (contents ms) ms rows bytes (λ c valid. refl) (sym made) (subst (λ (n : ℕ). length bytes ≤ n) (sym limit) is.within);
    }

-- and nothing else
exactly : AreKnown → (rule : Rule) (texts : List (List ℕ)) (text bytes : List ℕ) → HasStateBy rule texts text (written bytes)
    → CompilesTo rule texts text bytes
exactly known rule texts text bytes has = λ state. (
  λ h. known.determined rule texts text state (written bytes) h (does_resolve has),
  λ e. subst (IsStateBy rule texts text) (sym e) (does_resolve has),
)

-- ---- listings

listing-stands : AreKnown → (shown : Extended) (layout : Layout) → CanBeListed shown → OneBlock (extended_listing shown layout)
listing-stands known shown layout can =
    let laid = laid_out known.ordered shown can.rows layout can.holds can.are_rows can.of_source in
    known.stand shown.entry.names can.names laid.items (extended_listing shown layout) can.listable laid.can laid.source

-- a listing compiles to its entry, in whatever source it is
listing-compiles : AreKnown → ListingsSayTheEntry → ListingsSayTheTables → (rule : Rule) (bytes : List ℕ) (shown : Extended) (layout : Layout)
    → IsShown bytes shown → (texts : List (List ℕ)) → CompilesTo rule texts (extended_listing shown layout) bytes
listing-compiles known user tables rule bytes shown layout is texts =
    let text = extended_listing shown layout in
    let can = is.can in
    let of_user = user rule shown layout texts (has-listing shown can) in
    let of_tables = tables rule shown layout texts (has-listing shown can) in
    let read = listing-read known.ordered known.plain shown can.names can.rows layout can.listable can.holds can.are_rows can.of_source in
    exactly known rule texts text bytes
    (becomes rule texts text bytes shown is of_tables.0 of_user.0 of_tables.1 of_user.1 read.same_field (λ c valid. ap without_cancel (of_tables.2 c valid))
    (λ name. ap without_cancel (of_user.2 name)))

pub shown_come_back : AreKnown → ListingsSayTheEntry → ListingsSayTheTables → ShownComeBack
shown_come_back known user tables rule bytes shown layout texts is =
    let text = extended_listing shown layout in
    let one = listing-stands known shown layout is.can in
    (record { cut = one.cut; single = All-cons OneBlock text [] one (All-nil OneBlock) }, listing-compiles known user tables rule bytes shown layout is texts)

pub relisting : AreKnown → ListingsSayTheEntry → ListingsSayTheTables → Relisting
relisting known user tables rule bytes shown layout made =
    let is = is-shown known bytes shown made in
    let text = extended_listing shown layout in
    let one = listing-stands known shown layout is.can in (
      record { cut = one.cut; single = All-cons OneBlock text [] one (All-nil OneBlock) },
      listing-compiles known user tables rule bytes shown layout is (text ∷ []),
    )

pub relisting_anywhere : AreKnown → ListingsSayTheEntry → ListingsSayTheTables → RelistingAnywhere
relisting_anywhere known user tables rule bytes shown layout texts made =
    listing-compiles known user tables rule bytes shown layout (is-shown known bytes shown made) texts

abbrev IsEntryShown : ShownEntry → Type 0
IsEntryShown entry = IsEntry entry.0 entry.1

all-stand : AreKnown → (layout : Layout) (entries : List ShownEntry) → All IsEntryShown entries → All OneBlock (listings entries layout)
all-stand known layout entries are =
    All-map OneBlock (λ (entry : ShownEntry). extended_listing entry.1 layout) entries
    (All-weaker IsEntryShown (λ (entry : ShownEntry). OneBlock (extended_listing entry.1 layout))
    (λ entry made. listing-stands known entry.1 layout (is-shown known entry.0 entry.1 made).can) entries are)

pub relistings : AreKnown → ListingsSayTheEntry → ListingsSayTheTables → Relistings
relistings known user tables rule entries layout are =
    let single = all-stand known layout entries are in (
      record { cut = single-cut (listings entries layout) single; single = single },
      All-weaker IsEntryShown (λ (entry : ShownEntry). CompilesTo rule (listings entries layout) (extended_listing entry.1 layout) entry.0)
          (λ entry made. listing-compiles known user tables rule entry.0 entry.1 layout (is-shown known entry.0 entry.1 made) (listings entries layout))
          entries are,
    )

-- ---- relative source

all-from_places : {X : Type 0} (P : X → Type 0) (xs : List X) → ((i : ℕ) (x : X) → slice_get xs i ≡ Some x → P x) → All P xs
all-from_places P [] h = All-nil P
all-from_places P (x ∷ xs) h = All-cons P x xs (h zero x refl) (all-from_places P xs (λ i y e. h (suc i) y e))

abbrev listing_of : Listed → List ℕ
listing_of one = extended_listing one.0 one.1

-- the first name of each of the others leads to its listing
others-listed : AreKnown → (shown : Extended) (layout : Layout) (listed : List Listed) → All IsUsedShown (entries_of listed) → OwnTheirNames shown layout listed
    → All (IsListedIn (with_others shown layout listed)) listed
others-listed known shown layout listed used owns =
    let texts = with_others shown layout listed in
    all-from_places (IsListedIn texts) listed
    (λ i one here.
    let use_of = All-at IsUsedShown (entries_of listed) i one.0 used
    (slice_get-map (λ (l : Listed). l.0) listed i ∙ ap (option_map (λ (l : Listed). l.0)) here) in
    let can = use_of.is.can in
    record {
      listed = can;
      first = record { lookup = first-lookup one.0.entry.names can.names can.listable.header; bare = use_of.bare };
      owned = ap (option_and_then (slice_get texts)) (owns i one here) ∙ slice_get-map listing_of listed i ∙ ap (option_map listing_of) here;
    })

longer : (x : List ℕ) (xs : List (List ℕ)) → 0 < length (x ∷ xs)
longer x xs = omega arith

pub shown_relative_source : AreKnown → RelativesSayTheEntryInASource → RelativesSayTheTablesInASource → ShownRelativeSource
shown_relative_source known user tables rule bytes shown layout listed is used owns =
    let can = is.can in
    let others = entries_of listed in
    let texts = with_others shown layout listed in
    let text = extended_relative shown others layout in
    let behind = map listing_of listed in
    let each = others-listed known shown layout listed used owns in
    let may : All CanBeUsed others = can-use texts listed (recursion_from_All (IsListedIn texts) listed each) in
    let own : AreWritable shown.rows =
    All-from_recursion (λ (row : ReadRow). (is_user_defined_name row.0 ≡ true) × IsWritableIfSome row.1) shown.rows (writable shown can) in
    let laid = relative_laid_out known.ordered shown others layout can.holds own may in
    let one = known.stand shown.entry.names can.names laid.items text can.listable laid.can laid.source in
    let single : All OneBlock texts =
    All-cons OneBlock text behind one
    (All-map OneBlock listing_of listed
    (All-weaker (IsListedIn texts) (λ (l : Listed). OneBlock (listing_of l)) (λ l is_listed. listing-stands known l.0 l.1 is_listed.listed) listed each)) in
    let of_user = user rule shown layout listed texts can (longer text behind) each in
    let of_tables = tables rule shown layout listed texts can (longer text behind) each in
    let read = relative-plain known.ordered known.plain shown others can.names layout can.listable can.holds own may in (
      record { cut = single-cut texts single; single = single },
      exactly known rule texts text bytes
          (becomes rule texts text bytes shown is of_tables.0 of_user.0 of_tables.1 of_user.1 read.same_field of_tables.2
          (λ name. ap without_cancel (sym (of_user.2 name)) ∙ uncancelled-twice (first_said of_user.0 name))),
    )

used-shown : AreKnown → (entries : List Extended) → All IsUsedEntry entries → All IsUsedShown entries
used-shown known entries used =
    All-weaker IsUsedEntry IsUsedShown (λ shown one. record { bytes = one.bytes; is = is-shown known one.bytes shown one.entry; bare = one.bare }) entries used

pub relative_source : AreKnown → RelativesSayTheEntryInASource → RelativesSayTheTablesInASource → RelativeSource
relative_source known user tables rule bytes shown layout listed made used owns =
    shown_relative_source known user tables rule bytes shown layout listed (is-shown known bytes shown made) (used-shown known (entries_of listed) used) owns
