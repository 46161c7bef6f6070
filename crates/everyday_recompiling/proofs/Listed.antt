-- What is listed of the files that `ti-tic -x` writes compiles back to them.
use Rattle.std.proofs.Common.{◌≡◌, ◌⊎◌, ◌&&◌, ◌<◌, ◌≤◌, ◌==◌, not, inl, inr, ℕ, zero, suc, Bool, true, false, cond, List, [], ◌∷◌, ◌++◌, length, map, nat_lt, All}
use Rattle.std.proofs.Common.{◌-◌, append_assoc, option_and_then, replicate, take, Option, None, Some, slice_get, sym, ap, ◌∙◌, refl, subst, arith}
use Rattle.std.specs.List.{AllByRecursion, list_all}
use Rattle.std.proofs.lemmas.Bool.{and_from, and_parts, and_right, eq-eqb, false≢true, le-ltb, ltb-true, not-true, or_from}
use Rattle.std.proofs.lemmas.List.Elements.{All-cons, All-from_recursion, All-head, All-nil, All-weaker}
use Rattle.std.proofs.lemmas.Option.{same_Some}
use Rattle.ti_text.specs.Texts.{AreBytes}
use Rattle.ti_caps.proofs.Same.{same_capability-true}
use Rattle.ti_caps.specs.declared.capability.Kind.TheVariants.{Flag, Number, Text}
use Rattle.ti_caps.specs.Tables.{Capability, IsCapability, same_capability}
use Rattle.ti_source.specs.Cutting.{EachHasCut, IsOnlyCut, OneBlock, blocks_from_head, front_of, last_byte}
use Rattle.ti_source.specs.declared.parsing.Rule.TheVariants.{OwnFirst}
use Rattle.ti_source.specs.Parsing.{reading_of_text}
use Rattle.ti_source.specs.Reading.{Reading}
use Rattle.ti_source.specs.Sound.{EachIsWellRead}
use Rattle.ti_layout.specs.Laws.{without_cancel, ShowSame}
use Rattle.ti_layout.specs.Reading.{EntriesHaveOneReading, Reads}
use Rattle.ti_layout.specs.Values.{Contents, Mention, content_text, contents}
use Rattle.ti_list.specs.Items.{IsListable}
use Rattle.ti_list.specs.declared.layout.Layout.{Layout}
use Rattle.base_meaning.specs.Compiled.{EntryState, written}
use Rattle.base_meaning.specs.Expansion.{expansion, is_broken, values}
use Rattle.base_meaning.specs.Readings.{by_rule, reading_by, readings_by}
use Rattle.base_meaning.specs.ValueTables.{IsTableOfMentions}
use Rattle.tools_devices.specs.Tree.{FileAt, Files}
use Rattle.tools_relisting.specs.Relisting.{CanHave}
use Rattle.tools_sources.specs.Sources.{source_texts, with_last_newline}
use Rattle.tools_relisting.specs.Entries.{IsSourceOf}
use Rattle.user_items.specs.Parsing.{user_reading_of_text}
use Rattle.user_items.specs.Reading.{UserBlock}
use Rattle.user_extension.specs.Extension.{entry, entry_limit}
use Rattle.user_extension.specs.Laws.{EntriesAreRead, as_read}
use Rattle.user_extension.specs.Reading.{ReadRow, rows_after, said}
use Rattle.user_extension.specs.UserDefined.{Row}
use Rattle.user_listing.specs.Entries.{Extended}
use Rattle.user_listing.specs.Listing.{extended_listing, listed_kind}
use Rattle.user_values.specs.Expansion.{UserMention, expand_by, expansion_by, first_said, owner_text}
use Rattle.user_values.specs.Expansion.{block_mentions as user_block_mentions}
use Rattle.user_values.specs.Limit.{names_in}
use Rattle.user_compiling.specs.Entries.{IsStateBy, does_not_resolve, does_resolve, entry_with, state_with}
use Rattle.user_compiling.specs.ReadBack.{EntriesReadBack, RowsAreUserDefined, StatesOfBlocksAreDetermined}
use Rattle.user_compiling.specs.Rows.{RowsAreDetermined}
use Rattle.user_compiling.proofs.Imaging.{entries_are_of_values, limits_are_of_values}
use Rattle.user_compiling.proofs.ReadBack.{rows-say}
use Rattle.user_compiling.proofs.RowLists.{rows_alike}
use Rattle.user_compiling.proofs.States.{uncancelled-twice}
use Rattle.user_relisting.specs.ReadingBack.{AreOfSource, ListingsSayTheTables}
use Rattle.user_relisting.proofs.Telling.{has-listing}
use Rattle.user_recompiling.specs.Entries.{IsEntry}
use Rattle.user_recompiling.specs.Shown.{EntriesAreShown, IsAmong, IsShown, IsShownFrom, ShownComeBack}
use Rattle.everyday_constants.specs.Entries.{IsWithCharacters}
use Rattle.everyday_constants.specs.Laws.{IsSoundEntry}
use Rattle.everyday_graphics.specs.Entries as drawn
use Rattle.everyday_graphics.specs.Entries.{IsDrawnState}
use Rattle.everyday_graphics.specs.Graphics.{acsc, drawn_values, lacks_acsc, vt100_acsc, with_acsc}
use Rattle.everyday_graphics.specs.ReadBack.{DrawnEntriesReadBack}
use Rattle.everyday_graphics.proofs.Drawn.{acsc-has-no-nul, kept-values, lacks-there, state-kept}
use Rattle.everyday_graphics.proofs.ReadBack.{IsDrawnEntry, drawn-entry, own-state, read-other, value-of}
use Rattle.everyday_sources.specs.Used.{SourcesComeFirst}
use Rattle.everyday_names.specs.Fields.{after_field, field_of, fitted, has, is_long, is_long_field, long_field, part_and_blanks}
use Rattle.everyday_names.specs.Entries.{with_names}
use Rattle.everyday_names.specs.Laws.{FittedBlocksReadAlike}
use Rattle.everyday_names.proofs.FieldLemmas.{after-of_joined, field-no_comma, field-of_joined, has-joined}
use Rattle.everyday_names.proofs.Fitted.{HasLong, block-with, has-long, part-field, whole-field}
use Rattle.everyday_names.proofs.Folded.{IsField, read-with_blanks, user-with_blanks}
use Rattle.everyday_tic.specs.Named.{named_state}
use Rattle.everyday_recompiling.specs.WrittenFiles.{IsEntryFile, IsShownOf, ListedFilesComeBack, WrittenFilesCompileBack, shown_as}
use Rattle.everyday_recompiling.proofs.Names.{by-limit, same-bytes, whole-field as names-field}
use Rattle.everyday_recompiling.proofs.Spelled.{IsKnown, shown_of, sound-entry, spelled-shown}
use Rattle.everyday_recompiling.proofs.WrittenFiles.{AreNamed, files_are_read}

-- ---- the values that are drawn can be listed

some-byte : (x : ℕ) (b : Bool) → (nat_lt x 256 && b) ≡ true → (x < 256) × (b ≡ true)
some-byte x b e = by_test (nat_lt x 256) refl e
  where
    by_test : (c : Bool) → nat_lt x 256 ≡ c → (c && b) ≡ true → (x < 256) × (b ≡ true)
    by_test true low both = (ltb-true x 256 low, both)
    by_test false low both = absurd (false≢true both)

of-bytes : (t : List ℕ) → list_all (λ byte. nat_lt byte 256) t ≡ true → AllByRecursion (λ byte. byte < 256) t
of-bytes [] all = tt
of-bytes (x ∷ xs) all = let both = some-byte x (list_all (λ byte. nat_lt byte 256) xs) all in (both.0, of-bytes xs both.1)

acsc-of-bytes : AreBytes vt100_acsc
acsc-of-bytes = All-from_recursion (λ byte. byte < 256) vt100_acsc (of-bytes vt100_acsc refl)

drawn-can : (draws : Bool) (ms : List Mention) (c : Capability) → CanHave c (values ms c) → CanHave c (drawn_values draws ms c)
drawn-can draws ms c can = by_test (draws && lacks_acsc (contents ms))
  where
    with_it : (b : Bool) → same_capability acsc c ≡ b → CanHave c (with_acsc (values ms) c)
    with_it true e = rw e (subst (λ (d : Capability). CanHave d (Some (content_text vt100_acsc))) (same_capability-true acsc c e) ((refl, acsc-has-no-nul), acsc-of-bytes))
    with_it false e = rw e can

    by_test : (b : Bool) → CanHave c ((cond b (with_acsc (values ms)) (values ms)) c)
    by_test true = with_it (same_capability acsc c) refl
    by_test false = can

-- ---- what is shown of a file

module _ (known : EntriesReadBack) (one : EntriesHaveOneReading) (well : EachIsWellRead) (read : EntriesAreRead) (determined : RowsAreDetermined)
    (user_defined : RowsAreUserDefined) (are_shown : EntriesAreShown) (draws : Bool) (texts : List (List ℕ)) (at : ℕ) (text bytes : List ℕ) (shown : Extended)
    (blocks : All OneBlock texts) (stands : slice_get texts at ≡ Some text) (d : IsDrawnEntry draws OwnFirst texts text bytes)
    (shows : IsShownOf texts bytes shown)
  where
    -- the entry to which the block compiles
    abbrev own : List ℕ
    own = entry_with (reading_of_text text) d.has.mentions d.has.rows

    abbrev other : List ℕ
    other = entry (reading_of_text text).field (drawn_values draws d.has.mentions) d.has.rows

    of-own : bytes ≡ own → IsShownFrom bytes shown texts
    of-own is =
        are_shown bytes shown
        (record {
          rule = OwnFirst;
          texts = texts;
          at = at;
          text = text;
          blocks = blocks;
          of_bytes = shows.of_bytes;
          stands = stands;
          is = subst (λ (b : List ℕ). IsStateBy OwnFirst texts text (written b)) (sym is) (own-state draws OwnFirst texts text bytes d);
          reads = shows.reads;
          rows = shows.rows;
        })

    of-other : bytes ≡ other → length other ≤ entry_limit (drawn_values draws d.has.mentions) d.has.rows → IsShownFrom bytes shown texts
    of-other is fits =
        let h = d.has in
        let field = (reading_of_text text).field in
        let u = drawn_values draws h.mentions in
        let state = own-state draws OwnFirst texts text bytes d in
        let back = known OwnFirst texts at text own blocks stands state in
        let plain : Extended = record { entry = record { names = field; contents = back.contents }; rows = rows_after own } in
        let made : IsEntry own plain = record {
          rule = OwnFirst;
          texts = texts;
          at = at;
          text = text;
          blocks = blocks;
          of_bytes = shows.of_bytes;
          stands = stands;
          is = state;
          reads = back.reads;
          rows = refl;
        } in
        let from : IsShownFrom own plain texts = are_shown own plain made in
        let can = from.is.can in
        let mentions : back.mentions ≡ h.mentions = same_Some back.mentions h.mentions (sym back.expands ∙ h.expands) in
        let plain_value : (name : List ℕ) → without_cancel (said plain.rows name) ≡ without_cancel (first_said h.user_mentions name) =
        λ name. ap without_cancel (back.user_defined name ∙ value-of OwnFirst texts at text h.user_mentions name stands h.user_expands)
        ∙ uncancelled-twice (first_said h.user_mentions name) in
        let same_rows : can.rows ≡ h.rows =
        determined (first_said h.user_mentions) can.rows h.rows (rows_alike (said plain.rows) (first_said h.user_mentions) can.rows plain_value from.is.rows)
        h.are_rows in
        let again = read-other well read user_defined draws OwnFirst texts at text bytes blocks stands d back fits in
        let there = subst (λ (b : List ℕ). Reads b field again.contents) (sym is) again.reads in
        let same = one.0 bytes shown.entry.names field shown.entry.contents again.contents shows.reads there in
        let tells : (c : Capability) → IsCapability c → shown.entry.contents c ≡ u c =
        λ c valid. ap (λ (t : Contents). t c) same.1 ∙ again.tables c valid in
        let alike : ShowSame shown.entry.contents u = λ c valid. ap without_cancel (tells c valid) in
        let are_rows : shown.rows ≡ as_read h.rows = shows.rows ∙ ap rows_after is ∙ again.are_rows in
        let value : (name : List ℕ) → without_cancel (first_said h.user_mentions name) ≡ without_cancel (said shown.rows name) =
        λ name. sym (ap without_cancel (ap (λ rows. said rows name) are_rows ∙ rows-say (first_said h.user_mentions) h.rows h.are_rows name)
        ∙ uncancelled-twice (first_said h.user_mentions name)) in
        let limit : entry_limit shown.entry.contents h.rows ≡ entry_limit u h.rows = limits_are_of_values shown.entry.contents u h.rows alike in
        record {
          is = record {
            can = record {
              names = can.names;
              rows = h.rows;
              listable = subst (λ f. IsListable f can.names) (sym same.0) can.listable;
              holds = λ c valid. subst (CanHave c) (sym (tells c valid))
                  (drawn-can draws h.mentions c (subst (CanHave c) (back.tables c valid ∙ ap (λ (ms : List Mention). values ms c) mentions) (can.holds c valid)));
              are_rows = are_rows;
              of_source = subst AreOfSource same_rows can.of_source;
            };
            rows = rows_alike (first_said h.user_mentions) (said shown.rows) h.rows value h.are_rows;
            is = ap (λ f. entry f shown.entry.contents h.rows) same.0 ∙ entries_are_of_values field shown.entry.contents u h.rows alike ∙ sym is;
            within = subst (λ (n : ℕ). length bytes ≤ n) (sym limit) (subst (λ (b : List ℕ). length b ≤ entry_limit u h.rows) (sym is) fits);
          };
          names = subst (λ (rows : List Row). All (IsAmong (names_in (map user_reading_of_text texts))) rows) same_rows from.names;
        }

    pub shown-there : IsShownFrom bytes shown texts
    shown-there = by_chosen d.is.chosen
      where
        by_chosen : ((bytes ≡ other) × (length other ≤ entry_limit (drawn_values draws d.has.mentions) d.has.rows))
            ⊎ ((bytes ≡ own) × (entry_limit (drawn_values draws d.has.mentions) d.has.rows < length other)) → IsShownFrom bytes shown texts
        by_chosen (inl drawn) = of-other drawn.0 drawn.1
        by_chosen (inr kept) = of-own kept.0

-- ---- its listing

pub record AreKnown : Type 0 where
  pub entries : EntriesReadBack
  pub one : EntriesHaveOneReading
  pub well : EachIsWellRead
  pub read : EntriesAreRead
  pub determined : RowsAreDetermined
  pub user_defined : RowsAreUserDefined
  pub states : StatesOfBlocksAreDetermined
  pub are_shown : EntriesAreShown
  pub come_back : ShownComeBack
  pub tables : ListingsSayTheTables
  pub alike : FittedBlocksReadAlike
  pub spelled : IsKnown

-- ---- blocks that are read alike

module _ (texts : List (List ℕ)) (one other : List ℕ) (same : reading_of_text one ≡ reading_of_text other)
    (user_same : user_reading_of_text one ≡ user_reading_of_text other)
  where
    abbrev said_with : Reading → UserBlock → Option (List UserMention)
    said_with block user =
        cond (is_broken block) None
        (user_block_mentions OwnFirst (λ name. option_and_then (expand_by OwnFirst texts (length texts)) (owner_text texts name)) user.items)

    expands : expansion (readings_by OwnFirst texts) (reading_by OwnFirst one) ≡ expansion (readings_by OwnFirst texts) (reading_by OwnFirst other)
    expands = ap (λ (b : Reading). expansion (readings_by OwnFirst texts) (by_rule OwnFirst b)) same

    user_expands : expansion_by OwnFirst texts one ≡ expansion_by OwnFirst texts other
    user_expands =
        ap (λ (b : Reading). said_with b (user_reading_of_text one)) same ∙ ap (said_with (reading_of_text other)) user_same

    pub state-alike : (state : EntryState) → IsStateBy OwnFirst texts one state → IsStateBy OwnFirst texts other state
    state-alike _ (does_not_resolve none) = does_not_resolve (sym expands ∙ none)
    state-alike _ (does_resolve {state = state} h) = does_resolve
        (record {
          mentions = h.mentions;
          user_mentions = h.user_mentions;
          rows = h.rows;
          expands = sym expands ∙ h.expands;
          user_expands = sym user_expands ∙ h.user_expands;
          are_rows = h.are_rows;
          is = h.is ∙ ap (λ (b : Reading). state_with b h.mentions h.rows) same;
        })

    pub drawn-alike : (draws : Bool) (state : EntryState) → IsDrawnState draws OwnFirst texts one state → IsDrawnState draws OwnFirst texts other state
    drawn-alike draws _ (drawn.does_not_resolve none) = drawn.does_not_resolve (sym expands ∙ none)
    drawn-alike draws _ (drawn.does_resolve {state = state} h) = drawn.does_resolve
        (record {
          mentions = h.mentions;
          user_mentions = h.user_mentions;
          rows = h.rows;
          expands = sym expands ∙ h.expands;
          user_expands = sym user_expands ∙ h.user_expands;
          are_rows = h.are_rows;
          is = h.is ∙ ap (λ (b : Reading). drawn.drawn_state draws b h.mentions h.rows) same;
        })

-- ---- the listing of a file

-- what a listing has behind the comma after its names field
abbrev behind : Extended → Layout → List ℕ
behind e layout = listed_kind layout e Flag ++ listed_kind layout e Number ++ listed_kind layout e Text ++ 10 ∷ []

regrouped : (n a b c d : List ℕ) → n ++ 44 ∷ a ++ b ++ c ++ d ≡ n ++ 44 ∷ (a ++ b ++ c ++ d)
regrouped n a b c d = simp append_assoc

split-listing : (e : Extended) (layout : Layout) → extended_listing e layout ≡ e.entry.names ++ 44 ∷ behind e layout
split-listing e layout = regrouped e.entry.names (listed_kind layout e Flag) (listed_kind layout e Number) (listed_kind layout e Text) (10 ∷ [])

-- a listing says what another one says that has a part of its names field
pub record IsListingOf (listing part file bytes : List ℕ) : Type 0 where
  pub alike : reading_of_text (fitted listing) ≡ reading_of_text part
  pub user_alike : user_reading_of_text (fitted listing) ≡ user_reading_of_text part
  pub single : OneBlock listing
  pub named : written file ≡ named_state (long_field listing) (written bytes)

no-comma : (field : List ℕ) → list_all (λ byte. not (byte == 44)) field ≡ true → has 44 field ≡ false
no-comma [] e = refl
no-comma (x ∷ xs) e =
    let parts = and_parts (not (x == 44)) (list_all (λ byte. not (byte == 44)) xs) e in
    or_from (x == 44) (has 44 xs) (not-true (x == 44) parts.0) (no-comma xs parts.1)

-- with the same names field, if that is not too long
short-listing : (names tail listing part file bytes : List ℕ) → has 44 names ≡ false → length names ≤ 127 → listing ≡ names ++ 44 ∷ tail → part ≡ listing
    → OneBlock part → file ≡ bytes → IsListingOf listing part file bytes
short-listing names tail listing part file bytes comma short is same one equal =
    let field : field_of listing ≡ names = ap field_of is ∙ field-of_joined names tail comma in
    let over : nat_lt 127 (length (field_of listing)) ≡ false = ap (λ (f : List ℕ). nat_lt 127 (length f)) field ∙ le-ltb 127 (length names) short in
    let never : is_long_field (field_of listing) ≡ false = rw over refl in
    let not_long : is_long listing ≡ false = and_right (has 44 listing) (is_long_field (field_of listing)) never in
    let none : long_field listing ≡ None = rw not_long refl in
    let whole : fitted listing ≡ listing = rw not_long refl in
    record {
      alike = ap reading_of_text (whole ∙ sym same);
      user_alike = ap user_reading_of_text (whole ∙ sym same);
      single = subst OneBlock same one;
      named = ap written equal ∙ ap (λ (f : Option (List ℕ)). named_state f (written bytes)) (sym none);
    }

-- with a names field that is too long, of which the other has a part
long-listing : (whole field tail listing part file bytes : List ℕ) → OneBlock whole → HasLong whole field → listing ≡ field ++ 44 ∷ tail
    → part ≡ take 127 field ++ 44 ∷ tail → OneBlock part → written file ≡ named_state (Some field) (written bytes) → IsListingOf listing part file bytes
long-listing whole field tail listing part file bytes one h is cut single named =
    let comma : has 44 field ≡ false = ap (has 44) h.same ∙ field-no_comma whole in
    let of_listing : field_of listing ≡ field = ap field_of is ∙ field-of_joined field tail comma in
    let after : after_field listing ≡ tail = ap after_field is ∙ after-of_joined field tail comma in
    let there : has 44 listing ≡ true = ap (has 44) is ∙ has-joined field tail in
    let fits : is_long_field (field_of listing) ≡ true =
    ap is_long_field (of_listing ∙ h.same) ∙ (and_parts (has 44 whole) (is_long_field (field_of whole)) h.is).1 in
    let long : is_long listing ≡ true = and_from (has 44 listing) (is_long_field (field_of listing)) there fits in
    let some : long_field listing ≡ Some field =
    ap (λ (b : Bool). cond b (Some (field_of listing)) None) long ∙ ap (λ (f : List ℕ). Some f) of_listing in
    let fitted_is : fitted listing ≡ take 127 field ++ 44 ∷ (replicate (length field - 127) 32 ++ tail) =
    ap (λ (b : Bool). cond b (part_and_blanks (field_of listing) (after_field listing)) listing) long
    ∙ ap (λ (f : List ℕ). part_and_blanks f (after_field listing)) of_listing ∙ ap (part_and_blanks field) after in
    let of_part : IsField (take 127 field) = subst (λ (f : List ℕ). IsField (take 127 f)) (sym h.same) (part-field whole one h.is) in
    let of_whole : IsField field = subst IsField (sym h.same) (whole-field whole one h.is) in
    record {
      alike = ap reading_of_text fitted_is ∙ read-with_blanks (take 127 field) (length field - 127) tail of_part
          ∙ sym (ap reading_of_text cut ∙ read-with_blanks (take 127 field) 0 tail of_part);
      user_alike = ap user_reading_of_text fitted_is ∙ user-with_blanks (take 127 field) (length field - 127) tail of_part
          ∙ sym (ap user_reading_of_text cut ∙ user-with_blanks (take 127 field) 0 tail of_part);
      single = subst OneBlock (sym is) (block-with field (take 127 field) tail of_whole of_part (subst OneBlock cut single));
      named = named ∙ ap (λ (f : Option (List ℕ)). named_state f (written bytes)) (sym some);
    }

module _ (laws : AreKnown) (draws : Bool) (files : Option Files) (directories : List (List ℕ)) (directory source : List ℕ) (before after : ℕ) (file : FileAt)
    (shown : Extended) (is : IsEntryFile draws files directories directory source before after file) (shows : IsShownOf is.texts file.1 shown)
  where
    -- what is shown, with the names field of the block as it is compiled
    abbrev pub cut_shown : Extended
    cut_shown = shown_as shown (reading_of_text (fitted is.whole)).field

    same : (shown.entry.names ≡ is.reads_named.field) × (shown.entry.contents ≡ is.reads_spelled.given)
    same = laws.one.0 file.1 shown.entry.names is.reads_named.field shown.entry.contents is.reads_spelled.given shows.reads is.reads_named.reads

    -- the entry before its constants are characters
    pub sound : IsSoundEntry (reading_of_text (fitted is.whole)).field is.bytes is.reads.contents
    sound = sound-entry laws.spelled draws is.texts is.at (fitted is.whole) is.bytes is.blocks is.stands is.is is.reads

    pub file-shown : IsShownFrom is.spelled (shown_as shown (reading_of_text (fitted is.whole)).field) is.texts
    file-shown =
        let cut = (reading_of_text (fitted is.whole)).field in
        let plain = shown_of cut is.reads.contents (rows_after is.bytes) in
        let old : IsShownFrom is.bytes plain is.texts =
        shown-there laws.entries laws.one laws.well laws.read laws.determined laws.user_defined laws.are_shown draws is.texts is.at (fitted is.whole) is.bytes
        plain is.blocks is.stands (drawn-entry draws OwnFirst is.texts (fitted is.whole) is.bytes is.is)
        (record { of_bytes = shows.of_bytes; reads = is.reads.reads; rows = refl }) in
        let new = spelled-shown laws.one is.texts is.bytes cut is.reads.contents old is.reads.reads is.spelled is.with_characters is.reads_spelled in
        subst (λ (t : Contents). IsShownFrom is.spelled (shown_of cut t shown.rows) is.texts) (sym same.1)
        (subst
        (λ (rs : List ReadRow). IsShownFrom is.spelled (shown_of cut is.reads_spelled.given rs) is.texts)
        (sym (shows.rows ∙ is.reads_named.rows)) new)

    module _ (layout : Layout) where
      part : List ℕ
      part = extended_listing (shown_as shown (reading_of_text (fitted is.whole)).field) layout

      back : IsSourceOf (extended_listing (shown_as shown (reading_of_text (fitted is.whole)).field) layout)
          (extended_listing (shown_as shown (reading_of_text (fitted is.whole)).field) layout ∷ [])
      back = (laws.come_back OwnFirst is.spelled (shown_as shown (reading_of_text (fitted is.whole)).field) layout [] file-shown.is).0

      one : OneBlock (extended_listing (shown_as shown (reading_of_text (fitted is.whole)).field) layout)
      one = All-head OneBlock (extended_listing (shown_as shown (reading_of_text (fitted is.whole)).field) layout) [] back.single

      pub listing-of : IsListingOf (extended_listing shown layout) (extended_listing (shown_as shown (reading_of_text (fitted is.whole)).field) layout) file.1
          is.spelled
      listing-of = by (long_field is.whole) refl
        where
          cut : List ℕ
          cut = (reading_of_text (fitted is.whole)).field

          listable : IsListable (reading_of_text (fitted is.whole)).field file-shown.is.can.names
          listable = file-shown.is.can.listable

          tail : List ℕ
          tail = behind shown layout

          of_part : extended_listing (shown_as shown (reading_of_text (fitted is.whole)).field) layout
              ≡ (reading_of_text (fitted is.whole)).field ++ 44 ∷ behind shown layout
          of_part = split-listing (shown_as shown (reading_of_text (fitted is.whole)).field) layout

          kept : file.1 ≡ is.spelled
              → IsListingOf (extended_listing shown layout) (extended_listing (shown_as shown (reading_of_text (fitted is.whole)).field) layout) file.1 is.spelled
          kept equal =
              let names : shown.entry.names ≡ (reading_of_text (fitted is.whole)).field =
              (laws.one.0 is.spelled shown.entry.names (reading_of_text (fitted is.whole)).field shown.entry.contents is.reads_spelled.given
              (subst (λ (b : List ℕ). Reads b shown.entry.names shown.entry.contents) equal shows.reads) is.reads_spelled.reads).0 in
              let of_listing : extended_listing shown layout ≡ (reading_of_text (fitted is.whole)).field ++ 44 ∷ behind shown layout =
              split-listing shown layout ∙ ap (λ (n : List ℕ). n ++ 44 ∷ behind shown layout) names in
              short-listing (reading_of_text (fitted is.whole)).field (behind shown layout) (extended_listing shown layout)
              (extended_listing (shown_as shown (reading_of_text (fitted is.whole)).field) layout) file.1 is.spelled
              (no-comma (reading_of_text (fitted is.whole)).field listable.no_comma) listable.short of_listing (of_part ∙ sym of_listing) one equal

          by : (found : Option (List ℕ)) → long_field is.whole ≡ found
              → IsListingOf (extended_listing shown layout) (extended_listing (shown_as shown (reading_of_text (fitted is.whole)).field) layout) file.1 is.spelled
          by None e = kept (same-bytes file.1 is.spelled (is.named ∙ ap (λ (f : Option (List ℕ)). named_state f (written is.spelled)) e))
          by (Some field) e =
              let h = has-long is.whole field e in
              let whole : field ≡ (reading_of_text is.whole).field = names-field laws.alike is.whole field is.single h in
              let named : written file.1 ≡ named_state (Some field) (written is.spelled) =
              is.named ∙ ap (λ (f : Option (List ℕ)). named_state f (written is.spelled)) e in
              elim (by-limit field is.spelled file.1 named) [
                | inr over ↦ kept over.0
                | inl within ↦
                    let names : is.reads_named.field ≡ field = elim is.reads_named.chosen [
                      | inl chosen ↦ chosen ∙ sym whole
                      | inr over ↦
                          let past = over.1 in
                          let size = ap (λ (f : List ℕ). length (with_names f is.spelled)) whole in
                          let most = within.1 in
                          absurd (omega (arith, past, size, most))
                    ] in
                    let of_listing : extended_listing shown layout ≡ field ++ 44 ∷ behind shown layout =
                    split-listing shown layout ∙ ap (λ (n : List ℕ). n ++ 44 ∷ behind shown layout) (same.0 ∙ names) in
                    let cut_is : (reading_of_text (fitted is.whole)).field ≡ take 127 field =
                    (laws.alike is.whole is.single h.is).part ∙ ap (take 127) (sym h.same) in
                    long-listing is.whole field (behind shown layout) (extended_listing shown layout)
                    (extended_listing (shown_as shown (reading_of_text (fitted is.whole)).field) layout) file.1 is.spelled is.single h of_listing
                    (of_part ∙ ap (λ (n : List ℕ). n ++ 44 ∷ behind shown layout) cut_is) one named
              ]

pub files_compile_back : AreKnown → WrittenFilesCompileBack
files_compile_back laws draws files directories directory source before after file shown layout is shows =
    let from = file-shown laws draws files directories directory source before after file shown is shows in
    let of = listing-of laws draws files directories directory source before after file shown is shows layout in
    let listing = extended_listing shown layout in
    let part = extended_listing (shown_as shown (reading_of_text (fitted is.whole)).field) layout in
    let texts = fitted listing ∷ [] in
    let compiles = (laws.come_back OwnFirst is.spelled (shown_as shown (reading_of_text (fitted is.whole)).field) layout texts from.is).1 in
    record {
      shows = from;
      source = record {
        cut = of.single.cut;
        single = All-cons OneBlock listing [] of.single (All-nil OneBlock);
      };
      compiles = λ state. (
        λ become. (compiles state).0 (state-alike texts (fitted listing) part of.alike of.user_alike state become),
        λ equal. state-alike texts part (fitted listing) (sym of.alike) (sym of.user_alike) state ((compiles state).1 equal),
      );
      named = of.named;
    }

-- a block is a source of one block
block-ended : (text : List ℕ) → OneBlock text → last_byte 10 text ≡ 10
block-ended [] one = absurd one.cut.each.1
block-ended (x ∷ xs) one = one.ends

same-text : (text : List ℕ) → last_byte 10 text ≡ 10 → with_last_newline text ≡ text
same-text text last = let is = eq-eqb (last_byte 10 text) 10 last in rw is refl

one-text : EachHasCut → IsOnlyCut → (text : List ℕ) → OneBlock text → source_texts text ≡ text ∷ []
one-text each only text one =
    ap (λ (t : List ℕ). blocks_from_head 10 t) (same-text text (block-ended text one))
    ∙ (only text (front_of 10 text) [] (blocks_from_head 10 text) (text ∷ []) (each text) one.cut).1

-- it is the only one before the others
only-one : (texts others : List (List ℕ)) (listing text : List ℕ) (at : ℕ) → texts ≡ listing ∷ others → at < 1 → slice_get texts at ≡ Some text → text ≡ listing
only-one texts others listing text zero is within stands = sym (same_Some listing text (sym (ap (λ (ts : List (List ℕ)). slice_get ts 0) is) ∙ stands))
only-one texts others listing text (suc at) is within stands = absurd (omega (arith, within))

-- an entry of a listing of which nothing is drawn is that to which this compiles
undrawn : AreKnown → (draws : Bool) (texts : List (List ℕ)) (bytes again : List ℕ) (shown : Extended) (layout : Layout) → IsShown bytes shown
    → (draws && lacks_acsc shown.entry.contents) ≡ false → IsDrawnEntry draws OwnFirst texts (extended_listing shown layout) again → again ≡ bytes
undrawn laws draws texts bytes again shown layout is not d =
    let text = extended_listing shown layout in
    let h = d.has in
    let block = reading_of_text text in
    let of_tables = laws.tables OwnFirst shown layout texts (has-listing shown is.can) in
    let mentions : h.mentions ≡ of_tables.0 = same_Some h.mentions of_tables.0 (sym h.expands ∙ of_tables.1) in
    let says : IsTableOfMentions shown.entry.contents h.mentions =
    λ c valid. sym (of_tables.2 c valid) ∙ ap (λ (ms : List Mention). contents ms c) (sym mentions) in
    let lacks : (draws && lacks_acsc (contents h.mentions)) ≡ false =
    ap (λ (b : Bool). draws && b) (sym (lacks-there shown.entry.contents h.mentions says)) ∙ not in
    let state : IsStateBy OwnFirst texts text (state_with block h.mentions h.rows) = does_resolve
    (record {
      mentions = h.mentions;
      user_mentions = h.user_mentions;
      rows = h.rows;
      expands = h.expands;
      user_expands = h.user_expands;
      are_rows = h.are_rows;
      is = refl;
    }) in
    let compiles = (laws.come_back OwnFirst bytes shown layout texts is).1 in
    let same : written again ≡ written bytes =
    h.is ∙ sym (state-kept draws block h.mentions h.rows (kept-values draws h.mentions lacks)) ∙ (compiles (state_with block h.mentions h.rows)).0 state in
    same-bytes again bytes same

module _ (laws : AreKnown) (each : EachHasCut) (only : IsOnlyCut) (come_first : SourcesComeFirst) (draws : Bool) (files : Option Files)
    (directories : List (List ℕ)) (directory bytes image : List ℕ) (shown : Extended) (layout : Layout) (listing : List ℕ) (before after : ℕ)
    (shows : IsShown bytes shown) (of : IsListingOf listing (extended_listing shown layout) image bytes)
    (not : (draws && lacks_acsc shown.entry.contents) ≡ false) (stay : (again : List ℕ) → IsWithCharacters bytes again → again ≡ bytes)
  where
    -- a file that comes of a listing has the bytes to which this compiles, with its names field
    comes-back : (file : FileAt) → IsEntryFile draws files directories directory listing before after file → file.1 ≡ image
    comes-back file is =
        let of_source : source_texts listing ≡ listing ∷ [] = one-text each only listing of.single in
        let within : is.at < 1 = subst (λ (ts : List (List ℕ)). is.at < length ts) of_source is.own in
        let same : is.whole ≡ listing = only-one (source_texts listing) [] listing is.whole is.at of_source within is.there in
        let there : IsDrawnState draws OwnFirst is.texts (fitted listing) (written is.bytes) =
        subst (λ (t : List ℕ). IsDrawnState draws OwnFirst is.texts (fitted t) (written is.bytes)) same is.is in
        let entry : is.bytes ≡ bytes =
        undrawn laws draws is.texts bytes is.bytes shown layout shows not
        (drawn-entry draws OwnFirst is.texts (extended_listing shown layout) is.bytes
        (drawn-alike is.texts (fitted listing) (extended_listing shown layout) of.alike of.user_alike draws (written is.bytes) there)) in
        let spelled : is.spelled ≡ bytes = stay is.spelled (subst (λ (b : List ℕ). IsWithCharacters b is.spelled) entry is.with_characters) in
        same-bytes file.1 image (is.named ∙ ap (λ (t : List ℕ). named_state (long_field t) (written is.spelled)) same
        ∙ ap (λ (b : List ℕ). named_state (long_field listing) (written b)) spelled ∙ sym of.named)

pub files_come_back : AreKnown → DrawnEntriesReadBack → AreNamed → SourcesComeFirst → EachHasCut → IsOnlyCut → ListedFilesComeBack
files_come_back laws known names come_first each only draws files directories directory source before after file shown layout is shows asked there places name
    start end made user not comes =
    let from = file-shown laws draws files directories directory source before after file shown is shows in
    let of = listing-of laws draws files directories directory source before after file shown is shows layout in
    let listing = extended_listing shown layout in
    All-weaker (IsEntryFile asked.draws there places asked.directory listing start end) (λ (again : FileAt). again.1 ≡ file.1)
    (comes-back laws each only come_first asked.draws there places asked.directory is.spelled file.1
    (shown_as shown (reading_of_text (fitted is.whole)).field) layout listing start end from.is of not
    (λ again next.
    laws.spelled.stay (reading_of_text (fitted is.whole)).field is.bytes is.spelled again is.reads.contents
    (sound laws draws files directories directory source before after file shown is shows) is.with_characters next))
    made.files
    (files_are_read known names come_first asked there places name listing start end made user comes)
