-- The listing of an entry compiles without user-defined capabilities to the image of its tables.
use Rattle.std.proofs.Common.{◌≡◌, ℕ, suc, false, List, [], ◌∷◌, ◌++◌, length, Option, Some, None, option_map, option_and_then, slice_get, refl, subst, ap}
use Rattle.std.proofs.Common.{sym, ◌∙◌}
use Rattle.std.specs.List.{AllByRecursion, list_any}
use Rattle.std.specs.Option.{option_or}
use Rattle.std.proofs.lemmas.List.{append-nil}
use Rattle.std.proofs.lemmas.List.Elements.{All-nil, recursion_from_All}
use Rattle.std.proofs.lemmas.Option.{slice_get-map}
use Rattle.ti_caps.specs.NameOrder.{EachKindIsInOrder}
use Rattle.ti_caps.specs.Tables.{Capability, IsCapability}
use Rattle.ti_source.specs.Code.{is_error}
use Rattle.ti_source.specs.declared.code.Code.TheVariants as code
use Rattle.ti_source.specs.declared.parsing.Rule.{Rule}
use Rattle.ti_source.specs.Reading.{ReadFault, Reading}
use Rattle.ti_source.specs.Parsing.{reading_of_text}
use Rattle.ti_layout.specs.Values.{Content, Contents, Mention, contents}
use Rattle.ti_layout.specs.View.{Entry}
use Rattle.ti_layout.specs.Laws.{without_cancel, ImagesAreOfValues, LimitsAreOfValues}
use Rattle.base_meaning.specs.Owner.{owner_block}
use Rattle.base_meaning.specs.Readings.{reading_by, readings_by}
use Rattle.base_meaning.specs.Expansion.{expand, expansion}
use Rattle.base_meaning.specs.Compiled.{entry as compiled_entry}
use Rattle.base_meaning.proofs.Ruling.{read_by}
use Rattle.ti_list.specs.Listing.{items_for}
use Rattle.ti_list.specs.RelativeSource.{difference, differing_contents}
use Rattle.tools_relisting.specs.Layouts.{entry_items, uses_of}
use Rattle.tools_relisting.proofs.Orders.{all_in}
use Rattle.tools_relisting.proofs.Listing.{entry_items-all, mentions_for, expand_says}
use Rattle.tools_relisting.proofs.Compiling.{all-contents, entry-is, used_at}
use Rattle.ti_list.specs.declared.layout.Layout.{Layout}
use Rattle.ti_list.specs.Items.{IsListable}
use Rattle.tools_relisting.specs.Relisting.{CanHaveAll}
use Rattle.user_extension.specs.UserDefined.{Row}
use Rattle.user_extension.specs.Laws.{as_read}
use Rattle.user_listing.specs.Entries.{Extended}
use Rattle.user_listing.specs.Listing.{extended_listing}
use Rattle.user_listing.specs.RelativeSource.{extended_relative}
use Rattle.user_listing.proofs.Alone.{relative-alone}
use Rattle.user_relisting.specs.Items.{IsProfileReadAs, ItemsAreReadByTheProfile}
use Rattle.user_relisting.specs.ReadingBack.{AreOfSource, CanBeUsed, HasListing, ListingsCompileByTheProfile, ListingsSayTheTables}
use Rattle.user_relisting.proofs.Listed.{laid_out}
use Rattle.user_relisting.proofs.Ordering.{kept, kept-nothing, or-nothing}
use Rattle.user_relisting.proofs.Related.{relative-plain}
use Rattle.user_relisting.proofs.TableRules.{block-expands, mentions_by, nothing-said, own-tell, uses-last}

items-alone : (table : Contents) (caps : List Capability) → items_for (differing_contents table []) caps ≡ items_for table caps
items-alone table [] = refl
items-alone table (c ∷ cs) = rw (alone (table c), items-alone table cs) refl
  where
    alone : (own : Option Content) → difference own None ≡ own
    alone None = refl
    alone (Some x) = refl

-- a block with warnings of unknown names alone is not broken
pub not-broken : (faults : List ReadFault) → AllByRecursion (λ (fault : ReadFault). fault.code ≡ code.UnknownCapability) faults
    → list_any (λ (fault : ReadFault). is_error fault.code) faults ≡ false
not-broken [] all = refl
not-broken (fault ∷ faults) all = rw all.0 (not-broken faults all.1)

-- such a block expands to the mentions of the items that it has of a table, and to those of its uses
pub expands : (rule : Rule) (text field : List ℕ) (names : List (List ℕ)) (table : Contents) (cs : List Capability) (others : List Entry)
    → IsProfileReadAs field names (items_for table cs ++ uses_of others) (reading_of_text text)
    → (env : List ℕ → Option Reading) (depth : ℕ) (used : List Mention) → expand_says (used_at env depth) (uses_of others) ≡ Some used
    → expand env (suc depth) (reading_by rule text) ≡ Some (mentions_by rule (mentions_for table cs) used)
expands rule text field names table cs others read env depth used is =
    let block = reading_of_text text in
    let sound = not-broken block.faults (recursion_from_All (λ (fault : ReadFault). fault.code ≡ code.UnknownCapability) block.faults read.warned) in
    block-expands rule env depth text (items_for table cs ++ uses_of others) sound read.says ∙ uses-last rule (used_at env depth) table cs others used is

-- to the former alone if it uses nothing
expands-alone : (rule : Rule) (text field : List ℕ) (names : List (List ℕ)) (table : Contents) (cs : List Capability)
    → IsProfileReadAs field names (items_for table cs) (reading_of_text text) → (env : List ℕ → Option Reading) (depth : ℕ)
    → expand env (suc depth) (reading_by rule text) ≡ Some (mentions_by rule (mentions_for table cs) [])
expands-alone rule text field names table cs read env depth =
    expands rule text field names table cs []
    (subst (λ items. IsProfileReadAs field names items (reading_of_text text)) (sym (append-nil (items_for table cs))) read) env depth [] refl

-- they say of each capability what the table has, and else what the uses say
pub all-tell : EachKindIsInOrder → (rule : Rule) (table : Contents) (layout : Layout) (used : List Mention) (c : Capability) → IsCapability c
    → contents (mentions_by rule (mentions_for table (all_in layout.order)) used) c ≡ option_or (table c) (kept rule (contents used c))
all-tell ordered rule table layout used c cap =
    let own = mentions_for table (all_in layout.order) in
    let alone : contents own c ≡ table c =
    ap (λ l. contents l c) (sym (append-nil own)) ∙ all-contents ordered table layout [] c cap ∙ ap (option_or (table c)) (nothing-said c)
    ∙ or-nothing (table c) in
    own-tell rule table (all_in layout.order) used c ∙ ap (λ o. option_or o (kept rule (contents used c))) alone

pub listing-tells : EachKindIsInOrder → (rule : Rule) (entry : Extended) (layout : Layout) (c : Capability) → IsCapability c
    → contents (mentions_by rule (mentions_for entry.entry.contents (all_in layout.order)) []) c ≡ entry.entry.contents c
listing-tells ordered rule entry layout c cap =
    let table = entry.entry.contents in
    all-tell ordered rule table layout [] c cap ∙ ap (λ o. option_or (table c) (kept rule o)) (nothing-said c)
    ∙ ap (option_or (table c)) (kept-nothing rule) ∙ or-nothing (table c)

module _ (ordered : EachKindIsInOrder) (read : ItemsAreReadByTheProfile) where
  -- what the profile reads of the listing of an entry
  pub listing-read : (entry : Extended) (names : List (List ℕ)) (rows : List Row) (layout : Layout) → IsListable entry.entry.names names
      → CanHaveAll entry.entry.contents
      → entry.rows ≡ as_read rows → AreOfSource rows
      → IsProfileReadAs entry.entry.names names (items_for entry.entry.contents (all_in layout.order)) (reading_of_text (extended_listing entry layout))
  listing-read entry names rows layout good has is are =
      let laid = laid_out ordered entry rows layout has is are in
      subst (λ items. IsProfileReadAs entry.entry.names names items (reading_of_text (extended_listing entry layout)))
      (laid.keeps ∙ entry_items-all layout entry.entry.contents)
      (read entry.entry.names names laid.items (extended_listing entry layout) good laid.can laid.source)

  -- what the profile reads of the listing of any entry that has one
  any-read : (entry : Extended) (layout : Layout) (can : HasListing entry)
      → IsProfileReadAs entry.entry.names can.names (items_for entry.entry.contents (all_in layout.order)) (reading_of_text (extended_listing entry layout))
  any-read entry layout can =
      let table = differing_contents entry.entry.contents [] in
      let same : entry_items layout table ++ [] ≡ items_for entry.entry.contents (all_in layout.order) =
      append-nil (entry_items layout table) ∙ entry_items-all layout table ∙ items-alone entry.entry.contents (all_in layout.order) in
      subst (λ text. IsProfileReadAs entry.entry.names can.names (items_for entry.entry.contents (all_in layout.order)) (reading_of_text text))
      (relative-alone entry layout)
      (subst (λ items. IsProfileReadAs entry.entry.names can.names items (reading_of_text (extended_relative entry [] layout))) same
      (relative-plain ordered read entry [] can.names layout can.listable can.holds can.writable (All-nil CanBeUsed)))

  -- and its expansion
  pub any-expands-at : (rule : Rule) (entry : Extended) (layout : Layout) → HasListing entry → (env : List ℕ → Option Reading) (depth : ℕ)
      → expand env (suc depth) (reading_by rule (extended_listing entry layout))
      ≡ Some (mentions_by rule (mentions_for entry.entry.contents (all_in layout.order)) [])
  any-expands-at rule entry layout can =
      expands-alone rule (extended_listing entry layout) entry.entry.names can.names entry.entry.contents (all_in layout.order) (any-read entry layout can)

  pub tables_say : ListingsSayTheTables
  tables_say rule entry layout texts can = (
    mentions_by rule (mentions_for entry.entry.contents (all_in layout.order)) [],
    any-expands-at rule entry layout can (owner_block (readings_by rule texts)) (length (readings_by rule texts)),
    listing-tells ordered rule entry layout,
  )

pub listings_compile : EachKindIsInOrder → ItemsAreReadByTheProfile → ImagesAreOfValues → LimitsAreOfValues → ListingsCompileByTheProfile
listings_compile ordered read images limits rule entry names rows layout good has is are within texts at stands =
    let text = extended_listing entry layout in
    let blocks = readings_by rule texts in
    let block = reading_by rule text in
    let readable = listing-read ordered read entry names rows layout good has is are in
    let read_there : slice_get blocks at ≡ Some block = slice_get-map (reading_by rule) texts at ∙ ap (option_map (reading_by rule)) stands in
    let table = entry.entry.contents in
    let caps = all_in layout.order in
    let expanded : expansion blocks block ≡ Some (mentions_by rule (mentions_for table caps) []) =
    expands-alone rule text entry.entry.names names table caps readable (owner_block blocks) (length blocks) in
    ap (option_and_then (compiled_entry blocks)) read_there
    ∙ entry-is images limits blocks block entry.entry.names table (mentions_by rule (mentions_for table caps) []) expanded
    (ap (λ (b : Reading). b.field) (read_by rule text) ∙ readable.same_field)
    (λ c cap. ap without_cancel (listing-tells ordered rule entry layout c cap)) within
