-- Compiled entries of sources can be listed, and are the images of what is listed.
use Rattle.std.proofs.Common.{◌++◌, map, ◌≡◌, ◌≢◌, ℕ, suc, ◌<◌, ◌≤◌, false, List, [], ◌∷◌, length, Option, Some, None, option_map, slice_get, refl, ap, sym}
use Rattle.std.proofs.Common.{◌∙◌, subst, inl, inr, arith}
use Rattle.std.specs.List.{All}
use Rattle.std.proofs.lemmas.Bool.{cases_Bool, ltb-false}
use Rattle.std.proofs.lemmas.Option.{same_Some, none-some, slice_get-map}
use Rattle.std.proofs.lemmas.List.Elements.{All-nil, All-cons, All-head, All-tail, All-map, All-weaker}
use Rattle.ti_caps.specs.NameOrder.{EachKindIsInOrder}
use Rattle.ti_caps.specs.Tables.{Capability, IsCapability}
use Rattle.ti_source.specs.Cutting.{OneBlock}
use Rattle.ti_source.specs.Reading.{Reading}
use Rattle.ti_source.specs.Parsing.{reading_of_text, HasReading}
use Rattle.ti_source.specs.Sound.{EachIsWellRead}
use Rattle.ti_spelling.specs.Spelling.{AreBytes}
use Rattle.ti_spelling.specs.Spelling.{ValuesAreSound}
use Rattle.ti_layout.specs.Values.{Contents, Mention, contents}
use Rattle.ti_layout.specs.Image.{image, image_limit, ImageFits}
use Rattle.ti_layout.specs.Reading.{Reads, EntriesHaveOneReading}
use Rattle.ti_layout.specs.Laws.{without_cancel, ImagesAreRead, ImagesAreOfValues, LimitsAreOfValues}
use Rattle.base_meaning.specs.Owner.{owner_block, readings}
use Rattle.base_meaning.specs.Expansion.{values, is_broken, expansion}
use Rattle.base_meaning.specs.Compiled.{image_of, is_too_large, entry_of, entry, compiled}
use Rattle.ti_list.specs.Items.{no_more, CanBeListed, IsListable}
use Rattle.ti_list.specs.declared.layout.Layout.{Layout}
use Rattle.ti_layout.specs.View.{Entry}
use Rattle.ti_list.specs.RelativeSource.{Listed, differing_contents, entries_of, relative, with_others}
use Rattle.tools_relisting.specs.Relisting.{CanHave, CanBeShown, CanBeUsed, ListingsCompile, RelativesCompile}
use Rattle.tools_relisting.specs.Entries.{IsEntry, IsUsedEntry, ShownEntry, listings, Relisting, Relistings, RelativeSource}
use Rattle.tools_relisting.specs.ReadingBack.{PartsAreBlocks}
use Rattle.tools_relisting.proofs.TextBytes.{parsed-bytes}
use Rattle.tools_relisting.proofs.Fitting.{MentionFits, ItemFits, items-fit, unbroken-expand, follows, expand-fits, owned-has, said-has, uncancelled-has}
use Rattle.tools_relisting.proofs.Fitting.{agrees-has}
use Rattle.tools_relisting.proofs.Heading.{block-listable, first-lookup}
use Rattle.tools_relisting.proofs.Compiling.{uncancelled-twice}
use Rattle.tools_relisting.proofs.Relating.{All-at, uses-can, differing-can}
use Rattle.tools_relisting.proofs.Listing.{listed-all, relative-all, all-can}
use Rattle.tools_relisting.proofs.Orders.{all_in}
use Rattle.tools_relisting.proofs.Standing.{single-cut}
use Rattle.tools_relisting.specs.Layouts.{uses_of}
use Rattle.ti_list.specs.Listing.{items_for, listing}

-- the laws of the layers below
pub record AreKnown : Type 0 where
  pub sound : ValuesAreSound
  pub computed : HasReading
  pub well_read : EachIsWellRead
  pub read : ImagesAreRead
  pub one : EntriesHaveOneReading
  pub images : ImagesAreOfValues
  pub limits : LimitsAreOfValues
  pub ordered : EachKindIsInOrder

-- ---- the blocks

-- a text of a source
abbrev pub IsText : List ℕ → Type 0
IsText text = OneBlock text × AreBytes text

pub texts-both : (texts : List (List ℕ)) → All OneBlock texts → All AreBytes texts → All IsText texts
texts-both [] blocks are = All-nil IsText
texts-both (t ∷ texts) blocks are =
    All-cons IsText t texts (All-head OneBlock t texts blocks, All-head AreBytes t texts are)
    (texts-both texts (All-tail OneBlock t texts blocks) (All-tail AreBytes t texts are))

-- what a block says fits
abbrev BlockFits : Reading → Type 0
BlockFits block = All ItemFits block.items

-- what is known of a block that resolves: its names field can be listed, and what it says fits
pub record IsGoodBlock (block : Reading) (ms : List Mention) : Type 0 where
  pub listable : IsListable block.field block.names
  pub some : block.field ≢ []
  pub no_nul : All (λ byte. byte ≢ 0) block.field
  pub fit : All MentionFits ms

module _ (sound : ValuesAreSound) (computed : HasReading) (well_read : EachIsWellRead) where
  text-fits : (text : List ℕ) → IsText text → BlockFits (reading_of_text text)
  text-fits text is = items-fit (reading_of_text text).items (well_read text is.0).sets (parsed-bytes sound computed text is.1)

  blocks-fit : (texts : List (List ℕ)) → All IsText texts → All BlockFits (readings texts)
  blocks-fit texts are = All-map BlockFits reading_of_text texts (All-weaker IsText (λ text. BlockFits (reading_of_text text)) text-fits texts are)

  pub good-block : (texts : List (List ℕ)) (text : List ℕ) (ms : List Mention) → All IsText texts → IsText text
      → expansion (readings texts) (reading_of_text text) ≡ Some ms → IsGoodBlock (reading_of_text text) ms
  good-block texts text ms are is e =
      let blocks = readings texts in
      let block = reading_of_text text in
      let whole : is_broken block ≡ false = unbroken-expand (owner_block blocks) (length blocks) block ms e in
      let fits : All BlockFits blocks = blocks-fit texts are in
      let named = (well_read text is.0).named whole in
      record {
        listable = block-listable text is.0 (computed text) whole;
        some = named.some;
        no_nul = named.no_nul;
        fit = expand-fits (owner_block blocks) (λ name b o. owned-has BlockFits blocks name b fits o) (suc (length blocks)) block ms (text-fits text is) e;
      }

-- the text at a place
record IsParsedFrom (texts : List (List ℕ)) (at : ℕ) (block : Reading) : Type 0 where
  pub text : List ℕ
  pub stands : slice_get texts at ≡ Some text
  pub is : reading_of_text text ≡ block

mapped : (o : Option (List ℕ)) (block : Reading) → option_map reading_of_text o ≡ Some block
    → (text : List ℕ) × (o ≡ Some text) × (reading_of_text text ≡ block)
mapped None block e = absurd (none-some block e)
mapped (Some text) block e = (text, refl, same_Some (reading_of_text text) block e)

parsed-from : (texts : List (List ℕ)) (at : ℕ) (block : Reading) → slice_get (readings texts) at ≡ Some block → IsParsedFrom texts at block
parsed-from texts at block e =
    let found = mapped (slice_get texts at) block (sym (slice_get-map reading_of_text texts at) ∙ e) in
    record { text = found.0; stands = found.1; is = found.2 }

-- ---- the entry of a block

-- a block of a source, what it says, and its image, which is within the limit
record HasImage (bytes : List ℕ) : Type 0 where
  pub field : List ℕ
  pub names : List (List ℕ)
  pub mentions : List Mention
  pub listable : IsListable field names
  pub some : field ≢ []
  pub no_nul : All (λ byte. byte ≢ 0) field
  pub fit : All MentionFits mentions
  pub is : image field (values mentions) ≡ bytes
  pub within : length (image field (values mentions)) ≤ image_limit (values mentions)

-- an entry is of mentions whose image is within the limit
record IsImage (block : Reading) (ms : List Mention) (bytes : List ℕ) : Type 0 where
  pub is : image_of block ms ≡ bytes
  pub within : length (image_of block ms) ≤ image_limit (values ms)

entry-image : (block : Reading) (ms : List Mention) (bytes : List ℕ) → entry_of block ms ≡ Some bytes → IsImage block ms bytes
entry-image block ms bytes e =
    elim (cases_Bool (is_too_large block ms)) [
      | inl t ↦ absurd (none-some bytes (rw t at e))
      | inr f ↦ record { is = same_Some (image_of block ms) bytes (rw f at e); within = ltb-false (image_limit (values ms)) (length (image_of block ms)) f }
    ]

has-image : AreKnown → (texts : List (List ℕ)) (at : ℕ) (bytes : List ℕ) → All IsText texts → compiled texts at ≡ Some bytes → HasImage bytes
has-image known texts at bytes are is =
    let blocks = readings texts in
    let found = follows (entry blocks) (slice_get blocks at) bytes is in
    let expands = follows (entry_of found.from) (expansion blocks found.from) bytes found.gives in
    let of_text = parsed-from texts at found.from found.is in
    let block = reading_of_text of_text.text in
    let ms = expands.from in
    let good = good-block known.sound known.computed known.well_read texts of_text.text ms are (All-at IsText texts at of_text.text are of_text.stands)
    (ap (expansion blocks) of_text.is ∙ expands.is) in
    let image = entry-image block ms bytes (ap (λ (b : Reading). entry_of b ms) of_text.is ∙ expands.gives) in
    record {
      field = block.field;
      names = block.names;
      mentions = ms;
      listable = good.listable;
      some = good.some;
      no_nul = good.no_nul;
      fit = good.fit;
      is = image.is;
      within = image.within;
    }

-- an entry can be shown, and is the image of what is shown
pub record IsShown (bytes : List ℕ) (shown : Entry) : Type 0 where
  pub can : CanBeShown shown
  pub image_is : image shown.names shown.contents ≡ bytes
  pub within : ImageFits shown.names shown.contents

some-long : (w : List ℕ) → w ≢ [] → 0 < length w
some-long [] some = absurd (some refl)
some-long (x ∷ w) some = omega arith

pub is-shown : AreKnown → (bytes : List ℕ) (shown : Entry) → IsEntry bytes shown → IsShown bytes shown
is-shown known bytes shown entry =
    let has = has-image known entry.texts entry.at bytes (texts-both entry.texts entry.blocks entry.of_bytes) entry.is in
    let ms = has.mentions in
    let holds : (c : Capability) → CanHave c (values ms c) = λ c. uncancelled-has c (contents ms c) (said-has ms c has.fit) in
    let read = known.read has.field (values ms) (some-long has.field has.some) has.listable.short has.no_nul
    (λ c is. agrees-has c (values ms c) (holds c)) has.within in
    let reads : Reads bytes has.field read.0 = subst (λ b. Reads b has.field read.0) has.is read.1 in
    let same = known.one.0 bytes shown.names has.field shown.contents read.0 entry.reads reads in
    let tells : (c : Capability) → IsCapability c → shown.contents c ≡ without_cancel (values ms c) =
    λ c is. ap (λ (table : Contents). table c) same.1 ∙ read.2 c is in
    let alike : (c : Capability) → IsCapability c → without_cancel (shown.contents c) ≡ without_cancel (values ms c) =
    λ c is. ap without_cancel (tells c is) ∙ uncancelled-twice (values ms c) in
    let image_is : image shown.names shown.contents ≡ bytes =
    ap (λ f. image f shown.contents) same.0 ∙ known.images has.field shown.contents (values ms) alike ∙ has.is in
    let sizes : length (image shown.names shown.contents) ≡ length (image has.field (values ms)) = ap length (image_is ∙ sym has.is) in
    let limit : image_limit shown.contents ≡ image_limit (values ms) = known.limits shown.contents (values ms) alike in
    let is_within = has.within in
    record {
      can = record {
        names = has.names;
        listable = subst (λ f. IsListable f has.names) (sym same.0) has.listable;
        holds = λ c is. subst (CanHave c) (sym (tells c is)) (uncancelled-has c (values ms c) (holds c));
      };
      image_is = image_is;
      within = omega (arith, sizes, limit, is_within);
    }

listing-stands : EachKindIsInOrder → PartsAreBlocks → (shown : Entry) (layout : Layout) → CanBeShown shown
    → OneBlock (listing shown.names shown.contents layout)
listing-stands ordered stands shown layout can =
    stands shown.names can.names (items_for shown.contents (all_in layout.order) ++ []) (listing shown.names shown.contents layout) can.listable
    (all-can ordered shown.contents layout [] can.holds (All-nil CanBeListed)) (listed-all shown.names shown.contents layout [] (10 ∷ []) no_more)

-- a listing compiles to its entry, in whatever source it is
listing-compiles : AreKnown → ListingsCompile → (bytes : List ℕ) (shown : Entry) (layout : Layout) → IsShown bytes shown
    → (texts : List (List ℕ)) (at : ℕ) → slice_get texts at ≡ Some (listing shown.names shown.contents layout) → compiled texts at ≡ Some bytes
listing-compiles known compiles bytes shown layout is texts at stands =
    compiles shown.names is.can.names shown.contents layout is.can.listable is.can.holds is.within texts at stands ∙ ap (λ b. Some b) is.image_is

pub relisting : AreKnown → PartsAreBlocks → ListingsCompile → Relisting
relisting known stands compiles bytes shown layout is_entry =
    let is = is-shown known bytes shown is_entry in
    let text = listing shown.names shown.contents layout in
    let one = listing-stands known.ordered stands shown layout is.can in (
      record { cut = one.cut; single = All-cons OneBlock text [] one (All-nil OneBlock) },
      listing-compiles known compiles bytes shown layout is
          (text ∷ []) 0 refl,
    )

-- ---- several listings

abbrev IsEntryShown : ShownEntry → Type 0
IsEntryShown entry = IsEntry entry.0 entry.1

all-stand : AreKnown → PartsAreBlocks → (layout : Layout) (entries : List ShownEntry) → All IsEntryShown entries → All OneBlock (listings entries layout)
all-stand known stands layout [] are = All-nil OneBlock
all-stand known stands layout (entry ∷ entries) are =
    let is = is-shown known entry.0 entry.1 (All-head IsEntryShown entry entries are) in
    All-cons OneBlock (listing entry.1.names entry.1.contents layout) (listings entries layout) (listing-stands known.ordered stands entry.1 layout is.can)
    (all-stand known stands layout entries (All-tail IsEntryShown entry entries are))

pub relistings : AreKnown → PartsAreBlocks → ListingsCompile → Relistings
relistings known stands compiles entries layout are =
    let single = all-stand known stands layout entries are in (
      record { cut = single-cut (listings entries layout) single; single = single },
      λ i entry at.
          let is = is-shown known entry.0 entry.1 (All-at IsEntryShown entries i entry are at) in
          listing-compiles known compiles entry.0 entry.1 layout is (listings entries layout) i
          (slice_get-map (λ (e : ShownEntry). listing e.1.names e.1.contents layout) entries i
          ∙ ap (option_map (λ (e : ShownEntry). listing e.1.names e.1.contents layout)) at),
    )

-- ---- relative source

used-can : AreKnown → (shown : Entry) → IsUsedEntry shown → CanBeUsed shown
used-can known shown used =
    let can = (is-shown known used.bytes shown used.entry).can in
    record { shown = can; first = record { lookup = first-lookup shown.names can.names can.listable.header; bare = used.bare } }

abbrev listing_of : Listed → List ℕ
listing_of one = listing one.0.names one.0.contents one.1

listings-stand : EachKindIsInOrder → PartsAreBlocks → (listed : List Listed) → All CanBeUsed (entries_of listed) → All OneBlock (map listing_of listed)
listings-stand ordered stands [] used = All-nil OneBlock
listings-stand ordered stands (one ∷ listed) used =
    All-cons OneBlock (listing_of one) (map listing_of listed)
    (listing-stands ordered stands one.0 one.1 (All-head CanBeUsed one.0 (entries_of listed) used).shown)
    (listings-stand ordered stands listed (All-tail CanBeUsed one.0 (entries_of listed) used))

relative-stands : EachKindIsInOrder → PartsAreBlocks → (entry : Entry) (layout : Layout) (listed : List Listed) → CanBeShown entry
    → All CanBeUsed (entries_of listed)
    → All OneBlock (with_others entry layout listed)
relative-stands ordered stands shown layout listed can used =
    let others = entries_of listed in
    let table = differing_contents shown.contents others in
    All-cons OneBlock (relative shown others layout) (map listing_of listed)
    (stands shown.names can.names (items_for table (all_in layout.order) ++ uses_of others) (relative shown others layout) can.listable
    (all-can ordered table layout (uses_of others) (differing-can shown.contents others can.holds) (uses-can others used))
    (relative-all shown others layout))
    (listings-stand ordered stands listed used)

pub relative_source : AreKnown → PartsAreBlocks → RelativesCompile → RelativeSource
relative_source known stands compiles bytes shown layout listed is_entry used owns =
    let is = is-shown known bytes shown is_entry in
    let can = All-weaker IsUsedEntry CanBeUsed (used-can known) (entries_of listed) used in
    let single = relative-stands known.ordered stands shown layout listed is.can can in (
      record { cut = single-cut (with_others shown layout listed) single; single = single },
      compiles shown layout listed is.can can owns is.within ∙ ap (λ b. Some b) is.image_is,
    )
