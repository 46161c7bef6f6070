-- A block that is read as the items of an entry compiles to the image of the entry.
use Rattle.std.proofs.Common.{option_map, slice_get, ◌≡◌, ℕ, suc, false, List, [], ◌∷◌, ◌++◌, map, length, cond, Option, Some, None, option_and_then, refl}
use Rattle.std.proofs.Common.{ap, sym, ◌∙◌, arith}
use Rattle.std.specs.List.{list_any}
use Rattle.std.specs.Option.{option_or}
use Rattle.std.proofs.lemmas.Bool.{le-ltb}
use Rattle.std.proofs.lemmas.List.{append-nil}
use Rattle.std.proofs.lemmas.List.Elements.{All-nil}
use Rattle.std.proofs.lemmas.Option.{slice_get-map}
use Rattle.ti_caps.specs.NameOrder.{EachKindIsInOrder}
use Rattle.ti_caps.specs.Tables.{Capability, IsCapability}
use Rattle.ti_source.specs.Code.{is_error}
use Rattle.ti_source.specs.declared.parsing.Rule.TheVariants.{Leftmost}
use Rattle.ti_source.specs.Reading.{Said, ReadItem, ReadFault, Reading}
use Rattle.ti_source.specs.Parsing.{reading_of_text}
use Rattle.ti_source.proofs.ReadingLaws.{rule_of_text}
use Rattle.ti_layout.specs.Values.{Content, content_true, content_number, content_text, content_cancelled, Contents, contents, Mention}
use Rattle.ti_layout.specs.Image.{image, image_limit, ImageFits}
use Rattle.ti_layout.specs.Laws.{without_cancel, ImagesAreOfValues, LimitsAreOfValues}
use Rattle.base_meaning.specs.Owner.{owner_block, readings}
use Rattle.base_meaning.specs.Expansion.{values, is_broken, expand, expansion}
use Rattle.base_meaning.specs.Compiled.{image_of, is_too_large, entry_of, entry}
use Rattle.ti_list.specs.declared.layout.Layout.{Layout}
use Rattle.ti_list.specs.Items.{no_more, CanBeListed, IsListable, IsReadAs}
use Rattle.ti_list.specs.Listing.{items_for, listing}
use Rattle.tools_relisting.specs.Relisting.{CanHaveAll, ListingsCompile}
use Rattle.tools_relisting.specs.ReadingBack.{PartsAreRead}
use Rattle.tools_relisting.proofs.Orders.{all_in, all_in-all}
use Rattle.tools_relisting.proofs.Listing.{listed-all, all-can, mentions_for, expand_says, expand_items-says, before, own-expands, all-say}

pub uncancelled-twice : (o : Option Content) → without_cancel (without_cancel o) ≡ without_cancel o
uncancelled-twice None = refl
uncancelled-twice (Some content_true) = refl
uncancelled-twice (Some (content_number n)) = refl
uncancelled-twice (Some (content_text t)) = refl
uncancelled-twice (Some content_cancelled) = refl

-- the mentions that a used name gives, at a depth
abbrev pub used_at : (List ℕ → Option Reading) → ℕ → List ℕ → Option (List Mention)
used_at env depth name = option_and_then (expand env depth) (env name)

-- a block without faults, that has these items, expands to their mentions
expand-says : (env : List ℕ → Option Reading) (depth : ℕ) (block : Reading) (items : List Said) → block.rule ≡ Leftmost → block.faults ≡ []
    → map (λ (item : ReadItem). item.said) block.items ≡ items
    → expand env (suc depth) block ≡ expand_says (used_at env depth) items
expand-says env depth block items rule none says =
    let sound : is_broken block ≡ false = ap (λ faults. list_any (λ (fault : ReadFault). is_error fault.code) faults) none in
    rw (sound, rule) (expand_items-says (used_at env depth) block.items ∙ ap (expand_says (used_at env depth)) says)

pub own-at : (env : List ℕ → Option Reading) (depth : ℕ) (block : Reading) (table : Contents) (cs : List Capability) (more : List Said)
    → block.rule ≡ Leftmost → block.faults ≡ []
    → map (λ (item : ReadItem). item.said) block.items ≡ items_for table cs ++ more
    → expand env (suc depth) block ≡ before (mentions_for table cs) (expand_says (used_at env depth) more)
own-at env depth block table cs more rule none says =
    expand-says env depth block (items_for table cs ++ more) rule none says ∙ own-expands (used_at env depth) table cs more

-- what the mentions of a block say has the values of the table, and the image is within the limit
pub entry-is : ImagesAreOfValues → LimitsAreOfValues → (blocks : List Reading) (block : Reading) (field : List ℕ) (table : Contents) (ms : List Mention)
    → expansion blocks block ≡ Some ms → block.field ≡ field
    → ((c : Capability) → IsCapability c → without_cancel (contents ms c) ≡ without_cancel (table c)) → ImageFits field table
    → entry blocks block ≡ Some (image field table)
entry-is images limits blocks block field table ms expands is_field tells within =
    let same : (c : Capability) → IsCapability c → without_cancel (values ms c) ≡ without_cancel (table c) =
    λ c is. uncancelled-twice (contents ms c) ∙ tells c is in
    let is_image : image_of block ms ≡ image field table = ap (λ f. image f (values ms)) is_field ∙ images field (values ms) table same in
    let sizes : length (image_of block ms) ≡ length (image field table) = ap length is_image in
    let limit : image_limit (values ms) ≡ image_limit table = limits (values ms) table same in
    let fits : is_too_large block ms ≡ false = le-ltb (image_limit (values ms)) (length (image_of block ms)) (omega (arith, sizes, limit, within)) in
    ap (option_and_then (entry_of block)) expands ∙ (ap (λ b. cond b None (Some (image_of block ms))) fits ∙ ap (λ bytes. Some bytes) is_image)

option_or-nothing : (o : Option Content) → option_or o None ≡ o
option_or-nothing None = refl
option_or-nothing (Some x) = refl

-- a listing, as it is read
pub listing-read : EachKindIsInOrder → PartsAreRead → (field : List ℕ) (names : List (List ℕ)) (table : Contents) (layout : Layout)
    → IsListable field names → CanHaveAll table
    → IsReadAs field names (items_for table (all_in layout.order) ++ []) (reading_of_text (listing field table layout))
listing-read ordered read field names table layout good has =
    read field names (items_for table (all_in layout.order) ++ []) (listing field table layout) good
    (all-can ordered table layout [] has (All-nil CanBeListed)) (listed-all field table layout [] (10 ∷ []) no_more)

-- a listing expands to what its entry has, whatever is next to it
pub listing-expands : EachKindIsInOrder → PartsAreRead
    → (env : List ℕ → Option Reading) (depth : ℕ) (field : List ℕ) (names : List (List ℕ)) (table : Contents) (layout : Layout)
    → IsListable field names
    → CanHaveAll table → expand env (suc depth) (reading_of_text (listing field table layout)) ≡ Some (mentions_for table (all_in layout.order))
listing-expands ordered read env depth field names table layout good has =
    let is = listing-read ordered read field names table layout good has in
    own-at env depth (reading_of_text (listing field table layout)) table (all_in layout.order) [] (rule_of_text (listing field table layout))
    is.none_wrong is.says
    ∙ ap (λ ms. Some ms) (append-nil (mentions_for table (all_in layout.order)))

pub all-contents : EachKindIsInOrder → (table : Contents) (layout : Layout) (ms : List Mention) (c : Capability) → IsCapability c
    → contents (mentions_for table (all_in layout.order) ++ ms) c ≡ option_or (table c) (contents ms c)
all-contents ordered table layout ms c is = all-say table (all_in layout.order) ms c ((all_in-all ordered layout.order).complete c is)

pub listings_compile : EachKindIsInOrder → PartsAreRead → ImagesAreOfValues → LimitsAreOfValues → ListingsCompile
unfolding contents
listings_compile ordered read images limits field names table layout good has within texts at stands =
    let text = listing field table layout in
    let blocks = readings texts in
    let is = listing-read ordered read field names table layout good has in
    let ms = mentions_for table (all_in layout.order) in
    let tells : (c : Capability) → IsCapability c → without_cancel (contents ms c) ≡ without_cancel (table c) =
    λ c cap. ap without_cancel (ap (λ l. contents l c) (sym (append-nil ms)) ∙ all-contents ordered table layout [] c cap ∙ option_or-nothing (table c)) in
    let read_there : slice_get blocks at ≡ Some (reading_of_text text) = slice_get-map reading_of_text texts at ∙ ap (option_map reading_of_text) stands in
    ap (option_and_then (entry blocks)) read_there
    ∙ entry-is images limits blocks (reading_of_text text) field table ms
    (listing-expands ordered read (owner_block blocks) (length blocks) field names table layout good has) is.same_field tells within
