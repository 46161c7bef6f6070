-- What a relative source with user-defined capabilities says of the capabilities of the tables in a
-- source.
use Rattle.std.proofs.Common.{◌≡◌, ℕ, suc, List, [], ◌∷◌, ◌++◌, length, option_map, Option, Some, option_and_then, slice_get, refl, ap, ◌∙◌}
use Rattle.std.proofs.Common.{subst, arith}
use Rattle.std.specs.List.{All, AllByRecursion}
use Rattle.std.specs.Option.{option_or}
use Rattle.std.proofs.lemmas.List.Elements.{recursion_from_All}
use Rattle.std.proofs.lemmas.Option.{option_and_then_some, slice_get-map}
use Rattle.ti_caps.specs.NameOrder.{EachKindIsInOrder}
use Rattle.ti_caps.specs.Tables.{Capability, IsCapability}
use Rattle.ti_source.specs.declared.parsing.Rule.{Rule}
use Rattle.ti_source.specs.Parsing.{reading_of_text}
use Rattle.ti_layout.specs.Values.{contents, Mention}
use Rattle.ti_layout.specs.Laws.{without_cancel}
use Rattle.base_meaning.specs.Owner.{owner, owner_block, readings}
use Rattle.base_meaning.specs.Readings.{reading_by, readings_by}
use Rattle.base_meaning.specs.Expansion.{expand}
use Rattle.ti_base.proofs.AnyRule.{owner_by}
use Rattle.ti_list.specs.declared.layout.Layout.{Layout}
use Rattle.ti_list.specs.RelativeSource.{differing_contents, first_name, first_of}
use Rattle.tools_relisting.specs.Layouts.{uses_of}
use Rattle.tools_relisting.proofs.Orders.{all_in}
use Rattle.tools_relisting.proofs.Listing.{entry_items-all, mentions_for, expand_says}
use Rattle.tools_relisting.proofs.Compiling.{used_at}
use Rattle.tools_relisting.proofs.Relating.{owned-at}
use Rattle.user_listing.specs.Entries.{Extended, entries_in}
use Rattle.user_listing.specs.Listing.{extended_listing}
use Rattle.user_listing.specs.RelativeSource.{extended_relative}
use Rattle.user_values.specs.Expansion.{owner_text}
use Rattle.base_meaning.proofs.MentionMerging.{said-append as contents-append}
use Rattle.user_relisting.specs.Items.{IsProfileReadAs, ItemsAreReadByTheProfile}
use Rattle.user_relisting.specs.ReadingBack.{CanBeListed, IsListedIn, Listed, RelativesSayTheTablesInASource, entries_of}
use Rattle.user_relisting.proofs.Compiling.{all-tell, any-expands-at, expands, listing-tells}
use Rattle.user_relisting.proofs.Ordering.{kept-plain}
use Rattle.user_relisting.proofs.Related.{relative-plain}
use Rattle.user_relisting.proofs.Restoring.{restores}
use Rattle.user_relisting.proofs.TableRules.{mentions_by, nothing-said}
use Rattle.user_relisting.proofs.Telling.{can-use, has-listing}

-- the mentions of the listing of an entry
abbrev listed_mentions : Rule → Listed → List Mention
listed_mentions rule one = mentions_by rule (mentions_for one.0.entry.contents (all_in one.1.order)) []

-- the mentions of the others, in turn
abbrev used_mentions : Rule → List Listed → List Mention
used_mentions rule [] = []
used_mentions rule (one ∷ listed) = listed_mentions rule one ++ used_mentions rule listed

-- the first name of an entry gives its mentions
abbrev GivesItsOwn : Rule → (List ℕ → Option (List Mention)) → Listed → Type 0
GivesItsOwn rule of_name one = of_name (first_name one.0.entry.names) ≡ Some (listed_mentions rule one)

uses-expand : (rule : Rule) (of_name : List ℕ → Option (List Mention)) (listed : List Listed) → AllByRecursion (GivesItsOwn rule of_name) listed
    → expand_says of_name (uses_of (entries_in (entries_of listed))) ≡ Some (used_mentions rule listed)
uses-expand rule of_name [] all = refl
uses-expand rule of_name (one ∷ listed) all =
    let first = all.0 in
    let later = uses-expand rule of_name listed all.1 in
    rw (first, later) refl

used-contents : EachKindIsInOrder → (rule : Rule) (listed : List Listed) (c : Capability) → IsCapability c
    → contents (used_mentions rule listed) c ≡ first_of (entries_in (entries_of listed)) c
used-contents ordered rule [] c is = nothing-said c
used-contents ordered rule (one ∷ listed) c is =
    contents-append (listed_mentions rule one) (used_mentions rule listed) c
    ∙ ap (λ o. option_or o (contents (used_mentions rule listed) c)) (listing-tells ordered rule one.0 one.1 c is)
    ∙ ap (option_or (one.0.entry.contents c)) (used-contents ordered rule listed c is)

-- the block that owns a name, by any rule
pub owned-block : (rule : Rule) (texts : List (List ℕ)) (name text : List ℕ) → owner_text texts name ≡ Some text
    → owner_block (readings_by rule texts) name ≡ Some (reading_by rule text)
owned-block rule texts name text e =
    option_and_then_some (slice_get texts) (owner (readings texts) name) text e
    (λ at o stands. owned-at (readings_by rule texts) name at (owner_by rule texts name ∙ o)
    ∙ slice_get-map (reading_by rule) texts at ∙ ap (option_map (reading_by rule)) stands)

module _ (ordered : EachKindIsInOrder) (plain : ItemsAreReadByTheProfile) where
  each-gives : (rule : Rule) (texts : List (List ℕ)) (depth : ℕ) (listed : List Listed) → AllByRecursion (IsListedIn texts) listed
      → AllByRecursion (GivesItsOwn rule (used_at (owner_block (readings_by rule texts)) (suc depth))) listed
  each-gives rule texts depth [] all = tt
  each-gives rule texts depth (one ∷ listed) all =
      let env = owner_block (readings_by rule texts) in (
        ap (option_and_then (expand env (suc depth))) (owned-block rule texts (first_name one.0.entry.names) (extended_listing one.0 one.1) all.0.owned)
            ∙ any-expands-at ordered plain rule one.0 one.1 (has-listing one.0 all.0.listed) env depth,
        each-gives rule texts depth listed all.1,
      )

  relative-expands : (rule : Rule) (entry : Extended) (layout : Layout) (listed : List Listed) (texts : List (List ℕ)) (depth : ℕ) → CanBeListed entry
      → All (IsListedIn texts) listed
      → expand (owner_block (readings_by rule texts)) (suc (suc depth)) (reading_by rule (extended_relative entry (entries_of listed) layout))
      ≡ Some (mentions_by rule (mentions_for (differing_contents entry.entry.contents (entries_in (entries_of listed))) (all_in layout.order))
      (used_mentions rule listed))
  relative-expands rule entry layout listed texts depth can used =
      let others = entries_of listed in
      let env = owner_block (readings_by rule texts) in
      let each = recursion_from_All (IsListedIn texts) listed used in
      let text = extended_relative entry others layout in
      let table = differing_contents entry.entry.contents (entries_in others) in
      let reads = relative-plain ordered plain entry others can.names layout can.listable can.holds (has-listing entry can).writable
      (can-use texts listed each) in
      expands rule text entry.entry.names can.names table (all_in layout.order) (entries_in others)
      (subst (λ items. IsProfileReadAs entry.entry.names can.names (items ++ uses_of (entries_in others)) (reading_of_text text))
      (entry_items-all layout table) reads)
      env (suc depth) (used_mentions rule listed)
      (uses-expand rule (used_at env (suc depth)) listed (each-gives rule texts depth listed each))

  pub tables_say_there : RelativesSayTheTablesInASource
  tables_say_there rule entry layout listed [] can some used = absurd (omega (arith, some))
  tables_say_there rule entry layout listed (text ∷ texts) can some used =
      let others = entries_in (entries_of listed) in
      let table = differing_contents entry.entry.contents others in
      let uses = used_mentions rule listed in (
        mentions_by rule (mentions_for table (all_in layout.order)) uses,
        relative-expands rule entry layout listed (text ∷ texts) (length (readings_by rule texts)) can used,
        λ c cap. ap without_cancel (all-tell ordered rule table layout uses c cap)
            ∙ kept-plain rule (table c) (contents uses c)
            ∙ ap (λ o. without_cancel (option_or (table c) o)) (used-contents ordered rule listed c cap)
            ∙ restores (entry.entry.contents c) (first_of others c),
      )
