-- A block has the values of the listed entry that it uses.
use Rattle.std.proofs.Common.{◌≡◌, ◌≢◌, ℕ, suc, true, false, List, [], ◌∷◌, ◌++◌, length, Option, Some, None, option_and_then}
use Rattle.std.proofs.Common.{refl, ap, ◌∙◌}
use Rattle.std.specs.List.{AllByRecursion}
use Rattle.std.specs.Option.{option_or}
use Rattle.std.proofs.lemmas.List.{append-nil}
use Rattle.std.proofs.lemmas.List.Elements.{recursion_from_All}
use Rattle.ti_caps.specs.NameOrder.{EachKindIsInOrder}
use Rattle.ti_caps.specs.Tables.{Capability, IsCapability, same_capability}
use Rattle.ti_source.specs.declared.parsing.Rule.{Rule}
use Rattle.ti_source.specs.declared.parsing.Rule.TheVariants.{Leftmost, OwnFirst}
use Rattle.ti_source.specs.Parsing.{reading_of_text}
use Rattle.ti_source.specs.Reading.{Said, said_flag, said_number, said_text, said_cancel, said_import}
use Rattle.ti_layout.specs.Laws.{without_cancel}
use Rattle.ti_layout.specs.Values.{Content, Mention, contents, content_true, content_number, content_text, content_cancelled}
use Rattle.base_meaning.specs.Expansion as profile
use Rattle.base_meaning.specs.Owner.{owner_block}
use Rattle.base_meaning.specs.Readings.{reading_by, readings_by}
use Rattle.base_meaning.proofs.MentionMerging.{said-append as contents-append, uncancelled-says as uncancelled-says-there}
use Rattle.ti_list.specs.declared.layout.Layout.{Layout}
use Rattle.tools_relisting.proofs.Compiling.{used_at}
use Rattle.tools_relisting.proofs.Listing.{mentions_for, expand_says}
use Rattle.tools_relisting.proofs.Orders.{all_in}
use Rattle.user_items.specs.Verdicts.{UserSaid, says, imports}
use Rattle.user_extension.specs.Reading.{ReadRow, said}
use Rattle.user_listing.specs.Entries.{Extended}
use Rattle.user_listing.specs.Listing.{extended_listing}
use Rattle.user_values.specs.Expansion.{UserMention, first_said as mentioned, expand_by, expansion_by, owner_text, uncancelled}
use Rattle.user_values.proofs.Depth.{first_said-append}
use Rattle.user_values.proofs.Ruling.{uncancelled-says}
use Rattle.user_relisting.specs.Items.{ItemsAreRead, ItemsAreReadByTheProfile}
use Rattle.user_relisting.specs.ReadingBack.{HasListing}
use Rattle.user_relisting.specs.Using.{IsAlone, UsersHaveTheEntry, UsersHaveTheTables, may_give, may_give_table, table_said_in, user_said_in}
use Rattle.user_relisting.proofs.Compiling.{any-expands-at, listing-tells}
use Rattle.user_relisting.proofs.Ordering.{kept, kept-plain, last_first, or-nothing}
use Rattle.user_relisting.proofs.RelatedTables.{owned-block}
use Rattle.user_relisting.proofs.Restoring.{said-same}
use Rattle.user_relisting.proofs.TableRules as table
use Rattle.user_relisting.proofs.Telling.{any-expands, any-tells, listed_mentions}
use Rattle.user_relisting.proofs.UserRules as user

alone-says : (a b c : Option Content) → a ≡ None → c ≡ None → option_or a (option_or b c) ≡ b
alone-says a b c e f = rw (e, f) (or-nothing b)

-- ---- user-defined names

abbrev IsSilent : List ℕ → UserSaid → Type 0
IsSilent name s = may_give name s ≡ false

-- items that give a name nothing are no uses
silent-own : (name : List ℕ) (ss : List UserSaid) → AllByRecursion (IsSilent name) ss → AllByRecursion user.IsOwn ss
silent-own name [] all = tt
silent-own name (says other content ∷ ss) all = (refl, silent-own name ss all.1)
silent-own name (imports other ∷ ss) all = let never : true ≡ false = all.0 in absurd cc

-- and say nothing of it
silent-pairs : (name : List ℕ) (ss : List UserSaid) → AllByRecursion (IsSilent name) ss → mentioned (user.pairs_of ss) name ≡ None
silent-pairs name [] all = refl
silent-pairs name (says other content ∷ ss) all = rw all.0 (silent-pairs name ss all.1)
silent-pairs name (imports other ∷ ss) all = let never : true ≡ false = all.0 in absurd cc

-- a block whose only use has these mentions, and whose other items give the name nothing, says what
-- they say
record SaysUsed (rule : Rule) (of_name : user.Names) (name : List ℕ) (ss : List UserSaid) (es : List UserMention) : Type 0 where
  pub mentions : List UserMention
  pub expand : user.block_says rule of_name ss ≡ Some mentions
  pub says : mentioned mentions name ≡ kept rule (mentioned es name)

says-used : (rule : Rule) (of_name : user.Names) (name used : List ℕ) (before after : List UserSaid) (es : List UserMention)
    → AllByRecursion (IsSilent name) before → AllByRecursion (IsSilent name) after → of_name used ≡ Some es
    → SaysUsed rule of_name name (before ++ imports used ∷ after) es
says-used Leftmost of_name name used before after es b a is =
    let own = silent-own name in
    let front = user.pairs_of before in
    let back = user.pairs_of after in
    record {
      mentions = front ++ (es ++ back);
      expand = user.said-append of_name before (imports used ∷ after)
          ∙ rw (user.own-expand of_name before (own before b), is, user.own-expand of_name after (own after a)) refl;
      says = first_said-append front (es ++ back) name ∙ ap (option_or (mentioned front name)) (first_said-append es back name)
          ∙ alone-says (mentioned front name) (mentioned es name) (mentioned back name) (silent-pairs name before b) (silent-pairs name after a);
    }
says-used OwnFirst of_name name used before after es b a is =
    let own = silent-own name in
    let ss = before ++ imports used ∷ after in
    let front = user.pairs_of before in
    let back = user.pairs_of after in
    let itself = last_first (user.pairs_of ss) in
    let uses : user.use_said ss ≡ imports used ∷ [] =
    user.own-skipped before (imports used ∷ after) (own before b)
    ∙ ap (λ (us : List UserSaid). imports used ∷ us) (user.own-alone after (own after a)) in
    let by_use : user.expand_said of_name (imports used ∷ []) ≡ Some es = rw is (ap (λ ms. Some ms) (append-nil es)) in
    let nothing : mentioned (user.pairs_of ss) name ≡ None =
    ap (λ ms. mentioned ms name) (user.pairs-append before (imports used ∷ after)) ∙ first_said-append front back name
    ∙ rw (silent-pairs name before b) (silent-pairs name after a) in
    record {
      mentions = itself ++ uncancelled es;
      expand = rw (user.own-last of_name ss, uses, by_use) refl;
      says = first_said-append itself (uncancelled es) name ∙ rw (user.last-silent (user.pairs_of ss) name nothing) (uncancelled-says es name);
    }

-- what an entry has is no cancel
no-cancel : (entry : Extended) (name : List ℕ) → HasListing entry → without_cancel (said entry.rows name) ≡ said entry.rows name
no-cancel entry name can =
    said-same entry.rows name (recursion_from_All (λ (row : ReadRow). row.1 ≢ Some content_cancelled) entry.rows can.plain)

module _ (ordered : EachKindIsInOrder) (read : ItemsAreRead) (plain : ItemsAreReadByTheProfile) where
  user-expands : (rule : Rule) (texts : List (List ℕ)) (depth : ℕ) (text used : List ℕ) (entry : Extended) (layout : Layout) (name : List ℕ)
      → HasListing entry
      → profile.is_broken (reading_of_text text) ≡ false → owner_text texts used ≡ Some (extended_listing entry layout)
      → IsAlone (may_give name) (imports used) (user_said_in text)
      → (ms : List UserMention) × (expand_by rule texts (suc (suc depth)) text ≡ Some ms) × (without_cancel (mentioned ms name) ≡ said entry.rows name)
  user-expands rule texts depth text used entry layout name can sound owned only =
      let of_name = user.names_in rule texts (suc depth) in
      let es = listed_mentions rule entry in
      let here : of_name used ≡ Some es =
      ap (option_and_then (expand_by rule texts (suc depth))) owned ∙ any-expands ordered read plain rule entry layout texts depth can in
      let is = says-used rule of_name name used only.before only.after es (recursion_from_All (IsSilent name) only.before only.none_before)
      (recursion_from_All (IsSilent name) only.after only.none_after) here in (
        is.mentions,
        user.block-expands rule texts (suc depth) text (user_said_in text) sound refl ∙ ap (user.block_says rule of_name) only.whole ∙ is.expand,
        ap without_cancel is.says ∙ kept-plain rule None (mentioned es name) ∙ ap without_cancel (any-tells ordered read plain rule entry name can)
            ∙ no-cancel entry name can,
      )

  pub users_have : UsersHaveTheEntry
  users_have rule [] at used entry name uses only = let none : None ≡ Some uses.text = uses.stands in absurd cc
  users_have rule (first ∷ others) at used entry name uses only =
      let texts = first ∷ others in
      let is = user-expands rule texts (length others) uses.text used entry uses.layout name uses.listed uses.sound uses.owned only in
      ap (λ o. option_and_then (λ ms. without_cancel (mentioned ms name)) (option_and_then (expansion_by rule texts) o)) uses.stands
      ∙ ap (option_and_then (λ ms. without_cancel (mentioned ms name))) is.1 ∙ is.2

-- ---- capabilities of the tables

abbrev IsSilentThere : Capability → Said → Type 0
IsSilentThere c s = may_give_table c s ≡ false

own-there : (c : Capability) (ss : List Said) → AllByRecursion (IsSilentThere c) ss → AllByRecursion table.IsOwn ss
own-there c [] all = tt
own-there c (said_import name ∷ ss) all = let never : true ≡ false = all.0 in absurd cc
own-there c (s ∷ ss) all = (refl, own-there c ss all.1)

-- one mention more of another capability
another : (c : Capability) (m : Mention) (ms : List Mention) → same_capability m.0 c ≡ false → contents ms c ≡ None → contents (m ∷ ms) c ≡ None
unfolding contents
another c m ms other e = rw other e

pairs-there : (c : Capability) (ss : List Said) → AllByRecursion (IsSilentThere c) ss → contents (table.pairs_of ss) c ≡ None
pairs-there c [] all = table.nothing-said c
pairs-there c (said_flag d ∷ ss) all = another c (d, content_true) (table.pairs_of ss) all.0 (pairs-there c ss all.1)
pairs-there c (said_number d n ∷ ss) all = another c (d, content_number n) (table.pairs_of ss) all.0 (pairs-there c ss all.1)
pairs-there c (said_text d t ∷ ss) all = another c (d, content_text t) (table.pairs_of ss) all.0 (pairs-there c ss all.1)
pairs-there c (said_cancel d ∷ ss) all = another c (d, content_cancelled) (table.pairs_of ss) all.0 (pairs-there c ss all.1)
pairs-there c (said_import name ∷ ss) all = let never : true ≡ false = all.0 in absurd cc

record SaysUsedThere (rule : Rule) (of_name : table.Names) (c : Capability) (ss : List Said) (es : List Mention) : Type 0 where
  pub mentions : List Mention
  pub expand : table.block_says rule of_name ss ≡ Some mentions
  pub says : contents mentions c ≡ kept rule (contents es c)

used-there : (rule : Rule) (of_name : table.Names) (c : Capability) (used : List ℕ) (before after : List Said) (es : List Mention)
    → AllByRecursion (IsSilentThere c) before → AllByRecursion (IsSilentThere c) after → of_name used ≡ Some es
    → SaysUsedThere rule of_name c (before ++ said_import used ∷ after) es
used-there Leftmost of_name c used before after es b a is =
    let own = own-there c in
    let front = table.pairs_of before in
    let back = table.pairs_of after in
    record {
      mentions = front ++ (es ++ back);
      expand = table.says-append of_name before (said_import used ∷ after)
          ∙ rw (table.own-expand of_name before (own before b), is, table.own-expand of_name after (own after a)) refl;
      says = contents-append front (es ++ back) c ∙ ap (option_or (contents front c)) (contents-append es back c)
          ∙ alone-says (contents front c) (contents es c) (contents back c) (pairs-there c before b) (pairs-there c after a);
    }
used-there OwnFirst of_name c used before after es b a is =
    let own = own-there c in
    let ss = before ++ said_import used ∷ after in
    let front = table.pairs_of before in
    let back = table.pairs_of after in
    let itself = last_first (table.pairs_of ss) in
    let uses : table.use_said ss ≡ said_import used ∷ [] =
    table.own-skipped before (said_import used ∷ after) (own before b)
    ∙ ap (λ (us : List Said). said_import used ∷ us) (table.own-alone after (own after a)) in
    let by_use : expand_says of_name (said_import used ∷ []) ≡ Some es = rw is (ap (λ ms. Some ms) (append-nil es)) in
    let nothing : contents (table.pairs_of ss) c ≡ None =
    ap (λ ms. contents ms c) (table.pairs-append before (said_import used ∷ after)) ∙ contents-append front back c
    ∙ rw (pairs-there c before b) (pairs-there c after a) in
    record {
      mentions = itself ++ profile.uncancelled es;
      expand = rw (table.own-last of_name ss, uses, by_use) refl;
      says = contents-append itself (profile.uncancelled es) c ∙ rw (table.last-silent (table.pairs_of ss) c nothing) (uncancelled-says-there es c);
    }

module _ (ordered : EachKindIsInOrder) (plain : ItemsAreReadByTheProfile) where
  table-expands : (rule : Rule) (texts : List (List ℕ)) (depth : ℕ) (text used : List ℕ) (entry : Extended) (layout : Layout) (c : Capability)
      → HasListing entry
      → profile.is_broken (reading_of_text text) ≡ false → owner_text texts used ≡ Some (extended_listing entry layout) → IsCapability c
      → IsAlone (may_give_table c) (said_import used) (table_said_in text)
      → (ms : List Mention) × (profile.expand (owner_block (readings_by rule texts)) (suc (suc depth)) (reading_by rule text) ≡ Some ms)
      × (without_cancel (contents ms c) ≡ without_cancel (entry.entry.contents c))
  table-expands rule texts depth text used entry layout c can sound owned cap only =
      let env = owner_block (readings_by rule texts) in
      let of_name = used_at env (suc depth) in
      let es = table.mentions_by rule (mentions_for entry.entry.contents (all_in layout.order)) [] in
      let here : of_name used ≡ Some es =
      ap (option_and_then (profile.expand env (suc depth))) (owned-block rule texts used (extended_listing entry layout) owned)
      ∙ any-expands-at ordered plain rule entry layout can env depth in
      let is = used-there rule of_name c used only.before only.after es (recursion_from_All (IsSilentThere c) only.before only.none_before)
      (recursion_from_All (IsSilentThere c) only.after only.none_after) here in (
        is.mentions,
        table.block-expands rule env (suc depth) text (table_said_in text) sound refl ∙ ap (table.block_says rule of_name) only.whole ∙ is.expand,
        ap without_cancel is.says ∙ kept-plain rule None (contents es c) ∙ ap without_cancel (listing-tells ordered rule entry layout c cap),
      )

  pub users_have_tables : UsersHaveTheTables
  users_have_tables rule [] at used entry c uses cap only = let none : None ≡ Some uses.text = uses.stands in absurd cc
  users_have_tables rule (first ∷ others) at used entry c uses cap only =
      table-expands rule (first ∷ others) (length (readings_by rule others)) uses.text used entry uses.layout c uses.listed uses.sound uses.owned cap only
