-- The blocks that stand for installed entries, and those that use them.
use Rattle.std.proofs.Common.{◌≡◌, inl, inr, ℕ, zero, suc, ◌≤◌, true, List, [], ◌∷◌, ◌++◌, length, Option, Some, None, Ok, Err, refl, sym, ap, ◌∙◌}
use Rattle.std.proofs.Common.{slice_get, option_and_then, false, cond, nat_lt, ◌==◌, subst, arith}
use Rattle.std.specs.Prelude.{◌≢◌, ◌&&◌, not, nat_le, bytes_eq, slice_index, All, Contains}
use Rattle.std.specs.List.{list_all}
use Rattle.std.specs.Cmp.Lexicographic.{bytes_decides}
use Rattle.std.proofs.lemmas.Bool.{and_from, and_parts, cases_Bool, eqb-true, leb-true, not-true, not_from_false, or_parts, true≢false}
use Rattle.std.proofs.lemmas.List.Elements.{All-cons, All-contains, All-head, All-nil, All-tail}
use Rattle.std.proofs.lemmas.Option.{same_Some}
use Rattle.ti_text.specs.Limits.{names_max}
use Rattle.ti_caps.specs.Tables.{Capability, IsCapability}
use Rattle.ti_caps.specs.declared.capability.Kind.{Kind}
use Rattle.ti_caps.specs.declared.capability.Kind.TheVariants.{Flag, Number, Text}
use Rattle.ti_layout.specs.Laws.{without_cancel}
use Rattle.ti_layout.specs.declared.layout.Format.{Format}
use Rattle.ti_layout.specs.declared.layout.Format.TheVariants.{Legacy}
use Rattle.ti_layout.specs.Layout.{first_negative}
use Rattle.ti_layout.specs.Reading.{Reads, says, stored_flag, stored_number, stored_text, text_from}
use Rattle.ti_layout.specs.Values.{Content, Contents, Mention, content_number, content_text, content_true, contents}
use Rattle.ti_layout.specs.View.{entry_seen}
use Rattle.ti_source.specs.Header.{HeaderNames, IsLookupName, IsNameByte}
use Rattle.ti_list.specs.Items.{IsListable}
use Rattle.base_meaning.specs.Expansion as profile
use Rattle.base_meaning.specs.Owner.{is_among}
use Rattle.base_meaning.specs.Readings.{reading_by, readings_by}
use Rattle.tools_devices.specs.Tree.{FileAt, Files}
use Rattle.user_extension.specs.Reading.{said}
use Rattle.user_extension.specs.View.{read_rows}
use Rattle.user_listing.specs.Entries.{Extended}
use Rattle.user_values.specs.Tables.{IsUserTableBy}
use Rattle.user_relisting.specs.ReadingBack.{HasListing, ListingsSayTheEntry, ListingsSayTheTables, ReadEntriesHaveListings}
use Rattle.user_relisting.specs.Using as using
use Rattle.everyday_sources.specs.Installed.{HasName, begins_comment, block_names, can_begin_block, has_byte, layout}
use Rattle.everyday_sources.specs.Used.{LooksUp, ProblemSeen, PutsIn, TakesFound, TakesName, TakesNames, missing_names}
use Rattle.everyday_sources.specs.Values.{FurtherBlocksStandForEntries, IsInstalled, StandingBlocksSayTheEntry, StandingBlocksSayTheTables, StandsFor, StandsWell}
use Rattle.everyday_sources.specs.Values.{UsersHaveTheEntry, UsersHaveTheTables, UsesEntry, in_block}

-- ---- the blocks after a source

module _ (files : Option Files) (directories : List (List ℕ)) where
  -- the block is the listing of an installed entry
  abbrev IsEntry : List ℕ → Type 0
  IsEntry text = (entry : Extended) × IsInstalled files directories text entry

  -- each block of the list from a position on is
  abbrev AreEntriesFrom : ℕ → List (List ℕ) → Type 0
  AreEntriesFrom from texts = (at : ℕ) (text : List ℕ) → from ≤ at → slice_get texts at ≡ Some text → IsEntry text

  -- one more at the end
  one-more : (from : ℕ) (texts : List (List ℕ)) (new : List ℕ) → AreEntriesFrom from texts → IsEntry new → AreEntriesFrom from (texts ++ new ∷ [])
  one-more from [] new are is zero text low e = subst IsEntry (same_Some new text e) is
  one-more from [] new are is (suc at) text low e = let none : None ≡ Some text = e in absurd cc
  one-more zero (first ∷ texts) new are is zero text low e = are zero text low e
  one-more (suc from) (first ∷ texts) new are is zero text low e = absurd (omega (arith, low))
  one-more zero (first ∷ texts) new are is (suc at) text low e =
      one-more zero texts new (λ k t l here. are (suc k) t (omega arith) here) is at text (omega arith) e
  one-more (suc from) (first ∷ texts) new are is (suc at) text low e =
      one-more from texts new (λ k t l here. are (suc k) t (omega (arith, l)) here) is at text (omega (arith, low)) e

  put-in : (from : ℕ) (texts next : List (List ℕ)) (path text : List ℕ) (problems : List ProblemSeen) → AreEntriesFrom from texts
      → IsEntry text → PutsIn texts path text next problems → AreEntriesFrom from next
  put-in from texts next path text problems are is (inl put) = subst (AreEntriesFrom from) (sym put.1) (one-more from texts text are is)
  put-in from texts next path text problems are is (inr other) = subst (AreEntriesFrom from) (sym other.1) are

  take-found : (from : ℕ) (texts next : List (List ℕ)) (name : List ℕ) (before after : ℕ) (found : Option FileAt) (problems : List ProblemSeen)
      → AreEntriesFrom from texts → LooksUp files directories name before after found → TakesFound true texts name found next problems
      → AreEntriesFrom from next
  take-found from texts next name before after None problems are looks taken = subst (AreEntriesFrom from) (sym taken.0) are
  take-found from texts next name before after (Some file) problems are looks (Ok text, gives, put) =
      let entry : Extended = record { entry = entry_seen gives.0; rows = read_rows gives.1 } in
      let stands : StandsFor text entry = record {
        bytes = file.1;
        view = gives.0;
        extension = gives.1;
        opens = gives.2;
        entry_is = refl;
        name = name;
        has = gives.3;
        text_is = gives.4;
      } in
      put-in from texts next file.0 text problems are
      (entry, record { is = stands; file = file; before = before; after = after; found = looks.1; of_file = refl }) put
  take-found from texts next name before after (Some file) problems are looks (Err why, gives, put) = subst (AreEntriesFrom from) (sym put.0) are

  take-name : (from : ℕ) (texts next : List (List ℕ)) (name : List ℕ) (before after : ℕ) (problems : List ProblemSeen)
      → AreEntriesFrom from texts → TakesName true files directories texts name before after next problems → AreEntriesFrom from next
  take-name from texts next name before after problems are (inl kept) = subst (AreEntriesFrom from) (sym kept.1) are
  take-name from texts next name before after problems are (inr taken) =
      take-found from texts next name before after taken.1 problems are taken.2 taken.3

  take-names : (from : ℕ) (texts : List (List ℕ)) (names : List (List ℕ)) (before after : ℕ) (last : List (List ℕ)) (problems : List ProblemSeen)
      → AreEntriesFrom from texts → TakesNames true files directories texts names before after last problems → AreEntriesFrom from last
  take-names from texts [] before after last problems are taken = subst (AreEntriesFrom from) (sym taken.0) are
  take-names from texts (name ∷ names) before after last problems are taken =
      let next = taken.0 in
      take-names from next names taken.1 after last taken.3 (take-name from texts next name before taken.1 taken.2 are taken.4) taken.5

  -- no block of the source is after it
  none-after : (texts : List (List ℕ)) → AreEntriesFrom (length texts) texts
  none-after [] at text low e = let none : None ≡ Some text = e in absurd cc
  none-after (first ∷ texts) zero text low e = absurd (omega (arith, low))
  none-after (first ∷ texts) (suc at) text low e = none-after texts at text (omega (arith, low)) e

pub further_blocks : FurtherBlocksStandForEntries
further_blocks rule files directories texts before after last problems at text taken low here =
    take-names files directories (length texts) texts (missing_names rule texts) before after last problems (none-after files directories texts) taken at text low here

-- ---- the names field of a block

none-all : (byte : ℕ) (text : List ℕ) → has_byte byte text ≡ false → list_all (λ b. not (b == byte)) text ≡ true
none-all byte [] none = refl
none-all byte (x ∷ xs) none =
    let parts = or_parts (x == byte) (has_byte byte xs) none in
    and_from (not (x == byte)) (list_all (λ b. not (b == byte)) xs) (not_from_false (x == byte) parts.0) (none-all byte xs parts.1)

first-plain : (text : List ℕ) → begins_comment text ≡ false → (first : ℕ) (others : List ℕ) → text ≡ first ∷ others → (first == 35) ≡ false
first-plain text none first others is = ap begins_comment (sym is) ∙ none

-- a name that can be looked up has no other bytes than those of names
name-lacks : (byte : ℕ) (name : List ℕ) → ¬ IsNameByte byte → All IsNameByte name → has_byte byte name ≡ false
name-lacks byte [] other all = refl
name-lacks byte (x ∷ xs) other all =
    elim (cases_Bool (x == byte)) [
      | inl t ↦ absurd (other (subst IsNameByte (eqb-true x byte t) (All-head IsNameByte x xs all)))
      | inr f ↦ rw f (name-lacks byte xs other (All-tail IsNameByte x xs all))
    ]

-- it is a names field by itself
name-alone : (name : List ℕ) → IsLookupName name → length name ≤ names_max → begins_comment name ≡ false → IsListable name (name ∷ [])
name-alone name lookup short plain = record {
  header = record {
    parts = name ∷ [];
    cut = record {
      whole = refl;
      some = λ e. cc;
      apart = All-cons (λ part. ¬ Contains part 124) name [] (λ has. (All-contains IsNameByte name 124 lookup.bytes has).4 refl)
          (All-nil (λ part. ¬ Contains part 124));
    };
    named = refl;
    filled = All-cons (λ part. part ≢ []) name [] lookup.some (All-nil (λ part. part ≢ []));
    no_nul = λ has. let low = (All-contains IsNameByte name 0 lookup.bytes has).0 in omega (arith, low);
    lookup = All-cons IsLookupName name [] lookup (All-nil IsLookupName);
  };
  short = short;
  no_comma = none-all 44 name (name-lacks 44 name (λ byte. byte.2 refl) lookup.bytes);
  inline = none-all 10 name (name-lacks 10 name (λ byte. let low = byte.0 in omega (arith, low)) lookup.bytes);
  plain = first-plain name plain;
}

-- a field that can begin a block can be listed
field-listable : (field : List ℕ) (names : List (List ℕ)) → HeaderNames field names → can_begin_block field ≡ true → IsListable field names
field-listable field names header can =
    let short = nat_le (length field) names_max in
    let comma = not (has_byte 44 field) in
    let line = not (has_byte 10 field) in
    let comment = and_parts (short && comma && line) (not (begins_comment field)) can in
    let inline = and_parts (short && comma) line comment.0 in
    let first = and_parts short comma inline.0 in
    record {
      header = header;
      short = leb-true (length field) names_max first.0;
      no_comma = none-all 44 field (not-true (has_byte 44 field) first.1);
      inline = none-all 10 field (not-true (has_byte 10 field) inline.1);
      plain = first-plain field (not-true (begins_comment field) comment.1);
    }

among-lookup : (name : List ℕ) (names : List (List ℕ)) → All IsLookupName names → is_among name names ≡ true → IsLookupName name
among-lookup name [] all among = absurd (true≢false (sym among))
among-lookup name (other ∷ names) all among =
    elim (cases_Bool (bytes_eq name other)) [
      | inl t ↦ subst IsLookupName (sym ((bytes_decides name other).0 t)) (All-head IsLookupName other names all)
      | inr f ↦ among-lookup name names (All-tail IsLookupName other names all) (rw f at among)
    ]

-- the names field of the block of an entry can be listed, if the name by which it was found is short
-- and begins no comment
can-begin : (field name : List ℕ) → HasName field name true → (can_begin_block field ≡ false → length name ≤ names_max)
    → (can_begin_block field ≡ false → begins_comment name ≡ false) → (names : List (List ℕ)) × IsListable (block_names field name) names
can-begin field name (None, reads, is) short plain = absurd (true≢false is)
can-begin field name (Some names, header, is) short plain =
    elim (cases_Bool (can_begin_block field)) [
      | inl t ↦ rw t (names, field-listable field names header t)
      | inr f ↦ rw f (name ∷ [], name-alone name (among-lookup name names header.lookup (sym is)) (short f) (plain f))
    ]

has-listing : ReadEntriesHaveListings → (text : List ℕ) (entry : Extended) (well : StandsWell text entry) → HasListing (in_block entry well.is.name)
has-listing known text entry well =
    let is = well.is in
    let read = is.opens.1 in
    let names = can-begin entry.entry.names is.name is.has well.short well.plain in
    known is.bytes entry.entry.names (in_block entry is.name) names.0 well.of_bytes
    (subst (λ (e : Extended). Reads is.bytes e.entry.names e.entry.contents) (sym is.entry_is) read.reads) read.ends
    (ap (λ (e : Extended). e.rows) is.entry_is ∙ read.rows) names.1

pub blocks_say : ReadEntriesHaveListings → ListingsSayTheEntry → StandingBlocksSayTheEntry
blocks_say known say rule texts text entry well =
    subst (λ t. IsUserTableBy rule texts t (said entry.rows)) (sym well.is.text_is)
    (say rule (in_block entry well.is.name) layout texts (has-listing known text entry well))

pub blocks_say_tables : ReadEntriesHaveListings → ListingsSayTheTables → StandingBlocksSayTheTables
blocks_say_tables known say rule texts text entry well =
    subst (λ t. (mentions : List Mention) × (profile.expansion (readings_by rule texts) (reading_by rule t) ≡ Some mentions)
    × ((c : Capability) → IsCapability c → contents mentions c ≡ entry.entry.contents c)) (sym well.is.text_is)
    (say rule (in_block entry well.is.name) layout texts (has-listing known text entry well))

-- ---- the blocks that use them

abbrev uses-listing : ReadEntriesHaveListings → (texts : List (List ℕ)) (at : ℕ) (used : List ℕ) (entry : Extended)
    → (uses : UsesEntry texts at used entry) → using.Uses texts at used (in_block entry uses.well.is.name)
uses-listing known texts at used entry uses = record {
  text = uses.text;
  layout = layout;
  stands = uses.stands;
  sound = uses.sound;
  listed = has-listing known uses.installed entry uses.well;
  owned = uses.owned ∙ ap (λ (t : List ℕ). Some t) uses.well.is.text_is;
}

pub users_have : ReadEntriesHaveListings → using.UsersHaveTheEntry → UsersHaveTheEntry
users_have known have rule texts at used entry name uses only =
    have rule texts at used (in_block entry uses.well.is.name) name (uses-listing known texts at used entry uses) only

-- no capability of an entry that is read is cancelled
flag-plain : (b : ℕ) → without_cancel (stored_flag b) ≡ stored_flag b
flag-plain b = elim (b == 1) as (λ t. without_cancel (cond t (Some content_true) None) ≡ cond t (Some content_true) None) [ true ↦ refl | false ↦ refl ]

number-plain : (w : Format) (n : ℕ) → without_cancel (stored_number w n) ≡ stored_number w n
number-plain w n =
    elim (nat_lt n (first_negative w)) as (λ t. without_cancel (cond t (Some (content_number n)) None) ≡ cond t (Some (content_number n)) None) [
      | true ↦ refl
      | false ↦ refl
    ]

text-plain : (strings : List ℕ) (n : ℕ) → without_cancel (stored_text strings n) ≡ stored_text strings n
text-plain strings n =
    elim (nat_lt n (first_negative Legacy)) as (λ t. without_cancel (cond t (Some (content_text (text_from strings n))) None)
    ≡ cond t (Some (content_text (text_from strings n))) None) [ true ↦ refl | false ↦ refl ]

then-plain : (f : ℕ → Option Content) (o : Option ℕ) → ((n : ℕ) → without_cancel (f n) ≡ f n)
    → without_cancel (option_and_then f o) ≡ option_and_then f o
then-plain f None h = refl
then-plain f (Some n) h = h n

says-plain : (w : Format) (flags numbers offsets strings : List ℕ) (kind : Kind) (i : ℕ)
    → without_cancel (says w flags numbers offsets strings kind i) ≡ says w flags numbers offsets strings kind i
says-plain w flags numbers offsets strings Flag i = flag-plain (slice_index flags i)
says-plain w flags numbers offsets strings Number i = then-plain (stored_number w) (slice_get numbers i) (number-plain w)
says-plain w flags numbers offsets strings Text i = then-plain (stored_text strings) (slice_get offsets i) (text-plain strings)

read-plain : (bytes names : List ℕ) (table : Contents) → Reads bytes names table → (c : Capability) → without_cancel (table c) ≡ table c
read-plain bytes names table r c =
    let s = r.sections in
    subst (λ (t : Contents). without_cancel (t c) ≡ t c) (sym r.held) (says-plain r.format s.flags s.numbers s.offsets s.strings c.kind c.index)

pub users_have_tables : ReadEntriesHaveListings → using.UsersHaveTheTables → UsersHaveTheTables
users_have_tables known have rule texts at used entry c uses valid only =
    let of_block = have rule texts at used (in_block entry uses.well.is.name) c (uses-listing known texts at used entry uses) valid only in
    let is = uses.well.is in
    let reads = subst (λ (e : Extended). Reads is.bytes e.entry.names e.entry.contents) (sym is.entry_is) is.opens.1.reads in
    (of_block.0, of_block.1, of_block.2 ∙ read-plain is.bytes entry.entry.names entry.entry.contents reads c)
