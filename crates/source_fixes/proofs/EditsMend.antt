-- Each edit that is offered for an item of a block heals the item.
use Rattle.std.proofs.Common.{◌≡◌, ℕ, ◌<◌, ◌==◌, length, All, true, Contains, List, [], ◌∷◌, ◌++◌, Option, None, Some, get_or, is_none, slice_get, inl, inr, refl, sym, ap}
use Rattle.std.proofs.Common.{subst, ◌∙◌, suc}
use Rattle.std.specs.List.{find}
use Rattle.std.specs.Option.{option_and_then, option_map}
use Rattle.std.proofs.lemmas.Bool.{cases_Bool}
use Rattle.std.proofs.lemmas.List.Elements.{Contains-append_cases, filter_passes}
use Rattle.ti_text.specs.Texts.{AreBytes}
use Rattle.ti_caps.specs.Tables.{Capability}
use Rattle.ti_spelling.specs.Spelling.{ValuesAreSound, WrittenSpells}
use Rattle.ti_source.specs.Cutting.{OneBlock}
use Rattle.ti_source.specs.Folding.{PlacedByte}
use Rattle.ti_source.specs.Items.{bytes}
use Rattle.ti_source.specs.Parsing.{reading_of_text}
use Rattle.ti_source.specs.Reading.{ReadItem, Said, said_cancel, said_flag, said_import, said_number, said_text}
use Rattle.ti_source.specs.Sound.{EachIsWellRead}
use Rattle.ti_source.specs.Verdicts.{Verdict, accepted, accepted_odd, code_by, refused, said_by}
use Rattle.ti_source.specs.declared.code.Code.{Code}
use Rattle.ti_source.specs.declared.code.Code.TheVariants as code
use Rattle.base_meaning.specs.Owner.{owner, readings}
use Rattle.source_spans.specs.Folding.{folded_of}
use Rattle.source_spans.specs.Parts.{end_of, spanned}
use Rattle.source_spans.specs.Replacing.{fault_at}
use Rattle.source_spans.specs.Subjects.{items_of, used_name}
use Rattle.source_spans.specs.declared.parts.Part.{Part}
use Rattle.source_document.specs.Diagnostics.{text_at}
use Rattle.source_blocks.specs.Giving.{can_be_given}
use Rattle.source_edits.specs.Edits.{EditSeen, edits_for, renames}
use Rattle.source_edits.specs.Laws.{IsRead}
use Rattle.source_edits.proofs.Exchanging.{no_edit}
use Rattle.source_edits.proofs.NamesFit.{each_edit}
use Rattle.source_fixes.specs.Fixes.{given_names, item_edits, other_names, text_said, used_edits, value_at}
use Rattle.source_fixes.specs.Healing.{EditsHeal, GetsOwner, Heals, LosesFault, Stays, block_after}
use Rattle.source_fixes.specs.UserNames.{user_renames}
use Rattle.source_fixes.proofs.CaretsMend.{carets_mend}
use Rattle.source_fixes.proofs.Changing.{faulty_item}
use Rattle.source_fixes.proofs.Fitting.{Fits}
use Rattle.source_fixes.proofs.Given.{IsGiven, given}
use Rattle.source_fixes.proofs.ItemParts.{item_bytes}
use Rattle.source_fixes.proofs.NamesHeal.{names_heal}
use Rattle.source_fixes.proofs.NamesKept.{owner_kept}
use Rattle.source_fixes.proofs.OthersOwn.{others_own}
use Rattle.source_fixes.proofs.SignsHeal.{signs_heal}
use Rattle.source_fixes.proofs.SpellingsHeal.{spellings_heal}
use Rattle.source_fixes.proofs.UserNamesMend.{user_names_mend}
use Rattle.source_fixes.proofs.UsesMend.{uses_mend}
use Rattle.source_blocks.proofs.Outlines.{text_got}

-- ---- an item with an odd escape

said_value : (said : Said) (value : List ℕ) → text_said said ≡ Some value → (c : Capability) × (said ≡ said_text c value)
said_value (said_flag c) value e = absurd cc
said_value (said_number c n) value e = absurd cc
said_value (said_text c text) value e = let same : text ≡ value = cc in (c, ap (said_text c) same)
said_value (said_cancel c) value e = absurd cc
said_value (said_import name) value e = absurd cc

value_said : (o : Option ReadItem) (value : List ℕ) → option_and_then (λ (item : ReadItem). text_said item.said) o ≡ Some value
    → (c : Capability) × (option_map (λ (item : ReadItem). item.said) o ≡ Some (said_text c value))
value_said None value e = absurd cc
value_said (Some item) value e = let is = said_value item.said value e in (is.0, ap (λ (s : Said). Some s) is.1)

odd_by : (verdict : Verdict) (said : Said) → code_by verdict ≡ Some code.UnknownEscape → said_by verdict ≡ Some said → verdict ≡ accepted_odd said
odd_by (accepted s) said e says = absurd cc
odd_by (accepted_odd s) said e says = let same : s ≡ said = cc in ap accepted_odd same
odd_by (refused c) said e says = absurd cc

record IsOddItem (text value : List ℕ) : Type 0 where
  capability : Capability
  read : IsRead text (accepted_odd (said_text capability value))

odd_item : (block : List ℕ) (ordinal : ℕ) (item : List PlacedByte) (value : List ℕ) → slice_get (items_of (folded_of block)) ordinal ≡ Some item
    → fault_at block ordinal ≡ Some code.UnknownEscape
    → value_at ordinal (reading_of_text block).items ≡ Some value → IsOddItem (bytes item) value
odd_item block ordinal item value there had is =
    let said = value_said (find (λ (i : ReadItem). i.ordinal == ordinal) (reading_of_text block).items) value is in
    let found = faulty_item block ordinal item code.UnknownEscape there had in
    let same = odd_by found.0 (said_text said.0 value) found.2 (sym found.1.says ∙ said.1) in
    record { capability = said.0; read = subst (IsRead (bytes item)) same found.1.read }

-- ---- an item with a fault

by_value : ValuesAreSound → WrittenSpells → (block : List ℕ) (ordinal : ℕ) (item : List PlacedByte) (edit : EditSeen) (v : Option (List ℕ)) → OneBlock block
    → AreBytes block
    → slice_get (items_of (folded_of block)) ordinal ≡ Some item → fault_at block ordinal ≡ Some code.UnknownEscape
    → value_at ordinal (reading_of_text block).items ≡ v
    → Contains (edits_for item (Some code.UnknownEscape) v) edit → LosesFault block (block_after block edit) ordinal × Stays block edit
    × Fits item edit
by_value sound writes block ordinal item edit None single are there had is has = absurd (no_edit edit has)
by_value sound writes block ordinal item edit (Some value) single are there had is has =
    let odd = odd_item block ordinal item value there had is in
    spellings_heal sound writes block ordinal item odd.capability value edit single (item_bytes block ordinal item are there) there had odd.read has

by_code : ValuesAreSound → WrittenSpells → (block : List ℕ) (ordinal : ℕ) (item : List PlacedByte) (edit : EditSeen) (o : Option Code) → OneBlock block
    → AreBytes block
    → slice_get (items_of (folded_of block)) ordinal ≡ Some item → fault_at block ordinal ≡ o
    → Contains (edits_for item o (value_at ordinal (reading_of_text block).items)) edit → LosesFault block (block_after block edit) ordinal × Stays block edit
    × Fits item edit
by_code sound writes block ordinal item edit None single are there had has = absurd (no_edit edit has)
by_code sound writes block ordinal item edit (Some code.UnknownCapability) single are there had has = names_heal block ordinal item edit single there had has
by_code sound writes block ordinal item edit (Some code.WrongKind) single are there had has = signs_heal block ordinal item edit single there had has
by_code sound writes block ordinal item edit (Some code.UnknownEscape) single are there had has =
    by_value sound writes block ordinal item edit (value_at ordinal (reading_of_text block).items) single are there had refl has
by_code sound writes block ordinal item edit (Some code.BadString) single are there had has = carets_mend block ordinal item edit single there had has
by_code sound writes block ordinal item edit (Some code.BadHeader) single are there had has = absurd (no_edit edit has)
by_code sound writes block ordinal item edit (Some code.NamesTooLong) single are there had has = absurd (no_edit edit has)
by_code sound writes block ordinal item edit (Some code.BadNumber) single are there had has = absurd (no_edit edit has)
by_code sound writes block ordinal item edit (Some code.NumberTooLarge) single are there had has = absurd (no_edit edit has)
by_code sound writes block ordinal item edit (Some code.MissingUse) single are there had has = absurd (no_edit edit has)
by_code sound writes block ordinal item edit (Some code.Circular) single are there had has = absurd (no_edit edit has)
by_code sound writes block ordinal item edit (Some code.Unresolved) single are there had has = absurd (no_edit edit has)
by_code sound writes block ordinal item edit (Some code.TooLarge) single are there had has = absurd (no_edit edit has)
by_code sound writes block ordinal item edit (Some code.DuplicateName) single are there had has = absurd (no_edit edit has)

-- ---- a use of a name that no block has

none_owns : (o : Option ℕ) → is_none o ≡ true → o ≡ None
none_owns None e = refl
none_owns (Some at) e = absurd cc

record IsGivenAt (name : List PlacedByte) (edit : EditSeen) : Type 0 where
  there : spanned name ≡ Some edit.part
  given : IsGiven edit.text

given_at : (blocks : List (List ℕ)) (own : ℕ) (name : List PlacedByte) (edit : EditSeen) → Contains (renames name (given_names blocks own)) edit
    → IsGivenAt name edit
given_at blocks own [] edit has = absurd (no_edit edit has)
given_at blocks own (v ∷ vs) edit has =
    let part : Part = record { start = v.1; end = end_of (suc v.1) vs } in
    each_edit (IsGivenAt (v ∷ vs)) (bytes (v ∷ vs)) part (given_names blocks own) edit
    (λ index d within.
    let other = get_or (given_names blocks own) index d in
    let is = given other (filter_passes can_be_given (other_names blocks own) index d within) in
    record { there = refl; given = subst IsGiven (sym is.is_shown) is }) has

by_use : EachIsWellRead → (blocks : List (List ℕ)) (at ordinal : ℕ) (item : List PlacedByte) (edit : EditSeen) (o : Option (List PlacedByte))
    → All OneBlock blocks → OneBlock (text_at blocks at)
    → slice_get (items_of (folded_of (text_at blocks at))) ordinal ≡ Some item → used_name item ≡ o → Contains (used_edits blocks at o) edit
    → GetsOwner blocks at (text_at blocks at) (block_after (text_at blocks at) edit) ordinal × Stays (text_at blocks at) edit
    × Fits item edit
by_use well blocks at ordinal item edit None all single there is has = absurd (no_edit edit has)
by_use well blocks at ordinal item edit (Some name) all single there is has =
    let block = text_at blocks at in
    let owned = others_own well blocks at name edit all has in
    elim (cases_Bool (is_none (owner (readings blocks) (bytes name)))) [
      | inr f ↦ absurd (no_edit edit (rw f at has))
      | inl t ↦
          let put = given_at blocks at name edit (rw t at has) in
          let now = uses_mend block ordinal item name edit single there is put.there put.given in
          let fixed = now.0 in (
            record {
              name = bytes name;
              other = edit.text;
              place = owned.0;
              text = fixed.text;
              used = fixed.used;
              missing = none_owns (owner (readings blocks) (bytes name)) t;
              changes = fixed.changes;
              uses = fixed.uses;
              sound = fixed.sound;
              owned = owned.1;
              leads = owner_kept blocks at (block_after block edit) edit.text fixed.changes.head ∙ owned.1;
              apart = owned.2;
            },
            now.1,
            now.2,
          )
    ]

-- each edit does that, and its new text fits the item
abbrev pub EditsFit : Type 0
EditsFit =
    (blocks : List (List ℕ)) (at ordinal : ℕ) (item : List PlacedByte) (edit : EditSeen) → All OneBlock blocks → at < length blocks
    → AreBytes (text_at blocks at)
    → slice_get (items_of (folded_of (text_at blocks at))) ordinal ≡ Some item
    → Contains (item_edits blocks at ordinal (reading_of_text (text_at blocks at)) item) edit
    → Heals blocks at (text_at blocks at) (block_after (text_at blocks at) edit) ordinal × Stays (text_at blocks at) edit × Fits item edit

pub edits_fit : ValuesAreSound → WrittenSpells → EachIsWellRead → EditsFit
edits_fit sound writes well blocks at ordinal item edit all within are there has =
    let block = text_at blocks at in
    let single : OneBlock block = subst OneBlock (sym (text_got blocks at within)) (all at [] within) in
    elim (Contains-append_cases (edits_for item (fault_at block ordinal) (value_at ordinal (reading_of_text block).items))
    (used_edits blocks at (used_name item) ++ user_renames item) edit has) [
      | inl first ↦
          let fixed = by_code sound writes block ordinal item edit (fault_at block ordinal) single are there refl first in (inl fixed.0, fixed.1, fixed.2)
      | inr second ↦
          elim (Contains-append_cases (used_edits blocks at (used_name item)) (user_renames item) edit second) [
            | inl used ↦
                let fixed = by_use well blocks at ordinal item edit (used_name item) all single there refl used in (inr (inl fixed.0), fixed.1, fixed.2)
            | inr renamed ↦ let fixed = user_names_mend block ordinal item edit single there renamed in (inr (inr fixed.0), fixed.1, fixed.2)
          ]
    ]

pub edits_mend : ValuesAreSound → WrittenSpells → EachIsWellRead → EditsHeal
edits_mend sound writes well blocks at ordinal item edit all within are there has =
    let fits = edits_fit sound writes well blocks at ordinal item edit all within are there has in
    (fits.0, fits.1)
