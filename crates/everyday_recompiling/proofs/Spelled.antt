-- The entries that are written with the constants of their strings as characters.
use Rattle.std.proofs.Common.{◌≡◌, ◌⊎◌, ◌<◌, ◌≤◌, inl, inr, ℕ, zero, suc, Bool, List, [], ◌∷◌, length, All, Option, None, Some, slice_get, sym, ap, ◌∙◌, refl, subst}
use Rattle.std.specs.List.{AllZip}
use Rattle.std.proofs.lemmas.Option.{none-some, same_Some}
use Rattle.ti_caps.specs.Tables.{Capability, IsCapability}
use Rattle.ti_source.specs.Cutting.{OneBlock}
use Rattle.ti_source.specs.declared.parsing.Rule.TheVariants.{OwnFirst}
use Rattle.ti_source.specs.Parsing.{reading_of_text}
use Rattle.ti_source.specs.Sound.{EachIsWellRead}
use Rattle.ti_layout.specs.Laws.{ShowSame, without_cancel}
use Rattle.ti_layout.specs.Reading.{EntriesHaveOneReading, Reads}
use Rattle.ti_layout.specs.Values.{Content, content_true, content_number, content_text, content_cancelled, Contents}
use Rattle.base_meaning.specs.Compiled.{EntryState, oversized, unresolved, written}
use Rattle.base_meaning.specs.Expansion.{values}
use Rattle.tools_relisting.specs.Relisting.{CanHave}
use Rattle.user_extension.specs.Extension.{entry, entry_limit}
use Rattle.user_extension.specs.Laws.{EntriesAreRead, as_read}
use Rattle.user_extension.specs.Reading.{ReadRow, rows_after, said}
use Rattle.user_extension.specs.UserDefined.{Row}
use Rattle.user_listing.specs.Entries.{Extended}
use Rattle.user_compiling.specs.Entries.{entry_in, entry_with}
use Rattle.user_compiling.specs.ReadBack.{EntriesReadBack, RowsAreUserDefined}
use Rattle.user_compiling.specs.Rows.{AreRowsOf}
use Rattle.user_compiling.proofs.Imaging.{entries_are_of_values, limits_are_of_values}
use Rattle.user_compiling.proofs.States.{uncancelled-twice}
use Rattle.user_recompiling.specs.Shown.{IsShownFrom}
use Rattle.everyday_constants.specs.Entries.{CanBeWritten, IsWithCharacters, is_kept, is_written, content_with, contents_with, present_rows}
use Rattle.everyday_constants.specs.Laws.{CharactersAreRead, IsSoundEntry, ReadsWithCharacters, WrittenCharactersStay}
use Rattle.everyday_constants.proofs.Holding.{agrees-with, bytes-with}
use Rattle.everyday_constants.proofs.Reading.{present-read}
use Rattle.everyday_graphics.specs.Entries.{IsDrawnState}
use Rattle.everyday_graphics.specs.Graphics.{drawn_values}
use Rattle.everyday_graphics.specs.ReadBack.{DrawnReadsBack}
use Rattle.everyday_graphics.proofs.ReadBack.{IsDrawnEntry, drawn-entry, own-state, read-other, values-agree}
use Rattle.everyday_graphics.proofs.Rows.{block-at, some-long, whole}
use Rattle.everyday_tic.specs.Characters.{IsStateWithCharacters}

-- ---- what is written of a block

same-written : (one other : List ℕ) → written one ≡ written other → one ≡ other
same-written one other is = same_Some one other (ap entry_in is)

-- it is the entry of the block with characters
pub record IsSpelledOf (states : List EntryState) (at : ℕ) (made : List ℕ) : Type 0 where
  pub bytes : List ℕ
  pub there : slice_get states at ≡ Some (written bytes)
  pub with_characters : IsWithCharacters bytes made

of-state : (state other : EntryState) (made : List ℕ) → IsStateWithCharacters state other → other ≡ written made
    → (bytes : List ℕ) × (state ≡ written bytes) × IsWithCharacters bytes made
of-state unresolved other made g e = absurd (none-some made (sym (ap entry_in (sym e ∙ g))))
of-state oversized other made g e = absurd (none-some made (sym (ap entry_in (sym e ∙ g))))
of-state (written bytes) other made g e = (bytes, refl, subst (IsWithCharacters bytes) (same-written g.0 made (sym g.1 ∙ e)) g.2)

pub spelled-at : (states others : List EntryState) (at : ℕ) (made : List ℕ) → AllZip IsStateWithCharacters states others
    → slice_get others at ≡ Some (written made) → IsSpelledOf states at made
spelled-at [] [] at made all e = absurd (none-some (written made) e)
spelled-at [] (y ∷ ys) at made all e = absurd all
spelled-at (s ∷ ss) [] at made all e = absurd all
spelled-at (s ∷ ss) (y ∷ ys) zero made all e =
    let found = of-state s y made all.0 (same_Some y (written made) e) in
    record { bytes = found.0; there = ap (λ (state : EntryState). Some state) found.1; with_characters = found.2 }
spelled-at (s ∷ ss) (y ∷ ys) (suc at) made all e =
    let found = spelled-at ss ys at made all.1 e in
    record { bytes = found.bytes; there = found.there; with_characters = found.with_characters }

-- ---- what is read of it

pub record IsKnown : Type 0 where
  pub entries : EntriesReadBack
  pub well : EachIsWellRead
  pub read : EntriesAreRead
  pub user_defined : RowsAreUserDefined
  pub characters : CharactersAreRead
  pub stay : WrittenCharactersStay

module _ (laws : IsKnown) (draws : Bool) (texts : List (List ℕ)) (at : ℕ) (text bytes : List ℕ) (blocks : All OneBlock texts)
    (stands : slice_get texts at ≡ Some text)
  where
    module _ (d : IsDrawnEntry draws OwnFirst texts text bytes) where
      -- its user-defined capabilities are those of the block
      its-rows : rows_after bytes ≡ as_read d.has.rows
      its-rows = by_chosen d.is.chosen
        where
          own : List ℕ
          own = entry_with (reading_of_text text) d.has.mentions d.has.rows

          by_chosen : ((bytes ≡ entry (reading_of_text text).field (drawn_values draws d.has.mentions) d.has.rows)
              × (length (entry (reading_of_text text).field (drawn_values draws d.has.mentions) d.has.rows)
              ≤ entry_limit (drawn_values draws d.has.mentions) d.has.rows))
              ⊎ ((bytes ≡ entry_with (reading_of_text text) d.has.mentions d.has.rows)
              × (entry_limit (drawn_values draws d.has.mentions) d.has.rows
              < length (entry (reading_of_text text).field (drawn_values draws d.has.mentions) d.has.rows)))
              → rows_after bytes ≡ as_read d.has.rows
          by_chosen (inl other) =
              let back = laws.entries OwnFirst texts at text (entry_with (reading_of_text text) d.has.mentions d.has.rows) blocks stands
              (own-state draws OwnFirst texts text bytes d) in
              ap rows_after other.0
              ∙ (read-other laws.well laws.read laws.user_defined draws OwnFirst texts at text bytes blocks stands d back other.1).are_rows
          by_chosen (inr kept) =
              let h = d.has in
              let back = laws.entries OwnFirst texts at text (entry_with (reading_of_text text) h.mentions h.rows) blocks stands
              (own-state draws OwnFirst texts text bytes d) in
              let named = (laws.well text (block-at texts at text blocks stands)).named (whole OwnFirst texts text h.mentions h.expands) in
              let user = laws.user_defined OwnFirst texts at text h.user_mentions h.rows blocks stands h.user_expands h.are_rows in
              ap rows_after kept.0
              ∙ (laws.read (reading_of_text text).field (values h.mentions) h.rows (some-long (reading_of_text text).field named.some) named.short named.no_nul
              (values-agree laws.well laws.read laws.user_defined draws OwnFirst texts at text bytes blocks stands d back) user d.is.fits).4

    pub sound-entry : IsDrawnState draws OwnFirst texts text (written bytes) → (reads : DrawnReadsBack draws OwnFirst texts at text bytes)
        → IsSoundEntry (reading_of_text text).field bytes reads.contents
    sound-entry is reads =
        let d = drawn-entry draws OwnFirst texts text bytes is in
        let h = d.has in
        record {
          reads = reads.reads;
          ends_well = reads.ends_well;
          rows = h.rows;
          are_rows = its-rows d;
          user_defined = laws.user_defined OwnFirst texts at text h.user_mentions h.rows blocks stands h.user_expands h.are_rows;
        }

-- ---- what is shown of it

can-with : (c : Capability) (o : Option Content) → CanHave c o → CanHave c (without_cancel (content_with o))
can-with c None can = tt
can-with c (Some content_true) can = can
can-with c (Some (content_number n)) can = can
can-with c (Some (content_text t)) can = (agrees-with c (Some (content_text t)) can.0, bytes-with t can.1)
can-with c (Some content_cancelled) can = tt

-- what is shown, by its names field, its values and its rows
abbrev pub shown_of : List ℕ → Contents → List ReadRow → Extended
shown_of names contents rows = record { entry = record { names = names; contents = contents }; rows = rows }

module _ (one : EntriesHaveOneReading) (texts : List (List ℕ)) (bytes field : List ℕ) (held : Contents)
    (from : IsShownFrom bytes (shown_of field held (rows_after bytes)) texts) (reads : Reads bytes field held)
  where
    -- bytes that stay as they are
    as-before : (made : List ℕ) (given : Contents) → made ≡ bytes → given ≡ held → IsShownFrom made (shown_of field given (rows_after made)) texts
    as-before made given equal same =
        subst (λ (b : List ℕ). IsShownFrom b (shown_of field given (rows_after b)) texts) (sym equal)
        (subst (λ (t : Contents). IsShownFrom bytes (shown_of field t (rows_after bytes)) texts) (sym same) from)

    -- an entry that is written anew
    written-anew : (names : List ℕ) (c : Contents) (able : CanBeWritten bytes names c) (given : Contents)
        → ((k : Capability) → IsCapability k → given k ≡ without_cancel (content_with (held k)))
        → rows_after (entry names (contents_with c) (present_rows (rows_after bytes))) ≡ rows_after bytes
        → IsShownFrom (entry names (contents_with c) (present_rows (rows_after bytes)))
        (shown_of field given (rows_after (entry names (contents_with c) (present_rows (rows_after bytes))))) texts
    written-anew names c able given tables kept =
        let old = from.is in
        let new = contents_with held in
        let made = entry names (contents_with c) (present_rows (rows_after bytes)) in
        let same = one.0 bytes names field c held able.reads reads in
        let are : present_rows (rows_after bytes) ≡ old.can.rows = ap present_rows old.can.are_rows ∙ present-read old.can.rows in
        let made_is : made ≡ entry field new old.can.rows =
        ap (entry names (contents_with c)) are ∙ ap (λ (f : List ℕ). entry f (contents_with c) old.can.rows) same.0
        ∙ ap (λ (t : Contents). entry field (contents_with t) old.can.rows) same.1 in
        let alike : ShowSame given new =
        λ k valid. ap without_cancel (tables k valid) ∙ uncancelled-twice (content_with (held k)) in
        let limit : entry_limit (contents_with c) (present_rows (rows_after bytes)) ≡ entry_limit given old.can.rows =
        ap (entry_limit (contents_with c)) are ∙ ap (λ (t : Contents). entry_limit (contents_with t) old.can.rows) same.1
        ∙ sym (limits_are_of_values given new old.can.rows alike) in
        record {
          is = record {
            can = record {
              names = old.can.names;
              rows = old.can.rows;
              listable = old.can.listable;
              holds = λ k valid. subst (CanHave k) (sym (tables k valid)) (can-with k (held k) (old.can.holds k valid));
              are_rows = kept ∙ old.can.are_rows;
              of_source = old.can.of_source;
            };
            rows = subst (λ (rs : List ReadRow). AreRowsOf (said rs) old.can.rows) (sym kept) old.rows;
            is = entries_are_of_values field given new old.can.rows alike ∙ sym made_is;
            within = subst (λ (n : ℕ). length made ≤ n) limit able.fits;
          };
          names = from.names;
        }

    pub spelled-shown : (made : List ℕ) → IsWithCharacters bytes made → (r : ReadsWithCharacters field bytes made held)
        → IsShownFrom made (shown_of field r.given (rows_after made)) texts
    spelled-shown _ (is_kept none) r = as-before bytes r.given refl (one.0 bytes field field r.given held r.reads reads).1
    spelled-shown _ (is_written names c able) r = by_given r.are_given
      where
        by_given : ((k : Capability) → IsCapability k → r.given k ≡ without_cancel (content_with (held k)))
            ⊎ ((entry names (contents_with c) (present_rows (rows_after bytes)) ≡ bytes) × (r.given ≡ held))
            → IsShownFrom (entry names (contents_with c) (present_rows (rows_after bytes)))
            (shown_of field r.given (rows_after (entry names (contents_with c) (present_rows (rows_after bytes))))) texts
        by_given (inl tables) = written-anew names c able r.given tables r.rows
        by_given (inr kept) = as-before (entry names (contents_with c) (present_rows (rows_after bytes))) r.given kept.0 kept.1
