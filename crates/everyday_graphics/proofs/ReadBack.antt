-- What is read of the entries that are written with line graphics.
use Rattle.std.proofs.Common.{◌≡◌, ◌⊎◌, ◌&&◌, ◌<◌, ◌≤◌, inl, inr, ℕ, Bool, true, false, cond, List, [], All, length, nat_le, nat_lt, refl, sym, ap, ◌∙◌, subst}
use Rattle.std.proofs.Common.{Option, Some, option_and_then, slice_get}
use Rattle.std.proofs.lemmas.Bool.{le-ltb, leb-false, leb-true, ltb-false}
use Rattle.std.proofs.lemmas.Option.{same_Some}
use Rattle.ti_caps.proofs.Same.{same_capability-true}
use Rattle.ti_caps.specs.Tables.{Capability, IsCapability, same_capability}
use Rattle.ti_source.specs.Cutting.{OneBlock}
use Rattle.ti_source.specs.declared.parsing.Rule.{Rule}
use Rattle.ti_source.specs.Parsing.{reading_of_text}
use Rattle.ti_source.specs.Sound.{EachIsWellRead}
use Rattle.ti_layout.specs.Laws.{without_cancel}
use Rattle.ti_layout.specs.Values.{AgreesIfSome, Content, Contents, Mention, content_text, contents}
use Rattle.base_meaning.specs.Compiled.{EntryState, oversized, unresolved, written}
use Rattle.base_meaning.specs.Expansion.{values}
use Rattle.user_extension.specs.Extension.{entry, entry_limit}
use Rattle.user_extension.specs.Laws.{EntriesAreRead, as_read}
use Rattle.user_values.specs.Expansion.{UserMention, expansion_by, first_said, user_value_by}
use Rattle.user_compiling.specs.Entries.{IsStateBy, does_resolve, entry_with}
use Rattle.user_extension.specs.Reading.{EndsWell, rows_after, said}
use Rattle.ti_layout.specs.Reading.{Reads}
use Rattle.user_compiling.specs.ReadBack.{EntriesReadBack, ReadsBack, RowsAreUserDefined}
use Rattle.user_compiling.proofs.ReadBack.{rows-say}
use Rattle.user_compiling.proofs.States.{uncancelled-twice}
use Rattle.everyday_graphics.specs.Entries as drawn
use Rattle.everyday_graphics.specs.Entries.{HasDrawnState, IsDrawnState, in_place}
use Rattle.everyday_graphics.specs.Graphics.{acsc, drawn_values, lacks_acsc, vt100_acsc, with_acsc}
use Rattle.everyday_graphics.specs.ReadBack.{DrawnEntriesReadBack, DrawnReadsBack}
use Rattle.everyday_graphics.proofs.Agreeing.{read-agrees}
use Rattle.everyday_graphics.proofs.Drawn.{acsc-has-no-nul}
use Rattle.everyday_graphics.proofs.Rows.{block-at, some-long, whole}

-- ---- the entry that is written

abbrev bytes-of : EntryState → List ℕ
bytes-of unresolved = []
bytes-of oversized = []
bytes-of (written bytes) = bytes

not-oversized : (bytes : List ℕ) → oversized ≡ written bytes → ⊥
not-oversized bytes e = cc

not-unresolved : (bytes : List ℕ) → unresolved ≡ written bytes → ⊥
not-unresolved bytes e = cc

-- a block whose entry is written resolves: its own entry is within its limit, and what is written is
-- the other one if that is within its own, else its own
pub record IsDrawnOf (own other bytes : List ℕ) (own_limit other_limit : ℕ) : Type 0 where
  pub fits : length own ≤ own_limit
  pub chosen : ((bytes ≡ other) × (length other ≤ other_limit)) ⊎ ((bytes ≡ own) × (other_limit < length other))

by-place : (own other bytes : List ℕ) (own_limit other_limit : ℕ) (large within : Bool) → nat_lt own_limit (length own) ≡ large
    → nat_le (length other) other_limit ≡ within → written bytes ≡ in_place (cond large oversized (written own)) other_limit other
    → IsDrawnOf own other bytes own_limit other_limit
by-place own other bytes own_limit other_limit true within e f is = absurd (not-oversized bytes (sym is))
by-place own other bytes own_limit other_limit false true e f is =
    let same : written bytes ≡ written other = is ∙ ap (λ (b : Bool). cond b (written other) (written own)) f in
    record { fits = ltb-false own_limit (length own) e; chosen = inl (ap bytes-of same, leb-true (length other) other_limit f) }
by-place own other bytes own_limit other_limit false false e f is =
    let same : written bytes ≡ written own = is ∙ ap (λ (b : Bool). cond b (written other) (written own)) f in
    record { fits = ltb-false own_limit (length own) e; chosen = inr (ap bytes-of same, leb-false (length other) other_limit f) }

-- how the entry of a block is found that is written
pub record IsDrawnEntry (draws : Bool) (rule : Rule) (texts : List (List ℕ)) (text bytes : List ℕ) : Type 0 where
  pub has : HasDrawnState draws rule texts text (written bytes)
  pub is : IsDrawnOf (entry_with (reading_of_text text) has.mentions has.rows)
      (entry (reading_of_text text).field (drawn_values draws has.mentions) has.rows) bytes (entry_limit (values has.mentions) has.rows)
      (entry_limit (drawn_values draws has.mentions) has.rows)

of-state : (draws : Bool) (rule : Rule) (texts : List (List ℕ)) (text : List ℕ) (state : EntryState) (bytes : List ℕ)
    → IsDrawnState draws rule texts text state → state ≡ written bytes → IsDrawnEntry draws rule texts text bytes
of-state draws rule texts text _ bytes (drawn.does_not_resolve none) e = absurd (not-unresolved bytes e)
of-state draws rule texts text _ bytes (drawn.does_resolve {state = state} h) e =
    let own = entry_with (reading_of_text text) h.mentions h.rows in
    let other = entry (reading_of_text text).field (drawn_values draws h.mentions) h.rows in
    let own_limit = entry_limit (values h.mentions) h.rows in
    let other_limit = entry_limit (drawn_values draws h.mentions) h.rows in
    record {
      has = record {
        mentions = h.mentions;
        user_mentions = h.user_mentions;
        rows = h.rows;
        expands = h.expands;
        user_expands = h.user_expands;
        are_rows = h.are_rows;
        is = sym e ∙ h.is;
      };
      is = by-place own other bytes own_limit other_limit (nat_lt own_limit (length own)) (nat_le (length other) other_limit) refl refl (sym e ∙ h.is);
    }

pub drawn-entry : (draws : Bool) (rule : Rule) (texts : List (List ℕ)) (text bytes : List ℕ) → IsDrawnState draws rule texts text (written bytes)
    → IsDrawnEntry draws rule texts text bytes
drawn-entry draws rule texts text bytes is = of-state draws rule texts text (written bytes) bytes is refl

-- its own entry is what the block compiles to
pub own-state : (draws : Bool) (rule : Rule) (texts : List (List ℕ)) (text bytes : List ℕ) → (d : IsDrawnEntry draws rule texts text bytes)
    → IsStateBy rule texts text (written (entry_with (reading_of_text text) d.has.mentions d.has.rows))
own-state draws rule texts text bytes d =
    let h = d.has in
    let block = reading_of_text text in
    let own = entry_with block h.mentions h.rows in
    does_resolve
    (record {
      mentions = h.mentions;
      user_mentions = h.user_mentions;
      rows = h.rows;
      expands = h.expands;
      user_expands = h.user_expands;
      are_rows = h.are_rows;
      is = sym (ap (λ (b : Bool). cond b oversized (written own)) (le-ltb (entry_limit (values h.mentions) h.rows) (length own) d.is.fits));
    })

-- ---- the values

-- what is given of a block is what its capabilities may have
with-agrees : (given : Contents) (c : Capability) → AgreesIfSome c (given c) → AgreesIfSome c (with_acsc given c)
with-agrees given c agrees = by_test (same_capability acsc c) refl
  where
    by_test : (b : Bool) → same_capability acsc c ≡ b → AgreesIfSome c (with_acsc given c)
    by_test true e = rw e (subst (λ (d : Capability). AgreesIfSome d (Some (content_text vt100_acsc))) (same_capability-true acsc c e) (refl, acsc-has-no-nul))
    by_test false e = rw e agrees

drawn-agrees : (draws : Bool) (ms : List Mention) (c : Capability) → AgreesIfSome c (values ms c) → AgreesIfSome c (drawn_values draws ms c)
drawn-agrees draws ms c agrees = by_test (draws && lacks_acsc (contents ms))
  where
    by_test : (b : Bool) → AgreesIfSome c ((cond b (with_acsc (values ms)) (values ms)) c)
    by_test true = with-agrees (values ms) c agrees
    by_test false = agrees

-- no value that is given is a cancel
drawn-plain : (draws : Bool) (ms : List Mention) (c : Capability) → without_cancel (drawn_values draws ms c) ≡ drawn_values draws ms c
drawn-plain draws ms c = by_test (draws && lacks_acsc (contents ms))
  where
    with_it : (b : Bool) → same_capability acsc c ≡ b → without_cancel (with_acsc (values ms) c) ≡ with_acsc (values ms) c
    with_it true e = rw e refl
    with_it false e = rw e (uncancelled-twice (contents ms c))

    by_test : (b : Bool) → without_cancel ((cond b (with_acsc (values ms)) (values ms)) c) ≡ (cond b (with_acsc (values ms)) (values ms)) c
    by_test true = with_it (same_capability acsc c) refl
    by_test false = uncancelled-twice (contents ms c)

pub value-of : (rule : Rule) (texts : List (List ℕ)) (at : ℕ) (text : List ℕ) (ms : List UserMention) (name : List ℕ) → slice_get texts at ≡ Some text
    → expansion_by rule texts text ≡ Some ms → user_value_by rule texts at name ≡ without_cancel (first_said ms name)
value-of rule texts at text ms name stands e =
    let value : List UserMention → Option Content = λ mentions. without_cancel (first_said mentions name) in
    ap (λ o. option_and_then value (option_and_then (expansion_by rule texts) o)) stands ∙ ap (option_and_then value) e

-- ---- reading

-- what is read of the entry with line graphics
pub record IsOtherRead {draws : Bool} {rule : Rule} {texts : List (List ℕ)} {text bytes : List ℕ} (d : IsDrawnEntry draws rule texts text bytes) : Type 0 where
  pub contents : Contents
  pub reads : Reads (entry (reading_of_text text).field (drawn_values draws d.has.mentions) d.has.rows) (reading_of_text text).field contents
  pub tables : (c : Capability) → IsCapability c → contents c ≡ drawn_values draws d.has.mentions c
  pub ends_well : EndsWell (entry (reading_of_text text).field (drawn_values draws d.has.mentions) d.has.rows)
  pub are_rows : rows_after (entry (reading_of_text text).field (drawn_values draws d.has.mentions) d.has.rows) ≡ as_read d.has.rows

module _ (well : EachIsWellRead) (read : EntriesAreRead) (user_defined : RowsAreUserDefined) (draws : Bool) (rule : Rule) (texts : List (List ℕ)) (at : ℕ)
    (text bytes : List ℕ) (blocks : All OneBlock texts) (stands : slice_get texts at ≡ Some text) (d : IsDrawnEntry draws rule texts text bytes)
  where
    -- its own entry
    abbrev own : List ℕ
    own = entry_with (reading_of_text text) d.has.mentions d.has.rows

    -- the entry with line graphics
    abbrev other : List ℕ
    other = entry (reading_of_text text).field (drawn_values draws d.has.mentions) d.has.rows

    pub values-agree : ReadsBack rule texts at text own → (c : Capability) → IsCapability c → AgreesIfSome c (values d.has.mentions c)
    values-agree back c valid =
        let same : back.mentions ≡ d.has.mentions = same_Some back.mentions d.has.mentions (sym back.expands ∙ d.has.expands) in
        subst (AgreesIfSome c) (back.tables c valid ∙ ap (λ (ms : List Mention). values ms c) same)
        (read-agrees own (reading_of_text text).field back.contents back.reads c)

    -- what is read of that with line graphics
    pub read-other : ReadsBack rule texts at text own → length other ≤ entry_limit (drawn_values draws d.has.mentions) d.has.rows → IsOtherRead d
    read-other back fits =
        let h = d.has in
        let field = (reading_of_text text).field in
        let u = drawn_values draws h.mentions in
        let named = (well text (block-at texts at text blocks stands)).named (whole rule texts text h.mentions h.expands) in
        let user = user_defined rule texts at text h.user_mentions h.rows blocks stands h.user_expands h.are_rows in
        let again = read field u h.rows (some-long field named.some) named.short named.no_nul
        (λ c valid. drawn-agrees draws h.mentions c (values-agree back c valid)) user fits in
        record {
          contents = again.0;
          reads = again.1;
          tables = λ c valid. again.2 c valid ∙ drawn-plain draws h.mentions c;
          ends_well = again.3;
          are_rows = again.4;
        }

    reads-other : ReadsBack rule texts at text own → length other ≤ entry_limit (drawn_values draws d.has.mentions) d.has.rows
        → DrawnReadsBack draws rule texts at text other
    reads-other back fits =
        let h = d.has in
        let again = read-other back fits in
        record {
          mentions = h.mentions;
          user_mentions = h.user_mentions;
          rows = h.rows;
          expands = h.expands;
          user_expands = h.user_expands;
          are_rows = h.are_rows;
          given = drawn_values draws h.mentions;
          are_given = inl refl;
          contents = again.contents;
          reads = again.reads;
          tables = again.tables;
          ends_well = again.ends_well;
          user_defined = λ name. ap (λ rows. said rows name) again.are_rows ∙ rows-say (first_said h.user_mentions) h.rows h.are_rows name
              ∙ sym (value-of rule texts at text h.user_mentions name stands h.user_expands);
        }

    reads-own : ReadsBack rule texts at text own → entry_limit (drawn_values draws d.has.mentions) d.has.rows < length other
        → DrawnReadsBack draws rule texts at text own
    reads-own back over =
        let h = d.has in
        let same : back.mentions ≡ h.mentions = same_Some back.mentions h.mentions (sym back.expands ∙ h.expands) in
        record {
          mentions = h.mentions;
          user_mentions = h.user_mentions;
          rows = h.rows;
          expands = h.expands;
          user_expands = h.user_expands;
          are_rows = h.are_rows;
          given = values h.mentions;
          are_given = inr (refl, over);
          contents = back.contents;
          reads = back.reads;
          tables = λ c valid. back.tables c valid ∙ ap (λ (ms : List Mention). values ms c) same;
          ends_well = back.ends_well;
          user_defined = back.user_defined;
        }

    pub reads-chosen : ReadsBack rule texts at text own
        → ((bytes ≡ other) × (length other ≤ entry_limit (drawn_values draws d.has.mentions) d.has.rows))
        ⊎ ((bytes ≡ own) × (entry_limit (drawn_values draws d.has.mentions) d.has.rows < length other)) → DrawnReadsBack draws rule texts at text bytes
    reads-chosen back (inl drawn) = subst (DrawnReadsBack draws rule texts at text) (sym drawn.0) (reads-other back drawn.1)
    reads-chosen back (inr kept) = subst (DrawnReadsBack draws rule texts at text) (sym kept.0) (reads-own back kept.1)

pub drawn_read_back : EachIsWellRead → EntriesAreRead → RowsAreUserDefined → EntriesReadBack → DrawnEntriesReadBack
drawn_read_back well read user_defined known draws rule texts at text bytes blocks stands is =
    let d = drawn-entry draws rule texts text bytes is in
    let own = entry_with (reading_of_text text) d.has.mentions d.has.rows in
    reads-chosen well read user_defined draws rule texts at text bytes blocks stands d (known rule texts at text own blocks stands
    (own-state draws rule texts text bytes d)) d.is.chosen
