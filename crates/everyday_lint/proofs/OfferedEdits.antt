-- Each fix of a text that is certain is a certain edit of a block, at its place in the text.
use Rattle.std.proofs.Common.{◌≡◌, ◌⊎◌, ℕ, zero, suc, ◌+◌, ◌-◌, ◌≤◌, nat_lt, Bool, true, false, cond, Contains, List, [], ◌∷◌, ◌++◌, append_assoc, filter}
use Rattle.std.proofs.Common.{flat_map, is_none, length, map, Option, None, Some, slice_get, inl, inr, refl, sym, ap, ap₂, subst, ◌∙◌, arith, zero-add, ◌<◌}
use Rattle.std.proofs.Common.{drop}
use Rattle.std.specs.List.{AllByRecursion, concat, enumerate_from}
use Rattle.std.specs.Option.{option_map_or}
use Rattle.std.specs.Prelude.{option_and_then, option_map}
use Rattle.std.proofs.Math.Seq.{drop-append-add}
use Rattle.std.proofs.lemmas.Bool.{and_parts, cases_Bool, false≢true, ltb-true}
use Rattle.std.proofs.lemmas.List.{drop-append-le, length-append, length-drop}
use Rattle.std.proofs.lemmas.List.Elements.{Contains-append_cases, Contains-append_left, Contains-append_right}
use Rattle.std.proofs.lemmas.Option.{same_Some}
use Rattle.ti_text.specs.Lines.{line_count}
use Rattle.ti_text.specs.Texts.{last_byte}
use Rattle.ti_text.proofs.LineLaws.{lines_add}
use Rattle.ti_caps.proofs.Table.{Contains-cons}
use Rattle.ti_source.specs.Cutting.{OneBlock}
use Rattle.ti_source.specs.Folding.{PlacedByte}
use Rattle.ti_source.specs.Items.{bytes}
use Rattle.ti_source.specs.Parsing.{reading_of_text}
use Rattle.ti_source.specs.Reading.{ReadFault, Reading}
use Rattle.ti_source.specs.declared.code.Code.{Code}
use Rattle.base_meaning.specs.Owner.{owner, readings}
use Rattle.tools_sources.specs.Sources.{preface_of, source_refusal, source_texts}
use Rattle.tools_sources.specs.declared.source_error.SourceError.{SourceError}
use Rattle.source_types.specs.declared.places.Position.{Position}
use Rattle.source_types.specs.declared.places.Range.{Range}
use Rattle.source_spans.specs.Folding.{folded_of}
use Rattle.source_spans.specs.Parts.{spanned}
use Rattle.source_spans.specs.Replacing.{fault_at}
use Rattle.source_spans.specs.Subjects.{items_of, used_name}
use Rattle.source_spans.specs.declared.parts.Part.{Part}
use Rattle.source_places.specs.Position.{is_start, offset_of, position_of, units}
use Rattle.source_document.specs.Diagnostics.{text_at}
use Rattle.source_document.specs.Documents.{held, unless_refused}
use Rattle.source_diagnostics.specs.declared.capabilities.Capabilities.{Capabilities}
use Rattle.source_diagnostics.specs.declared.capabilities.Capabilities.TheVariants.{Profile, UserDefined}
use Rattle.source_blocks.specs.Places.{can_be_exchanged, missing_newline}
use Rattle.source_blocks.specs.Spots.{head_line, offset_in, settled, spot_at, spot_from}
use Rattle.source_blocks.specs.declared.spots.Spot.{Spot}
use Rattle.source_blocks.proofs.Placing.{ended_with, leads, missing_is, missing_size, place}
use Rattle.source_hints.specs.Unknown.{is_unknown_name}
use Rattle.source_edits.specs.Edits.{EditSeen, edits_for, is_certain, rename, renames_in}
use Rattle.source_edits.specs.Narrowing.{edit_at, narrowed, without_same}
use Rattle.source_edits.specs.Nearest.{nearest}
use Rattle.source_edits.specs.Pieces.{bytes_in, written_name}
use Rattle.source_edits.specs.Shown.{shown}
use Rattle.source_edits.proofs.Exchanging.{no_edit, only_edit}
use Rattle.source_fixes.specs.Fixes.{FixSeen, can_be_made, code_unless, edits_in, fault_of_item, fix_of, fixes_from, fixes_in, fixes_of, given_names}
use Rattle.source_fixes.specs.Fixes.{is_allowed, item_edits_by, stretch_to, touched_edits, touches, used_edits, value_at}
use Rattle.source_fixes.specs.Together.{certain_edits, certain_for, certain_from}
use Rattle.source_fixes.specs.UserNames.{user_names, user_renames_by}
use Rattle.source_fixes.proofs.Narrows.{bytes_there}
use Rattle.source_fixes.proofs.Shrinking.{one_same}
use Rattle.source_fixes.proofs.Together.{these_are_certain}
use Rattle.everyday_lint.proofs.BlocksCut.{all_single, blocks_end, preface_ends, single_ends, text_joined}
use Rattle.everyday_lint.proofs.CertainOrder.{HasFew, IsOfItem, certain_later, few_certain, has_none, has_one}
use Rattle.everyday_lint.proofs.OpenEnds.{last_both}

-- ---- an element of a list that is made of another

contains_none : {X : Type 0} (x : X) → Contains [] x → ⊥
contains_none x has = let less = has.1 in omega (arith, less)

contains_first : {X : Type 0} (x : X) (xs : List X) (y : X) → Contains (x ∷ xs) y → (x ≡ y) ⊎ Contains xs y
contains_first x xs y (zero, within, e) = inl e
contains_first x xs y (suc k, within, e) = inr (k, omega (arith, within), e)

record IsMapped {X Y : Type 0} (f : X → Y) (xs : List X) (y : Y) : Type 0 where
  of : X
  has : Contains xs of
  is : f of ≡ y

of_map : {X Y : Type 0} (f : X → Y) (xs : List X) (y : Y) → Contains (map f xs) y → IsMapped f xs y
of_map f [] y has = absurd (contains_none y has)
of_map f (x ∷ xs) y has =
    elim (contains_first (f x) (map f xs) y has) [
      | inl same ↦ record { of = x; has = (0, omega arith, refl); is = same }
      | inr later ↦ let found = of_map f xs y later in record { of = found.of; has = Contains-cons x xs found.of found.has; is = found.is }
    ]

of_filter : {X : Type 0} (p : X → Bool) (xs : List X) (y : X) → Contains (filter p xs) y → Contains xs y × (p y ≡ true)
of_filter p [] y has = absurd (contains_none y has)
of_filter p (x ∷ xs) y has =
    elim (cases_Bool (p x)) [
      | inl t ↦
          elim (contains_first x (filter p xs) y (rw t at has)) [
            | inl same ↦ ((0, omega arith, same), ap p (sym same) ∙ t)
            | inr later ↦ let found = of_filter p xs y later in (Contains-cons x xs y found.0, found.1)
          ]
      | inr f ↦ let found = of_filter p xs y (rw f at has) in (Contains-cons x xs y found.0, found.1)
    ]

record IsOfOne {X Y : Type 0} (f : X → List Y) (xs : List X) (y : Y) : Type 0 where
  of : X
  has : Contains xs of
  is : Contains (f of) y

of_one : {X Y : Type 0} (f : X → List Y) (xs : List X) (y : Y) → Contains (flat_map f xs) y → IsOfOne f xs y
of_one f [] y has = absurd (contains_none y has)
of_one f (x ∷ xs) y has =
    elim (Contains-append_cases (f x) (flat_map f xs) y has) [
      | inl first ↦ record { of = x; has = (0, omega arith, refl); is = first }
      | inr later ↦ let found = of_one f xs y later in record { of = found.of; has = Contains-cons x xs found.of found.has; is = found.is }
    ]

numbered : {X : Type 0} (n : ℕ) (xs : List X) (p : ℕ × X) → Contains (enumerate_from n xs) p → (k : ℕ) × (p.0 ≡ n + k) × (slice_get xs k ≡ Some p.1)
numbered n [] p has = absurd (contains_none p has)
numbered n (x ∷ xs) p has =
    elim (contains_first (n, x) (enumerate_from (n + 1) xs) p has) [
      | inl same ↦ let first = ap (λ (q : ℕ × _). q.0) same in (0, omega (arith, first), ap (λ (q : ℕ × _). Some q.1) same)
      | inr later ↦ let found = numbered (n + 1) xs p later in let is = found.1 in (suc found.0, omega (arith, is), found.2)
    ]

-- ---- the block in which a fix is

record IsSpot (at first : ℕ) (blocks : List (List ℕ)) (spot : Spot) : Type 0 where
  front : List (List ℕ)
  block : List ℕ
  back : List (List ℕ)
  whole : blocks ≡ front ++ block ∷ back
  is : spot.at ≡ at + length front
  line : spot.line ≡ first + line_count (concat front)

spot_first : (at first offset : ℕ) (block : List ℕ) (blocks : List (List ℕ)) (spot : Spot) → record { at = at; line = first; offset = offset } ≡ spot
    → IsSpot at first (block ∷ blocks) spot
spot_first at first offset block blocks spot is =
    let here : at ≡ spot.at = ap (λ (s : Spot). s.at) is in
    let line : first ≡ spot.line = ap (λ (s : Spot). s.line) is in
    let none : line_count (concat []) ≡ 0 = refl in
    record { front = []; block = block; back = blocks; whole = refl; is = omega (arith, here); line = omega (arith, line, none) }

spot_later : (at first : ℕ) (block : List ℕ) (blocks : List (List ℕ)) (spot : Spot) → IsSpot (suc at) (first + line_count block) blocks spot
    → IsSpot at first (block ∷ blocks) spot
spot_later at first block blocks spot later =
    let is = later.is in
    let line = later.line in
    let sum = lines_add block (concat later.front) in
    record {
      front = block ∷ later.front;
      block = later.block;
      back = later.back;
      whole = ap (λ (bs : List (List ℕ)). block ∷ bs) later.whole;
      is = omega (arith, is);
      line = omega (arith, line, sum);
    }

spot_is : (at first : ℕ) (p : Position) (blocks : List (List ℕ)) (spot : Spot) → spot_from at first p blocks ≡ Some spot → IsSpot at first blocks spot
spot_is at first p [] spot e = absurd cc
spot_is at first p (block ∷ blocks) spot e =
    elim (cases_Bool (nat_lt p.line first)) [
      | inl t ↦ let none : None ≡ Some spot = rw t at e in absurd cc
      | inr f ↦
          elim (cases_Bool (nat_lt p.line (first + line_count block))) [
            | inl t ↦
                spot_first at first (offset_in first block p) block blocks spot (same_Some _ spot (rw (f, t) at e))
            | inr g ↦
                spot_later at first block blocks spot (spot_is (suc at) (first + line_count block) p blocks spot (rw (f, g) at e))
          ]
    ]

no_blocks : (front : List (List ℕ)) (block : List ℕ) (back : List (List ℕ)) → [] ≡ front ++ block ∷ back → ⊥
no_blocks [] block back e = cc
no_blocks (b ∷ front) block back e = cc

not_refused : (o : Option SourceError) (blocks front : List (List ℕ)) (block : List ℕ) (back : List (List ℕ)) → unless_refused o blocks ≡ front ++ block ∷ back
    → blocks ≡ front ++ block ∷ back
not_refused None blocks front block back e = e
not_refused (Some error) blocks front block back e = absurd (no_blocks front block back e)

pub got_after : (front : List (List ℕ)) (block : List ℕ) (back : List (List ℕ)) → slice_get (front ++ block ∷ back) (length front) ≡ Some block
got_after [] block back = refl
got_after (b ∷ front) block back =
    let size : length (b ∷ front) ≡ suc (length front) = omega arith in
    ap (slice_get (b ∷ (front ++ block ∷ back))) size ∙ got_after front block back

concat_cut : (front : List (List ℕ)) (block : List ℕ) (back : List (List ℕ)) → concat (front ++ block ∷ back) ≡ concat front ++ (block ++ concat back)
concat_cut [] block back = refl
concat_cut (b ∷ front) block back =
    ap (λ (t : List ℕ). b ++ t) (concat_cut front block back) ∙ sym (append_assoc b (concat front) (block ++ concat back))

single_there : (front : List (List ℕ)) (block : List ℕ) (back : List (List ℕ)) → AllByRecursion OneBlock (front ++ block ∷ back)
    → AllByRecursion OneBlock front × OneBlock block
single_there [] block back single = (tt, single.0)
single_there (b ∷ front) block back single = let later = single_there front block back single.1 in ((single.0, later.0), later.1)

-- ---- the edit

-- what is offered for an item is not narrowed if it is of one byte
edit_there : (edit : EditSeen) (part : Part) → edit.part ≡ part → shown edit.text ≡ edit.text → edit_at edit edit.text (Some part) ≡ edit
edit_there edit part there printed =
    ap₂ (λ (p : Part) (t : List ℕ). record { advice = edit.advice; part = p; text = t }) (sym there) printed

narrowed_same : (block : List ℕ) (ordinal : ℕ) (item : List PlacedByte) (edit : EditSeen) → slice_get (items_of (folded_of block)) ordinal ≡ Some item
    → IsOfItem item edit → narrowed (folded_of block) edit ≡ edit
narrowed_same block ordinal item edit there of =
    let byte = of.byte in
    let part : Part = record { start = byte.1; end = suc byte.1 } in
    let found : bytes_in edit.part (folded_of block) ≡ byte ∷ [] =
    ap (λ (p : Part). bytes_in p (folded_of block)) of.there ∙ bytes_there block ordinal item of.front (byte ∷ []) of.back part there of.whole refl in
    ap (λ (l : List PlacedByte). edit_at edit (without_same (record { old = l; new = edit.text })).new
    (spanned (without_same (record { old = l; new = edit.text })).old)) found
    ∙ ap (λ e. edit_at edit e.new (spanned e.old)) (one_same byte edit.text)
    ∙ edit_there edit part of.there of.printed

advice_there : (edit : EditSeen) (new : List ℕ) (o : Option Part) → (edit_at edit new o).advice ≡ edit.advice
advice_there edit new None = refl
advice_there edit new (Some part) = refl

narrowed_advice : (text : List PlacedByte) (edit : EditSeen) → (narrowed text edit).advice ≡ edit.advice
narrowed_advice text edit =
    let e = without_same (record { old = bytes_in edit.part text; new = edit.text }) in
    advice_there edit e.new (spanned e.old)

-- another name is not certain
name_guessed : (name : List ℕ) (others : List (List ℕ)) (o : Option Part) (edit : EditSeen) → Contains (renames_in name others o) edit
    → is_certain edit.advice ≡ false
name_guessed name others None edit has = absurd (no_edit edit has)
name_guessed name others (Some part) edit has =
    let found = of_map (rename name part) (nearest name others) edit has in
    subst (λ (e : EditSeen). is_certain e.advice ≡ false) found.is refl

used_guessed : (blocks : List (List ℕ)) (at : ℕ) (o : Option (List PlacedByte)) (edit : EditSeen) → Contains (used_edits blocks at o) edit
    → is_certain edit.advice ≡ false
used_guessed blocks at None edit has = absurd (no_edit edit has)
used_guessed blocks at (Some name) edit has =
    elim (cases_Bool (is_none (owner (readings blocks) (bytes name)))) [
      | inl t ↦ name_guessed (bytes name) (given_names blocks at) (spanned name) edit (rw t at has)
      | inr f ↦ absurd (no_edit edit (rw f at has))
    ]

user_guessed : (capabilities : Capabilities) (item : List PlacedByte) (edit : EditSeen) → Contains (user_renames_by capabilities item) edit
    → is_certain edit.advice ≡ false
user_guessed Profile item edit has = absurd (no_edit edit has)
user_guessed UserDefined item edit has =
    let name = written_name item in
    elim (cases_Bool (is_unknown_name (bytes name))) [
      | inl t ↦ name_guessed (bytes name) user_names (spanned name) edit (rw t at has)
      | inr f ↦ absurd (no_edit edit (rw f at has))
    ]

guessed_not : {A : Type 0} (b : Bool) → b ≡ false → b ≡ true → A
guessed_not b is not = absurd (false≢true (sym is ∙ not))

unless_allowed : (item : List PlacedByte) (c : Code) (edit : EditSeen) (b : Bool) → Contains (certain_for item (cond b None (Some c))) edit
    → Contains (certain_for item (Some c)) edit
unless_allowed item c edit true has = absurd (no_edit edit has)
unless_allowed item c edit false has = has

by_fault : (capabilities : Capabilities) (item : List PlacedByte) (found : Option ReadFault) (edit : EditSeen)
    → Contains (certain_for item (option_and_then (code_unless capabilities) found)) edit
    → Contains (certain_for item (option_map (λ (fault : ReadFault). fault.code) found)) edit
by_fault capabilities item None edit has = has
by_fault capabilities item (Some fault) edit has = unless_allowed item fault.code edit (is_allowed capabilities fault) has

-- what is offered for an item and certain
touched : (capabilities : Capabilities) (blocks : List (List ℕ)) (at : ℕ) (block : Reading) (placed : ℕ × List PlacedByte) (edit : EditSeen) (b : Bool)
    → Contains (cond b (item_edits_by capabilities blocks at placed.0 block placed.1) []) edit → is_certain edit.advice ≡ true
    → Contains (certain_for placed.1 (option_map (λ (fault : ReadFault). fault.code) (fault_of_item placed.0 block.faults))) edit
touched capabilities blocks at block placed edit false has certain = absurd (no_edit edit has)
touched capabilities blocks at block placed edit true has certain =
    let item = placed.1 in
    let fault = fault_of_item placed.0 block.faults in
    let value = value_at placed.0 block.items in
    let uses = used_edits blocks at (used_name item) in
    let mine_all = edits_for item (option_and_then (code_unless capabilities) fault) value in
    elim (Contains-append_cases mine_all (uses ++ user_renames_by capabilities item) edit has) [
      | inl mine ↦
          by_fault capabilities item fault edit
          (these_are_certain.no_others item (option_and_then (code_unless capabilities) fault) value edit mine certain)
      | inr names ↦
          elim (Contains-append_cases uses (user_renames_by capabilities item) edit names) [
            | inl used ↦ guessed_not (is_certain edit.advice) (used_guessed blocks at (used_name item) edit used) certain
            | inr user ↦ guessed_not (is_certain edit.advice) (user_guessed capabilities item edit user) certain
          ]
    ]

-- it is one of its block's
certain_there : (block : List ℕ) (n k : ℕ) (items : List (List PlacedByte)) (item : List PlacedByte) (edit : EditSeen) → slice_get items k ≡ Some item
    → Contains (certain_for item (fault_at block (n + k))) edit → Contains (certain_from block n items) edit
certain_there block n k [] item edit there has = absurd cc
certain_there block n zero (first ∷ items) item edit there has =
    let same : first ≡ item = cc in
    let here : n + 0 ≡ n = omega arith in
    Contains-append_left (certain_for first (fault_at block n)) (certain_from block (suc n) items) edit
    (subst (λ (i : List PlacedByte). Contains (certain_for i (fault_at block n)) edit) (sym same)
    (subst (λ (m : ℕ). Contains (certain_for item (fault_at block m)) edit) here has))
certain_there block n (suc k) (first ∷ items) item edit there has =
    let next : n + suc k ≡ suc n + k = omega arith in
    Contains-append_right (certain_for first (fault_at block n)) (certain_from block (suc n) items) edit
    (certain_there block (suc n) k items item edit there (subst (λ (m : ℕ). Contains (certain_for item (fault_at block m)) edit) next has))

of_few : (item : List PlacedByte) (edits : List EditSeen) (edit : EditSeen) → HasFew item edits → Contains edits edit → IsOfItem item edit
of_few item edits edit (has_none none) has = absurd (no_edit edit (subst (λ (l : List EditSeen). Contains l edit) none has))
of_few item edits edit (has_one one is of) has =
    subst (IsOfItem item) (only_edit one edit (subst (λ (l : List EditSeen). Contains l edit) is has)) of

-- ---- the fix

-- a text does not begin within a character
abbrev pub BeginsWhole : List ℕ → Type 0
BeginsWhole [] = Unit {0}
BeginsWhole (byte ∷ rest) = 0 < units byte

whole_start : (before : ℕ) (text : List ℕ) (offset : ℕ) → is_start before text offset ≡ true → BeginsWhole (drop offset text)
whole_start before [] zero start = tt
whole_start before [] (suc offset) start = tt
whole_start before (byte ∷ rest) zero start = ltb-true 0 (units byte) (and_parts (nat_lt 0 (units byte)) _ start).0
whole_start before (byte ∷ rest) (suc offset) start = whole_start byte rest offset start

whole_front : (one other : List ℕ) → BeginsWhole (one ++ other) → BeginsWhole one
whole_front [] other is = tt
whole_front (byte ∷ one) other is = is

whole_more : (one other : List ℕ) → 0 < length one → BeginsWhole one → BeginsWhole (one ++ other)
whole_more [] other some is = absurd (omega (arith, some))
whole_more (byte ∷ one) other some is = is

-- a fix of a text is a certain edit of an item of a block, of one byte
pub record IsEditOf (text : List ℕ) (fix : FixSeen) : Type 0 where
  pub front : List (List ℕ)
  pub block : List ℕ
  pub back : List (List ℕ)
  pub ordinal : ℕ
  pub item : List PlacedByte
  pub edit : EditSeen
  pub whole : source_texts text ≡ front ++ block ∷ back
  pub there : slice_get (items_of (folded_of block)) ordinal ≡ Some item
  pub certain : Contains (certain_for item (fault_at block ordinal)) edit
  pub start : offset_of text fix.range.start ≡ length (preface_of text ++ concat front) + edit.part.start
  pub end : offset_of text fix.range.end ≡ length (preface_of text ++ concat front) + edit.part.end
  pub one : edit.part.end ≡ suc edit.part.start
  pub within : length (preface_of text ++ concat front) + edit.part.end ≤ length text
  pub gives : fix.text ≡ edit.text
  pub printed : shown fix.text ≡ fix.text
  pub later : 0 < edit.part.start
  pub next : BeginsWhole (drop (length (preface_of text ++ concat front) + edit.part.end) text)

-- it is one of the certain edits of the block
pub is_of_block : (text : List ℕ) (fix : FixSeen) (is : IsEditOf text fix) → Contains (certain_edits is.block) is.edit
is_of_block text fix is =
    certain_there is.block 0 is.ordinal (items_of (folded_of is.block)) is.item is.edit is.there
    (subst (λ (n : ℕ). Contains (certain_for is.item (fault_at is.block n)) is.edit) (sym (zero-add is.ordinal)) is.certain)

less_one : (n : ℕ) → n + 1 - 1 ≡ n
less_one n = omega arith

-- where an edit of a block is in the text
edit_placed : (text : List ℕ) (front : List (List ℕ)) (block : List ℕ) (back : List (List ℕ)) (line ordinal : ℕ) (item : List PlacedByte) (edit : EditSeen)
    → source_texts text ≡ front ++ block ∷ back → line ≡ head_line text + line_count (concat front)
    → slice_get (items_of (folded_of block)) ordinal ≡ Some item → Contains (certain_for item (fault_at block ordinal)) edit
    → edit.part.end ≡ suc edit.part.start → shown edit.text ≡ edit.text → can_be_exchanged block edit.part ≡ true → IsEditOf text (fix_of line block edit)
edit_placed text front block back line ordinal item edit whole counts there certain one printed can =
    let preface = preface_of text in
    let before = preface ++ concat front in
    let more = missing_newline text in
    let singles = single_there front block back (subst (AllByRecursion OneBlock) whole (all_single text)) in
    let joined : text ++ more ≡ before ++ (block ++ concat back) =
    sym (ended_with text) ∙ text_joined text ∙ ap (λ (bs : List (List ℕ)). preface ++ concat bs) whole
    ∙ ap (λ (t : List ℕ). preface ++ t) (concat_cut front block back) ∙ sym (append_assoc preface (concat front) (block ++ concat back)) in
    let ends : last_byte 10 before ≡ 10 =
    last_both 10 preface (concat front)
    ∙ blocks_end (last_byte 10 preface) front (preface_ends text) singles.0 in
    let block_ends = single_ends block singles.1 10 in
    let both = and_parts _ _ can in
    let first = and_parts _ _ both.0 in
    let last = and_parts _ _ both.1 in
    let first_within = ltb-true edit.part.start (length block) first.0 in
    let last_within = ltb-true edit.part.end (length block) last.0 in
    let lines : line ≡ line_count before =
    counts ∙ ap (λ (n : ℕ). n + line_count (concat front)) (less_one (line_count preface)) ∙ sym (lines_add preface (concat front)) in
    let start = leads text more before block (concat back) edit.part.start (missing_is text) joined ends block_ends first_within first.1 in
    let end = leads text more before block (concat back) edit.part.end (missing_is text) joined ends block_ends last_within last.1 in
    let size : length text + length more ≡ length before + (length block + length (concat back)) =
    sym (length-append text more) ∙ ap length joined ∙ length-append before (block ++ concat back)
    ∙ ap (λ (n : ℕ). length before + n) (length-append block (concat back)) in
    let few = missing_size more (missing_is text) in
    let at_end = length before + edit.part.end in
    let certain_of : Contains (certain_edits block) edit =
    certain_there block 0 ordinal (items_of (folded_of block)) item edit there
    (subst (λ (n : ℕ). Contains (certain_for item (fault_at block n)) edit) (sym (zero-add ordinal)) certain) in
    let rest : drop edit.part.end block ++ concat back ≡ drop at_end text ++ more =
    sym (drop-append-le edit.part.end block (concat back) (omega (arith, last_within)))
    ∙ sym (drop-append-add before (block ++ concat back) edit.part.end)
    ∙ ap (λ (t : List ℕ). drop at_end t) (sym joined)
    ∙ drop-append-le at_end text more (omega (arith, last_within, size, few)) in
    let left = length-drop edit.part.end block in
    let whole_rest : BeginsWhole (drop edit.part.end block ++ concat back) =
    whole_more (drop edit.part.end block) (concat back) (omega (arith, left, last_within)) (whole_start 0 block edit.part.end last.1) in
    record {
      front = front;
      block = block;
      back = back;
      ordinal = ordinal;
      item = item;
      edit = edit;
      whole = whole;
      there = there;
      certain = certain;
      start = ap (λ (l : ℕ). offset_of text (place (l + (position_of block edit.part.start).line) (position_of block edit.part.start).column)) lines ∙ start;
      end = ap (λ (l : ℕ). offset_of text (place (l + (position_of block edit.part.end).line) (position_of block edit.part.end).column)) lines ∙ end;
      one = one;
      within = omega (arith, last_within, size, few);
      gives = refl;
      printed = printed;
      later = certain_later block edit singles.1 certain_of;
      next = whole_front (drop at_end text) more (subst BeginsWhole rest whole_rest);
    }

-- a fix of edits of a block: the edit that it is of
record IsFixOf (line : ℕ) (block : List ℕ) (edits : List EditSeen) (fix : FixSeen) : Type 0 where
  edit : EditSeen
  narrow : EditSeen
  has : Contains edits edit
  narrows : narrowed (folded_of block) edit ≡ narrow
  can : can_be_made block narrow ≡ true
  is : fix_of line block narrow ≡ fix
  advice : edit.advice ≡ fix.advice

advice_kept : (line : ℕ) (block : List ℕ) (edit narrow : EditSeen) (fix : FixSeen) → narrowed (folded_of block) edit ≡ narrow
    → fix_of line block narrow ≡ fix → edit.advice ≡ fix.advice
advice_kept line block edit narrow fix narrows is =
    sym (narrowed_advice (folded_of block) edit) ∙ ap (λ (e : EditSeen). e.advice) narrows ∙ ap (λ (f : FixSeen). f.advice) is

fix_from : (line : ℕ) (block : List ℕ) (edits : List EditSeen) (fix : FixSeen) → Contains (fixes_in line block edits) fix → IsFixOf line block edits fix
fix_from line block edits fix has =
    let narrow = narrowed (folded_of block) in
    let made = of_map (fix_of line block) (filter (can_be_made block) (map narrow edits)) fix has in
    let kept = of_filter (can_be_made block) (map narrow edits) made.of made.has in
    let from = of_map narrow edits made.of kept.0 in
    record {
      edit = from.of;
      narrow = made.of;
      has = from.has;
      narrows = from.is;
      can = kept.1;
      is = made.is;
      advice = advice_kept line block from.of made.of fix from.is made.is;
    }

-- where it is, if the edit is a certain one of an item of the block
fix_placed : (text : List ℕ) (front : List (List ℕ)) (block : List ℕ) (back : List (List ℕ)) (line ordinal : ℕ) (item : List PlacedByte)
    (edit narrow : EditSeen) (fix : FixSeen) → source_texts text ≡ front ++ block ∷ back → line ≡ head_line text + line_count (concat front)
    → slice_get (items_of (folded_of block)) ordinal ≡ Some item → Contains (certain_for item (fault_at block ordinal)) edit
    → narrowed (folded_of block) edit ≡ narrow → can_be_made block narrow ≡ true → fix_of line block narrow ≡ fix → IsEditOf text fix
fix_placed text front block back line ordinal item edit narrow fix whole counts there mine narrows can is =
    let of = of_few item (certain_for item (fault_at block ordinal)) edit (few_certain item (fault_at block ordinal)) mine in
    let same : edit ≡ narrow = sym (narrowed_same block ordinal item edit there of) ∙ narrows in
    let single : edit.part.end ≡ suc edit.part.start =
    ap (λ (p : Part). p.end) of.there ∙ ap (λ (p : Part). suc p.start) (sym of.there) in
    let exchanged_so = (and_parts _ _ (subst (λ (e : EditSeen). can_be_made block e ≡ true) (sym same) can)).0 in
    subst (IsEditOf text) (ap (fix_of line block) same ∙ is)
    (edit_placed text front block back line ordinal item edit whole counts there mine single of.printed exchanged_so)

-- the item of an edit that is offered for one of these items
record IsOfPlace (block : List ℕ) (edit : EditSeen) : Type 0 where
  ordinal : ℕ
  item : List PlacedByte
  there : slice_get (items_of (folded_of block)) ordinal ≡ Some item
  certain : Contains (certain_for item (fault_at block ordinal)) edit

of_place : (block : List ℕ) (edit : EditSeen) (placed : ℕ × List PlacedByte) → Contains (enumerate_from 0 (items_of (folded_of block))) placed
    → Contains (certain_for placed.1 (fault_at block placed.0)) edit → IsOfPlace block edit
of_place block edit placed has certain =
    let items = items_of (folded_of block) in
    let number = numbered 0 items placed has in
    let ordinal : placed.0 ≡ number.0 = number.1 ∙ zero-add number.0 in
    record { ordinal = placed.0; item = placed.1; there = ap (slice_get items) ordinal ∙ number.2; certain = certain }

-- a fix of the block in which its range begins
of_block : (capabilities : Capabilities) (text : List ℕ) (range : Range) (fix : FixSeen) (blocks front back : List (List ℕ)) (spot : Spot)
    → source_texts text ≡ front ++ text_at blocks spot.at ∷ back → spot.line ≡ head_line text + line_count (concat front)
    → Contains (fixes_from capabilities blocks range.end spot) fix → is_certain fix.advice ≡ true → IsEditOf text fix
of_block capabilities text range fix blocks front back spot whole line has certain =
    let block = text_at blocks spot.at in
    let stretch = stretch_to block range.end spot in
    let reading = reading_of_text block in
    let of = fix_from spot.line block (edits_in capabilities blocks stretch) fix has in
    let sure : is_certain of.edit.advice ≡ true = ap is_certain of.advice ∙ certain in
    let one = of_one (touched_edits capabilities blocks stretch reading) (enumerate_from 0 (items_of (folded_of block))) of.edit of.has in
    let mine = touched capabilities blocks stretch.at reading one.of of.edit (touches stretch one.of.1) one.is sure in
    let place_of = of_place block of.edit one.of one.has mine in
    fix_placed text front block back spot.line place_of.ordinal place_of.item of.edit of.narrow fix whole line place_of.there place_of.certain of.narrows of.can
    of.is

text_there : (blocks front : List (List ℕ)) (block : List ℕ) (back : List (List ℕ)) (at : ℕ) → blocks ≡ front ++ block ∷ back → length front ≡ at
    → text_at blocks at ≡ block
text_there blocks front block back at whole is =
    ap (λ (bs : List (List ℕ)). text_at bs at) whole ∙ ap (text_at (front ++ block ∷ back)) (sym is)
    ∙ ap (λ (o : Option (List ℕ)). option_map_or (λ (text : List ℕ). text) o []) (got_after front block back)

with_block : (texts front : List (List ℕ)) (block other : List ℕ) (back : List (List ℕ)) → texts ≡ front ++ block ∷ back → other ≡ block
    → texts ≡ front ++ other ∷ back
with_block texts front block other back whole same = whole ∙ ap (λ (b : List ℕ). front ++ b ∷ back) (sym same)

by_spot : (capabilities : Capabilities) (text : List ℕ) (range : Range) (fix : FixSeen) (o : Option Spot) → spot_at text range.start ≡ o
    → Contains (option_map_or (fixes_from capabilities (held text) range.end) o []) fix → is_certain fix.advice ≡ true → IsEditOf text fix
by_spot capabilities text range fix None e has certain = absurd (contains_none fix has)
by_spot capabilities text range fix (Some spot) e has certain =
    let blocks = held text in
    let s = spot_is 0 (head_line text) (settled text range.start) blocks spot e in
    let whole = not_refused (source_refusal text) (source_texts text) s.front s.block s.back s.whole in
    let there = text_there blocks s.front s.block s.back spot.at s.whole (sym (s.is ∙ zero-add (length s.front))) in
    of_block capabilities text range fix blocks s.front s.back spot
    (with_block (source_texts text) s.front s.block (text_at blocks spot.at) s.back whole there) s.line has certain

-- each fix that is certain
pub certain_fix : (capabilities : Capabilities) (text : List ℕ) (range : Range) (fix : FixSeen) → Contains (fixes_of capabilities text range) fix
    → is_certain fix.advice ≡ true → IsEditOf text fix
certain_fix capabilities text range fix has certain = by_spot capabilities text range fix (spot_at text range.start) refl has certain
