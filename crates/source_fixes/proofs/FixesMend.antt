-- Each fix of a text heals its item in the text as the client has it after the edit.
use Rattle.std.proofs.Common.{◌≡◌, ◌≢◌, ℕ, zero, suc, ◌+◌, ◌-◌, ◌<◌, ◌≤◌, ◌==◌, nat_lt, All, Bool, true, false, Contains, List, [], ◌∷◌, ◌++◌, append_assoc}
use Rattle.std.proofs.Common.{cond, drop, filter, flat_map, get_or, length, map, take, Option, None, Some, slice_get, slice_set, sum_by, inl, inr, refl}
use Rattle.std.proofs.Common.{sym, ap, ap₂, subst, ◌∙◌, arith, zero-add}
use Rattle.std.specs.List.{concat, enumerate_from}
use Rattle.std.specs.Prelude.{option_and_then, option_map}
use Rattle.std.specs.Option.{option_map_or}
use Rattle.std.proofs.lemmas.Bool.{and_parts, cases_Bool, eq-eqb, leb-true, lt-ltb, ltb-true, ne_eqb}
use Rattle.std.proofs.lemmas.List.{append-nil}
use Rattle.std.proofs.lemmas.List.Elements.{All-cons, All-head, All-nil, All-tail, Contains-append_cases, Contains-append_left, Contains-append_right}
use Rattle.std.proofs.lemmas.List.Sums.{sum_by-append}
use Rattle.std.proofs.lemmas.Option.{same_Some}
use Rattle.ti_text.specs.Lines.{line_count}
use Rattle.ti_text.specs.Texts.{AreBytes, last_byte}
use Rattle.ti_text.proofs.LineLaws.{lines_add}
use Rattle.ti_source.specs.Cutting.{AreBlocks, Cut, HasOneHead, OneBlock, blocks_from_head, front_of}
use Rattle.ti_source.specs.Folding.{PlacedByte}
use Rattle.ti_source.specs.Parsing.{reading_of_text}
use Rattle.ti_source.specs.Reading.{ReadFault, Reading}
use Rattle.ti_source.specs.declared.code.Code.{Code}
use Rattle.ti_source.proofs.CutLemmas.{each_has_cut, one_cut_law}
use Rattle.tools_sources.specs.Sources.{preface_of, source_refusal, source_texts, with_last_newline}
use Rattle.tools_sources.specs.declared.source_error.SourceError.{SourceError}
use Rattle.tools_sources.proofs.Refusing.{ends_with_newline}
use Rattle.source_types.specs.declared.places.Position.{Position}
use Rattle.source_types.specs.declared.places.Range.{Range}
use Rattle.source_spans.specs.Folding.{folded_of}
use Rattle.source_spans.specs.Subjects.{items_of, used_name}
use Rattle.source_document.specs.Diagnostics.{text_at}
use Rattle.source_document.specs.Documents.{HeldBlocksFit, held, unless_refused}
use Rattle.source_places.specs.Position.{is_start}
use Rattle.source_blocks.specs.Spots.{head_line, settled, spot_at, spot_from}
use Rattle.source_blocks.specs.declared.spots.Spot.{Spot}
use Rattle.source_spans.specs.declared.parts.Part.{Part}
use Rattle.source_blocks.specs.Places.{can_be_exchanged, missing_newline}
use Rattle.source_keeping.specs.Keeping.{EditsInLinesKeepLines, KeepsLines, stays_in_line}
use Rattle.source_edits.specs.Edits.{EditSeen, edits_for}
use Rattle.source_edits.specs.Narrowing.{narrowed}
use Rattle.source_fixes.specs.Applied.{AsciiPlacesAreStarts, FixesHeal, IsHealing, client_edited}
use Rattle.source_fixes.specs.UserNames.{user_renames, user_renames_by}
use Rattle.source_fixes.specs.Fixes.{FixSeen, code_by, code_unless, edits_in, fault_of_item, fix_of, fixes_from, is_allowed, item_edits, item_edits_by, stretch_to, touched_edits, touches}
use Rattle.source_fixes.specs.Fixes.{can_be_made, used_edits, value_at}
use Rattle.source_diagnostics.specs.declared.capabilities.Capabilities.{Capabilities}
use Rattle.source_diagnostics.specs.declared.capabilities.Capabilities.TheVariants.{Profile, UserDefined}
use Rattle.source_fixes.specs.Healing.{IsInLine, IsPartOf, block_after}
use Rattle.source_fixes.specs.declared.fixes.Stretch.{Stretch}
use Rattle.source_blocks.proofs.Placing.{IsMissing, ended_with, missing_is}
use Rattle.source_fixes.proofs.Applying.{IsPlaced, applied_in, exchanged_in, lines_held, still_open}
use Rattle.source_fixes.proofs.EditsMend.{EditsFit}
use Rattle.source_fixes.proofs.Narrows.{HealsNarrowed, narrowed_heals}
use Rattle.source_blocks.proofs.Outlines.{text_got}

-- ---- an element of a list that is made of another

record IsMapped {X Y : Type 0} (f : X → Y) (xs : List X) (y : Y) : Type 0 where
  of : X
  has : Contains xs of
  is : f of ≡ y

mapped_at : {X Y : Type 0} (f : X → Y) (xs : List X) (y : Y) (i : ℕ) → i < length (map f xs) → get_or (map f xs) i y ≡ y → IsMapped f xs y
mapped_at f [] y i within e = absurd (omega (arith, within))
mapped_at f (x ∷ xs) y zero within e = record { of = x; has = (0, omega arith, refl); is = e }
mapped_at f (x ∷ xs) y (suc i) within e =
    let later = mapped_at f xs y i (omega (arith, within)) e in
    let has = later.has in
    let less = has.1 in
    record { of = later.of; has = (suc has.0, omega (arith, less), has.2); is = later.is }

pub record IsOfOne {X Y : Type 0} (f : X → List Y) (xs : List X) (y : Y) : Type 0 where
  pub of : X
  pub has : Contains xs of
  pub is : Contains (f of) y

pub of_one : {X Y : Type 0} (f : X → List Y) (xs : List X) (y : Y) → Contains (flat_map f xs) y → IsOfOne f xs y
of_one f [] y has = let less = has.1 in absurd (omega (arith, less))
of_one f (x ∷ xs) y has =
    elim (Contains-append_cases (f x) (flat_map f xs) y has) [
      | inl first ↦ record { of = x; has = (0, omega arith, refl); is = first }
      | inr later ↦
          let found = of_one f xs y later in
          let has = found.has in
          let less = has.1 in
          record { of = found.of; has = (suc has.0, omega (arith, less), has.2); is = found.is }
    ]

numbered_at : {X : Type 0} (n : ℕ) (xs : List X) (p : ℕ × X) (i : ℕ) → i < length (enumerate_from n xs) → get_or (enumerate_from n xs) i p ≡ p → (k : ℕ)
    × (p.0 ≡ n + k) × (slice_get xs k ≡ Some p.1)
numbered_at n [] p i within e = absurd (omega (arith, within))
numbered_at n (x ∷ xs) p zero within e = let first = ap (λ (q : ℕ × _). q.0) e in (0, omega (arith, first), ap (λ (q : ℕ × _). Some q.1) e)
numbered_at n (x ∷ xs) p (suc i) within e =
    let later = numbered_at (n + 1) xs p i (omega (arith, within)) e in
    let is = later.1 in
    (suc later.0, omega (arith, is), later.2)

-- ---- the block in which a fix is

sum_first : (block : List ℕ) (blocks : List (List ℕ)) → sum_by line_count (block ∷ blocks) ≡ line_count block + sum_by line_count blocks
sum_first block blocks = sum_by-append line_count (block ∷ []) blocks ∙ ap (λ (n : ℕ). n + sum_by line_count blocks) (zero-add (line_count block))

pub record IsSpot (at first : ℕ) (blocks : List (List ℕ)) (spot : Spot) : Type 0 where
  pub place : ℕ
  pub is : spot.at ≡ at + place
  pub within : place < length blocks
  pub line : spot.line ≡ first + sum_by line_count (take place blocks)

pub spot_is : (at first : ℕ) (p : Position) (blocks : List (List ℕ)) (spot : Spot) → spot_from at first p blocks ≡ Some spot → IsSpot at first blocks spot
spot_is at first p [] spot e = absurd cc
spot_is at first p (block ∷ blocks) spot e =
    elim (cases_Bool (nat_lt p.line first)) [
      | inl t ↦ let none : None ≡ Some spot = rw t at e in absurd cc
      | inr f ↦
          elim (cases_Bool (nat_lt p.line (first + line_count block))) [
            | inl t ↦
                let is = same_Some _ spot (rw (f, t) at e) in
                let here : at ≡ spot.at = ap (λ (s : Spot). s.at) is in
                let line : first ≡ spot.line = ap (λ (s : Spot). s.line) is in
                record {
                  place = 0;
                  is = omega (arith, here);
                  within = omega arith;
                  line = let none : sum_by line_count (take 0 (block ∷ blocks)) ≡ 0 =
                      refl in omega (arith, line, none);
                }
            | inr g ↦
                let later = spot_is (suc at) (first + line_count block) p blocks spot (rw (f, g) at e) in
                let is = later.is in
                let within = later.within in
                let line = later.line in
                let sum : sum_by line_count (take (suc later.place) (block ∷ blocks)) ≡ line_count block + sum_by line_count (take later.place blocks) =
                sum_first block (take later.place blocks) in
                record { place = suc later.place; is = omega (arith, is); within = omega (arith, within); line = omega (arith, line, sum) }
          ]
    ]

-- ---- the text before and after the block

concat_cut : (blocks : List (List ℕ)) (k : ℕ) → k < length blocks → concat blocks ≡ concat (take k blocks) ++ (text_at blocks k ++ concat (drop (suc k) blocks))
concat_cut [] k within = absurd (omega (arith, within))
concat_cut (block ∷ blocks) zero within = refl
concat_cut (block ∷ blocks) (suc k) within =
    ap (λ (t : List ℕ). block ++ t) (concat_cut blocks k (omega (arith, within)))
    ∙ sym (append_assoc block (concat (take k blocks)) (text_at blocks k ++ concat (drop (suc k) blocks)))

lines_of_all : (blocks : List (List ℕ)) → line_count (concat blocks) ≡ sum_by line_count blocks
lines_of_all [] = refl
lines_of_all (block ∷ blocks) = lines_add block (concat blocks) ∙ ap (λ (n : ℕ). line_count block + n) (lines_of_all blocks) ∙ sym (sum_first block blocks)

last_both : (before : ℕ) (one other : List ℕ) → last_byte before (one ++ other) ≡ last_byte (last_byte before one) other
last_both before [] other = refl
last_both before (x ∷ xs) other = last_both x xs other

ends_before : (before : ℕ) (blocks : List (List ℕ)) (k : ℕ) → k < length blocks → AreBlocks before blocks → last_byte before (concat (take k blocks)) ≡ 10
ends_before before [] k within are = absurd (omega (arith, within))
ends_before before (block ∷ blocks) zero within are = are.0
ends_before before (block ∷ blocks) (suc k) within are =
    last_both before block (concat (take k blocks)) ∙ ends_before (last_byte before block) blocks k (omega (arith, within)) are.2

-- a block that is one ends with a newline
pub block_ends : (block : List ℕ) → OneBlock block → last_byte 10 block ≡ 10
block_ends [] single = refl
block_ends (x ∷ xs) single = single.ends

-- ---- the newline that a text may lack

ended : (text : List ℕ) → last_byte 10 text ≡ 10 → with_last_newline text ≡ text
ended text last = let is = eq-eqb (last_byte 10 text) 10 last in rw is refl

still_ended : (text : List ℕ) → last_byte 10 text ≢ 10 → with_last_newline text ≡ text ++ 10 ∷ []
still_ended text unended = let is = ne_eqb (last_byte 10 text) 10 unended in rw is refl

pub record IsCutIn (text : List ℕ) (blocks : List (List ℕ)) (k : ℕ) : Type 0 where
  pub whole : with_last_newline text ≡ (preface_of text ++ concat (take k blocks)) ++ (text_at blocks k ++ concat (drop (suc k) blocks))
  pub ends : last_byte 10 (preface_of text ++ concat (take k blocks)) ≡ 10
  pub lines : line_count (preface_of text ++ concat (take k blocks)) ≡ head_line text + sum_by line_count (take k blocks)

not_refused : (o : Option SourceError) (blocks : List (List ℕ)) (k : ℕ) → k < length (unless_refused o blocks) → unless_refused o blocks ≡ blocks
not_refused None blocks k within = refl
not_refused (Some error) blocks k within = absurd (omega (arith, within))

less_one : (n : ℕ) → n + 1 - 1 ≡ n
less_one n = omega arith

pub cut_at : (text : List ℕ) (k : ℕ) → k < length (held text) → IsCutIn text (held text) k
cut_at text k within =
    let blocks = source_texts text in
    let preface = preface_of text in
    let same : held text ≡ blocks = not_refused (source_refusal text) blocks k within in
    let cut = each_has_cut (with_last_newline text) in
    let inside : k < length blocks = subst (λ (b : List (List ℕ)). k < length b) same within in
    let whole : with_last_newline text ≡ (preface ++ concat (take k blocks)) ++ (text_at blocks k ++ concat (drop (suc k) blocks)) =
    cut.whole ∙ ap (λ (t : List ℕ). preface ++ t) (concat_cut blocks k inside)
    ∙ sym (append_assoc preface (concat (take k blocks)) (text_at blocks k ++ concat (drop (suc k) blocks))) in
    let lines : line_count (preface ++ concat (take k blocks)) ≡ head_line text + sum_by line_count (take k blocks) =
    lines_add preface (concat (take k blocks)) ∙ ap₂ (λ (a b : ℕ). a + b) (sym (less_one (line_count preface))) (lines_of_all (take k blocks)) in
    subst (λ (b : List (List ℕ)). IsCutIn text b k) (sym same)
    (record {
      whole = whole;
      ends = last_both 10 preface (concat (take k blocks)) ∙ ends_before (last_byte 10 preface) blocks k inside cut.each;
      lines =
          lines;
    })

-- ---- the blocks of the text once that block is another

concat_set : (blocks : List (List ℕ)) (k : ℕ) (block : List ℕ) → k < length blocks → concat (slice_set blocks k block) ≡ concat (take k blocks)
    ++ (block ++ concat (drop (suc k) blocks))
concat_set [] k block within = absurd (omega (arith, within))
concat_set (one ∷ blocks) zero block within = refl
concat_set (one ∷ blocks) (suc k) block within =
    ap (λ (t : List ℕ). one ++ t) (concat_set blocks k block (omega (arith, within)))
    ∙ sym (append_assoc one (concat (take k blocks)) (block ++ concat (drop (suc k) blocks)))

next_blocks : (one other : ℕ) (blocks : List (List ℕ)) → other ≡ 10 → AreBlocks one blocks → AreBlocks other blocks
next_blocks one other [] e are = tt
next_blocks one other ([] ∷ blocks) e are = absurd are.1
next_blocks one other ((x ∷ xs) ∷ blocks) e are = (e, are.1, are.2)

blocks_set : (before : ℕ) (blocks : List (List ℕ)) (k : ℕ) (block : List ℕ) → HasOneHead block → ((b : ℕ) → last_byte b block ≡ 10)
    → AreBlocks before blocks → AreBlocks before (slice_set blocks k block)
blocks_set before [] k block head ends are = tt
blocks_set before (one ∷ blocks) zero block head ends are =
    (are.0, head, next_blocks (last_byte before one) (last_byte before block) blocks (ends before) are.2)
blocks_set before (one ∷ blocks) (suc k) block head ends are = (are.0, are.1, blocks_set (last_byte before one) blocks k block head ends are.2)

single_ends : (block : List ℕ) → OneBlock block → (b : ℕ) → last_byte b block ≡ 10
single_ends [] single b = absurd single.cut.each.1
single_ends (x ∷ xs) single b = single.ends

-- a block in the place of another: the text ends with a newline too, and these are its blocks
pub record IsSet (text : List ℕ) (k : ℕ) (block other : List ℕ) : Type 0 where
  pub ends : last_byte 10 other ≡ 10
  pub blocks : blocks_from_head 10 other ≡ slice_set (held text) k block

pub blocks_with : (text : List ℕ) (k : ℕ) (block : List ℕ) → k < length (held text) → OneBlock (text_at (held text) k) → OneBlock block
    → IsSet text k block ((preface_of text ++ concat (take k (held text))) ++ (block ++ concat (drop (suc k) (held text))))
blocks_with text k block within was single =
    let blocks = held text in
    let preface = preface_of text in
    let same : blocks ≡ source_texts text = not_refused (source_refusal text) (source_texts text) k within in
    let old = each_has_cut (with_last_newline text) in
    let at = cut_at text k within in
    let front = preface ++ concat (take k blocks) in
    let back = concat (drop (suc k) blocks) in
    let other = front ++ (block ++ back) in
    let ends_with : (b : List ℕ) → last_byte 10 b ≡ 10 → last_byte 10 (front ++ (b ++ back)) ≡ last_byte 10 back =
    λ b e. last_both 10 front (b ++ back) ∙ ap (λ (n : ℕ). last_byte n (b ++ back)) at.ends ∙ last_both 10 b back ∙ ap (λ (n : ℕ). last_byte n back) e in
    let back_ends : last_byte 10 back ≡ 10 =
    sym (ends_with (text_at blocks k) (single_ends (text_at blocks k) was 10)) ∙ ap (last_byte 10) (sym at.whole) ∙ ends_with_newline text in
    let now : Cut other preface (slice_set blocks k block) = record {
      whole = append_assoc preface (concat (take k blocks)) (block ++ back) ∙ ap (λ (t : List ℕ). preface ++ t) (sym (concat_set blocks k block within));
      front = old.front;
      each = blocks_set (last_byte 10 preface) blocks k block single.cut.each.1 (single_ends block single)
          (subst (AreBlocks (last_byte 10 preface)) (sym same) old.each);
    } in
    let found = each_has_cut other in
    record {
      ends = ends_with block (single_ends block single 10) ∙ back_ends;
      blocks =
          (one_cut_law other (front_of 10 other) preface (blocks_from_head 10 other) (slice_set blocks k block) found now).1;
    }

-- ---- bytes of a part

bytes_back : (front back : List ℕ) → AreBytes (front ++ back) → AreBytes back
bytes_back [] back are = are
bytes_back (x ∷ xs) back are = bytes_back xs back (All-tail (λ b. b < 256) x (xs ++ back) are)

bytes_front : (front back : List ℕ) → AreBytes (front ++ back) → AreBytes front
bytes_front [] back are = All-nil (λ b. b < 256)
bytes_front (x ∷ xs) back are =
    All-cons (λ b. b < 256) x xs (All-head (λ b. b < 256) x (xs ++ back) are) (bytes_front xs back (All-tail (λ b. b < 256) x (xs ++ back) are))

bytes_both : (front back : List ℕ) → AreBytes front → AreBytes back → AreBytes (front ++ back)
bytes_both [] back are more = more
bytes_both (x ∷ xs) back are more =
    All-cons (λ b. b < 256) x (xs ++ back) (All-head (λ b. b < 256) x xs are) (bytes_both xs back (All-tail (λ b. b < 256) x xs are) more)

newline_byte : AreBytes (10 ∷ [])
newline_byte = All-cons (λ b. b < 256) 10 [] (omega arith) (All-nil (λ b. b < 256))

missing_bytes : (more : List ℕ) → IsMissing more → AreBytes more
missing_bytes more missing =
    elim missing [ inl none ↦ subst AreBytes (sym none) (All-nil (λ b. b < 256)) | inr newline ↦ subst AreBytes (sym newline) newline_byte ]

-- ---- an edit that an editor can make

abbrev IsKept : (EditSeen → Bool) → List EditSeen → EditSeen → Type 0
IsKept p xs y = Contains xs y × (p y ≡ true)

kept_later : (p : EditSeen → Bool) (x : EditSeen) (xs : List EditSeen) (y : EditSeen) → IsKept p xs y → IsKept p (x ∷ xs) y
kept_later p x xs y later =
    let has = later.0 in
    let less = has.1 in
    ((suc has.0, omega (arith, less), has.2), later.1)

kept_by : (p : EditSeen → Bool) (x : EditSeen) (xs : List EditSeen) (y : EditSeen) (b : Bool) → p x ≡ b
    → ((k : ℕ) → k < length (filter p xs) → get_or (filter p xs) k y ≡ y → IsKept p xs y)
    → (i : ℕ) → i < length (cond b (x ∷ filter p xs) (filter p xs)) → get_or (cond b (x ∷ filter p xs) (filter p xs)) i y ≡ y → IsKept p (x ∷ xs) y
kept_by p x xs y false t rest i within e = kept_later p x xs y (rest i within e)
kept_by p x xs y true t rest zero within e = ((0, omega arith, e), ap p (sym e) ∙ t)
kept_by p x xs y true t rest (suc i) within e = kept_later p x xs y (rest i (omega (arith, within)) e)

kept_at : (p : EditSeen → Bool) (xs : List EditSeen) (y : EditSeen) (i : ℕ) → i < length (filter p xs) → get_or (filter p xs) i y ≡ y → IsKept p xs y
kept_at p [] y i within e = absurd (omega (arith, within))
kept_at p (x ∷ xs) y i within e = kept_by p x xs y (p x) refl (λ k less is. kept_at p xs y k less is) i within e

pub placed_part : (block : List ℕ) (part : Part) → can_be_exchanged block part ≡ true → IsPartOf block part → IsPlaced block part
placed_part block part can is =
    let both = and_parts _ _ can in
    let start = and_parts _ _ both.0 in
    let end = and_parts _ _ both.1 in
    record { is = is; within = ltb-true part.end (length block) end.0; start = start.1; end = end.1 }

-- ---- the fix

pub record IsMade (text front block back : List ℕ) (edit : EditSeen) (fix : FixSeen) : Type 0 where
  pub applied : client_edited text fix ++ missing_newline text ≡ front ++ (block_after block edit ++ back)
  pub ended_so : last_byte 10 (front ++ (block_after block edit ++ back)) ≡ 10 → with_last_newline (client_edited text fix) ≡ front
      ++ (block_after block edit ++ back)
  pub lines : KeepsLines text (client_edited text fix)

pub made_at : EditsInLinesKeepLines → (text front block back : List ℕ) (line : ℕ) (edit : EditSeen) → with_last_newline text ≡ front ++ (block ++ back) → line ≡ line_count front
    → last_byte 10 front ≡ 10 → last_byte 10 block ≡ 10
    → IsPlaced block edit.part → IsInLine block edit.part edit.text → edit.part.start ≤ edit.part.end
    → stays_in_line block edit.part.start edit.part.end edit.text ≡ true → IsMade text front block back edit (fix_of line block edit)
made_at keeps text front block back line edit whole counts ends one placed in_line forward stays =
    let more = missing_newline text in
    let after = front ++ (block_after block edit ++ back) in
    let joined : text ++ more ≡ front ++ (block ++ back) = sym (ended_with text) ∙ whole in
    let is = applied_in text more front block back edit.part edit.text (missing_is text) joined ends one placed in
    let client = exchanged_in text front block edit.part edit.text in
    let closed : last_byte 10 after ≡ 10 → with_last_newline client ≡ after =
    λ last.
    elim (cases_Bool (last_byte 10 text == 10)) [
      | inl t ↦
          let bare : missing_newline text ≡ [] = rw t refl in
          let same : client ≡ after = sym (append-nil client) ∙ ap (λ (m : List ℕ). client ++ m) (sym bare) ∙ is.applied in
          ended client (ap (last_byte 10) same ∙ last) ∙ same
      | inr f ↦
          let newline : missing_newline text ≡ 10 ∷ [] = rw f refl in
          let unended : last_byte 10 text ≢ 10 = λ e. let yes = eq-eqb (last_byte 10 text) 10 e in cc in
          let still = subst (λ (t : List ℕ). last_byte 10 t ≢ 10) (sym is.is_spliced)
          (still_open text front block back edit.text more edit.part unended joined ends placed.is in_line is.within) in
          still_ended client still ∙ ap (λ (m : List ℕ). client ++ m) (sym newline) ∙ is.applied
    ] in
    let within = placed.within in
    let kept = lines_held keeps text more front block back edit.part edit.text joined ends forward (omega (arith, within)) is.within stays in
    subst (λ (l : ℕ). IsMade text front block back edit (fix_of l block edit)) (sym counts)
    (record { applied = is.applied; ended_so = closed; lines = subst (KeepsLines text) (sym is.is_spliced) kept })

-- what is offered for an item in a source with some capabilities is offered for it in the profile
unless_allowed : (item : List PlacedByte) (value : Option (List ℕ)) (used : List EditSeen) (code : Code) (edit : EditSeen) (b : Bool)
    → Contains (edits_for item (cond b None (Some code)) value ++ used) edit → Contains (edits_for item (Some code) value ++ used) edit
unless_allowed item value used code edit true has = Contains-append_right (edits_for item (Some code) value) used edit has
unless_allowed item value used code edit false has = has

by_fault : (capabilities : Capabilities) (item : List PlacedByte) (value : Option (List ℕ)) (used : List EditSeen) (found : Option ReadFault) (edit : EditSeen)
    → Contains (edits_for item (option_and_then (code_unless capabilities) found) value ++ used) edit
    → Contains (edits_for item (option_map (λ (fault : ReadFault). fault.code) found) value ++ used) edit
by_fault capabilities item value used None edit has = has
by_fault capabilities item value used (Some fault) edit has = unless_allowed item value used fault.code edit (is_allowed capabilities fault) has

by_names : (capabilities : Capabilities) (item : List PlacedByte) (first used : List EditSeen) (edit : EditSeen)
    → Contains (first ++ (used ++ user_renames_by capabilities item)) edit → Contains (first ++ (used ++ user_renames item)) edit
by_names UserDefined item first used edit has = has
by_names Profile item first used edit has =
    elim (Contains-append_cases first (used ++ []) edit has) [
      | inl before ↦ Contains-append_left first (used ++ user_renames item) edit before
      | inr after ↦
          Contains-append_right first (used ++ user_renames item) edit
          (Contains-append_left used (user_renames item) edit (subst (λ (l : List EditSeen). Contains l edit) (append-nil used) after))
    ]

-- an item that a stretch touches
touched : (capabilities : Capabilities) (blocks : List (List ℕ)) (stretch : Stretch) (block : Reading) (placed : ℕ × List PlacedByte) (edit : EditSeen) (b : Bool)
    → Contains (cond b (item_edits_by capabilities blocks stretch.at placed.0 block placed.1) []) edit
    → Contains (item_edits blocks stretch.at placed.0 block placed.1) edit
touched capabilities blocks stretch block placed edit true has =
    by_fault capabilities placed.1 (value_at placed.0 block.items) (used_edits blocks stretch.at (used_name placed.1) ++ user_renames placed.1)
    (fault_of_item placed.0 block.faults) edit
    (by_names capabilities placed.1 (edits_for placed.1 (code_by capabilities placed.0 block.faults) (value_at placed.0 block.items))
    (used_edits blocks stretch.at (used_name placed.1)) edit has)
touched capabilities blocks stretch block placed edit false has = let less = has.1 in absurd (omega (arith, less))

by_spot : EditsFit → HeldBlocksFit → EditsInLinesKeepLines → (capabilities : Capabilities) (text : List ℕ) (range : Range) (fix : FixSeen) (o : Option Spot) → AreBytes text → spot_at text range.start ≡ o
    → Contains (option_map_or (fixes_from capabilities (held text) range.end) o []) fix → IsHealing text fix
by_spot heals fit keeps capabilities text range fix None are e has = let less = has.1 in absurd (omega (arith, less))
by_spot heals fit keeps capabilities text range fix (Some spot) are e has =
    let blocks = held text in
    let at = spot.at in
    let s = spot_is 0 (head_line text) (settled text range.start) blocks spot e in
    let same : at ≡ s.place = s.is ∙ zero-add s.place in
    let inside = s.within in
    let within : at < length blocks = omega (arith, same, inside) in
    let cut = cut_at text at within in
    let front = preface_of text ++ concat (take at blocks) in
    let back = concat (drop (suc at) blocks) in
    let block = text_at blocks at in
    let line : spot.line ≡ line_count front = s.line ∙ ap (λ (k : ℕ). head_line text + sum_by line_count (take k blocks)) (sym same) ∙ sym cut.lines in
    let single : OneBlock block = subst OneBlock (sym (text_got blocks at within)) ((fit text).1 at [] within).1 in
    let stretch = stretch_to block range.end spot in
    let items = items_of (folded_of block) in
    let reading = reading_of_text block in
    let edits = edits_in capabilities blocks stretch in
    let can = can_be_made block in
    let narrow = narrowed (folded_of block) in
    let made = mapped_at (fix_of spot.line block) (filter can (map narrow edits)) fix has.0 has.1 has.2 in
    let edit = made.of in
    let kept = kept_at can (map narrow edits) edit made.has.0 made.has.1 made.has.2 in
    let kept_has = kept.0 in
    let from = mapped_at narrow edits edit kept_has.0 kept_has.1 kept_has.2 in
    let wide = from.of in
    let can_parts = and_parts _ _ kept.1 in
    let can_stay = and_parts _ _ can_parts.1 in
    let one = of_one (touched_edits capabilities blocks stretch reading) (enumerate_from 0 items) wide from.has in
    let placed = one.of in
    let numbered = numbered_at 0 items placed one.has.0 one.has.1 one.has.2 in
    let ordinal : placed.0 ≡ numbered.0 = numbered.1 ∙ zero-add numbered.0 in
    let there : slice_get items placed.0 ≡ Some placed.1 = ap (slice_get items) ordinal ∙ numbered.2 in
    let joined : text ++ missing_newline text ≡ front ++ (block ++ back) = sym (ended_with text) ∙ cut.whole in
    let all_bytes = subst AreBytes joined (bytes_both text (missing_newline text) are (missing_bytes (missing_newline text) (missing_is text))) in
    let block_bytes : AreBytes block = bytes_front block back (bytes_back front (block ++ back) all_bytes) in
    let fits = heals blocks at placed.0 placed.1 wide (λ i d w. ((fit text).1 i d w).1) within block_bytes there
    (touched capabilities blocks stretch reading placed wide (touches stretch placed.1) one.is) in
    let healed : HealsNarrowed blocks at placed.0 edit =
    subst (HealsNarrowed blocks at placed.0) from.is (narrowed_heals blocks at placed.0 placed.1 wide single there fits.0 fits.1 fits.2) in
    let now : IsMade text front block back edit fix =
    subst (IsMade text front block back edit) made.is
    (made_at keeps text front block back spot.line edit cut.whole line cut.ends (block_ends block single)
    (placed_part block edit.part can_parts.0 healed.1.0) healed.1.2 (leb-true edit.part.start edit.part.end can_stay.0) can_stay.1) in
    let set = blocks_with text at (block_after block edit) within single healed.1.1 in
    record {
      at = at;
      ordinal = placed.0;
      edit = edit;
      front = front;
      back = back;
      before = refl;
      whole = joined;
      heals = healed.0;
      applied = now.applied;
      cut = ap (blocks_from_head 10) (now.ended_so set.ends) ∙ set.blocks;
      lines = now.lines;
    }

pub fixes_mend : EditsFit → HeldBlocksFit → EditsInLinesKeepLines → FixesHeal
fixes_mend heals fit keeps capabilities text range fix are has =
    by_spot heals fit keeps capabilities text range fix (spot_at text range.start) are refl has

-- ---- places in ASCII

starts_from : (before : ℕ) (text : List ℕ) (offset : ℕ) → (before == 13) ≡ false → All (λ byte. byte < 128) text → All (λ byte. byte ≢ 13) text
    → is_start before text offset ≡ true
starts_from before [] offset other low none = refl
starts_from before (byte ∷ bytes) zero other low none = rw (lt-ltb byte 128 (All-head (λ b. b < 128) byte bytes low), other) refl
starts_from before (byte ∷ bytes) (suc offset) other low none =
    starts_from byte bytes offset (ne_eqb byte 13 (All-head (λ b. b ≢ 13) byte bytes none)) (All-tail (λ b. b < 128) byte bytes low)
    (All-tail (λ b. b ≢ 13) byte bytes none)

pub ascii_starts : AsciiPlacesAreStarts
ascii_starts text offset low none = starts_from 0 text offset refl low none
