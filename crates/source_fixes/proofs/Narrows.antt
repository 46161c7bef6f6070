-- An edit without the bytes that it leaves as they are heals its item as the whole edit does.
use Rattle.std.proofs.Common.{◌≡◌, ℕ, suc, List, [], ◌∷◌, ◌++◌, drop, Option, None, Some, slice_get, take}
use Rattle.std.proofs.Common.{inl, inr, refl, sym, ap, ap₂, subst, ◌∙◌}
use Rattle.std.specs.Option.{option_and_then}
use Rattle.std.proofs.lemmas.List.{drop-map, take-map}
use Rattle.std.proofs.lemmas.Option.{slice_get-map}
use Rattle.ti_source.specs.Cutting.{OneBlock}
use Rattle.ti_source.specs.Folding.{PlacedByte}
use Rattle.ti_source.specs.Items.{without_front}
use Rattle.ti_source.specs.Verdicts.{said_by}
use Rattle.ti_source.specs.declared.code.Code.{Code}
use Rattle.ti_source.specs.declared.code.Code.TheVariants as code
use Rattle.source_spans.specs.Folding.{folded_of}
use Rattle.source_spans.specs.Parts.{end_of, field_of, items_after, rest_of, spanned}
use Rattle.source_spans.specs.Replacing.{Replaces, fault_at, item_texts, said_at}
use Rattle.source_spans.specs.Subjects.{head_text, items_of}
use Rattle.source_spans.specs.declared.parts.Part.{Part}
use Rattle.source_spans.proofs.Exchanging.{found_raw, one_replaced, placed_at, regroup}
use Rattle.source_spans.proofs.Recutting.{front_split}
use Rattle.source_spans.proofs.Rereading.{fault_by, fault_is, said_is, verdict_in}
use Rattle.source_document.specs.Diagnostics.{text_at}
use Rattle.source_edits.specs.Edits.{EditSeen}
use Rattle.source_edits.specs.Laws.{IsInOrder}
use Rattle.source_edits.specs.Narrowing.{edit_at, narrowed, without_same}
use Rattle.source_edits.specs.Pieces.{bytes_in}
use Rattle.source_edits.specs.Shown.{shown, shown_byte}
use Rattle.source_edits.proofs.Exchanging.{any_cut, middle_kept}
use Rattle.source_edits.proofs.InOrder.{folded_in_order}
use Rattle.source_fixes.specs.Healing.{Heals, IsFixed, OneItemChanges, Stays, block_after}
use Rattle.source_fixes.proofs.Changing.{changes_by_texts}
use Rattle.source_fixes.proofs.Fitting.{Fits, IsOne}
use Rattle.source_fixes.proofs.ItemParts.{replaced_part}
use Rattle.source_fixes.proofs.NamesKept.{owner_kept}
use Rattle.source_fixes.proofs.Shrinking.{narrowed_replaces, one_same}

-- ---- a part of an item in its block

part_there : (text : List PlacedByte) (ordinal : ℕ) (raw front : List PlacedByte) (x : PlacedByte) (xs back : List PlacedByte)
    → slice_get (items_after 44 (rest_of text)) ordinal ≡ Some raw → without_front raw ≡ front ++ ((x ∷ xs) ++ back)
    → (before : List PlacedByte) × (after : List PlacedByte) × (text ≡ before ++ ((x ∷ xs) ++ after))
part_there text ordinal raw front x xs back there shows =
    let placed = placed_at text ordinal raw x front (xs ++ back) there shows in
    let field = field_of text in
    let comma = placed.rest.comma in
    let before = placed.at.front in
    let tail = placed.at.tail in
    let split = front_split raw in
    let white = split.white in
    let raw_is : raw ≡ white ++ (front ++ ((x ∷ xs) ++ back)) = split.whole ∙ ap (λ (t : List PlacedByte). white ++ t) shows in (
      field ++ comma ∷ (before ++ (white ++ front)),
      back ++ tail,
      placed.rest.whole ∙ ap (λ (t : List PlacedByte). field ++ comma ∷ t) (placed.at.whole ∙ ap (λ (t : List PlacedByte). before ++ (t ++ tail)) raw_is)
          ∙ regroup field before white front (x ∷ xs) back tail comma,
    )

-- the bytes of the block in such a part are those of the item
pub bytes_there : (block : List ℕ) (ordinal : ℕ) (item front middle back : List PlacedByte) (part : Part)
    → slice_get (items_of (folded_of block)) ordinal ≡ Some item → item ≡ front ++ (middle ++ back) → spanned middle ≡ Some part
    → bytes_in part (folded_of block) ≡ middle
bytes_there block ordinal item front [] back part there whole is = absurd cc
bytes_there block ordinal item front (x ∷ xs) back part there whole is =
    let text = folded_of block in
    let one : Part = record { start = x.1; end = end_of (suc x.1) xs } in
    let same : one ≡ part = cc in
    let raws = items_after 44 (rest_of text) in
    let found = found_raw (slice_get raws ordinal) item (sym (slice_get-map without_front raws ordinal) ∙ there) in
    let parts = part_there text ordinal found.0 front x xs back found.1 (found.2 ∙ whole) in
    let order = folded_in_order block in
    subst (λ (p : Part). bytes_in p text ≡ x ∷ xs) same
    (ap (bytes_in one) parts.2
    ∙ middle_kept x.1 (end_of (suc x.1) xs) parts.0 (x ∷ xs) parts.1
    (any_cut parts.0 x xs parts.1 (subst (λ (t : List PlacedByte). IsInOrder t) parts.2 order)))

-- ---- blocks whose items have the same texts

said_alike : (one other : List ℕ) (at : ℕ) → item_texts other ≡ item_texts one → said_at other at ≡ said_at one at
said_alike one other at same =
    said_is other at ∙ ap (λ (l : List (List ℕ)). option_and_then said_by (option_and_then verdict_in (slice_get l at))) same ∙ sym (said_is one at)

fault_alike : (one other : List ℕ) (at : ℕ) → item_texts other ≡ item_texts one → fault_at other at ≡ fault_at one at
fault_alike one other at same =
    fault_is other at ∙ ap (λ (l : List (List ℕ)). option_and_then fault_by (option_and_then verdict_in (slice_get l at))) same ∙ sym (fault_is one at)

fixed_alike : (c : Code) (block one other : List ℕ) (ordinal : ℕ) (text : List ℕ) → item_texts other ≡ item_texts one
    → IsFixed c block one ordinal text → IsFixed c block other ordinal text
fixed_alike code.UnknownCapability block one other ordinal text same is = is
fixed_alike code.WrongKind block one other ordinal text same is = (is.0, said_alike one other ordinal same ∙ is.1)
fixed_alike code.UnknownEscape block one other ordinal text same is =
    (said_alike one other ordinal same ∙ is.0, fault_alike one other ordinal same ∙ is.1)
fixed_alike code.BadString block one other ordinal text same is = (is.0, said_alike one other ordinal same ∙ is.1)
fixed_alike code.BadHeader block one other ordinal text same is = absurd is
fixed_alike code.NamesTooLong block one other ordinal text same is = absurd is
fixed_alike code.BadNumber block one other ordinal text same is = absurd is
fixed_alike code.NumberTooLarge block one other ordinal text same is = absurd is
fixed_alike code.MissingUse block one other ordinal text same is = absurd is
fixed_alike code.Circular block one other ordinal text same is = absurd is
fixed_alike code.Unresolved block one other ordinal text same is = absurd is
fixed_alike code.TooLarge block one other ordinal text same is = absurd is
fixed_alike code.DuplicateName block one other ordinal text same is = absurd is

-- one of them heals an item as the other does
module _ (blocks : List (List ℕ)) (at ordinal : ℕ) (item : List PlacedByte) (one other : List ℕ)
    (there : slice_get (items_of (folded_of (text_at blocks at))) ordinal ≡ Some item) (same : item_texts other ≡ item_texts one)
    (head : head_text other ≡ head_text one) where
  changes_alike : (text : List ℕ) → OneItemChanges (text_at blocks at) one ordinal text → OneItemChanges (text_at blocks at) other ordinal text
  changes_alike text changes = changes_by_texts (text_at blocks at) other ordinal item text there (same ∙ changes.texts) (head ∙ changes.head)

  pub heals_alike : Heals blocks at (text_at blocks at) one ordinal → Heals blocks at (text_at blocks at) other ordinal
  heals_alike heals =
      elim heals [
        | inl loses ↦ inl (record {
          code = loses.code;
          text = loses.text;
          had = loses.had;
          gone = λ e. loses.gone (sym (fault_alike one other ordinal same) ∙ e);
          changes = changes_alike loses.text loses.changes;
          fixed = fixed_alike loses.code (text_at blocks at) one other ordinal loses.text same loses.fixed;
        })
        | inr more ↦
            inr
            (elim more [
              | inl gets ↦
                  let changes = changes_alike gets.text gets.changes in
                  inl (record {
                    name = gets.name;
                    other = gets.other;
                    place = gets.place;
                    text = gets.text;
                    used = gets.used;
                    missing = gets.missing;
                    changes = changes;
                    uses = said_alike one other ordinal same ∙ gets.uses;
                    sound = fault_alike one other ordinal same ∙ gets.sound;
                    owned = gets.owned;
                    leads = owner_kept blocks at other gets.other changes.head ∙ gets.owned;
                    apart = gets.apart;
                  })
              | inr known ↦ inr (record {
                name = known.name;
                other = known.other;
                rest = known.rest;
                had = known.had;
                unknown = known.unknown;
                known = known.known;
                changes = changes_alike (known.other ++ known.rest) known.changes;
              })
            ])
      ]

-- ---- the edit

edit_there : (edit : EditSeen) (new : List ℕ) (o : Option Part) (part : Part) → o ≡ Some part → shown new ≡ new
    → edit_at edit new o ≡ record { advice = edit.advice; part = part; text = new }
edit_there edit new None part e printed = absurd cc
edit_there edit new (Some p) part e printed =
    let same : p ≡ part = cc in
    ap₂ (λ (q : Part) (t : List ℕ). record { advice = edit.advice; part = q; text = t }) same printed

printed_part : (a b : ℕ) (text : List ℕ) → shown text ≡ text → shown (take a (drop b text)) ≡ take a (drop b text)
printed_part a b text printed =
    sym (take-map shown_byte a (drop b text)) ∙ ap (take a) (sym (drop-map shown_byte b text)) ∙ ap (λ (t : List ℕ). take a (drop b t)) printed

-- what becomes of an item by a narrowed edit
abbrev pub HealsNarrowed : (blocks : List (List ℕ)) (at ordinal : ℕ) (edit : EditSeen) → Type 0
HealsNarrowed blocks at ordinal edit =
    Heals blocks at (text_at blocks at) (block_after (text_at blocks at) edit) ordinal × Stays (text_at blocks at) edit

one_narrowed : (block : List ℕ) (ordinal : ℕ) (item : List PlacedByte) (edit : EditSeen) → slice_get (items_of (folded_of block)) ordinal ≡ Some item
    → shown edit.text ≡ edit.text → IsOne item edit → narrowed (folded_of block) edit ≡ edit
one_narrowed block ordinal item edit there printed is =
    let byte = is.byte in
    let part : Part = record { start = byte.1; end = suc byte.1 } in
    let found : bytes_in edit.part (folded_of block) ≡ byte ∷ [] =
    ap (λ (p : Part). bytes_in p (folded_of block)) is.there ∙ bytes_there block ordinal item is.front (byte ∷ []) is.back part there is.whole refl in
    ap (λ (l : List PlacedByte). edit_at edit (without_same (record { old = l; new = edit.text })).new
    (spanned (without_same (record { old = l; new = edit.text })).old)) found
    ∙ ap (λ e. edit_at edit e.new (spanned e.old)) (one_same byte edit.text)
    ∙ edit_there edit edit.text (Some part) part refl printed
    ∙ ap (λ (p : Part). record { advice = edit.advice; part = p; text = edit.text }) (sym is.there)

part_narrowed : (blocks : List (List ℕ)) (at ordinal : ℕ) (item : List PlacedByte) (edit : EditSeen) (text : List ℕ) → OneBlock (text_at blocks at)
    → slice_get (items_of (folded_of (text_at blocks at))) ordinal ≡ Some item → shown edit.text ≡ edit.text
    → (r : Replaces item edit.part edit.text text)
    → Heals blocks at (text_at blocks at) (block_after (text_at blocks at) edit) ordinal
    → HealsNarrowed blocks at ordinal (narrowed (folded_of (text_at blocks at)) edit)
part_narrowed blocks at ordinal item edit text single there printed r heals =
    let block = text_at blocks at in
    let found = bytes_there block ordinal item r.front r.middle r.back edit.part there r.whole r.there in
    let is = narrowed_replaces item edit.part edit.text text r in
    let left = without_same (record { old = r.middle; new = edit.text }) in
    let now : EditSeen = record { advice = edit.advice; part = is.part; text = left.new } in
    let same : narrowed (folded_of block) edit ≡ now =
    ap (λ (l : List PlacedByte). edit_at edit (without_same (record { old = l; new = edit.text })).new
    (spanned (without_same (record { old = l; new = edit.text })).old)) found
    ∙ edit_there edit left.new (spanned left.old) is.part is.there (printed_part _ _ edit.text printed) in
    let before = one_replaced block ordinal item edit.part edit.text text single there r in
    let after = one_replaced block ordinal item is.part left.new text single there is.replaces in
    subst (HealsNarrowed blocks at ordinal) (sym same) (
      heals_alike blocks at ordinal item (block_after block edit) (block_after block now) there (after.0 ∙ sym before.0) (after.1 ∙ sym before.1) heals,
      replaced_part block ordinal item is.part left.new text single there is.replaces,
    )

pub narrowed_heals : (blocks : List (List ℕ)) (at ordinal : ℕ) (item : List PlacedByte) (edit : EditSeen) → OneBlock (text_at blocks at)
    → slice_get (items_of (folded_of (text_at blocks at))) ordinal ≡ Some item
    → Heals blocks at (text_at blocks at) (block_after (text_at blocks at) edit) ordinal → Stays (text_at blocks at) edit → Fits item edit
    → HealsNarrowed blocks at ordinal (narrowed (folded_of (text_at blocks at)) edit)
narrowed_heals blocks at ordinal item edit single there heals stays fits =
    elim fits.how [
      | inl one ↦
          subst (HealsNarrowed blocks at ordinal) (sym (one_narrowed (text_at blocks at) ordinal item edit there fits.printed one)) (heals, stays)
      | inr more ↦ part_narrowed blocks at ordinal item edit more.0 single there fits.printed more.1 heals
    ]
