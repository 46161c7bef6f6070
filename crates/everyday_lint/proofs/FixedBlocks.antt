-- A text with fixes made, of which each is a certain edit of a block, has the blocks with these edits.
use Rattle.std.proofs.Common.{◌≡◌, ◌≢◌, ℕ, zero, suc, ◌+◌, ◌-◌, ◌≤◌, ◌==◌, ◌||◌, Bool, true, false, Contains, List, [], ◌∷◌, ◌++◌, append_assoc, drop, filter}
use Rattle.std.proofs.Common.{length, map, max, nat_le, take, Option, None, Some, slice_get, inl, inr, refl, sym, ap, ap₂, subst, ◌∙◌, arith, zero-add, ◌⊎◌}
use Rattle.std.specs.List.{AllByRecursion, concat, list_any}
use Rattle.std.proofs.Math.Nat.{max-eq_right}
use Rattle.std.proofs.lemmas.Bool.{and_parts, cases_Bool, eq-eqb, eqb-true, leb-false, leb-true, ne_eqb}
use Rattle.std.proofs.lemmas.List.{append-nil, drop-drop, length-append}
use Rattle.std.proofs.lemmas.List.Elements.{All-contains, All-contains_itself, All-from_recursion, All-weaker}
use Rattle.std.proofs.lemmas.Option.{same_Some}
use Rattle.ti_text.specs.Texts.{last_byte}
use Rattle.ti_caps.proofs.Table.{Contains-cons}
use Rattle.ti_source.specs.Cutting.{OneBlock, blocks_from_head, front_of}
use Rattle.ti_source.specs.Folding.{PlacedByte}
use Rattle.ti_source.specs.declared.code.Code.{Code}
use Rattle.ti_source.specs.declared.code.Code.TheVariants as code
use Rattle.tools_sources.specs.Sources.{preface_of, source_texts, with_last_newline}
use Rattle.source_spans.specs.Replacing.{fault_at}
use Rattle.source_places.specs.Position.{offset_of}
use Rattle.source_keeping.specs.Keeping.{stays_in_line}
use Rattle.source_document.specs.Diagnostics.{Shown}
use Rattle.source_diagnostics.specs.declared.capabilities.Capabilities.{Capabilities}
use Rattle.source_diagnostics.specs.declared.diagnostics.Problem.{Problem}
use Rattle.source_blocks.specs.Places.{missing_newline}
use Rattle.source_blocks.proofs.Placing.{ended_with}
use Rattle.source_edits.specs.Edits.{EditSeen, is_certain}
use Rattle.source_edits.proofs.Exchanging.{no_edit}
use Rattle.source_fixes.specs.Fixes.{FixSeen, fixes_of}
use Rattle.source_fixes.specs.Together.{AreMade, certain_edits, certain_for, edited_last}
use Rattle.source_fixes.proofs.Together.{certain_made}
use Rattle.everyday_lint.specs.Fixed.{BlockIsFixed, CertainFixesMendBlocks, MendsItem, MendsUnless, TextIsFixed, block_begins, is_made_by}
use Rattle.everyday_lint.specs.Fixing.{begins, ends, fixed_text, is_made, made}
use Rattle.everyday_lint.specs.Laws.{IsInTheWay}
use Rattle.everyday_lint.specs.Offers.{OfferSeen, certain, is_fixable, offers_for, offers_of}
use Rattle.everyday_lint.proofs.BlocksCut.{all_single, cut_so, text_joined}
use Rattle.everyday_lint.proofs.CertainOrder.{certain_in_order}
use Rattle.everyday_lint.proofs.Changes.{Change, IsIn, Rise, all_changes, all_edited, all_rise, blocks_changed, change_of, changed, kept_after, kept_before}
use Rattle.everyday_lint.proofs.Changes.{moved, rise_filter, rise_higher, rise_lower, these_are}
use Rattle.everyday_lint.proofs.Choices.{are_made}
use Rattle.everyday_lint.proofs.OfferedEdits.{IsEditOf, certain_fix, got_after, is_of_block}
use Rattle.everyday_lint.proofs.OpenEnds.{AreInLines, still_open}

-- ---- fixes as changes

-- a fix as a change
abbrev pub change_by : List ℕ → OfferSeen → Change
change_by text fix = record { at = begins text fix; text = fix.fix.text }

-- each of these fixes is an edit of a block
abbrev pub AreEdits : List ℕ → List OfferSeen → Type 0
AreEdits text fixes = AllByRecursion (λ (offer : OfferSeen). IsEditOf text offer.fix) fixes

-- where it is
pub record IsOfOne (text : List ℕ) (fix : OfferSeen) : Type 0 where
  pub end : ends text fix ≡ suc (begins text fix)
  pub within : suc (begins text fix) ≤ length text

pub is_of_one : (text : List ℕ) (fix : OfferSeen) → IsEditOf text fix.fix → IsOfOne text fix
is_of_one text fix is =
    let start = is.start in
    let end = is.end in
    let one = is.one in
    let within = is.within in
    let next : offset_of text fix.fix.range.end ≡ suc (begins text fix) = omega (arith, start, end, one) in
    let forward : begins text fix ≤ suc (begins text fix) = omega arith in
    record {
      end = ap (λ (n : ℕ). max (begins text fix) n) next ∙ max-eq_right forward;
      within = omega (arith, start, one, within);
    }

pub made_of : (P : OfferSeen → Type 0) (text : List ℕ) (at : ℕ) (offers : List OfferSeen) → AllByRecursion P offers → AllByRecursion P (made text at offers)
made_of P text at [] all = tt
made_of P text at (offer ∷ offers) all =
    elim (cases_Bool (is_made text at offer)) [
      | inl t ↦ rw t (all.0, made_of P text (ends text offer) offers all.1)
      | inr f ↦ rw f (made_of P text at offers all.1)
    ]

-- they are in order, and within lines of items
pub record AreChanges (text : List ℕ) (at : ℕ) (fixes : List OfferSeen) : Type 0 where
  pub rise : Rise at (length text) (map (change_by text) fixes)
  pub lines : AreInLines text (map (change_by text) fixes)
  pub is : fixed_text text at fixes ≡ changed at (drop at text) (map (change_by text) fixes)

none_made : (text : List ℕ) (at : ℕ) → at ≤ length text → AreChanges text at []
none_made text at within = record { rise = within; lines = tt; is = refl }

one_made : (text : List ℕ) (at : ℕ) (offer : OfferSeen) (fixes : List OfferSeen) → IsOfOne text offer → is_made text at offer ≡ true
    → AreChanges text (ends text offer) fixes → AreChanges text at (offer ∷ fixes)
one_made text at offer fixes one t later =
    let start = begins text offer in
    let both = and_parts (nat_le at start) (stays_in_line text start (ends text offer) offer.fix.text) t in
    let after : at ≤ start = leb-true at start both.0 in
    let past : at + (suc start - at) ≡ suc start = omega (arith, after) in
    let rest : drop (ends text offer) text ≡ drop (suc start - at) (drop at text) =
    ap (λ (n : ℕ). drop n text) (one.end ∙ sym past) ∙ sym (drop-drop (suc start - at) at text) in
    record {
      rise = (after, subst (λ (n : ℕ). Rise n (length text) (map (change_by text) fixes)) one.end later.rise);
      lines = (subst (λ (n : ℕ). stays_in_line text start n offer.fix.text ≡ true) one.end both.1, later.lines);
      is = append_assoc (take (start - at) (drop at text)) offer.fix.text (fixed_text text (ends text offer) fixes)
          ∙ ap (λ (t : List ℕ). take (start - at) (drop at text) ++ (offer.fix.text ++ t))
          (later.is
          ∙ ap₂ (λ (n : ℕ) (t : List ℕ). changed n t (map (change_by text) fixes)) one.end rest);
    }

pub are_changes : (text : List ℕ) (at : ℕ) (offers : List OfferSeen) → at ≤ length text → AllByRecursion (IsOfOne text) offers
    → AreChanges text at (made text at offers)
are_changes text at [] within all = none_made text at within
are_changes text at (offer ∷ offers) within all =
    let one = all.0 in
    let end = one.end in
    let inside = one.within in
    elim (cases_Bool (is_made text at offer)) [
      | inl t ↦
          let later = are_changes text (ends text offer) offers (omega (arith, end, inside)) all.1 in
          rw t (one_made text at offer (made text (ends text offer) offers) one t later)
      | inr f ↦ rw f (are_changes text at offers within all.1)
    ]

pub ones_of : (text : List ℕ) (offers : List OfferSeen) → AreEdits text offers → AllByRecursion (IsOfOne text) offers
ones_of text [] all = tt
ones_of text (offer ∷ offers) all = (is_of_one text offer all.0, ones_of text offers all.1)

-- ---- they are among the certain edits of the blocks

in_left : (xs ys : List Change) (c : Change) → IsIn c xs → IsIn c (xs ++ ys)
in_left [] ys c is = absurd is
in_left (x ∷ xs) ys c (inl same) = inl same
in_left (x ∷ xs) ys c (inr later) = inr (in_left xs ys c later)

in_right : (xs ys : List Change) (c : Change) → IsIn c ys → IsIn c (xs ++ ys)
in_right [] ys c is = is
in_right (x ∷ xs) ys c is = inr (in_right xs ys c is)

in_moved : (from : ℕ) (edits : List EditSeen) (edit : EditSeen) → Contains edits edit
    → IsIn (moved from (change_of edit)) (map (moved from) (map change_of edits))
in_moved from [] edit has = let less = has.1 in absurd (omega (arith, less))
in_moved from (e ∷ edits) edit (zero, within, is) = inl (ap (λ (x : EditSeen). moved from (change_of x)) is)
in_moved from (e ∷ edits) edit (suc k, within, is) = inr (in_moved from edits edit (k, omega (arith, within), is))

in_all : (edits : List ℕ → List EditSeen) (from : ℕ) (front : List (List ℕ)) (block : List ℕ) (back : List (List ℕ)) (edit : EditSeen) (at : ℕ)
    → at ≡ (from + length (concat front)) + edit.part.start → Contains (edits block) edit
    → IsIn (record { at = at; text = edit.text }) (all_changes edits from (front ++ block ∷ back))
in_all edits from [] block back edit at place has =
    let none : length (concat []) ≡ 0 = refl in
    let here : from + edit.part.start ≡ at = omega (arith, place, none) in
    in_left (map (moved from) (map change_of (edits block))) (all_changes edits (from + length block) back) (record { at = at; text = edit.text })
    (subst (λ (n : ℕ). IsIn (record { at = n; text = edit.text }) (map (moved from) (map change_of (edits block)))) here
    (in_moved from (edits block) edit has))
in_all edits from (b ∷ front) block back edit at place has =
    let size = length-append b (concat front) in
    in_right (map (moved from) (map change_of (edits b))) (all_changes edits (from + length b) (front ++ block ∷ back)) (record { at = at; text = edit.text })
    (in_all edits (from + length b) front block back edit at (omega (arith, place, size)) has)

-- whether one of the fixes begins there
abbrev begins_at : List ℕ → List OfferSeen → ℕ → Bool
begins_at text fixes n = list_any (λ (fix : OfferSeen). begins text fix == n) fixes

or_right : (b : Bool) → (b || true) ≡ true
or_right true = refl
or_right false = refl

begun : (text : List ℕ) (fixes : List OfferSeen) (c : Change) → IsIn c (map (change_by text) fixes) → begins_at text fixes c.at ≡ true
begun text [] c is = absurd is
begun text (fix ∷ fixes) c (inl same) =
    let at = ap (λ (x : Change). x.at) same in
    let first = eq-eqb (begins text fix) c.at at in
    rw first refl
begun text (fix ∷ fixes) c (inr later) =
    let rest = begun text fixes c later in
    rw rest (or_right (begins text fix == c.at))

begun_with : (text : List ℕ) (fixes : List OfferSeen) (fix : OfferSeen) → Contains fixes fix → begins_at text fixes (begins text fix) ≡ true
begun_with text [] fix has = let less = has.1 in absurd (omega (arith, less))
begun_with text (one ∷ fixes) fix (zero, within, is) =
    let first = eq-eqb (begins text one) (begins text fix) (ap (begins text) is) in
    rw first refl
begun_with text (one ∷ fixes) fix (suc k, within, is) =
    let rest = begun_with text fixes fix (k, omega (arith, within), is) in
    rw rest (or_right (begins text one == begins text fix))

begun_by : (text : List ℕ) (fixes : List OfferSeen) (n : ℕ) → begins_at text fixes n ≡ true → (d : Change) × IsIn d (map (change_by text) fixes) × (d.at ≡ n)
begun_by text [] n t = absurd cc
begun_by text (fix ∷ fixes) n t =
    elim (cases_Bool (begins text fix == n)) [
      | inl is ↦ (change_by text fix, inl refl, eqb-true (begins text fix) n is)
      | inr not ↦ let found = begun_by text fixes n (rw not at t) in (found.0, inr found.1, found.2)
    ]

among : (text : List ℕ) (fixes : List OfferSeen) → AreEdits text fixes → (c : Change) → IsIn c (map (change_by text) fixes)
    → IsIn c (all_changes certain_edits (length (preface_of text)) (source_texts text))
among text [] all c is = absurd is
among text (fix ∷ fixes) all c (inr later) = among text fixes all.1 c later
among text (fix ∷ fixes) all c (inl same) =
    let is = all.0 in
    let start = is.start in
    let preface = preface_of text in
    let size = length-append preface (concat is.front) in
    let blocks_is : List (List ℕ) → Type 0 = λ bs. IsIn c (all_changes certain_edits (length preface) bs) in
    let mine : IsIn (record { at = begins text fix; text = is.edit.text }) (all_changes certain_edits (length preface) (is.front ++ is.block ∷ is.back)) =
    in_all certain_edits (length preface) is.front is.block is.back is.edit (begins text fix) (omega (arith, start, size)) (is_of_block text fix.fix is) in
    let whole : record { at = begins text fix; text = is.edit.text } ≡ c =
    ap (λ (t : List ℕ). record { at = begins text fix; text = t }) (sym is.gives) ∙ same in
    subst blocks_is (sym is.whole)
    (subst (λ (d : Change). IsIn d (all_changes certain_edits (length preface) (is.front ++ is.block ∷ is.back))) whole mine)

-- ---- the blocks then

fixed_single : (p : ℕ → Bool) (from : ℕ) (blocks : List (List ℕ)) → AllByRecursion OneBlock blocks
    → AllByRecursion OneBlock (all_edited certain_edits p from blocks)
fixed_single p from [] single = tt
fixed_single p from (block ∷ blocks) single =
    let chosen : EditSeen → Bool = λ edit. p (from + edit.part.start) in
    ((certain_made chosen block single.0).one, fixed_single p (from + length block) blocks single.1)

as_many : (p : ℕ → Bool) (from : ℕ) (blocks : List (List ℕ)) → length (all_edited certain_edits p from blocks) ≡ length blocks
as_many p from [] = refl
as_many p from (block ∷ blocks) = let rest = as_many p (from + length block) blocks in omega (arith, rest)

-- a block with those of its edits made that are at these offsets
abbrev edited_at : (ℕ → Bool) → ℕ → List ℕ → List ℕ
edited_at p from block = edited_last block (filter (λ (edit : EditSeen). p (from + edit.part.start)) (certain_edits block))

edited_there : (p : ℕ → Bool) (from : ℕ) (blocks : List (List ℕ)) (at : ℕ) (block : List ℕ) → slice_get blocks at ≡ Some block
    → slice_get (all_edited certain_edits p from blocks) at ≡ Some (edited_at p (from + length (concat (take at blocks))) block)
edited_there p from [] at block there = absurd cc
edited_there p from (b ∷ blocks) zero block there =
    let same : b ≡ block = cc in
    let none : length (concat (take 0 (b ∷ blocks))) ≡ 0 = refl in
    let here : from ≡ from + length (concat (take 0 (b ∷ blocks))) = omega (arith, none) in
    ap (λ (t : List ℕ). Some (edited_at p from t)) same ∙ ap (λ (n : ℕ). Some (edited_at p n block)) here
edited_there p from (b ∷ blocks) (suc at) block there =
    let size = length-append b (concat (take at blocks)) in
    let next : (from + length b) + length (concat (take at blocks)) ≡ from + length (concat (take (suc at) (b ∷ blocks))) = omega (arith, size) in
    edited_there p (from + length b) blocks at block there ∙ ap (λ (n : ℕ). Some (edited_at p n block)) next

single_at : (blocks : List (List ℕ)) (at : ℕ) (block : List ℕ) → AllByRecursion OneBlock blocks → slice_get blocks at ≡ Some block → OneBlock block
single_at [] at block single there = absurd cc
single_at (b ∷ blocks) zero block single there = let same : b ≡ block = cc in subst OneBlock same single.0
single_at (b ∷ blocks) (suc at) block single there = single_at blocks at block single.1 there

-- ---- the newline at the end

record IsEnded (text after whole : List ℕ) : Type 0 where
  more : missing_newline after ≡ missing_newline text
  is : with_last_newline after ≡ whole

ended_so : (text after whole : List ℕ) → after ++ missing_newline text ≡ whole → last_byte 10 whole ≡ 10
    → (last_byte 10 text ≢ 10 → last_byte 10 after ≢ 10) → IsEnded text after whole
ended_so text after whole joined ends open_still =
    let same : missing_newline after ≡ missing_newline text =
    elim (cases_Bool (last_byte 10 text == 10)) [
      | inl t ↦
          let bare : missing_newline text ≡ [] = rw t refl in
          let all : after ≡ whole = sym (append-nil after) ∙ ap (λ (m : List ℕ). after ++ m) (sym bare) ∙ joined in
          let closed = eq-eqb (last_byte 10 after) 10 (ap (last_byte 10) all ∙ ends) in
          let now : missing_newline after ≡ [] = rw closed refl in
          now ∙ sym bare
      | inr f ↦
          let newline : missing_newline text ≡ 10 ∷ [] = rw f refl in
          let unended : last_byte 10 text ≢ 10 = λ e. let yes = eq-eqb (last_byte 10 text) 10 e in cc in
          let still = ne_eqb (last_byte 10 after) 10 (open_still unended) in
          let now : missing_newline after ≡ 10 ∷ [] = rw still refl in
          now ∙ sym newline
    ] in
    record { more = same; is = ended_with after ∙ ap (λ (m : List ℕ). after ++ m) same ∙ joined }

-- ---- the text

take_front : (front : List (List ℕ)) (block : List ℕ) (back : List (List ℕ)) → take (length front) (front ++ block ∷ back) ≡ front
take_front [] block back = refl
take_front (b ∷ front) block back =
    let size : length (b ∷ front) ≡ suc (length front) = omega arith in
    ap (λ (n : ℕ). take n (b ∷ (front ++ block ∷ back))) size ∙ ap (λ (bs : List (List ℕ)). b ∷ bs) (take_front front block back)

-- no certain edit is of an item that is sound
sound_alone : (item : List PlacedByte) (o : Option Code) (edit : EditSeen) → ((found : Code) → o ≡ Some found → found ≡ code.UnknownEscape)
    → Contains (certain_for item o) edit → ⊥
sound_alone item None edit only has = no_edit edit has
sound_alone item (Some c) edit only has = no_edit edit (subst (λ (k : Code). Contains (certain_for item (Some k)) edit) (only c refl) has)

block_fixed : (text : List ℕ) (fixes : List OfferSeen) (at : ℕ) (block after : List ℕ)
    → after ≡ edited_last block (filter (is_made_by text fixes at) (certain_edits block)) → OneBlock block → BlockIsFixed text fixes at block after
block_fixed text fixes at block after is single =
    let test = is_made_by text fixes at in
    let made : AreMade test block after = subst (AreMade test block) (sym is) (certain_made test block single) in
    record {
      is = is;
      made = made;
      left = λ ordinal item now edit still there has there_now left.
          elim (cases_Bool (test edit)) [
            | inl t ↦ absurd (sound_alone now (fault_at after ordinal) still (made.sound ordinal item edit there has t).fault left)
            | inr f ↦ f
          ];
    }

mends : (text : List ℕ) (fixes : List OfferSeen) (after : List ℕ)
    → ((at : ℕ) (block : List ℕ) → slice_get (source_texts text) at ≡ Some block
    → (fixed : List ℕ) × (slice_get (source_texts after) at ≡ Some fixed) × BlockIsFixed text fixes at block fixed)
    → (fix : OfferSeen) → begins_at text fixes (begins text fix) ≡ true → IsEditOf text fix.fix → MendsItem text after fix
mends text fixes after each fix begins_so is =
    let one = is_of_one text fix is in
    let at = length is.front in
    let was : slice_get (source_texts text) at ≡ Some is.block =
    ap (λ (bs : List (List ℕ)). slice_get bs at) is.whole ∙ got_after is.front is.block is.back in
    let start = is.start in
    let single = is.one in
    let end = one.end in
    let size = length-append (preface_of text) (concat is.front) in
    let begin : block_begins text at ≡ length (preface_of text) + length (concat is.front) =
    ap (λ (bs : List (List ℕ)). length (preface_of text) + length (concat (take at bs))) is.whole
    ∙ ap (λ (bs : List (List ℕ)). length (preface_of text) + length (concat bs)) (take_front is.front is.block is.back) in
    let here : begins text fix ≡ block_begins text at + is.edit.part.start = omega (arith, start, size, begin) in
    let now = each at is.block was in
    let chosen : is_made_by text fixes at is.edit ≡ true =
    ap (begins_at text fixes) (sym here) ∙ begins_so in
    record {
      at = at;
      block = is.block;
      fixed = now.0;
      ordinal = is.ordinal;
      item = is.item;
      edit = is.edit;
      was = was;
      is = now.1;
      there = is.there;
      certain = is.certain;
      start = here;
      end = omega (arith, here, single, end);
      gives = is.gives;
      sound = now.2.made.sound is.ordinal is.item is.edit is.there is.certain chosen;
    }

-- a fix that could be made
heard : (text : List ℕ) (fixes : List OfferSeen) (after : List ℕ) (offer : OfferSeen)
    → ((fix : OfferSeen) → Contains fixes fix → ends text fix ≡ suc (begins text fix))
    → (begins_at text fixes (begins text offer) ≡ true → MendsItem text after offer) → Contains fixes offer ⊎ IsInTheWay text fixes offer
    → MendsUnless text fixes after offer
heard text fixes after offer ones mended (inl has) = inl (mended (begun_with text fixes offer has))
heard text fixes after offer ones mended (inr (inl outside)) = inr (inl outside)
heard text fixes after offer ones mended (inr (inr (fix, has, early))) =
    let one = ones fix has in
    elim (cases_Bool (nat_le (begins text fix) (begins text offer))) [
      | inl t ↦
          let up = leb-true (begins text fix) (begins text offer) t in
          let same : begins text fix ≡ begins text offer = omega (arith, up, early, one) in
          inl (mended (ap (begins_at text fixes) (sym same) ∙ begun_with text fixes fix has))
      | inr f ↦ inr (inr (fix, has, leb-false (begins text fix) (begins text offer) f))
    ]

-- the fixes are all the certain edits at their places
pub text_fixed : (text : List ℕ) (offers : List OfferSeen) → AreEdits text offers
    → TextIsFixed text offers (made text 0 offers) (fixed_text text 0 (made text 0 offers))
text_fixed text offers all =
    let fixes = made text 0 offers in
    let edits : AreEdits text fixes = made_of (λ (offer : OfferSeen). IsEditOf text offer.fix) text 0 offers all in
    let are = are_changes text 0 offers (omega arith) (ones_of text offers all) in
    let p : ℕ → Bool = begins_at text fixes in
    let preface = preface_of text in
    let blocks = source_texts text in
    let size = length preface in
    let more = missing_newline text in
    let joined : text ++ more ≡ preface ++ concat blocks = sym (ended_with text) ∙ text_joined text in
    let sizes : length text + length more ≡ size + length (concat blocks) =
    sym (length-append text more) ∙ ap length joined ∙ length-append preface (concat blocks) in
    let top = size + length (concat blocks) in
    let every = all_changes certain_edits size blocks in
    let order : Rise size top every = all_rise certain_edits size blocks certain_in_order in
    let cs = map (change_by text) fixes in
    let chosen : cs ≡ filter (λ (c : Change). p c.at) every =
    these_are p 0 top every cs
    (rise_higher 0 (length text) top cs (omega (arith, sizes)) are.rise)
    (rise_lower 0 size top every (omega arith) order)
    (record {
      into = λ c is. (among text fixes edits c is, begun text fixes c is);
      has = λ c is t. begun_by text fixes c.at t;
    }) in
    let mine = filter (λ (c : Change). p c.at) every in
    let after = fixed_text text 0 fixes in
    let fixed = all_edited certain_edits p size blocks in
    let written : after ++ more ≡ preface ++ concat fixed =
    ap (λ (t : List ℕ). t ++ more) are.is
    ∙ sym (kept_after 0 text more cs (subst (λ (n : ℕ). Rise 0 n cs) (sym (zero-add (length text))) are.rise))
    ∙ ap₂ (λ (t : List ℕ) (l : List Change). changed 0 t l) joined chosen
    ∙ kept_before 0 preface (concat blocks) size top mine (omega arith) (rise_filter (λ (c : Change). p c.at) size top every order)
    ∙ ap (λ (t : List ℕ). preface ++ t) (blocks_changed certain_edits p size blocks certain_in_order) in
    let singles = all_single text in
    let cut = cut_so text fixed (fixed_single p size blocks singles) in
    let ended = ended_so text after (preface ++ concat fixed) written cut.ends
    (λ unended. subst (λ (t : List ℕ). last_byte 10 t ≢ 10) (sym are.is) (still_open text cs are.rise are.lines unended)) in
    let now : source_texts after ≡ fixed = ap (blocks_from_head 10) ended.is ∙ cut.blocks in
    let there : (at : ℕ) (block : List ℕ) → slice_get blocks at ≡ Some block
    → slice_get (source_texts after) at ≡ Some (edited_at p (block_begins text at) block) =
    λ at block was. ap (λ (bs : List (List ℕ)). slice_get bs at) now ∙ edited_there p size blocks at block was in
    let mended : (fix : OfferSeen) → begins_at text fixes (begins text fix) ≡ true → IsEditOf text fix.fix → MendsItem text after fix =
    λ fix begins_so is.
    mends text fixes after
    (λ at block was.
    let one = edited_at p (block_begins text at) block in
    (one, there at block was, block_fixed text fixes at block one refl (single_at blocks at block singles was)))
    fix begins_so is in
    let an_edit : (some : List OfferSeen) → AreEdits text some → (fix : OfferSeen) → Contains some fix → IsEditOf text fix.fix =
    λ some are_edits fix has.
    All-contains (λ (offer : OfferSeen). IsEditOf text offer.fix) some fix
    (All-from_recursion (λ (offer : OfferSeen). IsEditOf text offer.fix) some are_edits) has in
    let choice = are_made text offers in
    record {
      preface = ap (front_of 10) ended.is ∙ cut.preface;
      newline = ended.more;
      as_many = ap length now ∙ as_many p size blocks;
      each_block = λ at block one was is.
          block_fixed text fixes at block one (same_Some _ _ (sym is ∙ there at block was)) (single_at blocks at block singles was);
      each_fix = All-weaker (Contains fixes) (MendsItem text after) (λ fix has. mended fix (begun_with text fixes fix has) (an_edit fixes edits fix has)) fixes
          (All-contains_itself fixes);
      each_offer = All-weaker (Contains offers) (MendsUnless text fixes after)
          (λ offer has.
          heard text fixes after offer (λ fix there. (is_of_one text fix (an_edit fixes edits fix there)).end)
          (λ begins_so. mended offer begins_so (an_edit offers all offer has))
          (All-contains (λ (one : OfferSeen). Contains fixes one ⊎ IsInTheWay text fixes one) offers offer choice.others has))
          offers (All-contains_itself offers);
    }

-- ---- the fixes of diagnostics

of_certain : (text : List ℕ) (problem : Problem) (fixes : List FixSeen)
    → ((fix : FixSeen) → Contains fixes fix → is_certain fix.advice ≡ true → IsEditOf text fix) → AreEdits text (certain problem fixes)
of_certain text problem [] each = tt
of_certain text problem (fix ∷ fixes) each =
    let later = of_certain text problem fixes (λ one has sure. each one (Contains-cons fix fixes one has) sure) in
    elim (cases_Bool (is_certain fix.advice)) [
      | inl t ↦ rw t (each fix (0, omega arith, refl) t, later)
      | inr f ↦ rw f later
    ]

of_diagnostic : (capabilities : Capabilities) (text : List ℕ) (shown : Shown) → AreEdits text (offers_for capabilities text shown)
of_diagnostic capabilities text shown =
    elim (cases_Bool (is_fixable shown.problem)) [
      | inl t ↦ rw t (of_certain text shown.problem (fixes_of capabilities text shown.range) (certain_fix capabilities text shown.range))
      | inr f ↦ rw f tt
    ]

edits_both : (text : List ℕ) (one other : List OfferSeen) → AreEdits text one → AreEdits text other → AreEdits text (one ++ other)
edits_both text [] other all also = also
edits_both text (offer ∷ one) other all also = (all.0, edits_both text one other all.1 also)

pub of_diagnostics : (capabilities : Capabilities) (text : List ℕ) (all : List Shown) → AreEdits text (offers_of capabilities text all)
of_diagnostics capabilities text [] = tt
of_diagnostics capabilities text (shown ∷ all) =
    edits_both text (offers_for capabilities text shown) (offers_of capabilities text all) (of_diagnostic capabilities text shown)
    (of_diagnostics capabilities text all)

pub mend_blocks : CertainFixesMendBlocks
mend_blocks capabilities text all = text_fixed text (offers_of capabilities text all) (of_diagnostics capabilities text all)
