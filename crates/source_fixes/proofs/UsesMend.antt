-- An item that uses a name is healed by another name that a source can give.
use Rattle.std.proofs.Common.{◌≡◌, ℕ, ◌==◌, true, false, List, [], ◌∷◌, ◌++◌, append_assoc, codes, drop, length, None, Some, take, slice_get, inl, inr}
use Rattle.std.proofs.Common.{refl, sym, ap, ap₂, subst, ◌∙◌}
use Rattle.std.proofs.lemmas.Bool.{and_parts, cases_Bool, eqb-true}
use Rattle.std.proofs.lemmas.List.{map-append, take-append-drop}
use Rattle.std.proofs.lemmas.Option.{cond_some}
use Rattle.ti_text.specs.Texts.{last_byte}
use Rattle.ti_text.specs.WhiteSpace.{is_white_space}
use Rattle.ti_source.specs.Cutting.{OneBlock}
use Rattle.ti_source.specs.Folding.{PlacedByte}
use Rattle.ti_source.specs.Items.{IsWhite, bytes, claims_text, text_item, without_front, without_outer_space}
use Rattle.ti_source.specs.Reading.{said_import}
use Rattle.ti_source.specs.Verdicts.{Judges, accepted}
use Rattle.ti_source.proofs.JudgingLaws.{judged_import}
use Rattle.source_spans.specs.Folding.{bytes_at, folded_of}
use Rattle.source_spans.specs.Parts.{spanned}
use Rattle.source_spans.specs.Replacing.{IsOneLine, IsPlain, Replaces, fault_at, said_at}
use Rattle.source_spans.specs.Subjects.{begins_with, items_of, used_name, without_end}
use Rattle.source_spans.specs.declared.parts.Part.{Part}
use Rattle.source_spans.proofs.Escaping.{Escape, cuts, nothing}
use Rattle.source_spans.proofs.Exchanging.{new_bytes}
use Rattle.source_spans.proofs.Plain.{after_both, item_goes, last_of, plain_after, plain_byte, takes_none}
use Rattle.source_spans.proofs.Recutting.{Goes, by_after}
use Rattle.source_edits.specs.Edits.{EditSeen}
use Rattle.source_edits.specs.Laws.{IsRead}
use Rattle.source_edits.proofs.Marks.{end_split}
use Rattle.source_fixes.specs.Healing.{OneItemChanges, Stays, block_after}
use Rattle.source_fixes.proofs.Changing.{item_changes, no_fault, said_item}
use Rattle.source_fixes.proofs.Fitting.{Fits}
use Rattle.source_fixes.proofs.Given.{AreNameLike, HasNone, IsGiven, none_both, none_goes, none_named, none_white, outer_dropped, used_bytes}
use Rattle.source_fixes.proofs.ItemParts.{replaced_part}
use Rattle.source_fixes.proofs.NamesHeal.{white_plain}
use Rattle.source_fixes.proofs.Placing.{after_from, text_replaces}
use Rattle.source_fixes.proofs.TakenOut.{white_is_plain}

-- ---- the parts of an item that is a use

record IsUse (item name : List PlacedByte) : Type 0 where
  sign : List PlacedByte
  white : List PlacedByte
  end : List PlacedByte
  signed : bytes sign ≡ codes "use="
  blank : IsWhite (bytes white)
  ends : IsWhite (bytes end)
  whole : item ≡ (sign ++ white) ++ (name ++ end)
  used : without_outer_space (bytes white ++ (bytes name ++ bytes end)) ≡ bytes name

bytes_both : (one other : List PlacedByte) → bytes (one ++ other) ≡ bytes one ++ bytes other
bytes_both one other = map-append (λ (x : PlacedByte). x.0) one other

begins_is : (text : List ℕ) (item : List PlacedByte) → begins_with text item ≡ true → bytes (take (length text) item) ≡ text
begins_is [] item e = refl
begins_is (b ∷ bs) [] e = cc
begins_is (b ∷ bs) (x ∷ xs) e = let both = and_parts _ _ e in ap₂ (λ (n : ℕ) (t : List ℕ). n ∷ t) (eqb-true x.0 b both.0) (begins_is bs xs both.1)

front_white : (text : List PlacedByte) → (white : List PlacedByte) × IsWhite (bytes white) × (text ≡ white ++ without_front text)
front_white [] = ([], tt, refl)
front_white (x ∷ xs) =
    elim (cases_Bool (is_white_space x.0)) [
      | inl t ↦ let later = front_white xs in (x ∷ later.0, (t, later.1), rw t (ap (λ (l : List PlacedByte). x ∷ l) later.2))
      | inr f ↦ ([], tt, rw f refl)
    ]

use_cut : (item name : List PlacedByte) → used_name item ≡ Some name → IsUse item name
use_cut item name e =
    let value = drop 4 item in
    let is = cond_some (begins_with (codes "use=") item) (without_end (without_front value)) name e in
    let front = front_white value in
    let back = end_split (without_front value) in
    let named : without_front value ≡ name ++ back.0 = back.1 ∙ ap (λ (n : List PlacedByte). n ++ back.0) is.1 in
    let split : value ≡ front.0 ++ (name ++ back.0) = front.2 ∙ ap (λ (t : List PlacedByte). front.0 ++ t) named in
    let split_bytes : bytes value ≡ bytes front.0 ++ (bytes name ++ bytes back.0) =
    ap bytes split ∙ bytes_both front.0 (name ++ back.0) ∙ ap (λ (t : List ℕ). bytes front.0 ++ t) (bytes_both name back.0) in
    record {
      sign = take 4 item;
      white = front.0;
      end = back.0;
      signed = begins_is (codes "use=") item is.0;
      blank = front.1;
      ends = back.2;
      whole = sym (take-append-drop 4 item) ∙ ap (λ (t : List PlacedByte). take 4 item ++ t) split ∙ sym (append_assoc (take 4 item) front.0 (name ++ back.0));
      used = ap without_outer_space (sym split_bytes) ∙ sym (used_bytes value) ∙ ap bytes is.1;
    }

-- ---- another name in it

white_last : (before : ℕ) (white : List ℕ) → (before == 37) ≡ false → IsWhite white → (last_byte before white == 37) ≡ false
white_last before [] other are = other
white_last before (x ∷ xs) other are = white_last x xs (no_percent x are.0) are.1
  where
    no_percent : (x : ℕ) → is_white_space x ≡ true → (x == 37) ≡ false
    no_percent x white =
        elim (cases_Bool (x == 37)) [
          | inl t ↦ let no = rw (eqb-true x 37 t) at white in cc
          | inr f ↦ f
        ]

last_both : (before : ℕ) (one other : List ℕ) → last_byte before (one ++ other) ≡ last_byte (last_byte before one) other
last_both before [] other = refl
last_both before (x ∷ xs) other = last_both x xs other

-- white space at the end takes no comma
end_closed : (by : Escape) (before : ℕ) (end : List PlacedByte) → IsWhite (bytes end) → cuts by 44 ≡ true → cuts (by_after by before end) 44 ≡ true
unfolding by_after
end_closed by before [] are ends = ends
end_closed by before (x ∷ xs) are ends =
    ap (λ (e : Escape). cuts (by_after e x.0 xs) 44) (takes_none by before x.0 (plain_byte x.0 (white_plain x.0 are.0)))
    ∙ ap (λ (e : Escape). cuts e 44) (plain_after x.0 xs (white_is_plain (bytes xs) are.1))

like_line : (text : List ℕ) → AreNameLike text → IsOneLine text
unfolding AreNameLike
like_line [] are = tt
like_line (x ∷ xs) are = (are.0.newline, like_line xs are.1)

named : (item name : List PlacedByte) (u : IsUse item name) (part : Part) (new : List ℕ) → spanned name ≡ Some part → IsGiven new → Goes nothing 44 item
    → Replaces item part new (bytes (u.sign ++ u.white) ++ (new ++ bytes u.end))
unfolding HasNone last_of
named item name u part new there given was =
    let front = u.sign ++ u.white in
    let fresh = bytes_at 0 new in
    let front_bytes : bytes front ≡ codes "use=" ++ bytes u.white = bytes_both u.sign u.white ∙ ap (λ (t : List ℕ). t ++ bytes u.white) u.signed in
    let plain : IsPlain (bytes front) = subst IsPlain (sym front_bytes) (refl, (refl, (refl, (refl, white_is_plain (bytes u.white) u.blank)))) in
    let none : HasNone (bytes (front ++ (fresh ++ u.end))) =
    subst HasNone (sym (new_bytes front u.end new))
    (none_both (bytes front) (new ++ bytes u.end) (subst HasNone (sym front_bytes) (refl, (refl, (refl, (refl, none_white (bytes u.white) u.blank)))))
    (none_both new (bytes u.end) (none_named new given.like) (none_white (bytes u.end) u.ends))) in
    let last : (last_of 44 front == 37) ≡ false = ap (λ (t : List ℕ). last_byte 44 t == 37) front_bytes ∙ white_last 61 (bytes u.white) refl u.blank in
    let ends : cuts (by_after nothing 44 (front ++ (fresh ++ u.end))) 44 ≡ true =
    ap (λ (e : Escape). cuts e 44)
    (after_both nothing 44 front (fresh ++ u.end) ∙ ap (λ (e : Escape). by_after e (last_of 44 front) (fresh ++ u.end)) (plain_after 44 front plain)
    ∙ after_from (last_of 44 front) 44 (fresh ++ u.end) last refl ∙ after_both nothing 44 fresh u.end)
    ∙ end_closed (by_after nothing 44 fresh) (last_of 44 fresh) u.end u.ends given.ends in
    subst (λ (i : List PlacedByte). Replaces i part new (bytes front ++ (new ++ bytes u.end))) (sym u.whole)
    (text_replaces front name u.end part new there given.visible (like_line new given.like) (subst (Goes nothing 44) u.whole was)
    (none_goes nothing 44 (front ++ (fresh ++ u.end)) none)
    (λ closed. ends))

-- what a use says
use_read : (value name : List ℕ) → without_outer_space value ≡ name → IsRead (codes "use=" ++ value) (accepted (said_import name))
use_read value name e = record {
  statement = record { name = codes "use"; claim = claims_text value };
  states = text_item (codes "use") value (refl, (refl, (refl, tt))) refl;
  judges = subst (λ (n : List ℕ). Judges (codes "use") (claims_text value) (accepted (said_import n))) e (judged_import (codes "use") value refl);
}

use_text : (item name : List PlacedByte) (u : IsUse item name) (new : List ℕ) → bytes (u.sign ++ u.white) ++ (new ++ bytes u.end) ≡ codes "use="
    ++ (bytes u.white ++ (new ++ bytes u.end))
use_text item name u new =
    ap (λ (t : List ℕ). t ++ (new ++ bytes u.end)) (bytes_both u.sign u.white ∙ ap (λ (t : List ℕ). t ++ bytes u.white) u.signed)
    ∙ append_assoc (codes "use=") (bytes u.white) (new ++ bytes u.end)

pub record UsesAnother (block after : List ℕ) (ordinal : ℕ) (name other : List ℕ) : Type 0 where
  pub text : List ℕ
  pub used : said_at block ordinal ≡ Some (said_import name)
  pub changes : OneItemChanges block after ordinal text
  pub uses : said_at after ordinal ≡ Some (said_import other)
  pub sound : fault_at after ordinal ≡ None

pub uses_mend : (block : List ℕ) (ordinal : ℕ) (item name : List PlacedByte) (edit : EditSeen) → OneBlock block
    → slice_get (items_of (folded_of block)) ordinal ≡ Some item → used_name item ≡ Some name
    → spanned name ≡ Some edit.part → IsGiven edit.text → UsesAnother block (block_after block edit) ordinal (bytes name) edit.text × Stays block edit
    × Fits item edit
uses_mend block ordinal item name edit single there is span given =
    let u = use_cut item name is in
    let new = edit.text in
    let text = bytes (u.sign ++ u.white) ++ (new ++ bytes u.end) in
    let was : bytes item ≡ codes "use=" ++ (bytes u.white ++ (bytes name ++ bytes u.end)) =
    ap bytes u.whole ∙ bytes_both (u.sign ++ u.white) (name ++ u.end) ∙ ap (λ (t : List ℕ). bytes (u.sign ++ u.white) ++ t) (bytes_both name u.end)
    ∙ use_text item name u (bytes name) in
    let before : IsRead (bytes item) (accepted (said_import (bytes name))) =
    subst (λ (t : List ℕ). IsRead t (accepted (said_import (bytes name)))) (sym was)
    (use_read (bytes u.white ++ (bytes name ++ bytes u.end)) (bytes name) u.used) in
    let now : IsRead text (accepted (said_import new)) =
    subst (λ (t : List ℕ). IsRead t (accepted (said_import new))) (sym (use_text item name u new))
    (use_read (bytes u.white ++ (new ++ bytes u.end)) new (outer_dropped (bytes u.white) new (bytes u.end) u.blank given.like u.ends given.visible)) in
    let replaces = named item name u edit.part new span given (item_goes (folded_of block) ordinal item there) in
    let changes = item_changes block ordinal item edit.part new text single there replaces in
    let after = no_fault block (block_after block edit) ordinal text (said_import new) changes now in (
      record {
        text = text;
        used = said_item block ordinal item (accepted (said_import (bytes name))) there before;
        changes = changes;
        uses =
            after.0;
        sound = after.1;
      },
      replaced_part block ordinal item edit.part new text single there replaces,
      record { printed = given.is_shown; how = inr (text, replaces) },
    )
