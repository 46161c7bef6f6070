-- A string with an odd escape is healed by the spelling that is offered for it.
use Rattle.std.proofs.Common.{◌≡◌, ℕ, suc, ◌<◌, ◌==◌, Bool, true, Contains, List, [], ◌∷◌, ◌++◌, append_assoc, Some, inr, slice_get, refl, sym, ap, subst, ◌∙◌}
use Rattle.std.proofs.lemmas.List.{append-nil, map-append}
use Rattle.ti_text.specs.Texts.{AreBytes}
use Rattle.ti_caps.specs.Tables.{Capability}
use Rattle.ti_spelling.specs.Spelling.{SpellsAfter, ValuesAreSound, WrittenSpells, spelling_of, spells_nothing, spells_piece}
use Rattle.ti_source.specs.Cutting.{OneBlock}
use Rattle.ti_source.specs.Folding.{PlacedByte}
use Rattle.ti_source.specs.Items.{bytes}
use Rattle.ti_source.specs.Reading.{said_text}
use Rattle.ti_source.specs.Verdicts.{accepted_odd}
use Rattle.ti_source.specs.declared.code.Code.TheVariants as code
use Rattle.source_spans.specs.Folding.{bytes_at, folded_of}
use Rattle.source_spans.specs.Parts.{end_of, spanned}
use Rattle.source_spans.specs.Replacing.{BeginsVisible, IsOneLine, IsPlain, Replaces, fault_at}
use Rattle.source_spans.specs.Subjects.{items_of}
use Rattle.source_spans.specs.declared.parts.Part.{Part}
use Rattle.source_spans.proofs.Escaping.{Escape, cuts, nothing}
use Rattle.source_spans.proofs.Plain.{after_both, goes_both, item_goes, last_of, plain_after, plain_goes}
use Rattle.source_spans.proofs.Recutting.{Goes, by_after}
use Rattle.source_spans.proofs.Refolding.{bytes_of_at}
use Rattle.source_edits.specs.Edits.{EditSeen, advises_spelling, spelling_in, spellings}
use Rattle.source_edits.specs.Laws.{IsInOrder, IsRead, edited}
use Rattle.source_edits.specs.Pieces.{without_last}
use Rattle.source_edits.specs.Shown.{shown}
use Rattle.source_edits.proofs.Exchanging.{edited_at, only_edit}
use Rattle.source_edits.proofs.Returns.{front_of_value}
use Rattle.source_edits.proofs.SpellingsRead.{IsSpelled, odd_item, spelled_front, spelled_whole, spellings_read, written_shown}
use Rattle.source_fixes.specs.Healing.{LosesFault, Stays, block_after}
use Rattle.source_fixes.proofs.Changing.{item_changes, loses_escape, said_item}
use Rattle.source_fixes.proofs.Fitting.{Fits, printed_spelling}
use Rattle.source_fixes.proofs.ItemParts.{replaced_part}
use Rattle.source_fixes.proofs.Placing.{item_in_order, last_pushed, plain_pushed, text_replaces}
use Rattle.source_fixes.proofs.Putting.{capability_put}
use Rattle.source_fixes.proofs.Written.{IsSafe, spelling_safe, spelling_safe_return, spelling_visible}

-- a string with an odd escape has a byte
no_value : (before : ℕ) (raw value : List ℕ) (odd : Bool) → SpellsAfter before raw value odd → odd ≡ true → value ≡ [] → ⊥
no_value _ _ _ _ spells_nothing o e = cc
no_value _ _ _ _ (spells_piece piece later) o e = cc

-- a text in an item, of which nothing takes a byte after it with what is left of the item
safe_replaces : (front middle back : List PlacedByte) (x : PlacedByte) (part : Part) (new : List ℕ) → spanned middle ≡ Some part → BeginsVisible new
    → IsOneLine new
    → IsPlain (bytes (front ++ x ∷ [])) → IsSafe nothing x.0 (bytes_at 0 new ++ back) → Goes nothing 44 ((front ++ x ∷ []) ++ (middle ++ back))
    → Replaces ((front ++ x ∷ []) ++ (middle ++ back)) part new (bytes (front ++ x ∷ []) ++ (new ++ bytes back))
safe_replaces front middle back x part new there visible line plain safe was =
    let one = front ++ x ∷ [] in
    let fresh = bytes_at 0 new ++ back in
    let last : last_of 44 one ≡ x.0 = last_pushed 44 front x in
    let goes : Goes nothing 44 (one ++ fresh) =
    goes_both nothing 44 one fresh (plain_goes 44 one plain) (subst (λ (e : Escape). Goes e (last_of 44 one) fresh) (sym (plain_after 44 one plain))
    (subst (λ (b : ℕ). Goes nothing b fresh) (sym last) safe.goes)) in
    let after : by_after nothing 44 (one ++ fresh) ≡ nothing =
    after_both nothing 44 one fresh ∙ ap (λ (e : Escape). by_after e (last_of 44 one) fresh) (plain_after 44 one plain)
    ∙ ap (λ (b : ℕ). by_after nothing b fresh) last ∙ safe.after in
    text_replaces one middle back part new there visible line was goes (λ ends. ap (λ (e : Escape). cuts e 44) after)

-- the spelling of a string in the item, before what is left of it
put : (block : List ℕ) (ordinal : ℕ) (name : List PlacedByte) (mark v : PlacedByte) (vs back : List PlacedByte) (n : ℕ) (ns : List ℕ) (edit : EditSeen)
    → slice_get (items_of (folded_of block)) ordinal ≡ Some (name ++ mark ∷ ((v ∷ vs) ++ back)) → IsPlain (bytes name) → mark.0 ≡ 61 → AreBytes (n ∷ ns)
    → IsSafe nothing mark.0 (bytes_at 0 (spelling_of (n ∷ ns)) ++ back) → Contains (spelling_in (n ∷ ns) (spanned (v ∷ vs))) edit
    → Replaces (name ++ mark ∷ ((v ∷ vs) ++ back)) edit.part edit.text (edited (name ++ mark ∷ ((v ∷ vs) ++ back)) edit)
put block ordinal name mark v vs back n ns edit there plain is are safe has =
    let value = n ∷ ns in
    let part : Part = record { start = v.1; end = end_of (suc v.1) vs } in
    let one : EditSeen = record { advice = advises_spelling; part = part; text = shown (spelling_of value) } in
    let other : EditSeen = record { advice = advises_spelling; part = part; text = spelling_of value } in
    let same : other ≡ edit =
    ap (λ (t : List ℕ). record { advice = advises_spelling; part = part; text = t }) (sym (written_shown true 0 value are)) ∙ only_edit one edit has in
    let item = name ++ mark ∷ ((v ∷ vs) ++ back) in
    let front = name ++ mark ∷ [] in
    let whole : item ≡ front ++ ((v ∷ vs) ++ back) = sym (append_assoc name (mark ∷ []) ((v ∷ vs) ++ back)) in
    let plain_front : IsPlain (bytes front) = plain_pushed name mark plain (subst (λ (m : ℕ). IsPlain (m ∷ [])) (sym is) (refl, tt)) in
    let alone = spelling_safe mark.0 value (bytes_at 0 (spelling_of value)) are (ap (λ (m : ℕ). m == 37) is) (bytes_of_at 0 (spelling_of value)) in
    let line : IsOneLine (spelling_of value) = subst IsOneLine (bytes_of_at 0 (spelling_of value)) alone.line in
    let goes = subst (Goes nothing 44) whole (item_goes (folded_of block) ordinal item there) in
    let replaces = safe_replaces name (v ∷ vs) back mark part (spelling_of value) refl (spelling_visible n ns are) line plain_front safe goes in
    let text : edited (front ++ ((v ∷ vs) ++ back)) other ≡ bytes front ++ (spelling_of value ++ bytes back) =
    edited_at other front (v ∷ vs) back (subst IsInOrder whole (item_in_order block ordinal item there)) refl in
    subst (λ (e : EditSeen). Replaces item e.part e.text (edited item e)) same
    (subst (λ (i : List PlacedByte). Replaces i part (spelling_of value) (edited i other)) (sym whole)
    (subst (Replaces (front ++ ((v ∷ vs) ++ back)) part (spelling_of value)) (sym text) replaces))

bytes_pushed : (new : List ℕ) (back : List PlacedByte) → bytes (bytes_at 0 new ++ back) ≡ new ++ bytes back
bytes_pushed new back = map-append (λ (x : PlacedByte). x.0) (bytes_at 0 new) back ∙ ap (λ (t : List ℕ). t ++ bytes back) (bytes_of_at 0 new)

-- the spelling in the item
spelling_put : (block : List ℕ) (ordinal : ℕ) (name raw : List PlacedByte) (mark : PlacedByte) (value : List ℕ) (edit : EditSeen)
    → slice_get (items_of (folded_of block)) ordinal ≡ Some (name ++ mark ∷ raw) → IsPlain (bytes name) → mark.0 ≡ 61 → AreBytes value → (value ≡ [] → ⊥)
    → IsSpelled raw value edit
    → Replaces (name ++ mark ∷ raw) edit.part edit.text (edited (name ++ mark ∷ raw) edit)
spelling_put block ordinal name _ mark [] edit there plain is are some (spelled_whole v vs has) = absurd (some refl)
spelling_put block ordinal name _ mark (n ∷ ns) edit there plain is are some (spelled_whole v vs has) =
    let raw = v ∷ vs in
    let nil : raw ++ [] ≡ raw = append-nil raw in
    let there_too = subst (λ (r : List PlacedByte). slice_get (items_of (folded_of block)) ordinal ≡ Some (name ++ mark ∷ r)) (sym nil) there in
    let new = spelling_of (n ∷ ns) in
    let safe = spelling_safe mark.0 (n ∷ ns) (bytes_at 0 new ++ []) are (ap (λ (m : ℕ). m == 37) is) (bytes_pushed new [] ∙ append-nil new) in
    subst (λ (r : List PlacedByte). Replaces (name ++ mark ∷ r) edit.part edit.text (edited (name ++ mark ∷ r) edit)) nil
    (put block ordinal name mark v vs [] n ns edit there_too plain is are safe has)
spelling_put block ordinal name _ mark value edit there plain is are some (spelled_front v vs x return ends has) =
    let front = ends.first ∷ ends.rest in
    let front_is : without_last value ≡ front = ends.front in
    let front_bytes : AreBytes front = subst AreBytes front_is (front_of_value (λ b. b < 256) value ends are) in
    let new = spelling_of front in
    let safe = spelling_safe_return mark.0 front (bytes_at 0 new ++ x ∷ []) front_bytes (ap (λ (m : ℕ). m == 37) is)
    (bytes_pushed new (x ∷ []) ∙ ap (λ (b : ℕ). new ++ b ∷ []) return) in
    put block ordinal name mark v vs (x ∷ []) ends.first ends.rest edit there plain is front_bytes safe
    (subst (λ (f : List ℕ). Contains (spelling_in f (spanned (v ∷ vs))) edit) front_is has)

spelled_printed : (raw : List PlacedByte) (value : List ℕ) (edit : EditSeen) → IsSpelled raw value edit → shown edit.text ≡ edit.text
spelled_printed _ value edit (spelled_whole v vs has) = printed_spelling value (spanned (v ∷ vs)) edit has
spelled_printed _ value edit (spelled_front v vs x return ends has) = printed_spelling (without_last value) (spanned (v ∷ vs)) edit has

pub spellings_heal : ValuesAreSound → WrittenSpells → (block : List ℕ) (ordinal : ℕ) (item : List PlacedByte) (c : Capability) (value : List ℕ)
    (edit : EditSeen) → OneBlock block
    → AreBytes (bytes item) → slice_get (items_of (folded_of block)) ordinal ≡ Some item → fault_at block ordinal ≡ Some code.UnknownEscape
    → IsRead (bytes item) (accepted_odd (said_text c value)) → Contains (spellings item value) edit → LosesFault block (block_after block edit) ordinal
    × Stays block edit × Fits item edit
spellings_heal sound writes block ordinal item c value edit single are there had read has =
    let o = odd_item item c value edit are read has in
    let put = capability_put (bytes o.name) c o.named in
    let value_bytes = (sound (bytes o.raw) value true o.spells).bytes o.are in
    let here = there ∙ ap (λ (i : List PlacedByte). Some i) o.whole in
    let replaces = spelling_put block ordinal o.name o.raw o.mark value edit here put.plain o.is value_bytes
    (no_value 0 (bytes o.raw) value true o.spells refl) o.has in
    let moved = subst (λ (i : List PlacedByte). Replaces i edit.part edit.text (edited i edit)) (sym o.whole) replaces in (
      loses_escape block (block_after block edit) ordinal (edited item edit) (said_text c value) had
          (said_item block ordinal item (accepted_odd (said_text c value)) there read)
          (item_changes block ordinal item edit.part edit.text (edited item edit) single there moved)
          (spellings_read sound writes item c value edit (item_in_order block ordinal item there) are read has),
      replaced_part block ordinal item edit.part edit.text (edited item edit) single there moved,
      record { printed = spelled_printed o.raw value edit o.has; how = inr (edited item edit, moved) },
    )
