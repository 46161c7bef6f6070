-- A new text in the place of a part of an item.
use Rattle.std.proofs.Common.{◌≡◌, ℕ, ◌==◌, true, false, List, [], ◌∷◌, ◌++◌, append_assoc, Some, slice_get, refl, sym, ap, subst, ◌∙◌}
use Rattle.std.proofs.lemmas.List.{map-append}
use Rattle.std.proofs.lemmas.Option.{get_or_from_slice_get, slice_get_within}
use Rattle.ti_text.specs.Texts.{last_byte}
use Rattle.ti_source.specs.Folding.{PlacedByte}
use Rattle.ti_source.specs.Items.{bytes}
use Rattle.ti_source.proofs.TextLemmas.{last_byte-push}
use Rattle.source_spans.specs.Folding.{bytes_at, folded_of}
use Rattle.source_spans.specs.Parts.{spanned}
use Rattle.source_spans.specs.Replacing.{BeginsVisible, IsOneLine, IsPlain, Replaces}
use Rattle.source_spans.specs.Subjects.{items_of}
use Rattle.source_spans.specs.declared.parts.Part.{Part}
use Rattle.source_spans.proofs.Escaping.{Escape, cuts, escape_after, nothing}
use Rattle.source_spans.proofs.Exchanging.{closed_ends, ends_closed, new_bytes}
use Rattle.source_spans.proofs.Plain.{after_both, goes_back, goes_both, goes_uncut, last_of, plain_after, plain_both, plain_goes, plain_line}
use Rattle.source_spans.proofs.Recutting.{Goes, by_after, by_after_at, goes_at}
use Rattle.source_spans.proofs.Refolding.{bytes_of_at}
use Rattle.source_edits.specs.Laws.{IsInOrder}
use Rattle.source_edits.proofs.InOrder.{items_in_order}

pub item_in_order : (block : List ℕ) (ordinal : ℕ) (item : List PlacedByte) → slice_get (items_of (folded_of block)) ordinal ≡ Some item → IsInOrder item
item_in_order block ordinal item there =
    let items = items_of (folded_of block) in
    subst IsInOrder (get_or_from_slice_get items ordinal item [] there) (items_in_order block ordinal [] (slice_get_within items ordinal item there))

-- it keeps the item one, if no item ends in it and a comma after it ends the item
pub text_replaces : (front middle back : List PlacedByte) (part : Part) (new : List ℕ) → spanned middle ≡ Some part → BeginsVisible new → IsOneLine new
    → Goes nothing 44 (front ++ (middle ++ back))
    → Goes nothing 44 (front ++ (bytes_at 0 new ++ back))
    → (cuts (by_after nothing 44 (front ++ (middle ++ back))) 44 ≡ true → cuts (by_after nothing 44 (front ++ (bytes_at 0 new ++ back))) 44 ≡ true)
    → Replaces (front ++ (middle ++ back)) part new (bytes front ++ (new ++ bytes back))
text_replaces front middle back part new there visible line was goes still =
    let item = front ++ (middle ++ back) in
    let other = front ++ (bytes_at 0 new ++ back) in
    let text = bytes front ++ (new ++ bytes back) in
    let bare = bytes_at 0 (bytes item) in
    let bare_is : bytes item ≡ bytes bare = sym (bytes_of_at 0 (bytes item)) in
    let now_is : bytes other ≡ bytes (bytes_at 0 text) = new_bytes front back new ∙ sym (bytes_of_at 0 text) in
    let on : Goes nothing 44 (bytes_at 0 text) = goes_at nothing 44 other (bytes_at 0 text) now_is goes in
    record {
      front = front;
      middle = middle;
      back = back;
      whole = refl;
      there = there;
      is = refl;
      visible = visible;
      one_line = line;
      uncut = goes_uncut text on;
      closed = λ closed.
          ends_closed text on
          (ap (λ (e : Escape). cuts e 44) (sym (by_after_at nothing 44 other (bytes_at 0 text) now_is))
          ∙ still (ap (λ (e : Escape). cuts e 44) (by_after_at nothing 44 item bare bare_is)
          ∙ closed_ends (bytes item) (goes_at nothing 44 item bare bare_is was) closed));
    }

-- ---- the byte before a text counts only if it is a `%`

same_escape : (b c x : ℕ) → (b == 37) ≡ false → (c == 37) ≡ false → escape_after nothing b x ≡ escape_after nothing c x
same_escape b c x one other = rw (one, other) refl

pub goes_from : (b c : ℕ) (text : List PlacedByte) → (b == 37) ≡ false → (c == 37) ≡ false → Goes nothing b text → Goes nothing c text
unfolding Goes
goes_from b c [] one other goes = tt
goes_from b c (x ∷ xs) one other goes = (goes.0, subst (λ (e : Escape). Goes e x.0 xs) (same_escape b c x.0 one other) goes.1)

pub after_from : (b c : ℕ) (text : List PlacedByte) → (b == 37) ≡ false → (c == 37) ≡ false → by_after nothing b text ≡ by_after nothing c text
unfolding by_after
after_from b c [] one other = refl
after_from b c (x ∷ xs) one other = ap (λ (e : Escape). by_after e x.0 xs) (same_escape b c x.0 one other)

-- ---- a byte in the place of another

pub last_pushed : (before : ℕ) (front : List PlacedByte) (x : PlacedByte) → last_of before (front ++ x ∷ []) ≡ x.0
unfolding last_of
last_pushed before front x =
    ap (λ (t : List ℕ). last_byte before t) (map-append (λ (y : PlacedByte). y.0) front (x ∷ [])) ∙ last_byte-push before (bytes front) x.0

-- what is after plain bytes, of which the last is no `%`
pub goes_after : (front : List PlacedByte) (x : PlacedByte) (back : List PlacedByte) → IsPlain (bytes (front ++ x ∷ [])) → (x.0 == 37) ≡ false
    → Goes nothing 44 ((front ++ x ∷ []) ++ back) → Goes nothing 44 back
goes_after front x back plain other goes =
    let one = front ++ x ∷ [] in
    let later : Goes nothing (last_of 44 one) back =
    subst (λ (e : Escape). Goes e (last_of 44 one) back) (plain_after 44 one plain) (goes_back nothing 44 one back goes) in
    goes_from x.0 44 back other refl (subst (λ (b : ℕ). Goes nothing b back) (last_pushed 44 front x) later)

pub goes_with : (front : List PlacedByte) (x : PlacedByte) (back : List PlacedByte) → IsPlain (bytes (front ++ x ∷ [])) → (x.0 == 37) ≡ false
    → Goes nothing 44 back → Goes nothing 44 ((front ++ x ∷ []) ++ back)
goes_with front x back plain other goes =
    let one = front ++ x ∷ [] in
    let later : Goes nothing (last_of 44 one) back =
    subst (λ (b : ℕ). Goes nothing b back) (sym (last_pushed 44 front x)) (goes_from 44 x.0 back refl other goes) in
    goes_both nothing 44 one back (plain_goes 44 one plain) (subst (λ (e : Escape). Goes e (last_of 44 one) back) (sym (plain_after 44 one plain)) later)

pub after_with : (front : List PlacedByte) (x : PlacedByte) (back : List PlacedByte) → IsPlain (bytes (front ++ x ∷ [])) → (x.0 == 37) ≡ false
    → by_after nothing 44 ((front ++ x ∷ []) ++ back) ≡ by_after nothing 44 back
after_with front x back plain other =
    let one = front ++ x ∷ [] in
    after_both nothing 44 one back ∙ ap (λ (e : Escape). by_after e (last_of 44 one) back) (plain_after 44 one plain)
    ∙ ap (λ (b : ℕ). by_after nothing b back) (last_pushed 44 front x)
    ∙ after_from x.0 44 back other refl

pub plain_pushed : (front : List PlacedByte) (x : PlacedByte) → IsPlain (bytes front) → IsPlain (x.0 ∷ []) → IsPlain (bytes (front ++ x ∷ []))
plain_pushed front x plain one = subst IsPlain (sym (map-append (λ (y : PlacedByte). y.0) front (x ∷ []))) (plain_both (bytes front) (x.0 ∷ []) plain one)

-- a plain byte in the place of another after plain bytes
pub byte_replaces : (front : List PlacedByte) (x : PlacedByte) (back : List PlacedByte) (part : Part) (n : ℕ) → spanned (x ∷ []) ≡ Some part
    → IsPlain (bytes front) → IsPlain (x.0 ∷ []) → IsPlain (n ∷ [])
    → (x.0 == 37) ≡ false → (n == 37) ≡ false → BeginsVisible (n ∷ []) → Goes nothing 44 (front ++ ((x ∷ []) ++ back))
    → Replaces (front ++ ((x ∷ []) ++ back)) part (n ∷ []) (bytes front ++ ((n ∷ []) ++ bytes back))
byte_replaces front x back part n there plain one new other also visible was =
    let y : PlacedByte = (n, 0) in
    let old = plain_pushed front x plain one in
    let now = plain_pushed front y plain new in
    let old_is : (front ++ x ∷ []) ++ back ≡ front ++ ((x ∷ []) ++ back) = append_assoc front (x ∷ []) back in
    let now_is : (front ++ y ∷ []) ++ back ≡ front ++ ((y ∷ []) ++ back) = append_assoc front (y ∷ []) back in
    let later = goes_after front x back old other (subst (Goes nothing 44) (sym old_is) was) in
    let same : by_after nothing 44 (front ++ ((x ∷ []) ++ back)) ≡ by_after nothing 44 (front ++ ((y ∷ []) ++ back)) =
    ap (by_after nothing 44) (sym old_is) ∙ after_with front x back old other ∙ sym (after_with front y back now also) ∙ ap (by_after nothing 44) now_is in
    text_replaces front (x ∷ []) back part (n ∷ []) there visible (plain_line (n ∷ []) new) was
    (subst (Goes nothing 44) now_is (goes_with front y back now also later))
    (λ ends. ap (λ (e : Escape). cuts e 44) (sym same) ∙ ends)
