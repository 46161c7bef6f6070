-- A byte of an item that is taken out of its block, where only white space of the item is after it.
use Rattle.std.proofs.Common.{◌≡◌, ℕ, suc, ◌+◌, ◌==◌, Bool, true, false, List, [], ◌∷◌, ◌++◌, drop, length, map, take, Some, slice_get, slice_set, inl, inr}
use Rattle.std.proofs.Common.{refl, sym, ap, ap₂, subst, ◌∙◌}
use Rattle.std.proofs.lemmas.Bool.{cases_Bool}
use Rattle.std.proofs.lemmas.List.{append-nil, map-append, map-set}
use Rattle.std.proofs.lemmas.Option.{slice_get-map}
use Rattle.std.proofs.lemmas.Simd.{map-map}
use Rattle.ti_text.specs.Texts.{last_byte}
use Rattle.ti_text.specs.WhiteSpace.{is_white_space}
use Rattle.ti_source.specs.Cutting.{HasNoHead, OneBlock, begins_head}
use Rattle.ti_source.specs.Folding.{PlacedByte}
use Rattle.ti_source.specs.Items.{IsWhite, bytes, without_front}
use Rattle.source_spans.specs.Folding.{bytes_at, folded_of}
use Rattle.source_spans.specs.Parts.{field_of, items_after, rest_of}
use Rattle.source_spans.specs.Replacing.{BeginsVisible, IsPlain, exchanged}
use Rattle.source_spans.specs.Subjects.{items_of}
use Rattle.source_spans.proofs.Escaping.{Escape, nothing}
use Rattle.source_spans.proofs.Exchanging.{block_from, computed, cut_back, cut_front, found_raw, head_no_newline, is_comma, placed_at, regroup, some_first}
use Rattle.source_spans.proofs.Ordinals.{same_field, same_texts}
use Rattle.source_spans.proofs.Plain.{plain_after, plain_both, plain_goes}
use Rattle.source_spans.proofs.Recutting.{Ends, Goes, White, by_after, by_after_white, front_dropped, front_split, goes_after_white}
use Rattle.source_spans.proofs.Refolding.{bytes_apart, bytes_of_at, find_kept, kept_after, kept_safe, no_line_begins, no_newline, same_after, shifted}
use Rattle.source_fixes.specs.Healing.{OneItemChanges}
use Rattle.source_fixes.proofs.Changing.{changes_by_texts}
use Rattle.source_fixes.proofs.NamesHeal.{white_plain}
use Rattle.source_fixes.proofs.Putting.{IsPut}

-- ---- what is kept after a byte, and after the byte before it

-- white space may be lost
record Loses (one other : List ℕ) : Type 0 where
  white : List ℕ
  are : IsWhite white
  is : one ≡ white ++ other

in_line : (l m o p : ℕ) (text : List ℕ) → (l == 10) ≡ false → (m == 10) ≡ false
    → Loses (bytes (kept_after false m false (bytes_at p text))) (bytes (kept_after false l true (bytes_at o text)))
in_line l m o p [] one other = record { white = []; are = tt; is = refl }
in_line l m o p (y ∷ ys) one other =
    elim (cases_Bool (y == 10)) [
      | inl t ↦ record { white = []; are = tt; is = rw (other, one, t) (shifted false true y (suc p) (suc o) ys) }
      | inr f ↦
          elim (cases_Bool (is_white_space y)) [
            | inl w ↦
                let later = in_line y y (suc o) (suc p) ys f f in
                record { white = y ∷ later.white; are = (w, later.are); is = rw (other, one, f, w) (ap (λ (t : List ℕ). y ∷ t) later.is) }
            | inr v ↦ record { white = []; are = tt; is = rw (other, one, f, v) (ap (λ (t : List ℕ). y ∷ t) (shifted false false y (suc p) (suc o) ys)) }
          ]
    ]

loses : (joining : Bool) (l m o p : ℕ) (text : List ℕ) → (l == 10) ≡ false → (m == 10) ≡ false
    → Loses (bytes (kept_after false m false (bytes_at p text))) (bytes (kept_after false l joining (bytes_at o text)))
loses true l m o p text one other = in_line l m o p text one other
loses false l m o p text one other =
    record { white = []; are = tt; is = ap bytes (same_after m l (bytes_at p text) other one) ∙ shifted false false l p o text }

-- ---- the folded text

record FoldsOut (after : List ℕ) (front : List PlacedByte) (back : List ℕ) : Type 0 where
  rest : List ℕ
  lost : Loses back rest
  folded : bytes (folded_of after) ≡ bytes front ++ rest

folds_out : (h : ℕ) (block : List ℕ) (p : PlacedByte) (front : List PlacedByte) (x : PlacedByte) (back : List PlacedByte) → begins_head h ≡ true
    → HasNoHead h block
    → folded_of (h ∷ block) ≡ (p ∷ front) ++ x ∷ back → FoldsOut (exchanged (h ∷ block) (record { start = x.1; end = suc x.1 }) []) (p ∷ front) (bytes back)
folds_out h block p front x back head none e =
    let both : (h, 0) ∷ kept_after false h false (bytes_at 1 block) ≡ p ∷ (front ++ x ∷ back) = sym (block_from h (bytes_at 1 block) head) ∙ e in
    let first : (h, 0) ≡ p = cc in
    let left : kept_after false h false (bytes_at 1 block) ≡ front ++ x ∷ back = cc in
    let found = find_kept false false h 1 block front x back (kept_safe h (head_no_newline h head)) left in
    let l = last_byte h found.before in
    let plain : (l == 10) ≡ false =
    no_line_begins found.comment found.joining l x.0 h found.before found.after refl (subst (HasNoHead h) found.whole none) found.safe found.out found.stays in
    let out : found.comment ≡ false = rw plain at found.out in
    let fronts : take x.1 (h ∷ block) ≡ h ∷ found.before =
    ap (λ (t : List ℕ). take x.1 (h ∷ t)) found.whole ∙ cut_front h x.0 found.before found.after x.1 found.place in
    let backs : drop (suc x.1) (h ∷ block) ≡ found.after =
    ap (λ (t : List ℕ). drop (suc x.1) (h ∷ t)) found.whole ∙ cut_back h x.0 found.before found.after x.1 found.place in
    let here = 1 + length found.before in
    let lost = loses found.joining l x.0 here (suc x.1) found.after plain (no_newline found.joining x.0 found.stays) in
    let rest = kept_after false l found.joining (bytes_at here found.after) in
    let joined : exchanged (h ∷ block) (record { start = x.1; end = suc x.1 }) [] ≡ h ∷ (found.before ++ found.after) =
    ap₂ (λ (a b : List ℕ). a ++ [] ++ b) fronts backs ∙ ap (λ (t : List ℕ). t ++ found.after) (append-nil (h ∷ found.before)) in
    let folded : folded_of (h ∷ (found.before ++ found.after)) ≡ (h, 0) ∷ (front ++ rest) =
    block_from h (bytes_at 1 (found.before ++ found.after)) head
    ∙ ap (λ (t : List PlacedByte). (h, 0) ∷ kept_after false h false t) (bytes_apart 1 found.before found.after)
    ∙ ap (λ (t : List PlacedByte). (h, 0) ∷ t) (found.front_kept (bytes_at here found.after))
    ∙ ap (λ (c : Bool). (h, 0) ∷ (front ++ kept_after c l found.joining (bytes_at here found.after))) out in
    record {
      rest = bytes rest;
      lost = subst (λ (t : List PlacedByte). Loses (bytes t) (bytes rest)) (sym found.back_kept) lost;
      folded = ap (λ (t : List ℕ). bytes (folded_of t)) joined ∙ ap bytes folded ∙ ap (λ (y : PlacedByte). bytes (y ∷ (front ++ rest))) first
          ∙ map-append (λ (y : PlacedByte). y.0) (p ∷ front) rest;
    }

-- ---- the white space of the item

-- a text does not begin with white space
abbrev BeginsOther : List ℕ → Type 0
BeginsOther [] = Unit {0}
BeginsOther (x ∷ xs) = is_white_space x ≡ false

record IsLeft (rest tail : List ℕ) : Type 0 where
  end : List ℕ
  are : IsWhite end
  is : rest ≡ end ++ tail

left_white : (value tail white rest : List ℕ) → IsWhite value → IsWhite white → BeginsOther tail → value ++ tail ≡ white ++ rest → IsLeft rest tail
left_white value tail [] rest are lost other e = record { end = value; are = are; is = sym e }
left_white [] [] (w ∷ ws) rest are lost other e = absurd cc
left_white [] (t ∷ ts) (w ∷ ws) rest are lost other e =
    let same : t ≡ w = cc in
    let no : is_white_space w ≡ false = ap is_white_space (sym same) ∙ other in
    let yes = lost.0 in
    absurd cc
left_white (v ∷ vs) tail (w ∷ ws) rest are lost other e =
    let later : vs ++ tail ≡ ws ++ rest = cc in
    left_white vs tail ws rest are.1 lost.1 other later

tail_other : (by : Escape) (tail : List PlacedByte) → Ends by tail → BeginsOther (bytes tail)
unfolding Ends
tail_other by [] ends = tt
tail_other by (c ∷ tail) ends = ap is_white_space (is_comma by c.0 ends)

tail_ends : (by : Escape) (tail : List PlacedByte) → Ends by tail → Ends nothing tail
unfolding Ends
tail_ends by [] ends = tt
tail_ends by (c ∷ tail) ends = rw (is_comma by c.0 ends) refl

pub white_is_plain : (text : List ℕ) → IsWhite text → IsPlain text
white_is_plain [] are = tt
white_is_plain (x ∷ xs) are = (white_plain x are.0, white_is_plain xs are.1)

-- ---- the item

-- what is left of the item
pub record IsTakenOut (block after : List ℕ) (ordinal : ℕ) (name : List ℕ) : Type 0 where
  pub end : List ℕ
  pub are : IsWhite end
  pub changes : OneItemChanges block after ordinal (name ++ end)

shown_name : (white name more : List PlacedByte) → White white → BeginsVisible (bytes name) → without_front (white ++ (name ++ more)) ≡ name ++ more
shown_name white [] more are visible = absurd visible
shown_name white (n ∷ ns) more are visible = front_dropped white n (ns ++ more) are visible

out_of : (h : ℕ) (block : List ℕ) (ordinal : ℕ) (raw name value : List PlacedByte) (mark : PlacedByte) → begins_head h ≡ true → HasNoHead h block
    → IsPut (bytes name) → IsWhite (bytes value)
    → slice_get (items_after 44 (rest_of (folded_of (h ∷ block)))) ordinal ≡ Some raw → without_front raw ≡ name ++ mark ∷ value
    → slice_get (items_of (folded_of (h ∷ block))) ordinal ≡ Some (name ++ mark ∷ value)
    → IsTakenOut (h ∷ block) (exchanged (h ∷ block) (record { start = mark.1; end = suc mark.1 }) []) ordinal (bytes name)
out_of h block ordinal raw name value mark head none put are raw_there shown there =
    let whole = folded_of (h ∷ block) in
    let after = exchanged (h ∷ block) (record { start = mark.1; end = suc mark.1 }) [] in
    let edited = folded_of after in
    let placed = placed_at whole ordinal raw mark name value raw_there shown in
    let field = field_of whole in
    let comma = placed.rest.comma in
    let before = placed.at.front in
    let tail = placed.at.tail in
    let split = front_split raw in
    let white = split.white in
    let raw_is : raw ≡ white ++ (name ++ ((mark ∷ []) ++ value)) = split.whole ∙ ap (λ (t : List PlacedByte). white ++ t) shown in
    let first = some_first field (before ++ (white ++ name)) comma in
    let folded : whole ≡ (first.0 ∷ first.1) ++ mark ∷ (value ++ tail) =
    placed.rest.whole ∙ ap (λ (t : List PlacedByte). field ++ comma ∷ t) (placed.at.whole ∙ ap (λ (t : List PlacedByte). before ++ (t ++ tail)) raw_is)
    ∙ regroup field before white name (mark ∷ []) value tail comma ∙ ap (λ (t : List PlacedByte). t ++ mark ∷ (value ++ tail)) first.2 in
    let out = folds_out h block first.0 first.1 mark (value ++ tail) head none folded in
    let by = by_after nothing 44 raw in
    let left = left_white (bytes value) (bytes tail) out.lost.white out.rest are out.lost.are (tail_other by tail placed.at.ends)
    (sym (map-append (λ (x : PlacedByte). x.0) value tail) ∙ out.lost.is) in
    let fresh = bytes_at 0 left.end in
    let more = fresh ++ [] in
    let other = white ++ (name ++ more) in
    let all = field ++ comma ∷ (before ++ (other ++ tail)) in
    let more_is : bytes more ≡ left.end = ap bytes (append-nil fresh) ∙ bytes_of_at 0 left.end in
    let now : bytes edited ≡ bytes all =
    out.folded ∙ ap (λ (t : List ℕ). bytes (first.0 ∷ first.1) ++ t) (left.is ∙ ap (λ (t : List ℕ). t ++ bytes tail) (sym (bytes_of_at 0 left.end))
    ∙ sym (map-append (λ (x : PlacedByte). x.0) fresh tail))
    ∙ sym (map-append (λ (x : PlacedByte). x.0) (first.0 ∷ first.1) (fresh ++ tail)) ∙ ap (λ (t : List PlacedByte). bytes (t ++ (fresh ++ tail))) (sym first.2)
    ∙ ap bytes (sym (regroup field before white name fresh [] tail comma)) in
    let text = bytes name ++ left.end in
    let text_is : bytes (name ++ more) ≡ text = map-append (λ (x : PlacedByte). x.0) name more ∙ ap (λ (t : List ℕ). bytes name ++ t) more_is in
    let plain : IsPlain (bytes (name ++ more)) = subst IsPlain (sym text_is) (plain_both (bytes name) left.end put.plain (white_is_plain left.end left.are)) in
    let goes : Goes nothing 44 other = goes_after_white 44 white (name ++ more) refl split.are (plain_goes 44 (name ++ more) plain) in
    let none_takes : by_after nothing 44 other ≡ nothing = by_after_white 44 white (name ++ more) refl split.are ∙ plain_after 44 (name ++ more) plain in
    let ends : Ends (by_after nothing 44 other) tail = subst (λ (e : Escape). Ends e tail) (sym none_takes) (tail_ends by tail placed.at.ends) in
    let raws = items_after 44 (rest_of whole) in
    let items : items_after 44 (rest_of all) ≡ slice_set raws ordinal other =
    ap (items_after 44) (placed.rest.rest (before ++ (other ++ tail))) ∙ computed (before ++ (other ++ tail)) ∙ placed.at.swap other goes ends
    ∙ ap (λ (l : List (List PlacedByte)). slice_set l ordinal other) (sym (computed (rest_of whole))) in
    let text_of : List PlacedByte → List ℕ = λ i. bytes (without_front i) in
    let one : text_of other ≡ text = ap bytes (shown_name white name more split.are put.visible) ∙ text_is in
    record {
      end = left.end;
      are = left.are;
      changes = changes_by_texts (h ∷ block) after ordinal (name ++ mark ∷ value) text there
          (map-map bytes without_front (items_after 44 (rest_of edited)) ∙ same_texts edited all now ∙ ap (map text_of) items
          ∙ map-set text_of raws ordinal other
          ∙ ap₂ (λ (l : List (List ℕ)) (t : List ℕ). slice_set l ordinal t) (sym (map-map bytes without_front raws)) one)
          (same_field edited all now ∙ ap bytes (placed.rest.field (before ++ (other ++ tail))));
    }

pub taken_out : (block : List ℕ) (ordinal : ℕ) (name value : List PlacedByte) (mark : PlacedByte) → OneBlock block → IsPut (bytes name) → IsWhite (bytes value)
    → slice_get (items_of (folded_of block)) ordinal ≡ Some (name ++ mark ∷ value)
    → IsTakenOut block (exchanged block (record { start = mark.1; end = suc mark.1 }) []) ordinal (bytes name)
taken_out [] ordinal name value mark single put are there = absurd single.cut.each.1
taken_out (h ∷ block) ordinal name value mark single put are there =
    let raws = items_after 44 (rest_of (folded_of (h ∷ block))) in
    let found = found_raw (slice_get raws ordinal) (name ++ mark ∷ value) (sym (slice_get-map without_front raws ordinal) ∙ there) in
    out_of h block ordinal found.0 name value mark single.cut.each.1.0 single.cut.each.1.1 put are found.1 found.2 there
