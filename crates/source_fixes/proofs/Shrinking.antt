-- A text in the place of a part of an item, without the bytes that are alike in both.
use Rattle.std.proofs.Common.{◌≡◌, ◌≤◌, ◌<◌, ℕ, zero, suc, ◌-◌, ◌==◌, true, List, [], ◌∷◌, ◌++◌, append_assoc, drop, length, Some, take, reverse}
use Rattle.std.proofs.Common.{inl, inr, refl, sym, ap, ap₂, subst, ◌∙◌, arith}
use Rattle.std.proofs.Math.Seq.{drop-append_seam}
use Rattle.std.proofs.lemmas.Bool.{cases_Bool, eqb-true, not-true}
use Rattle.std.proofs.lemmas.List.{drop-map, length-drop, length-reverse, length-take-le, map-append, reverse-append, reverse-reverse, take-append-drop, take-map, take_all}
use Rattle.ti_source.specs.Folding.{PlacedByte}
use Rattle.ti_source.specs.Items.{bytes}
use Rattle.source_spans.specs.Parts.{end_of, spanned}
use Rattle.source_spans.specs.Replacing.{BeginsVisible, IsOneLine, Replaces}
use Rattle.source_spans.specs.declared.parts.Part.{Part}
use Rattle.source_edits.specs.Narrowing.{ExchangeSeen, back_size, begins_visible, front_size, shared, without_back, without_front, without_same}
use Rattle.source_edits.proofs.Alike.{length_bytes}

-- ---- bytes that are alike

-- the bytes with which both begin
same_front : (xs ns : List ℕ) → take (shared xs ns) xs ≡ take (shared xs ns) ns
same_front [] ns = refl
same_front (x ∷ []) ns = refl
same_front (x ∷ y ∷ ys) [] = refl
same_front (x ∷ y ∷ ys) (n ∷ []) = refl
same_front (x ∷ y ∷ ys) (n ∷ m ∷ ms) =
    elim (cases_Bool (x == n)) [
      | inl t ↦ rw t (ap₂ (λ (b : ℕ) (l : List ℕ). b ∷ l) (eqb-true x n t) (same_front (y ∷ ys) (m ∷ ms)))
      | inr f ↦ rw f refl
    ]

-- one of each is left
some_old : (xs ns : List ℕ) → 0 < length xs → shared xs ns < length xs
some_old [] ns some = some
some_old (x ∷ []) ns some = omega arith
some_old (x ∷ y ∷ ys) [] some = omega arith
some_old (x ∷ y ∷ ys) (n ∷ []) some = omega arith
some_old (x ∷ y ∷ ys) (n ∷ m ∷ ms) some =
    elim (cases_Bool (x == n)) [
      | inl t ↦ rw t (let less = some_old (y ∷ ys) (m ∷ ms) (omega arith) in omega (arith, less))
      | inr f ↦ rw f (omega arith)
    ]

some_new : (xs ns : List ℕ) → 0 < length ns → shared xs ns < length ns
some_new [] ns some = some
some_new (x ∷ []) ns some = some
some_new (x ∷ y ∷ ys) [] some = some
some_new (x ∷ y ∷ ys) (n ∷ []) some = omega arith
some_new (x ∷ y ∷ ys) (n ∷ m ∷ ms) some =
    elim (cases_Bool (x == n)) [
      | inl t ↦ rw t (let less = some_new (y ∷ ys) (m ∷ ms) (omega arith) in omega (arith, less))
      | inr f ↦ rw f (omega arith)
    ]

-- the last bytes, by the first of them in the other order
last_bytes : (xs : List ℕ) (b : ℕ) → b ≤ length xs → drop (length xs - b) xs ≡ reverse (take b (reverse xs))
last_bytes xs b within =
    let back = reverse xs in
    let front = reverse (drop b back) in
    let end = reverse (take b back) in
    let parts : xs ≡ front ++ end =
    sym (reverse-reverse xs) ∙ ap reverse (sym (take-append-drop b back)) ∙ reverse-append (take b back) (drop b back) in
    let size : length front ≡ length xs - b = length-reverse (drop b back) ∙ length-drop b back ∙ ap (λ (n : ℕ). n - b) (length-reverse xs) in
    ap (λ (n : ℕ). drop n xs) (sym size) ∙ ap (drop (length front)) parts ∙ drop-append_seam front end

-- those with which both end
same_back : (xs ns : List ℕ) (b : ℕ) → b ≡ shared (reverse xs) (reverse ns) → b ≤ length xs → b ≤ length ns
    → drop (length xs - b) xs ≡ drop (length ns - b) ns
same_back xs ns b is within also =
    last_bytes xs b within
    ∙ ap reverse (ap (λ (n : ℕ). take n (reverse xs)) is ∙ same_front (reverse xs) (reverse ns) ∙ ap (λ (n : ℕ). take n (reverse ns)) (sym is))
    ∙ sym (last_bytes ns b also)

-- ---- what is left of both

visible_of : (text : List ℕ) → begins_visible text ≡ true → BeginsVisible text
visible_of [] e = cc
visible_of (x ∷ xs) e = not-true _ e

visible_some : (text : List ℕ) → BeginsVisible text → 0 < length text
visible_some [] visible = absurd visible
visible_some (x ∷ xs) visible = omega arith

visible_taken : (n : ℕ) (text : List ℕ) → 0 < n → BeginsVisible text → BeginsVisible (take n text)
visible_taken zero text some visible = absurd (omega (arith, some))
visible_taken (suc n) [] some visible = absurd visible
visible_taken (suc n) (x ∷ xs) some visible = visible

line_taken : (n : ℕ) (text : List ℕ) → IsOneLine text → IsOneLine (take n text)
line_taken zero text line = tt
line_taken (suc n) [] line = tt
line_taken (suc n) (x ∷ xs) line = (line.0, line_taken n xs line.1)

line_dropped : (n : ℕ) (text : List ℕ) → IsOneLine text → IsOneLine (drop n text)
line_dropped zero text line = line
line_dropped (suc n) [] line = tt
line_dropped (suc n) (x ∷ xs) line = line_dropped n xs line.1

-- after what is alike at the front
record IsLeft (e : ExchangeSeen) : Type 0 where
  old : front_size e < length e.old
  new : front_size e < length e.new
  same : bytes (take (front_size e) e.old) ≡ take (front_size e) e.new
  visible : BeginsVisible (drop (front_size e) e.new)

front_left : (e : ExchangeSeen) → 0 < length e.old → BeginsVisible e.new → IsLeft e
front_left e some visible =
    let xs = bytes e.old in
    let size = length_bytes e.old in
    let count = shared xs e.new in
    let fewer = some_old xs e.new (omega (arith, some, size)) in
    let less = some_new xs e.new (visible_some e.new visible) in
    elim (cases_Bool (begins_visible (drop count e.new))) [
      | inl t ↦
          let is : front_size e ≡ count = rw t refl in
          record {
            old = omega (arith, is, fewer, size);
            new = omega (arith, is, less);
            same = ap (λ (n : ℕ). bytes (take n e.old)) is ∙ sym (take-map (λ (x : PlacedByte). x.0) count e.old) ∙ same_front xs e.new
                ∙ ap (λ (n : ℕ). take n e.new) (sym is);
            visible = subst (λ (n : ℕ). BeginsVisible (drop n e.new)) (sym is) (visible_of (drop count e.new) t);
          }
      | inr f ↦
          let is : front_size e ≡ 0 = rw f refl in
          record {
            old = omega (arith, is, some);
            new = let more = visible_some e.new visible in omega (arith, is, more);
            same = ap (λ (n : ℕ). bytes (take n e.old)) is ∙ ap (λ (n : ℕ). take n e.new) (sym is);
            visible = subst (λ (n : ℕ). BeginsVisible (drop n e.new)) (sym is) visible;
          }
    ]

-- and what is alike at the back
record IsCut (e : ExchangeSeen) : Type 0 where
  old : back_size e < length e.old
  new : back_size e < length e.new
  same : bytes (drop (length e.old - back_size e) e.old) ≡ drop (length e.new - back_size e) e.new

back_left : (e : ExchangeSeen) → 0 < length e.old → 0 < length e.new → IsCut e
back_left e some more =
    let xs = bytes e.old in
    let size = length_bytes e.old in
    let back = length-reverse xs in
    let also = length-reverse e.new in
    let fewer = some_old (reverse xs) (reverse e.new) (omega (arith, some, size, back)) in
    let less = some_new (reverse xs) (reverse e.new) (omega (arith, more, also)) in
    let old : back_size e < length e.old = omega (arith, fewer, size, back) in
    let new : back_size e < length e.new = omega (arith, less, also) in
    record {
      old = old;
      new = new;
      same = sym (drop-map (λ (x : PlacedByte). x.0) (length e.old - back_size e) e.old)
          ∙ ap (λ (n : ℕ). drop (n - back_size e) xs) (sym size)
          ∙ same_back xs e.new (back_size e) refl (omega (arith, old, size)) (omega (arith, new));
    }

-- ---- in an item

regroup : (a p q s z : List ℕ) → a ++ ((p ++ (q ++ s)) ++ z) ≡ (a ++ p) ++ (q ++ (s ++ z))
regroup a p q s z = simp append_assoc

regroup_item : (a p q s z : List PlacedByte) → a ++ ((p ++ (q ++ s)) ++ z) ≡ (a ++ p) ++ (q ++ (s ++ z))
regroup_item a p q s z = simp append_assoc

bytes_both : (one other : List PlacedByte) → bytes (one ++ other) ≡ bytes one ++ bytes other
bytes_both one other = map-append (λ (x : PlacedByte). x.0) one other

span_some : (xs : List PlacedByte) → 0 < length xs → (part : Part) × (spanned xs ≡ Some part)
span_some [] some = absurd (omega (arith, some))
span_some (x ∷ xs) some = (record { start = x.1; end = end_of (suc x.1) xs }, refl)

some_middle : (middle : List PlacedByte) (part : Part) → spanned middle ≡ Some part → 0 < length middle
some_middle [] part e = cc
some_middle (x ∷ xs) part e = omega arith

-- what is left takes a place in the item so that its text is the same
pub record IsNarrowed (item middle : List PlacedByte) (new text : List ℕ) : Type 0 where
  pub part : Part
  pub there : spanned (without_same (record { old = middle; new = new })).old ≡ Some part
  pub replaces : Replaces item part (without_same (record { old = middle; new = new })).new text

pub narrowed_replaces : (item : List PlacedByte) (part : Part) (new text : List ℕ) (r : Replaces item part new text) → IsNarrowed item r.middle new text
narrowed_replaces item part new text r =
    let middle = r.middle in
    let e : ExchangeSeen = record { old = middle; new = new } in
    let some = some_middle middle part r.there in
    let left = front_left e some r.visible in
    let k = front_size e in
    let one = without_front e in
    let one_old : length one.old ≡ length middle - k = length-drop k middle in
    let one_new : length one.new ≡ length new - k = length-drop k new in
    let old_left = left.old in
    let new_left = left.new in
    let cut = back_left one (omega (arith, one_old, old_left)) (omega (arith, one_new, new_left)) in
    let old_cut = cut.old in
    let new_cut = cut.new in
    let b = back_size one in
    let m = length one.old - b in
    let n = length one.new - b in
    let front = take k middle in
    let end = drop m one.old in
    let middle_is : middle ≡ front ++ (take m one.old ++ end) =
    sym (take-append-drop k middle) ∙ ap (λ (t : List PlacedByte). front ++ t) (sym (take-append-drop m one.old)) in
    let new_is : new ≡ take k new ++ (take n one.new ++ drop n one.new) =
    sym (take-append-drop k new) ∙ ap (λ (t : List ℕ). take k new ++ t) (sym (take-append-drop n one.new)) in
    let size : length (take m one.old) ≡ m = length-take-le m one.old (omega arith) in
    let span = span_some (take m one.old) (omega (arith, size, old_cut)) in
    let front_bytes : bytes (r.front ++ front) ≡ bytes r.front ++ take k new =
    bytes_both r.front front ∙ ap (λ (t : List ℕ). bytes r.front ++ t) left.same in
    let back_bytes : bytes (end ++ r.back) ≡ drop n one.new ++ bytes r.back =
    bytes_both end r.back ∙ ap (λ (t : List ℕ). t ++ bytes r.back) cut.same in
    record {
      part = span.0;
      there = span.1;
      replaces = record {
        front = r.front ++ front;
        middle = take m one.old;
        back = end ++ r.back;
        whole = r.whole ∙ ap (λ (t : List PlacedByte). r.front ++ (t ++ r.back)) middle_is ∙ regroup_item r.front front (take m one.old) end r.back;
        there = span.1;
        is = r.is ∙ ap (λ (t : List ℕ). bytes r.front ++ (t ++ bytes r.back)) new_is
            ∙ regroup (bytes r.front) (take k new) (take n one.new) (drop n one.new) (bytes r.back)
            ∙ ap₂ (λ (s t : List ℕ). s ++ (take n one.new ++ t)) (sym front_bytes) (sym back_bytes);
        visible = visible_taken n one.new (omega (arith, new_cut)) left.visible;
        one_line = line_taken n one.new (line_dropped k new r.one_line);
        uncut = r.uncut;
        closed = r.closed;
      };
    }

-- one byte, and what takes its place, stay
pub one_same : (byte : PlacedByte) (text : List ℕ)
    → without_same (record { old = byte ∷ []; new = text }) ≡ record { old = byte ∷ []; new = text }
one_same byte text =
    let e : ExchangeSeen = record { old = byte ∷ []; new = text } in
    let none : front_size e ≡ 0 = elim (cases_Bool (begins_visible text)) [ inl t ↦ rw t refl | inr f ↦ rw f refl ] in
    let same : without_front e ≡ e = ap (λ (n : ℕ). record { old = drop n e.old; new = drop n e.new }) none in
    let all : take (length text - 0) text ≡ text = take_all (length text - 0) text (omega arith) in
    ap without_back same ∙ ap (λ (t : List ℕ). record { old = byte ∷ []; new = t }) all
