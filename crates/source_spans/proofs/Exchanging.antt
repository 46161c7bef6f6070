-- A block with a part of an item exchanged.
use Rattle.std.proofs.Common.{◌≡◌, ℕ, zero, suc, ◌+◌, ◌==◌, ◌&&◌, Bool, true, false, List, [], ◌∷◌, ◌++◌, append_assoc, drop, length, map, take, Option}
use Rattle.std.proofs.Common.{None, Some, slice_get, slice_set, inl, inr, refl, sym, ap, ap₂, subst, ◌∙◌, arith}
use Rattle.std.specs.Option.{option_map}
use Rattle.std.proofs.Math.Seq.{drop-append-add, take-append_seam}
use Rattle.std.proofs.lemmas.Bool.{cases_Bool, eqb-true}
use Rattle.std.proofs.lemmas.List.{map-append, map-set}
use Rattle.std.proofs.lemmas.Option.{slice_get-map}
use Rattle.std.proofs.lemmas.Simd.{map-map}
use Rattle.ti_text.specs.Texts.{last_byte}
use Rattle.ti_text.specs.WhiteSpace.{is_white_space}
use Rattle.ti_source.specs.Cutting.{HasNoHead, begins_head}
use Rattle.ti_source.specs.Folding.{PlacedByte}
use Rattle.ti_source.specs.Items.{AreItems, bytes, without_front}
use Rattle.source_spans.specs.Folding.{bytes_at, folded_of}
use Rattle.source_spans.specs.Parts.{end_of, field_of, items_after, rest_of, spanned}
use Rattle.source_spans.specs.Replacing.{BeginsVisible, IsClosed, IsOneLine, IsUncut, OneItemIsReplaced, exchanged, item_texts}
use Rattle.source_spans.specs.Subjects.{head_text}
use Rattle.source_spans.specs.declared.parts.Part.{Part}
use Rattle.source_spans.proofs.Escaping as machine
use Rattle.source_spans.proofs.Escaping.{cuts, nothing, one_items}
use Rattle.source_spans.proofs.Itemizing.{items_computed}
use Rattle.source_spans.proofs.Ordinals.{same_field, same_texts}
use Rattle.source_spans.proofs.Recutting.{Ends, Goes, HasRest, IsAt, White, by_after, by_after_at, by_after_white, ends_if_two, front_dropped, front_split}
use Rattle.source_spans.proofs.Recutting.{goes_after_white, goes_at, goes_if_one, goes_without_white, has_rest, item_is_at, two_if_ends}
use Rattle.source_spans.proofs.Refolding.{bytes_apart, bytes_of_at, find_kept, kept_after, kept_safe, last_on_line, line_kept, no_line_begins, no_newline}
use Rattle.source_spans.proofs.Refolding.{past_kept, same_after, shifted}

-- ---- where a part of a block is

-- the last byte of a text that is not empty
has_last : (x : PlacedByte) (xs : List PlacedByte) → (front : List PlacedByte) × (last : PlacedByte) × (x ∷ xs ≡ front ++ last ∷ [])
    × (end_of (suc x.1) xs ≡ suc last.1)
has_last x [] = ([], x, refl, refl)
has_last x (y ∷ ys) = let later = has_last y ys in (x ∷ later.0, later.1, ap (λ (t : List PlacedByte). x ∷ t) later.2, later.3)

-- ---- the bytes of the folded text

-- the first byte of a block is kept
pub block_from : (h : ℕ) (rest : List PlacedByte) → begins_head h ≡ true → kept_after false 10 false ((h, 0) ∷ rest) ≡ (h, 0) ∷ kept_after false h false rest
block_from h rest head =
    let out = heads h head in
    past_kept false false 10 (h, 0) rest out.0 (rw out.1 refl)
  where
    heads : (h : ℕ) → begins_head h ≡ true → ((h == 35) ≡ false) × ((h == 10) ≡ false)
    heads h head = elim (cases_Bool (is_white_space h)) [
      | inl t ↦ let no = rw t at head in absurd cc
      | inr w ↦ elim (cases_Bool (h == 35)) [
        | inl t ↦ let no = rw (w, t) at head in absurd cc
        | inr m ↦ elim (cases_Bool (h == 10)) [ inl t ↦ let no = rw (w, m, t) at head in absurd cc | inr n ↦ (m, n) ]
      ]
    ]

pub head_no_newline : (h : ℕ) → begins_head h ≡ true → (h == 10) ≡ false
head_no_newline h head = elim (cases_Bool (h == 10)) [ inl t ↦ let no = rw (eqb-true h 10 t) at head in absurd cc | inr n ↦ n ]

none_and : (j w : Bool) → w ≡ false → (j && w) ≡ false
none_and true w e = e
none_and false w e = refl

-- a new text after a byte that is no newline is kept
new_kept : (c j : Bool) (b offset : ℕ) (n : ℕ) (ns : List ℕ) (rest : List PlacedByte) → c ≡ false → (b == 10) ≡ false → is_white_space n ≡ false
    → IsOneLine (n ∷ ns)
    → kept_after c b j (bytes_at offset (n ∷ ns) ++ rest) ≡ bytes_at offset (n ∷ ns) ++ kept_after false (last_byte n ns) false rest
new_kept c j b offset n ns rest out plain visible line =
    past_kept c j b (n, offset) (bytes_at (suc offset) ns ++ rest) (rw plain out) (rw line.0 (none_and j (is_white_space n) visible))
    ∙ ap (λ (t : List PlacedByte). (n, offset) ∷ t) (line_kept n (suc offset) ns rest line.0 line.1)

new_line : (b offset : ℕ) (new : List ℕ) (before after : List ℕ) → bytes_at 1 ((before ++ new) ++ after)
    ≡ bytes_at 1 before ++ (bytes_at (1 + length before) new ++ bytes_at (1 + length before + length new) after)
new_line b offset new before after =
    ap (bytes_at 1) (append_assoc before new after) ∙ bytes_apart 1 before (new ++ after)
    ∙ ap (λ (t : List PlacedByte). bytes_at 1 before ++ t) (bytes_apart (1 + length before) new after)

-- a new text in the place of what is between two parts of a block
between : (h l : ℕ) (before new after : List ℕ) (front : List PlacedByte) (c j : Bool) (at : ℕ) → begins_head h ≡ true → c ≡ false
    → (last_byte h before == 10) ≡ false → (l == 10) ≡ false
    → BeginsVisible new → IsOneLine new
    → ((rest : List PlacedByte) → kept_after false h false (bytes_at 1 before ++ rest) ≡ front ++ kept_after c (last_byte h before) j rest)
    → bytes (folded_of ((h ∷ before ++ new) ++ after)) ≡ h ∷ (bytes front ++ (new ++ bytes (kept_after false l false (bytes_at at after))))
between h l before [] after front c j at head out plain some visible line kept = absurd visible
between h l before (n ∷ ns) after front c j at head out plain some visible line kept =
    let new = n ∷ ns in
    let here = 1 + length before in
    let there = here + length new in
    let last = last_byte n ns in
    let rest = bytes_at here new ++ bytes_at there after in
    let left = kept_after false last false (bytes_at there after) in
    let folded : folded_of ((h ∷ before ++ new) ++ after) ≡ (h, 0) ∷ (front ++ (bytes_at here new ++ left)) =
    block_from h (bytes_at 1 ((before ++ new) ++ after)) head
    ∙ ap (λ (t : List PlacedByte). (h, 0) ∷ kept_after false h false t) (new_line 0 0 new before after)
    ∙ ap (λ (t : List PlacedByte). (h, 0) ∷ t) (kept rest)
    ∙ ap (λ (t : List PlacedByte). (h, 0) ∷ (front ++ t)) (new_kept c j (last_byte h before) here n ns (bytes_at there after) out plain visible line) in
    let ends : bytes left ≡ bytes (kept_after false l false (bytes_at at after)) =
    ap bytes (same_after last l (bytes_at there after) (last_on_line n ns line.0 line.1) some) ∙ shifted false false l there at after in
    ap bytes folded
    ∙ ap (λ (t : List ℕ). h ∷ t) (map-append (λ (x : PlacedByte). x.0) front (bytes_at here new ++ left))
    ∙ ap (λ (t : List ℕ). h ∷ (bytes front ++ t)) (map-append (λ (x : PlacedByte). x.0) (bytes_at here new) left
    ∙ ap₂ (λ (a b : List ℕ). a ++ b) (bytes_of_at here new) ends)

pub cut_front : (h x : ℕ) (before after : List ℕ) (at : ℕ) → at ≡ 1 + length before → take at (h ∷ (before ++ x ∷ after)) ≡ h ∷ before
cut_front h x before after at e =
    let same : at ≡ length (h ∷ before) = omega (arith, e) in
    ap (λ (n : ℕ). take n ((h ∷ before) ++ x ∷ after)) same ∙ take-append_seam (h ∷ before) (x ∷ after)

pub cut_back : (h x : ℕ) (before after : List ℕ) (at : ℕ) → at ≡ 1 + length before → drop (suc at) (h ∷ (before ++ x ∷ after)) ≡ after
cut_back h x before after at e =
    let more : suc at ≡ length (h ∷ before) + 1 = omega (arith, e) in
    ap (λ (n : ℕ). drop n ((h ∷ before) ++ x ∷ after)) more ∙ drop-append-add (h ∷ before) (x ∷ after) 1

-- a new text in the place of a part that is kept
refolded : (h : ℕ) (block : List ℕ) (p : PlacedByte) (front : List PlacedByte) (x : PlacedByte) (xs back : List PlacedByte) (new : List ℕ)
    → begins_head h ≡ true → HasNoHead h block
    → BeginsVisible new → IsOneLine new → folded_of (h ∷ block) ≡ (p ∷ front) ++ ((x ∷ xs) ++ back)
    → bytes (folded_of (exchanged (h ∷ block) (record { start = x.1; end = end_of (suc x.1) xs }) new)) ≡ bytes (p ∷ front) ++ (new ++ bytes back)
refolded h block p front x xs back new head none visible line e =
    let lasts = has_last x xs in
    let both : (h, 0) ∷ kept_after false h false (bytes_at 1 block) ≡ p ∷ (front ++ (x ∷ (xs ++ back))) = sym (block_from h (bytes_at 1 block) head) ∙ e in
    let first : (h, 0) ≡ p = cc in
    let left : kept_after false h false (bytes_at 1 block) ≡ front ++ (x ∷ (xs ++ back)) = cc in
    let safe = kept_safe h (head_no_newline h head) in
    let found = find_kept false false h 1 block front x (xs ++ back) safe left in
    let ended : front ++ (x ∷ (xs ++ back)) ≡ (front ++ lasts.0) ++ lasts.1 ∷ back =
    ap (λ (t : List PlacedByte). front ++ (t ++ back)) lasts.2 ∙ ap (λ (t : List PlacedByte). front ++ t) (append_assoc lasts.0 (lasts.1 ∷ []) back)
    ∙ sym (append_assoc front lasts.0 (lasts.1 ∷ back)) in
    let end = find_kept false false h 1 block (front ++ lasts.0) lasts.1 back safe (left ∙ ended) in
    let plain : (last_byte h found.before == 10) ≡ false =
    no_line_begins found.comment found.joining (last_byte h found.before) x.0 h found.before found.after refl
    (subst (HasNoHead h) found.whole none) found.safe found.out found.stays in
    let out : found.comment ≡ false = rw plain at found.out in
    let fronts : take x.1 (h ∷ block) ≡ h ∷ found.before =
    ap (λ (t : List ℕ). take x.1 (h ∷ t)) found.whole ∙ cut_front h x.0 found.before found.after x.1 found.place in
    let backs : drop (end_of (suc x.1) xs) (h ∷ block) ≡ end.after =
    ap (λ (n : ℕ). drop n (h ∷ block)) lasts.3 ∙ ap (λ (t : List ℕ). drop (suc lasts.1.1) (h ∷ t)) end.whole
    ∙ cut_back h lasts.1.0 end.before end.after lasts.1.1 end.place in
    ap₂ (λ (a b : List ℕ). bytes (folded_of (a ++ new ++ b))) fronts backs
    ∙ between h lasts.1.0 found.before new end.after front found.comment found.joining (suc lasts.1.1) head out plain
    (no_newline end.joining lasts.1.0 end.stays) visible line found.front_kept
    ∙ ap₂ (λ (n : ℕ) (t : List PlacedByte). n ∷ (bytes front ++ (new ++ bytes t))) (ap (λ (y : PlacedByte). y.0) first) (sym end.back_kept)

-- ---- the items

pub regroup : (field rest white front middle back tail : List PlacedByte) (comma : PlacedByte)
    → field ++ comma ∷ (rest ++ ((white ++ (front ++ (middle ++ back))) ++ tail)) ≡ (field ++ comma ∷ (rest ++ (white ++ front))) ++ (middle ++ (back ++ tail))
regroup field rest white front middle back tail comma = simp append_assoc

pub some_first : (field rest : List PlacedByte) (comma : PlacedByte) → (p : PlacedByte) × (ps : List PlacedByte) × (field ++ comma ∷ rest ≡ p ∷ ps)
some_first [] rest comma = (comma, rest, refl)
some_first (f ∷ fs) rest comma = (f, fs ++ comma ∷ rest, refl)

pub found_raw : (o : Option (List PlacedByte)) (item : List PlacedByte) → option_map without_front o ≡ Some item → (raw : List PlacedByte) × (o ≡ Some raw)
    × (without_front raw ≡ item)
found_raw None item e = absurd cc
found_raw (Some raw) item e = (raw, refl, cc)

pub begins_visible : (raw : List PlacedByte) (x : PlacedByte) (xs : List PlacedByte) → without_front raw ≡ x ∷ xs → is_white_space x.0 ≡ false
begins_visible [] x xs e = absurd cc
begins_visible (y ∷ ys) x xs e =
    elim (cases_Bool (is_white_space y.0)) [
      | inl t ↦ begins_visible ys x xs (rw t at e)
      | inr f ↦ let same : y ∷ ys ≡ x ∷ xs = rw f at e in let first : y ≡ x = cc in ap (λ (z : PlacedByte). is_white_space z.0) (sym first) ∙ f
    ]

-- the item that takes the place of one shows its text
shows : (raw white front middle back : List PlacedByte) (new : List ℕ) → White white → without_front raw ≡ front ++ (middle ++ back) → BeginsVisible new
    → without_front (white ++ (front ++ (bytes_at 0 new ++ back))) ≡ front ++ (bytes_at 0 new ++ back)
shows raw white [] middle back [] are is visible = absurd visible
shows raw white [] middle back (n ∷ ns) are is visible = front_dropped white (n, 0) (bytes_at 1 ns ++ back) are visible
shows raw white (f ∷ fs) middle back new are is visible =
    front_dropped white f (fs ++ (bytes_at 0 new ++ back)) are (begins_visible raw f (fs ++ (middle ++ back)) is)

pub new_bytes : (front back : List PlacedByte) (new : List ℕ) → bytes (front ++ (bytes_at 0 new ++ back)) ≡ bytes front ++ (new ++ bytes back)
new_bytes front back new =
    map-append (λ (x : PlacedByte). x.0) front (bytes_at 0 new ++ back)
    ∙ ap (λ (t : List ℕ). bytes front ++ t) (map-append (λ (x : PlacedByte). x.0) (bytes_at 0 new) back
    ∙ ap (λ (t : List ℕ). t ++ bytes back) (bytes_of_at 0 new))

pub computed : (text : List PlacedByte) → items_after 44 text ≡ machine.items_of nothing 44 text
computed text = one_items 44 text (items_after 44 text) (items_computed 44 text)

uncut_goes : (text : List ℕ) → IsUncut text → Goes nothing 44 (bytes_at 0 text)
uncut_goes text uncut = goes_if_one nothing 44 (bytes_at 0 text) (bytes_at 0 text) (sym (one_items 44 (bytes_at 0 text) (bytes_at 0 text ∷ []) uncut))

pub closed_ends : (text : List ℕ) → Goes nothing 44 (bytes_at 0 text) → IsClosed text → cuts (by_after nothing 44 (bytes_at 0 text)) 44 ≡ true
closed_ends text goes closed =
    let comma : PlacedByte = (44, 0 + length text) in
    ends_if_two nothing 44 (bytes_at 0 text) comma (bytes_at 0 text) [] goes
    (ap (machine.items_of nothing 44) (sym (bytes_apart 0 text (44 ∷ [])))
    ∙ sym (one_items 44 (bytes_at 0 (text ++ 44 ∷ [])) (bytes_at 0 text ∷ [] ∷ []) closed))

pub ends_closed : (text : List ℕ) → Goes nothing 44 (bytes_at 0 text) → cuts (by_after nothing 44 (bytes_at 0 text)) 44 ≡ true → IsClosed text
ends_closed text goes ends =
    let comma : PlacedByte = (44, 0 + length text) in
    let whole = bytes_at 0 (text ++ 44 ∷ []) in
    let two : items_after 44 whole ≡ bytes_at 0 text ∷ [] ∷ [] =
    computed whole ∙ ap (machine.items_of nothing 44) (bytes_apart 0 text (44 ∷ [])) ∙ two_if_ends nothing 44 (bytes_at 0 text) comma goes ends in
    subst (AreItems 44 whole) two (items_computed 44 whole)

pub is_comma : (by : machine.Escape) (x : ℕ) → cuts by x ≡ true → x ≡ 44
is_comma machine.nothing x e = eqb-true x 44 e
is_comma machine.backslash x e = absurd cc
is_comma machine.caret x e = eqb-true x 44 e

-- an item ends where another ended
still_ends : (raw white item : List PlacedByte) (text : List ℕ) (other tail : List PlacedByte) → raw ≡ white ++ item → White white → Goes nothing 44 raw
    → Goes nothing 44 (bytes_at 0 text)
    → by_after nothing 44 other ≡ by_after nothing 44 (bytes_at 0 text) → (IsClosed (bytes item) → IsClosed text) → Ends (by_after nothing 44 raw) tail
    → Ends (by_after nothing 44 other) tail
unfolding Ends
still_ends raw white item text other [] whole are goes on same closed ends = tt
still_ends raw white item text other (c ∷ tail) whole are goes on same closed ends =
    let comma : c.0 ≡ 44 = is_comma (by_after nothing 44 raw) c.0 ends in
    let item_goes : Goes nothing 44 item = goes_without_white 44 white item refl are (subst (Goes nothing 44) whole goes) in
    let bare = bytes_at 0 (bytes item) in
    let bare_is : bytes item ≡ bytes bare = sym (bytes_of_at 0 (bytes item)) in
    let old : by_after nothing 44 raw ≡ by_after nothing 44 bare =
    ap (by_after nothing 44) whole ∙ by_after_white 44 white item refl are ∙ by_after_at nothing 44 item bare bare_is in
    let ended : cuts (by_after nothing 44 bare) 44 ≡ true = ap₂ cuts (sym old) (sym comma) ∙ ends in
    let was : IsClosed (bytes item) = ends_closed (bytes item) (goes_at nothing 44 item bare bare_is item_goes) ended in
    ap₂ cuts same comma ∙ closed_ends text on (closed was)

-- what is known of the place of an item
pub record IsPlaced (text : List PlacedByte) (ordinal : ℕ) (raw : List PlacedByte) : Type 0 where
  pub rest : HasRest text
  pub at : IsAt (rest_of text) ordinal raw

replaced_at : (h : ℕ) (block : List ℕ) (ordinal : ℕ) (raw front : List PlacedByte) (x : PlacedByte) (xs back : List PlacedByte) (new text : List ℕ)
    → begins_head h ≡ true → HasNoHead h block
    → BeginsVisible new → IsOneLine new → IsUncut text → (IsClosed (bytes (front ++ ((x ∷ xs) ++ back))) → IsClosed text)
    → text ≡ bytes front ++ (new ++ bytes back)
    → without_front raw ≡ front ++ ((x ∷ xs) ++ back) → IsPlaced (folded_of (h ∷ block)) ordinal raw
    → (item_texts (exchanged (h ∷ block) (record { start = x.1; end = end_of (suc x.1) xs }) new) ≡ slice_set (item_texts (h ∷ block)) ordinal text)
    × (head_text (exchanged (h ∷ block) (record { start = x.1; end = end_of (suc x.1) xs }) new) ≡ head_text (h ∷ block))
replaced_at h block ordinal raw front x xs back new text head none visible line uncut closed is shown placed =
    let whole = folded_of (h ∷ block) in
    let edited = folded_of (exchanged (h ∷ block) (record { start = x.1; end = end_of (suc x.1) xs }) new) in
    let field = field_of whole in
    let comma = placed.rest.comma in
    let before = placed.at.front in
    let tail = placed.at.tail in
    let split = front_split raw in
    let white = split.white in
    let item = front ++ ((x ∷ xs) ++ back) in
    let raw_is : raw ≡ white ++ item = split.whole ∙ ap (λ (t : List PlacedByte). white ++ t) shown in
    let fresh = bytes_at 0 new in
    let other = white ++ (front ++ (fresh ++ back)) in
    let all = field ++ comma ∷ (before ++ (other ++ tail)) in
    let front_all = before ++ (white ++ front) in
    let first = some_first field front_all comma in
    let folded : whole ≡ (first.0 ∷ first.1) ++ ((x ∷ xs) ++ (back ++ tail)) =
    placed.rest.whole ∙ ap (λ (t : List PlacedByte). field ++ comma ∷ t) (placed.at.whole ∙ ap (λ (t : List PlacedByte). before ++ (t ++ tail)) raw_is)
    ∙ regroup field before white front (x ∷ xs) back tail comma ∙ ap (λ (t : List PlacedByte). t ++ ((x ∷ xs) ++ (back ++ tail))) first.2 in
    let now : bytes edited ≡ bytes all =
    refolded h block first.0 first.1 x xs (back ++ tail) new head none visible line folded
    ∙ sym (new_bytes (first.0 ∷ first.1) (back ++ tail) new)
    ∙ ap (λ (t : List PlacedByte). bytes (t ++ (fresh ++ (back ++ tail)))) (sym first.2)
    ∙ ap bytes (sym (regroup field before white front fresh back tail comma)) in
    let text_is : bytes (front ++ (fresh ++ back)) ≡ text = new_bytes front back new ∙ sym is in
    let bare_is : bytes (bytes_at 0 text) ≡ bytes (front ++ (fresh ++ back)) = bytes_of_at 0 text ∙ sym text_is in
    let on = uncut_goes text uncut in
    let goes : Goes nothing 44 other =
    goes_after_white 44 white (front ++ (fresh ++ back)) refl split.are (goes_at nothing 44 (bytes_at 0 text) (front ++ (fresh ++ back)) bare_is on) in
    let by : by_after nothing 44 other ≡ by_after nothing 44 (bytes_at 0 text) =
    by_after_white 44 white (front ++ (fresh ++ back)) refl split.are ∙ sym (by_after_at nothing 44 (bytes_at 0 text) (front ++ (fresh ++ back)) bare_is) in
    let ends = still_ends raw white item text other tail raw_is split.are placed.at.goes on by closed placed.at.ends in
    let raws = items_after 44 (rest_of whole) in
    let items : items_after 44 (rest_of all) ≡ slice_set raws ordinal other =
    ap (items_after 44) (placed.rest.rest (before ++ (other ++ tail))) ∙ computed (before ++ (other ++ tail)) ∙ placed.at.swap other goes ends
    ∙ ap (λ (l : List (List PlacedByte)). slice_set l ordinal other) (sym (computed (rest_of whole))) in
    let text_of : List PlacedByte → List ℕ = λ i. bytes (without_front i) in
    let one : text_of other ≡ text = ap bytes (shows raw white front (x ∷ xs) back new split.are shown visible) ∙ text_is in (
      map-map bytes without_front (items_after 44 (rest_of edited)) ∙ same_texts edited all now ∙ ap (map text_of) items ∙ map-set text_of raws ordinal other
          ∙ ap₂ (λ (l : List (List ℕ)) (t : List ℕ). slice_set l ordinal t) (sym (map-map bytes without_front raws)) one,
      same_field edited all now ∙ ap bytes (placed.rest.field (before ++ (other ++ tail))),
    )

-- an item that is not empty has a place
pub placed_at : (text : List PlacedByte) (ordinal : ℕ) (raw : List PlacedByte) (x : PlacedByte) (front back : List PlacedByte)
    → slice_get (items_after 44 (rest_of text)) ordinal ≡ Some raw
    → without_front raw ≡ front ++ x ∷ back → IsPlaced text ordinal raw
placed_at text ordinal raw x front back there shown =
    elim (has_rest text) [
      | inl none ↦ absurd (nothing_there ordinal raw x front back (ap (λ (t : List PlacedByte). slice_get (items_after 44 t) ordinal) (sym none) ∙ there) shown)
      | inr rest ↦ record {
        rest = rest;
        at =
            item_is_at ordinal (rest_of text) raw (ap (λ (l : List (List PlacedByte)). slice_get l ordinal) (sym (computed (rest_of text))) ∙ there);
      }
    ]
  where
    no_byte : (x : PlacedByte) (front back : List PlacedByte) → [] ≡ front ++ x ∷ back → ⊥
    no_byte x [] back e = cc
    no_byte x (f ∷ fs) back e = cc

    nothing_there : (ordinal : ℕ) (raw : List PlacedByte) (x : PlacedByte) (front back : List PlacedByte) → slice_get ([] ∷ []) ordinal ≡ Some raw
        → without_front raw ≡ front ++ x ∷ back → ⊥
    nothing_there zero raw x front back e shown = let none : [] ≡ raw = cc in no_byte x front back (ap without_front none ∙ shown)
    nothing_there (suc n) raw x front back e shown = cc

by_middle : (h : ℕ) (block : List ℕ) (ordinal : ℕ) (raw item front middle back : List PlacedByte) (part : Part) (new text : List ℕ) → begins_head h ≡ true
    → HasNoHead h block
    → slice_get (items_after 44 (rest_of (folded_of (h ∷ block)))) ordinal ≡ Some raw → without_front raw ≡ item → item ≡ front ++ (middle ++ back)
    → spanned middle ≡ Some part
    → text ≡ bytes front ++ (new ++ bytes back) → BeginsVisible new → IsOneLine new → IsUncut text → (IsClosed (bytes item) → IsClosed text)
    → (item_texts (exchanged (h ∷ block) part new) ≡ slice_set (item_texts (h ∷ block)) ordinal text)
    × (head_text (exchanged (h ∷ block) part new) ≡ head_text (h ∷ block))
by_middle h block ordinal raw item front [] back part new text head none there shown whole span is visible line uncut closed = absurd cc
by_middle h block ordinal raw item front (x ∷ xs) back part new text head none there shown whole span is visible line uncut closed =
    let one : Part = record { start = x.1; end = end_of (suc x.1) xs } in
    let same : one ≡ part = cc in
    subst (λ (p : Part). (item_texts (exchanged (h ∷ block) p new) ≡ slice_set (item_texts (h ∷ block)) ordinal text)
    × (head_text (exchanged (h ∷ block) p new) ≡ head_text (h ∷ block))) same
    (replaced_at h block ordinal raw front x xs back new text head none visible line uncut
    (subst (λ (i : List PlacedByte). IsClosed (bytes i) → IsClosed text) whole closed) is (shown ∙ whole)
    (placed_at (folded_of (h ∷ block)) ordinal raw x front (xs ++ back) there (shown ∙ whole)))

pub one_replaced : OneItemIsReplaced
one_replaced [] ordinal item part new text single there replaces = absurd single.cut.each.1
one_replaced (h ∷ block) ordinal item part new text single there replaces =
    let raws = items_after 44 (rest_of (folded_of (h ∷ block))) in
    let found = found_raw (slice_get raws ordinal) item (sym (slice_get-map without_front raws ordinal) ∙ there) in
    by_middle h block ordinal found.0 item replaces.front replaces.middle replaces.back part new text single.cut.each.1.0 single.cut.each.1.1 found.1
    found.2 replaces.whole replaces.there replaces.is
    replaces.visible replaces.one_line replaces.uncut replaces.closed
