-- Plain bytes in an item.
use Rattle.std.proofs.Common.{◌≡◌, ℕ, ◌==◌, true, false, List, [], ◌∷◌, ◌++◌, append_assoc, Some, slice_get, inl, inr, refl, sym, ap, subst, ◌∙◌}
use Rattle.std.proofs.lemmas.Bool.{cases_Bool}
use Rattle.std.proofs.lemmas.List.{append-nil, map-append}
use Rattle.std.proofs.lemmas.Option.{slice_get-map}
use Rattle.ti_text.specs.Texts.{last_byte}
use Rattle.ti_source.specs.Folding.{PlacedByte}
use Rattle.ti_source.specs.Items.{AreItems, bytes, without_front}
use Rattle.source_spans.specs.Folding.{bytes_at, folded_of}
use Rattle.source_spans.specs.Parts.{items_after, rest_of}
use Rattle.source_spans.specs.Replacing.{BeginsPlain, IsClosed, IsOneLine, IsPlain, IsUncut, PlainTextsReplace, is_plain}
use Rattle.source_spans.specs.Subjects.{items_of}
use Rattle.source_spans.proofs.Escaping as machine
use Rattle.source_spans.proofs.Escaping.{Escape, cuts, escape_after, nothing}
use Rattle.source_spans.proofs.Exchanging.{closed_ends, computed, ends_closed, found_raw, new_bytes}
use Rattle.source_spans.proofs.Itemizing.{items_computed}
use Rattle.source_spans.proofs.Recutting.{Goes, by_after, by_after_at, front_split, goes_at, goes_without_white, item_is_at, one_if_goes}
use Rattle.source_spans.proofs.Refolding.{bytes_of_at}

-- ---- a plain byte

pub record Takes (x : ℕ) : Type 0 where
  pub comma : (x == 44) ≡ false
  pub backslash : (x == 92) ≡ false
  pub caret : (x == 94) ≡ false
  pub newline : (x == 10) ≡ false

pub plain_byte : (x : ℕ) → is_plain x ≡ true → Takes x
plain_byte x e =
    elim (cases_Bool (x == 44)) [
      | inl t ↦ let none = rw t at e in absurd cc
      | inr a ↦ elim (cases_Bool (x == 92)) [
        | inl t ↦ let none = rw (a, t) at e in absurd cc
        | inr b ↦ elim (cases_Bool (x == 94)) [
          | inl t ↦ let none = rw (a, b, t) at e in absurd cc
          | inr c ↦ elim (cases_Bool (x == 10)) [
            | inl t ↦ let none = rw (a, b, c, t) at e in
                absurd cc
            | inr d ↦ record { comma = a; backslash = b; caret = c; newline = d }
          ]
        ]
      ]
    ]

pub takes_none : (by : Escape) (b x : ℕ) → Takes x → escape_after by b x ≡ nothing
takes_none machine.nothing b x plain = rw (plain.backslash, plain.caret) refl
takes_none machine.backslash b x plain = refl
takes_none machine.caret b x plain = refl

-- ---- texts in a row

unfoldable pub last_of : ℕ → List PlacedByte → ℕ
last_of b text = last_byte b (bytes text)

pub goes_front : (by : Escape) (b : ℕ) (one other : List PlacedByte) → Goes by b (one ++ other) → Goes by b one
unfolding Goes
goes_front by b [] other goes = tt
goes_front by b (x ∷ xs) other goes = (goes.0, goes_front (escape_after by b x.0) x.0 xs other goes.1)

pub goes_back : (by : Escape) (b : ℕ) (one other : List PlacedByte) → Goes by b (one ++ other) → Goes (by_after by b one) (last_of b one) other
unfolding Goes by_after last_of
goes_back by b [] other goes = goes
goes_back by b (x ∷ xs) other goes = goes_back (escape_after by b x.0) x.0 xs other goes.1

pub goes_both : (by : Escape) (b : ℕ) (one other : List PlacedByte) → Goes by b one → Goes (by_after by b one) (last_of b one) other → Goes by b (one ++ other)
unfolding Goes by_after last_of
goes_both by b [] other goes more = more
goes_both by b (x ∷ xs) other goes more = (goes.0, goes_both (escape_after by b x.0) x.0 xs other goes.1 more)

pub after_both : (by : Escape) (b : ℕ) (one other : List PlacedByte) → by_after by b (one ++ other) ≡ by_after (by_after by b one) (last_of b one) other
unfolding by_after last_of
after_both by b [] other = refl
after_both by b (x ∷ xs) other = after_both (escape_after by b x.0) x.0 xs other

-- ---- plain texts

pub plain_goes : (b : ℕ) (text : List PlacedByte) → IsPlain (bytes text) → Goes nothing b text
unfolding Goes
plain_goes b [] plain = tt
plain_goes b (x ∷ xs) plain =
    let first = plain_byte x.0 plain.0 in
    (first.comma, rw (first.backslash, first.caret) (plain_goes x.0 xs plain.1))

pub plain_after : (b : ℕ) (text : List PlacedByte) → IsPlain (bytes text) → by_after nothing b text ≡ nothing
unfolding by_after
plain_after b [] plain = refl
plain_after b (x ∷ xs) plain =
    ap (λ (e : Escape). by_after e x.0 xs) (takes_none nothing b x.0 (plain_byte x.0 plain.0)) ∙ plain_after x.0 xs plain.1

pub plain_line : (text : List ℕ) → IsPlain text → IsOneLine text
plain_line [] plain = tt
plain_line (x ∷ xs) plain = ((plain_byte x plain.0).newline, plain_line xs plain.1)

pub plain_both : (one other : List ℕ) → IsPlain one → IsPlain other → IsPlain (one ++ other)
plain_both [] other plain more = more
plain_both (x ∷ xs) other plain more = (plain.0, plain_both xs other plain.1 more)

-- what is after a plain byte goes on whatever is before it
pub back_goes : (by : Escape) (b c : ℕ) (back : List PlacedByte) → BeginsPlain (bytes back) → Goes by b back → Goes nothing c back
unfolding Goes
back_goes by b c [] plain goes = tt
back_goes by b c (x ∷ xs) plain goes =
    let first = plain_byte x.0 plain in
    (first.comma, subst (λ (e : Escape). Goes e x.0 xs) (takes_none by b x.0 first ∙ sym (takes_none nothing c x.0 first)) goes.1)

pub back_after : (by : Escape) (b c : ℕ) (x : PlacedByte) (xs : List PlacedByte) → is_plain x.0 ≡ true → by_after by b (x ∷ xs) ≡ by_after nothing c (x ∷ xs)
unfolding by_after
back_after by b c x xs plain =
    let first = plain_byte x.0 plain in
    ap (λ (e : Escape). by_after e x.0 xs) (takes_none by b x.0 first ∙ sym (takes_none nothing c x.0 first))

-- ---- an item of a block goes on

pub item_goes : (text : List PlacedByte) (ordinal : ℕ) (item : List PlacedByte) → slice_get (items_of text) ordinal ≡ Some item → Goes nothing 44 item
item_goes text ordinal item there =
    let raws = items_after 44 (rest_of text) in
    let found = found_raw (slice_get raws ordinal) item (sym (slice_get-map without_front raws ordinal) ∙ there) in
    let raw = found.0 in
    let at = item_is_at ordinal (rest_of text) raw (ap (λ (l : List (List PlacedByte)). slice_get l ordinal) (sym (computed (rest_of text))) ∙ found.1) in
    let split = front_split raw in
    subst (Goes nothing 44) found.2 (goes_without_white 44 split.white (without_front raw) refl split.are (subst (Goes nothing 44) split.whole at.goes))

-- a text that goes on is uncut
pub goes_uncut : (text : List ℕ) → Goes nothing 44 (bytes_at 0 text) → IsUncut text
goes_uncut text goes =
    let whole = bytes_at 0 text in
    subst (AreItems 44 whole) (computed whole ∙ one_if_goes nothing 44 whole goes) (items_computed 44 whole)

-- a comma ends the item if it did
still_closed : (front middle back fresh : List PlacedByte) (text : List ℕ) → bytes (front ++ (fresh ++ back)) ≡ text
    → Goes nothing 44 (front ++ (middle ++ back)) → Goes nothing 44 (bytes_at 0 text)
    → IsPlain (bytes (front ++ fresh)) → BeginsPlain (bytes back) → IsClosed (bytes (front ++ (middle ++ back))) → IsClosed text
still_closed front middle [] fresh text is was goes plain begins closed =
    let same : by_after nothing 44 (bytes_at 0 text) ≡ nothing =
    by_after_at nothing 44 (bytes_at 0 text) (front ++ (fresh ++ [])) (bytes_of_at 0 text ∙ sym is)
    ∙ ap (by_after nothing 44) (sym (append_assoc front fresh []) ∙ append-nil (front ++ fresh)) ∙ plain_after 44 (front ++ fresh) plain in
    ends_closed text goes (ap (λ (e : Escape). cuts e 44) same)
still_closed front middle (x ∷ xs) fresh text is was goes plain begins closed =
    let item = front ++ (middle ++ (x ∷ xs)) in
    let bare = bytes_at 0 (bytes item) in
    let bare_is : bytes item ≡ bytes bare = sym (bytes_of_at 0 (bytes item)) in
    let old : by_after nothing 44 bare ≡ by_after nothing 44 (x ∷ xs) =
    sym (by_after_at nothing 44 item bare bare_is) ∙ ap (by_after nothing 44) (sym (append_assoc front middle (x ∷ xs)))
    ∙ after_both nothing 44 (front ++ middle) (x ∷ xs)
    ∙ back_after (by_after nothing 44 (front ++ middle)) (last_of 44 (front ++ middle)) 44 x xs begins in
    let now : by_after nothing 44 (bytes_at 0 text) ≡ by_after nothing 44 (x ∷ xs) =
    by_after_at nothing 44 (bytes_at 0 text) (front ++ (fresh ++ (x ∷ xs))) (bytes_of_at 0 text ∙ sym is)
    ∙ ap (by_after nothing 44) (sym (append_assoc front fresh (x ∷ xs))) ∙ after_both nothing 44 (front ++ fresh) (x ∷ xs)
    ∙ back_after (by_after nothing 44 (front ++ fresh)) (last_of 44 (front ++ fresh)) 44 x xs begins in
    ends_closed text goes (ap (λ (e : Escape). cuts e 44) (now ∙ sym old) ∙ closed_ends (bytes item) (goes_at nothing 44 item bare bare_is was) closed)

pub plain_replace : PlainTextsReplace
plain_replace block ordinal front middle back part new there span plain_front plain_new visible begins =
    let fresh = bytes_at 0 new in
    let item = front ++ (middle ++ back) in
    let text = bytes front ++ (new ++ bytes back) in
    let is : bytes (front ++ (fresh ++ back)) ≡ text = new_bytes front back new in
    let was = item_goes (folded_of block) ordinal item there in
    let plain_fresh : IsPlain (bytes fresh) = subst IsPlain (sym (bytes_of_at 0 new)) plain_new in
    let plain : IsPlain (bytes (front ++ fresh)) =
    subst IsPlain (sym (bytes_both front fresh)) (plain_both (bytes front) (bytes fresh) plain_front plain_fresh) in
    let after : Goes (by_after nothing 44 (front ++ middle)) (last_of 44 (front ++ middle)) back =
    goes_back nothing 44 (front ++ middle) back (subst (Goes nothing 44) (sym (append_assoc front middle back)) was) in
    let later : Goes nothing (last_of 44 (front ++ fresh)) back =
    back_goes (by_after nothing 44 (front ++ middle)) (last_of 44 (front ++ middle)) (last_of 44 (front ++ fresh)) back begins after in
    let whole : Goes nothing 44 ((front ++ fresh) ++ back) =
    goes_both nothing 44 (front ++ fresh) back (plain_goes 44 (front ++ fresh) plain)
    (subst (λ (e : Escape). Goes e (last_of 44 (front ++ fresh)) back) (sym (plain_after 44 (front ++ fresh) plain)) later) in
    let goes : Goes nothing 44 (bytes_at 0 text) =
    goes_at nothing 44 (front ++ (fresh ++ back)) (bytes_at 0 text) (is ∙ sym (bytes_of_at 0 text))
    (subst (Goes nothing 44) (append_assoc front fresh back) whole) in
    record {
      front = front;
      middle = middle;
      back = back;
      whole = refl;
      there = span;
      is = refl;
      visible = visible;
      one_line = plain_line new plain_new;
      uncut = goes_uncut text goes;
      closed = still_closed front middle back fresh text is was goes plain begins;
    }
  where
    bytes_both : (one other : List PlacedByte) → bytes (one ++ other) ≡ bytes one ++ bytes other
    bytes_both one other = map-append (λ (x : PlacedByte). x.0) one other
