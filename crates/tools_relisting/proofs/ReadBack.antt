-- A text that is laid out as a listing is read as its field and its items.
use Rattle.std.proofs.Common.{◌≡◌, ℕ, ◌+◌, true, false, not, ◌==◌, ◌||◌, List, [], ◌∷◌, ◌++◌, length, map, Option, Some, None, refl, ap, sym, ◌∙◌, subst}
use Rattle.std.specs.List.{list_all, All}
use Rattle.std.proofs.lemmas.Bool.{and_parts, or_parts, not-true, le-ltb}
use Rattle.std.proofs.lemmas.List.Elements.{All-head, All-tail}
use Rattle.ti_caps.specs.Tables.{EveryNameIsFound}
use Rattle.ti_text.specs.WhiteSpace.{is_white_space}
use Rattle.ti_text.specs.Limits.{names_max}
use Rattle.ti_source.specs.Folding.{PlacedByte}
use Rattle.ti_source.specs.inside.Folding.{folding_of}
use Rattle.ti_source.specs.Items.{bytes, HasNoComma, Begins, field_and_rest, AreItems, last_item, piece_of, without_white_front, States, empty_item}
use Rattle.ti_source.specs.Reading.{Said, said_flag, said_number, said_text, said_cancel, said_import, ReadItem, Reading}
use Rattle.ti_source.specs.Parsing.{accepted, Parses, reading_of_text, HasReading, BlocksHaveOneReading}
use Rattle.ti_source.specs.Judging.{Judged, item_ignored, item_judged, AreJudged, no_item, item_and_rest, items_from, faults_from, reading_by}
use Rattle.ti_source.specs.Header.{HeaderNames}
use Rattle.ti_source.proofs.FoldingLaws.{folds_computed}
use Rattle.ti_spelling.specs.Spelling.{WrittenSpells}
use Rattle.ti_list.specs.Items.{item_text, IsTail, no_more, same_line, new_line, IsListing, CanBeListed, IsListable, IsReadAs}
use Rattle.tools_relisting.specs.ReadingBack.{PartsAreRead}
use Rattle.tools_relisting.proofs.Bytes.{uncommented, unbroken, bytes-folded, bytes-without_front}
use Rattle.tools_relisting.proofs.Cutting.{is_whole, is_inline, whole-cons, whole-cut}
use Rattle.tools_relisting.proofs.Unfolding.{is_dark, unbroken-inline, unbroken-dark, is_calm, uncommented-calm, calm-inline, split-bytes, split-byte}
use Rattle.tools_relisting.proofs.Stating.{IsReadable, flag-readable, number-readable, text-readable, cancel-readable, import-readable}

pub item-readable : EveryNameIsFound → WrittenSpells → (item : Said) → CanBeListed item → IsReadable (item_text item) item
item-readable found spells (said_flag c) can = flag-readable found c can.0 can.1
item-readable found spells (said_number c n) can = number-readable found c n can.0 can.1 can.2
item-readable found spells (said_text c t) can = text-readable found spells c t can.0 can.1 can.2 can.3
item-readable found spells (said_cancel c) can = cancel-readable found c can
item-readable found spells (said_import name) can = import-readable name can.0 can.1

-- a folded text is cut into items that are read as these
pub record AreRead (s : List PlacedByte) (says : List Said) : Type 0 where
  pub pieces : List (List PlacedByte)
  pub outcomes : List (Option Judged)
  pub cut : AreItems 44 s pieces
  pub are_judged : AreJudged pieces outcomes
  pub is : (ordinal : ℕ) → map (λ (item : ReadItem). item.said) (items_from ordinal outcomes) ≡ says
  pub faultless : (ordinal : ℕ) → faults_from ordinal outcomes ≡ []

dark-front : (w : List ℕ) → is_dark w ≡ true → without_white_front w ≡ w
dark-front [] h = refl
dark-front (x ∷ xs) h = rw (or_parts (x == 10) (is_white_space x) (not-true (x == 10 || is_white_space x) h)).1 refl

-- the text after the first comma is read in its turn
item-read : (item : Said) (items : List Said) (u w rest : List ℕ) (s : List PlacedByte) → bytes s ≡ u ++ 44 ∷ rest → is_whole 44 u ≡ true
    → without_white_front u ≡ w
    → IsReadable w item → ((later : List PlacedByte) → bytes later ≡ rest → AreRead later items) → AreRead s (item ∷ items)
item-read item items u w rest s e whole front readable more =
    let parts = split-bytes s u (44 ∷ rest) e in
    let comma = split-byte parts.rest 44 rest parts.is_rest in
    let next = more comma.rest comma.is_rest in
    let is_s : s ≡ parts.front ++ (44, comma.line) ∷ comma.rest = parts.whole ∙ ap (λ t. parts.front ++ t) comma.whole in
    let text : (piece_of parts.front).text ≡ w = bytes-without_front parts.front ∙ ap without_white_front parts.is_front ∙ front in
    let is_item : is_whole 44 (bytes parts.front) ≡ true = ap (is_whole 44) parts.is_front ∙ whole in
    let states = subst (λ t. States t (Some readable.statement)) (sym text) readable.states in
    record {
      pieces = parts.front ∷ next.pieces;
      outcomes = Some (record { line = (piece_of parts.front).line; name = readable.statement.name; verdict = accepted item }) ∷ next.outcomes;
      cut = subst (λ t. AreItems 44 t (parts.front ∷ next.pieces)) (sym is_s) (whole-cut 44 comma.line parts.front comma.rest next.pieces is_item next.cut);
      are_judged = item_and_rest (item_judged parts.front readable.statement (accepted item) states readable.judges) next.are_judged;
      is = λ ordinal. ap (λ l. item ∷ l) (next.is (ordinal + 1));
      faultless = λ ordinal. next.faultless (ordinal + 1);
    }

none-left : (s : List PlacedByte) → bytes s ≡ [] → s ≡ []
none-left [] e = refl
none-left (x ∷ xs) e = cc

tail-read : EveryNameIsFound → WrittenSpells → (items : List Said) (tail : List ℕ) → All CanBeListed items → IsTail items tail
    → (s : List PlacedByte) → bytes s ≡ unbroken false tail → AreRead s items
tail-read found spells _ _ can no_more s e = record {
  pieces = [] ∷ [];
  outcomes = None ∷ [];
  cut = subst (λ t. AreItems 44 t ([] ∷ [])) (sym (none-left s e)) (last_item 44);
  are_judged = item_and_rest (item_ignored [] empty_item) no_item;
  is = λ ordinal. refl;
  faultless = λ ordinal. refl;
}
tail-read found spells _ _ can (same_line item items tail laid) s e =
    let w = item_text item in
    let readable = item-readable found spells item (All-head CanBeListed item items can) in
    let bare : unbroken false (w ++ 44 ∷ tail) ≡ w ++ 44 ∷ unbroken false tail = unbroken-inline w (44 ∷ tail) readable.inline in
    item-read item items (32 ∷ w) w (unbroken false tail) s (e ∙ ap (λ t. 32 ∷ t) bare) (whole-cons 44 32 w refl (readable.whole 32))
    (dark-front w readable.dark) readable
    (λ later is. tail-read found spells items tail (All-tail CanBeListed item items can) laid later is)
tail-read found spells _ _ can (new_line item items tail laid) s e =
    let w = item_text item in
    let readable = item-readable found spells item (All-head CanBeListed item items can) in
    let bare : unbroken true (w ++ 44 ∷ tail) ≡ w ++ 44 ∷ unbroken false tail =
    unbroken-dark w (44 ∷ tail) readable.dark ∙ unbroken-inline w (44 ∷ tail) readable.inline in
    item-read item items w w (unbroken false tail) s (e ∙ bare) (readable.whole 44) (dark-front w readable.dark) readable
    (λ later is. tail-read found spells items tail (All-tail CanBeListed item items can) laid later is)

tail-calm : EveryNameIsFound → WrittenSpells → (items : List Said) (tail : List ℕ) → All CanBeListed items → IsTail items tail → is_calm 44 tail ≡ true
tail-calm found spells _ _ can no_more = refl
tail-calm found spells _ _ can (same_line item items tail laid) =
    calm-inline 32 (item_text item) tail refl (item-readable found spells item (All-head CanBeListed item items can)).inline
    (tail-calm found spells items tail (All-tail CanBeListed item items can) laid)
tail-calm found spells _ _ can (new_line item items tail laid) =
    calm-inline 9 (item_text item) tail refl (item-readable found spells item (All-head CanBeListed item items can)).inline
    (tail-calm found spells items tail (All-tail CanBeListed item items can) laid)

text-calm : (field tail : List ℕ) → ((first : ℕ) (others : List ℕ) → field ≡ first ∷ others → (first == 35) ≡ false) → is_inline field ≡ true
    → is_calm 44 tail ≡ true → is_calm 10 (field ++ 44 ∷ tail) ≡ true
text-calm [] tail plain inline calm = calm
text-calm (x ∷ xs) tail plain inline calm =
    let parts = and_parts (not (x == 10)) (is_inline xs) inline in
    rw (plain x xs refl) (calm-inline x xs tail (not-true (x == 10) parts.0) parts.1 calm)

no_comma-of : (p : List PlacedByte) → list_all (λ b. not (b == 44)) (bytes p) ≡ true → HasNoComma p
no_comma-of [] h = tt
no_comma-of (x ∷ xs) h =
    let parts = and_parts (not (x.0 == 44)) (list_all (λ b. not (b == 44)) (bytes xs)) h in (not-true (x.0 == 44) parts.0, no_comma-of xs parts.1)

begins-at : (s field rest : List PlacedByte) (line : ℕ) → s ≡ field ++ (44, line) ∷ rest → HasNoComma field → Begins s field rest
begins-at s field rest line e none = subst (λ t. Begins t field rest) (sym e) (field_and_rest field rest line none)

-- the text has a reading of that field and those items
record HasListing (text : List ℕ) (field : List ℕ) (names : List (List ℕ)) (items : List Said) : Type 0 where
  pub reading : Reading
  pub parses : Parses text reading
  pub is : IsReadAs field names items reading

listing-parses : EveryNameIsFound → WrittenSpells → (field : List ℕ) (names : List (List ℕ)) (items : List Said) (text : List ℕ)
    → IsListable field names → All CanBeListed items
    → IsListing field items text → HasListing text field names items
listing-parses found spells field names items text good can is =
    let calm = text-calm field is.tail good.plain good.inline (tail-calm found spells items is.tail can is.is_tail) in
    let bare : unbroken false (uncommented false 10 text) ≡ field ++ 44 ∷ unbroken false is.tail =
    ap (λ t. unbroken false (uncommented false 10 t)) is.whole ∙ ap (unbroken false) (uncommented-calm 10 (field ++ 44 ∷ is.tail) calm)
    ∙ unbroken-inline field (44 ∷ is.tail) good.inline in
    let parts = split-bytes (folding_of text) field (44 ∷ unbroken false is.tail) (bytes-folded text ∙ bare) in
    let comma = split-byte parts.rest 44 (unbroken false is.tail) parts.is_rest in
    let is_folded : folding_of text ≡ parts.front ++ (44, comma.line) ∷ comma.rest = parts.whole ∙ ap (λ t. parts.front ++ t) comma.whole in
    let read = tail-read found spells items is.tail can is.is_tail comma.rest comma.is_rest in
    let none = no_comma-of parts.front (ap (list_all (λ b. not (b == 44))) parts.is_front ∙ good.no_comma) in
    record {
      reading = reading_by field (Some names) read.outcomes;
      parses = record {
        text = folding_of text;
        field = parts.front;
        rest = comma.rest;
        items = read.pieces;
        names = Some names;
        judged = read.outcomes;
        folds = folds_computed text;
        begins = begins-at (folding_of text) parts.front comma.rest comma.line is_folded none;
        cut = read.cut;
        reads_names = subst (λ f. HeaderNames f names) (sym parts.is_front) good.header;
        are_judged = read.are_judged;
        is = ap (λ f. reading_by f (Some names) read.outcomes) (sym parts.is_front);
      };
      is = record { same_field = refl; same_names = refl; says = read.is 0; none_wrong = rw (le-ltb names_max (length field) good.short) (read.faultless 0) };
    }

pub parts_read : EveryNameIsFound → WrittenSpells → HasReading → BlocksHaveOneReading → PartsAreRead
parts_read found spells computed only field names items text good can is =
    let has = listing-parses found spells field names items text good can is in
    subst (λ r. IsReadAs field names items r) (only text has.reading (reading_of_text text) has.parses (computed text)) has.is
