-- A text that is laid out as a listing is read as the user-defined items that it lists.
use Rattle.std.proofs.Common.{◌≡◌, ℕ, ◌+◌, true, false, not, ◌==◌, ◌||◌, List, [], ◌∷◌, ◌++◌, length, map, Option, Some, None, refl, ap, sym, ◌∙◌, subst}
use Rattle.std.specs.List.{list_all, All, cons_option, filter_map}
use Rattle.std.specs.Option.{option_map}
use Rattle.std.proofs.lemmas.Bool.{and_parts, or_parts, not-true, le-ltb}
use Rattle.std.proofs.lemmas.List.Elements.{All-nil, All-cons, All-head, All-tail}
use Rattle.ti_caps.specs.Tables.{EveryNameIsFound}
use Rattle.ti_text.specs.WhiteSpace.{is_white_space}
use Rattle.ti_source.specs.Folding.{PlacedByte}
use Rattle.ti_source.specs.inside.Folding.{folding_of}
use Rattle.ti_source.specs.Items.{bytes, HasNoComma, Begins, field_and_rest, AreItems, last_item, piece_of, without_white_front, Statement, States, empty_item}
use Rattle.ti_source.proofs.FoldingLaws.{folds_computed}
use Rattle.ti_source.specs.declared.code.Code.TheVariants as code
use Rattle.ti_source.specs.Header.{HeaderNames}
use Rattle.ti_source.specs.Judging as profile
use Rattle.ti_source.specs.Judging.{Judged, item_ignored, item_judged, AreJudged}
use Rattle.ti_source.specs.Parsing.{Parses, reading_of_text, HasReading, BlocksHaveOneReading}
use Rattle.ti_source.specs.Reading.{Said, ReadFault, ReadItem, Reading}
use Rattle.ti_source.specs.Verdicts.{item_fault}
use Rattle.ti_text.specs.Limits.{names_max}
use Rattle.ti_spelling.specs.Spelling.{WrittenSpells}
use Rattle.ti_list.specs.Items.{IsListable}
use Rattle.tools_relisting.proofs.Bytes.{uncommented, unbroken, bytes-folded, bytes-without_front}
use Rattle.tools_relisting.proofs.Cutting.{is_whole, whole-cons, whole-cut}
use Rattle.tools_relisting.proofs.Unfolding.{is_dark, is_inline, unbroken-inline, unbroken-dark, is_calm, uncommented-calm, calm-inline, split-bytes}
use Rattle.tools_relisting.proofs.Unfolding.{split-byte}
use Rattle.user_items.specs.Laws.{BlocksHaveOneUserReading}
use Rattle.user_items.specs.Parsing.{ReadsUserItems}
use Rattle.user_items.specs.Reading.{ReadUserItem, UserBlock, UserJudged, IsUserJudged, states_nothing, states_another, states_user, AreUserJudged}
use Rattle.user_items.specs.Reading.{no_item, item_and_rest, items_from, faults_from, reading_by}
use Rattle.user_items.specs.Verdicts.{UserSaid, user_accepted, UserJudges}
use Rattle.user_relisting.specs.Items.{Item, item_text, user_said, table_said, IsTail, no_more, same_line, new_line, IsSource, CanBeWritten}
use Rattle.user_relisting.specs.Items.{IsUserReadAs, IsProfileReadAs, ItemsAreRead, ItemsAreReadByTheProfile}
use Rattle.user_relisting.proofs.Stating.{IsReadable, item-readable, table_verdict}

-- what comes of an item on this line that gives this to user-defined capabilities
abbrev outcome : ℕ → List ℕ → Option UserSaid → Option UserJudged
outcome line name said = option_map (λ (s : UserSaid). record { line = line; name = name; verdict = user_accepted s }) said

-- what comes of an item on this line that is this to the profile
abbrev judged : ℕ → List ℕ → Option Said → Option Judged
judged line name said = Some (record { line = line; name = name; verdict = table_verdict said })

abbrev IsUnknown : ReadFault → Type 0
IsUnknown fault = fault.code ≡ code.UnknownCapability

-- a folded text is cut into items that are read as these, with user-defined capabilities and without
record AreRead (s : List PlacedByte) (items : List Item) : Type 0 where
  pub pieces : List (List PlacedByte)
  pub cut : AreItems 44 s pieces
  pub outcomes : List (Option UserJudged)
  pub are_judged : AreUserJudged pieces outcomes
  pub is : (ordinal : ℕ) → map (λ (item : ReadUserItem). item.said) (items_from ordinal outcomes) ≡ filter_map user_said items
  pub faultless : (ordinal : ℕ) → faults_from ordinal outcomes ≡ []
  pub table_outcomes : List (Option Judged)
  pub table_judged : AreJudged pieces table_outcomes
  pub table_is : (ordinal : ℕ) → map (λ (item : ReadItem). item.said) (profile.items_from ordinal table_outcomes) ≡ filter_map table_said items
  pub warned : (ordinal : ℕ) → All IsUnknown (profile.faults_from ordinal table_outcomes)

dark-front : (w : List ℕ) → is_dark w ≡ true → without_white_front w ≡ w
dark-front [] h = refl
dark-front (x ∷ xs) h = rw (or_parts (x == 10) (is_white_space x) (not-true (x == 10 || is_white_space x) h)).1 refl

-- ---- one item more

user-judged : (front : List PlacedByte) (s : Statement) (said : Option UserSaid) → States (piece_of front).text (Some s)
    → UserJudges s.name s.claim (option_map user_accepted said)
    → IsUserJudged front (outcome (piece_of front).line s.name said)
user-judged front s None states judges = states_another front s states judges
user-judged front s (Some said) states judges = states_user front s (user_accepted said) states judges

user-is : (ordinal line : ℕ) (name : List ℕ) (said : Option UserSaid) (later : List (Option UserJudged)) (says : List UserSaid)
    → map (λ (item : ReadUserItem). item.said) (items_from (ordinal + 1) later) ≡ says
    → map (λ (item : ReadUserItem). item.said) (items_from ordinal (outcome line name said ∷ later)) ≡ cons_option said says
user-is ordinal line name None later says e = e
user-is ordinal line name (Some said) later says e = ap (λ l. said ∷ l) e

user-faultless : (ordinal line : ℕ) (name : List ℕ) (said : Option UserSaid) (later : List (Option UserJudged)) → faults_from (ordinal + 1) later ≡ []
    → faults_from ordinal (outcome line name said ∷ later) ≡ []
user-faultless ordinal line name None later e = e
user-faultless ordinal line name (Some said) later e = e

table-is : (ordinal line : ℕ) (name : List ℕ) (said : Option Said) (later : List (Option Judged)) (says : List Said)
    → map (λ (item : ReadItem). item.said) (profile.items_from (ordinal + 1) later) ≡ says
    → map (λ (item : ReadItem). item.said) (profile.items_from ordinal (judged line name said ∷ later)) ≡ cons_option said says
table-is ordinal line name None later says e = e
table-is ordinal line name (Some said) later says e = ap (λ l. said ∷ l) e

table-warned : (ordinal line : ℕ) (name : List ℕ) (said : Option Said) (later : List (Option Judged)) → All IsUnknown (profile.faults_from (ordinal + 1) later)
    → All IsUnknown (profile.faults_from ordinal (judged line name said ∷ later))
table-warned ordinal line name None later all =
    All-cons IsUnknown (item_fault ordinal line name code.UnknownCapability) (profile.faults_from (ordinal + 1) later) refl all
table-warned ordinal line name (Some said) later all = all

-- the text after the first comma is read in its turn
item-read : (item : Item) (items : List Item) (u w rest : List ℕ) (s : List PlacedByte) → bytes s ≡ u ++ 44 ∷ rest → is_whole 44 u ≡ true
    → without_white_front u ≡ w
    → IsReadable w (user_said item) (table_said item) → ((later : List PlacedByte) → bytes later ≡ rest → AreRead later items) → AreRead s (item ∷ items)
item-read item items u w rest s e whole front readable more =
    let parts = split-bytes s u (44 ∷ rest) e in
    let comma = split-byte parts.rest 44 rest parts.is_rest in
    let next = more comma.rest comma.is_rest in
    let is_s : s ≡ parts.front ++ (44, comma.line) ∷ comma.rest = parts.whole ∙ ap (λ t. parts.front ++ t) comma.whole in
    let text : (piece_of parts.front).text ≡ w = bytes-without_front parts.front ∙ ap without_white_front parts.is_front ∙ front in
    let is_item : is_whole 44 (bytes parts.front) ≡ true = ap (is_whole 44) parts.is_front ∙ whole in
    let states = subst (λ t. States t (Some readable.said_by)) (sym text) readable.stated.states in
    let line = (piece_of parts.front).line in
    let name = readable.said_by.name in
    record {
      pieces = parts.front ∷ next.pieces;
      cut = subst (λ t. AreItems 44 t (parts.front ∷ next.pieces)) (sym is_s) (whole-cut 44 comma.line parts.front comma.rest next.pieces is_item next.cut);
      outcomes = outcome line name (user_said item) ∷ next.outcomes;
      are_judged = item_and_rest (user-judged parts.front readable.said_by (user_said item) states readable.judges) next.are_judged;
      is = λ ordinal. user-is ordinal line name (user_said item) next.outcomes (filter_map user_said items) (next.is (ordinal + 1));
      faultless = λ ordinal. user-faultless ordinal line name (user_said item) next.outcomes (next.faultless (ordinal + 1));
      table_outcomes = judged line name (table_said item) ∷ next.table_outcomes;
      table_judged =
          profile.item_and_rest (item_judged parts.front readable.said_by (table_verdict (table_said item)) states readable.table_judges) next.table_judged;
      table_is = λ ordinal. table-is ordinal line name (table_said item) next.table_outcomes (filter_map table_said items) (next.table_is (ordinal + 1));
      warned = λ ordinal. table-warned ordinal line name (table_said item) next.table_outcomes (next.warned (ordinal + 1));
    }

none-left : (s : List PlacedByte) → bytes s ≡ [] → s ≡ []
none-left [] e = refl
none-left (x ∷ xs) e = cc

tail-read : EveryNameIsFound → WrittenSpells → (items : List Item) (tail : List ℕ) → All CanBeWritten items → IsTail items tail
    → (s : List PlacedByte) → bytes s ≡ unbroken false tail → AreRead s items
tail-read found spells _ _ can no_more s e = record {
  pieces = [] ∷ [];
  cut = subst (λ t. AreItems 44 t ([] ∷ [])) (sym (none-left s e)) (last_item 44);
  outcomes = None ∷ [];
  are_judged = item_and_rest (states_nothing [] empty_item) no_item;
  is = λ ordinal. refl;
  faultless = λ ordinal. refl;
  table_outcomes = None ∷ [];
  table_judged = profile.item_and_rest (item_ignored [] empty_item) profile.no_item;
  table_is = λ ordinal. refl;
  warned = λ ordinal. All-nil IsUnknown;
}
tail-read found spells _ _ can (same_line item items tail laid) s e =
    let w = item_text item in
    let readable = item-readable found spells item (All-head CanBeWritten item items can) in
    let bare : unbroken false (w ++ 44 ∷ tail) ≡ w ++ 44 ∷ unbroken false tail = unbroken-inline w (44 ∷ tail) readable.stated.inline in
    item-read item items (32 ∷ w) w (unbroken false tail) s (e ∙ ap (λ t. 32 ∷ t) bare) (whole-cons 44 32 w refl (readable.stated.whole 32))
    (dark-front w readable.stated.dark) readable
    (λ later is. tail-read found spells items tail (All-tail CanBeWritten item items can) laid later is)
tail-read found spells _ _ can (new_line item items tail laid) s e =
    let w = item_text item in
    let readable = item-readable found spells item (All-head CanBeWritten item items can) in
    let bare : unbroken true (w ++ 44 ∷ tail) ≡ w ++ 44 ∷ unbroken false tail =
    unbroken-dark w (44 ∷ tail) readable.stated.dark ∙ unbroken-inline w (44 ∷ tail) readable.stated.inline in
    item-read item items w w (unbroken false tail) s (e ∙ bare) (readable.stated.whole 44) (dark-front w readable.stated.dark) readable
    (λ later is. tail-read found spells items tail (All-tail CanBeWritten item items can) laid later is)

tail-calm : EveryNameIsFound → WrittenSpells → (items : List Item) (tail : List ℕ) → All CanBeWritten items → IsTail items tail → is_calm 44 tail ≡ true
tail-calm found spells _ _ can no_more = refl
tail-calm found spells _ _ can (same_line item items tail laid) =
    calm-inline 32 (item_text item) tail refl (item-readable found spells item (All-head CanBeWritten item items can)).stated.inline
    (tail-calm found spells items tail (All-tail CanBeWritten item items can) laid)
tail-calm found spells _ _ can (new_line item items tail laid) =
    calm-inline 9 (item_text item) tail refl (item-readable found spells item (All-head CanBeWritten item items can)).stated.inline
    (tail-calm found spells items tail (All-tail CanBeWritten item items can) laid)

text-calm : (field tail : List ℕ) → ((first : ℕ) (others : List ℕ) → field ≡ first ∷ others → (first == 35) ≡ false) → is_inline field ≡ true
    → is_calm 44 tail ≡ true → is_calm 10 (field ++ 44 ∷ tail) ≡ true
text-calm [] tail plain inline calm = calm
text-calm (x ∷ xs) tail plain inline calm =
    let parts = and_parts (not (x == 10)) (is_inline xs) inline in
    rw (plain x xs refl) (calm-inline x xs tail (not-true (x == 10) parts.0) parts.1 calm)

no_comma-of : (p : List PlacedByte) → list_all (λ b. not (b == 44)) (bytes p) ≡ true → HasNoComma p
no_comma-of [] h = tt
no_comma-of (x ∷ xs) h =
    let parts = and_parts (not (x.0 == 44)) (list_all (λ b. not (b == 44)) (bytes xs)) h in (not-true (x.0 == 44) parts.0, no_comma-of xs parts.1)

begins-at : (s field rest : List PlacedByte) (line : ℕ) → s ≡ field ++ (44, line) ∷ rest → HasNoComma field → Begins s field rest
begins-at s field rest line e none = subst (λ t. Begins t field rest) (sym e) (field_and_rest field rest line none)

-- the text has both readings
record HasReadings (text field : List ℕ) (names : List (List ℕ)) (items : List Item) : Type 0 where
  pub user_reading : UserBlock
  pub user_reads : ReadsUserItems text user_reading
  pub user_is : IsUserReadAs (filter_map user_said items) user_reading
  pub reading : Reading
  pub parses : Parses text reading
  pub is : IsProfileReadAs field names (filter_map table_said items) reading

source-reads : EveryNameIsFound → WrittenSpells → (field : List ℕ) (names : List (List ℕ)) (items : List Item) (text : List ℕ)
    → IsListable field names → All CanBeWritten items
    → IsSource field items text → HasReadings text field names items
source-reads found spells field names items text good can is =
    let calm = text-calm field is.tail good.plain good.inline (tail-calm found spells items is.tail can is.is_tail) in
    let bare : unbroken false (uncommented false 10 text) ≡ field ++ 44 ∷ unbroken false is.tail =
    ap (λ t. unbroken false (uncommented false 10 t)) is.whole ∙ ap (unbroken false) (uncommented-calm 10 (field ++ 44 ∷ is.tail) calm)
    ∙ unbroken-inline field (44 ∷ is.tail) good.inline in
    let parts = split-bytes (folding_of text) field (44 ∷ unbroken false is.tail) (bytes-folded text ∙ bare) in
    let comma = split-byte parts.rest 44 (unbroken false is.tail) parts.is_rest in
    let is_folded : folding_of text ≡ parts.front ++ (44, comma.line) ∷ comma.rest = parts.whole ∙ ap (λ t. parts.front ++ t) comma.whole in
    let read = tail-read found spells items is.tail can is.is_tail comma.rest comma.is_rest in
    let none = no_comma-of parts.front (ap (list_all (λ b. not (b == 44))) parts.is_front ∙ good.no_comma) in
    let begins = begins-at (folding_of text) parts.front comma.rest comma.line is_folded none in
    record {
      user_reading = reading_by read.outcomes;
      user_reads = record {
        text = folding_of text;
        field = parts.front;
        rest = comma.rest;
        items = read.pieces;
        judged = read.outcomes;
        folds = folds_computed text;
        begins = begins;
        cut = read.cut;
        are_judged = read.are_judged;
        is = refl;
      };
      user_is = record { says = read.is 0; none_wrong = read.faultless 0 };
      reading = profile.reading_by field (Some names) read.table_outcomes;
      parses = record {
        text = folding_of text;
        field = parts.front;
        rest = comma.rest;
        items = read.pieces;
        names = Some names;
        judged = read.table_outcomes;
        folds = folds_computed text;
        begins = begins;
        cut = read.cut;
        reads_names = subst (λ f. HeaderNames f names) (sym parts.is_front) good.header;
        are_judged = read.table_judged;
        is = ap (λ f. profile.reading_by f (Some names) read.table_outcomes) (sym parts.is_front);
      };
      is = record { same_field = refl; same_names = refl; says = read.table_is 0; warned = rw (le-ltb names_max (length field) good.short) (read.warned 0) };
    }

pub items_read : EveryNameIsFound → WrittenSpells → BlocksHaveOneUserReading → ItemsAreRead
items_read found spells one field names items text good can is =
    let has = source-reads found spells field names items text good can is in
    subst (λ r. IsUserReadAs (filter_map user_said items) r) (one.only text has.user_reading has.user_reads) has.user_is

pub profile_read : EveryNameIsFound → WrittenSpells → HasReading → BlocksHaveOneReading → ItemsAreReadByTheProfile
profile_read found spells computed only field names items text good can is =
    let has = source-reads found spells field names items text good can is in
    subst (λ r. IsProfileReadAs field names (filter_map table_said items) r) (only text has.reading (reading_of_text text) has.parses (computed text)) has.is
