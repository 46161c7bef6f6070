-- In a block of bytes each text that is read is of bytes.
use Rattle.std.proofs.Common.{ℕ, ◌+◌, ◌<◌, Bool, true, false, ◌==◌, ◌||◌, ◌&&◌, List, [], ◌∷◌, ◌++◌, cond, Option, Some, None, Result, Ok, Err, sym, subst}
use Rattle.std.proofs.Common.{inl, inr}
use Rattle.std.specs.List.{All, AllByRecursion}
use Rattle.std.proofs.lemmas.List.Elements.{All-from_recursion, recursion_from_All, All-nil, All-cons}
use Rattle.std.proofs.lemmas.Bool.{cases_Bool}
use Rattle.ti_caps.specs.Tables.{Capability, capability_named}
use Rattle.ti_caps.specs.declared.capability.Kind.{Kind}
use Rattle.ti_caps.specs.declared.capability.Kind.TheVariants as kind
use Rattle.ti_spelling.specs.declared.numbers.NumberError.{NumberError}
use Rattle.ti_spelling.specs.declared.numbers.NumberError.TheVariants.{Bad, TooLarge}
use Rattle.ti_text.specs.WhiteSpace.{is_white_space}
use Rattle.ti_source.specs.Folding.{PlacedByte}
use Rattle.ti_source.specs.inside.Folding.{in_comment, folding_of}
use Rattle.ti_source.specs.Items.{bytes, Begins, all_field, field_and_rest, AreItems, last_item, item_ends, pair_of_bytes, single_byte, without_front, piece_of}
use Rattle.ti_source.specs.Items.{Claim, claims_flag, claims_number, claims_text, claims_cancel, Statement, States, empty_item, disabled_item, number_item}
use Rattle.ti_source.specs.Items.{text_item, cancel_item, flag_item}
use Rattle.ti_source.specs.Reading.{Said, said_flag, said_number, said_text, said_cancel, said_import, ReadItem}
use Rattle.ti_source.specs.Parsing.{reading_of_text, HasReading}
use Rattle.ti_source.specs.Judging.{Judged, item_ignored, item_judged, AreJudged, no_item, item_and_rest, items_from}
use Rattle.ti_source.specs.Verdicts.{Verdict, accepted, accepted_odd, refused, is_import, ReadClaim, IsReadAs}
use Rattle.ti_source.specs.Verdicts.{flag_read, number_read_as, text_read_as, cancel_read, number_verdict, text_verdict, fitting_verdict, named_verdict}
use Rattle.ti_source.specs.Verdicts.{verdict_on, Judges, items_by}
use Rattle.ti_source.proofs.FoldingLaws.{only_folded}
use Rattle.ti_spelling.specs.declared.spelling.UnescapeError.{UnescapeError}
use Rattle.ti_spelling.specs.Spelling.{AreBytes, SpellsAs, ValuesAreSound}
use Rattle.tools_relisting.proofs.Bytes.{uncommented, unbroken, bytes-folded}

abbrev pub OfBytes : List ℕ → Type 0
OfBytes s = AllByRecursion (λ b. b < 256) s

-- bytes with their lines: each text that is read is of bytes
abbrev pub ArePlacedBytes : List PlacedByte → Type 0
ArePlacedBytes s = OfBytes (bytes s)

uncommented-bytes : (comment : Bool) (before : ℕ) (s : List ℕ) → OfBytes s → OfBytes (uncommented comment before s)
uncommented-bytes comment before [] h = tt
uncommented-bytes comment before (x ∷ xs) h =
    elim (in_comment comment before x) as (λ b. OfBytes (cond b (uncommented true x xs) (x ∷ uncommented false x xs))) [
      | true ↦ uncommented-bytes true x xs h.1
      | false ↦ (h.0, uncommented-bytes false x xs h.1)
    ]

unbroken-bytes : (joining : Bool) (s : List ℕ) → OfBytes s → OfBytes (unbroken joining s)
unbroken-bytes joining [] h = tt
unbroken-bytes joining (x ∷ xs) h =
    elim (x == 10 || (joining && is_white_space x)) as (λ b. OfBytes (cond b (unbroken true xs) (x ∷ unbroken false xs))) [
      | true ↦ unbroken-bytes true xs h.1
      | false ↦ (h.0, unbroken-bytes false xs h.1)
    ]

pub folded-bytes : (block : List ℕ) → AreBytes block → ArePlacedBytes (folding_of block)
folded-bytes block h =
    rw (bytes-folded block) (unbroken-bytes false (uncommented false 10 block) (uncommented-bytes false 10 block (recursion_from_All (λ b. b < 256) block h)))

pub behind-bytes : (s t : List ℕ) → OfBytes (s ++ t) → OfBytes t
behind-bytes [] t h = h
behind-bytes (x ∷ s) t h = behind-bytes s t h.1

behind-placed : (s t : List PlacedByte) → ArePlacedBytes (s ++ t) → ArePlacedBytes t
behind-placed [] t h = h
behind-placed (x ∷ s) t h = behind-placed s t h.1

pub rest-bytes : (s field rest : List PlacedByte) → Begins s field rest → ArePlacedBytes s → ArePlacedBytes rest
rest-bytes _ _ _ (all_field field none) h = tt
rest-bytes _ _ _ (field_and_rest field rest line none) h = (behind-placed field ((44, line) ∷ rest) h).1

pub items-bytes : (before : ℕ) (text : List PlacedByte) (items : List (List PlacedByte)) → AreItems before text items → ArePlacedBytes text
    → AllByRecursion ArePlacedBytes items
items-bytes _ _ _ (last_item before) h = (tt, tt)
items-bytes _ _ _ (item_ends before line text items are) h = (tt, items-bytes 44 text items are h.1)
items-bytes _ _ _ (pair_of_bytes before x y text item items t are) h =
    let later = items-bytes y.0 text (item ∷ items) are h.1.1 in
    ((h.0, (h.1.0, later.0)), later.1)
items-bytes _ _ _ (single_byte before x text item items no_comma alone are) h =
    let later = items-bytes x.0 text (item ∷ items) are h.1 in
    ((h.0, later.0), later.1)

pub front-bytes : (item : List PlacedByte) → ArePlacedBytes item → ArePlacedBytes (without_front item)
front-bytes [] h = tt
front-bytes (x ∷ xs) h = elim (is_white_space x.0) as (λ b. ArePlacedBytes (cond b (without_front xs) (x ∷ xs))) [ true ↦ front-bytes xs h.1 | false ↦ h ]

-- ---- what an item states, and what comes of it

abbrev pub ClaimBytes : Claim → Type 0
ClaimBytes claims_flag = Unit {0}
ClaimBytes (claims_number value) = Unit {0}
ClaimBytes (claims_text value) = OfBytes value
ClaimBytes claims_cancel = Unit {0}

abbrev pub StatementBytes : Option Statement → Type 0
StatementBytes None = Unit {0}
StatementBytes (Some s) = ClaimBytes s.claim

pub states-bytes : (text : List ℕ) (o : Option Statement) → States text o → OfBytes text → StatementBytes o
states-bytes _ _ empty_item h = tt
states-bytes _ _ (disabled_item text) h = tt
states-bytes _ _ (number_item name value none on) h = tt
states-bytes _ _ (text_item name value none on) h = (behind-bytes name (61 ∷ value) h).1
states-bytes _ _ (cancel_item name end none white on) h = tt
states-bytes _ _ (flag_item name end none white on visible last) h = tt

-- a string that an item says is of bytes
abbrev pub SaysBytes : Said → Type 0
SaysBytes (said_flag c) = Unit {0}
SaysBytes (said_number c n) = Unit {0}
SaysBytes (said_text c t) = AreBytes t
SaysBytes (said_cancel c) = Unit {0}
SaysBytes (said_import name) = Unit {0}

abbrev VerdictBytes : Verdict → Type 0
VerdictBytes (accepted said) = SaysBytes said
VerdictBytes (accepted_odd said) = SaysBytes said
VerdictBytes (refused code) = Unit {0}

number-bytes : (c : Capability) (read : Result ℕ NumberError) → VerdictBytes (number_verdict c read)
number-bytes c (Ok n) = tt
number-bytes c (Err Bad) = tt
number-bytes c (Err TooLarge) = tt

text-bytes : ValuesAreSound → (c : Capability) (value : List ℕ) (found : Result (List ℕ × Bool) UnescapeError) → SpellsAs value found → OfBytes value
    → VerdictBytes (text_verdict c found)
text-bytes sound c value (Ok (text, true)) spells h = (sound value text true spells).bytes (All-from_recursion (λ b. b < 256) value h)
text-bytes sound c value (Ok (text, false)) spells h = (sound value text false spells).bytes (All-from_recursion (λ b. b < 256) value h)
text-bytes sound c value (Err cause) spells h = tt

fitting-bytes : ValuesAreSound → (c : Capability) (claim : Claim) (read : ReadClaim) (k : Kind) → IsReadAs claim read → ClaimBytes claim
    → VerdictBytes (fitting_verdict c read k)
fitting-bytes sound c _ _ kind.Flag flag_read h = tt
fitting-bytes sound c _ _ kind.Number flag_read h = tt
fitting-bytes sound c _ _ kind.Text flag_read h = tt
fitting-bytes sound c _ _ kind.Flag (number_read_as reads) h = tt
fitting-bytes sound c _ _ kind.Number (number_read_as {read = read} reads) h = number-bytes c read
fitting-bytes sound c _ _ kind.Text (number_read_as reads) h = tt
fitting-bytes sound c _ _ kind.Flag (text_read_as spells) h = tt
fitting-bytes sound c _ _ kind.Number (text_read_as spells) h = tt
fitting-bytes sound c _ _ kind.Text (text_read_as {value = value} {found = found} spells) h = text-bytes sound c value found spells h
fitting-bytes sound c _ _ k cancel_read h = tt

named-bytes : ValuesAreSound → (claim : Claim) (read : ReadClaim) (o : Option Capability) → IsReadAs claim read → ClaimBytes claim
    → VerdictBytes (named_verdict read o)
named-bytes sound claim read None reads h = tt
named-bytes sound claim read (Some c) reads h = fitting-bytes sound c claim read c.kind reads h

verdict-bytes : ValuesAreSound → (name : List ℕ) (claim : Claim) (read : ReadClaim) → IsReadAs claim read → ClaimBytes claim
    → VerdictBytes (verdict_on name claim read)
verdict-bytes sound name claim read reads h =
    elim (cases_Bool (is_import name claim)) [
      | inl t ↦ rw t tt
      | inr f ↦ rw f (named-bytes sound claim read (capability_named name) reads h)
    ]

judges-bytes : ValuesAreSound → (name : List ℕ) (claim : Claim) (v : Verdict) → Judges name claim v → ClaimBytes claim → VerdictBytes v
judges-bytes sound name claim v j h = subst VerdictBytes (sym j.is) (verdict-bytes sound name claim j.read j.is_read h)

abbrev pub ItemSaysBytes : ReadItem → Type 0
ItemSaysBytes item = SaysBytes item.said

verdict-items : (ordinal line : ℕ) (v : Verdict) (found : List ReadItem) → VerdictBytes v → All ItemSaysBytes found
    → All ItemSaysBytes (items_by ordinal line v ++ found)
verdict-items ordinal line (accepted said) found h later = All-cons ItemSaysBytes (record { ordinal = ordinal; line = line; said = said }) found h later
verdict-items ordinal line (accepted_odd said) found h later = All-cons ItemSaysBytes (record { ordinal = ordinal; line = line; said = said }) found h later
verdict-items ordinal line (refused code) found h later = later

reads-bytes : ValuesAreSound → (ordinal : ℕ) (items : List (List PlacedByte)) (outcomes : List (Option Judged)) → AreJudged items outcomes
    → AllByRecursion ArePlacedBytes items → All ItemSaysBytes (items_from ordinal outcomes)
reads-bytes sound ordinal _ _ no_item h = All-nil ItemSaysBytes
reads-bytes sound ordinal _ _ (item_and_rest {items = items} {outcomes = outcomes} (item_ignored item states) later) h =
    reads-bytes sound (ordinal + 1) items outcomes later h.1
reads-bytes sound ordinal _ _ (item_and_rest {items = items} {outcomes = outcomes} (item_judged item s v states judges) later) h =
    let claim = states-bytes (piece_of item).text (Some s) states (front-bytes item h.0) in
    verdict-items ordinal (piece_of item).line v (items_from (ordinal + 1) outcomes) (judges-bytes sound s.name s.claim v judges claim)
    (reads-bytes sound (ordinal + 1) items outcomes later h.1)

pub parsed-bytes : ValuesAreSound → HasReading → (block : List ℕ) → AreBytes block → All ItemSaysBytes (reading_of_text block).items
parsed-bytes sound each block h =
    let has = each block in
    let text = subst ArePlacedBytes (sym (only_folded block has.text has.folds)) (folded-bytes block h) in
    subst (λ r. All ItemSaysBytes r.items) (sym has.is)
    (reads-bytes sound 0 has.items has.judged has.are_judged (items-bytes 44 has.rest has.items has.cut
    (rest-bytes has.text has.field has.rest has.begins text)))
