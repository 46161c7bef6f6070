-- In a block of bytes each text that is given to a user-defined name is of bytes.
use Rattle.std.proofs.Common.{ℕ, ◌+◌, ◌<◌, Bool, true, false, List, ◌++◌, Option, Some, None, Result, Ok, Err, sym, subst, inl, inr}
use Rattle.std.specs.List.{AllByRecursion}
use Rattle.std.proofs.lemmas.Bool.{cases_Bool}
use Rattle.std.proofs.lemmas.List.Elements.{All-from_recursion}
use Rattle.ti_spelling.specs.declared.numbers.NumberError.{NumberError}
use Rattle.ti_spelling.specs.declared.spelling.UnescapeError.{UnescapeError}
use Rattle.ti_spelling.specs.Spelling.{AreBytes, SpellsAs, ValuesAreSound}
use Rattle.ti_source.specs.Folding.{PlacedByte}
use Rattle.ti_source.specs.Items.{Claim, piece_of}
use Rattle.ti_source.specs.Verdicts.{ReadClaim, IsReadAs, flag_read, number_read_as, text_read_as, cancel_read, is_import}
use Rattle.ti_source.proofs.FoldingLaws.{only_folded}
use Rattle.ti_layout.specs.Values.{Content, content_true, content_number, content_text, content_cancelled}
use Rattle.user_items.specs.Names.{is_user_defined_name}
use Rattle.user_items.specs.Verdicts.{UserVerdict, user_accepted, user_odd, user_refused, number_verdict, text_verdict, defining_verdict, verdict_on}
use Rattle.user_items.specs.Verdicts.{UserJudges}
use Rattle.user_items.specs.Reading.{ReadUserItem, UserBlock, UserJudged, states_nothing, states_another, states_user, AreUserJudged, no_item, item_and_rest}
use Rattle.user_items.specs.Reading.{items_by, items_from}
use Rattle.user_items.specs.Laws.{BlocksHaveOneUserReading}
use Rattle.user_values.specs.Expansion.{UserMention}
use Rattle.user_compiling.proofs.Mentioned.{UserSaidHas, UserItemsHave}
use Rattle.tools_relisting.proofs.TextBytes.{OfBytes, ArePlacedBytes, ClaimBytes, folded-bytes, rest-bytes, items-bytes, front-bytes, states-bytes}

-- a text is of bytes
abbrev pub ContentBytes : Content → Type 0
ContentBytes content_true = Unit {0}
ContentBytes (content_number n) = Unit {0}
ContentBytes (content_text t) = AreBytes t
ContentBytes content_cancelled = Unit {0}

-- so is what a name is given
abbrev pub GivesBytes : UserMention → Type 0
GivesBytes m = ContentBytes m.1

-- ---- a verdict

abbrev VerdictBytes : UserVerdict → Type 0
VerdictBytes (user_accepted said) = UserSaidHas GivesBytes said
VerdictBytes (user_odd said) = UserSaidHas GivesBytes said
VerdictBytes user_refused = Unit {0}

abbrev IfVerdictBytes : Option UserVerdict → Type 0
IfVerdictBytes None = Unit {0}
IfVerdictBytes (Some v) = VerdictBytes v

number-bytes : (name : List ℕ) (read : Result ℕ NumberError) → VerdictBytes (number_verdict name read)
number-bytes name (Ok n) = tt
number-bytes name (Err cause) = tt

text-bytes : ValuesAreSound → (name value : List ℕ) (found : Result (List ℕ × Bool) UnescapeError) → SpellsAs value found → OfBytes value
    → VerdictBytes (text_verdict name found)
text-bytes sound name value (Ok (text, true)) spells h = (sound value text true spells).bytes (All-from_recursion (λ b. b < 256) value h)
text-bytes sound name value (Ok (text, false)) spells h = (sound value text false spells).bytes (All-from_recursion (λ b. b < 256) value h)
text-bytes sound name value (Err cause) spells h = tt

claim-bytes : ValuesAreSound → (name : List ℕ) (claim : Claim) (read : ReadClaim) → IsReadAs claim read → ClaimBytes claim
    → VerdictBytes (defining_verdict name read)
claim-bytes sound name _ _ flag_read h = tt
claim-bytes sound name _ _ (number_read_as {read = read} reads) h = number-bytes name read
claim-bytes sound name _ _ (text_read_as {value = value} {found = found} spells) h = text-bytes sound name value found spells h
claim-bytes sound name _ _ cancel_read h = tt

verdict-bytes : ValuesAreSound → (name : List ℕ) (claim : Claim) (read : ReadClaim) → IsReadAs claim read → ClaimBytes claim
    → IfVerdictBytes (verdict_on name claim read)
verdict-bytes sound name claim read reads h =
    elim (cases_Bool (is_import name claim)) [
      | inl t ↦ rw t tt
      | inr f ↦ elim (cases_Bool (is_user_defined_name name)) [
        | inl t ↦ rw (f, t) (claim-bytes sound name claim read reads h)
        | inr g ↦ rw (f, g) tt
      ]
    ]

judges-bytes : ValuesAreSound → (name : List ℕ) (claim : Claim) (v : Option UserVerdict) → UserJudges name claim v → ClaimBytes claim → IfVerdictBytes v
judges-bytes sound name claim v j h = subst IfVerdictBytes (sym j.is) (verdict-bytes sound name claim j.read j.is_read h)

-- ---- the items

abbrev ItemBytes : ReadUserItem → Type 0
ItemBytes item = UserSaidHas GivesBytes item.said

verdict-items : (ordinal line : ℕ) (v : UserVerdict) (found : List ReadUserItem) → VerdictBytes v → AllByRecursion ItemBytes found
    → AllByRecursion ItemBytes (items_by ordinal line v ++ found)
verdict-items ordinal line (user_accepted said) found h later = (h, later)
verdict-items ordinal line (user_odd said) found h later = (h, later)
verdict-items ordinal line user_refused found h later = later

reads-bytes : ValuesAreSound → (ordinal : ℕ) (items : List (List PlacedByte)) (outcomes : List (Option UserJudged)) → AreUserJudged items outcomes
    → AllByRecursion ArePlacedBytes items → AllByRecursion ItemBytes (items_from ordinal outcomes)
reads-bytes sound ordinal _ _ no_item h = tt
reads-bytes sound ordinal _ _ (item_and_rest {items = items} {outcomes = outcomes} (states_nothing item states) later) h =
    reads-bytes sound (ordinal + 1) items outcomes later h.1
reads-bytes sound ordinal _ _ (item_and_rest {items = items} {outcomes = outcomes} (states_another item s states judges) later) h =
    reads-bytes sound (ordinal + 1) items outcomes later h.1
reads-bytes sound ordinal _ _ (item_and_rest {items = items} {outcomes = outcomes} (states_user item s v states judges) later) h =
    let claim = states-bytes (piece_of item).text (Some s) states (front-bytes item h.0) in
    verdict-items ordinal (piece_of item).line v (items_from (ordinal + 1) outcomes) (judges-bytes sound s.name s.claim (Some v) judges claim)
    (reads-bytes sound (ordinal + 1) items outcomes later h.1)

pub user-bytes : ValuesAreSound → BlocksHaveOneUserReading → (text : List ℕ) → AreBytes text → UserItemsHave GivesBytes text
user-bytes sound one text h =
    let has = one.has text in
    let folded = subst ArePlacedBytes (sym (only_folded text has.text has.folds)) (folded-bytes text h) in
    subst (λ (r : UserBlock). AllByRecursion ItemBytes r.items) (sym has.is)
    (reads-bytes sound 0 has.items has.judged has.are_judged
    (items-bytes 44 has.rest has.items has.cut (rest-bytes has.text has.field has.rest has.begins folded)))
