-- What a rename leaves as it is of user-defined capabilities.
use Rattle.std.proofs.Common.{◌≡◌, ℕ, zero, suc, ◌+◌, ◌⊎◌, Bool, true, false, cond, inl, inr, List, [], ◌∷◌, ◌++◌, length, map, Option, None, Some, slice_get}
use Rattle.std.proofs.Common.{refl, sym, ap, subst, ◌∙◌, arith}
use Rattle.std.specs.Prelude.{Ok, Err, option_and_then}
use Rattle.std.proofs.lemmas.Bool.{cases_Bool}
use Rattle.std.proofs.lemmas.List.{length-map}
use Rattle.std.proofs.lemmas.Option.{same_Some}
use Rattle.ti_text.specs.Lists.{both_lists}
use Rattle.ti_source.specs.Folding.{PlacedByte}
use Rattle.ti_source.specs.Items.{Statement, Claim, piece_of}
use Rattle.ti_source.specs.Stating.{statement_of}
use Rattle.ti_source.specs.inside.Parsing.{judged_as as judged_as_there, judged_of as judged_there}
use Rattle.ti_source.specs.Walking.{block_items}
use Rattle.ti_source.specs.inside.Verdicts.{read_claim}
use Rattle.ti_source.specs.Judging.{items_at as items_at_there, items_from as items_from_there}
use Rattle.ti_source.specs.Verdicts.{ReadClaim, is_import, reads_flag, reads_number, reads_text, reads_cancel}
use Rattle.ti_source.specs.Verdicts.{items_by as items_by_there, verdict_on as verdict_there}
use Rattle.ti_source.specs.Parsing.{reading_of_text}
use Rattle.ti_source.specs.Reading.{ReadItem}
use Rattle.ti_layout.specs.Laws.{without_cancel}
use Rattle.base_meaning.specs.Expansion.{is_broken}
use Rattle.base_meaning.specs.Owner.{owner, readings}
use Rattle.base_meaning.specs.Reaching.{Uses}
use Rattle.user_items.specs.Names.{is_user_defined_name}
use Rattle.user_items.specs.Parsing.{user_reading_of_text}
use Rattle.user_items.specs.Reading.{ReadUserItem, items_at, items_from}
use Rattle.user_items.specs.Verdicts.{UserSaid, defining_verdict, imports, says, verdict_on}
use Rattle.user_items.specs.inside.Computed.{judged_with, judged_as, judged_of}
use Rattle.user_values.specs.Expansion.{UserMention, expand, expand_items, expansion, first_said, mentions_of, owner_text}
use Rattle.source_names.specs.Renamed.{renamed_name}
use Rattle.source_names.specs.UserRenamed.{AreAccepted, BlocksSayOfUsersWhatTheyDid, UserValuesStay, renamed_user_said}
use Rattle.source_names.proofs.Renamed.{after_at, same_length, uses_lead}

abbrev Mentions : Type 0
Mentions = Option (List UserMention)

-- ---- a name that is used is used by an item of the profile too

-- one of the items uses the name
Imports : List ReadUserItem → List ℕ → Type 0
Imports [] used = ⊥
Imports (item ∷ items) used = (item.said ≡ imports used) ⊎ Imports items used

imports_both : (one other : List ReadUserItem) (used : List ℕ) → Imports (one ++ other) used → Imports one used ⊎ Imports other used
unfolding Imports
imports_both [] other used i = inr i
imports_both (item ∷ items) other used i =
    elim i [
      | inl here ↦ inl (inl here)
      | inr more ↦ elim (imports_both items other used more) [ inl one ↦ inl (inr one) | inr two ↦ inr two ]
    ]

uses_left : (one other : List ReadItem) (used : List ℕ) → Uses one used → Uses (one ++ other) used
uses_left [] other used u = absurd u
uses_left (item ∷ items) other used u = elim u [ inl here ↦ inl here | inr more ↦ inr (uses_left items other used more) ]

uses_right : (one other : List ReadItem) (used : List ℕ) → Uses other used → Uses (one ++ other) used
uses_right [] other used u = u
uses_right (item ∷ items) other used u = inr (uses_right items other used u)

-- what defines a name uses none
defines_none : (o line : ℕ) (name used : List ℕ) (read : ReadClaim) (b : Bool)
    → Imports (items_at o (judged_with line name (cond b (Some (defining_verdict name read)) None))) used → ⊥
unfolding Imports
defines_none o line name used read false i = i
defines_none o line name used reads_flag true i = elim i [ inl e ↦ cc | inr none ↦ none ]
defines_none o line name used (reads_number (Ok n)) true i = elim i [ inl e ↦ cc | inr none ↦ none ]
defines_none o line name used (reads_number (Err cause)) true i = i
defines_none o line name used (reads_text value (Ok found)) true i = by_odd found.1 i
  where
    by_odd : (b : Bool) → Imports (items_at o (judged_with line name (Some (defining_verdict name (reads_text value (Ok (found.0, b))))))) used → ⊥
    by_odd true i = elim i [ inl e ↦ cc | inr none ↦ none ]
    by_odd false i = elim i [ inl e ↦ cc | inr none ↦ none ]
defines_none o line name used (reads_text value (Err cause)) true i = i
defines_none o line name used reads_cancel true i = elim i [ inl e ↦ cc | inr none ↦ none ]

claim_uses : (o line : ℕ) (name used : List ℕ) (claim : Claim) (read : ReadClaim)
    → Imports (items_at o (judged_with line name (verdict_on name claim read))) used
    → Uses (items_by_there o line (verdict_there name claim read)) used
unfolding Imports
claim_uses o line name used claim read i =
    elim (cases_Bool (is_import name claim)) [
      | inl t ↦ rw t (elim (rw t at i) [ inl e ↦ inl cc | inr none ↦ absurd none ])
      | inr f ↦ absurd (defines_none o line name used read (is_user_defined_name name) (rw f at i))
    ]

statement_uses : (o line : ℕ) (used : List ℕ) (s : Option Statement) → Imports (items_at o (judged_as line s)) used
    → Uses (items_at_there o (judged_as_there line s)) used
unfolding Imports
statement_uses o line used None i = absurd i
statement_uses o line used (Some s) i = claim_uses o line s.name used s.claim (read_claim s.claim) i

all_use : (o : ℕ) (used : List ℕ) (items : List (List PlacedByte)) → Imports (items_from o (map judged_of items)) used
    → Uses (items_from_there o (map judged_there items)) used
unfolding Imports
all_use o used [] i = absurd i
all_use o used (item ∷ items) i =
    let here = items_at o (judged_of item) in
    let here_there = items_at_there o (judged_there item) in
    let later_there = items_from_there (o + 1) (map judged_there items) in
    elim (imports_both here (items_from (o + 1) (map judged_of items)) used i) [
      | inl one ↦ uses_left here_there later_there used (statement_uses o (piece_of item).line used (statement_of (piece_of item).text) one)
      | inr more ↦ uses_right here_there later_there used (all_use (o + 1) used items more)
    ]

items_here : (text : List ℕ) → (user_reading_of_text text).items ≡ items_from 0 (map judged_of (block_items text))
unfolding user_reading_of_text
items_here text = refl

items_there : (text : List ℕ) → (reading_of_text text).items ≡ items_from_there 0 (map judged_there (block_items text))
unfolding reading_of_text
items_there text = refl

imports_use : (text used : List ℕ) → Imports (user_reading_of_text text).items used → Uses (reading_of_text text).items used
imports_use text used i =
    subst (λ (items : List ReadItem). Uses items used) (sym (items_there text))
    (all_use 0 used (block_items text) (subst (λ (items : List ReadUserItem). Imports items used) (items_here text) i))

-- ---- two lists of as many texts

pairs : {M : Type 0} (f g : List ℕ → Option M) (blocks others : List (List ℕ)) → length others ≡ length blocks
    → ((place : ℕ) (block other : List ℕ) → slice_get blocks place ≡ Some block → slice_get others place ≡ Some other → f other ≡ g block)
    → (place : ℕ) → option_and_then f (slice_get others place) ≡ option_and_then g (slice_get blocks place)
pairs f g [] [] size same place = refl
pairs f g [] (other ∷ others) size same place = absurd (omega (arith, size))
pairs f g (block ∷ blocks) [] size same place = absurd (omega (arith, size))
pairs f g (block ∷ blocks) (other ∷ others) size same zero = same zero block other refl refl
pairs f g (block ∷ blocks) (other ∷ others) size same (suc place) =
    pairs f g blocks others (omega (arith, size)) (λ p b o there after. same (suc p) b o there after) place

-- ---- what blocks say

mentions_same : (name new : List ℕ) (f g : List ℕ → Mentions) (said : UserSaid)
    → ((used : List ℕ) → said ≡ imports used → f (renamed_name name new used) ≡ g used)
    → mentions_of f (renamed_user_said name new said) ≡ mentions_of g said
mentions_same name new f g (says n content) h = refl
mentions_same name new f g (imports used) h = h used refl

items_same : (name new : List ℕ) (f g : List ℕ → Mentions) (items others : List ReadUserItem)
    → map (λ (item : ReadUserItem). item.said) others ≡ map (λ (item : ReadUserItem). renamed_user_said name new item.said) items
    → ((used : List ℕ) → Imports items used → f (renamed_name name new used) ≡ g used) → expand_items f others ≡ expand_items g items
unfolding Imports
items_same name new f g [] [] e h = refl
items_same name new f g [] (other ∷ others) e h = absurd cc
items_same name new f g (item ∷ items) [] e h = absurd cc
items_same name new f g (item ∷ items) (other ∷ others) e h =
    let first : other.said ≡ renamed_user_said name new item.said = cc in
    let more : map (λ (i : ReadUserItem). i.said) others ≡ map (λ (i : ReadUserItem). renamed_user_said name new i.said) items = cc in
    let here = ap (mentions_of f) first ∙ mentions_same name new f g item.said (λ used u. h used (inl u)) in
    let later = items_same name new f g items others more (λ used u. h used (inr u)) in
    ap (λ (m : Mentions). both_lists m (expand_items f others)) here ∙ ap (both_lists (mentions_of g item.said)) later

read_at : (texts : List (List ℕ)) (place : ℕ) (text : List ℕ) → slice_get texts place ≡ Some text
    → slice_get (readings texts) place ≡ Some (reading_of_text text)
read_at [] place text e = absurd cc
read_at (x ∷ xs) zero text e = ap (λ (t : List ℕ). Some (reading_of_text t)) (same_Some x text e)
read_at (x ∷ xs) (suc place) text e = read_at xs place text e

-- a rename that is accepted
module _ (blocks others : List (List ℕ)) (at : ℕ) (name new : List ℕ) (a : AreAccepted blocks others at name new) where
  as_many : length others ≡ length blocks
  as_many =
      sym (length-map others reading_of_text) ∙ same_length name new at 0 (readings blocks) (readings others) a.read.renamed ∙ length-map blocks reading_of_text

  broken_same : (place : ℕ) (block other : List ℕ) → slice_get blocks place ≡ Some block → slice_get others place ≡ Some other
      → is_broken (reading_of_text other) ≡ is_broken (reading_of_text block)
  broken_same place block other there after =
      let found = after_at name new at 0 (readings blocks) (readings others) place (reading_of_text block) a.read.renamed (read_at blocks place block there) in
      let is : found.other ≡ reading_of_text other =
      same_Some found.other (reading_of_text other) (sym found.there ∙ read_at others place other after) in
      ap is_broken (sym is) ∙ found.is.broken

  -- blocks before and after it say the same, expanded to that depth
  abbrev SameAt : ℕ → Type 0
  SameAt depth =
      (place : ℕ) (block other : List ℕ) → slice_get blocks place ≡ Some block → slice_get others place ≡ Some other
      → expand others depth other ≡ expand blocks depth block

  led_same : (depth : ℕ) → SameAt depth → (o : Option ℕ) → option_and_then (expand others depth) (option_and_then (slice_get others) o)
      ≡ option_and_then (expand blocks depth) (option_and_then (slice_get blocks) o)
  led_same depth same_at None = refl
  led_same depth same_at (Some place) = pairs (expand others depth) (expand blocks depth) blocks others as_many same_at place

  use_same : (depth : ℕ) → SameAt depth → (used : List ℕ) → owner (readings others) (renamed_name name new used) ≡ owner (readings blocks) used
      → option_and_then (expand others depth) (owner_text others (renamed_name name new used))
      ≡ option_and_then (expand blocks depth) (owner_text blocks used)
  use_same depth same_at used led =
      ap (λ (o : Option ℕ). option_and_then (expand others depth) (option_and_then (slice_get others) o)) led
      ∙ led_same depth same_at (owner (readings blocks) used)

  expand_same : (depth : ℕ) → SameAt depth
  expand_same zero place block other there after = refl
  expand_same (suc depth) place block other there after =
      let here = λ (used : List ℕ). option_and_then (expand others depth) (owner_text others used) in
      let before = λ (used : List ℕ). option_and_then (expand blocks depth) (owner_text blocks used) in
      let uses = λ (used : List ℕ) (i : Imports (user_reading_of_text block).items used). use_same depth (expand_same depth) used
      (uses_lead (readings blocks) (readings others) at name new a.read place (reading_of_text block) used (read_at blocks place block there)
      (imports_use block used i)) in
      ap (λ (b : Bool). cond b None (expand_items here (user_reading_of_text other).items)) (broken_same place block other there after)
      ∙ ap (λ (m : Mentions). cond (is_broken (reading_of_text block)) None m)
      (items_same name new here before (user_reading_of_text block).items (user_reading_of_text other).items (a.user place block other there after) uses)

  expansion_same : (place : ℕ) (block other : List ℕ) → slice_get blocks place ≡ Some block → slice_get others place ≡ Some other
      → expansion others other ≡ expansion blocks block
  expansion_same place block other there after =
      ap (λ (n : ℕ). expand others (suc n) other) as_many ∙ expand_same (suc (length blocks)) place block other there after

pub users_say : BlocksSayOfUsersWhatTheyDid
users_say blocks others at name new a place block other there after = expansion_same blocks others at name new a place block other there after

pub user_values : UserValuesStay
user_values blocks others at name new a place capability =
    ap (λ (o : Option (List UserMention)). option_and_then (λ mentions. without_cancel (first_said mentions capability)) o)
    (pairs (expansion others) (expansion blocks) blocks others (as_many blocks others at name new a) (expansion_same blocks others at name new a) place)
