-- The faults of the items of a block are found at the items of their ordinals.
use Rattle.std.proofs.Common.{◌≡◌, ◌&&◌, ℕ, Bool, true, false, cond, All, List, [], ◌∷◌, ◌++◌, Option, None, Some, map, refl, sym, ap, ◌∙◌, inl, inr}
use Rattle.std.specs.List.{filter}
use Rattle.std.specs.Option.{is_some, option_map, option_map_or}
use Rattle.std.specs.Prelude.{nat_eq}
use Rattle.std.specs.Str.{bytes_eq}
use Rattle.std.proofs.lemmas.Bool.{and_cases, and_from, and_left, and_parts, and_right, cases_Bool, eq-eqb, false≢true, or_left, true≢false}
use Rattle.std.proofs.lemmas.List.{append_assoc}
use Rattle.std.proofs.lemmas.List.Elements.{All-head, All-nil, All-push, All-tail}
use Rattle.std.proofs.lemmas.Slice.Eq.{bytes_eq-Decides}
use Rattle.ti_source.specs.Code.{label_of}
use Rattle.ti_source.specs.declared.code.Code.{Code}
use Rattle.ti_source.specs.declared.code.Code.TheVariants as code
use Rattle.ti_source.specs.Parsing.{reading_of_text}
use Rattle.ti_source.specs.Reading.{ReadFault}
use Rattle.source_spans.specs.Faulty.{Search, find, find_sought, first_and_rest, found_fault, is_code, is_fault, item_part, ordinal_and_faults, parts_from, search_of}
use Rattle.source_spans.specs.Found.{FaultsAreOfTheirItems, is_item_code, is_of_item, sought_read}
use Rattle.source_spans.specs.declared.parts.Part.{Part}

-- ---- a fault of an item is not taken for another

at_items : (read : Code) → is_code read code.BadNumber ≡ false → is_code read code.NumberTooLarge ≡ false → is_code read code.BadString ≡ false
    → is_code read code.UnknownCapability ≡ false → is_code read code.WrongKind ≡ false → is_code read code.UnknownEscape ≡ false
    → (c : Code) → is_item_code c ≡ true → is_code read c ≡ false
at_items read one two three four five six code.BadNumber sure = one
at_items read one two three four five six code.NumberTooLarge sure = two
at_items read one two three four five six code.BadString sure = three
at_items read one two three four five six code.UnknownCapability sure = four
at_items read one two three four five six code.WrongKind sure = five
at_items read one two three four five six code.UnknownEscape sure = six
at_items read one two three four five six _ sure = absurd (false≢true sure)

other_code : (read c : Code) → is_item_code read ≡ false → is_item_code c ≡ true → is_code read c ≡ false
other_code code.BadHeader c never sure = at_items code.BadHeader refl refl refl refl refl refl c sure
other_code code.NamesTooLong c never sure = at_items code.NamesTooLong refl refl refl refl refl refl c sure
other_code code.MissingUse c never sure = at_items code.MissingUse refl refl refl refl refl refl c sure
other_code code.Circular c never sure = at_items code.Circular refl refl refl refl refl refl c sure
other_code code.Unresolved c never sure = at_items code.Unresolved refl refl refl refl refl refl c sure
other_code code.TooLarge c never sure = at_items code.TooLarge refl refl refl refl refl refl c sure
other_code code.DuplicateName c never sure = at_items code.DuplicateName refl refl refl refl refl refl c sure
other_code _ c never sure = absurd (true≢false never)

no_name : (detail : Option (List ℕ)) (name : List ℕ) → is_some detail ≡ false → option_map_or (λ d. bytes_eq d name) detail false ≡ false
no_name None name never = refl
no_name (Some d) name never = absurd (true≢false never)

abbrev IsOther : ReadFault → Type 0
IsOther fault = is_of_item fault ≡ false

passed : (line : ℕ) (c : Code) (name : List ℕ) (fault : ReadFault) → IsOther fault → is_item_code c ≡ true → is_fault line c name fault ≡ false
passed line c name fault never sure =
    elim (and_cases (is_item_code fault.code) (is_some fault.detail) never) [
      | inl other ↦
          and_left (nat_eq fault.line line && is_code fault.code c) (option_map_or (λ d. bytes_eq d name) fault.detail false)
          (and_right (nat_eq fault.line line) (is_code fault.code c) (other_code fault.code c other sure))
      | inr none ↦
          and_right (nat_eq fault.line line && is_code fault.code c) (option_map_or (λ d. bytes_eq d name) fault.detail false)
          (no_name fault.detail name none)
    ]

all_passed : (line : ℕ) (c : Code) (name : List ℕ) (others faults : List ReadFault) → All IsOther others → is_item_code c ≡ true
    → first_and_rest (is_fault line c name) (others ++ faults) ≡ first_and_rest (is_fault line c name) faults
all_passed line c name [] faults all sure = refl
all_passed line c name (g ∷ gs) faults all sure =
    ap (λ (b : Bool). cond b (Some (g, gs ++ faults)) (first_and_rest (is_fault line c name) (gs ++ faults)))
    (passed line c name g (All-head IsOther g gs all) sure)
    ∙ all_passed line c name gs faults (All-tail IsOther g gs all) sure

-- ---- a fault of an item is found

has_name : (detail : Option (List ℕ)) → is_some detail ≡ true → (name : List ℕ) × (detail ≡ Some name)
has_name None sure = absurd (false≢true sure)
has_name (Some name) sure = (name, refl)

is_itself : (fault : ReadFault) (name : List ℕ) → fault.detail ≡ Some name → is_fault fault.line fault.code name fault ≡ true
is_itself fault name is =
    and_from (nat_eq fault.line fault.line && is_code fault.code fault.code) (option_map_or (λ d. bytes_eq d name) fault.detail false)
    (and_from (nat_eq fault.line fault.line) (is_code fault.code fault.code) (eq-eqb fault.line fault.line refl)
    (or_left (bytes_eq (label_of fault.code) (label_of fault.code)) (bytes_eq (label_of fault.code) (label_of code.UnknownCapability))
    ((bytes_eq-Decides (label_of fault.code) (label_of fault.code)).1 refl)))
    (ap (λ (detail : Option (List ℕ)). option_map_or (λ d. bytes_eq d name) detail false) is ∙ (bytes_eq-Decides name name).1 refl)

by_name : (s : Search) (line : ℕ) (c : Code) (name : List ℕ) → is_item_code c ≡ true
    → find s line c (Some name) ≡ found_fault s (option_map ordinal_and_faults (first_and_rest (is_fault line c name) s.faults))
by_name s line code.BadNumber name sure = refl
by_name s line code.NumberTooLarge name sure = refl
by_name s line code.BadString name sure = refl
by_name s line code.UnknownCapability name sure = refl
by_name s line code.WrongKind name sure = refl
by_name s line code.UnknownEscape name sure = refl
by_name s line _ name sure = absurd (false≢true sure)

-- a search with these faults left
abbrev with_faults : Search → List ReadFault → Search
with_faults s faults = record { head = s.head; first = s.first; items = s.items; names = s.names; faults = faults; uses = s.uses }

found_next : (s : Search) (others faults : List ReadFault) (fault : ReadFault) → All IsOther others → is_of_item fault ≡ true
    → find_sought (with_faults s (others ++ fault ∷ faults)) (sought_read fault) ≡ (item_part s fault.ordinal, with_faults s faults)
found_next s others faults fault all sure =
    let both = and_parts (is_item_code fault.code) (is_some fault.detail) sure in
    let (name, is) = has_name fault.detail both.1 in
    let t = with_faults s (others ++ fault ∷ faults) in
    let next : first_and_rest (is_fault fault.line fault.code name) (others ++ fault ∷ faults) ≡ Some (fault, faults) =
    all_passed fault.line fault.code name others (fault ∷ faults) all both.0
    ∙ ap (λ (b : Bool). cond b (Some (fault, faults)) (first_and_rest (is_fault fault.line fault.code name) faults)) (is_itself fault name is) in
    ap (λ (detail : Option (List ℕ)). find t fault.line fault.code detail) is ∙ by_name t fault.line fault.code name both.0
    ∙ ap (λ (o : Option (ReadFault × List ReadFault)). found_fault t (option_map ordinal_and_faults o)) next

-- the parts found for faults, from what is found for the first
abbrev from_first : List ReadFault → Option Part × Search → List (Option Part)
from_first faults found = found.0 ∷ parts_from found.1 (map sought_read faults)

all_found : (s : Search) (others faults : List ReadFault) → All IsOther others
    → parts_from (with_faults s (others ++ faults)) (map sought_read (filter is_of_item faults))
    ≡ map (λ (fault : ReadFault). item_part s fault.ordinal) (filter is_of_item faults)
all_found s others [] all = refl
all_found s others (fault ∷ faults) all =
    let left = filter is_of_item faults in
    let t = with_faults s (others ++ fault ∷ faults) in
    elim (cases_Bool (is_of_item fault)) [
      | inl sure ↦
          let kept : filter is_of_item (fault ∷ faults) ≡ fault ∷ left = ap (λ (b : Bool). cond b (fault ∷ left) left) sure in
          ap (λ (fs : List ReadFault). parts_from t (map sought_read fs)) kept
          ∙ ap (from_first left) (found_next s others faults fault all sure)
          ∙ ap (λ (parts : List (Option Part)). item_part s fault.ordinal ∷ parts) (all_found s [] faults (All-nil IsOther))
          ∙ sym (ap (map (λ (f : ReadFault). item_part s f.ordinal)) kept)
      | inr never ↦
          let kept : filter is_of_item (fault ∷ faults) ≡ left = ap (λ (b : Bool). cond b (fault ∷ left) left) never in
          ap (λ (fs : List ReadFault). parts_from t (map sought_read fs)) kept
          ∙ ap (λ (fs : List ReadFault). parts_from (with_faults s fs) (map sought_read left)) (sym (append_assoc others (fault ∷ []) faults))
          ∙ all_found s (others ++ fault ∷ []) faults (All-push IsOther others fault all never)
          ∙ sym (ap (map (λ (f : ReadFault). item_part s f.ordinal)) kept)
    ]

pub faults_found : FaultsAreOfTheirItems
faults_found block = all_found (search_of block) [] (reading_of_text block).faults (All-nil IsOther)
