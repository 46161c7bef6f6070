-- What is known of every block as far as user-defined capabilities go.
use Rattle.std.proofs.Common.{◌≡◌, ℕ, ◌+◌, Bool, true, false, List, [], ◌∷◌, ◌++◌, map, Option, Some, None, Result, Ok, Err, refl, cond}
use Rattle.std.specs.List.{AllByRecursion}
use Rattle.std.proofs.lemmas.List.Elements.{All-from_recursion, recursion_from_All}
use Rattle.ti_spelling.specs.declared.spelling.UnescapeError.{UnescapeError}
use Rattle.ti_spelling.specs.Spelling.{SpellsAs, ValuesAreSound}
use Rattle.ti_spelling.specs.declared.numbers.NumberError.{NumberError}
use Rattle.ti_source.specs.Folding.{PlacedByte}
use Rattle.ti_source.specs.Items.{Claim, Statement, piece_of, without_outer_space}
use Rattle.ti_source.specs.Stating.{statement_of}
use Rattle.ti_source.specs.Judging.{items_at, items_from, faults_at, faults_from, header_faults}
use Rattle.ti_spelling.specs.Numbers.{ReadsAs}
use Rattle.ti_source.specs.Parsing.{reading_of_text}
use Rattle.ti_source.specs.Reading.{ReadItem, ReadFault}
use Rattle.ti_source.specs.Sound.{EachIsWellRead, IsLineOf}
use Rattle.ti_source.specs.Verdicts.{Verdict, accepted, accepted_odd, refused, items_by as items_by_there, faults_by as faults_by_there, claimed_text}
use Rattle.ti_source.specs.Verdicts.{is_import, ReadClaim, IsReadAs, flag_read, number_read_as, text_read_as, cancel_read}
use Rattle.ti_source.specs.inside.Header.{header_names}
use Rattle.ti_source.specs.inside.Parsing.{block_field, judged_as as judged_as_there, judged_of as judged_there}
use Rattle.ti_source.specs.Walking.{block_items}
use Rattle.ti_source.specs.inside.Verdicts.{read_claim, verdict_of as verdict_there}
use Rattle.ti_source.proofs.JudgingLaws.{is_read}
use Rattle.user_items.specs.Names.{is_user_defined_name}
use Rattle.user_items.specs.Verdicts.{UserVerdict, user_accepted, user_odd, user_refused, imports, number_verdict, text_verdict, defining_verdict}
use Rattle.user_items.specs.Reading.{ReadUserItem, ReadUserFault, UserJudged, items_at as user_items_at, faults_at as user_faults_at}
use Rattle.user_items.specs.Reading.{items_from as user_items_from, faults_from as user_faults_from, items_by, faults_by}
use Rattle.user_items.specs.Sound.{IsSoundItem, EachUserReadingIsSound}
use Rattle.user_items.specs.inside.Computed.{judged_with, judged_as, judged_of}
use Rattle.user_items.specs.Parsing.{user_reading_of_text}

-- ---- what a verdict accepts

abbrev IsSoundVerdict : UserVerdict → Type 0
IsSoundVerdict (user_accepted said) = IsSoundItem said
IsSoundVerdict (user_odd said) = IsSoundItem said
IsSoundVerdict user_refused = Unit {0}

sound_number : (name text : List ℕ) (read : Result ℕ NumberError) → is_user_defined_name name ≡ true → ReadsAs text read
    → IsSoundVerdict (number_verdict name read)
sound_number name text (Ok n) u read = (u, read.1)
sound_number name text (Err cause) u read = tt

sound_text : ValuesAreSound → (name raw : List ℕ) (found : Result (List ℕ × Bool) UnescapeError) → is_user_defined_name name ≡ true → SpellsAs raw found
    → IsSoundVerdict (text_verdict name found)
sound_text sound name raw (Ok (text, true)) u spells = (u, (sound raw text true spells).no_nul)
sound_text sound name raw (Ok (text, false)) u spells = (u, (sound raw text false spells).no_nul)
sound_text sound name raw (Err cause) u spells = tt

sound_claim : ValuesAreSound → (name : List ℕ) (claim : Claim) (read : ReadClaim) → is_user_defined_name name ≡ true → IsReadAs claim read
    → IsSoundVerdict (defining_verdict name read)
sound_claim sound name _ _ u flag_read = (u, tt)
sound_claim sound name _ _ u (number_read_as {text = text} {read = read} reads) = sound_number name text read u reads
sound_claim sound name _ _ u (text_read_as {value = value} {found = found} spells) = sound_text sound name value found u spells
sound_claim sound name _ _ u cancel_read = (u, tt)

-- ---- each item, and what it needs of its line

-- what an item that states this needs of its line
abbrev LineIf : (ℕ → Type 0) → ℕ → Option Statement → Type 0
LineIf Q line None = Unit {0}
LineIf Q line (Some s) = Q line

abbrev IsSoundAt : (ℕ → Type 0) → ReadUserItem → Type 0
IsSoundAt Q i = IsSoundItem i.said × Q i.line

abbrev IsFaultAt : (ℕ → Type 0) → ReadUserFault → Type 0
IsFaultAt Q f = (is_user_defined_name f.name ≡ true) × Q f.line

abbrev AreSoundAt : (ℕ → Type 0) → ℕ → Option UserJudged → Type 0
AreSoundAt Q n o = AllByRecursion (IsSoundAt Q) (user_items_at n o) × AllByRecursion (IsFaultAt Q) (user_faults_at n o)

by_verdict : (Q : ℕ → Type 0) (n line : ℕ) (name : List ℕ) (v : UserVerdict) → Q line → is_user_defined_name name ≡ true → IsSoundVerdict v
    → AllByRecursion (IsSoundAt Q) (items_by n line v) × AllByRecursion (IsFaultAt Q) (faults_by n line name v)
by_verdict Q n line name (user_accepted said) q u sound = (((sound, q), tt), tt)
by_verdict Q n line name (user_odd said) q u sound = (((sound, q), tt), ((u, q), tt))
by_verdict Q n line name user_refused q u sound = (tt, ((u, q), tt))

under_name : ValuesAreSound → (Q : ℕ → Type 0) (n line : ℕ) (name : List ℕ) (claim : Claim) → Q line → (b : Bool) → is_user_defined_name name ≡ b
    → AreSoundAt Q n (judged_with line name (cond b (Some (defining_verdict name (read_claim claim))) None))
under_name sound Q n line name claim q true u =
    by_verdict Q n line name (defining_verdict name (read_claim claim)) q u (sound_claim sound name claim (read_claim claim) u (is_read claim))
under_name sound Q n line name claim q false u = (tt, tt)

under_import : ValuesAreSound → (Q : ℕ → Type 0) (n line : ℕ) (name : List ℕ) (claim : Claim) → Q line → (b : Bool)
    → AreSoundAt Q n (judged_with line name (cond b (Some (user_accepted (imports (without_outer_space (claimed_text claim)))))
    (cond (is_user_defined_name name) (Some (defining_verdict name (read_claim claim))) None)))
under_import sound Q n line name claim q true = (((tt, q), tt), tt)
under_import sound Q n line name claim q false = under_name sound Q n line name claim q (is_user_defined_name name) refl

stated : ValuesAreSound → (Q : ℕ → Type 0) (n line : ℕ) (o : Option Statement) → LineIf Q line o → AreSoundAt Q n (judged_as line o)
stated sound Q n line None q = (tt, tt)
stated sound Q n line (Some s) q = under_import sound Q n line s.name s.claim q (is_import s.name s.claim)

-- ---- all of them

AllByRecursion-append : {A : Type 0} (P : A → Type 0) (xs ys : List A) → AllByRecursion P xs → AllByRecursion P ys → AllByRecursion P (xs ++ ys)
AllByRecursion-append P [] ys p q = q
AllByRecursion-append P (x ∷ xs) ys p q = (p.0, AllByRecursion-append P xs ys p.1 q)

AllByRecursion-parts : {A : Type 0} (P : A → Type 0) (xs ys : List A) → AllByRecursion P (xs ++ ys) → AllByRecursion P xs × AllByRecursion P ys
AllByRecursion-parts P [] ys p = (tt, p)
AllByRecursion-parts P (x ∷ xs) ys p = let later = AllByRecursion-parts P xs ys p.1 in ((p.0, later.0), later.1)

AllByRecursion-weaker : {A : Type 0} (P Q : A → Type 0) → ((x : A) → P x → Q x) → (xs : List A) → AllByRecursion P xs → AllByRecursion Q xs
AllByRecursion-weaker P Q w [] all = tt
AllByRecursion-weaker P Q w (x ∷ xs) all = (w x all.0, AllByRecursion-weaker P Q w xs all.1)

-- an item that states something has such a line
abbrev HasLine : (ℕ → Type 0) → List PlacedByte → Type 0
HasLine Q item = LineIf Q (piece_of item).line (statement_of (piece_of item).text)

all_sound : ValuesAreSound → (Q : ℕ → Type 0) (n : ℕ) (items : List (List PlacedByte)) → AllByRecursion (HasLine Q) items
    → AllByRecursion (IsSoundAt Q) (user_items_from n (map judged_of items)) × AllByRecursion (IsFaultAt Q) (user_faults_from n (map judged_of items))
all_sound sound Q n [] lines = (tt, tt)
all_sound sound Q n (item ∷ items) lines =
    let here = stated sound Q n (piece_of item).line (statement_of (piece_of item).text) lines.0 in
    let later = all_sound sound Q (n + 1) items lines.1 in (
      AllByRecursion-append (IsSoundAt Q) (user_items_at n (judged_of item)) (user_items_from (n + 1) (map judged_of items)) here.0 later.0,
      AllByRecursion-append (IsFaultAt Q) (user_faults_at n (judged_of item)) (user_faults_from (n + 1) (map judged_of items)) here.1 later.1,
    )

-- ---- the lines: those of the items and faults of the block

line_by : (Q : ℕ → Type 0) (n line : ℕ) (name : List ℕ) (v : Verdict) → AllByRecursion (λ (i : ReadItem). Q i.line) (items_by_there n line v)
    → AllByRecursion (λ (f : ReadFault). Q f.line) (faults_by_there n line name v) → Q line
line_by Q n line name (accepted said) items faults = items.0
line_by Q n line name (accepted_odd said) items faults = items.0
line_by Q n line name (refused code) items faults = faults.0

line_if : (Q : ℕ → Type 0) (n line : ℕ) (o : Option Statement) → AllByRecursion (λ (i : ReadItem). Q i.line) (items_at n (judged_as_there line o))
    → AllByRecursion (λ (f : ReadFault). Q f.line) (faults_at n (judged_as_there line o)) → LineIf Q line o
line_if Q n line None items faults = tt
line_if Q n line (Some s) items faults = line_by Q n line s.name (verdict_there s.name s.claim) items faults

all_lines : (Q : ℕ → Type 0) (n : ℕ) (items : List (List PlacedByte)) → AllByRecursion (λ (i : ReadItem). Q i.line) (items_from n (map judged_there items))
    → AllByRecursion (λ (f : ReadFault). Q f.line) (faults_from n (map judged_there items)) → AllByRecursion (HasLine Q) items
all_lines Q n [] read faults = tt
all_lines Q n (item ∷ items) read faults =
    let r = AllByRecursion-parts (λ (i : ReadItem). Q i.line) (items_at n (judged_there item)) (items_from (n + 1) (map judged_there items)) read in
    let f = AllByRecursion-parts (λ (f : ReadFault). Q f.line) (faults_at n (judged_there item)) (faults_from (n + 1) (map judged_there items)) faults in
    (line_if Q n (piece_of item).line (statement_of (piece_of item).text) r.0 f.0, all_lines Q (n + 1) items r.1 f.1)

pub sound_readings : ValuesAreSound → EachIsWellRead → EachUserReadingIsSound
unfolding reading_of_text user_reading_of_text
sound_readings sound well block one =
    let Q : ℕ → Type 0 = IsLineOf block in
    let items = block_items block in
    let field = block_field block in
    let header = header_faults field (header_names field) in
    let there = faults_from 0 (map judged_there items) in
    let read : AllByRecursion (λ (i : ReadItem). Q i.line) (items_from 0 (map judged_there items)) =
    recursion_from_All (λ (i : ReadItem). Q i.line) (items_from 0 (map judged_there items)) (well block one).item_lines in
    let faults = AllByRecursion-parts (λ (f : ReadFault). Q f.line) header there
    (recursion_from_All (λ (f : ReadFault). Q f.line) (header ++ there) (well block one).fault_lines) in
    let all = all_sound sound Q 0 items (all_lines Q 0 items read faults.1) in
    let i = user_items_from 0 (map judged_of items) in
    let f = user_faults_from 0 (map judged_of items) in
    record {
      items = All-from_recursion (λ (i : ReadUserItem). IsSoundItem i.said) i
          (AllByRecursion-weaker (IsSoundAt Q) (λ (i : ReadUserItem). IsSoundItem i.said) (λ i h. h.0) i all.0);
      faults = All-from_recursion (λ (f : ReadUserFault). is_user_defined_name f.name ≡ true) f
          (AllByRecursion-weaker (IsFaultAt Q) (λ (f : ReadUserFault). is_user_defined_name f.name ≡ true) (λ f h. h.0) f all.1);
      item_lines =
          All-from_recursion (λ (i : ReadUserItem). Q i.line) i (AllByRecursion-weaker (IsSoundAt Q) (λ (i : ReadUserItem). Q i.line) (λ i h. h.1) i all.0);
      fault_lines = All-from_recursion (λ (f : ReadUserFault). Q f.line) f
          (AllByRecursion-weaker (IsFaultAt Q) (λ (f : ReadUserFault). Q f.line) (λ f h. h.1) f all.1);
    }
