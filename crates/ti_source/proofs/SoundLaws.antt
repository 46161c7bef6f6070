-- What is known of every block that is read.
use Rattle.std.specs.Option.{option_or}
use Rattle.std.proofs.Common.{◌≡◌, ◌≢◌, ℕ, suc, ◌+◌, ◌<◌, ◌≤◌, Bool, true, false, ◌==◌, ◌||◌, ◌&&◌, List, [], ◌∷◌, ◌++◌, length, cond, Option, Some, None}
use Rattle.std.proofs.Common.{option_map, map, Result, Ok, Err, All, nat_lt, refl, sym, subst, ◌∙◌, inl, inr, arith}
use Rattle.std.specs.List.{list_any, AllByRecursion}
use Rattle.std.proofs.lemmas.Bool.{cases_Bool, ltb-false}
use Rattle.std.specs.Str.{bytes_eq}
use Rattle.std.proofs.lemmas.List.{get_or_default}
use Rattle.std.proofs.lemmas.List.Folds.{list_any-append}
use Rattle.std.proofs.lemmas.List.Elements.{All-nil, All-from_recursion}
use Rattle.ti_caps.specs.Tables.{Capability, IsCapability, capability, capability_named, names, count_of, place_of, named_in}
use Rattle.ti_caps.specs.declared.capability.Kind.{Kind}
use Rattle.ti_caps.specs.declared.capability.Kind.TheVariants as kind
use Rattle.ti_source.specs.declared.code.Code.TheVariants as code
use Rattle.ti_source.specs.declared.items.Escape.{Escape}
use Rattle.ti_source.specs.declared.items.Escape.TheVariants as escape
use Rattle.ti_spelling.specs.declared.numbers.NumberError.{NumberError}
use Rattle.ti_spelling.specs.declared.numbers.NumberError.TheVariants.{Bad, TooLarge}
use Rattle.ti_spelling.specs.declared.spelling.UnescapeError.{UnescapeError}
use Rattle.ti_text.specs.WhiteSpace.{is_white_space}
use Rattle.ti_source.specs.Cutting.{last_byte}
use Rattle.ti_text.specs.Lines.{line_count}
use Rattle.ti_source.specs.Code.{is_error, is_of_header}
use Rattle.ti_source.specs.Header.{ReadsNames, IsLookupName}
use Rattle.ti_source.specs.inside.Header.{header_names}
use Rattle.ti_spelling.specs.Numbers.{ReadsAs}
use Rattle.ti_spelling.specs.Spelling.{SpellsAs, ValuesAreSound}
use Rattle.ti_source.specs.Folding.{PlacedByte}
use Rattle.ti_source.specs.inside.Folding.{bytes_on_lines, in_comment, without_comments, without_breaks, folding_of}
use Rattle.ti_source.specs.Items.{Claim, Statement, bytes, without_front, line_of, piece_of}
use Rattle.ti_source.specs.inside.Items.{after_field, escape_after, cuts, with_first, items_of}
use Rattle.ti_source.specs.Stating.{statement_of}
use Rattle.ti_source.specs.Reading.{ReadItem, ReadFault}
use Rattle.ti_source.specs.Judging.{Judged, items_at, faults_at, items_from, faults_from, names_found, header_faults}
use Rattle.ti_source.specs.Parsing.{reading_of_text}
use Rattle.ti_source.specs.inside.Parsing.{judged_as, judged_of, block_field}
use Rattle.ti_source.specs.Walking.{block_items}
use Rattle.ti_source.specs.inside.Verdicts.{read_claim, verdict_of}
use Rattle.ti_text.specs.Limits.{names_max}
use Rattle.ti_source.specs.Verdicts.{Verdict, accepted, accepted_odd, refused, is_import, ReadClaim, IsReadAs, flag_read, number_read_as, text_read_as}
use Rattle.ti_source.specs.Verdicts.{cancel_read, number_verdict, text_verdict, fitting_verdict, named_verdict, items_by, faults_by, header_fault}
use Rattle.ti_source.specs.Sound.{SetsItsKind, IsLineOf, IsWritable, IsRising, EachIsWellRead}
use Rattle.ti_text.proofs.LineLaws.{lines_add}
use Rattle.ti_source.proofs.HeaderLemmas.{each_header}
use Rattle.ti_source.proofs.JudgingLaws.{is_read}

-- what holds of each of two lists holds of the joined list
AllByRecursion-append : {A : Type 0} (P : A → Type 0) (xs ys : List A) → AllByRecursion P xs → AllByRecursion P ys → AllByRecursion P (xs ++ ys)
AllByRecursion-append P [] ys p q = q
AllByRecursion-append P (x ∷ xs) ys p q = (p.0, AllByRecursion-append P xs ys p.1 q)

-- ---- what a statement sets

-- a name in the tables is that of a capability
abbrev pub NamedIsCapability : Type 0
NamedIsCapability = (name : List ℕ) (c : Capability) → capability_named name ≡ Some c → IsCapability c

-- an accepted statement sets the kind of its capability
abbrev SetsBy : Verdict → Type 0
SetsBy (accepted said) = SetsItsKind said
SetsBy (accepted_odd said) = SetsItsKind said
SetsBy (refused code) = is_of_header code ≡ false

number_sets : (c : Capability) (text : List ℕ) (read : Result ℕ NumberError) → IsCapability c → c.kind ≡ kind.Number → ReadsAs text read
    → SetsBy (number_verdict c read)
number_sets c text (Ok n) valid is read = (valid, is, read.1)
number_sets c text (Err Bad) valid is read = refl
number_sets c text (Err TooLarge) valid is read = refl

text_sets : ValuesAreSound → (c : Capability) (raw : List ℕ) (found : Result (List ℕ × Bool) UnescapeError) → IsCapability c → c.kind ≡ kind.Text
    → SpellsAs raw found → SetsBy (text_verdict c found)
text_sets sound c raw (Ok (text, true)) valid is spells = (valid, is, (sound raw text true spells).no_nul)
text_sets sound c raw (Ok (text, false)) valid is spells = (valid, is, (sound raw text false spells).no_nul)
text_sets sound c raw (Err cause) valid is spells = refl

fitting_sets : ValuesAreSound → (c : Capability) (claim : Claim) (read : ReadClaim) (k : Kind) → IsReadAs claim read → IsCapability c → c.kind ≡ k
    → SetsBy (fitting_verdict c read k)
fitting_sets sound c _ _ kind.Flag flag_read valid is = (valid, is)
fitting_sets sound c _ _ kind.Number flag_read valid is = refl
fitting_sets sound c _ _ kind.Text flag_read valid is = refl
fitting_sets sound c _ _ kind.Flag (number_read_as reads) valid is = refl
fitting_sets sound c _ _ kind.Number (number_read_as {text = text} {read = read} reads) valid is = number_sets c text read valid is reads
fitting_sets sound c _ _ kind.Text (number_read_as reads) valid is = refl
fitting_sets sound c _ _ kind.Flag (text_read_as spells) valid is = refl
fitting_sets sound c _ _ kind.Number (text_read_as spells) valid is = refl
fitting_sets sound c _ _ kind.Text (text_read_as {value = value} {found = found} spells) valid is = text_sets sound c value found valid is spells
fitting_sets sound c _ _ k cancel_read valid is = valid

named_sets : NamedIsCapability → ValuesAreSound → (name : List ℕ) (claim : Claim) (o : Option Capability) → capability_named name ≡ o
    → SetsBy (named_verdict (read_claim claim) o)
named_sets valid sound name claim None e = refl
named_sets valid sound name claim (Some c) e = fitting_sets sound c claim (read_claim claim) c.kind (is_read claim) (valid name c e) refl

verdict_sets : NamedIsCapability → ValuesAreSound → (name : List ℕ) (claim : Claim) → SetsBy (verdict_of name claim)
verdict_sets valid sound name claim =
    elim (cases_Bool (is_import name claim)) [
      | inl t ↦ rw t tt
      | inr f ↦ rw f (named_sets valid sound name claim (capability_named name) refl)
    ]

abbrev Sets : ReadItem → Type 0
Sets i = SetsItsKind i.said

items_by-sets : (n line : ℕ) (v : Verdict) → SetsBy v → AllByRecursion Sets (items_by n line v)
items_by-sets n line (accepted said) sets = (sets, tt)
items_by-sets n line (accepted_odd said) sets = (sets, tt)
items_by-sets n line (refused code) sets = tt

judged_as-sets : NamedIsCapability → ValuesAreSound → (n line : ℕ) (o : Option Statement) → AllByRecursion Sets (items_at n (judged_as line o))
judged_as-sets valid sound n line None = tt
judged_as-sets valid sound n line (Some s) = items_by-sets n line (verdict_of s.name s.claim) (verdict_sets valid sound s.name s.claim)

items_from-sets : NamedIsCapability → ValuesAreSound → (n : ℕ) (items : List (List PlacedByte)) → AllByRecursion Sets (items_from n (map judged_of items))
items_from-sets valid sound n [] = tt
items_from-sets valid sound n (item ∷ items) =
    let p = piece_of item in
    AllByRecursion-append Sets (items_at n (judged_of item)) (items_from (n + 1) (map judged_of items))
    (judged_as-sets valid sound n p.line (statement_of p.text)) (items_from-sets valid sound (n + 1) items)

-- ---- the lines of items

-- what holds of the bytes of a text holds of those that are left of it

module _ (P : PlacedByte → Type 0) where
  without_comments-all : (comment : Bool) (before : ℕ) (s : List PlacedByte) → AllByRecursion P s → AllByRecursion P (without_comments comment before s)
  without_comments-all comment before [] all = tt
  without_comments-all comment before (x ∷ xs) all =
      let kept = without_comments-all false x.0 xs all.1 in
      let left_out = without_comments-all true x.0 xs all.1 in
      elim (in_comment comment before x.0) as (λ b. AllByRecursion P (cond b (without_comments true x.0 xs) (x ∷ without_comments false x.0 xs))) [
        | true ↦
            left_out
        | false ↦ (all.0, kept)
      ]

  joined-all : (joining : Bool) (s : List PlacedByte) → AllByRecursion P s → AllByRecursion P (without_breaks joining s)
  joined-all joining [] all = tt
  joined-all joining (x ∷ xs) all =
      let kept = joined-all false xs all.1 in
      let left_out = joined-all true xs all.1 in
      elim (x.0 == 10 || (joining && is_white_space x.0)) as (λ b. AllByRecursion P (cond b (without_breaks true xs) (x ∷ without_breaks false xs))) [
        | true
            ↦ left_out
        | false ↦ (all.0, kept)
      ]

  after_field-all : (s : List PlacedByte) → AllByRecursion P s → AllByRecursion P (after_field s)
  after_field-all [] all = tt
  after_field-all (x ∷ xs) all =
      let later = after_field-all xs all.1 in
      elim (x.0 == 44) as (λ b. AllByRecursion P (cond b xs (after_field xs))) [ true ↦ all.1 | false ↦ later ]

  with_first-all : (x : PlacedByte) (items : List (List PlacedByte)) → P x → AllByRecursion (AllByRecursion P) items
      → AllByRecursion (AllByRecursion P) (with_first x items)
  with_first-all x [] p all = ((p, tt), tt)
  with_first-all x (item ∷ items) p all = ((p, all.0), all.1)

  items_of-all : (by : Escape) (before : ℕ) (s : List PlacedByte) → AllByRecursion P s → AllByRecursion (AllByRecursion P) (items_of by before s)
  items_of-all by before [] all = (tt, tt)
  items_of-all by before (x ∷ xs) all =
      let cut = items_of-all escape.Nothing 44 xs all.1 in
      let plain = with_first-all x (items_of (escape_after by before x.0) x.0 xs) all.0 (items_of-all (escape_after by before x.0) x.0 xs all.1) in
      elim (cuts by x.0) as (λ b. AllByRecursion (AllByRecursion P)
      (cond b ([] ∷ items_of escape.Nothing 44 xs) (with_first x (items_of (escape_after by before x.0) x.0 xs)))) [ true ↦ (tt, cut) | false ↦ plain ]

  without_front-all : (s : List PlacedByte) → AllByRecursion P s → AllByRecursion P (without_front s)
  without_front-all [] all = tt
  without_front-all (x ∷ xs) all =
      let later = without_front-all xs all.1 in
      elim (is_white_space x.0) as (λ b. AllByRecursion P (cond b (without_front xs) (x ∷ xs))) [ true ↦ later | false ↦ all ]

-- the newline that ends a text is one of its newlines
some_line : (before x : ℕ) (xs : List ℕ) → last_byte before (x ∷ xs) ≡ 10 → 1 ≤ line_count (x ∷ xs)
some_line before x [] ends = rw ends (omega arith)
some_line before x (y ∷ ys) ends = omega (arith, lines_add (x ∷ []) (y ∷ ys), some_line x y ys ends)

last_byte-tail : (x : ℕ) (xs : List ℕ) → last_byte x xs ≡ 10 → last_byte 10 xs ≡ 10
last_byte-tail x [] ends = refl
last_byte-tail x (y ∷ ys) ends = ends

abbrev IsBetween : ℕ → ℕ → ℕ → Type 0
IsBetween low high line = (low ≤ line) × (line < high)

-- the lines of a text that begins on a line
placed-between : (low high line : ℕ) (s : List ℕ) → low ≤ line → last_byte 10 s ≡ 10 → line + line_count s ≤ high
    → AllByRecursion (λ x. IsBetween low high x.1) (bytes_on_lines line s)
placed-between low high line [] h ends fits = tt
placed-between low high line (x ∷ xs) h ends fits =
    let one = some_line 10 x xs ends in
    let more = lines_add (x ∷ []) xs in
    let tail = last_byte-tail x xs ends in (
      (h, omega arith),
      elim (x == 10) as (λ b. line_count (x ∷ xs) ≡ cond b 1 0 + line_count xs
          → AllByRecursion (λ x. IsBetween low high x.1) (bytes_on_lines (cond b (line + 1) line) xs)) [
            | true ↦ λ e. placed-between low high (line + 1) xs (omega arith) tail (omega arith)
            | false ↦ λ e. placed-between low high line xs h tail (omega arith)
          ] (omega arith),
    )

-- each item lies on such a line
items_by-lines : (Q : ℕ → Type 0) (n line : ℕ) (v : Verdict) → Q line → AllByRecursion (λ (i : ReadItem). Q i.line) (items_by n line v)
items_by-lines Q n line (accepted said) q = (q, tt)
items_by-lines Q n line (accepted_odd said) q = (q, tt)
items_by-lines Q n line (refused code) q = tt

faults_by-lines : (Q : ℕ → Type 0) (n line : ℕ) (name : List ℕ) (v : Verdict) → Q line → AllByRecursion (λ (f : ReadFault). Q f.line) (faults_by n line name v)
faults_by-lines Q n line name (accepted said) q = tt
faults_by-lines Q n line name (accepted_odd said) q = (q, tt)
faults_by-lines Q n line name (refused code) q = (q, tt)

shown-lines : (Q : ℕ → Type 0) (n : ℕ) (shown : List PlacedByte) → AllByRecursion (λ (x : PlacedByte). Q x.1) shown
    → AllByRecursion (λ (i : ReadItem). Q i.line) (items_at n (judged_as (line_of shown) (statement_of (bytes shown))))
    × AllByRecursion (λ (f : ReadFault). Q f.line) (faults_at n (judged_as (line_of shown) (statement_of (bytes shown))))
shown-lines Q n [] all = (tt, tt)
shown-lines Q n (x ∷ xs) all = by_statement (statement_of (bytes (x ∷ xs)))
  where
    by_statement : (o : Option Statement) → AllByRecursion (λ (i : ReadItem). Q i.line) (items_at n (judged_as x.1 o))
        × AllByRecursion (λ (f : ReadFault). Q f.line) (faults_at n (judged_as x.1 o))
    by_statement None = (tt, tt)
    by_statement (Some s) = (items_by-lines Q n x.1 (verdict_of s.name s.claim) all.0, faults_by-lines Q n x.1 s.name (verdict_of s.name s.claim) all.0)

from-lines : (Q : ℕ → Type 0) (n : ℕ) (items : List (List PlacedByte)) → AllByRecursion (AllByRecursion (λ (x : PlacedByte). Q x.1)) items
    → AllByRecursion (λ (i : ReadItem). Q i.line) (items_from n (map judged_of items))
    × AllByRecursion (λ (f : ReadFault). Q f.line) (faults_from n (map judged_of items))
from-lines Q n [] all = (tt, tt)
from-lines Q n (item ∷ items) all =
    let here = shown-lines Q n (without_front item) (without_front-all (λ x. Q x.1) item all.0) in
    let later = from-lines Q (n + 1) items all.1 in (
      AllByRecursion-append (λ (i : ReadItem). Q i.line) (items_at n (judged_of item)) (items_from (n + 1) (map judged_of items)) here.0 later.0,
      AllByRecursion-append (λ (f : ReadFault). Q f.line) (faults_at n (judged_of item)) (faults_from (n + 1) (map judged_of items)) here.1 later.1,
    )

block_items-lines : (block : List ℕ) → last_byte 10 block ≡ 10
    → AllByRecursion (AllByRecursion (λ (x : PlacedByte). IsBetween 1 (1 + line_count block) x.1)) (block_items block)
block_items-lines block ends =
    let P : PlacedByte → Type 0 = λ x. IsBetween 1 (1 + line_count block) x.1 in
    items_of-all P escape.Nothing 44 (after_field (folding_of block))
    (after_field-all P (folding_of block)
    (joined-all P false (without_comments false 10 (bytes_on_lines 1 block))
    (without_comments-all P false 10 (bytes_on_lines 1 block) (placed-between 1 (1 + line_count block) 1 block (omega arith) ends (omega arith)))))

AllByRecursion-weaker : {A : Type 0} (P Q : A → Type 0) → ((x : A) → P x → Q x) → (xs : List A) → AllByRecursion P xs → AllByRecursion Q xs
AllByRecursion-weaker P Q w [] all = tt
AllByRecursion-weaker P Q w (x ∷ xs) all = (w x all.0, AllByRecursion-weaker P Q w xs all.1)

-- ---- the header

header_faults-lines : (Q : ℕ → Type 0) → Q 1 → (field : List ℕ) (o : Option (List (List ℕ)))
    → AllByRecursion (λ (f : ReadFault). Q f.line) (header_faults field o)
header_faults-lines Q q field None = (q, tt)
header_faults-lines Q q field (Some names) =
    elim (nat_lt names_max (length field)) as (λ b. AllByRecursion (λ (f : ReadFault). Q f.line) (cond b (header_fault code.NamesTooLong ∷ []) [])) [
      | true ↦
          (q, tt)
      | false ↦ tt
    ]

names-sound : (field : List ℕ) (o : Option (List (List ℕ))) → ReadsNames field o → All IsLookupName (names_found o)
names-sound field None read = All-nil IsLookupName
names-sound field (Some names) read = read.lookup

named-sound : (field : List ℕ) (o : Option (List (List ℕ))) → header_names field ≡ o → ReadsNames field o
    → list_any (λ (f : ReadFault). is_error f.code) (header_faults field o) ≡ false → IsWritable field
named-sound field None is read e = absurd cc
named-sound field (Some names) is read e =
    elim (cases_Bool (nat_lt names_max (length field))) [
      | inl long ↦ let h : true ≡ false = rw long at e in absurd cc
      | inr short ↦
          let some : field ≢ [] = λ none. let h : header_names [] ≡ Some names = rw none at is in absurd cc in
          record { some = some; no_nul = λ k d h at. read.no_nul (k, h, get_or_default field k 0 d h ∙ at); short = ltb-false names_max (length field) short }
    ]

any-front : (p : ReadFault → Bool) (xs ys : List ReadFault) → list_any p (xs ++ ys) ≡ false → list_any p xs ≡ false
any-front p xs ys e =
    let both = sym (list_any-append p xs ys) ∙ e in
    elim (cases_Bool (list_any p xs)) [ inl t ↦ let h : true ≡ false = rw t at both in absurd cc | inr f ↦ f ]

ends_after : (block : List ℕ) → last_byte 0 block ≡ 10 → (last_byte 10 block ≡ 10) × (1 ≤ line_count block)
ends_after [] ends = absurd (omega arith)
ends_after (x ∷ xs) ends = (ends, some_line 0 x xs ends)

-- ---- the order of items and faults

-- at most one item, and at this place
abbrev IsAt : {A : Type 0} → (A → ℕ) → ℕ → List A → Type 0
IsAt place n [] = Unit {0}
IsAt place n (x ∷ []) = place x ≡ n
IsAt place n (x ∷ y ∷ ys) = ⊥

all-places : {A : Type 0} (place : A → ℕ) (n : ℕ) (xs : List A) → AllByRecursion (λ x. n + 1 ≤ place x) xs → AllByRecursion (λ m. n < m) (map place xs)
all-places place n [] all = tt
all-places place n (x ∷ xs) all = (omega (arith, all.0), all-places place n xs all.1)

-- what is at a place, and what is after it
rising-at : {A : Type 0} (place : A → ℕ) (n : ℕ) (here later : List A) → IsAt place n here → AllByRecursion (λ x. n + 1 ≤ place x) later
    → IsRising (map place later)
    → AllByRecursion (λ x. n ≤ place x) (here ++ later) × IsRising (map place (here ++ later))
rising-at place n [] later at after rise = (AllByRecursion-weaker (λ x. n + 1 ≤ place x) (λ x. n ≤ place x) (λ x h. omega (arith, h)) later after, rise)
rising-at place n (x ∷ []) later at after rise =
    let rest = AllByRecursion-weaker (λ x. n + 1 ≤ place x) (λ x. n ≤ place x) (λ x h. omega (arith, h)) later after in
    ((omega (arith, at), rest), (rw at (all-places place n later after), rise))
rising-at place n (x ∷ y ∷ ys) later at after rise = absurd at

items_by-at : (n line : ℕ) (v : Verdict) → IsAt (λ (i : ReadItem). i.ordinal) n (items_by n line v)
items_by-at n line (accepted said) = refl
items_by-at n line (accepted_odd said) = refl
items_by-at n line (refused code) = tt

items_at-at : (n : ℕ) (o : Option Judged) → IsAt (λ (i : ReadItem). i.ordinal) n (items_at n o)
items_at-at n None = tt
items_at-at n (Some j) = items_by-at n j.line j.verdict

faults_by-at : (n line : ℕ) (name : List ℕ) (v : Verdict) → IsAt (λ (f : ReadFault). f.ordinal) n (faults_by n line name v)
faults_by-at n line name (accepted said) = tt
faults_by-at n line name (accepted_odd said) = refl
faults_by-at n line name (refused code) = refl

faults_at-at : (n : ℕ) (o : Option Judged) → IsAt (λ (f : ReadFault). f.ordinal) n (faults_at n o)
faults_at-at n None = tt
faults_at-at n (Some j) = faults_by-at n j.line j.name j.verdict

items_from-rise : (n : ℕ) (outcomes : List (Option Judged))
    → AllByRecursion (λ (i : ReadItem). n ≤ i.ordinal) (items_from n outcomes) × IsRising (map (λ (i : ReadItem). i.ordinal) (items_from n outcomes))
items_from-rise n [] = (tt, tt)
items_from-rise n (o ∷ os) =
    let later = items_from-rise (n + 1) os in
    rising-at (λ (i : ReadItem). i.ordinal) n (items_at n o) (items_from (n + 1) os) (items_at-at n o) later.0 later.1

faults_from-rise : (n : ℕ) (outcomes : List (Option Judged))
    → AllByRecursion (λ (f : ReadFault). n ≤ f.ordinal) (faults_from n outcomes) × IsRising (map (λ (f : ReadFault). f.ordinal) (faults_from n outcomes))
faults_from-rise n [] = (tt, tt)
faults_from-rise n (o ∷ os) =
    let later = faults_from-rise (n + 1) os in
    rising-at (λ (f : ReadFault). f.ordinal) n (faults_at n o) (faults_from (n + 1) os) (faults_at-at n o) later.0 later.1

-- no fault of an item is one of the names field
abbrev IsOfItem : ReadFault → Type 0
IsOfItem f = is_of_header f.code ≡ false

faults_by-item : (n line : ℕ) (name : List ℕ) (v : Verdict) → SetsBy v → AllByRecursion IsOfItem (faults_by n line name v)
faults_by-item n line name (accepted said) sets = tt
faults_by-item n line name (accepted_odd said) sets = (refl, tt)
faults_by-item n line name (refused code) sets = (sets, tt)

judged_as-item : NamedIsCapability → ValuesAreSound → (n line : ℕ) (o : Option Statement) → AllByRecursion IsOfItem (faults_at n (judged_as line o))
judged_as-item valid sound n line None = tt
judged_as-item valid sound n line (Some s) = faults_by-item n line s.name (verdict_of s.name s.claim) (verdict_sets valid sound s.name s.claim)

faults_from-item : NamedIsCapability → ValuesAreSound → (n : ℕ) (items : List (List PlacedByte)) → AllByRecursion IsOfItem (faults_from n (map judged_of items))
faults_from-item valid sound n [] = tt
faults_from-item valid sound n (item ∷ items) =
    let p = piece_of item in
    AllByRecursion-append IsOfItem (faults_at n (judged_of item)) (faults_from (n + 1) (map judged_of items))
    (judged_as-item valid sound n p.line (statement_of p.text)) (faults_from-item valid sound (n + 1) items)

header_faults-one : (field : List ℕ) (o : Option (List (List ℕ))) → (length (header_faults field o) ≤ 1)
    × AllByRecursion (λ (f : ReadFault). is_of_header f.code ≡ true) (header_faults field o)
header_faults-one field None = (omega arith, (refl, tt))
header_faults-one field (Some names) =
    elim (nat_lt names_max (length field)) as (λ b. (length (cond b (header_fault code.NamesTooLong ∷ []) []) ≤ 1)
    × AllByRecursion (λ (f : ReadFault). is_of_header f.code ≡ true) (cond b (header_fault code.NamesTooLong ∷ []) [])) [
      | true ↦ (omega arith, (refl, tt))
      | false ↦ (omega arith, tt)
    ]

pub well_read : NamedIsCapability → ValuesAreSound → EachIsWellRead
unfolding reading_of_text
well_read valid sound block one =
    let field = block_field block in
    let found = header_names field in
    let items = block_items block in
    let judged = map judged_of items in
    let ends = ends_after block one.ends in
    let InBlock : ℕ → Type 0 = λ line. IsBetween 1 (1 + line_count block) line in
    let in_block : (line : ℕ) → InBlock line → IsLineOf block line = λ line h. (h.0, omega (arith, h.1)) in
    let lines = from-lines InBlock 0 items (block_items-lines block ends.0) in
    let header_lines : AllByRecursion (λ (f : ReadFault). IsLineOf block f.line) (header_faults field found) =
    header_faults-lines (IsLineOf block) (omega arith, ends.1) field found in
    record {
      names = names-sound field found (each_header field);
      named = λ e. named-sound field found refl (each_header field)
          (any-front (λ (f : ReadFault). is_error f.code) (header_faults field found) (faults_from 0 judged) e);
      sets = All-from_recursion Sets (items_from 0 judged) (items_from-sets valid sound 0 items);
      order = record {
        of_header = header_faults field found;
        of_items = faults_from 0 judged;
        faults = refl;
        one = (header_faults-one field found).0;
        header = All-from_recursion (λ (f : ReadFault). is_of_header f.code ≡ true) (header_faults field found) (header_faults-one field found).1;
        item = All-from_recursion IsOfItem (faults_from 0 judged) (faults_from-item valid sound 0 items);
        items_rise = (items_from-rise 0 judged).1;
        faults_rise = (faults_from-rise 0 judged).1;
      };
      item_lines = All-from_recursion (λ (i : ReadItem). IsLineOf block i.line) (items_from 0 judged)
          (AllByRecursion-weaker (λ (i : ReadItem). InBlock i.line) (λ (i : ReadItem). IsLineOf block i.line) (λ i h. in_block i.line h)
          (items_from 0 judged) lines.0);
      fault_lines = All-from_recursion (λ (f : ReadFault). IsLineOf block f.line) (header_faults field found ++ faults_from 0 judged)
          (AllByRecursion-append (λ (f : ReadFault). IsLineOf block f.line) (header_faults field found) (faults_from 0 judged) header_lines
          (AllByRecursion-weaker (λ (f : ReadFault). InBlock f.line) (λ (f : ReadFault). IsLineOf block f.line) (λ f h. in_block f.line h)
          (faults_from 0 judged) lines.1));
    }

-- ---- a name in the tables

later_within : (n i : ℕ) (o : Option ℕ) → ((k : ℕ) → o ≡ Some k → k < n) → option_map (λ k. suc k) o ≡ Some i → i < suc n
later_within n i None within e = absurd cc
later_within n i (Some k) within e = let same : suc k ≡ i = cc in omega (arith, within k refl)

place_of-within : (name : List ℕ) (names : List (List ℕ)) (i : ℕ) → place_of name names ≡ Some i → i < length names
place_of-within name [] i e = absurd cc
place_of-within name (n ∷ ns) i e =
    elim (cases_Bool (bytes_eq n name)) [
      | inl t ↦ let h : Some 0 ≡ Some i = rw t at e in let same : 0 ≡ i = cc in omega arith
      | inr f ↦ later_within (length ns) i (place_of name ns) (place_of-within name ns) (rw f at e)
    ]

named_in-valid : (name : List ℕ) (k : Kind) (c : Capability) → count_of k ≡ length (names k) → named_in name k ≡ Some c → IsCapability c
named_in-valid name k c count e = placed_at (place_of name (names k)) refl e
  where
    placed_at : (o : Option ℕ) → place_of name (names k) ≡ o → option_map (capability k) o ≡ Some c → IsCapability c
    placed_at None is h = absurd cc
    placed_at (Some i) is h =
        let same : capability k i ≡ c = cc in
        subst IsCapability same (omega (arith, place_of-within name (names k) i is, count))

first-valid : (one other : Option Capability) → ((c : Capability) → one ≡ Some c → IsCapability c) → ((c : Capability) → other ≡ Some c → IsCapability c)
    → (c : Capability) → option_or one other ≡ Some c → IsCapability c
first-valid None other p q c e = q c e
first-valid (Some d) other p q c e = p c e

pub named_valid : count_of kind.Flag ≡ length (names kind.Flag) → count_of kind.Number ≡ length (names kind.Number)
    → count_of kind.Text ≡ length (names kind.Text) → NamedIsCapability
unfolding capability_named
named_valid flags numbers texts name c e =
    first-valid (named_in name kind.Flag) (option_or (named_in name kind.Number) (named_in name kind.Text)) (λ d. named_in-valid name kind.Flag d flags)
    (first-valid (named_in name kind.Number) (named_in name kind.Text) (λ d. named_in-valid name kind.Number d numbers)
    (λ d. named_in-valid name kind.Text d texts)) c e
