-- A block has user-defined values exactly where it resolves.
use Rattle.std.proofs.Common.{◌≡◌, ℕ, zero, suc, ◌+◌, Bool, true, false, cond, List, [], ◌∷◌, map, length, Option, Some, None, is_some}
use Rattle.std.proofs.Common.{option_and_then, slice_get, refl, sym, ap, ◌∙◌, inl, inr}
use Rattle.std.specs.Prelude.{Ok, Err}
use Rattle.std.specs.Option.{option_map}
use Rattle.std.proofs.lemmas.Bool.{false≢true, cases_Bool}
use Rattle.std.proofs.lemmas.List.{length-map}
use Rattle.std.proofs.lemmas.Option.{same_Some, none-some, slice_get-map}
use Rattle.ti_caps.specs.Tables.{Capability}
use Rattle.ti_caps.specs.declared.capability.Kind.{Kind}
use Rattle.ti_caps.specs.declared.capability.Kind.TheVariants as kind
use Rattle.ti_spelling.specs.declared.numbers.NumberError.TheVariants.{Bad, TooLarge}
use Rattle.ti_source.specs.declared.parsing.Rule.{Rule}
use Rattle.ti_source.specs.Folding.{PlacedByte}
use Rattle.ti_source.specs.Items.{Statement, Claim, piece_of}
use Rattle.ti_source.specs.Stating.{statement_of}
use Rattle.ti_source.specs.inside.Parsing.{judged_as as judged_as_there, judged_of as judged_there}
use Rattle.ti_source.specs.Walking.{block_items}
use Rattle.ti_source.specs.inside.Verdicts.{read_claim}
use Rattle.ti_source.specs.Judging.{items_at as items_at_there, items_from as items_from_there}
use Rattle.ti_source.specs.Verdicts.{ReadClaim, reads_flag, reads_number, reads_text, reads_cancel, is_import, fitting_verdict, named_verdict}
use Rattle.ti_source.specs.Verdicts.{items_by as items_by_there, verdict_on as verdict_there}
use Rattle.ti_source.specs.Parsing.{reading_of_text}
use Rattle.ti_source.proofs.ReadingLaws.{rule_of_text}
use Rattle.ti_source.specs.Reading.{Reading}
use Rattle.ti_layout.specs.Values.{Mention}
use Rattle.base_meaning.specs.Owner.{owner_block, readings}
use Rattle.base_meaning.specs.Expansion.{is_broken, resolves, expand_items as expand_items_there, expand as expand_there}
use Rattle.base_meaning.proofs.MentionMerging.{expand_items-append as append_there}
use Rattle.base_meaning.proofs.Owning.{nobody, somebody, owning}
use Rattle.base_meaning.proofs.LawProofs.{found_expansions}
use Rattle.user_items.specs.Names.{is_user_defined_name}
use Rattle.user_items.specs.Verdicts.{defining_verdict, verdict_on}
use Rattle.user_items.specs.Reading.{items_at, items_from}
use Rattle.user_items.specs.inside.Computed.{judged_with, judged_as, judged_of}
use Rattle.user_items.specs.Parsing.{user_reading_of_text}
use Rattle.user_values.specs.Expansion.{UserMention, expand_items, block_mentions, expand_by, expansion_by}
use Rattle.user_values.proofs.Depth.{Names, names_at, expand_items-append, expand_same}
use Rattle.user_values.proofs.Ruling.{joined-some, ruled-some}

abbrev There : Type 0
There = List ℕ → Option (List Mention)

-- ---- an item, wherever it is read

says_some : (f : Names) (o line : ℕ) (name : List ℕ) (read : ReadClaim) (b : Bool)
    → is_some (expand_items f (items_at o (judged_with line name (cond b (Some (defining_verdict name read)) None)))) ≡ true
says_some f o line name read false = refl
says_some f o line name reads_flag true = refl
says_some f o line name (reads_number (Ok n)) true = refl
says_some f o line name (reads_number (Err cause)) true = refl
says_some f o line name (reads_text value (Ok found)) true =
    elim found.1 as (λ b. is_some (expand_items f (items_at o (judged_with line name (Some (defining_verdict name (reads_text value (Ok (found.0, b))))))))
    ≡ true) [ true ↦ refl | false ↦ refl ]
says_some f o line name (reads_text value (Err cause)) true = refl
says_some f o line name reads_cancel true = refl

fits_some : (g : There) (o line : ℕ) (c : Capability) (read : ReadClaim) (k : Kind)
    → is_some (expand_items_there g (items_by_there o line (fitting_verdict c read k))) ≡ true
fits_some g o line c reads_flag kind.Flag = refl
fits_some g o line c reads_flag kind.Number = refl
fits_some g o line c reads_flag kind.Text = refl
fits_some g o line c (reads_number read) kind.Flag = refl
fits_some g o line c (reads_number (Ok n)) kind.Number = refl
fits_some g o line c (reads_number (Err Bad)) kind.Number = refl
fits_some g o line c (reads_number (Err TooLarge)) kind.Number = refl
fits_some g o line c (reads_number read) kind.Text = refl
fits_some g o line c (reads_text value found) kind.Flag = refl
fits_some g o line c (reads_text value found) kind.Number = refl
fits_some g o line c (reads_text value (Ok found)) kind.Text =
    elim found.1 as (λ b. is_some (expand_items_there g (items_by_there o line (fitting_verdict c (reads_text value (Ok (found.0, b))) kind.Text)))
    ≡ true) [ true ↦ refl | false ↦ refl ]
fits_some g o line c (reads_text value (Err cause)) kind.Text = refl
fits_some g o line c reads_cancel kind.Flag = refl
fits_some g o line c reads_cancel kind.Number = refl
fits_some g o line c reads_cancel kind.Text = refl

named_some : (g : There) (o line : ℕ) (read : ReadClaim) (c : Option Capability)
    → is_some (expand_items_there g (items_by_there o line (named_verdict read c))) ≡ true
named_some g o line read None = refl
named_some g o line read (Some c) = fits_some g o line c read c.kind

claim_some : (f : Names) (g : There) → ((name : List ℕ) → is_some (f name) ≡ is_some (g name)) → (o line : ℕ) (name : List ℕ) (claim : Claim) (read : ReadClaim)
    → is_some (expand_items f (items_at o (judged_with line name (verdict_on name claim read))))
    ≡ is_some (expand_items_there g (items_by_there o line (verdict_there name claim read)))
claim_some f g h o line name claim read =
    elim (cases_Bool (is_import name claim)) [
      | inl e ↦ rw e (joined-some (f _) (Some []) (g _) (Some []) (h _) refl)
      | inr e ↦ rw e (says_some f o line name read (is_user_defined_name name) ∙ sym (named_some g o line read _))
    ]

statement_some : (f : Names) (g : There) → ((name : List ℕ) → is_some (f name) ≡ is_some (g name)) → (o line : ℕ) (s : Option Statement)
    → is_some (expand_items f (items_at o (judged_as line s))) ≡ is_some (expand_items_there g (items_at_there o (judged_as_there line s)))
statement_some f g h o line None = refl
statement_some f g h o line (Some s) = claim_some f g h o line s.name s.claim (read_claim s.claim)

all_some : (f : Names) (g : There) → ((name : List ℕ) → is_some (f name) ≡ is_some (g name)) → (o : ℕ) (items : List (List PlacedByte))
    → is_some (expand_items f (items_from o (map judged_of items))) ≡ is_some (expand_items_there g (items_from_there o (map judged_there items)))
all_some f g h o [] = refl
all_some f g h o (item ∷ items) =
    let here = items_at o (judged_of item) in
    let later = items_from (o + 1) (map judged_of items) in
    let here_there = items_at_there o (judged_there item) in
    let later_there = items_from_there (o + 1) (map judged_there items) in
    ap is_some (expand_items-append f here later)
    ∙ joined-some (expand_items f here) (expand_items f later) (expand_items_there g here_there) (expand_items_there g later_there)
    (statement_some f g h o (piece_of item).line (statement_of (piece_of item).text)) (all_some f g h (o + 1) items)
    ∙ ap is_some (sym (append_there g here_there later_there))

-- ---- a block

items_here : (text : List ℕ) → (user_reading_of_text text).items ≡ items_from 0 (map judged_of (block_items text))
unfolding user_reading_of_text
items_here text = refl

items_there : (text : List ℕ) → (reading_of_text text).items ≡ items_from_there 0 (map judged_there (block_items text))
unfolding reading_of_text
items_there text = refl

cond-some : {X Y : Type 0} (b : Bool) (o : Option X) (q : Option Y) → is_some o ≡ is_some q → is_some (cond b None o) ≡ is_some (cond b None q)
cond-some true o q e = refl
cond-some false o q e = e

pub mapped : {X Y : Type 0} (f : X → Y) (o : Option X) (y : Y) → option_map f o ≡ Some y → (x : X) × (o ≡ Some x) × (f x ≡ y)
mapped f None y e = absurd (none-some y e)
mapped f (Some x) y e = (x, refl, same_Some (f x) y e)

pub text_read : (texts : List (List ℕ)) (at : ℕ) (block : Reading) → slice_get (readings texts) at ≡ Some block → (text : List ℕ)
    × (slice_get texts at ≡ Some text) × (reading_of_text text ≡ block)
text_read texts at block e = mapped reading_of_text (slice_get texts at) block (sym (slice_get-map reading_of_text texts at) ∙ e)

pub read_text : (texts : List (List ℕ)) (at : ℕ) (text : List ℕ) → slice_get texts at ≡ Some text → slice_get (readings texts) at ≡ Some (reading_of_text text)
read_text texts at text e = slice_get-map reading_of_text texts at ∙ ap (option_map reading_of_text) e

-- by each rule a block resolves where it does in the profile
pub block_some : (rule : Rule) (texts : List (List ℕ)) (depth : ℕ) (text : List ℕ) → is_some (expand_by rule texts depth text)
    ≡ is_some (expand_there (owner_block (readings texts)) depth (reading_of_text text))
block_some rule texts zero text = refl
block_some rule texts (suc depth) text =
    let env = owner_block (readings texts) in
    let f = names_at rule texts depth in
    let g : There = λ name. option_and_then (expand_there env depth) (env name) in
    let names : (name : List ℕ) → is_some (f name) ≡ is_some (g name) = λ name. elim (owning (readings texts) name) [
      | nobody o d ↦ rw (o, d) refl
      | somebody at block o ↦
          let t = text_read texts at block o.stands in
          rw (o.owns, o.is, t.1) (block_some rule texts depth t.0 ∙ ap (λ b. is_some (expand_there env depth b)) t.2)
    ] in
    let profile = rule_of_text text in
    rw profile (cond-some (is_broken (reading_of_text text)) (block_mentions rule f (user_reading_of_text text).items)
    (expand_items_there g (reading_of_text text).items)
    (ruled-some rule f (user_reading_of_text text).items
    ∙ ap (λ is. is_some (expand_items f is)) (items_here text) ∙ all_some f g names 0 (block_items text)
    ∙ ap (λ is. is_some (expand_items_there g is)) (sym (items_there text))))

same_length : (texts : List (List ℕ)) → length (readings texts) ≡ length texts
same_length texts = length-map texts reading_of_text

pub some_of : {X : Type 0} (o : Option X) → is_some o ≡ true → (x : X) × (o ≡ Some x)
some_of None e = absurd (false≢true e)
some_of (Some x) e = (x, refl)

pub as_resolved : (rule : Rule) (texts : List (List ℕ)) (text : List ℕ)
    → is_some (expansion_by rule texts text) ≡ resolves (readings texts) (reading_of_text text)
as_resolved rule texts text =
    block_some rule texts (suc (length texts)) text
    ∙ ap (λ n. is_some (expand_there (owner_block (readings texts)) (suc n) (reading_of_text text))) (sym (same_length texts))

-- a block of the list has the expansion that some depth gives it
pub found : (rule : Rule) (texts : List (List ℕ)) (at depth : ℕ) (text : List ℕ) (ms : List UserMention) → slice_get texts at ≡ Some text
    → expand_by rule texts depth text ≡ Some ms → expansion_by rule texts text ≡ Some ms
found rule texts at depth text ms stands e =
    let env = owner_block (readings texts) in
    let there = some_of (expand_there env depth (reading_of_text text)) (sym (block_some rule texts depth text) ∙ ap is_some e) in
    let whole = found_expansions.found (readings texts) at depth (reading_of_text text) there.0 (read_text texts at text stands) there.1 in
    let here = some_of (expansion_by rule texts text) (as_resolved rule texts text ∙ ap is_some whole) in
    here.1 ∙ ap (λ xs. Some xs) (sym (expand_same rule texts depth (suc (length texts)) text ms here.0 e here.1))
