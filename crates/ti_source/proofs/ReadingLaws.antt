-- Each block has one reading, and it is the computed one.
use Rattle.std.proofs.Common.{◌≡◌, ℕ, List, [], ◌∷◌, ◌++◌, map, Option, Some, None, refl, sym, ap, ◌∙◌, inl, inr}
use Rattle.std.proofs.lemmas.Bool.{cases_Bool}
use Rattle.ti_source.specs.declared.items.Escape.TheVariants as escape
use Rattle.ti_text.specs.WhiteSpace.{is_white_space}
use Rattle.ti_source.specs.inside.Header.{header_names}
use Rattle.ti_source.specs.Folding.{PlacedByte}
use Rattle.ti_source.specs.inside.Folding.{folding_of}
use Rattle.ti_source.specs.Items.{Statement, States, bytes, piece_of}
use Rattle.ti_source.specs.inside.Items.{field_of, after_field, items_of}
use Rattle.ti_source.specs.Stating.{statement_of}
use Rattle.ti_source.specs.declared.parsing.Rule.{Rule}
use Rattle.ti_source.specs.Reading.{ReadItem, ReadFault, Reading}
use Rattle.ti_source.specs.Verdicts.{Verdict}
use Rattle.ti_source.specs.Judging.{Judged, IsJudged, item_ignored, item_judged, AreJudged, no_item, item_and_rest, items_from, faults_from, names_found}
use Rattle.ti_source.specs.Judging.{header_faults, reading_by}
use Rattle.ti_source.specs.Parsing.{Parses, reading_of_text, HasReading, BlocksHaveOneReading, BlocksAreLeftmost}
use Rattle.ti_source.specs.inside.Parsing.{judged_as, judged_of, ReadsField, AddsItems, block_field}
use Rattle.ti_source.specs.Walking.{block_items}
use Rattle.ti_source.specs.inside.Verdicts.{verdict_of}
use Rattle.ti_source.proofs.FoldingLaws.{folds_computed, only_folded}
use Rattle.ti_source.proofs.HeaderLemmas.{each_header, one_header}
use Rattle.ti_source.proofs.JudgingLaws.{has_verdict, one_verdict}
use Rattle.ti_source.proofs.ItemLaws.{has_field, one_field, has_items, one_items, BeginsVisible, has_statement, one_statement}

-- ---- all items

piece-visible : (item : List PlacedByte) → BeginsVisible (piece_of item).text
piece-visible [] = tt
piece-visible (x ∷ xs) = elim (cases_Bool (is_white_space x.0)) [ inl w ↦ rw w (piece-visible xs) | inr v ↦ rw v v ]

judged_so : (item : List PlacedByte) (o : Option Statement) → States (piece_of item).text o → IsJudged item (judged_as (piece_of item).line o)
judged_so item None states = item_ignored item states
judged_so item (Some s) states = item_judged item s (verdict_of s.name s.claim) states (has_verdict s.name s.claim)

is_judged : (item : List PlacedByte) → IsJudged item (judged_of item)
is_judged item = judged_so item (statement_of (piece_of item).text) (has_statement (piece_of item).text (piece-visible item))

pub are_judged : (items : List (List PlacedByte)) → AreJudged items (map judged_of items)
are_judged [] = no_item
are_judged (item ∷ items) = item_and_rest (is_judged item) (are_judged items)

one_judgement : (item : List PlacedByte) (o : Option Judged) → IsJudged item o → o ≡ judged_of item
one_judgement _ _ (item_ignored item states) = ap (judged_as (piece_of item).line) (one_statement (piece_of item).text None states)
one_judgement _ _ (item_judged item s v states judges) =
    let line = (piece_of item).line in
    let so : List ℕ → Verdict → Option Judged = λ name verdict. Some (record { line = line; name = name; verdict = verdict }) in
    ap (so s.name) (one_verdict s.name s.claim v judges) ∙ ap (judged_as line) (one_statement (piece_of item).text (Some s) states)

pub one_judging : (items : List (List PlacedByte)) (outcomes : List (Option Judged)) → AreJudged items outcomes → outcomes ≡ map judged_of items
one_judging _ _ no_item = refl
one_judging _ _ (item_and_rest {item = item} {items = items} {outcome = outcome} {outcomes = outcomes} here later) =
    ap (λ o. o ∷ outcomes) (one_judgement item outcome here) ∙ ap (λ os. judged_of item ∷ os) (one_judging items outcomes later)

-- ---- a block

pub has_reading : HasReading
unfolding reading_of_text
has_reading block =
    let text = folding_of block in
    record {
      text = text;
      field = field_of text;
      rest = after_field text;
      items = block_items block;
      names = header_names (block_field block);
      judged = map judged_of (block_items block);
      folds = folds_computed block;
      begins = has_field text;
      cut = has_items 44 (after_field text);
      reads_names = each_header (block_field block);
      are_judged = are_judged (block_items block);
      is = refl;
    }

same_parts : (field field' : List ℕ) (names names' : Option (List (List ℕ))) (judged judged' : List (Option Judged)) → field ≡ field' → names ≡ names'
    → judged ≡ judged'
    → reading_by field names judged ≡ reading_by field' names' judged'
same_parts field field' names names' judged judged' e f g =
    ap (λ x. reading_by x names judged) e ∙ ap (λ x. reading_by field' x judged) f ∙ ap (reading_by field' names') g

is_parsed : (block : List ℕ) (reading : Reading) → Parses block reading → reading ≡ reading_of_text block
unfolding reading_of_text
is_parsed block reading p =
    let text = only_folded block p.text p.folds in
    let field = one_field p.text p.field p.rest p.begins in
    let same_field : bytes p.field ≡ block_field block = ap bytes field.0 ∙ ap (λ t. bytes (field_of t)) text in
    let items : p.items ≡ block_items block = one_items 44 p.rest p.items p.cut ∙ ap (items_of escape.Nothing 44) (field.1 ∙ ap after_field text) in
    p.is ∙ same_parts (bytes p.field) (block_field block) p.names (header_names (block_field block)) p.judged (map judged_of (block_items block)) same_field
    (one_header (bytes p.field) p.names p.reads_names ∙ ap header_names same_field)
    (one_judging p.items p.judged p.are_judged ∙ ap (map judged_of) items)

pub one_reading : BlocksHaveOneReading
one_reading block one other p q = is_parsed block one p ∙ sym (is_parsed block other q)

pub rule_of_text : BlocksAreLeftmost
unfolding reading_of_text
rule_of_text block = refl

same_reading : (one other : Reading) → one.rule ≡ other.rule → one.field ≡ other.field → one.names ≡ other.names → one.items ≡ other.items
    → one.faults ≡ other.faults → one ≡ other
same_reading one other rule field names items faults =
    ap (λ (x : Rule). record one { rule = x }) rule ∙ ap (λ (x : List ℕ). record one { rule = other.rule; field = x }) field
    ∙ ap (λ (x : List (List ℕ)). record one { rule = other.rule; field = other.field; names = x }) names
    ∙ ap (λ (x : List ReadItem). record other { items = x; faults = one.faults }) items ∙ ap (λ (x : List ReadFault). record other { faults = x }) faults

-- a block that is read part by part
pub parsed_by_parts : (block field : List ℕ) (source rest : List PlacedByte) (header reading : Reading) → source ≡ folding_of block
    → field ≡ bytes (field_of source) → rest ≡ after_field source
    → ReadsField field header → AddsItems rest header reading → reading ≡ reading_of_text block
unfolding reading_of_text
parsed_by_parts block field source rest header reading at_start is_field at_rest reads adds =
    let same_field : field ≡ block_field block = is_field ∙ ap (λ s. bytes (field_of s)) at_start in
    let judged = map judged_of (items_of escape.Nothing 44 rest) in
    let same_items : judged ≡ map judged_of (block_items block) = ap (λ s. map judged_of (items_of escape.Nothing 44 s)) (at_rest ∙ ap after_field at_start) in
    same_reading reading (reading_of_text block) (adds.same_rule ∙ reads.rule) (adds.same_field ∙ reads.is_field ∙ same_field)
    (adds.same_names ∙ reads.names ∙ ap (λ f. names_found (header_names f)) same_field)
    (adds.more_items ∙ ap (λ l. l ++ items_from 0 judged) reads.items ∙ ap (items_from 0) same_items)
    (adds.more_faults ∙ ap (λ l. l ++ faults_from 0 judged) (reads.faults ∙ ap (λ f. header_faults f (header_names f)) same_field)
    ∙ ap (λ l. header_faults (block_field block) (header_names (block_field block)) ++ faults_from 0 l) same_items)
