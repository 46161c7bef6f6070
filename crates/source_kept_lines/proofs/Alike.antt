-- Blocks with the same names field and items of the same texts are read alike.
use Rattle.std.proofs.Common.{◌≡◌, ℕ, ◌+◌, List, [], ◌∷◌, ◌++◌, map, Option, Some, None, refl, sym, ap, ◌∙◌}
use Rattle.std.proofs.lemmas.List.{map-append}
use Rattle.ti_source.specs.Folding.{PlacedByte}
use Rattle.ti_source.specs.Items.{Statement, piece_of}
use Rattle.ti_source.specs.Judging.{Judged, faults_at, faults_from, header_faults, items_at, items_from, names_found}
use Rattle.ti_source.specs.Parsing.{reading_of_text}
use Rattle.ti_source.specs.declared.parsing.Rule.TheVariants.{Leftmost}
use Rattle.ti_source.specs.Reading.{ReadFault, ReadItem, Reading}
use Rattle.ti_source.specs.Stating.{statement_of}
use Rattle.ti_source.specs.Verdicts.{Verdict, accepted, accepted_odd, faults_by, items_by, refused}
use Rattle.ti_source.specs.Walking.{block_items}
use Rattle.ti_source.specs.inside.Header.{header_names}
use Rattle.ti_source.specs.inside.Parsing.{block_field, judged_as, judged_of}
use Rattle.ti_source.specs.inside.Verdicts.{verdict_of}
use Rattle.source_format.specs.Laws.{item_texts, unplaced, unplaced_fault, unplaced_item}

-- ---- items and faults without their lines

verdict_items : (ordinal line : ℕ) (v : Verdict) → map unplaced_item (items_by ordinal line v) ≡ items_by ordinal 0 v
verdict_items ordinal line (accepted said) = refl
verdict_items ordinal line (accepted_odd said) = refl
verdict_items ordinal line (refused code) = refl

verdict_faults : (ordinal line : ℕ) (name : List ℕ) (v : Verdict) → map unplaced_fault (faults_by ordinal line name v) ≡ faults_by ordinal 0 name v
verdict_faults ordinal line name (accepted said) = refl
verdict_faults ordinal line name (accepted_odd said) = refl
verdict_faults ordinal line name (refused code) = refl

-- what comes of an item of this text, on no line
abbrev judged_text : List ℕ → Option Judged
judged_text text = judged_as 0 (statement_of text)

stated_items : (ordinal line : ℕ) (o : Option Statement) → map unplaced_item (items_at ordinal (judged_as line o)) ≡ items_at ordinal (judged_as 0 o)
stated_items ordinal line None = refl
stated_items ordinal line (Some s) = verdict_items ordinal line (verdict_of s.name s.claim)

stated_faults : (ordinal line : ℕ) (o : Option Statement) → map unplaced_fault (faults_at ordinal (judged_as line o)) ≡ faults_at ordinal (judged_as 0 o)
stated_faults ordinal line None = refl
stated_faults ordinal line (Some s) = verdict_faults ordinal line s.name (verdict_of s.name s.claim)

items_unplaced : (ordinal : ℕ) (is : List (List PlacedByte)) → map unplaced_item (items_from ordinal (map judged_of is))
    ≡ items_from ordinal (map judged_text (map (λ (i : List PlacedByte). (piece_of i).text) is))
items_unplaced ordinal [] = refl
items_unplaced ordinal (i ∷ is) =
    map-append unplaced_item (items_at ordinal (judged_of i)) (items_from (ordinal + 1) (map judged_of is))
    ∙ ap (λ (front : List ReadItem). front ++ map unplaced_item (items_from (ordinal + 1) (map judged_of is)))
    (stated_items ordinal (piece_of i).line (statement_of (piece_of i).text))
    ∙ ap (λ (back : List ReadItem). items_at ordinal (judged_text (piece_of i).text) ++ back) (items_unplaced (ordinal + 1) is)

faults_unplaced : (ordinal : ℕ) (is : List (List PlacedByte)) → map unplaced_fault (faults_from ordinal (map judged_of is))
    ≡ faults_from ordinal (map judged_text (map (λ (i : List PlacedByte). (piece_of i).text) is))
faults_unplaced ordinal [] = refl
faults_unplaced ordinal (i ∷ is) =
    map-append unplaced_fault (faults_at ordinal (judged_of i)) (faults_from (ordinal + 1) (map judged_of is))
    ∙ ap (λ (front : List ReadFault). front ++ map unplaced_fault (faults_from (ordinal + 1) (map judged_of is)))
    (stated_faults ordinal (piece_of i).line (statement_of (piece_of i).text))
    ∙ ap (λ (back : List ReadFault). faults_at ordinal (judged_text (piece_of i).text) ++ back) (faults_unplaced (ordinal + 1) is)

abbrev made : List ℕ → List ReadItem → List ReadFault → Reading
made field items faults = record { rule = Leftmost; field = field; names = names_found (header_names field); items = items; faults = faults }

-- the reading of a names field and of items of these texts, without their lines
reading_with : List ℕ → List (List ℕ) → Reading
reading_with field texts =
    made field (items_from 0 (map judged_text texts)) (map unplaced_fault (header_faults field (header_names field)) ++ faults_from 0 (map judged_text texts))

reading_so : (block : List ℕ) → unplaced (reading_of_text block) ≡ reading_with (block_field block) (item_texts block)
unfolding reading_of_text reading_with
reading_so block =
    let field = block_field block in
    let is = block_items block in
    let header = header_faults field (header_names field) in
    ap (λ (items : List ReadItem). made field items (map unplaced_fault (header ++ faults_from 0 (map judged_of is)))) (items_unplaced 0 is)
    ∙ ap (made field (items_from 0 (map judged_text (item_texts block)))) (map-append unplaced_fault header (faults_from 0 (map judged_of is))
    ∙ ap (λ (back : List ReadFault). map unplaced_fault header ++ back) (faults_unplaced 0 is))

pub read_alike : (block other : List ℕ) → block_field block ≡ block_field other → item_texts block ≡ item_texts other
    → unplaced (reading_of_text block) ≡ unplaced (reading_of_text other)
read_alike block other field texts =
    reading_so block ∙ ap (λ (f : List ℕ). reading_with f (item_texts block)) field ∙ ap (reading_with (block_field other)) texts ∙ sym (reading_so other)
