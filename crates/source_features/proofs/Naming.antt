-- The lookup names of a document, block by block.
use Rattle.std.proofs.Common.{◌≡◌, ℕ, ◌+◌, ◌<◌, List, ◌++◌, drop, filter, length, map, sym, ap, ◌∙◌, add-one}
use Rattle.std.proofs.lemmas.List.{append_assoc, map-append}
use Rattle.std.proofs.lemmas.List.Elements.{filter-append}
use Rattle.base_meaning.specs.Report.{shown_detail}
use Rattle.ti_source.specs.Parsing.{reading_of_text}
use Rattle.base_meaning.specs.OwnNames.{own_names}
use Rattle.base_meaning.specs.Owner.{readings}
use Rattle.source_blocks.specs.Giving.{can_be_given}
use Rattle.source_blocks.proofs.Outlines.{blocks_more}
use Rattle.source_features.specs.Completions.{names_from}
use Rattle.source_document.specs.Diagnostics.{text_at}

-- those that are offered of one more block
pub names_next : (blocks before now : List (List ℕ)) (at : ℕ) (whole : List (List ℕ)) → at < length blocks
    → before ++ map shown_detail (filter can_be_given (names_from blocks at (drop at blocks))) ≡ whole
    → now ≡ before ++ map shown_detail (filter can_be_given (own_names (readings blocks) at (reading_of_text (text_at blocks at)).names))
    → now ++ map shown_detail (filter can_be_given (names_from blocks (at + 1) (drop (at + 1) blocks))) ≡ whole
names_next blocks before now at whole within so e =
    let shown = λ (names : List (List ℕ)). map shown_detail (filter can_be_given names) in
    let own = own_names (readings blocks) at (reading_of_text (text_at blocks at)).names in
    let rest = names_from blocks (at + 1) (drop (at + 1) blocks) in
    ap (λ (t : List (List ℕ)). t ++ shown rest) e ∙ append_assoc before (shown own) (shown rest)
    ∙ ap (λ (t : List (List ℕ)). before ++ t)
    (sym (ap (map shown_detail) (filter-append can_be_given own rest) ∙ map-append shown_detail (filter can_be_given own) (filter can_be_given rest)))
    ∙ ap (λ (n : ℕ). before ++ shown (own ++ names_from blocks n (drop (at + 1) blocks))) (add-one at)
    ∙ ap (λ (t : List (List ℕ)). before ++ shown (names_from blocks at t)) (sym (blocks_more blocks at within)) ∙ so
