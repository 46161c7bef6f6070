-- Items after a use.
use Rattle.std.proofs.Common.{◌≡◌, ℕ, zero, suc, ◌+◌, ◌++◌, ◌<◌, ◌≤◌, Bool, false, List, [], ◌∷◌, None, drop, get_or, length, map, refl, sym, ap, ap₂, ◌∙◌, arith}
use Rattle.std.specs.Prelude.{◌&&◌, is_some, not, option_and_then, option_to_list, slice_get}
use Rattle.std.proofs.lemmas.List.{append_assoc, drop_more, length-map}
use Rattle.ti_caps.specs.Tables.{Capability}
use Rattle.ti_source.specs.Folding.{PlacedByte}
use Rattle.ti_source.specs.Items.{bytes}
use Rattle.ti_source.specs.Parsing.{reading_of_text}
use Rattle.ti_source.specs.Reading.{Reading}
use Rattle.ti_source.specs.Stating.{statement_of}
use Rattle.base_meaning.specs.Owner.{readings}
use Rattle.source_spans.specs.Parts.{part_of}
use Rattle.source_spans.specs.declared.parts.Part.{Part}
use Rattle.source_block_hints.specs.Blocks.{hint_on}
use Rattle.source_block_hints.specs.Mentions.{has, mention_in, number_said}
use Rattle.source_hints.specs.Uses.{after_found, hints_from, owner_in, said_at, said_of, use_hints, use_says}
use Rattle.source_block_hints.specs.declared.hint.Hint.{Hint}
use Rattle.source_block_hints.proofs.Saying.{among_same, more_same}

-- nothing is past the end of a list
past : {X : Type 0} (xs : List X) (i : ℕ) → length xs ≤ i → slice_get xs i ≡ None
past [] i over = refl
past (x ∷ xs) zero over = absurd (omega (arith, over))
past (x ∷ xs) (suc i) over = past xs i (omega (arith, over))

-- no block past the last says anything
pub none_said : (texts : List (List ℕ)) (c : Capability) (at : ℕ) → length texts ≤ at → false ≡ is_some (said_at (readings texts) c at)
none_said texts c at over =
    sym (ap (λ o. is_some (option_and_then (said_of (readings texts) c) o))
    (past (readings texts) at (omega (arith, over, length-map texts reading_of_text))))

-- the hints depend only on which numbers are said
hints_same : (blocks : List Reading) (xs ys uses : List ℕ) (items : List (List PlacedByte)) → ((n : ℕ) → has n xs ≡ has n ys)
    → hints_from blocks xs uses items ≡ hints_from blocks ys uses items
hints_same blocks xs ys uses [] same = refl
hints_same blocks xs ys uses (item ∷ items) same =
    let text = bytes item in
    let number = number_said text in
    ap₂ (λ (hints more : List Hint). hints ++ more)
    (ap (λ (b : Bool). map (hint_on item) (after_found (not b && use_says blocks uses (mention_in text)) (statement_of text))) (among_same xs ys number same))
    (hints_same blocks (xs ++ option_to_list number) (ys ++ option_to_list number) (uses ++ option_to_list (owner_in blocks text)) items
    (more_same xs ys (option_to_list number) same))

-- one more item
pub from_next : (blocks : List Reading) (text : List PlacedByte) (parts : List Part) (at : ℕ) (d : Part) (hints new all : List Hint)
    (said uses said_too uses_too : List ℕ) → at < length parts
    → new ≡ hints ++ use_hints blocks said uses (part_of text (get_or parts at d))
    → ((n : ℕ) → has n said_too ≡ has n (said ++ option_to_list (number_said (bytes (part_of text (get_or parts at d))))))
    → uses_too ≡ uses ++ option_to_list (owner_in blocks (bytes (part_of text (get_or parts at d))))
    → hints ++ hints_from blocks said uses (map (part_of text) (drop at parts)) ≡ all
    → new ++ hints_from blocks said_too uses_too (map (part_of text) (drop (at + 1) parts)) ≡ all
from_next blocks text parts at d hints new all said uses said_too uses_too within is_new noted is_used so =
    let item = part_of text (get_or parts at d) in
    let rest = map (part_of text) (drop (at + 1) parts) in
    let next = said ++ option_to_list (number_said (bytes item)) in
    ap₂ (λ (hs more : List Hint). hs ++ more) is_new
    (hints_same blocks said_too next uses_too rest noted ∙ ap (λ (u : List ℕ). hints_from blocks next u rest) is_used)
    ∙ append_assoc hints (use_hints blocks said uses item) (hints_from blocks next (uses ++ option_to_list (owner_in blocks (bytes item))) rest)
    ∙ ap (λ (ps : List Part). hints ++ hints_from blocks said uses (map (part_of text) ps)) (sym (drop_more parts at d within)) ∙ so
