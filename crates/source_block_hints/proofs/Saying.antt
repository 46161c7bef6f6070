-- The hints on items depend only on which numbers are said.
use Rattle.std.proofs.Common.{◌≡◌, ◌==◌, ◌+◌, ◌||◌, ℕ, Bool, List, [], ◌∷◌, ◌++◌, Option, Some, None, drop, map, get_or, refl, sym, ap, ap₂, ◌∙◌, ◌<◌, length}
use Rattle.std.specs.Prelude.{option_to_list}
use Rattle.std.proofs.lemmas.List.{append_assoc, drop_more}
use Rattle.std.proofs.lemmas.List.Folds.{list_any-append}
use Rattle.ti_source.specs.Folding.{PlacedByte}
use Rattle.ti_source.specs.Items.{bytes}
use Rattle.source_spans.specs.Parts.{part_of}
use Rattle.source_spans.specs.declared.parts.Part.{Part}
use Rattle.source_block_hints.specs.Blocks.{found_in, hint_on, hints_after, item_hints}
use Rattle.source_block_hints.specs.Mentions.{has, is_among, number_said}
use Rattle.source_block_hints.specs.declared.hint.Hint.{Hint}

has_append : (n : ℕ) (xs ys : List ℕ) → has n (xs ++ ys) ≡ (has n xs || has n ys)
has_append n xs ys = list_any-append (λ other. other == n) xs ys

-- the same numbers with more after them
pub more_same : (xs ys more : List ℕ) → ((n : ℕ) → has n xs ≡ has n ys) → (n : ℕ) → has n (xs ++ more) ≡ has n (ys ++ more)
more_same xs ys more same n = has_append n xs more ∙ ap (λ b. b || has n more) (same n) ∙ sym (has_append n ys more)

pub among_same : (xs ys : List ℕ) (number : Option ℕ) → ((n : ℕ) → has n xs ≡ has n ys) → is_among xs number ≡ is_among ys number
among_same xs ys None same = refl
among_same xs ys (Some number) same = same number

pub hints_same : (xs ys : List ℕ) (items : List (List PlacedByte)) → ((n : ℕ) → has n xs ≡ has n ys) → hints_after xs items ≡ hints_after ys items
hints_same xs ys [] same = refl
hints_same xs ys (item ∷ items) same =
    let number = number_said (bytes item) in
    ap₂ (λ (hints more : List Hint). hints ++ more)
    (ap (λ (b : Bool). map (hint_on item) (found_in b (bytes item) item)) (among_same xs ys number same))
    (hints_same (xs ++ option_to_list number) (ys ++ option_to_list number) items (more_same xs ys (option_to_list number) same))

-- one more item
pub hints_next : (text : List PlacedByte) (parts : List Part) (at : ℕ) (d : Part) (hints all : List Hint) (said new : List ℕ) → at < length parts
    → ((n : ℕ) → has n new ≡ has n (said ++ option_to_list (number_said (bytes (part_of text (get_or parts at d))))))
    → hints ++ hints_after said (map (part_of text) (drop at parts)) ≡ all
    → (hints ++ item_hints said (part_of text (get_or parts at d))) ++ hints_after new (map (part_of text) (drop (at + 1) parts)) ≡ all
hints_next text parts at d hints all said new within noted so =
    let item = part_of text (get_or parts at d) in
    let rest = map (part_of text) (drop (at + 1) parts) in
    append_assoc hints (item_hints said item) (hints_after new rest)
    ∙ ap (λ (more : List Hint). hints ++ (item_hints said item ++ more)) (hints_same new (said ++ option_to_list (number_said (bytes item))) rest noted)
    ∙ ap (λ (ps : List Part). hints ++ hints_after said (map (part_of text) ps)) (sym (drop_more parts at d within)) ∙ so
