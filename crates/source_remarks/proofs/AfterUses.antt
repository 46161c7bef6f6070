-- The hints on a block in a source: with those on items after a use, if there are such items.
use Rattle.std.proofs.Common.{◌≡◌, ◌∙◌, ℕ, Bool, false, List, [], ◌∷◌, Option, Some, ap, map, refl, slice_get, sym}
use Rattle.std.specs.Option.{option_map_or}
use Rattle.source_hints.specs.Following.{OthersHaveNoHintAfterUses, says_after_use}
use Rattle.source_block_hints.specs.declared.hint.Hint.{Hint}
use Rattle.source_diagnostics.specs.Marking.{text_at}
use Rattle.source_hints.specs.Hints.{hints_of}
use Rattle.source_hints.specs.Merging.{merged}
use Rattle.source_remarks.specs.Hints.{block_marks, mark_of, source_marks}

-- with no others, hints are as they are
merged-none : (hints : List Hint) → merged hints [] ≡ hints
merged-none [] = refl
merged-none (hint ∷ hints) = ap (λ (hs : List Hint). hint ∷ hs) (merged-none hints)

pub text_there : (texts : List (List ℕ)) (at : ℕ) (text : List ℕ) → slice_get texts at ≡ Some text → text_at texts at ≡ text
text_there texts at text stands = ap (λ (o : Option (List ℕ)). option_map_or (λ t. t) o []) stands

-- the hints on a block without such items are those on its text
pub text_alone : OthersHaveNoHintAfterUses → (user_defined : Bool) (texts : List (List ℕ)) (at : ℕ) (text : List ℕ) → slice_get texts at ≡ Some text
    → says_after_use text ≡ false → block_marks user_defined text ≡ source_marks user_defined texts at
text_alone none user_defined texts at text stands silent =
    let there : text ≡ text_at texts at = sym (text_there texts at text stands) in
    ap (block_marks user_defined) there
    ∙ ap (map (mark_of (text_at texts at)))
    (sym (merged-none (hints_of user_defined (text_at texts at)))
    ∙ ap (merged (hints_of user_defined (text_at texts at))) (sym (none texts at text stands silent)))
