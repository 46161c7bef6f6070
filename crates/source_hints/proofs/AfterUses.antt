-- Items that say a capability after a use.
use Rattle.std.proofs.Common.{◌≡◌, ◌∙◌, ℕ, ◌++◌, Bool, true, false, List, [], ◌∷◌, Option, None, Some, map, refl, sym, ap}
use Rattle.std.specs.Prelude.{◌&&◌, ◌||◌, is_some, not, option_to_list}
use Rattle.std.proofs.lemmas.Bool.{false≢true}
use Rattle.ti_caps.specs.Tables.{Capability}
use Rattle.ti_source.specs.Folding.{PlacedByte}
use Rattle.ti_source.specs.Items.{Statement, bytes}
use Rattle.ti_source.specs.Reading.{Reading}
use Rattle.ti_source.specs.Stating.{statement_of}
use Rattle.source_spans.specs.Folding.{folded_of}
use Rattle.source_spans.specs.Subjects.{items_of}
use Rattle.base_meaning.specs.Owner.{readings}
use Rattle.source_block_hints.specs.Blocks.{hint_on}
use Rattle.source_hints.specs.Following.{OthersHaveNoHintAfterUses, says_after, says_after_use, states_use}
use Rattle.source_block_hints.specs.Mentions.{is_among, mention_in, number_said}
use Rattle.source_hints.specs.Uses.{after_found, after_uses, hints_from, is_after_use, owner_in, owner_used, text_hints, use_hints, use_says}
use Rattle.source_block_hints.specs.declared.hint.Hint.{Hint}

-- no use says anything if there is none, or of no capability
silent : (blocks : List Reading) (used : Bool) (uses : List ℕ) (c : Option Capability) → (used ≡ false → uses ≡ []) → (used && is_some c) ≡ false
    → use_says blocks uses c ≡ false
silent blocks used uses None none e = refl
silent blocks true uses (Some c) none e = absurd (false≢true (sym e))
silent blocks false uses (Some c) none e = ap (λ (us : List ℕ). use_says blocks us (Some c)) (none refl)

both_false : (a b : Bool) → (a || b) ≡ false → (a ≡ false) × (b ≡ false)
both_false true b e = absurd (false≢true (sym e))
both_false false b e = (refl, e)

not-said : (b c : Bool) → c ≡ false → (not b && c) ≡ false
not-said true c e = refl
not-said false c e = e

none-found : (b : Bool) (s : Option Statement) → b ≡ false → after_found b s ≡ []
none-found true s e = absurd (false≢true (sym e))
none-found false s e = refl

-- an item that is no use uses no block
no-owner : (blocks : List Reading) (s : Option Statement) → states_use s ≡ false → owner_used blocks s ≡ None
no-owner blocks None e = refl
no-owner blocks (Some s) e = rw e refl

still-none : (blocks : List Reading) (used : Bool) (uses : List ℕ) (text : List ℕ) → (used ≡ false → uses ≡ [])
    → (used || states_use (statement_of text)) ≡ false → uses ++ option_to_list (owner_in blocks text) ≡ []
still-none blocks used uses text none e =
    let parts = both_false used (states_use (statement_of text)) e in
    let no : owner_in blocks text ≡ None = no-owner blocks (statement_of text) parts.1 in
    ap (λ (o : Option ℕ). uses ++ option_to_list o) no ∙ ap (λ (us : List ℕ). us ++ []) (none parts.0)

no_hints : (blocks : List Reading) (said uses : List ℕ) (used : Bool) (items : List (List PlacedByte)) → (used ≡ false → uses ≡ [])
    → says_after used items ≡ false → hints_from blocks said uses items ≡ []
no_hints blocks said uses used [] none e = refl
no_hints blocks said uses used (item ∷ items) none e =
    let text = bytes item in
    let parts = both_false (used && is_some (mention_in text)) (says_after (used || states_use (statement_of text)) items) e in
    let quiet : use_says blocks uses (mention_in text) ≡ false = silent blocks used uses (mention_in text) none parts.0 in
    let none_here : use_hints blocks said uses item ≡ [] =
    ap (λ (fs : List _). map (hint_on item) fs)
    (none-found (is_after_use blocks said uses text) (statement_of text)
    (not-said (is_among said (number_said text)) (use_says blocks uses (mention_in text)) quiet)) in
    ap (λ (hs : List Hint). hs ++ hints_from blocks (said ++ option_to_list (number_said text)) (uses ++ option_to_list (owner_in blocks text)) items) none_here
    ∙ no_hints blocks (said ++ option_to_list (number_said text)) (uses ++ option_to_list (owner_in blocks text)) (used || states_use (statement_of text)) items
    (still-none blocks used uses text none) parts.1

pub others_have_none : OthersHaveNoHintAfterUses
unfolding says_after_use after_uses
others_have_none texts at text stands e =
    ap (λ (o : Option (List ℕ)). text_hints texts o) stands ∙ no_hints (readings texts) [] [] false (items_of (folded_of text)) (λ _. refl) e
