-- The entries of a source by either rule, where its blocks are plain.
use Rattle.std.proofs.Common.{◌≡◌, ℕ, List, Option, Some, None, option_map, option_and_then, slice_get, refl, sym, ◌∙◌, ap}
use Rattle.std.proofs.lemmas.Bool.{false≢true}
use Rattle.std.proofs.lemmas.Option.{slice_get-map}
use Rattle.ti_caps.specs.Tables.{Capability}
use Rattle.ti_source.specs.declared.parsing.Rule.{Rule}
use Rattle.ti_source.specs.declared.parsing.Rule.TheVariants.{Leftmost, OwnFirst}
use Rattle.ti_source.specs.Reading.{Reading}
use Rattle.ti_layout.specs.Image.{image_limit}
use Rattle.ti_layout.specs.Laws.{without_cancel, ShowSame}
use Rattle.ti_layout.specs.Values.{Mention, contents}
use Rattle.ti_layout.proofs.OfValues.{images_are_of_values, limits_are_of_values}
use Rattle.base_meaning.specs.Compiled.{compiled_by, entry, entry_of, image_of}
use Rattle.base_meaning.specs.Expansion.{values}
use Rattle.base_meaning.specs.Owner.{readings}
use Rattle.base_meaning.specs.Readings.{by_rule}
use Rattle.base_meaning.specs.Rules.{all_by_rule, ArePlain, PlainSourcesCompileAlike, SaySame}
use Rattle.base_meaning.proofs.RuleLaws.{rules_agree}
use Rattle.base_meaning.proofs.Ruling.{readings_are_by}

-- mentions that say the same give the same entry
same_entry : (b : Reading) (ms ns : List Mention) → ((c : Capability) → contents ms c ≡ contents ns c) → entry_of b ms ≡ entry_of b ns
same_entry b ms ns h =
    let shows : ShowSame (values ms) (values ns) = λ c valid. ap (λ o. without_cancel (without_cancel o)) (h c) in
    let image : image_of b ms ≡ image_of b ns = images_are_of_values b.field (values ms) (values ns) shows in
    let limit : image_limit (values ms) ≡ image_limit (values ns) = limits_are_of_values (values ms) (values ns) shows in
    rw (image, limit) refl

same_if_there : (b : Reading) (one other : Option (List Mention)) → SaySame one other
    → option_and_then (entry_of b) one ≡ option_and_then (entry_of b) other
same_if_there b None None s = refl
same_if_there b None (Some ns) s = absurd (false≢true s.there)
same_if_there b (Some ms) None s = absurd (false≢true (sym s.there))
same_if_there b (Some ms) (Some ns) s = same_entry b ms ns s.same

-- the entry of the block at a position
abbrev entry_at : List Reading → ℕ → Option (List ℕ)
entry_at bs at = option_and_then (entry bs) (slice_get bs at)

same_at : (bs : List Reading) (at : ℕ) (o : Option Reading) → ArePlain bs → slice_get bs at ≡ o
    → option_and_then (entry (all_by_rule OwnFirst bs)) (option_map (by_rule OwnFirst) o)
    ≡ option_and_then (entry (all_by_rule Leftmost bs)) (option_map (by_rule Leftmost) o)
same_at bs at None plain e = refl
same_at bs at (Some b) plain e = sym (same_if_there b _ _ (rules_agree bs plain at b e))

entries_alike : (bs : List Reading) (at : ℕ) → ArePlain bs → entry_at (all_by_rule OwnFirst bs) at ≡ entry_at (all_by_rule Leftmost bs) at
entries_alike bs at plain =
    ap (option_and_then (entry (all_by_rule OwnFirst bs))) (slice_get-map (by_rule OwnFirst) bs at)
    ∙ (same_at bs at (slice_get bs at) plain refl ∙ sym (ap (option_and_then (entry (all_by_rule Leftmost bs))) (slice_get-map (by_rule Leftmost) bs at)))

compiled_as : (rule : Rule) (texts : List (List ℕ)) (at : ℕ) → compiled_by rule texts at ≡ entry_at (all_by_rule rule (readings texts)) at
compiled_as rule texts at = ap (λ bs. entry_at bs at) (readings_are_by rule texts)

pub compiled_alike : PlainSourcesCompileAlike
compiled_alike texts plain at =
    compiled_as OwnFirst texts at ∙ (entries_alike (readings texts) at plain ∙ sym (compiled_as Leftmost texts at))
