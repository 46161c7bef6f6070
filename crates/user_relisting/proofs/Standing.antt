-- A text that is laid out as a listing with user-defined items is one block.
use Rattle.std.proofs.Common.{◌≡◌, List, ◌∷◌, ℕ, refl, ap, sym, ◌∙◌, subst}
use Rattle.std.specs.List.{All}
use Rattle.std.proofs.lemmas.List.{append-nil}
use Rattle.std.proofs.lemmas.List.Elements.{All-head, All-tail}
use Rattle.ti_text.proofs.Texts.{last_byte-append}
use Rattle.ti_caps.specs.Tables.{EveryNameIsFound}
use Rattle.ti_source.specs.Cutting.{last_byte, HasNoHead, HasOneHead}
use Rattle.ti_spelling.specs.Spelling.{WrittenSpells}
use Rattle.tools_relisting.proofs.Standing.{inline-headless, field-head}
use Rattle.user_relisting.specs.Items.{Item, item_text, IsTail, no_more, same_line, new_line, CanBeWritten, ItemsAreBlocks}
use Rattle.user_relisting.proofs.Stating.{item-readable}

tail-headless : EveryNameIsFound → WrittenSpells → (items : List Item) (tail : List ℕ) → All CanBeWritten items → IsTail items tail → HasNoHead 44 tail
tail-headless found spells _ _ can no_more = (refl, tt)
tail-headless found spells _ _ can (same_line item items tail laid) =
    let readable = item-readable found spells item (All-head CanBeWritten item items can) in (
      refl,
      inline-headless 32 (item_text item) tail refl readable.stated.inline
          (tail-headless found spells items tail (All-tail CanBeWritten item items can) laid),
    )
tail-headless found spells _ _ can (new_line item items tail laid) =
    let readable = item-readable found spells item (All-head CanBeWritten item items can) in (
      refl,
      (
        refl,
        inline-headless 9 (item_text item) tail refl readable.stated.inline
            (tail-headless found spells items tail (All-tail CanBeWritten item items can) laid),
      ),
    )

tail-ends : (items : List Item) (tail : List ℕ) → IsTail items tail → last_byte 44 tail ≡ 10
tail-ends _ _ no_more = refl
tail-ends _ _ (same_line item items tail laid) = last_byte-append 32 (item_text item) (44 ∷ tail) ∙ tail-ends items tail laid
tail-ends _ _ (new_line item items tail laid) = last_byte-append 9 (item_text item) (44 ∷ tail) ∙ tail-ends items tail laid

pub items_stand : EveryNameIsFound → WrittenSpells → ItemsAreBlocks
items_stand found spells field names items text good can is =
    let head : HasOneHead text =
    subst HasOneHead (sym is.whole) (field-head field is.tail names good (tail-headless found spells items is.tail can is.is_tail)) in
    record {
      cut = record { whole = sym (append-nil text); front = tt; each = (refl, head, tt) };
      ends = ap (last_byte 0) is.whole ∙ last_byte-append 0 field (44 ∷ is.tail) ∙ tail-ends items is.tail is.is_tail;
    }
