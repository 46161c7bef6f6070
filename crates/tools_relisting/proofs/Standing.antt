-- A text that is laid out as a listing is one block.
use Rattle.std.proofs.Common.{◌≡◌, ℕ, true, false, not, ◌==◌, List, [], ◌∷◌, ◌++◌, refl, ap, sym, ◌∙◌, subst, inl, inr, arith}
use Rattle.std.specs.List.{All, concat, prefix_len}
use Rattle.std.proofs.lemmas.Bool.{cases_Bool, and_parts, and_left, not-true, ne_eqb}
use Rattle.std.proofs.lemmas.List.{append-nil}
use Rattle.std.proofs.lemmas.List.Elements.{All-head, All-tail}
use Rattle.ti_text.proofs.Texts.{last_byte-append}
use Rattle.ti_caps.specs.Tables.{EveryNameIsFound}
use Rattle.ti_text.specs.WhiteSpace.{is_white_space}
use Rattle.ti_source.specs.Cutting.{begins_head, last_byte, HasNoHead, HasOneHead, AreBlocks, Cut, OneBlock}
use Rattle.ti_source.specs.Header.{IsNameByte, IsLookupName}
use Rattle.ti_source.specs.Reading.{Said}
use Rattle.ti_spelling.specs.Spelling.{WrittenSpells}
use Rattle.ti_list.specs.Items.{item_text, IsTail, no_more, same_line, new_line, CanBeListed, IsListable}
use Rattle.ti_list.specs.RelativeSource.{first_name}
use Rattle.tools_relisting.specs.ReadingBack.{PartsAreBlocks}
use Rattle.tools_relisting.proofs.Cutting.{is_inline}
use Rattle.tools_relisting.proofs.ReadBack.{item-readable}
use Rattle.tools_relisting.proofs.Heading.{one_plus, first-lookup}

-- no head line begins in a line, nor just after it
pub inline-headless : (before : ℕ) (w rest : List ℕ) → (before == 10) ≡ false → is_inline w ≡ true → HasNoHead 44 rest → HasNoHead before (w ++ 44 ∷ rest)
inline-headless before [] rest b h none = (and_left (before == 10) (begins_head 44) b, none)
inline-headless before (x ∷ xs) rest b h none =
    let parts = and_parts (not (x == 10)) (is_inline xs) h in
    (and_left (before == 10) (begins_head x) b, inline-headless x xs rest (not-true (x == 10) parts.0) parts.1 none)

tail-headless : EveryNameIsFound → WrittenSpells → (items : List Said) (tail : List ℕ) → All CanBeListed items → IsTail items tail → HasNoHead 44 tail
tail-headless found spells _ _ can no_more = (refl, tt)
tail-headless found spells _ _ can (same_line item items tail laid) =
    let readable = item-readable found spells item (All-head CanBeListed item items can) in
    (refl, inline-headless 32 (item_text item) tail refl readable.inline (tail-headless found spells items tail (All-tail CanBeListed item items can) laid))
tail-headless found spells _ _ can (new_line item items tail laid) =
    let readable = item-readable found spells item (All-head CanBeListed item items can) in (
      refl,
      (
        refl,
        inline-headless 9 (item_text item) tail refl readable.inline
            (tail-headless found spells items tail (All-tail CanBeListed item items can) laid),
      ),
    )

tail-ends : (items : List Said) (tail : List ℕ) → IsTail items tail → last_byte 44 tail ≡ 10
tail-ends _ _ no_more = refl
tail-ends _ _ (same_line item items tail laid) = last_byte-append 32 (item_text item) (44 ∷ tail) ∙ tail-ends items tail laid
tail-ends _ _ (new_line item items tail laid) = last_byte-append 9 (item_text item) (44 ∷ tail) ∙ tail-ends items tail laid

-- the first byte of a names field is that of its first name
name-first : (x : ℕ) (xs : List ℕ) → IsLookupName (first_name (x ∷ xs)) → IsNameByte x
name-first x xs is =
    elim (cases_Bool (x == 124)) [
      | inl bar ↦ let none : first_name (x ∷ xs) ≡ [] = rw bar refl in absurd (is.some none)
      | inr other ↦
          let n = prefix_len (λ b. not (b == 124)) xs in
          let named : All IsNameByte (first_name (x ∷ xs)) = is.bytes in
          All-head IsNameByte x (first_name xs) (rw (other, one_plus n) at named)
    ]

pub field-head : (field tail : List ℕ) (names : List (List ℕ)) → IsListable field names → HasNoHead 44 tail → HasOneHead (field ++ 44 ∷ tail)
field-head [] tail names good none = absurd ((first-lookup [] names good.header).some refl)
field-head (x ∷ xs) tail names good none =
    let byte = name-first x xs (first-lookup (x ∷ xs) names good.header) in
    let low = byte.0 in
    let line : (x == 10) ≡ false = ne_eqb x 10 (λ e. omega (arith, e, low)) in
    let space : is_white_space x ≡ false = rw (ne_eqb x 32 (λ e. omega (arith, e, low)), ne_eqb x 9 (λ e. omega (arith, e, low))) refl in
    let head : begins_head x ≡ true = rw (space, good.plain x xs refl, line) refl in
    (head, inline-headless x xs tail line (and_parts (not (x == 10)) (is_inline xs) good.inline).1 none)

pub parts_stand : EveryNameIsFound → WrittenSpells → PartsAreBlocks
parts_stand found spells field names items text good can is =
    let head : HasOneHead text =
    subst HasOneHead (sym is.whole) (field-head field is.tail names good (tail-headless found spells items is.tail can is.is_tail)) in
    record {
      cut = record { whole = sym (append-nil text); front = tt; each = (refl, head, tt) };
      ends = ap (last_byte 0) is.whole ∙ last_byte-append 0 field (44 ∷ is.tail) ∙ tail-ends items is.tail is.is_tail;
    }

-- ---- single blocks make a source

last-some : (a b : ℕ) (text : List ℕ) → HasOneHead text → last_byte a text ≡ last_byte b text
last-some a b [] head = absurd head
last-some a b (x ∷ xs) head = refl

blocks-cut : (before : ℕ) (texts : List (List ℕ)) → before ≡ 10 → All OneBlock texts → AreBlocks before texts
blocks-cut before [] e single = tt
blocks-cut before (text ∷ texts) e single =
    let one = All-head OneBlock text texts single in
    let head = one.cut.each.1 in
    (e, head, blocks-cut (last_byte before text) texts (last-some before 0 text head ∙ one.ends) (All-tail OneBlock text texts single))

pub single-cut : (texts : List (List ℕ)) → All OneBlock texts → Cut (concat texts) [] texts
single-cut texts single = record { whole = refl; front = tt; each = blocks-cut 10 texts refl single }
