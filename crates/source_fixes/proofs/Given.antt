-- A name that a source can give ends before a comma.
use Rattle.std.proofs.Common.{◌≡◌, ℕ, suc, ◌+◌, ◌<◌, ◌==◌, ◌||◌, Bool, true, false, List, [], ◌∷◌, ◌++◌, append_assoc, codes, flat_map, length, map, Option}
use Rattle.std.proofs.Common.{None, Some, inl, inr, refl, sym, ap, ap₂, subst, ◌∙◌, arith}
use Rattle.std.specs.List.{list_all, list_any}
use Rattle.std.specs.Str.{bytes_eq}
use Rattle.std.proofs.lemmas.Bool.{and_parts, cases_Bool, eqb-true, false_from_ne_true, le-leb, leb-true, not-true}
use Rattle.std.proofs.lemmas.List.{append-nil, length-append}
use Rattle.std.proofs.lemmas.Slice.Eq.{bytes_eq-Decides}
use Rattle.ti_text.specs.WhiteSpace.{is_white_space}
use Rattle.ti_source.specs.Cutting.{begins_head}
use Rattle.ti_source.specs.Folding.{PlacedByte}
use Rattle.ti_source.specs.Header.{is_lookup_name, is_name_byte}
use Rattle.ti_source.specs.Items.{IsWhite, bytes, without_front, without_outer_space, without_white_front}
use Rattle.ti_spelling.specs.WhiteSpace.{without_trailing_space}
use Rattle.source_spans.specs.Folding.{bytes_at, folded_of, without_breaks, without_comments}
use Rattle.source_spans.specs.Parts.{items_after, rest_of, spanned}
use Rattle.source_spans.specs.Replacing.{BeginsVisible, IsOneLine}
use Rattle.source_spans.specs.Subjects.{UseSeen, items_of, use_at, use_in, used_name, uses_of, without_end}
use Rattle.source_spans.specs.declared.parts.Part.{Part}
use Rattle.source_spans.proofs.Escaping.{Escape, backslash, caret, cuts, escape_after, nothing}
use Rattle.source_spans.proofs.Exchanging.{block_from, computed}
use Rattle.source_spans.proofs.Plain.{goes_both}
use Rattle.source_spans.proofs.Recutting.{Goes, by_after, by_after_at, one_if_goes}
use Rattle.source_spans.proofs.Refolding.{bytes_apart, bytes_of_at, kept_after, line_kept}
use Rattle.source_blocks.specs.Giving.{block_with, can_be_given}
use Rattle.source_edits.specs.Shown.{shown, shown_byte}
use Rattle.source_edits.proofs.Marks.{end_bytes}
use Rattle.source_fixes.proofs.Placing.{after_with}

-- ---- the bytes of a name

pub record IsNameLike (x : ℕ) : Type 0 where
  pub comma : (x == 44) ≡ false
  pub newline : (x == 10) ≡ false
  pub white : is_white_space x ≡ false
  pub shows : shown_byte x ≡ x

unfoldable pub AreNameLike : List ℕ → Type 0
AreNameLike [] = Unit {0}
AreNameLike (x ∷ xs) = IsNameLike x × AreNameLike xs

or_first : (a b : Bool) → (a || b) ≡ false → a ≡ false
or_first true b e = e
or_first false b e = refl

name_like : (x : ℕ) → is_name_byte x ≡ true → IsNameLike x
name_like x is =
    let first = and_parts _ _ is in
    let bounds = and_parts _ _ first.0 in
    let low = leb-true 33 x bounds.0 in
    let high = leb-true x 126 bounds.1 in
    let above : (n : ℕ) → n < 33 → (x == n) ≡ false =
    λ n less. false_from_ne_true (x == n) (λ e. let same = eqb-true x n e in omega (arith, low, same, less)) in
    record {
      comma = or_first (x == 44) (x == 47) (or_first (x == 44 || x == 47) (x == 124) (not-true _ first.1));
      newline = above 10 (omega arith);
      white = rw (above 32 (omega arith), above 9 (omega arith)) refl;
      shows = rw (le-leb 32 x (omega (arith, low)), bounds.1) refl;
    }

all_name_like : (text : List ℕ) → list_all is_name_byte text ≡ true → AreNameLike text
unfolding AreNameLike
all_name_like [] all = tt
all_name_like (x ∷ xs) all = let both = and_parts _ _ all in (name_like x both.0, all_name_like xs both.1)

shown_same : (text : List ℕ) → AreNameLike text → shown text ≡ text
unfolding AreNameLike
shown_same [] are = refl
shown_same (x ∷ xs) are = ap₂ (λ (b : ℕ) (t : List ℕ). b ∷ t) are.0.shows (shown_same xs are.1)

-- ---- no comma

unfoldable pub HasNone : List ℕ → Type 0
HasNone [] = Unit {0}
HasNone (x ∷ xs) = ((x == 44) ≡ false) × HasNone xs

pub none_both : (one other : List ℕ) → HasNone one → HasNone other → HasNone (one ++ other)
unfolding HasNone
none_both [] other none more = more
none_both (x ∷ xs) other none more = (none.0, none_both xs other none.1 more)

pub none_named : (text : List ℕ) → AreNameLike text → HasNone text
unfolding HasNone AreNameLike
none_named [] are = tt
none_named (x ∷ xs) are = (are.0.comma, none_named xs are.1)

pub none_white : (text : List ℕ) → IsWhite text → HasNone text
unfolding HasNone
none_white [] white = tt
none_white (x ∷ xs) white = (no_comma x white.0, none_white xs white.1)
  where
    no_comma : (x : ℕ) → is_white_space x ≡ true → (x == 44) ≡ false
    no_comma x white = false_from_ne_true (x == 44) (λ e. let is = rw (eqb-true x 44 e) at white in cc)

none_cut : (by : Escape) (x : ℕ) → (x == 44) ≡ false → cuts by x ≡ false
none_cut nothing x e = e
none_cut backslash x e = refl
none_cut caret x e = e

pub none_goes : (by : Escape) (before : ℕ) (text : List PlacedByte) → HasNone (bytes text) → Goes by before text
unfolding HasNone Goes
none_goes by before [] none = tt
none_goes by before (x ∷ xs) none = (none_cut by x.0 none.0, none_goes (escape_after by before x.0) x.0 xs none.1)

-- ---- white space around a name

front_kept : (x : ℕ) (xs : List ℕ) → IsNameLike x → without_white_front (x ∷ xs) ≡ x ∷ xs
front_kept x xs is = rw is.white refl

all_white : (end : List ℕ) → IsWhite end → list_all is_white_space end ≡ true
all_white [] white = refl
all_white (x ∷ xs) white = rw white.0 (all_white xs white.1)

end_dropped : (end : List ℕ) → IsWhite end → without_trailing_space end ≡ []
end_dropped [] white = refl
end_dropped (x ∷ xs) white = rw (all_white (x ∷ xs) white) refl

pub name_left : (name end : List ℕ) → AreNameLike name → IsWhite end → without_trailing_space (name ++ end) ≡ name
unfolding AreNameLike
name_left [] end are white = end_dropped end white
name_left (x ∷ xs) end are white = rw are.0.white (ap (λ (t : List ℕ). x ∷ t) (name_left xs end are.1 white))

white_dropped : (white text : List ℕ) → IsWhite white → without_white_front (white ++ text) ≡ without_white_front text
white_dropped [] text are = refl
white_dropped (x ∷ xs) text are = rw are.0 (white_dropped xs text are.1)

-- the name that an item `use=` gives
pub outer_dropped : (white name end : List ℕ) → IsWhite white → AreNameLike name → IsWhite end → BeginsVisible name
    → without_outer_space (white ++ (name ++ end)) ≡ name
unfolding AreNameLike
outer_dropped white [] end are like ends visible = absurd visible
outer_dropped white (x ∷ xs) end are like ends visible =
    ap without_trailing_space (white_dropped white ((x ∷ xs) ++ end) are ∙ front_kept x (xs ++ end) like.0) ∙ name_left (x ∷ xs) end like ends

-- ---- a block that has a name and uses it

one_line : (text : List ℕ) → AreNameLike text → IsOneLine text
unfolding AreNameLike
one_line [] are = tt
one_line (x ∷ xs) are = (are.0.newline, one_line xs are.1)

line_both : (one other : List ℕ) → IsOneLine one → IsOneLine other → IsOneLine (one ++ other)
line_both [] other line more = more
line_both (x ∷ xs) other line more = (line.0, line_both xs other line.1 more)

in_comment_lost : (before offset : ℕ) (text : List ℕ) → (before == 10) ≡ false → IsOneLine text → without_comments true before (bytes_at offset text) ≡ []
in_comment_lost before offset [] plain line = refl
in_comment_lost before offset (x ∷ xs) plain line = rw plain (in_comment_lost x (suc offset) xs line.0 line.1)

-- the items of the block
after_comma : List ℕ → List ℕ
after_comma name = codes "use=" ++ (name ++ 44 ∷ [])

block_is : (name : List ℕ) → block_with name ≡ name ++ 44 ∷ after_comma name
unfolding after_comma
block_is name =
    ap (λ (t : List ℕ). t ++ 44 ∷ []) (append_assoc name (codes ",use=") name) ∙ append_assoc name (codes ",use=" ++ name) (44 ∷ [])

rest_is : (offset : ℕ) (name more : List ℕ) → AreNameLike name → rest_of (bytes_at offset (name ++ 44 ∷ more)) ≡ bytes_at (suc (offset + length name)) more
unfolding AreNameLike
rest_is offset [] more are = ap (λ (n : ℕ). bytes_at (suc n) more) (omega arith)
rest_is offset (x ∷ xs) more are = rw are.0.comma (rest_is (suc offset) xs more are.1 ∙ ap (λ (n : ℕ). bytes_at (suc n) more) (omega arith))

-- the text after the names field goes on, if the name takes its comma
taken_goes : (offset : ℕ) (name : List ℕ) → AreNameLike name → cuts (by_after nothing 44 (bytes_at 0 name)) 44 ≡ false
    → Goes nothing 44 (bytes_at offset (after_comma name))
unfolding after_comma HasNone Goes
taken_goes offset name are takes =
    let word : List PlacedByte = (117, offset) ∷ (115, suc offset) ∷ (101, suc (suc offset)) ∷ [] in
    let sign : PlacedByte = (61, suc (suc (suc offset))) in
    let there = suc (suc (suc (suc offset))) in
    let placed = bytes_at there name in
    let comma : PlacedByte = (44, there + length name) in
    let one = (word ++ sign ∷ []) ++ placed in
    let whole : bytes_at offset (codes "use=" ++ (name ++ 44 ∷ [])) ≡ one ++ comma ∷ [] =
    ap (λ (t : List PlacedByte). (word ++ sign ∷ []) ++ t) (bytes_apart there name (44 ∷ [])) in
    let none : HasNone (bytes one) = (refl, (refl, (refl, (refl, subst HasNone (sym (bytes_of_at there name)) (none_named name are))))) in
    let same : by_after nothing 44 one ≡ by_after nothing 44 (bytes_at 0 name) =
    after_with word sign placed (refl, (refl, (refl, (refl, tt)))) refl
    ∙ by_after_at nothing 44 placed (bytes_at 0 name) (bytes_of_at there name ∙ sym (bytes_of_at 0 name)) in
    subst (Goes nothing 44) (sym whole)
    (goes_both nothing 44 one (comma ∷ []) (none_goes nothing 44 one none) (ap (λ (e : Escape). cuts e 44) same ∙ takes, tt))

-- the name that it uses then has a comma
longer : (name : List ℕ) → bytes_eq (name ++ 44 ∷ []) name ≡ false
longer name =
    false_from_ne_true (bytes_eq (name ++ 44 ∷ []) name)
    (λ e. let same = ap length ((bytes_eq-Decides (name ++ 44 ∷ []) name).0 e) in omega (arith, same, length-append name (44 ∷ [])))

front_bytes : (text : List PlacedByte) → bytes (without_front text) ≡ without_white_front (bytes text)
front_bytes [] = refl
front_bytes (x ∷ xs) =
    elim (cases_Bool (is_white_space x.0)) [ inl t ↦ rw t (front_bytes xs) | inr f ↦ rw f refl ]

pub used_bytes : (value : List PlacedByte) → bytes (without_end (without_front value)) ≡ without_outer_space (bytes value)
used_bytes value = end_bytes (without_front value) ∙ ap without_trailing_space (front_bytes value)

no_use : (name : List ℕ) (used : List PlacedByte) (span : Option Part) → bytes_eq (bytes used) name ≡ false
    → list_any (λ (found : UseSeen). bytes_eq found.name name) (use_at used span) ≡ false
no_use name used None other = refl
no_use name used (Some span) other = rw other refl

-- the uses of a text with this folded text
abbrev uses_in : List PlacedByte → List UseSeen
uses_in text = flat_map (λ (item : List PlacedByte). use_in (used_name item)) (items_of text)

nothing_used : (name : List ℕ) → list_any (λ (found : UseSeen). bytes_eq found.name name) (uses_in []) ≡ false
nothing_used name = refl

-- the one item of the block, if the name takes its comma
one_item : (offset : ℕ) (name : List ℕ) → AreNameLike name → cuts (by_after nothing 44 (bytes_at 0 name)) 44 ≡ false
    → map without_front (items_after 44 (bytes_at offset (after_comma name))) ≡ bytes_at offset (after_comma name) ∷ []
unfolding after_comma
one_item offset name are takes =
    let text = bytes_at offset (after_comma name) in
    ap (map without_front) (computed text ∙ one_if_goes nothing 44 text (taken_goes offset name are takes))

used_there : (offset : ℕ) (name : List ℕ) → used_name (bytes_at offset (after_comma name)) ≡ Some
    (without_end (without_front (bytes_at (suc (suc (suc (suc offset)))) (name ++ 44 ∷ []))))
unfolding after_comma
used_there offset name = refl

AreVisible : List ℕ → Type 0
AreVisible [] = Unit {0}
AreVisible (x ∷ xs) = (is_white_space x ≡ false) × AreVisible xs

with_comma : (text : List ℕ) → AreNameLike text → AreVisible (text ++ 44 ∷ [])
unfolding AreVisible AreNameLike
with_comma [] are = (refl, tt)
with_comma (x ∷ xs) are = (are.0.white, with_comma xs are.1)

visible_left : (text : List ℕ) → AreVisible text → without_trailing_space text ≡ text
unfolding AreVisible
visible_left [] are = refl
visible_left (x ∷ xs) are = rw are.0 (ap (λ (t : List ℕ). x ∷ t) (visible_left xs are.1))

comma_like : (name : List ℕ) → AreNameLike name → BeginsVisible name → without_outer_space (name ++ 44 ∷ []) ≡ name ++ 44 ∷ []
unfolding AreNameLike
comma_like [] are visible = absurd visible
comma_like (x ∷ xs) are visible = ap without_trailing_space (front_kept x (xs ++ 44 ∷ []) are.0) ∙ visible_left ((x ∷ xs) ++ 44 ∷ []) (with_comma (x ∷ xs) are)

-- no use of the block has the name
none_found : (offset : ℕ) (name : List ℕ) → AreNameLike name → BeginsVisible name → cuts (by_after nothing 44 (bytes_at 0 name)) 44 ≡ false
    → list_any (λ (found : UseSeen). bytes_eq found.name name)
    (flat_map (λ (item : List PlacedByte). use_in (used_name item)) (map without_front (items_after 44 (bytes_at offset (after_comma name))))) ≡ false
none_found offset name are visible takes =
    let test : List UseSeen → Bool = list_any (λ (found : UseSeen). bytes_eq found.name name) in
    let placed = bytes_at (suc (suc (suc (suc offset)))) (name ++ 44 ∷ []) in
    let used = without_end (without_front placed) in
    let is : bytes used ≡ name ++ 44 ∷ [] =
    used_bytes placed ∙ ap without_outer_space (bytes_of_at (suc (suc (suc (suc offset)))) (name ++ 44 ∷ [])) ∙ comma_like name are visible in
    ap (λ (items : List (List PlacedByte)). test (flat_map (λ (item : List PlacedByte). use_in (used_name item)) items)) (one_item offset name are takes)
    ∙ ap (λ (o : Option (List PlacedByte)). test (use_in o ++ [])) (used_there offset name)
    ∙ ap test (append-nil (use_at used (spanned used)))
    ∙ no_use name used (spanned used) (ap (λ (t : List ℕ). bytes_eq t name) is ∙ longer name)

head_begins : (x : ℕ) → IsNameLike x → (x == 35) ≡ false → begins_head x ≡ true
head_begins x is other = rw (is.white, other, is.newline) refl

use_line : (name : List ℕ) → AreNameLike name → IsOneLine (name ++ 44 ∷ after_comma name)
unfolding after_comma
use_line name are =
    line_both name (44 ∷ after_comma name) (one_line name are)
    (refl, (refl, (refl, (refl, (refl, line_both name (44 ∷ []) (one_line name are) (refl, tt))))))

commented : (xs : List ℕ) → IsOneLine (35 ∷ xs) → folded_of (35 ∷ xs) ≡ []
commented xs line = ap (without_breaks false) (in_comment_lost 35 1 xs refl line.1)

plain_folded : (x : ℕ) (xs : List ℕ) → begins_head x ≡ true → IsOneLine (x ∷ xs) → folded_of (x ∷ xs) ≡ bytes_at 0 (x ∷ xs)
plain_folded x xs head line =
    block_from x (bytes_at 1 xs) head
    ∙ ap (λ (t : List PlacedByte). (x, 0) ∷ t)
    (ap (λ (t : List PlacedByte). kept_after false x false t) (sym (append-nil (bytes_at 1 xs))) ∙ line_kept x 1 xs [] line.0 line.1
    ∙ append-nil (bytes_at 1 xs))

uses_none : (name : List ℕ) → AreNameLike name → BeginsVisible name → cuts (by_after nothing 44 (bytes_at 0 name)) 44 ≡ false
    → list_any (λ (found : UseSeen). bytes_eq found.name name) (uses_of (block_with name)) ≡ false
unfolding AreNameLike
uses_none [] are visible takes = absurd visible
uses_none (x ∷ xs) are visible takes =
    let name = x ∷ xs in
    let block = name ++ 44 ∷ after_comma name in
    let line = use_line name are in
    let test : List UseSeen → Bool = list_any (λ (found : UseSeen). bytes_eq found.name name) in
    ap (λ (t : List ℕ). test (uses_of t)) (block_is name)
    ∙ elim (cases_Bool (x == 35)) [
      | inl t ↦
          let hash : x ≡ 35 = eqb-true x 35 t in
          let lost : folded_of block ≡ [] =
          ap (λ (y : ℕ). folded_of (y ∷ (xs ++ 44 ∷ after_comma name))) hash
          ∙ commented (xs ++ 44 ∷ after_comma name) (subst (λ (y : ℕ). IsOneLine (y ∷ (xs ++ 44 ∷ after_comma name))) hash line) in
          ap (λ (t : List PlacedByte). test (uses_in t)) lost ∙ nothing_used name
      | inr f ↦
          let folded : folded_of block ≡ bytes_at 0 block = plain_folded x (xs ++ 44 ∷ after_comma name) (head_begins x are.0 f) line in
          ap (λ (t : List PlacedByte). test (uses_in t)) folded
          ∙ ap (λ (t : List PlacedByte). test (flat_map (λ (item : List PlacedByte). use_in (used_name item)) (map without_front (items_after 44 t))))
          (rest_is 0 name (after_comma name) are)
          ∙ none_found (suc (0 + length name)) name are visible takes
    ]

-- ---- what is known of a name that can be given

pub record IsGiven (name : List ℕ) : Type 0 where
  pub like : AreNameLike name
  pub visible : BeginsVisible name
  pub is_shown : shown name ≡ name
  pub ends : cuts (by_after nothing 44 (bytes_at 0 name)) 44 ≡ true

like_visible : (name : List ℕ) → (length name == 0) ≡ false → AreNameLike name → BeginsVisible name
unfolding AreNameLike
like_visible [] some are = cc
like_visible (x ∷ xs) some are = are.0.white

pub given : (name : List ℕ) → can_be_given name ≡ true → IsGiven name
given name can =
    let both = and_parts (is_lookup_name name) _ can in
    let first = and_parts _ _ both.0 in
    let second = and_parts _ _ first.0 in
    let third = and_parts _ _ second.0 in
    let like = all_name_like name first.1 in
    let visible = like_visible name (not-true _ third.0) like in
    record {
      like = like;
      visible = visible;
      is_shown = shown_same name like;
      ends = elim (cases_Bool (cuts (by_after nothing 44 (bytes_at 0 name)) 44)) [
        | inl t ↦ t
        | inr f ↦ let no = uses_none name like visible f in let yes = both.1 in cc
      ];
    }
