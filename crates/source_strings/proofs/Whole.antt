-- The pieces of a string and what is after them are the string.
use Rattle.std.proofs.Common.{◌≡◌, ℕ, zero, suc, ◌+◌, ◌≤◌, Bool, true, false, ◌&&◌, List, [], ◌∷◌, ◌++◌, length, take, drop, refl, sym, ap, ◌∙◌, subst, arith}
use Rattle.std.proofs.Common.{length-append}
use Rattle.std.specs.Prelude.{Option, Some, None, if◌then◌else◌}
use Rattle.std.specs.List.{flat_map}
use Rattle.std.proofs.lemmas.List.{append-nil, take-append-drop, take-take}
use Rattle.ti_formats.specs.Formats.{IsCutIntoTokens, no_tokens, then_byte, then_code}
use Rattle.ti_formats.specs.declared.codes.Placed.{Placed}
use Rattle.ti_formats.specs.inside.Formats.{stuck_place, tree_of}
use Rattle.ti_formats.proofs.OneTree as trees
use Rattle.source_strings.specs.Pieces.{PieceSeen, PiecesAreWhole, is_literal, piece_to, pieces_after, pieces_in, pieces_of, reading_of, stop_or, text_of, unread}
use Rattle.source_strings.specs.Words.{words_of}

-- ---- parts of a text

joined_at : (from middle : ℕ) (text : List ℕ) → from ≤ middle → drop from (take middle text) ++ drop middle text ≡ drop from text
joined_at zero middle text h = take-append-drop middle text
joined_at (suc from) zero text h = absurd (omega (arith, h))
joined_at (suc from) (suc middle) [] h = refl
joined_at (suc from) (suc middle) (x ∷ text) h = joined_at from middle text (omega (arith, h))

joined : (from middle end : ℕ) (text : List ℕ) → from ≤ middle → middle ≤ end
    → drop from (take middle text) ++ drop middle (take end text) ≡ drop from (take end text)
joined from middle end text h before =
    ap (λ t. drop from t ++ drop middle (take end text)) (sym (take-take middle end text before)) ∙ joined_at from middle (take end text) h

-- ---- tokens

-- the places of tokens go up, from one place to another
abbrev Ascending : ℕ → List Placed → ℕ → Type 0
Ascending at [] end = at ≤ end
Ascending at (p ∷ tokens) end = (at ≤ p.place) × Ascending p.place tokens end

from_before : (lower at : ℕ) (tokens : List Placed) (end : ℕ) → lower ≤ at → Ascending at tokens end → Ascending lower tokens end
from_before lower at [] end h up = omega (arith, h, up)
from_before lower at (p ∷ tokens) end h up = let first = up.0 in (omega (arith, h, first), up.1)

at_most : (at : ℕ) (tokens : List Placed) (end : ℕ) → Ascending at tokens end → at ≤ end
at_most at [] end up = up
at_most at (p ∷ tokens) end up = let first = up.0 in let rest = at_most p.place tokens end up.1 in omega (arith, first, rest)

ascending : (place : ℕ) (text : List ℕ) (tokens : List Placed) → IsCutIntoTokens place text tokens → Ascending place tokens (place + length text)
ascending place text tokens (no_tokens {place = _}) = omega arith
ascending place text tokens (then_byte b {text = rest} {tokens = others} plain cut) =
    let up = ascending (suc place) rest others cut in
    let end : suc place + length rest ≡ place + suc (length rest) = omega arith in
    (omega arith, subst (Ascending place others) end (from_before place (suc place) others (suc place + length rest) (omega arith) up))
ascending place text tokens (then_code front {rest = rest} {tokens = others} is cut) =
    let at = suc place + length front in
    let up = ascending at rest others cut in
    let end : at + length rest ≡ place + suc (length (front ++ rest)) = omega (arith, length-append front rest) in
    (omega arith, subst (Ascending place others) end (from_before place at others (at + length rest) (omega arith) up))

-- ---- pieces

module _ (text : List ℕ) where
  step : (start middle end : ℕ) (same rest : List PieceSeen) (literal : Bool) (words : List ℕ) (t : Bool)
      → flat_map (text_of text) same ≡ drop start (take end text) → flat_map (text_of text) rest ≡ drop middle (take end text)
      → start ≤ middle → middle ≤ end
      → flat_map (text_of text) (if t then same else piece_to start literal words middle ∷ rest) ≡ drop start (take end text)
  step start middle end same rest literal words true one other up within = one
  step start middle end same rest literal words false one other up within =
      ap (λ more. drop start (take middle text) ++ more) other ∙ joined start middle end text up within

  pieces_whole : (start : ℕ) (literal : Bool) (words : List ℕ) (tokens : List Placed) (end : ℕ) → Ascending start tokens end
      → flat_map (text_of text) (pieces_after start literal words tokens end) ≡ drop start (take end text)
  unfolding pieces_after
  pieces_whole start literal words [] end up = append-nil (drop start (take end text))
  pieces_whole start literal words (next ∷ tokens) end up =
      step start next.place end (pieces_after start literal words tokens end)
      (pieces_after next.place (is_literal next.token) (words_of next.token) tokens end) literal words (literal && is_literal next.token)
      (pieces_whole start literal words tokens end (from_before start next.place tokens end up.0 up.1))
      (pieces_whole next.place (is_literal next.token) (words_of next.token) tokens end up.1) up.0 (at_most next.place tokens end up.1)

  begun : (tokens : List Placed) (end : ℕ) (first : Placed) (others : List Placed) → tokens ≡ first ∷ others → first.place ≡ 0 → Ascending 0 others end
      → flat_map (text_of text) (pieces_in tokens end) ≡ take end text
  begun tokens end first others are at up =
      ap (λ ts. flat_map (text_of text) (pieces_in ts end)) are
      ∙ pieces_whole first.place (is_literal first.token) (words_of first.token) others end (subst (λ p. Ascending p others end) (sym at) up)
      ∙ ap (λ p. drop p (take end text)) at

  front_whole : (front : List ℕ) (tokens : List Placed) → IsCutIntoTokens 0 front tokens
      → flat_map (text_of text) (pieces_in tokens (length front)) ≡ take (length front) text
  front_whole front tokens cut = by front tokens (ascending 0 front tokens cut) cut
    where
      by : (front : List ℕ) (tokens : List Placed) → Ascending 0 tokens (0 + length front) → IsCutIntoTokens 0 front tokens
          → flat_map (text_of text) (pieces_in tokens (length front)) ≡ take (length front) text
      by front tokens up (no_tokens {place = _}) = refl
      by front tokens up (then_byte b {text = rest} {tokens = others} plain cut) =
          let end : 0 + length front ≡ length front = omega arith in
          begun tokens (length front) _ others refl refl (subst (Ascending 0 others) end up.1)
      by front tokens up (then_code code {rest = rest} {tokens = others} is cut) =
          let end : 0 + length front ≡ length front = omega arith in
          begun tokens (length front) _ others refl refl (subst (Ascending 0 others) end up.1)

-- ---- a string

pub pieces_are_whole : PiecesAreWhole
pieces_are_whole format = either (stuck_place format) refl
  where
    Whole : ℕ → List Placed → Type 0
    Whole end tokens = flat_map (text_of format) (pieces_in tokens end) ++ drop end format ≡ format

    so : (tokens : List Placed) (stop : Option ℕ) → (reading_of format).tokens ≡ tokens → (reading_of format).stop ≡ stop
        → Whole (stop_or (length format) stop) tokens → flat_map (text_of format) (pieces_of format) ++ unread format ≡ format
    so tokens stop e f whole =
        subst (λ ts. Whole (stop_or (length format) (reading_of format).stop) ts) (sym e)
        (subst (λ o. Whole (stop_or (length format) o) tokens) (sym f) whole)

    fronted : (front : List ℕ) (tokens : List Placed) → IsCutIntoTokens 0 front tokens → Whole (length front) tokens
    fronted front tokens cut =
        ap (λ t. t ++ drop (length front) format) (front_whole format front tokens cut) ∙ take-append-drop (length front) format

    either : (o : Option ℕ) → stuck_place format ≡ o → flat_map (text_of format) (pieces_of format) ++ unread format ≡ format
    either None is =
        let tree = ((trees.is_computed format).tree (tree_of format)).1 (is, refl) in
        let (stop, tokens) = (trees.reading_of format).whole (tree_of format) tree in
        so tree.tokens None tokens stop (fronted format tree.tokens tree.cut)
    either (Some place) is =
        let stuck = ((trees.is_computed format).stuck place).1 is in
        let (stop, tokens) = (trees.reading_of format).stuck place stuck in
        so stuck.tokens (Some place) tokens stop
        (subst (λ end. Whole end stuck.tokens) stuck.length_before (fronted stuck.before stuck.tokens stuck.cut))
