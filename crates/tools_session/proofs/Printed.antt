-- What the reply to `p N` is, and what spells it.
use Rattle.std.proofs.Common.{◌≡◌, ℕ, ◌+◌, ◌<◌, List, [], ◌∷◌, ◌++◌, length, take, drop, get_or, Some, sym, ap, ◌∙◌, append_assoc, append-nil}
use Rattle.std.specs.Fmt.{decimal}
use Rattle.std.specs.Prelude.{if◌then◌else◌}
use Rattle.std.specs.List.{flat_map}
use Rattle.std.proofs.lemmas.Bool.{lt-ltb}
use Rattle.std.proofs.lemmas.List.{take-append-drop, take_more}
use Rattle.std.proofs.lemmas.Grind.{flat_map-append}
use Rattle.base_meaning.specs.Compiled.{compiled}
use Rattle.base_meaning.specs.declared.edits.EditError.TheVariants.{Position}
use Rattle.tools_session.specs.Replies.{next_position, positions_text}
use Rattle.tools_session.specs.Script.{entry_text, hex_of, print_reply, refused_text}

pub print_reply-some : (texts : List (List ℕ)) (at : ℕ) (bytes : List ℕ) → at < length texts → Some bytes ≡ compiled texts at
    → print_reply texts at ≡ flat_map hex_of bytes ++ 10 ∷ []
print_reply-some texts at bytes low is =
    ap (λ (b : _). if b then entry_text (compiled texts at) else refused_text Position) (lt-ltb at (length texts) low)
    ∙ ap entry_text (sym is)

pub hex_of-front : (front rest piece : List ℕ) (n : ℕ) (bytes : List ℕ) → bytes ≡ front ++ rest → piece ≡ take n rest
    → bytes ≡ (front ++ piece) ++ drop n rest
hex_of-front front rest piece n bytes is cut =
    is ∙ ap (λ (t : List ℕ). front ++ t) (sym (take-append-drop n rest) ∙ ap (λ (t : List ℕ). t ++ drop n rest) (sym cut))
    ∙ sym (append_assoc front piece (drop n rest))

pub hex_of-parts : (front piece later bytes : List ℕ) → bytes ≡ (front ++ piece) ++ later
    → flat_map hex_of bytes ≡ (flat_map hex_of front ++ flat_map hex_of piece) ++ flat_map hex_of later
hex_of-parts front piece later bytes is =
    ap (flat_map hex_of) is ∙ flat_map-append hex_of (front ++ piece) later
    ∙ ap (λ (t : List ℕ). t ++ flat_map hex_of later) (flat_map-append hex_of front piece)

-- ---- positions

pub positions_text-some : (positions others : List ℕ) (first : ℕ) → positions ≡ first ∷ others
    → positions_text positions ≡ decimal first ++ (flat_map next_position others ++ 10 ∷ [])
positions_text-some positions others first is = ap positions_text is ∙ append_assoc (decimal first) (flat_map next_position others) (10 ∷ [])

-- the positions before one, and all of them
pub next_positions-front : (positions : List ℕ) (i : ℕ) → i < length positions
    → flat_map next_position positions ≡ (flat_map next_position (take i positions) ++ next_position (get_or positions i 0))
    ++ flat_map next_position (drop (i + 1) positions)
next_positions-front positions i low =
    ap (flat_map next_position) (sym (take-append-drop (i + 1) positions)) ∙ flat_map-append next_position (take (i + 1) positions) (drop (i + 1) positions)
    ∙ ap (λ (t : List ℕ). t ++ flat_map next_position (drop (i + 1) positions)) (ap (flat_map next_position) (take_more positions i 0 low)
    ∙ flat_map-append next_position (take i positions) (get_or positions i 0 ∷ [])
    ∙ ap (λ (t : List ℕ). flat_map next_position (take i positions) ++ t) (append-nil (next_position (get_or positions i 0))))
