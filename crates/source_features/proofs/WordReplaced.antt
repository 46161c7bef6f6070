-- What a completion replaces is a word that ends at the cursor.
use Rattle.std.proofs.Common.{◌≡◌, ℕ, zero, suc, ◌+◌, ◌≤◌, true, false, List, [], ◌∷◌, ◌++◌, append_assoc, drop, length, max, take}
use Rattle.std.proofs.Common.{Option, None, Some, refl, sym, ap, subst, ◌∙◌, arith, option_map}
use Rattle.std.specs.Prelude.{option_and_then}
use Rattle.std.specs.List.{list_any}
use Rattle.std.proofs.lemmas.List.{length-append, length-take, take-append-drop, take-append-le}
use Rattle.std.proofs.lemmas.Option.{same_Some}
use Rattle.source_spans.specs.Replacing.{exchanged}
use Rattle.source_spans.specs.Words.{word_before}
use Rattle.source_spans.specs.declared.words.Word.{Word}
use Rattle.source_types.specs.declared.places.Position.{Position}
use Rattle.source_document.specs.Diagnostics.{text_at}
use Rattle.source_document.specs.Documents.{HeldBlocksFit, held}
use Rattle.source_blocks.specs.Places.{is_place, missing_newline}
use Rattle.source_blocks.specs.Spots.{spot_at}
use Rattle.source_blocks.specs.declared.spots.Spot.{Spot}
use Rattle.source_blocks.proofs.BlocksInText.{IsAround, applied_on, around, spot_offset}
use Rattle.source_blocks.proofs.Placing.{missing_is}
use Rattle.source_features.specs.Completions.{CompletionSeen, CompletionsReplaceAWord, ReplacesWord, completed, completion_for, completion_in, is_break}
use Rattle.source_features.specs.Completions.{last_word, replaced}
use Rattle.source_features.proofs.Completing.{none_left, shorter, word_starts, word_within}

-- after the last break there is none
none_after : (text : List ℕ) (n : ℕ) → last_word text ≤ n → list_any is_break (drop n text) ≡ false
none_after [] zero le = refl
none_after [] (suc n) le = refl
none_after (byte ∷ bytes) zero le = none_left (byte ∷ bytes) le
none_after (byte ∷ bytes) (suc n) le = none_after bytes n (shorter byte bytes n le)

larger : (a b c : ℕ) → a ≤ c → b ≤ c → (b ≤ max a b) × (max a b ≤ c)
larger a b c p q = (omega arith, omega arith)

-- a block is cut at the start of the word and at the cursor
record IsCut (block : List ℕ) (start offset : ℕ) : Type 0 where
  first : List ℕ
  word : List ℕ
  rest : List ℕ
  whole : block ≡ first ++ (word ++ rest)
  start_is : length first ≡ start
  ends : length first + length word ≡ offset
  unbroken : list_any is_break word ≡ false
  made : (name : List ℕ) → exchanged block (record { start = start; end = offset }) name ≡ first ++ (name ++ rest)

cut : (block : List ℕ) (start offset : ℕ) → offset ≤ length block → last_word (take offset block) ≤ start → start ≤ offset → IsCut block start offset
cut block start offset inside last up =
    let before = take offset block in
    let first = take start before in
    let word = drop start before in
    let rest = drop offset block in
    let size : length before ≡ offset = omega (arith, length-take offset block, inside) in
    let parts : first ++ word ≡ before = take-append-drop start before in
    let both : before ++ rest ≡ block = take-append-drop offset block in
    let same : take start block ≡ first = ap (take start) (sym both) ∙ take-append-le start before rest (omega (arith, size, up)) in
    let long : length first ≡ start = omega (arith, length-take start before, size, up) in
    record {
      first = first;
      word = word;
      rest = rest;
      whole = sym both ∙ ap (λ (t : List ℕ). t ++ rest) (sym parts) ∙ append_assoc first word rest;
      start_is = long;
      ends = sym (length-append first word) ∙ ap length parts ∙ size;
      unbroken = none_after before start last;
      made = λ name. ap (λ (t : List ℕ). (t ++ name) ++ rest) same ∙ append_assoc first name rest;
    }

-- the completion of a word replaces it
of_word : (text : List ℕ) (place : Position) (spot : Spot) (word : Word) (completion : CompletionSeen) → IsAround text spot → spot_at text place ≡ Some spot
    → spot.offset ≤ length (text_at (held text) spot.at) → word_before (text_at (held text) spot.at) spot.offset ≡ Some word
    → completion_for (held text) spot.line (text_at (held text) spot.at) spot.offset word ≡ completion → ReplacesWord text place completion
of_word text place spot word completion at found inside is e =
    let block = text_at (held text) spot.at in
    let offset = spot.offset in
    let before = take offset block in
    let short : length before ≤ offset = omega (arith, length-take offset block) in
    let starts = word_starts before word is in
    let within = word_within before in
    let bounds = larger word.start (last_word before) offset (omega (arith, starts, short)) (omega (arith, within, short)) in
    let start = max word.start (last_word before) in
    let one = cut block start offset inside bounds.0 bounds.1 in
    let long = one.start_is in
    let more = missing_newline text in
    record {
      spot = spot;
      before = at.front;
      first = one.first;
      word = one.word;
      rest = one.rest;
      after = at.back;
      found = found;
      block = one.whole;
      whole = at.whole;
      ends_here = one.ends;
      unbroken = one.unbroken;
      applied = λ from to name.
          subst (λ (c : CompletionSeen). completed text c name ++ more ≡ at.front ++ ((one.first ++ (name ++ one.rest)) ++ at.back)) e
          (applied_on text more at.front block at.back spot.line (replaced block offset word) name (missing_is text) at.whole at.line at.ends at.one bounds.1
          (subst (λ (n : ℕ). is_place block n ≡ true) long from) to
          ∙ ap (λ (t : List ℕ). at.front ++ (t ++ at.back)) (one.made name));
    }

by_word : (text : List ℕ) (place : Position) (spot : Spot) (found : Option Word) (completion : CompletionSeen) → IsAround text spot
    → spot_at text place ≡ Some spot
    → spot.offset ≤ length (text_at (held text) spot.at) → word_before (text_at (held text) spot.at) spot.offset ≡ found
    → option_map (completion_for (held text) spot.line (text_at (held text) spot.at) spot.offset) found ≡ Some completion → ReplacesWord text place completion
by_word text place spot None completion at there inside is e = absurd cc
by_word text place spot (Some word) completion at there inside is e = of_word text place spot word completion at there inside is (same_Some _ completion e)

by_spot : HeldBlocksFit → (text : List ℕ) (place : Position) (found : Option Spot) (completion : CompletionSeen) → spot_at text place ≡ found
    → option_and_then (completion_in (held text)) found ≡ Some completion → ReplacesWord text place completion
by_spot fit text place None completion is e = absurd cc
by_spot fit text place (Some spot) completion is e =
    by_word text place spot (word_before (text_at (held text) spot.at) spot.offset) completion (around fit text place spot is) is
    (spot_offset text place spot is) refl e

pub words_replaced : HeldBlocksFit → CompletionsReplaceAWord
words_replaced fit text place completion e = by_spot fit text place (spot_at text place) completion refl e
