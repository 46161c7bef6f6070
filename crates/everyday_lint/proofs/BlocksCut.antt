-- The blocks of a text, each with another block in its place.
use Rattle.std.proofs.Common.{◌≡◌, ℕ, List, [], ◌∷◌, ◌++◌, refl, sym, ap, ◌∙◌, append-nil}
use Rattle.std.specs.List.{AllByRecursion, concat}
use Rattle.std.proofs.lemmas.List.Elements.{recursion_from_All}
use Rattle.ti_text.specs.Texts.{last_byte}
use Rattle.ti_source.specs.Cutting.{AreBlocks, Cut, OneBlock, blocks_from_head, front_of}
use Rattle.ti_source.proofs.CutLemmas.{blocks_are_single_law, each_has_cut, one_cut_law}
use Rattle.tools_sources.specs.Sources.{preface_of, source_texts, with_last_newline}
use Rattle.tools_sources.proofs.Refusing.{ends_with_newline}
use Rattle.everyday_lint.proofs.OpenEnds.{last_both}

pub single_ends : (block : List ℕ) → OneBlock block → (before : ℕ) → last_byte before block ≡ 10
single_ends [] single before = absurd single.cut.each.1
single_ends (x ∷ xs) single before = single.ends

pub blocks_end : (before : ℕ) (blocks : List (List ℕ)) → before ≡ 10 → AllByRecursion OneBlock blocks → last_byte before (concat blocks) ≡ 10
blocks_end before [] ends single = ends
blocks_end before (block ∷ blocks) ends single =
    last_both before block (concat blocks) ∙ blocks_end (last_byte before block) blocks (single_ends block single.0 before) single.1

are_blocks : (before : ℕ) (blocks : List (List ℕ)) → before ≡ 10 → AllByRecursion OneBlock blocks → AreBlocks before blocks
are_blocks before [] ends single = tt
are_blocks before (block ∷ blocks) ends single =
    (ends, single.0.cut.each.1, are_blocks (last_byte before block) blocks (single_ends block single.0 before) single.1)

front_ends : (before : ℕ) (source preface : List ℕ) (blocks : List (List ℕ)) → source ≡ preface ++ concat blocks → AreBlocks (last_byte before preface) blocks
    → last_byte before source ≡ 10 → last_byte before preface ≡ 10
front_ends before source preface [] whole are ends = ap (last_byte before) (sym (whole ∙ append-nil preface)) ∙ ends
front_ends before source preface (block ∷ blocks) whole are ends = are.0

-- what is before the first block of a text ends with a newline, if it is not empty
pub preface_ends : (text : List ℕ) → last_byte 10 (preface_of text) ≡ 10
preface_ends text =
    let cut = each_has_cut (with_last_newline text) in
    front_ends 10 (with_last_newline text) (preface_of text) (source_texts text) cut.whole cut.each (ends_with_newline text)

-- the joined blocks after it
pub text_joined : (text : List ℕ) → with_last_newline text ≡ preface_of text ++ concat (source_texts text)
text_joined text = (each_has_cut (with_last_newline text)).whole

-- each block of a text is one block
pub all_single : (text : List ℕ) → AllByRecursion OneBlock (source_texts text)
all_single text =
    let source = with_last_newline text in
    recursion_from_All OneBlock (source_texts text)
    (blocks_are_single_law source (preface_of text) (source_texts text) (ends_with_newline text) (each_has_cut source))

pub record IsCutSo (text : List ℕ) (others : List (List ℕ)) (other : List ℕ) : Type 0 where
  pub ends : last_byte 10 other ≡ 10
  pub preface : front_of 10 other ≡ preface_of text
  pub blocks : blocks_from_head 10 other ≡ others

-- other blocks after it are cut so
pub cut_so : (text : List ℕ) (blocks : List (List ℕ)) → AllByRecursion OneBlock blocks → IsCutSo text blocks (preface_of text ++ concat blocks)
cut_so text blocks single =
    let preface = preface_of text in
    let other = preface ++ concat blocks in
    let ends = preface_ends text in
    let now : Cut other preface blocks = record {
      whole = refl;
      front = (each_has_cut (with_last_newline text)).front;
      each = are_blocks (last_byte 10 preface) blocks ends single;
    } in
    let one = one_cut_law other (front_of 10 other) preface (blocks_from_head 10 other) blocks (each_has_cut other) now in
    record {
      ends = last_both 10 preface (concat blocks) ∙ blocks_end (last_byte 10 preface) blocks ends single;
      preface = one.0;
      blocks = one.1;
    }
