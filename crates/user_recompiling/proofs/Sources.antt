-- An entry that `-x` makes of a source is that of a block of bytes, which is a block by itself.
use Rattle.std.proofs.Common.{◌≡◌, ℕ, zero, suc, ◌<◌, List, [], ◌∷◌, ◌++◌, Some, slice_get, refl, subst}
use Rattle.std.specs.List.{AllZip, concat}
use Rattle.std.proofs.lemmas.List.Elements.{recursion_from_All}
use Rattle.std.proofs.lemmas.Option.{same_Some, none-some}
use Rattle.ti_source.specs.Cutting.{BlocksAreSingle}
use Rattle.base_meaning.specs.Compiled.{EntryState, written}
use Rattle.user_compiling.specs.Entries.{IsStateBy}
use Rattle.tools_relisting.proofs.Sources.{each-bytes}
use Rattle.tools_relisting.proofs.TextBytes.{OfBytes, behind-bytes}
use Rattle.user_recompiling.specs.Entries.{EntriesOfSources}

-- the block of which the state at a place is
block-at : (R : List ℕ → EntryState → Type 0) (texts : List (List ℕ)) (states : List EntryState) (at : ℕ) (state : EntryState) → AllZip R texts states
    → slice_get states at ≡ Some state → (text : List ℕ) × (slice_get texts at ≡ Some text) × R text state
block-at R texts [] at state all e = absurd (none-some state e)
block-at R [] (s ∷ ss) at state all e = absurd all
block-at R (t ∷ ts) (s ∷ ss) zero state all e = (t, refl, subst (R t) (same_Some s state e) all.0)
block-at R (t ∷ ts) (s ∷ ss) (suc at) state all e = block-at R ts ss at state all.1 e

pub of_sources : BlocksAreSingle → EntriesOfSources
of_sources single rule source preface texts states at bytes shown are ends cut all is reads rows =
    let whole : OfBytes (preface ++ concat texts) = subst OfBytes cut.whole (recursion_from_All (λ b. b < 256) source are) in
    let block = block-at (IsStateBy rule texts) texts states at (written bytes) all is in
    record {
      rule = rule;
      texts = texts;
      at = at;
      text = block.0;
      blocks = single source preface texts ends cut;
      of_bytes = each-bytes texts (behind-bytes preface (concat texts) whole);
      stands = block.1;
      is = block.2;
      reads = reads;
      rows = rows;
    }
