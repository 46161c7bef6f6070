-- The blocks of a source of bytes are of bytes, and are blocks by themselves.
use Rattle.std.proofs.Common.{ℕ, ◌<◌, List, [], ◌∷◌, ◌++◌, subst}
use Rattle.std.specs.List.{All, concat}
use Rattle.std.proofs.lemmas.List.Elements.{All-from_recursion, recursion_from_All, All-nil, All-cons}
use Rattle.ti_source.specs.Cutting.{BlocksAreSingle}
use Rattle.ti_spelling.specs.Spelling.{AreBytes}
use Rattle.tools_relisting.specs.Entries.{EntriesOfSources}
use Rattle.tools_relisting.proofs.TextBytes.{OfBytes, behind-bytes}

front-bytes : (s t : List ℕ) → OfBytes (s ++ t) → OfBytes s
front-bytes [] t h = tt
front-bytes (x ∷ s) t h = (h.0, front-bytes s t h.1)

pub each-bytes : (texts : List (List ℕ)) → OfBytes (concat texts) → All AreBytes texts
each-bytes [] h = All-nil AreBytes
each-bytes (text ∷ texts) h =
    All-cons AreBytes text texts (All-from_recursion (λ b. b < 256) text (front-bytes text (concat texts) h))
    (each-bytes texts (behind-bytes text (concat texts) h))

pub of_sources : BlocksAreSingle → EntriesOfSources
of_sources single source preface texts at entry shown are ends cut is reads =
    let whole : OfBytes (preface ++ concat texts) = subst OfBytes cut.whole (recursion_from_All (λ b. b < 256) source are) in
    record {
      texts = texts;
      at = at;
      blocks = single source preface texts ends cut;
      of_bytes = each-bytes texts (behind-bytes preface (concat texts) whole);
      is = is;
      reads = reads;
    }
