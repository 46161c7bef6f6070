-- Bytes of an input that are used one after another.
use Rattle.std.proofs.Common.{ℕ, ◌≡◌, ◌+◌, ◌<◌, ◌≤◌, List, [], ◌∷◌, ◌++◌, length, take, drop, refl, sym, ap, ◌∙◌, append_assoc, append-nil, subst, arith}
use Rattle.std.proofs.Common.{Option, Some, None, ◌-◌, length-append, slice_range}
use Rattle.std.specs.Io.KnownBytes.{Consumes, prepend_known}
use Rattle.std.proofs.lemmas.List.{drop-drop, drop-take, length-drop, length-take, length-take-le, take-append-drop, take-take, take_at}
use Rattle.tools_devices.proofs.Written.{Consumes-none, Consumes-then}
use Rattle.lsp_frames.specs.Inputs.{Gives, InputSeen, IsNeeded, Takes, Uses, joined}
use Rattle.lsp_frames.specs.Reads.{ReadsSome}
use Rattle.lsp_frames.specs.inside.Parts.{Fills}

joined-append : (a b : List (List ℕ)) → joined (a ++ b) ≡ joined a ++ joined b
joined-append [] b = refl
joined-append (piece ∷ a) b = ap (λ (t : List ℕ). piece ++ t) (joined-append a b) ∙ sym (append_assoc piece (joined a) (joined b))

-- pieces that were needed are so if fewer bytes are left
IsNeeded-fewer : (came : List (List ℕ)) (left fewer : List ℕ) → IsNeeded came left → length fewer ≤ length left → IsNeeded came fewer
IsNeeded-fewer [] left fewer h low = tt
IsNeeded-fewer (piece ∷ []) left fewer h low = omega (arith, h)
IsNeeded-fewer (piece ∷ next ∷ pieces) left fewer h low = IsNeeded-fewer (next ∷ pieces) left fewer h low

-- after other pieces
IsNeeded-after : (a : List (List ℕ)) (piece : List ℕ) (pieces : List (List ℕ)) (left : List ℕ) → IsNeeded (piece ∷ pieces) left
    → IsNeeded (a ++ piece ∷ pieces) left
IsNeeded-after [] piece pieces left h = h
IsNeeded-after (first ∷ []) piece pieces left h = h
IsNeeded-after (first ∷ next ∷ a) piece pieces left h = IsNeeded-after (next ∷ a) piece pieces left h

Takes-none : (ahead : List ℕ) → Takes ahead [] [] ahead
Takes-none ahead = record { whole = append-nil ahead; needed = tt }

needed-then : (c d : List (List ℕ)) (mid second left : List ℕ) → IsNeeded c mid → mid ++ joined d ≡ second ++ left → IsNeeded d left → IsNeeded (c ++ d) left
needed-then c [] mid second left h whole k =
    subst (λ (all : List (List ℕ)). IsNeeded all left) (sym (append-nil c))
    (IsNeeded-fewer c mid left h (omega (arith, ap length (sym (append-nil mid) ∙ whole), length-append second left)))
needed-then c (piece ∷ pieces) mid second left h whole k = IsNeeded-after c piece pieces left k

Takes-then : (ahead mid left : List ℕ) (c d : List (List ℕ)) (a b : List ℕ) → Takes ahead c a mid → Takes mid d b left → Takes ahead (c ++ d) (a ++ b) left
Takes-then ahead mid left c d a b first second = record {
  whole = ap (λ (t : List ℕ). ahead ++ t) (joined-append c d)
      ∙ (sym (append_assoc ahead (joined c) (joined d))
      ∙ (ap (λ (t : List ℕ). t ++ joined d) first.whole
      ∙ (append_assoc a mid (joined d)
      ∙ (ap (λ (t : List ℕ). a ++ t) second.whole
      ∙ sym (append_assoc a b left)))));
  needed = needed-then c d mid b left first.needed second.whole second.needed;
}

pub Uses-none : (u : InputSeen) → Uses u u []
Uses-none u = record { bytes = Consumes-none u.bytes; came = []; pieces = sym (append-nil u.pieces); takes = Takes-none u.ahead }

pub Uses-then : (u v w : InputSeen) (a b : List ℕ) → Uses u v a → Uses v w b → Uses u w (a ++ b)
Uses-then u v w a b x y = record {
  bytes = Consumes-then u.bytes v.bytes w.bytes a b x.bytes y.bytes;
  came = x.came ++ y.came;
  pieces = y.pieces ∙ (ap (λ (p : List (List ℕ)). p ++ y.came) x.pieces ∙ append_assoc u.pieces x.came y.came);
  takes = Takes-then u.ahead v.ahead w.ahead x.came y.came a b x.takes y.takes;
}

pub Gives-none : (u : InputSeen) → Gives u u []
Gives-none u = record { uses = Uses-none u; failures = refl }

pub Gives-then : (u v w : InputSeen) (a b : List ℕ) → Gives u v a → Gives v w b → Gives u w (a ++ b)
Gives-then u v w a b x y = record { uses = Uses-then u v w a b x.uses y.uses; failures = y.failures ∙ x.failures }

-- ---- a piece that comes

needed-filled : (piece : List ℕ) (came : List (List ℕ)) (taken left : List ℕ) → 0 < length taken → piece ++ joined came ≡ taken ++ left → IsNeeded came left
    → IsNeeded (piece ∷ came) left
needed-filled piece [] taken left some whole h = omega (arith, some, ap length (sym (append-nil piece) ∙ whole), length-append taken left)
needed-filled piece (next ∷ came) taken left some whole h = h

-- some bytes were used after a piece came
pub ReadsSome-filled : (given mid left : InputSeen) (piece : List ℕ) (count : ℕ) → Fills given mid → ReadsSome mid left piece count → ReadsSome given left piece count
ReadsSome-filled given mid left piece count f h =
    let uses = h.gives.uses in
    let some : 0 < length (take count piece) = omega (arith, h.some, h.within, length-take count piece) in
    let whole : joined (mid.ahead ∷ uses.came) ≡ take count piece ++ left.ahead = uses.takes.whole in
    record {
      some = h.some;
      within = h.within;
      gives = record {
        uses = record {
          bytes = Consumes-then given.bytes mid.bytes left.bytes [] (take count piece) f.bytes uses.bytes;
          came = mid.ahead ∷ uses.came;
          pieces = uses.pieces ∙ (ap (λ (p : List (List ℕ)). p ++ uses.came) f.pieces ∙ append_assoc given.pieces (mid.ahead ∷ []) uses.came);
          takes = record {
            whole = ap (λ (t : List ℕ). t ++ joined (mid.ahead ∷ uses.came)) f.none ∙ whole;
            needed = needed-filled mid.ahead uses.came (take count piece) left.ahead some whole uses.takes.needed;
          };
        };
        failures = h.gives.failures ∙ f.failures;
      };
    }

-- ---- bytes that are ahead

Consumes-ahead : (ahead taken left : List ℕ) (later : Option (List ℕ)) → ahead ≡ taken ++ left
    → Consumes (prepend_known ahead later) (prepend_known left later) taken
Consumes-ahead ahead taken left None is = tt
Consumes-ahead ahead taken left (Some more) is = ap (λ (t : List ℕ). t ++ more) is ∙ append_assoc taken left more

-- bytes that were ahead are used
pub Gives-ahead : (ahead taken left : List ℕ) (later : Option (List ℕ)) (failures : ℕ) (pieces : List (List ℕ)) → ahead ≡ taken ++ left
    → Gives (record { bytes = prepend_known ahead later; failures = failures; pieces = pieces; ahead = ahead })
    (record { bytes = prepend_known left later; failures = failures; pieces = pieces; ahead = left }) taken
Gives-ahead ahead taken left later failures pieces is = record {
  uses = record {
    bytes = Consumes-ahead ahead taken left later is;
    came = [];
    pieces = sym (append-nil pieces);
    takes = record { whole = append-nil ahead ∙ is; needed = tt };
  };
  failures = refl;
}

-- of what is ahead in a buffer some bytes are moved into the front of a piece
range_cut : (buffer : List ℕ) (from to count : ℕ) → from + count ≤ to
    → slice_range buffer from to ≡ slice_range buffer from (from + count) ++ slice_range buffer (from + count) to
range_cut buffer from to count within =
    let rest = drop from buffer in
    let more = to - (from + count) in
    let both : to - from ≡ count + more = omega (arith, within) in
    let one : (from + count) - from ≡ count = omega arith in
    let whole : take count (take (count + more) rest) ++ drop count (take (count + more) rest) ≡ take (count + more) rest =
    take-append-drop count (take (count + more) rest) in
    let first : take count (take (count + more) rest) ≡ take count rest = take-take count (count + more) rest (omega arith) in
    let second : drop count (take (count + more) rest) ≡ take more (drop (from + count) buffer) =
    drop-take count more rest ∙ ap (take more) (drop-drop count from buffer) in
    ap (λ (n : ℕ). take n rest) both
    ∙ (sym whole
    ∙ (ap (λ (a : List ℕ). a ++ drop count (take (count + more) rest)) first
    ∙ (ap (λ (b : List ℕ). take count rest ++ b) second
    ∙ ap (λ (n : ℕ). take n rest ++ take more (drop (from + count) buffer)) (sym one))))

pub ReadsSome-ahead : (buffer piece copied : List ℕ) (from to count : ℕ) (later : Option (List ℕ)) (failures : ℕ) (pieces : List (List ℕ))
    → from + count ≤ to → to ≤ length buffer → 0 < count → copied ≡ slice_range buffer from (from + count)
    → ReadsSome
    (record { bytes = prepend_known (slice_range buffer from to) later; failures = failures; pieces = pieces; ahead = slice_range buffer from to })
    (record {
      bytes = prepend_known (slice_range buffer (from + count) to) later;
      failures = failures;
      pieces = pieces;
      ahead = slice_range buffer (from + count) to;
    })
    (copied ++ drop count piece) count
ReadsSome-ahead buffer piece copied from to count later failures pieces within whole some is =
    let low : (from + count) - from ≤ length (drop from buffer) = omega (arith, length-drop from buffer, within, whole) in
    let len : length copied ≡ count = ap length is ∙ (length-take-le ((from + count) - from) (drop from buffer) low ∙ omega arith) in
    let front : take count (copied ++ drop count piece) ≡ copied = take_at copied (drop count piece) count len in
    let cut : slice_range buffer from to ≡ copied ++ slice_range buffer (from + count) to =
    range_cut buffer from to count within ∙ ap (λ (t : List ℕ). t ++ slice_range buffer (from + count) to) (sym is) in
    record {
      some = some;
      within = omega (arith, length-append copied (drop count piece), len);
      gives = rw front (Gives-ahead (slice_range buffer from to) copied (slice_range buffer (from + count) to) later failures pieces cut);
    }
