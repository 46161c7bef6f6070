-- A header at the front of bytes that are all there, and whether its body is.
use Rattle.std.proofs.Common.{ℕ, ◌≡◌, ◌<◌, List, ◌++◌, Bool, true, false, length, take, drop, leb, refl, sym, ap, ◌∙◌, append-nil, append_assoc, subst, arith, inl, inr}
use Rattle.std.proofs.Common.{length-append}
use Rattle.std.proofs.lemmas.Bool.{leb-false, leb-true}
use Rattle.std.proofs.lemmas.List.{length-take-le, take-append-drop}
use Rattle.lsp_frames.proofs.OneFrame.{one_header-law}
use Rattle.lsp_frames.specs.Buffers.{held_seen}
use Rattle.lsp_frames.specs.Frames.{HasNoFrame, IsHeader, Waits}
use Rattle.lsp_frames.specs.Transfers.{ReadingStops}
use Rattle.lsp_frames.specs.declared.frames.FrameError.TheVariants.{Broken}

waits_if : (bytes left header : List ℕ) (len : ℕ) (b : Bool) → leb len (length left) ≡ b → IsHeader header len → bytes ≡ header ++ left → Waits bytes b
waits_if bytes left header len true e h is = record {
  header = header;
  body = take len left;
  rest = drop len left;
  announces = subst (λ (n : ℕ). IsHeader header n) (sym (length-take-le len left (leb-true len (length left) e))) h;
  whole = is ∙ (ap (λ (t : List ℕ). header ++ t) (sym (take-append-drop len left)) ∙ sym (append_assoc header (take len left) (drop len left)));
}
waits_if bytes left header len false e h is = λ other body rest k whole.
    let one = one_header-law header other len (length body) left (body ++ rest) h k (sym is ∙ (whole ∙ append_assoc other body rest)) in
    let low : length left < len = leb-false len (length left) e in
    absurd (omega (arith, low, one.1, ap length one.2, length-append body rest))

-- the header was read
pub waits_header : (bytes left header : List ℕ) (len : ℕ) → IsHeader header len → bytes ≡ header ++ left → Waits bytes (leb len (length left))
waits_header bytes left header len h is = waits_if bytes left header len (leb len (length left)) refl h is

-- no header was read
pub none_waits : (bytes left : List ℕ) → ReadingStops (held_seen bytes) (held_seen left) Broken → HasNoFrame bytes
none_waits bytes left (taken, uses, inl (none, inl failed)) = absurd (omega (arith, failed))
none_waits bytes left (taken, uses, inl (none, inr ended)) =
    let all : taken ≡ bytes = sym (append-nil taken) ∙ (ap (λ (t : List ℕ). taken ++ t) (sym ended.1) ∙ sym uses.bytes) in
    subst HasNoFrame all none
none_waits bytes left (taken, uses, inr (begins, same)) = subst HasNoFrame (sym uses.bytes) (begins left)
