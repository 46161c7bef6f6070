use Rattle.std.proofs.Common.{◌≡◌, ℕ, List, Some, false, true, refl, subst, ap}
use Rattle.std.specs.Global.{Vec}
use Rattle.std.specs.String.{string_bytes}
use Rattle.std.specs.Str.{IsUtf8, is_utf8}
use Rattle.std.proofs.lemmas.Bool.{false_from_ne_true, false≢true}
use Rattle.std.proofs.lemmas.Str.{IsUtf8-from_is_utf8, IsUtf8-string_bytes, is_utf8-from_IsUtf8}
use Rattle.source_edits.proofs.texts.utf8_of.Goals as goal

pub returns-in-Ok : goal.returns-in-Ok
returns-in-Ok c =
    let bytes = c.args.bytes.items in
    let same : string_bytes c.in-Ok.text ≡ bytes = ap (λ (v : Vec ℕ). v.items) c.in-Ok.ensures.ok in
    let utf8 : is_utf8 bytes ≡ true = is_utf8-from_IsUtf8 bytes (subst IsUtf8 same (IsUtf8-string_bytes c.in-Ok.text)) in
    rw utf8 (ap (λ (t : List ℕ). Some t) same)

pub returns : goal.returns
returns c =
    let bytes = c.args.bytes.items in
    let none : is_utf8 bytes ≡ false =
    false_from_ne_true (is_utf8 bytes) (λ e. false≢true (c.in-Err.ensures.succeeds (IsUtf8-from_is_utf8 bytes e))) in
    rw none refl
