-- Sources with a byte order mark, or with lines that end in CR LF, repaired.
use Rattle.std.proofs.Common.{◌≡◌, ◌||◌, ℕ, Bool, true, false, List, ◌++◌, ap, refl, subst, sym, ◌∙◌}
use Rattle.std.proofs.lemmas.Bool.{false≢true, true≢false}
use Rattle.source_plain.specs.Laws.{LineEndsStay, SourcesOfOtherSystemsAreRead, WritingIsReadBack, WritingIsSettled}
use Rattle.source_plain.specs.Reading.{has_mark, mark, plain_lines, plain_source}
use Rattle.source_plain.specs.Writing.{first_returns, has_return, mark_if, returns_if, with_returns, written_like}
use Rattle.source_plain.proofs.Returns.{or_false, returns_read, starts_none}
use Rattle.source_plain.proofs.Written.{marks_stay}
use Rattle.source_format.specs.Laws.{IsReadAlike}
use Rattle.source_format.specs.Sources.{HasEndsOf}
use Rattle.source_kept_lines.specs.Laws.{LinesFit, RepairedLinesFit, RepairingIsSettled, RepairingKeepsReading}
use Rattle.source_kept_lines.specs.Layout.{repaired_text}
use Rattle.source_kept_lines.specs.Sources.{RepairedSourcesAreRepaired, RepairingKeepsLineEnds, repaired_source}

stays_settled : WritingIsReadBack → WritingIsSettled → RepairingIsSettled → (width : ℕ) (source : List ℕ)
    → repaired_source width (repaired_source width source) ≡ repaired_source width source
stays_settled read_back written_again settled width source =
    let laid = repaired_text width (plain_source source) in
    let first = repaired_source width source in
    ap (λ (text : List ℕ). written_like first (repaired_text width text)) (read_back source laid)
    ∙ ap (λ (text : List ℕ). written_like first text) (settled width (plain_source source)) ∙ written_again source laid

-- ---- the mark and the line ends

mark_written : (marked returns : Bool) (text : List ℕ) → (marked ≡ false → has_mark text ≡ false) → has_mark (mark_if marked ++ returns_if returns text) ≡ marked
mark_written true returns text h = refl
mark_written false true text h = marks_stay text ∙ h refl
mark_written false false text h = h refl

all_returned : (marked : Bool) (text : List ℕ) → mark_if marked ++ with_returns text ≡ with_returns (plain_lines (mark_if marked ++ with_returns text))
all_returned true text = rw (starts_none 191 (with_returns text) refl, returns_read text) refl
all_returned false text = ap with_returns (sym (returns_read text))

returns_written : (marked returns : Bool) (text : List ℕ) → returns ≡ true
    → mark_if marked ++ returns_if returns text ≡ with_returns (plain_lines (mark_if marked ++ returns_if returns text))
returns_written marked true text e = all_returned marked text
returns_written marked false text e = absurd (false≢true e)

none_ended : (marked : Bool) (text : List ℕ) → has_return text ≡ false → has_return (mark_if marked ++ text) ≡ false
none_ended true text e = rw (starts_none 191 text refl, e) refl
none_ended false text e = e

none_written : (marked returns : Bool) (text : List ℕ) → returns ≡ false → has_return text ≡ false → has_return (mark_if marked ++ returns_if returns text) ≡ false
none_written marked true text e h = absurd (true≢false e)
none_written marked false text e h = none_ended marked text h

ends_written : (source plain : List ℕ) → HasEndsOf source plain (written_like source plain)
ends_written source plain =
    let marked = has_mark source || has_mark plain in
    let returns = first_returns source || has_return plain in
    record {
      mark = mark_written marked returns plain (λ e. (or_false (has_mark source) (has_mark plain) e).1);
      returned = returns_written marked returns plain;
      ended = λ e. none_written marked returns plain e (or_false (first_returns source) (has_return plain) e).1;
    }

pub are_repaired : WritingIsReadBack → WritingIsSettled → RepairingKeepsReading → RepairedLinesFit → RepairingIsSettled → RepairedSourcesAreRepaired
are_repaired read_back written_again alike fits settled width source =
    let plain = plain_source source in
    let laid = repaired_text width plain in
    let read = sym (read_back source laid) in
    record {
      alike = subst (λ (text : List ℕ). IsReadAlike plain text) read (alike width plain);
      fits = subst (λ (text : List ℕ). LinesFit width text) read (fits width plain);
      settled = stays_settled read_back written_again settled width source;
      ends = subst (λ (text : List ℕ). HasEndsOf source text (repaired_source width source)) read (ends_written source laid);
    }

pub ends_are_kept : SourcesOfOtherSystemsAreRead → LineEndsStay → RepairingKeepsLineEnds
ends_are_kept read stay width source plain ended =
    ap (λ (text : List ℕ). written_like (mark ++ with_returns source) (repaired_text width text)) (read.marked source plain)
    ∙ stay.both source (repaired_text width source) ended
