-- Where the line of an offset begins, and its column.
use Rattle.std.proofs.Common.{◌≡◌, ◌∙◌, ℕ, suc, ◌+◌, ◌-◌, ◌<◌, ◌≤◌, ◌==◌, ◌⊎◌, true, false, not, List, length, take, get_or, inl, inr, min, sym, ap, arith}
use Rattle.std.specs.List.{slice_range, suffix_len}
use Rattle.std.proofs.lemmas.Bool.{cases_lt, false_from_ne_true}
use Rattle.std.proofs.lemmas.List.{get_or-take, length-take-le, take_all}
use Rattle.std.proofs.lemmas.List.Edits.{get_or-between, length-between}
use Rattle.std.proofs.lemmas.List.Sums.{suffix_len_is}
use Rattle.memchr.specs.Find.{Nowhere, NoneAfter, Passes, is_byte}
use Rattle.everyday_report.specs.Columns.{column_at, is_on_line}
use Rattle.everyday_report.specs.inside.LineStarts.{IsLineStart}

-- the column by the start of the line
pub column_by_start : (text : List ℕ) (offset start : ℕ) → IsLineStart text offset start → suc (offset - start) ≡ column_at text offset
column_by_start text offset start is =
    let low : offset ≤ length text = is.within in
    let after : start ≤ offset = is.before in
    let size : length (take offset text) ≡ offset = length-take-le offset text low in
    let len : suffix_len is_on_line (take offset text) ≡ length (take offset text) - start =
    suffix_len_is is_on_line (take offset text) start 0 (omega arith)
    (λ k from below. ap is_on_line (get_or-take offset text k 0 (omega arith)) ∙ is.goes_on k from (omega arith))
    (λ some. ap is_on_line (get_or-take offset text (start - 1) 0 (omega arith)) ∙ is.begins some) in
    sym (ap suc (len ∙ ap (λ n. n - start) size))

-- a byte between two offsets
between_at : (text : List ℕ) (offset to k : ℕ) → offset ≤ k → k < to → get_or (slice_range text offset to) (k - offset) 0 ≡ get_or text k 0
between_at text offset to k from below =
    get_or-between text offset to (k - offset) 0 (omega arith) ∙ ap (λ n. get_or text n 0) (omega arith)

-- it begins after the last newline before the offset
pub begins_after : (text : List ℕ) (offset start to last : ℕ) → IsLineStart text offset start → offset ≤ to → to ≤ length text
    → NoneAfter (Passes (is_byte 10) (slice_range text offset to)) 0 (length (slice_range text offset to)) last
    → Passes (is_byte 10) (slice_range text offset to) last → IsLineStart text to (offset + last + 1)
begins_after text offset start to last is later within found passes =
    let size : length (slice_range text offset to) ≡ to - offset = length-between text offset to within in
    let high : last < length (slice_range text offset to) = found.high in
    let newline : is_on_line (get_or text (offset + last) 0) ≡ false =
    ap is_on_line (sym (get_or-between text offset to last 0 (omega arith))) ∙ ap not passes in
    let one_before : offset + last + 1 - 1 ≡ offset + last = omega arith in
    record {
      within = within;
      before = omega arith;
      begins = (λ some. ap (λ n. is_on_line (get_or text n 0)) one_before ∙ newline);
      goes_on = (λ k from below. ap not (ap (λ b. b == 10) (sym (between_at text offset to k (omega arith) below))
          ∙ false_from_ne_true _ (found.after (k - offset) (omega arith) (omega arith))));
    }

-- without a newline between, it begins where that of the earlier offset does
pub begins_there : (text : List ℕ) (offset start to : ℕ) → IsLineStart text offset start → offset ≤ to → to ≤ length text
    → Nowhere (Passes (is_byte 10) (slice_range text offset to)) 0 (length (slice_range text offset to)) → IsLineStart text to start
begins_there text offset start to is later within none =
    let size : length (slice_range text offset to) ≡ to - offset = length-between text offset to within in
    let before : start ≤ offset = is.before in
    let goes_on_at : (k : ℕ) → start ≤ k → k < to → (k < offset) ⊎ (offset ≤ k) → is_on_line (get_or text k 0) ≡ true =
    λ k from below where_at. elim where_at [
      | inl low ↦ is.goes_on k from low
      | inr high ↦
          ap not (ap (λ b. b == 10) (sym (between_at text offset to k high below)) ∙ false_from_ne_true _ (none (k - offset) (omega arith) (omega arith)))
    ] in
    record {
      within = within;
      before = omega arith;
      begins = is.begins;
      goes_on = (λ k from below. goes_on_at k from below (cases_lt k offset));
    }

-- past the end of the text the column is that of the end
pub column_at_most : (text : List ℕ) (offset to : ℕ) → to ≡ min offset (length text) → column_at text to ≡ column_at text offset
column_at_most text offset to is = ap (λ t. suc (suffix_len is_on_line t)) (taken (cases_lt offset (length text))) where
  taken : (offset < length text) ⊎ (length text ≤ offset) → take to text ≡ take offset text
  taken (inl low) = ap (λ n. take n text) (omega arith)
  taken (inr past) = take_all to text (omega arith) ∙ sym (take_all offset text past)
