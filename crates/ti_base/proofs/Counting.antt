-- The lines before each text of a source.
use Rattle.std.proofs.Common.{◌≡◌, ℕ, ◌+◌, ◌-◌, ◌<◌, List, [], ◌∷◌, ◌++◌, length, get_or, take, map, slice_get, Some, refl, ◌∙◌, ap, arith}
use Rattle.std.specs.List.{range_with_len, flat_map}
use Rattle.std.proofs.lemmas.List.{append-nil}
use Rattle.std.proofs.lemmas.Grind.{flat_map-append}
use Rattle.std.proofs.lemmas.List.FromFn.{map-range_with_len_more, get_or-map-range_with_len, length-map-range_with_len}
use Rattle.std.proofs.lemmas.List.Sums.{sum_by-append}
use Rattle.ti_text.specs.Lines.{line_count}
use Rattle.base_meaning.specs.Report.{lines_before, fault_line, report_line}
use Rattle.base_meaning.specs.Faults.{SourceFault}
use Rattle.ti_base.proofs.Lists.{take_get}

-- a text more
pub lines_more : (texts : List (List ℕ)) (i : ℕ) (t : List ℕ) → slice_get texts i ≡ Some t → lines_before texts (i + 1) ≡ lines_before texts i + line_count t
lines_more texts i t e = rw (take_get texts i t e, sum_by-append line_count (take i texts) (t ∷ [])) (omega arith)

pub starts_more : (texts : List (List ℕ)) (i lines : ℕ) (starts : List ℕ) → starts ≡ map (lines_before texts) (range_with_len 0 i)
    → lines ≡ lines_before texts i → starts ++ lines ∷ [] ≡ map (lines_before texts) (range_with_len 0 (i + 1))
starts_more texts i lines starts e f = rw (map-range_with_len_more (lines_before texts) 0 i i (omega arith), e, f) refl

-- what is read of the starts
pub start_read : (texts : List (List ℕ)) (starts : List ℕ) (n k x : ℕ) → starts ≡ map (lines_before texts) (range_with_len 0 n) → k < n
    → x ≡ get_or starts k x → x ≡ lines_before texts k
start_read texts starts n k x e l r = r ∙ (ap (λ s. get_or s k x) e ∙ get_or-map-range_with_len (lines_before texts) 0 n k k x l (omega arith))

pub length_starts : (texts : List (List ℕ)) (starts : List ℕ) (n : ℕ) → starts ≡ map (lines_before texts) (range_with_len 0 n) → length starts ≡ n
length_starts texts starts n e = ap length e ∙ length-map-range_with_len (lines_before texts) 0 n

-- the line of one more fault was written
pub one_more_line : (texts : List (List ℕ)) (first : ℕ) (so_far more : List SourceFault) (fault : SourceFault) (start : ℕ) (old new : List ℕ)
    → old ≡ flat_map (report_line texts first) so_far → more ≡ so_far ++ fault ∷ [] → start ≡ lines_before texts fault.block
    → new ≡ old ++ fault_line (first + start + fault.line - 1) fault.code fault.detail → new ≡ flat_map (report_line texts first) more
one_more_line texts first so_far more fault start old new e m s w =
    let one : flat_map (report_line texts first) (fault ∷ []) ≡ report_line texts first fault = append-nil (report_line texts first fault) in
    rw (w, m, flat_map-append (report_line texts first) so_far (fault ∷ []), one, e, s) refl
