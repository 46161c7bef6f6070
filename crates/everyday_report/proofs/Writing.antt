-- The lines of faults that are written one after another.
use Rattle.std.proofs.Common.{◌≡◌, ◌≢◌, ◌∙◌, ◌⊎◌, inl, inr, ℕ, ◌+◌, ◌<◌, ◌≤◌, true, false, cond, eqb, List}
use Rattle.std.proofs.Common.{[], ◌∷◌, ◌++◌, Some, None, drop, filter, map, length, get_or, slice_get, refl, sym, ap, append_assoc, append-nil}
use Rattle.std.specs.Option.{option_map_or}
use Rattle.std.proofs.lemmas.Bool.Decides.{eqb_tells}
use Rattle.std.proofs.lemmas.List.{drop_all}
use Rattle.base_meaning.specs.Report.{lines_before}
use Rattle.user_compiling.specs.Faults.{ExtendedSourceFault, block_of}
use Rattle.everyday_report.specs.Places.{Reached, column_and_rest, reached_in, start_of}
use Rattle.everyday_report.specs.Report.{is_of_first, line_at, lines_after, reached_at, text_at}
use Rattle.everyday_report.proofs.Appending.{left}

-- the text of the block at a position
pub text_there : (texts : List (List ℕ)) (at : ℕ) (text : List ℕ) → slice_get texts at ≡ Some text → text_at texts at ≡ text
text_there texts at text stands = ap (λ o. option_map_or (λ t. t) o []) stands

-- from the start of some block each block is reached as without a fault before
reached_from_start : (texts : List (List ℕ)) (b at : ℕ) → reached_at texts (Some (start_of b (text_at texts b))) at ≡ reached_at texts None at
reached_from_start texts b at = by_case (eqb_tells b at) where
  by_case : ((eqb b at ≡ true) × (b ≡ at)) ⊎ ((eqb b at ≡ false) × (b ≢ at))
      → cond (eqb b at) (start_of b (text_at texts b)) (start_of at (text_at texts at)) ≡ start_of at (text_at texts at)
  by_case (inl same) =
      ap (λ t. cond t (start_of b (text_at texts b)) (start_of at (text_at texts at))) same.0 ∙ ap (λ n. start_of n (text_at texts n)) same.1
  by_case (inr other) = ap (λ t. cond t (start_of b (text_at texts b)) (start_of at (text_at texts at))) other.0

pub from_start : (file : List ℕ) (texts : List (List ℕ)) (first b : ℕ) (faults : List ExtendedSourceFault)
    → lines_after file texts first (Some (start_of b (text_at texts b))) faults ≡ lines_after file texts first None faults
from_start file texts first b [] = refl
from_start file texts first b (fault ∷ faults) =
    ap (λ (reached : Reached). line_at file (first + lines_before texts (block_of fault)) (column_and_rest reached fault).0 fault
    ++ lines_after file texts first (Some (column_and_rest reached fault).1) faults)
    (reached_from_start texts b (block_of fault))

module _ {X : Type 0} (see : X → ExtendedSourceFault) (file : List ℕ) (texts : List (List ℕ)) (first count : ℕ) where
  -- the lines of the faults that are left, after those before
  abbrev pub lines_left : Reached → List X → List ℕ
  lines_left last xs = lines_after file texts first (Some last) (filter (is_of_first count) (map see xs))

  -- the next fault is of the first blocks
  pub said_in_turn : (xs : List X) (i : ℕ) (x : X) (last next : Reached) (start : ℕ) (text before after all : List ℕ)
      → i < length xs → x ≡ get_or xs i x → is_of_first count (see x) ≡ true
      → start ≡ first + lines_before texts (block_of (see x)) → slice_get texts (block_of (see x)) ≡ Some text
      → after ≡ before ++ line_at file start (column_and_rest (reached_in (block_of (see x)) text last) (see x)).0 (see x)
      → next ≡ (column_and_rest (reached_in (block_of (see x)) text last) (see x)).1
      → before ++ lines_left last (drop i xs) ≡ all → after ++ lines_left next (drop (i + 1) xs) ≡ all
  said_in_turn xs i x last next start text before after all low is of_first begins stands appended reached so_far =
      let rest : List ExtendedSourceFault = filter (is_of_first count) (map see (drop (i + 1) xs)) in
      let here : filter (is_of_first count) (map see (drop i xs)) ≡ see x ∷ rest =
      ap (λ (ys : List X). filter (is_of_first count) (map see ys)) (left xs i x low is) ∙ ap (λ t. cond t (see x ∷ rest) rest) of_first in
      let there : text_at texts (block_of (see x)) ≡ text = text_there texts (block_of (see x)) text stands in
      rw (appended, reached, append_assoc, begins, ← there) (ap (λ fs. before ++ lines_after file texts first (Some last) fs) (sym here) ∙ so_far)

  -- the next fault is not
  pub passed_in_turn : (xs : List X) (i : ℕ) (x : X) (last same_last : Reached) (before same all : List ℕ) → i < length xs → x ≡ get_or xs i x
      → is_of_first count (see x) ≡ false → same_last ≡ last → same ≡ before
      → before ++ lines_left last (drop i xs) ≡ all → same ++ lines_left same_last (drop (i + 1) xs) ≡ all
  passed_in_turn xs i x last same_last before same all low is of_others reached is_same so_far =
      let rest : List ExtendedSourceFault = filter (is_of_first count) (map see (drop (i + 1) xs)) in
      let here : filter (is_of_first count) (map see (drop i xs)) ≡ rest =
      ap (λ (ys : List X). filter (is_of_first count) (map see ys)) (left xs i x low is) ∙ ap (λ t. cond t (see x ∷ rest) rest) of_others in
      rw (is_same, reached) (ap (λ fs. before ++ lines_after file texts first (Some last) fs) (sym here) ∙ so_far)

  -- none is left
  pub all_said : (xs : List X) (i : ℕ) (last : Reached) (before all : List ℕ) → length xs ≤ i → before ++ lines_left last (drop i xs) ≡ all → before ≡ all
  all_said xs i last before all past so_far =
      sym (append-nil before) ∙ ap (λ (ys : List X). before ++ lines_left last ys) (sym (drop_all i xs past)) ∙ so_far

-- before the first of the faults
pub none_said : (file : List ℕ) (texts : List (List ℕ)) (first : ℕ) (faults : List ExtendedSourceFault) (out text : List ℕ) (last : Reached) (at same_at : ℕ)
    → last ≡ start_of at text → at ≡ same_at → slice_get texts same_at ≡ Some text
    → out ++ lines_after file texts first (Some last) faults ≡ out ++ lines_after file texts first None faults
none_said file texts first faults out text last at same_at starts same stands =
    let there : text ≡ text_at texts at = sym (text_there texts same_at text stands) ∙ ap (text_at texts) (sym same) in
    ap (λ (reached : Reached). out ++ lines_after file texts first (Some reached) faults) (starts ∙ ap (start_of at) there)
    ∙ ap (λ ls. out ++ ls) (from_start file texts first at faults)
