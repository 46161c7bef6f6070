-- A block has one folded text, and its bytes are at their offsets.
use Rattle.std.proofs.Common.{◌≡◌, ℕ, suc, zero, ◌+◌, ◌^◌, ◌<◌, ◌==◌, All, true, false, List, [], ◌∷◌, ◌++◌, inl, inr, drop, get_or, length, add-one, refl}
use Rattle.std.proofs.Common.{sym, ap, ap₂, subst, ◌∙◌, arith}
use Rattle.std.proofs.lemmas.Bool.{cases_Bool, eq-eqb}
use Rattle.std.proofs.lemmas.List.{drop_all, drop_more}
use Rattle.std.proofs.lemmas.List.Elements.{All-append, All-cons, All-head, All-nil, All-tail, All-weaker}
use Rattle.ti_source.specs.Folding.{AreLines, HasNoNewline, Joins, PlacedByte, is_comment, last_line, last_piece, line_and_rest, no_lines, piece_and_break}
use Rattle.ti_source.proofs.FoldingLaws.{joins_so}
use Rattle.source_spans.specs.Folding.{FoldsAt, OffsetsLead, OneFoldingAt, bytes_at, kept_of}

-- ---- a text has one list of lines

newline_apart : (x : PlacedByte) (at : ℕ) → (x.0 == 10) ≡ false → x ≡ (10, at) → ⊥
newline_apart x at none e =
    let is : (x.0 == 10) ≡ true = eq-eqb x.0 10 (ap (λ (y : PlacedByte). y.0) e) in
    let both : true ≡ false = sym is ∙ none in
    cc

none_in_line : (line front rest : List PlacedByte) (at : ℕ) → HasNoNewline line → line ≡ front ++ (10, at) ∷ rest → ⊥
none_in_line [] [] rest at none e = cc
none_in_line [] (y ∷ ys) rest at none e = cc
none_in_line (x ∷ xs) [] rest at none e = newline_apart x at none.0 cc
none_in_line (x ∷ xs) (y ∷ ys) rest at none e = none_in_line xs ys rest at none.1 cc

-- two lines that are ended are the same, and what comes after them
record SameCut (line other rest left : List PlacedByte) (at place : ℕ) : Type 0 where
  lines : line ≡ other
  places : at ≡ place
  rests : rest ≡ left

same_cut : (line other rest left : List PlacedByte) (at place : ℕ) → HasNoNewline line → HasNoNewline other
    → line ++ (10, at) ∷ rest ≡ other ++ (10, place) ∷ left → SameCut line other rest left at place
same_cut [] [] rest left at place none void e =
    let heads : (10, at) ≡ (10, place) = cc in
    record { lines = refl; places = ap (λ (x : PlacedByte). x.1) heads; rests = cc }
same_cut [] (y ∷ ys) rest left at place none void e =
    let heads : y ≡ (10, at) = cc in
    absurd (newline_apart y at void.0 heads)
same_cut (x ∷ xs) [] rest left at place none void e =
    let heads : x ≡ (10, place) = cc in
    absurd (newline_apart x place none.0 heads)
same_cut (x ∷ xs) (y ∷ ys) rest left at place none void e =
    let heads : x ≡ y = cc in
    let tails : xs ++ (10, at) ∷ rest ≡ ys ++ (10, place) ∷ left = cc in
    let later = same_cut xs ys rest left at place none.1 void.1 tails in
    record { lines = ap₂ (λ (z : PlacedByte) (zs : List PlacedByte). z ∷ zs) heads later.lines; places = later.places; rests = later.rests }

some_after : (front rest : List PlacedByte) (x : PlacedByte) → [] ≡ front ++ x ∷ rest → ⊥
some_after [] rest x e = cc
some_after (y ∷ ys) rest x e = cc

one_lines : (text other : List PlacedByte) (lines more : List (List PlacedByte)) → AreLines text lines → AreLines other more → text ≡ other → lines ≡ more
one_lines _ _ _ _ no_lines no_lines e = refl
one_lines _ _ _ _ no_lines (last_line line some none) e = absurd (some (sym e))
one_lines _ _ _ _ no_lines (line_and_rest line rest at lines none are) e = absurd (some_after line rest (10, at) e)
one_lines _ _ _ _ (last_line line some none) no_lines e = absurd (some e)
one_lines _ _ _ _ (last_line line some none) (last_line other void free) e = ap (λ (l : List PlacedByte). l ∷ []) e
one_lines _ _ _ _ (last_line line some none) (line_and_rest other rest at lines free are) e = absurd (none_in_line line other rest at none e)
one_lines _ _ _ _ (line_and_rest line rest at lines none are) no_lines e = absurd (some_after line rest (10, at) (sym e))
one_lines _ _ _ _ (line_and_rest line rest at lines none are) (last_line other void free) e = absurd (none_in_line other line rest at free (sym e))
one_lines _ _ _ _ (line_and_rest line rest at lines none are) (line_and_rest other left place more free go) e =
    let same = same_cut line other rest left at place none free e in
    let later = one_lines rest left lines more are go same.rests in
    ap₂ (λ (l : List PlacedByte) (ls : List (List PlacedByte)). l ∷ ls) (ap₂ (λ (l : List PlacedByte) (k : ℕ). l ++ (10, k) ∷ []) same.lines same.places) later

pub one_folding : OneFoldingAt
one_folding block one other f g =
    let lines = one_lines (bytes_at 0 block) (bytes_at 0 block) f.lines g.lines f.are_lines g.are_lines refl in
    joins_so (kept_of g.lines) one (subst (λ (ls : List (List PlacedByte)). Joins (kept_of ls) one) lines f.joins)
    ∙ sym (joins_so (kept_of g.lines) other g.joins)

-- ---- the bytes at their offsets

abbrev IsOf : List ℕ → PlacedByte → Type 0
IsOf block x = (x.1 < length block) × (get_or block x.1 0 ≡ x.0)

front_all : (P : PlacedByte → Type 0) (xs ys : List PlacedByte) → All P (xs ++ ys) → All P xs
front_all P [] ys all = All-nil P
front_all P (x ∷ xs) ys all = All-cons P x xs (All-head P x (xs ++ ys) all) (front_all P xs ys (All-tail P x (xs ++ ys) all))

back_all : (P : PlacedByte → Type 0) (xs ys : List PlacedByte) → All P (xs ++ ys) → All P ys
back_all P [] ys all = all
back_all P (x ∷ xs) ys all = back_all P xs ys (All-tail P x (xs ++ ys) all)

bytes_of : (block : List ℕ) (n i : ℕ) → i + n ≡ length block → All (IsOf block) (bytes_at i (drop i block))
bytes_of block zero i e =
    let none : drop i block ≡ [] = drop_all i block (omega (arith, e)) in
    subst (λ (t : List ℕ). All (IsOf block) (bytes_at i t)) (sym none) (All-nil (IsOf block))
bytes_of block (suc n) i e =
    let within : i < length block = omega (arith, e) in
    let more : i + 1 + n ≡ length block = omega (arith, e) in
    let later = subst (λ (k : ℕ). All (IsOf block) (bytes_at k (drop (i + 1) block))) (add-one i) (bytes_of block n (i + 1) more) in
    subst (λ (t : List ℕ). All (IsOf block) (bytes_at i t)) (sym (drop_more block i 0 within))
    (All-cons (IsOf block) (get_or block i 0, i) (bytes_at (suc i) (drop (i + 1) block)) (within, refl) later)

line_kept : (P : PlacedByte → Type 0) (line : List PlacedByte) (lines : List (List PlacedByte)) → All P line → All P (kept_of lines)
    → All P (kept_of (line ∷ lines))
line_kept P line lines here later =
    elim (cases_Bool (is_comment line)) [
      | inl comment ↦ rw comment later
      | inr plain ↦ rw plain (All-append P line (kept_of lines) here later)
    ]

lines_kept : (P : PlacedByte → Type 0) (text : List PlacedByte) (lines : List (List PlacedByte)) → AreLines text lines → All P text → All P (kept_of lines)
lines_kept P _ _ no_lines all = All-nil P
lines_kept P _ _ (last_line line some none) all = line_kept P line [] all (All-nil P)
lines_kept P _ _ (line_and_rest line rest at lines none are) all =
    let after = back_all P line ((10, at) ∷ rest) all in
    let whole =
    All-append P line ((10, at) ∷ []) (front_all P line ((10, at) ∷ rest) all) (All-cons P (10, at) [] (All-head P (10, at) rest after) (All-nil P)) in
    line_kept P (line ++ (10, at) ∷ []) lines whole (lines_kept P rest lines are (All-tail P (10, at) rest after))

joined_kept : (P : PlacedByte → Type 0) (text kept : List PlacedByte) → Joins text kept → All P text → All P kept
joined_kept P _ _ (last_piece piece none) all = all
joined_kept P _ _ (piece_and_break piece run rest kept at none blank ends more) all =
    let after = All-tail P (10, at) (run ++ rest) (back_all P piece ((10, at) ∷ (run ++ rest)) all) in
    All-append P piece kept (front_all P piece ((10, at) ∷ (run ++ rest)) all) (joined_kept P rest kept more (back_all P run rest after))

pub offsets_lead : OffsetsLead
offsets_lead block text f = joined_kept (IsOf block) (kept_of f.lines) text f.joins
    (lines_kept (IsOf block) (bytes_at 0 block) f.lines f.are_lines (bytes_of block (length block) 0 (omega arith)))

-- the offsets of a folded text are small
pub offsets_small : (block : List ℕ) (text : List PlacedByte) → FoldsAt block text → length block < 2 ^ 63 → All (λ (x : PlacedByte). x.1 < 2 ^ 63) text
offsets_small block text folds small =
    All-weaker (IsOf block) (λ (x : PlacedByte). x.1 < 2 ^ 63) (λ x is. omega (arith, is.0, small)) text (offsets_lead block text folds)
