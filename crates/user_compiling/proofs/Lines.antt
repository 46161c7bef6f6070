-- The lines of a report, one after the other.
use Rattle.std.proofs.Common.{◌≡◌, ◌∙◌, ℕ, zero, suc, All, length, map, get_or, slice_get, Some, subst, arith, ◌+◌, ◌-◌, ◌<◌, ◌≤◌, List, [], ◌∷◌, ◌++◌}
use Rattle.std.proofs.Common.{refl, sym, ap, append_assoc}
use Rattle.std.specs.List.{flat_map}
use Rattle.std.proofs.lemmas.List.{append-nil}
use Rattle.std.proofs.lemmas.List.Elements.{All-head, All-tail}
use Rattle.base_meaning.specs.Report.{lines_before}
use Rattle.user_compiling.specs.Faults.{ExtendedSourceFault, of_profile, bad_user_defined, block_of, line_of}
use Rattle.user_compiling.specs.Report.{extended_line, IsExtendedPlaced}
use Rattle.user_compiling.specs.inside.Lines.{line_with_number}

pub All-map_item : {X Y : Type 0} (P : Y → Type 0) (f : X → Y) (xs : List X) (i : ℕ) (x : X) → i < length xs → x ≡ get_or xs i x → All P (map f xs) → P (f x)
All-map_item P f [] i x l e all = absurd (omega (arith, l))
All-map_item P f (y ∷ ys) zero x l e all = subst (λ z. P (f z)) (sym e) (All-head P (f y) (map f ys) all)
All-map_item P f (y ∷ ys) (suc i) x l e all = All-map_item P f ys i x (omega (arith, l)) e (All-tail P (f y) (map f ys) all)

pub slice_get-map_item : {X Y : Type 0} (f : X → Y) (xs : List X) (i : ℕ) (x : X) → i < length xs → x ≡ get_or xs i x → slice_get (map f xs) i ≡ Some (f x)
slice_get-map_item f [] i x l e = absurd (omega (arith, l))
slice_get-map_item f (y ∷ ys) zero x l e = ap (λ z. Some (f z)) (sym e)
slice_get-map_item f (y ∷ ys) (suc i) x l e = slice_get-map_item f ys i x (omega (arith, l)) e

pub placed_block : (n : ℕ) (f : ExtendedSourceFault) → IsExtendedPlaced n f → block_of f < n
placed_block n (of_profile f) p = p.0
placed_block n (bad_user_defined block line name) p = p.0

pub placed_line : (n : ℕ) (f : ExtendedSourceFault) → IsExtendedPlaced n f → (1 ≤ line_of f) × (line_of f ≤ 1048577)
placed_line n (of_profile f) p = p.1
placed_line n (bad_user_defined block line name) p = p.1

numbered : (texts : List (List ℕ)) (first : ℕ) (f : ExtendedSourceFault) → line_with_number (first + lines_before texts (block_of f) + line_of f - 1) f
    ≡ extended_line texts first f
numbered texts first (of_profile f) = refl
numbered texts first (bad_user_defined block line name) = refl

lines-append : (texts : List (List ℕ)) (first : ℕ) (xs : List ExtendedSourceFault) (x : ExtendedSourceFault)
    → flat_map (extended_line texts first) (xs ++ x ∷ []) ≡ flat_map (extended_line texts first) xs ++ extended_line texts first x
lines-append texts first [] x = append-nil (extended_line texts first x)
lines-append texts first (y ∷ ys) x = ap (λ zs. extended_line texts first y ++ zs) (lines-append texts first ys x)
    ∙ sym (append_assoc (extended_line texts first y) (flat_map (extended_line texts first) ys) (extended_line texts first x))

-- the line of one more fault was written
pub one_more_line : (texts : List (List ℕ)) (first : ℕ) (so_far more : List ExtendedSourceFault) (f : ExtendedSourceFault) (start : ℕ) (old new : List ℕ)
    → old ≡ flat_map (extended_line texts first) so_far → more ≡ so_far ++ f ∷ []
    → start ≡ lines_before texts (block_of f) → new ≡ old ++ line_with_number (first + start + line_of f - 1) f
    → new ≡ flat_map (extended_line texts first) more
one_more_line texts first so_far more f start old new e m s w =
    w ∙ ap (λ xs. xs ++ line_with_number (first + start + line_of f - 1) f) e
    ∙ ap (λ n. flat_map (extended_line texts first) so_far ++ line_with_number (first + n + line_of f - 1) f) s
    ∙ ap (λ xs. flat_map (extended_line texts first) so_far ++ xs) (numbered texts first f)
    ∙ sym (ap (flat_map (extended_line texts first)) m ∙ lines-append texts first so_far f)
