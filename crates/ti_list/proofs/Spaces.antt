-- What is before an item on its line.
use Rattle.std.proofs.Common.{◌≡◌, ℕ, List, [], ◌∷◌, ◌++◌, length, slice_set, sym, ◌∙◌, append_assoc}
use Rattle.std.proofs.Math.Seq.{set-append_seam}

-- a space in the place of the tab before an item
pub spaced : (before item : List ℕ) → slice_set (before ++ 9 ∷ [] ++ item ++ 44 ∷ []) (length before) 32 ≡ before ++ 32 ∷ item ++ 44 ∷ []
spaced before item =
    let whole : before ++ 9 ∷ [] ++ item ++ 44 ∷ [] ≡ before ++ (9 ∷ (item ++ 44 ∷ [])) = simp append_assoc in
    rw whole (set-append_seam before 9 (item ++ 44 ∷ []) 32) ∙ sym (append_assoc before (32 ∷ item) (44 ∷ []))
