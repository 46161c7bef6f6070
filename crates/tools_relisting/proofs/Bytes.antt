-- The folding of a block, said of its bytes alone.
use Rattle.std.proofs.Common.{◌≡◌, ℕ, ◌+◌, Bool, true, false, ◌==◌, ◌||◌, ◌&&◌, List, [], ◌∷◌, cond, refl, ap, ◌∙◌}
use Rattle.ti_text.specs.WhiteSpace.{is_white_space}
use Rattle.ti_source.specs.Folding.{PlacedByte}
use Rattle.ti_source.specs.inside.Folding.{bytes_on_lines, in_comment, without_comments, without_breaks, folding_of}
use Rattle.ti_source.specs.Items.{bytes, without_front, without_white_front}

-- the bytes that are in no comment
abbrev pub uncommented : Bool → ℕ → List ℕ → List ℕ
uncommented comment before [] = []
uncommented comment before (x ∷ xs) = cond (in_comment comment before x) (uncommented true x xs) (x ∷ uncommented false x xs)

-- the bytes without line breaks
abbrev pub unbroken : Bool → List ℕ → List ℕ
unbroken joining [] = []
unbroken joining (x ∷ xs) = cond (x == 10 || (joining && is_white_space x)) (unbroken true xs) (x ∷ unbroken false xs)

bytes-placed : (line : ℕ) (s : List ℕ) → bytes (bytes_on_lines line s) ≡ s
bytes-placed line [] = refl
bytes-placed line (x ∷ xs) = ap (λ t. x ∷ t) (bytes-placed (cond (x == 10) (line + 1) line) xs)

bytes-without_comments : (comment : Bool) (before : ℕ) (s : List PlacedByte) → bytes (without_comments comment before s) ≡ uncommented comment before (bytes s)
bytes-without_comments comment before [] = refl
bytes-without_comments comment before (x ∷ xs) =
    elim (in_comment comment before x.0) as (λ b. bytes (cond b (without_comments true x.0 xs) (x ∷ without_comments false x.0 xs))
    ≡ cond b (uncommented true x.0 (bytes xs)) (x.0 ∷ uncommented false x.0 (bytes xs))) [
      | true ↦ bytes-without_comments true x.0 xs
      | false ↦ ap (λ t. x.0 ∷ t) (bytes-without_comments false x.0 xs)
    ]

bytes-joined : (joining : Bool) (s : List PlacedByte) → bytes (without_breaks joining s) ≡ unbroken joining (bytes s)
bytes-joined joining [] = refl
bytes-joined joining (x ∷ xs) =
    elim (x.0 == 10 || (joining && is_white_space x.0)) as (λ b. bytes (cond b (without_breaks true xs) (x ∷ without_breaks false xs))
    ≡ cond b (unbroken true (bytes xs)) (x.0 ∷ unbroken false (bytes xs))) [
      | true ↦ bytes-joined true xs
      | false ↦ ap (λ t. x.0 ∷ t) (bytes-joined false xs)
    ]

pub bytes-folded : (block : List ℕ) → bytes (folding_of block) ≡ unbroken false (uncommented false 10 block)
bytes-folded block =
    bytes-joined false (without_comments false 10 (bytes_on_lines 1 block))
    ∙ ap (unbroken false) (bytes-without_comments false 10 (bytes_on_lines 1 block) ∙ ap (uncommented false 10) (bytes-placed 1 block))

pub bytes-without_front : (item : List PlacedByte) → bytes (without_front item) ≡ without_white_front (bytes item)
bytes-without_front [] = refl
bytes-without_front (x ∷ xs) =
    elim (is_white_space x.0) as (λ b. bytes (cond b (without_front xs) (x ∷ xs)) ≡ cond b (without_white_front (bytes xs)) (x.0 ∷ bytes xs)) [
      | true ↦ bytes-without_front xs
      | false ↦ refl
    ]
