-- Which faults and which hints are among the remarks on a source (own): all, each once and in their
-- order, and no others; and in which order they are.
use Rattle.std.specs.Prelude.{◌≡◌, ◌⊎◌, false, List, [], ◌∷◌, map}
use Rattle.source_types.specs.declared.places.Position.{Position}
use Rattle.source_diagnostics.specs.Diagnostics.{Shown}
use Rattle.source_remarks.specs.Hints.{SeenHint, SeenHints}
use Rattle.source_remarks.specs.Remarks.{SeenRemark, seen_fault, seen_hint, is_before, range_of, remarks_by}

-- the faults among remarks
abbrev pub faults_among : List SeenRemark → List Shown
faults_among [] = []
faults_among (seen_fault fault ∷ remarks) = fault ∷ faults_among remarks
faults_among (seen_hint hint ∷ remarks) = faults_among remarks

-- the hints among remarks
abbrev pub hints_among : List SeenRemark → List SeenHint
hints_among [] = []
hints_among (seen_fault fault ∷ remarks) = hints_among remarks
hints_among (seen_hint hint ∷ remarks) = hint ∷ hints_among remarks

-- the hints of the third list are those of the first and those of the second, each in their order
abbrev pub AreOfBoth : List SeenHint → List SeenHint → List SeenHint → Type 0
AreOfBoth ones others [] = (ones ≡ []) × (others ≡ [])
AreOfBoth ones others (hint ∷ hints) =
    ((more : List SeenHint) × (ones ≡ hint ∷ more) × AreOfBoth more others hints)
    ⊎ ((more : List SeenHint) × (others ≡ hint ∷ more) × AreOfBoth ones more hints)

-- Without the hints, remarks on a source are its faults in their order.
abbrev pub RemarksHaveTheFaults : Type 0
RemarksHaveTheFaults = (faults : List Shown) (hints : SeenHints) → faults_among (remarks_by faults hints) ≡ faults

-- Without the faults, they are the hints on its blocks and those on the file, each in their order.
abbrev pub RemarksHaveTheHints : Type 0
RemarksHaveTheHints = (faults : List Shown) (hints : SeenHints) → AreOfBoth hints.blocks hints.file (hints_among (remarks_by faults hints))

-- none of these begins before a place
abbrev pub NoneBefore : Position → List SeenRemark → Type 0
NoneBefore place [] = Unit {0}
NoneBefore place (remark ∷ remarks) = (is_before (range_of remark).start place ≡ false) × NoneBefore place remarks

-- none begins before an earlier one
abbrev pub AreInOrder : List SeenRemark → Type 0
AreInOrder [] = Unit {0}
AreInOrder (remark ∷ remarks) = NoneBefore (range_of remark).start remarks × AreInOrder remarks

-- If the faults come in the order of the source, and the hints of each kind, so do all together.
abbrev pub RemarksAreInOrder : Type 0
RemarksAreInOrder =
    (faults : List Shown) (hints : SeenHints) → AreInOrder (map seen_fault faults) → AreInOrder (map seen_hint hints.blocks)
    → AreInOrder (map seen_hint hints.file) → AreInOrder (remarks_by faults hints)
