-- Which faults and which hints are among the remarks on a source.
use Rattle.std.proofs.Common.{◌≡◌, ◌∙◌, true, false, cond, List, [], ◌∷◌, ◌++◌, map, refl, sym, ap, subst, inl, inr}
use Rattle.source_types.specs.declared.places.Position.{Position}
use Rattle.source_diagnostics.specs.Diagnostics.{Shown}
use Rattle.source_remarks.specs.Hints.{SeenHint}
use Rattle.source_remarks.specs.Laws.{AreOfBoth, RemarksHaveTheFaults, RemarksHaveTheHints, faults_among, hints_among}
use Rattle.source_remarks.specs.Remarks.{SeenRemark, seen_fault, seen_hint, following, is_before, leading, range_of, with_hints}

-- ---- hints alone and faults alone

hints_of_hints : (hints : List SeenHint) → hints_among (map seen_hint hints) ≡ hints
hints_of_hints [] = refl
hints_of_hints (hint ∷ hints) = ap (λ (more : List SeenHint). hint ∷ more) (hints_of_hints hints)

faults_of_hints : (hints : List SeenHint) → faults_among (map seen_hint hints) ≡ []
faults_of_hints [] = refl
faults_of_hints (hint ∷ hints) = faults_of_hints hints

faults_of_faults : (faults : List Shown) → faults_among (map seen_fault faults) ≡ faults
faults_of_faults [] = refl
faults_of_faults (fault ∷ faults) = ap (λ (more : List Shown). fault ∷ more) (faults_of_faults faults)

-- ---- remarks after hints

faults_after : (hints : List SeenHint) (remarks : List SeenRemark) → faults_among (map seen_hint hints ++ remarks) ≡ faults_among remarks
faults_after [] remarks = refl
faults_after (hint ∷ hints) remarks = faults_after hints remarks

hints_after : (hints : List SeenHint) (remarks : List SeenRemark) → hints_among (map seen_hint hints ++ remarks) ≡ hints ++ hints_among remarks
hints_after [] remarks = refl
hints_after (hint ∷ hints) remarks = ap (λ (more : List SeenHint). hint ∷ more) (hints_after hints remarks)

-- the hints before a place and those after them are all
parted : (place : Position) (hints : List SeenHint) → leading place hints ++ following place hints ≡ hints
parted place [] = refl
parted place (hint ∷ hints) =
    elim (is_before hint.range.start place) as
    (λ b. cond b (hint ∷ leading place hints) [] ++ cond b (following place hints) (hint ∷ hints) ≡ hint ∷ hints) [
      | true ↦ ap (λ (more : List SeenHint). hint ∷ more) (parted place hints)
      | false ↦ refl
    ]

-- ---- hints among remarks

faults_with : (remark : SeenRemark) (some more : List SeenRemark) → faults_among some ≡ faults_among more →
    faults_among (remark ∷ some) ≡ faults_among (remark ∷ more)
faults_with (seen_fault fault) some more same = ap (λ (faults : List Shown). fault ∷ faults) same
faults_with (seen_hint hint) some more same = same

faults_stay : (remarks : List SeenRemark) (hints : List SeenHint) → faults_among (with_hints remarks hints) ≡ faults_among remarks
faults_stay [] hints = faults_of_hints hints
faults_stay (remark ∷ remarks) hints =
    let place = (range_of remark).start in
    let rest = with_hints remarks (following place hints) in
    faults_after (leading place hints) (remark ∷ rest) ∙ faults_with remark rest remarks (faults_stay remarks (following place hints))

pub have_the_faults : RemarksHaveTheFaults
have_the_faults faults hints =
    faults_stay (with_hints (map seen_fault faults) hints.blocks) hints.file ∙ faults_stay (map seen_fault faults) hints.blocks ∙ faults_of_faults faults

-- the hints among faults are those that were put among them
hints_among_faults : (faults : List Shown) (hints : List SeenHint) → hints_among (with_hints (map seen_fault faults) hints) ≡ hints
hints_among_faults [] hints = hints_of_hints hints
hints_among_faults (fault ∷ faults) hints =
    let place = fault.range.start in
    let rest = with_hints (map seen_fault faults) (following place hints) in
    hints_after (leading place hints) (seen_fault fault ∷ rest)
    ∙ ap (λ (more : List SeenHint). leading place hints ++ more) (hints_among_faults faults (following place hints)) ∙ parted place hints

all_others : (hints : List SeenHint) → AreOfBoth [] hints hints
all_others [] = (refl, refl)
all_others (hint ∷ hints) = inr (hints, refl, all_others hints)

others_first : (ones others front both : List SeenHint) → AreOfBoth ones others both → AreOfBoth ones (front ++ others) (front ++ both)
others_first ones others [] both are = are
others_first ones others (hint ∷ front) both are = inr (front ++ others, refl, others_first ones others front both are)

remark_first : (remark : SeenRemark) (remarks rest : List SeenRemark) (others : List SeenHint) → AreOfBoth (hints_among remarks) others (hints_among rest)
    → AreOfBoth (hints_among (remark ∷ remarks)) others (hints_among (remark ∷ rest))
remark_first (seen_fault fault) remarks rest others are = are
remark_first (seen_hint hint) remarks rest others are = inl (hints_among remarks, refl, are)

joined : (remarks : List SeenRemark) (hints : List SeenHint) → AreOfBoth (hints_among remarks) hints (hints_among (with_hints remarks hints))
joined [] hints = subst (λ (both : List SeenHint). AreOfBoth [] hints both) (sym (hints_of_hints hints)) (all_others hints)
joined (remark ∷ remarks) hints =
    let place = (range_of remark).start in
    let front = leading place hints in
    let back = following place hints in
    let rest = with_hints remarks back in
    let ones = hints_among (remark ∷ remarks) in
    subst (λ (both : List SeenHint). AreOfBoth ones hints both) (sym (hints_after front (remark ∷ rest)))
    (subst (λ (others : List SeenHint). AreOfBoth ones others (front ++ hints_among (remark ∷ rest))) (parted place hints)
    (others_first ones back front (hints_among (remark ∷ rest)) (remark_first remark remarks rest back (joined remarks back))))

pub have_the_hints : RemarksHaveTheHints
have_the_hints faults hints =
    let among = with_hints (map seen_fault faults) hints.blocks in
    subst (λ (ones : List SeenHint). AreOfBoth ones hints.file (hints_among (with_hints among hints.file))) (hints_among_faults faults hints.blocks)
    (joined among hints.file)
