-- The rows of a graph that is kept as one list of edges and the places where the rows start.
use Rattle.std.proofs.Common.{◌≡◌, ℕ, zero, suc, ◌+◌, ◌-◌, ◌≤◌, ◌⊎◌, inl, inr, List, [], ◌∷◌, ◌++◌, length, take, drop, Option, Some, slice_get, refl, sym}
use Rattle.std.proofs.Common.{ap, arith, length-drop, length-append, length-take, get_or, sum_by, false, ◌==◌, ◌∙◌}
use Rattle.std.proofs.lemmas.List.{drop_all, take_rest, drop-append-le, take-append-le}
use Rattle.std.proofs.lemmas.List.Sums.{sum_by-cons}
use Rattle.std.proofs.lemmas.Bool.{false≢true}
use Rattle.std.proofs.lemmas.Option.{none-some, same_Some}
use Rattle.base_components.specs.inside.Graph.{IsRow}
use Rattle.base_components.specs.Graph.{Rows, AddsEdge, row_from, rows_of, AreStarts}

pub length-rows_of : (targets : List (Option ℕ)) (starts : List ℕ) → length (rows_of targets starts) ≡ length starts
length-rows_of targets [] = refl
length-rows_of targets (s ∷ starts) = ap suc (length-rows_of targets starts)

-- ---- one more node

pub rows_of-push_start : (targets : List (Option ℕ)) (starts : List ℕ) → AreStarts targets starts
    → rows_of targets (starts ++ length targets ∷ []) ≡ rows_of targets starts ++ [] ∷ []
rows_of-push_start targets [] h = rw (drop_all (length targets) targets (omega arith)) refl
rows_of-push_start targets (s ∷ []) h = rw (take_rest targets s, drop_all (length targets) targets (omega arith)) refl
rows_of-push_start targets (s ∷ (next ∷ starts)) h =
    ap (λ rows. row_from targets s (next ∷ []) ∷ rows) (rows_of-push_start targets (next ∷ starts) h.1)

pub AreStarts-push_start : (targets : List (Option ℕ)) (starts : List ℕ) → AreStarts targets starts → AreStarts targets (starts ++ length targets ∷ [])
AreStarts-push_start targets [] h = omega arith
AreStarts-push_start targets (s ∷ []) h = (h, omega arith)
AreStarts-push_start targets (s ∷ (next ∷ starts)) h = (h.0, AreStarts-push_start targets (next ∷ starts) h.1)

-- ---- one more edge

pub AreStarts-push_target : (targets : List (Option ℕ)) (t : Option ℕ) (starts : List ℕ) → AreStarts targets starts → AreStarts (targets ++ t ∷ []) starts
AreStarts-push_target targets t [] h = tt
AreStarts-push_target targets t (s ∷ []) h = omega (arith, length-append targets (t ∷ []))
AreStarts-push_target targets t (s ∷ (next ∷ starts)) h = (h.0, AreStarts-push_target targets t (next ∷ starts) h.1)

AreStarts-head : (targets : List (Option ℕ)) (s : ℕ) (starts : List ℕ) → AreStarts targets (s ∷ starts) → s ≤ length targets
AreStarts-head targets s [] h = h
AreStarts-head targets s (next ∷ starts) h = omega (arith, AreStarts-head targets next starts h.1)

no_rows : (before : Rows) (row : List (Option ℕ)) → [] ≡ before ++ row ∷ [] → ⊥
no_rows [] row e = cc
no_rows (b ∷ before) row e = cc

pub rows_of-push_target : (targets : List (Option ℕ)) (t : Option ℕ) (starts : List ℕ) → AreStarts targets starts
    → AddsEdge (rows_of targets starts) (rows_of (targets ++ t ∷ []) starts) t
rows_of-push_target targets t [] h before row e = absurd (no_rows before row e)
rows_of-push_target targets t (s ∷ []) h [] row e =
    let same : drop s targets ≡ row = cc in
    rw (drop-append-le s targets (t ∷ []) h, same) refl
rows_of-push_target targets t (s ∷ []) h (b ∷ before) row e =
    let rest : [] ≡ before ++ row ∷ [] = cc in absurd (no_rows before row rest)
rows_of-push_target targets t (s ∷ (next ∷ starts)) h [] row e = cc
rows_of-push_target targets t (s ∷ (next ∷ starts)) h (b ∷ before) row e =
    let within : next ≤ length targets = AreStarts-head targets next starts h.1 in
    let here : s ≤ length targets = omega (arith, h.0) in
    let first : take (next - s) (drop s targets) ≡ b = cc in
    let rest : rows_of targets (next ∷ starts) ≡ before ++ row ∷ [] = cc in
    let short : next - s ≤ length (drop s targets) = omega (arith, length-drop s targets) in
    let kept : take (next - s) (drop s (targets ++ t ∷ [])) ≡ b =
    rw (drop-append-le s targets (t ∷ []) here, take-append-le (next - s) (drop s targets) (t ∷ []) short) first in
    let tail = rows_of-push_target targets t (next ∷ starts) h.1 before row rest in
    cc

-- ---- a row read

-- where the row that starts at the place `i` of the starts ends
abbrev pub EndsAt : List (Option ℕ) → List ℕ → ℕ → ℕ → Type 0
EndsAt targets starts i end = (slice_get starts (suc i) ≡ Some end) ⊎ ((length starts ≤ suc i) × (end ≡ length targets))

pub row_read : (targets : List (Option ℕ)) (starts : List ℕ) (i start end : ℕ) → AreStarts targets starts → slice_get starts i ≡ Some start
    → EndsAt targets starts i end → IsRow targets starts i start end
row_read targets [] i start end h e f = absurd (none-some start e)
row_read targets (s ∷ []) zero start end h e (inl f) = absurd (none-some end f)
row_read targets (s ∷ []) zero start end h e (inr f) =
    let same : s ≡ start = same_Some s start e in
    rw (← same, f.1) (record { climbs = h; within = omega arith; row = ap (λ row. Some row) (sym (take_rest targets s)) })
row_read targets (s ∷ []) (suc i) start end h e f = absurd (none-some start e)
row_read targets (s ∷ (next ∷ starts)) zero start end h e (inl f) =
    let same : s ≡ start = same_Some s start e in
    let same_end : next ≡ end = same_Some next end f in
    rw (← same, ← same_end) (record { climbs = h.0; within = AreStarts-head targets next starts h.1; row = refl })
row_read targets (s ∷ (next ∷ starts)) zero start end h e (inr f) = absurd (omega (arith, f.0))
row_read targets (s ∷ (next ∷ starts)) (suc i) start end h e f =
    let later = row_read targets (next ∷ starts) i start end h.1 e (elim f [ inl x ↦ inl x | inr x ↦ inr (omega (arith, x.0), x.1) ]) in
    record { climbs = later.climbs; within = later.within; row = later.row }

-- ---- all edges

-- the rows have the edges from the first start on
pub edges_from : (targets : List (Option ℕ)) (start : ℕ) (starts : List ℕ) → AreStarts targets (start ∷ starts)
    → start + sum_by length (rows_of targets (start ∷ starts)) ≡ length targets
edges_from targets s [] h =
    let one = sum_by-cons length (drop s targets) [] in
    omega (arith, one, length-drop s targets)
edges_from targets s (next ∷ starts) h =
    let within : next ≤ length targets = AreStarts-head targets next starts h.1 in
    let rest = edges_from targets next starts h.1 in
    let one = sum_by-cons length (take (next - s) (drop s targets)) (rows_of targets (next ∷ starts)) in
    let climbs = h.0 in
    omega (arith, one, length-take (next - s) (drop s targets), length-drop s targets)

-- what is read of a graph that has a node
pub edges_read : (targets : List (Option ℕ)) (starts : List ℕ) (rows : Rows) (len first nodes : ℕ) → AreStarts targets starts
    → rows_of targets starts ≡ rows → len ≡ length targets → nodes ≡ length starts → nodes == 0 ≡ false → first ≡ get_or starts 0 first
    → (first ≤ len) × (len - first ≡ sum_by length rows)
edges_read targets [] rows len first nodes h r l n some e = absurd (false≢true (sym some ∙ ap (λ k. k == 0) n))
edges_read targets (start ∷ starts) rows len first nodes h r l n some e =
    let all = edges_from targets start starts h in
    let same : sum_by length (rows_of targets (start ∷ starts)) ≡ sum_by length rows = ap (sum_by length) r in
    (omega arith, omega arith)
