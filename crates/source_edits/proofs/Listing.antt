-- Names that are put into a list, one after the other.
use Rattle.std.proofs.Common.{◌≡◌, ℕ, ◌+◌, ◌<◌, Bor, List, [], ◌∷◌, ◌++◌, get_or, length, map, sym, take, ap, ◌∙◌}
use Rattle.std.proofs.lemmas.List.{append_assoc, map-append, take_more}

-- those that are borrowed, as plain data
abbrev pub seen : List (Bor (List ℕ)) → List (List ℕ)
seen all = map (λ (name : Bor (List ℕ)). name.now) all

pub names_more : (names before : List (List ℕ)) (all : List (Bor (List ℕ))) (name : Bor (List ℕ)) (index : ℕ) → index < length names
    → seen all ≡ before ++ take index names → name.now ≡ get_or names index [] → seen (all ++ name ∷ []) ≡ before ++ take (index + 1) names
names_more names before all name index within so is =
    map-append (λ (n : Bor (List ℕ)). n.now) all (name ∷ []) ∙ ap (λ (t : List (List ℕ)). t ++ name.now ∷ []) so
    ∙ ap (λ (x : List ℕ). (before ++ take index names) ++ x ∷ []) is
    ∙ append_assoc before (take index names) (get_or names index [] ∷ [])
    ∙ ap (λ (t : List (List ℕ)). before ++ t) (sym (take_more names index [] within))
