-- Objects that are told one after another are an array.
use Rattle.std.proofs.Common.{◌≡◌, ◌∙◌, ℕ, List, [], ◌∷◌, ◌++◌, append_assoc, ap, codes, flat_map, map, refl, sym, true}
use Rattle.serde_json.specs.View.{items_of}
use Rattle.serde_json.specs.Written.{compact_text, items_text}
use Rattle.everyday_forms.specs.Json.{ArraysAreJson, json_text, told_data}
use Rattle.everyday_forms.specs.Told.{ToldSeen}

-- those after the first
others : (all : List ToldSeen) → flat_map json_text all ++ codes "]" ≡ items_text true (items_of (map told_data all))
others [] = refl
others (told ∷ all) =
    append_assoc (json_text told) (flat_map json_text all) (codes "]") ∙ ap (λ rest. json_text told ++ rest) (others all)

pub arrays_are_json : ArraysAreJson
arrays_are_json [] = refl
arrays_are_json (told ∷ all) =
    let first = compact_text (told_data told) in
    let rest = flat_map json_text all in
    let items = items_text true (items_of (map told_data all)) in
    let ended : rest ++ codes "]\n" ≡ items ++ codes "\n" =
    sym (append_assoc rest (codes "]") (codes "\n")) ∙ ap (λ text. text ++ codes "\n") (others all) in
    ap (λ text. codes "[" ++ text)
    (append_assoc first rest (codes "]\n") ∙ ap (λ text. first ++ text) ended ∙ sym (append_assoc first items (codes "\n")))
