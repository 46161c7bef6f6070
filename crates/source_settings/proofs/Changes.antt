-- Levels one after another.
use Rattle.std.proofs.Common.{◌≡◌, ℕ, List, [], ◌∷◌, ◌++◌, Ok, Err, refl, ap, sym, append_assoc}
use Rattle.toml.specs.Data.{Data, Members, member}
use Rattle.source_settings.specs.Document.{Read, and_then, change_before, change_of, changes_of}
use Rattle.source_settings.specs.Settings.{SeenChange}

grouped : (done : List SeenChange) (change : SeenChange) (others : Read (List SeenChange))
    → and_then (λ (rest : List SeenChange). Ok (done ++ rest)) (and_then (change_before change) others)
    ≡ and_then (λ (rest : List SeenChange). Ok ((done ++ change ∷ []) ++ rest)) others
grouped done change (Ok rest) = ap (λ (all : List SeenChange). Ok all) (sym (append_assoc done (change ∷ []) rest))
grouped done change (Err refusal) = refl

-- one more
pub changes-more : (done : List SeenChange) (change : SeenChange) (code : List ℕ) (value : Data) (others : Members)
    → change_of code value ≡ Ok change
    → and_then (λ (rest : List SeenChange). Ok (done ++ rest)) (changes_of (member code value others))
    ≡ and_then (λ (rest : List SeenChange). Ok ((done ++ change ∷ []) ++ rest)) (changes_of others)
changes-more done change code value others is = rw is (grouped done change (changes_of others))
