-- The names of the blocks of a source with further blocks after it.
use Rattle.std.proofs.Common.{◌≡◌, ◌<◌, ◌||◌, ℕ, zero, suc, Bool, true, false, cond, List, [], ◌∷◌, ◌++◌, All, Option, Some, filter, length}
use Rattle.std.proofs.Common.{option_map, slice_get, nat_eq, refl, sym, ap, ◌∙◌, arith}
use Rattle.std.specs.Option.{option_map_or}
use Rattle.std.specs.Str.{bytes_eq}
use Rattle.std.proofs.lemmas.List.{length-map, map-append}
use Rattle.std.proofs.lemmas.List.Elements.{All-cons, All-head, All-nil, All-tail}
use Rattle.std.proofs.lemmas.Bool.{false≢true}
use Rattle.std.proofs.lemmas.Slice.Eq.{bytes_eq-Decides}
use Rattle.ti_source.specs.Parsing.{reading_of_text}
use Rattle.ti_source.specs.Reading.{Reading}
use Rattle.base_meaning.specs.Faults.{distinct}
use Rattle.base_meaning.specs.Owner.{is_among, is_owner, owner, readings}
use Rattle.everyday_sources.specs.Used.{OwnNamesWin}
use Rattle.tools_sources.specs.EntryFiles.{names_at}
use Rattle.everyday_tic.specs.Laws.{OwnNamesAreWritten}
use Rattle.tools_sources.proofs.Filing.{all_distinct}

-- the names of the block at a position of these
abbrev names_in : List Reading → ℕ → List (List ℕ)
names_in blocks at = option_map_or (λ (block : Reading). block.names) (slice_get blocks at) []

-- the block at a position stays where it is
same_block : (blocks others : List Reading) (at : ℕ) → at < length blocks → slice_get (blocks ++ others) at ≡ slice_get blocks at
same_block [] others at within = absurd (omega (arith, within))
same_block (b ∷ bs) others zero within = refl
same_block (b ∷ bs) others (suc at) within = same_block bs others at (omega (arith, within))

or_true : (b : Bool) → (b || true) ≡ true
or_true true = refl
or_true false = refl

-- what holds of each that is among some holds of all
all_among : (P : List ℕ → Type 0) (names : List (List ℕ)) → ((name : List ℕ) → is_among name names ≡ true → P name) → All P names
all_among P [] each = All-nil P
all_among P (x ∷ xs) each =
    All-cons P x xs (each x (ap (λ b. b || is_among x xs) ((bytes_eq-Decides x x).1 refl)))
    (all_among P xs (λ name there. each name (ap (λ b. bytes_eq name x || b) there ∙ or_true (bytes_eq name x))))

-- a name that the block at a position has belongs to a block
owned : (blocks : List Reading) (at : ℕ) (name : List ℕ) → is_among name (names_in blocks at) ≡ true → (place : ℕ) × (owner blocks name ≡ Some place)
owned [] at name there = absurd (false≢true there)
owned (b ∷ bs) zero name there = (0, rw there refl)
owned (b ∷ bs) (suc at) name there = by_test (is_among name b.names) (owned bs at name there)
  where
    by_test : (t : Bool) → (place : ℕ) × (owner bs name ≡ Some place)
        → (place : ℕ) × (cond t (Some 0) (option_map (λ (k : ℕ). suc k) (owner bs name)) ≡ Some place)
    by_test true later = (0, refl)
    by_test false later = (suc later.0, ap (option_map (λ (k : ℕ). suc k)) later.1)

-- filters that agree on a list
same_filter : (p q : List ℕ → Bool) (xs : List (List ℕ)) → All (λ x. p x ≡ q x) xs → filter p xs ≡ filter q xs
same_filter p q [] all = refl
same_filter p q (x ∷ xs) all =
    ap (λ b. cond b (x ∷ filter p xs) (filter p xs)) (All-head (λ x. p x ≡ q x) x xs all)
    ∙ ap (λ rest. cond (q x) (x ∷ rest) rest) (same_filter p q xs (All-tail (λ x. p x ≡ q x) x xs all))

pub own_names_are_written : OwnNamesWin → OwnNamesAreWritten
own_names_are_written win texts others at within = (same_names, same_own)
  where
    P : List ℕ → Type 0
    P name = is_owner (readings (texts ++ others)) name at ≡ is_owner (readings texts) name at

    same_names : names_at (texts ++ others) at ≡ names_at texts at
    same_names =
        ap (λ (bs : List Reading). names_in bs at) (map-append reading_of_text texts others)
        ∙ ap (λ (o : Option Reading). option_map_or (λ (block : Reading). block.names) o [])
        (same_block (readings texts) (readings others) at (rw (length-map texts reading_of_text) within))

    each : (name : List ℕ) → is_among name (names_at texts at) ≡ true → P name
    each name there =
        let o = owned (readings texts) at name there in
        ap (λ (k : Option ℕ). option_map_or (λ place. nat_eq place at) k false) (win texts others name o.0 o.1 ∙ sym o.1)

    same_own : filter (λ name. is_owner (readings (texts ++ others)) name at) (distinct (names_at texts at))
        ≡ filter (λ name. is_owner (readings texts) name at) (distinct (names_at texts at))
    same_own = same_filter _ _ _ (all_distinct P [] (names_at texts at) (all_among P (names_at texts at) each))
