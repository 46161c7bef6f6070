-- The files of entries, name by name and block by block.
use Rattle.std.proofs.Common.{◌≡◌, ℕ, zero, suc, ◌+◌, ◌<◌, Bool, true, false, cond, option_map, slice_get, List, [], ◌∷◌, ◌++◌}
use Rattle.std.proofs.Common.{length, map, get_or, All, Option, Some, None, refl, sym, ap, append-nil, ◌∙◌, subst, arith}
use Rattle.std.specs.List.{flat_map, range_with_len}
use Rattle.std.specs.Option.{option_map_or}
use Rattle.std.proofs.lemmas.List.{append_assoc, get_or-map, length-map}
use Rattle.std.proofs.lemmas.Option.{none-some, same_Some, slice_get-get_or, slice_get-map}
use Rattle.std.proofs.lemmas.List.Elements.{All-cons, All-get_or, All-head, All-nil, All-tail, All-weaker}
use Rattle.ti_source.specs.Header.{IsLookupName, IsNameByte, ReadsNames}
use Rattle.ti_source.specs.Items.{bytes}
use Rattle.ti_source.specs.Judging.{names_found}
use Rattle.ti_source.specs.Parsing.{HasReading, Parses, reading_of_text}
use Rattle.ti_source.specs.Reading.{Reading}
use Rattle.base_meaning.specs.Faults.{distinct, distinct_after}
use Rattle.base_meaning.specs.Owner.{is_among, readings}
use Rattle.tools_sources.specs.EntryFiles.{names_at}
use Rattle.tools_sources.specs.inside.Names.{IsAsciiName}

-- what holds of all names holds of each of them once
pub all_distinct : (P : List ℕ → Type 0) (before names : List (List ℕ)) → All P names → All P (distinct_after before names)
all_distinct P before [] all = All-nil P
all_distinct P before (name ∷ names) all =
    by_test (is_among name before) (all_distinct P (before ++ name ∷ []) names (All-tail P name names all))
  where
    by_test : (b : Bool) → All P (distinct_after (before ++ name ∷ []) names) → All P (cond b [] (name ∷ []) ++ distinct_after (before ++ name ∷ []) names)
    by_test true rest = rest
    by_test false rest = All-cons P name (distinct_after (before ++ name ∷ []) names) (All-head P name names all) rest

-- and of one that is held in memory at a place among these
pub holds_once : {A : Type 0} (P : List ℕ → Type 0) (f : A → List ℕ) (items : List A) (index : ℕ) (item : A) (name : List ℕ) (names : List (List ℕ))
    → index < length items → item ≡ get_or items index item → name ≡ f item → map f items ≡ distinct names → All P names → P name
holds_once P f items index item name names within is_item is_name each all =
    let whole : All P (map f items) = subst (All P) (sym each) (all_distinct P [] names all) in
    let here : name ≡ get_or (map f items) index name = is_name ∙ ap f is_item ∙ sym (get_or-map f items index item name within) in
    subst P (sym here) (All-get_or P (map f items) index name (rw (length-map items f) within) whole)

-- the names of a block, by its text
names_of_text : (texts names : List (List ℕ)) (at : ℕ) (text : List ℕ) → slice_get texts at ≡ Some text
    → option_map (λ (block : Reading). block.names) (slice_get (readings texts) at) ≡ Some names → names ≡ (reading_of_text text).names
names_of_text texts names at text is named =
    let there : slice_get (readings texts) at ≡ Some (reading_of_text text) = rw (slice_get-map reading_of_text texts at, is) refl in
    let same : Some (reading_of_text text).names ≡ Some names = sym (ap (λ o. option_map (λ (block : Reading). block.names) o) there) ∙ named in
    sym (same_Some (reading_of_text text).names names same)

-- the names that a block at a position was found to have
pub names_there : (texts names : List (List ℕ)) (at : ℕ) → option_map (λ (block : Reading). block.names) (slice_get (readings texts) at) ≡ Some names
    → names_at texts at ≡ names
names_there texts names at named = go (slice_get (readings texts) at) named
  where
    go : (block : Option Reading) → option_map (λ (block : Reading). block.names) block ≡ Some names
        → option_map_or (λ (block : Reading). block.names) block [] ≡ names
    go None e = absurd (none-some names e)
    go (Some block) e = same_Some block.names names e

-- ---- lookup names are ASCII

IsAsciiName-lookup : (name : List ℕ) → IsLookupName name → IsAsciiName name
IsAsciiName-lookup [] n = absurd (n.some refl)
IsAsciiName-lookup (x ∷ xs) n = (omega arith, All-weaker IsNameByte (λ byte. byte < 128) (λ b p. omega arith) (x ∷ xs) n.bytes)

names_read : (field : List ℕ) (names : Option (List (List ℕ))) → ReadsNames field names → All IsAsciiName (names_found names)
names_read field None bad = All-nil IsAsciiName
names_read field (Some names) header = All-weaker IsLookupName IsAsciiName IsAsciiName-lookup names header.lookup

names_parsed : (block : List ℕ) (reading : Reading) → Parses block reading → All IsAsciiName reading.names
names_parsed block reading parses =
    subst (λ (r : Reading). All IsAsciiName r.names) (sym parses.is) (names_read (bytes parses.field) parses.names parses.reads_names)

pub names_ascii : (texts names : List (List ℕ)) (at : ℕ) → HasReading → at < length texts
    → option_map (λ (block : Reading). block.names) (slice_get (readings texts) at) ≡ Some names → All IsAsciiName names
names_ascii texts names at read within named =
    let text = get_or texts at [] in
    subst (All IsAsciiName) (sym (names_of_text texts names at text (slice_get-get_or texts at [] within) named))
    (names_parsed text (reading_of_text text) (read text))

-- ---- the blocks before a position

-- one number more
pub range_more : (a n b : ℕ) → a + n ≡ b → range_with_len a (suc n) ≡ range_with_len a n ++ b ∷ []
range_more a zero b e = ap (λ x. x ∷ []) (omega (arith, e))
range_more a (suc n) b e = ap (λ xs. a ∷ xs) (range_more (a + 1) n b (omega (arith, e)))

flat-more : {X : Type 0} (f : ℕ → List X) (xs : List ℕ) (x : ℕ) → flat_map f (xs ++ x ∷ []) ≡ flat_map f xs ++ f x
flat-more f [] x = append-nil (f x)
flat-more f (y ∷ ys) x = ap (λ zs. f y ++ zs) (flat-more f ys x) ∙ sym (append_assoc (f y) (flat_map f ys) (f x))

-- what the blocks up to one more give
pub one_more_block : {X : Type 0} (f : ℕ → List X) (old new : List X) (at : ℕ) → old ≡ flat_map f (range_with_len 0 at) → new ≡ old ++ f at
    → new ≡ flat_map f (range_with_len 0 (at + 1))
one_more_block f old new at so_far added =
    let more : at + 1 ≡ suc at = omega arith in
    added ∙ ap (λ xs. xs ++ f at) so_far
    ∙ sym (ap (λ n. flat_map f (range_with_len 0 n)) more ∙ ap (flat_map f) (range_more 0 at at (omega arith)) ∙ flat-more f (range_with_len 0 at) at)
