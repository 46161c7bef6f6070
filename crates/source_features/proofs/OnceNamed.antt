-- The names that are offered are the lookup names of all blocks, each once.
use Rattle.std.proofs.Common.{◌≡◌, ℕ, suc, ◌||◌, Bool, true, false, cond, not, inl, inr, List, [], ◌∷◌, ◌++◌, Option, None, Some, filter, flat_map, length}
use Rattle.std.proofs.Common.{nat_eq, refl, sym, subst, ap, append-nil, ◌∙◌, arith}
use Rattle.std.specs.Option.{option_map, option_map_or}
use Rattle.std.specs.Str.{bytes_eq}
use Rattle.std.proofs.lemmas.Bool.{cases_Bool}
use Rattle.std.proofs.lemmas.Grind.{flat_map-append}
use Rattle.std.proofs.lemmas.List.{append_assoc, length-append, length-map, map-append}
use Rattle.std.proofs.lemmas.List.Elements.{filter-append}
use Rattle.std.proofs.Math.Dec.{eqb-suc-suc, eqb-zero-suc}
use Rattle.std.proofs.lemmas.Slice.Eq.{bytes_eq-Decides}
use Rattle.ti_source.specs.Parsing.{reading_of_text}
use Rattle.ti_source.specs.Reading.{Reading}
use Rattle.base_meaning.specs.OwnNames.{own_names}
use Rattle.base_meaning.specs.Faults.{distinct_after}
use Rattle.base_meaning.specs.ItemLaws.{DistinctHasEachOnce, IsDistinctOf}
use Rattle.base_meaning.specs.Owner.{is_among, is_owner, owner, readings}
use Rattle.base_meaning.proofs.Exchanging.{list_any-append}
use Rattle.source_blocks.specs.Giving.{can_be_given}
use Rattle.source_features.specs.Completions.{NamesAreOfferedOnce, lookup_names, names_from, offered_names}

-- ---- each of some names once

distinct_more : (before xs ys : List (List ℕ)) → distinct_after before (xs ++ ys) ≡ distinct_after before xs ++ distinct_after (before ++ xs) ys
distinct_more before [] ys = ap (λ (t : List (List ℕ)). distinct_after t ys) (sym (append-nil before))
distinct_more before (x ∷ xs) ys =
    let here : List (List ℕ) = cond (is_among x before) [] (x ∷ []) in
    let later = distinct_after (before ++ x ∷ []) xs in
    ap (λ (t : List (List ℕ)). here ++ t) (distinct_more (before ++ x ∷ []) xs ys)
    ∙ ap (λ (t : List (List ℕ)). here ++ (later ++ distinct_after t ys)) (append_assoc before (x ∷ []) xs)
    ∙ sym (append_assoc here later (distinct_after (before ++ x ∷ xs) ys))

kept_by : (p : List ℕ → Bool) (x : List ℕ) (s b : Bool) → p x ≡ not b → filter p (cond s [] (x ∷ [])) ≡ cond (b || s) [] (x ∷ [])
kept_by p x true true e = refl
kept_by p x true false e = refl
kept_by p x false true e = rw e refl
kept_by p x false false e = rw e refl

or_true : (a b : Bool) → b ≡ true → (a || b) ≡ true
or_true true b e = refl
or_true false b e = e

among_first : (x : List ℕ) (xs : List (List ℕ)) → is_among x (x ∷ xs) ≡ true
among_first x xs = rw ((bytes_eq-Decides x x).1 refl) refl

kept_names : (p : List ℕ → Bool) (before seen names : List (List ℕ)) → ((n : List ℕ) → is_among n names ≡ true → p n ≡ not (is_among n before))
    → filter p (distinct_after seen names) ≡ distinct_after (before ++ seen) names
kept_names p before seen [] h = refl
kept_names p before seen (x ∷ xs) h =
    let here : List (List ℕ) = cond (is_among x seen) [] (x ∷ []) in
    let later = distinct_after (seen ++ x ∷ []) xs in
    let first : filter p here ≡ cond (is_among x (before ++ seen)) [] (x ∷ []) =
    kept_by p x (is_among x seen) (is_among x before) (h x (among_first x xs))
    ∙ ap (λ (b : Bool). cond b [] (x ∷ [])) (sym (list_any-append x before seen)) in
    let tail = kept_names p before (seen ++ x ∷ []) xs (λ n e. h n (or_true (bytes_eq n x) (is_among n xs) e)) in
    filter-append p here later
    ∙ ap (λ (t : List (List ℕ)). filter p here ++ t) tail
    ∙ ap (λ (t : List (List ℕ)). filter p here ++ distinct_after t xs) (sym (append_assoc before seen (x ∷ [])))
    ∙ ap (λ (t : List (List ℕ)). t ++ distinct_after ((before ++ seen) ++ x ∷ []) xs) first

-- ---- the first block that has a name

abbrev names_in : List Reading → List (List ℕ)
names_in blocks = flat_map (λ (block : Reading). block.names) blocks

later_owner : (at : ℕ) (found : Option ℕ) → option_map_or (λ place. nat_eq place (suc at)) (option_map (λ k. suc k) found) false
    ≡ option_map_or (λ place. nat_eq place at) found false
later_owner at None = refl
later_owner at (Some place) = eqb-suc-suc place at

is_first : (front : List Reading) (block : Reading) (rest : List Reading) (n : List ℕ) → is_among n block.names ≡ true
    → is_owner (front ++ block ∷ rest) n (length front) ≡ not (is_among n (names_in front))
is_first [] block rest n e = rw e refl
is_first (f ∷ front) block rest n e =
    let all = list_any-append n f.names (names_in front) in
    elim (cases_Bool (is_among n f.names)) [
      | inl here ↦ rw here (eqb-zero-suc (length front) ∙ sym (ap not (all ∙ ap (λ (b : Bool). b || is_among n (names_in front)) here)))
      | inr off ↦ rw off (later_owner (length front) (owner (front ++ block ∷ rest) n) ∙ is_first front block rest n e
          ∙ sym (ap not (all ∙ ap (λ (b : Bool). b || is_among n (names_in front)) off)))
    ]

-- ---- the names of all blocks

own_once : (front : List (List ℕ)) (block : List ℕ) (rest : List (List ℕ))
    → own_names (readings (front ++ block ∷ rest)) (length front) (reading_of_text block).names
    ≡ distinct_after (lookup_names front) (reading_of_text block).names
own_once front block rest =
    let names = (reading_of_text block).names in
    let cut = map-append reading_of_text front (block ∷ rest) in
    let whole = readings front ++ reading_of_text block ∷ readings rest in
    kept_names (λ n. is_owner (readings (front ++ block ∷ rest)) n (length front)) (lookup_names front) [] names (λ n e.
    ap (λ (all : List Reading). is_owner all n (length front)) cut
    ∙ ap (λ (at : ℕ). is_owner whole n at) (sym (length-map front reading_of_text))
    ∙ is_first (readings front) (reading_of_text block) (readings rest) n e)
    ∙ ap (λ (t : List (List ℕ)). distinct_after t names) (append-nil (lookup_names front))

front_more : (front : List (List ℕ)) (block : List ℕ) → lookup_names (front ++ block ∷ []) ≡ lookup_names front ++ (reading_of_text block).names
front_more front block =
    ap names_in (map-append reading_of_text front (block ∷ []))
    ∙ flat_map-append (λ (block : Reading). block.names) (readings front) (reading_of_text block ∷ [])
    ∙ ap (λ (t : List (List ℕ)). lookup_names front ++ t) (append-nil (reading_of_text block).names)

all_once : (front rest : List (List ℕ)) → names_from (front ++ rest) (length front) rest ≡ distinct_after (lookup_names front) (lookup_names rest)
all_once front [] = refl
all_once front (block ∷ rest) =
    let names = (reading_of_text block).names in
    let next = front ++ block ∷ [] in
    let at : suc (length front) ≡ length next = omega (arith, length-append front (block ∷ [])) in
    let later : names_from (front ++ block ∷ rest) (suc (length front)) rest ≡ distinct_after (lookup_names front ++ names) (lookup_names rest) =
    ap (λ (all : List (List ℕ)). names_from all (suc (length front)) rest) (sym (append_assoc front (block ∷ []) rest))
    ∙ ap (λ (k : ℕ). names_from (next ++ rest) k rest) at
    ∙ all_once next rest
    ∙ ap (λ (t : List (List ℕ)). distinct_after t (lookup_names rest)) (front_more front block) in
    ap (λ (t : List (List ℕ)). t ++ names_from (front ++ block ∷ rest) (suc (length front)) rest) (own_once front block rest)
    ∙ ap (λ (t : List (List ℕ)). distinct_after (lookup_names front) names ++ t) later
    ∙ sym (distinct_more (lookup_names front) names (lookup_names rest))

-- ---- those that a test keeps

kept_here : (p : List ℕ → Bool) (x : List ℕ) (b : Bool) → p x ≡ true → filter p (cond b [] (x ∷ [])) ≡ cond b [] (x ∷ [])
kept_here p x true e = refl
kept_here p x false e = rw e refl

left_here : (p : List ℕ → Bool) (x : List ℕ) (b : Bool) → p x ≡ false → filter p (cond b [] (x ∷ [])) ≡ []
left_here p x true e = refl
left_here p x false e = rw e refl

-- a name that is kept is none that is left
apart : (p : List ℕ → Bool) (n x : List ℕ) → p n ≡ true → p x ≡ false → bytes_eq n x ≡ false
apart p n x kept left =
    elim (cases_Bool (bytes_eq n x)) [
      | inl same ↦ let is : n ≡ x = (bytes_eq-Decides n x).0 same in let clash : true ≡ false = sym kept ∙ ap p is ∙ left in absurd cc
      | inr off ↦ off
    ]

more_seen : (n x : List ℕ) (before seen : List (List ℕ)) → is_among n before ≡ is_among n seen → is_among n (before ++ x ∷ []) ≡ is_among n (seen ++ x ∷ [])
more_seen n x before seen e = list_any-append n before (x ∷ []) ∙ ap (λ (b : Bool). b || is_among n (x ∷ [])) e ∙ sym (list_any-append n seen (x ∷ []))

or_none : (b c : Bool) → c ≡ false → (b || (c || false)) ≡ b
or_none true c e = refl
or_none false c e = rw e refl

left_seen : (n x : List ℕ) (before seen : List (List ℕ)) → bytes_eq n x ≡ false → is_among n before ≡ is_among n seen
    → is_among n (before ++ x ∷ []) ≡ is_among n seen
left_seen n x before seen off e = list_any-append n before (x ∷ []) ∙ or_none (is_among n before) (bytes_eq n x) off ∙ e

kept_once : (p : List ℕ → Bool) (before seen names : List (List ℕ)) → ((n : List ℕ) → p n ≡ true → is_among n before ≡ is_among n seen)
    → filter p (distinct_after before names) ≡ distinct_after seen (filter p names)
kept_once p before seen [] h = refl
kept_once p before seen (x ∷ xs) h =
    let here : List (List ℕ) = cond (is_among x before) [] (x ∷ []) in
    let later = distinct_after (before ++ x ∷ []) xs in
    elim (cases_Bool (p x)) [
      | inl kept ↦ filter-append p here later
          ∙ ap (λ (t : List (List ℕ)). t ++ filter p later) (kept_here p x (is_among x before) kept)
          ∙ ap (λ (t : List (List ℕ)). here ++ t) (kept_once p (before ++ x ∷ []) (seen ++ x ∷ []) xs (λ n e. more_seen n x before seen (h n e)))
          ∙ ap (λ (b : Bool). cond b [] (x ∷ []) ++ distinct_after (seen ++ x ∷ []) (filter p xs)) (h x kept)
          ∙ ap (λ (b : Bool). distinct_after seen (cond b (x ∷ filter p xs) (filter p xs))) (sym kept)
      | inr left ↦ filter-append p here later
          ∙ ap (λ (t : List (List ℕ)). t ++ filter p later) (left_here p x (is_among x before) left)
          ∙ kept_once p (before ++ x ∷ []) seen xs (λ n e. left_seen n x before seen (apart p n x e left) (h n e))
          ∙ ap (λ (b : Bool). distinct_after seen (cond b (x ∷ filter p xs) (filter p xs))) (sym left)
    ]

pub names_once : DistinctHasEachOnce → NamesAreOfferedOnce
names_once each blocks =
    let named = lookup_names blocks in
    let offered : offered_names blocks ≡ distinct_after [] (filter can_be_given named) =
    ap (filter can_be_given) (all_once [] blocks) ∙ kept_once can_be_given [] [] named (λ n e. refl) in
    subst (λ (names : List (List ℕ)). IsDistinctOf (filter can_be_given named) names) (sym offered) (each (filter can_be_given named))
