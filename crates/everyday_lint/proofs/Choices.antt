-- Which fixes of a text are made, and what of it they change.
use Rattle.std.proofs.Common.{◌≡◌, ◌⊎◌, ℕ, ◌+◌, ◌-◌, ◌<◌, ◌≤◌, true, List, [], ◌∷◌, ◌++◌, append_assoc, drop, length, map, refl, sym, ap, ◌∙◌, inl, inr, arith}
use Rattle.std.specs.Prelude.{All, Contains, nat_le}
use Rattle.std.specs.List.{AllPairs, slice_range}
use Rattle.std.proofs.lemmas.Bool.{and_cases, and_parts, cases_Bool, leb-false, leb-true}
use Rattle.std.proofs.lemmas.List.{drop-drop, take-append-drop}
use Rattle.std.proofs.lemmas.List.Elements.{All-cons}
use Rattle.std.proofs.lemmas.List.Kept.{AllPairs-cons}
use Rattle.ti_caps.proofs.Table.{Contains-cons}
use Rattle.source_keeping.specs.Keeping.{stays_in_line}
use Rattle.everyday_lint.specs.Laws.{AreAmong, FixesAreMade, FixesChangeNothingElse, IsInTheWay, given_by, taken_by, woven}
use Rattle.everyday_lint.specs.Fixing.{begins, ends, is_made, made, fixed_text}
use Rattle.everyday_lint.specs.Offers.{OfferSeen}

-- ---- what they change

-- the parts of a text from an offset on that fixes leave
parts_from : List ℕ → ℕ → List OfferSeen → List (List ℕ)
parts_from text at [] = drop at text ∷ []
parts_from text at (fix ∷ fixes) = slice_range text at (begins text fix) ∷ parts_from text (ends text fix) fixes

each_part : (text : List ℕ) (at : ℕ) (fixes : List OfferSeen) → length (parts_from text at fixes) ≡ length fixes + 1
unfolding parts_from
each_part text at [] = refl
each_part text at (fix ∷ fixes) = let rest = each_part text (ends text fix) fixes in omega (arith, rest)

parts_after : (text : List ℕ) (at : ℕ) (fixes : List OfferSeen) → woven (parts_from text at fixes) (map given_by fixes) ≡ fixed_text text at fixes
unfolding parts_from
parts_after text at [] = refl
parts_after text at (fix ∷ fixes) =
    ap (λ (t : List ℕ). slice_range text at (begins text fix) ++ fix.fix.text ++ t) (parts_after text (ends text fix) fixes)

-- a part of a text, and what is after it
part_and_rest : (text : List ℕ) (from to : ℕ) → from ≤ to → slice_range text from to ++ drop to text ≡ drop from text
part_and_rest text from to forward =
    ap (λ (n : ℕ). slice_range text from to ++ drop n text) (omega (arith, forward))
    ∙ ap (λ (t : List ℕ). slice_range text from to ++ t) (sym (drop-drop (to - from) from text)) ∙ take-append-drop (to - from) (drop from text)

parts_before : (text : List ℕ) (at : ℕ) (offers : List OfferSeen)
    → woven (parts_from text at (made text at offers)) (map (taken_by text) (made text at offers)) ≡ drop at text
unfolding parts_from
parts_before text at [] = refl
parts_before text at (offer ∷ offers) =
    elim (cases_Bool (is_made text at offer)) [
      | inl t ↦
          let start = begins text offer in
          let end = ends text offer in
          let after : at ≤ start = leb-true at start (and_parts (nat_le at start) (stays_in_line text start end offer.fix.text) t).0 in
          let forward : start ≤ end = omega arith in
          let rest = parts_before text end offers in
          rw t (
          ap (λ (more : List ℕ). slice_range text at start ++ slice_range text start end ++ more) rest
          ∙ append_assoc (slice_range text at start) (slice_range text start end) (drop end text)
          ∙ ap (λ (more : List ℕ). slice_range text at start ++ more) (part_and_rest text start end forward)
          ∙ part_and_rest text at start after
          )
      | inr f ↦ rw f (parts_before text at offers)
    ]

pub change_nothing_else : FixesChangeNothingElse
change_nothing_else text offers =
    let fixes = made text 0 offers in
    record {
      parts = parts_from text 0 fixes;
      each = each_part text 0 fixes;
      before = parts_before text 0 offers;
      after = parts_after text 0 fixes;
    }

-- ---- which are made

among : (text : List ℕ) (at : ℕ) (offers : List OfferSeen) → AreAmong (made text at offers) offers
among text at [] = refl
among text at (offer ∷ offers) =
    elim (cases_Bool (is_made text at offer)) [
      | inl t ↦ rw t (inr (made text (ends text offer) offers, refl, among text (ends text offer) offers))
      | inr f ↦ rw f (inl (among text at offers))
    ]

begin_after : (text : List ℕ) (at : ℕ) (offers : List OfferSeen) → All (λ fix. at ≤ begins text fix) (made text at offers)
begin_after text at [] = λ k d within. absurd (omega (arith, within))
begin_after text at (offer ∷ offers) =
    elim (cases_Bool (is_made text at offer)) [
      | inl t ↦
          let start = begins text offer in
          let end = ends text offer in
          let after : at ≤ start = leb-true at start (and_parts (nat_le at start) (stays_in_line text start end offer.fix.text) t).0 in
          let later = begin_after text end offers in
          rw t (All-cons (λ fix. at ≤ begins text fix) offer (made text end offers) after
          (λ k d within. let further = later k d within in omega (arith, after, further)))
      | inr f ↦ rw f (begin_after text at offers)
    ]

apart : (text : List ℕ) (at : ℕ) (offers : List OfferSeen) → AllPairs (λ one other. ends text one ≤ begins text other) (made text at offers)
apart text at [] = λ i j d before within. absurd (omega (arith, within))
apart text at (offer ∷ offers) =
    elim (cases_Bool (is_made text at offer)) [
      | inl t ↦
          let end = ends text offer in
          rw t (AllPairs-cons (λ one other. ends text one ≤ begins text other) offer (made text end offers) (begin_after text end offers) (apart text end offers))
      | inr f ↦ rw f (apart text at offers)
    ]

in_lines : (text : List ℕ) (at : ℕ) (offers : List OfferSeen)
    → All (λ fix. stays_in_line text (begins text fix) (ends text fix) fix.fix.text ≡ true) (made text at offers)
in_lines text at [] = λ k d within. absurd (omega (arith, within))
in_lines text at (offer ∷ offers) =
    elim (cases_Bool (is_made text at offer)) [
      | inl t ↦
          let start = begins text offer in
          let end = ends text offer in
          let stays = (and_parts (nat_le at start) (stays_in_line text start end offer.fix.text) t).1 in
          rw t (All-cons (λ fix. stays_in_line text (begins text fix) (ends text fix) fix.fix.text ≡ true) offer (made text end offers) stays
          (in_lines text end offers))
      | inr f ↦ rw f (in_lines text at offers)
    ]

-- a fix that is one of these, or not with them, if the one before them ends at an offset
abbrev IsPlaced : List ℕ → ℕ → List OfferSeen → OfferSeen → Type 0
IsPlaced text at fixes offer = Contains fixes offer ⊎ (begins text offer < at) ⊎ IsInTheWay text fixes offer

one_more : (text : List ℕ) (at : ℕ) (first : OfferSeen) (fixes : List OfferSeen) (offer : OfferSeen) → IsPlaced text (ends text first) fixes offer
    → IsPlaced text at (first ∷ fixes) offer
one_more text at first fixes offer (inl is) = inl (Contains-cons first fixes offer is)
one_more text at first fixes offer (inr (inl early)) = inr (inr (inr (first, (0, omega arith, refl), early)))
one_more text at first fixes offer (inr (inr (inl outside))) = inr (inr (inl outside))
one_more text at first fixes offer (inr (inr (inr (fix, is, early)))) = inr (inr (inr (fix, Contains-cons first fixes fix is, early)))

placed : (text : List ℕ) (at : ℕ) (offers : List OfferSeen) → All (IsPlaced text at (made text at offers)) offers
placed text at [] = λ k d within. absurd (omega (arith, within))
placed text at (offer ∷ offers) =
    let start = begins text offer in
    let end = ends text offer in
    elim (cases_Bool (is_made text at offer)) [
      | inl t ↦
          let fixes = made text end offers in
          let later = placed text end offers in
          rw t (All-cons (IsPlaced text at (offer ∷ fixes)) offer offers (inl (0, omega arith, refl))
          (λ k d within. one_more text at offer fixes _ (later k d within)))
      | inr f ↦
          let first : IsPlaced text at (made text at offers) offer =
          elim (and_cases (nat_le at start) (stays_in_line text start end offer.fix.text) f) [
            | inl early ↦ inr (inl (leb-false at start early))
            | inr outside ↦ inr (inr (inl outside))
          ] in
          rw f (All-cons (IsPlaced text at (made text at offers)) offer offers first (placed text at offers))
    ]

none_before : (text : List ℕ) (fixes : List OfferSeen) (offer : OfferSeen) → IsPlaced text 0 fixes offer → Contains fixes offer ⊎ IsInTheWay text fixes offer
none_before text fixes offer (inl is) = inl is
none_before text fixes offer (inr (inl early)) = absurd (omega (arith, early))
none_before text fixes offer (inr (inr way)) = inr way

pub are_made : FixesAreMade
are_made text offers =
    let fixes = made text 0 offers in
    record {
      among = among text 0 offers;
      apart = apart text 0 offers;
      in_lines = in_lines text 0 offers;
      others = λ k d within. none_before text fixes _ (placed text 0 offers k d within);
    }
