-- What is reached by bytes, and the parts of texts.
use Rattle.std.proofs.Common.{◌≡◌, ℕ, ◌==◌, ◌&&◌, not, Bool, true, false, List, [], ◌∷◌, ◌++◌, refl, sym, ap, subst, ◌∙◌, inl, inr, ◌⊎◌}
use Rattle.std.proofs.lemmas.Bool.{cases_Bool, true≢false, false≢true}
use Rattle.ti_text.specs.WhiteSpace.{is_white_space}
use Rattle.source_format.specs.Pieces.{with_first_byte}
use Rattle.source_kept_lines.specs.Parts.{after, after_byte, by_byte, by_taken, ends, is_between, is_gap, parts}
use Rattle.source_kept_lines.specs.declared.parts.Reached.{Reached}
use Rattle.source_kept_lines.specs.declared.parts.Reached.TheVariants.{Backslash, Caret, Item, Names, NoItem, Percent}

-- ---- a byte is white space before an item, or ends a part, or is within one

pub record IsGap (r : Reached) (x : ℕ) : Type 0 where
  pub gap : is_gap r x ≡ true
  pub before : r ≡ NoItem
  pub after : after_byte r x ≡ NoItem

pub record IsEnd (r : Reached) (x : ℕ) : Type 0 where
  pub gap : is_gap r x ≡ false
  pub end : ends r x ≡ true
  pub after : after_byte r x ≡ NoItem

pub record IsWithin (r : Reached) (x : ℕ) : Type 0 where
  pub gap : is_gap r x ≡ false
  pub end : ends r x ≡ false
  pub after : is_between (after_byte r x) ≡ false

abbrev pub Step : Reached → ℕ → Type 0
Step r x = IsGap r x ⊎ (IsEnd r x ⊎ IsWithin r x)

within_byte : (percent : Bool) (x : ℕ) → (x == 44) ≡ false → is_between (by_byte percent x) ≡ false
within_byte percent x f =
    elim (cases_Bool (x == 92)) [
      | inl a ↦ rw (f, a) refl
      | inr b ↦ elim (cases_Bool (x == 94 && not percent)) [
        | inl c ↦ rw (f, b, c) refl
        | inr d ↦ elim (cases_Bool (x == 37)) [ inl e ↦ rw (f, b, d, e) refl | inr g ↦ rw (f, b, d, g) refl ]
      ]
    ]

within_taken : (x : ℕ) → is_between (by_taken x) ≡ false
within_taken x = elim (cases_Bool (x == 37)) [ inl t ↦ rw t refl | inr f ↦ rw f refl ]

pub step_of : (r : Reached) (x : ℕ) → Step r x
step_of Names x =
    elim (cases_Bool (x == 44)) [
      | inl t ↦ inr (inl (record { gap = refl; end = t; after = rw t refl }))
      | inr f ↦ inr (inr (record { gap = refl; end = f; after = rw f refl }))
    ]
step_of NoItem x =
    elim (cases_Bool (is_white_space x)) [
      | inl w ↦ inl (record { gap = w; before = refl; after = rw w refl })
      | inr v ↦ elim (cases_Bool (x == 44)) [
        | inl t ↦ inr (inl (record { gap = v; end = t; after = rw (v, t) refl }))
        | inr f ↦ inr (inr (record { gap = v; end = f; after = rw v (within_byte false x f) }))
      ]
    ]
step_of Item x =
    elim (cases_Bool (x == 44)) [
      | inl t ↦ inr (inl (record { gap = refl; end = t; after = rw t refl }))
      | inr f ↦ inr (inr (record { gap = refl; end = f; after = within_byte false x f }))
    ]
step_of Percent x =
    elim (cases_Bool (x == 44)) [
      | inl t ↦ inr (inl (record { gap = refl; end = t; after = rw t refl }))
      | inr f ↦ inr (inr (record { gap = refl; end = f; after = within_byte true x f }))
    ]
step_of Backslash x = inr (inr (record { gap = refl; end = refl; after = within_taken x }))
step_of Caret x =
    elim (cases_Bool (x == 44)) [
      | inl t ↦ inr (inl (record { gap = refl; end = t; after = rw t refl }))
      | inr f ↦ inr (inr (record { gap = refl; end = f; after = rw f (within_taken x) }))
    ]

-- nothing is white space before an item within one
pub no_gap : (r : Reached) (x : ℕ) → is_between r ≡ false → is_gap r x ≡ false
no_gap Names x b = refl
no_gap NoItem x b = absurd (true≢false b)
no_gap Item x b = refl
no_gap Percent x b = refl
no_gap Backslash x b = refl
no_gap Caret x b = refl

pub between : (r : Reached) → is_between r ≡ true → r ≡ NoItem
between Names b = absurd (false≢true b)
between NoItem b = refl
between Item b = absurd (false≢true b)
between Percent b = absurd (false≢true b)
between Backslash b = absurd (false≢true b)
between Caret b = absurd (false≢true b)

-- ---- texts one after another

pub after-append : (r : Reached) (s t : List ℕ) → after r (s ++ t) ≡ after (after r s) t
after-append r [] t = refl
after-append r (x ∷ xs) t = after-append (after_byte r x) xs t

-- a part is one by itself
abbrev pub IsPart : Reached → List ℕ → Type 0
IsPart r p = parts r p ≡ p ∷ []

-- Parts follow where no item is begun, each of which begins with no white space; or there is none.
pub data Chain : Reached → List (List ℕ) → Type 0 where
  no_more : (r : Reached) → Chain r []
  one_more : (y : ℕ) (p : List ℕ) (ps : List (List ℕ)) → is_white_space y ≡ false → IsPart NoItem (y ∷ p) → Chain (after NoItem (y ∷ p)) ps
      → Chain NoItem ((y ∷ p) ∷ ps)

-- a first part, and those that follow
pub data Cut : Reached → List (List ℕ) → Type 0 where
  nothing : (r : Reached) → Cut r []
  first_part : (r : Reached) (p : List ℕ) (ps : List (List ℕ)) → IsPart r p → Chain (after r p) ps → Cut r (p ∷ ps)

abbrev FirstVisible : List (List ℕ) → Type 0
FirstVisible [] = Unit {0}
FirstVisible ([] ∷ ps) = ⊥
FirstVisible ((y ∷ p) ∷ ps) = is_white_space y ≡ false

byte_visible : (x : ℕ) (ps : List (List ℕ)) → is_white_space x ≡ false → FirstVisible (with_first_byte x ps)
byte_visible x [] v = v
byte_visible x (p ∷ ps) v = v

visible_at : (r : Reached) (x : ℕ) (xs : List ℕ) → is_white_space x ≡ false → is_gap r x ≡ false → FirstVisible (parts r (x ∷ xs))
visible_at r x xs v g =
    elim (cases_Bool (ends r x)) [
      | inl t ↦ rw (g, t) v
      | inr f ↦ rw (g, f) (byte_visible x (parts (after_byte r x) xs) v)
    ]

first_visible : (s : List ℕ) → FirstVisible (parts NoItem s)
first_visible [] = tt
first_visible (x ∷ xs) = elim (cases_Bool (is_white_space x)) [ inl w ↦ rw w (first_visible xs) | inr v ↦ visible_at NoItem x xs v v ]

chain_from : (r : Reached) (ps : List (List ℕ)) → r ≡ NoItem → Cut r ps → FirstVisible ps → Chain NoItem ps
chain_from r _ same (nothing _) v = no_more NoItem
chain_from r _ same (first_part _ [] ps is chain) v = absurd v
chain_from r _ same (first_part _ (y ∷ p) ps is chain) v =
    one_more y p ps v (subst (λ (q : Reached). IsPart q (y ∷ p)) same is) (subst (λ (q : Reached). Chain (after q (y ∷ p)) ps) same chain)

end_part : (r : Reached) (x : ℕ) → IsEnd r x → IsPart r (x ∷ [])
end_part r x e = rw (e.gap, e.end) refl

byte_first : (r : Reached) (x : ℕ) (ps : List (List ℕ)) → IsWithin r x → Cut (after_byte r x) ps → Cut r (with_first_byte x ps)
byte_first r x _ w (nothing _) = first_part r (x ∷ []) [] (rw (w.gap, w.end) refl) (no_more (after_byte r x))
byte_first r x _ w (first_part _ p ps is chain) = first_part r (x ∷ p) ps (rw (w.gap, w.end) (ap (with_first_byte x) is)) chain

pub cut_of : (r : Reached) (s : List ℕ) → Cut r (parts r s)
cut_of r [] = nothing r
cut_of r (x ∷ xs) =
    elim (step_of r x) [
      | inl g ↦ rw g.gap (subst (λ (q : Reached). Cut q (parts (after_byte r x) xs)) (g.after ∙ sym g.before) (cut_of (after_byte r x) xs))
      | inr (inl e) ↦
          let later : Chain NoItem (parts NoItem xs) = chain_from NoItem (parts NoItem xs) refl (cut_of NoItem xs) (first_visible xs) in
          let here : Chain (after_byte r x) (parts (after_byte r x) xs) = subst (λ (q : Reached). Chain q (parts q xs)) (sym e.after) later in
          rw (e.gap, e.end) (first_part r (x ∷ []) (parts (after_byte r x) xs) (end_part r x e) here)
      | inr (inr w) ↦ rw (w.gap, w.end) (byte_first r x (parts (after_byte r x) xs) w (cut_of (after_byte r x) xs))
    ]

-- a text that is ended has a part
abbrev pub HasPart : List (List ℕ) → Type 0
HasPart ps = (p : List ℕ) × (qs : List (List ℕ)) × (ps ≡ p ∷ qs)

byte_some : (x : ℕ) (ps : List (List ℕ)) → HasPart (with_first_byte x ps)
byte_some x [] = (x ∷ [], [], refl)
byte_some x (p ∷ ps) = (x ∷ p, ps, refl)

ended_some : (r : Reached) (s : List ℕ) → is_between r ≡ false → after r s ≡ NoItem → HasPart (parts r s)
ended_some r [] b e = absurd (true≢false (ap is_between (sym e) ∙ b))
ended_some r (x ∷ xs) b e =
    let none_here = no_gap r x b in
    elim (cases_Bool (ends r x)) [
      | inl t ↦ rw (none_here, t) (x ∷ [], parts (after_byte r x) xs, refl)
      | inr f ↦ rw (none_here, f) (byte_some x (parts (after_byte r x) xs))
    ]

byte_over : (x : ℕ) (ps qs : List (List ℕ)) → HasPart ps → with_first_byte x (ps ++ qs) ≡ with_first_byte x ps ++ qs
byte_over x [] qs some = let bad : [] ≡ some.0 ∷ some.1 = some.2 in cc
byte_over x (p ∷ ps) qs some = refl

-- the parts of a text that is ended, and of what comes after it
pub parts_over : (r : Reached) (s t : List ℕ) → after r s ≡ NoItem → parts r (s ++ t) ≡ parts r s ++ parts NoItem t
parts_over r [] t e = ap (λ (q : Reached). parts q t) e
parts_over r (x ∷ xs) t e =
    let later = parts_over (after_byte r x) xs t e in
    elim (step_of r x) [
      | inl g ↦ rw g.gap later
      | inr (inl d) ↦ rw (d.gap, d.end) (ap (λ (ps : List (List ℕ)). (x ∷ []) ∷ ps) later)
      | inr (inr w) ↦ rw (w.gap, w.end) (ap (with_first_byte x) later
          ∙ byte_over x (parts (after_byte r x) xs) (parts NoItem t) (ended_some (after_byte r x) xs w.after e))
    ]

-- the first part of a text that begins with no white space before an item
pub part_first : (r : Reached) (x : ℕ) (xs : List ℕ) → is_gap r x ≡ false → (p : List ℕ) × (ps : List (List ℕ)) × (parts r (x ∷ xs) ≡ (x ∷ p) ∷ ps)
part_first r x xs g =
    elim (cases_Bool (ends r x)) [
      | inl t ↦ rw (g, t) ([], parts (after_byte r x) xs, refl)
      | inr f ↦ rw (g, f) (byte_on x (parts (after_byte r x) xs))
    ]
  where
    byte_on : (x : ℕ) (ps : List (List ℕ)) → (p : List ℕ) × (qs : List (List ℕ)) × (with_first_byte x ps ≡ (x ∷ p) ∷ qs)
    byte_on x [] = ([], [], refl)
    byte_on x (p ∷ ps) = (p, ps, refl)

-- ---- what is reached by parts

abbrev pub after_all : Reached → List (List ℕ) → Reached
after_all r [] = r
after_all r (p ∷ ps) = after_all (after r p) ps

all_byte : (r : Reached) (x : ℕ) (ps : List (List ℕ)) → after_all r (with_first_byte x ps) ≡ after_all (after_byte r x) ps
all_byte r x [] = refl
all_byte r x (p ∷ ps) = refl

pub after_parts : (r : Reached) (s : List ℕ) → after_all r (parts r s) ≡ after r s
after_parts r [] = refl
after_parts r (x ∷ xs) =
    let later = after_parts (after_byte r x) xs in
    elim (step_of r x) [
      | inl g ↦ rw g.gap (ap (λ (q : Reached). after_all q (parts (after_byte r x) xs)) (g.before ∙ sym g.after) ∙ later)
      | inr (inl e) ↦ rw (e.gap, e.end) later
      | inr (inr w) ↦ rw (w.gap, w.end) (all_byte r x (parts (after_byte r x) xs) ∙ later)
    ]
