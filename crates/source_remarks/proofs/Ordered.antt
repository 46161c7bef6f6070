-- The order of the remarks on a source.
use Rattle.std.proofs.Common.{◌≡◌, ◌⊎◌, ℕ, ◌<◌, ◌≤◌, Bool, true, false, cond, eqb, ltb, List, [], ◌∷◌, ◌++◌, map}
use Rattle.std.proofs.Common.{◌∙◌, refl, sym, ap, subst, inl, inr, arith}
use Rattle.std.proofs.lemmas.Bool.{cases_Bool, eq-eqb, eqb-false, eqb-true, le-ltb, ltb-false, ltb-true, ne_eqb}
use Rattle.source_types.specs.declared.places.Position.{Position}
use Rattle.source_remarks.specs.Hints.{SeenHint}
use Rattle.source_remarks.specs.Laws.{AreInOrder, NoneBefore, RemarksAreInOrder}
use Rattle.source_remarks.specs.Remarks.{SeenRemark, seen_fault, seen_hint, following, is_before, leading, range_of, with_hints}

-- ---- places, each by its line and its column

abbrev before : ℕ → ℕ → ℕ → ℕ → Bool
before l c m d = cond (eqb l m) (ltb c d) (ltb l m)

abbrev Less : ℕ → ℕ → ℕ → ℕ → Type 0
Less l c m d = (l < m) ⊎ ((l ≡ m) × (c < d))

abbrev NotLess : ℕ → ℕ → ℕ → ℕ → Type 0
NotLess l c m d = (m < l) ⊎ ((l ≡ m) × (d ≤ c))

less : (l c m d : ℕ) → before l c m d ≡ true → Less l c m d
less l c m d e = elim (cases_Bool (eqb l m)) [
  | inl same ↦ inr (eqb-true l m same, ltb-true c d (sym (ap (λ (b : Bool). cond b (ltb c d) (ltb l m)) same) ∙ e))
  | inr other ↦ inl (ltb-true l m (sym (ap (λ (b : Bool). cond b (ltb c d) (ltb l m)) other) ∙ e))
]

not_less : (l c m d : ℕ) → before l c m d ≡ false → NotLess l c m d
not_less l c m d e = elim (cases_Bool (eqb l m)) [
  | inl same ↦ inr (eqb-true l m same, ltb-false c d (sym (ap (λ (b : Bool). cond b (ltb c d) (ltb l m)) same) ∙ e))
  | inr other ↦
      let most : m ≤ l = ltb-false l m (sym (ap (λ (b : Bool). cond b (ltb c d) (ltb l m)) other) ∙ e) in
      let apart = eqb-false l m other in inl (omega (arith, most, apart))
]

is_not : (l c m d : ℕ) → NotLess l c m d → before l c m d ≡ false
is_not l c m d h = elim h [
  | inl more ↦
      ap (λ (b : Bool). cond b (ltb c d) (ltb l m)) (ne_eqb l m (λ (same : l ≡ m). omega (arith, same, more))) ∙ le-ltb l m (omega (arith, more))
  | inr most ↦ ap (λ (b : Bool). cond b (ltb c d) (ltb l m)) (eq-eqb l m most.0) ∙ le-ltb c d most.1
]

-- no place is before itself
apart : (p : Position) → is_before p p ≡ false
apart p = is_not p.line p.column p.line p.column (inr (refl, omega arith))

-- what is not before a place is not before what is before that
pass : (p q r : Position) → is_before p q ≡ true → is_before r q ≡ false → is_before r p ≡ false
pass p q r one other = is_not r.line r.column p.line p.column
    (elim (less p.line p.column q.line q.column one) [
      | inl lines ↦ elim (not_less r.line r.column q.line q.column other) [
        | inl more ↦ inl (omega (arith, lines, more))
        | inr most ↦ inl (omega (arith, lines, most.0))
      ]
      | inr columns ↦ elim (not_less r.line r.column q.line q.column other) [
        | inl more ↦ inl (omega (arith, columns.0, more))
        | inr most ↦ inr (omega (arith, columns.0, most.0), omega (arith, columns.1, most.1))
      ]
    ])

-- what is not before a place is not before what that is not before
climb : (p q r : Position) → is_before q p ≡ false → is_before r q ≡ false → is_before r p ≡ false
climb p q r one other = is_not r.line r.column p.line p.column
    (elim (not_less q.line q.column p.line p.column one) [
      | inl lines ↦ elim (not_less r.line r.column q.line q.column other) [
        | inl more ↦ inl (omega (arith, lines, more))
        | inr most ↦ inl (omega (arith, lines, most.0))
      ]
      | inr columns ↦ elim (not_less r.line r.column q.line q.column other) [
        | inl more ↦ inl (omega (arith, columns.0, more))
        | inr most ↦ inr (omega (arith, columns.0, most.0), omega (arith, columns.1, most.1))
      ]
    ])

-- ---- none before a place

none_append : (place : Position) (some more : List SeenRemark) → NoneBefore place some → NoneBefore place more → NoneBefore place (some ++ more)
none_append place [] more none rest = rest
none_append place (remark ∷ some) more none rest = (none.0, none_append place some more none.1 rest)

none_pass : (place other : Position) (remarks : List SeenRemark) → is_before place other ≡ true → NoneBefore other remarks → NoneBefore place remarks
none_pass place other [] is none = tt
none_pass place other (remark ∷ remarks) is none = (pass place other (range_of remark).start is none.0, none_pass place other remarks is none.1)

none_climb : (place other : Position) (remarks : List SeenRemark) → is_before other place ≡ false → NoneBefore other remarks → NoneBefore place remarks
none_climb place other [] is none = tt
none_climb place other (remark ∷ remarks) is none = (climb place other (range_of remark).start is none.0, none_climb place other remarks is none.1)

none_leading : (place end : Position) (hints : List SeenHint) → NoneBefore place (map seen_hint hints)
    → NoneBefore place (map seen_hint (leading end hints))
none_leading place end [] none = tt
none_leading place end (hint ∷ hints) none =
    elim (is_before hint.range.start end) as (λ b. NoneBefore place (map seen_hint (cond b (hint ∷ leading end hints) []))) [
      | true ↦ (none.0, none_leading place end hints none.1)
      | false ↦ tt
    ]

none_following : (place end : Position) (hints : List SeenHint) → NoneBefore place (map seen_hint hints)
    → NoneBefore place (map seen_hint (following end hints))
none_following place end [] none = tt
none_following place end (hint ∷ hints) none =
    elim (is_before hint.range.start end) as (λ b. NoneBefore place (map seen_hint (cond b (following end hints) (hint ∷ hints)))) [
      | true ↦ none_following place end hints none.1
      | false ↦ none
    ]

none_with : (place : Position) (remarks : List SeenRemark) (hints : List SeenHint) → NoneBefore place remarks → NoneBefore place (map seen_hint hints)
    → NoneBefore place (with_hints remarks hints)
none_with place [] hints none more = more
none_with place (remark ∷ remarks) hints none more =
    let end = (range_of remark).start in
    none_append place (map seen_hint (leading end hints)) (remark ∷ with_hints remarks (following end hints)) (none_leading place end hints more)
    (none.0, none_with place remarks (following end hints) none.1 (none_following place end hints more))

-- ---- the hints in order

rest_in_order : (end : Position) (hints : List SeenHint) → AreInOrder (map seen_hint hints) → AreInOrder (map seen_hint (following end hints))
rest_in_order end [] order = tt
rest_in_order end (hint ∷ hints) order =
    elim (is_before hint.range.start end) as (λ b. AreInOrder (map seen_hint (cond b (following end hints) (hint ∷ hints)))) [
      | true ↦ rest_in_order end hints order.1
      | false ↦ order
    ]

none_of_rest : (end : Position) (hints : List SeenHint) → AreInOrder (map seen_hint hints) → NoneBefore end (map seen_hint (following end hints))
none_of_rest end [] order = tt
none_of_rest end (hint ∷ hints) order = elim (cases_Bool (is_before hint.range.start end)) [
  | inl is ↦
      subst (λ (b : Bool). NoneBefore end (map seen_hint (cond b (following end hints) (hint ∷ hints)))) (sym is) (none_of_rest end hints order.1)
  | inr is ↦
      subst (λ (b : Bool). NoneBefore end (map seen_hint (cond b (following end hints) (hint ∷ hints)))) (sym is)
      (is, none_climb end hint.range.start (map seen_hint hints) is order.0)
]

-- the hints before a place, and then remarks of which none is before it
front_in_order : (end : Position) (hints : List SeenHint) (remarks : List SeenRemark) → AreInOrder (map seen_hint hints) → NoneBefore end remarks
    → AreInOrder remarks → AreInOrder (map seen_hint (leading end hints) ++ remarks)
front_in_order end [] remarks order none rest = rest
front_in_order end (hint ∷ hints) remarks order none rest = elim (cases_Bool (is_before hint.range.start end)) [
  | inl is ↦
      subst (λ (b : Bool). AreInOrder (map seen_hint (cond b (hint ∷ leading end hints) []) ++ remarks)) (sym is) (
        none_append hint.range.start (map seen_hint (leading end hints)) remarks (none_leading hint.range.start end hints order.0)
            (none_pass hint.range.start end remarks is none),
        front_in_order end hints remarks order.1 none rest,
      )
  | inr is ↦ subst (λ (b : Bool). AreInOrder (map seen_hint (cond b (hint ∷ leading end hints) []) ++ remarks)) (sym is) rest
]

-- ---- all together

with_in_order : (remarks : List SeenRemark) (hints : List SeenHint) → AreInOrder remarks → AreInOrder (map seen_hint hints)
    → AreInOrder (with_hints remarks hints)
with_in_order [] hints order more = more
with_in_order (remark ∷ remarks) hints order more =
    let end = (range_of remark).start in
    let rest = following end hints in
    let none : NoneBefore end (with_hints remarks rest) = none_with end remarks rest order.0 (none_of_rest end hints more) in
    front_in_order end hints (remark ∷ with_hints remarks rest) more (apart end, none)
    (none, with_in_order remarks rest order.1 (rest_in_order end hints more))

pub are_in_order : RemarksAreInOrder
are_in_order faults hints first blocks file =
    with_in_order (with_hints (map seen_fault faults) hints.blocks) hints.file (with_in_order (map seen_fault faults) hints.blocks first blocks) file
